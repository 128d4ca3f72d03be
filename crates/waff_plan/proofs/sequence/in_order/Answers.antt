use Rattle.std.proofs.Common.{◌≡◌, ◌+◌, ◌-◌, ℕ, List, map, false, arith, refl, sym, ◌∙◌, ap, subst}
use Rattle.std.specs.List.{range_with_len}
use Rattle.waff_model.specs.Versions.{has_clients}
use Rattle.waff_plan.specs.ByStart.{AreByStart, started_of}
use Rattle.waff_plan.specs.Timetable.{starts_in, work_in}
use Rattle.waff_plan.specs.declared.sequence.Started.{Started}
use Rattle.waff_plan.proofs.ApartLaws.{numbers_by_start}
use Rattle.waff_plan.proofs.StartedLinks.{numbers_key, starts_key}
use Rattle.waff_plan.proofs.sequence.in_order.Goals as goal

pub returns-else-has_clients : goal.returns-else-has_clients
returns-else-has_clients c =
    let plan = c.args.plan.now in
    let work = work_in plan in
    let numbers : List Started = map (started_of (λ m. m)) (range_with_len 1 work.count) in
    let without : has_clients plan.version ≡ false = ap has_clients (sym c.version.ensures) ∙ sym c.has_clients.ensures ∙ c.if-has_clients.false in
    let last : work.count + 1 - 1 ≡ work.count = omega arith in
    record {
      order = subst (λ (key : ℕ → ℕ). AreByStart work key numbers) (sym (numbers_key plan.version (starts_in plan) without))
          (numbers_by_start work (work.count + 1) numbers refl (rw last refl));
    }

pub returns-in_ok-by_start : goal.returns-in_ok-by_start
returns-in_ok-by_start c =
    let plan = c.args.plan.now in
    let has = ap has_clients (sym c.version.ensures) ∙ sym c.has_clients.ensures ∙ c.if-has_clients.true in
    record {
      order = subst (λ (key : ℕ → ℕ). AreByStart (work_in plan) key c.in_ok-by_start.field-0.items) (sym (starts_key plan.version (starts_in plan) has)) c.in_ok-by_start.ensures;
    }

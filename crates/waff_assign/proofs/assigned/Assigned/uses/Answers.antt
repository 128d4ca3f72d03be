use Rattle.std.proofs.Common.{◌≡◌, ◌-◌, ◌<◌, length, arith, sym, ◌∙◌, ap, ap₂, vec_len}
use Rattle.std.proofs.lemmas.Bool.{eqb-true}
use Rattle.std.proofs.lemmas.Grind.{common_steps}
use Rattle.waff_assign.specs.Held.{Held, nothing}
use Rattle.waff_assign.specs.Order.{held_of, uses_at}
use Rattle.waff_assign.proofs.Helds.{helds_count, helds_at, uses_at_none}
use Rattle.waff_assign.proofs.assigned.Assigned.uses.Goals as goal

pub returns-then-is_empty : goal.returns-then-is_empty
returns-then-is_empty c =
    let inside = c.self.inside in
    let index = c.args.n - 1 in
    let many : length c.args.self.now ≡ length inside.affinities.items = ap length (sym c.self.view_is) ∙ helds_count inside.affinities.items inside.uses.items inside.ends.items in
    let short : vec_len inside.ends ≡ 0 = eqb-true (vec_len inside.ends) 0 (sym c.is_empty.ensures ∙ c.if-is_empty.true) in
    let none : length inside.ends.items ≡ 0 = omega arith in
    sym (uses_at_none inside.uses.items inside.ends.items index (c.self.invariant.1.none none))
    ∙ ap (λ (h : Held). h.uses) (sym (helds_at inside.affinities.items inside.uses.items inside.ends.items index nothing (omega arith)))
    ∙ ap (λ assigned. (held_of assigned c.args.n).uses) c.self.view_is

pub uses_at-requires : goal.uses_at-requires
uses_at-requires c =
    let inside = c.self.inside in
    let index = c.args.n - 1 in
    let many : length c.args.self.now ≡ length inside.affinities.items = ap length (sym c.self.view_is) ∙ helds_count inside.affinities.items inside.uses.items inside.ends.items in
    let some : 0 < length inside.ends.items = grind (arith, common_steps) in
    let short : index < length inside.ends.items = omega (arith, c.self.invariant.1.each) in
    rw (c.deref.ensures.value, c.deref-2.ensures.value) (record {
      listed = short;
      rising = c.self.invariant.1.rising index short;
      within = c.self.invariant.1.within index short;
    })

pub returns : goal.returns
returns c =
    let inside = c.self.inside in
    let index = c.args.n - 1 in
    let many : length c.args.self.now ≡ length inside.affinities.items = ap length (sym c.self.view_is) ∙ helds_count inside.affinities.items inside.uses.items inside.ends.items in
    c.uses_at.ensures
    ∙ ap₂ (λ uses ends. uses_at uses ends index) c.deref.ensures.value c.deref-2.ensures.value
    ∙ ap (λ (h : Held). h.uses) (sym (helds_at inside.affinities.items inside.uses.items inside.ends.items index nothing (omega arith)))
    ∙ ap (λ assigned. (held_of assigned c.args.n).uses) c.self.view_is

use Rattle.std.proofs.Common.{◌≡◌, ◌≤◌, ℕ, Bool, nat_lt, if◌then◌else◌, ◌-◌, inl, inr, arith, ap, ◌∙◌}
use Rattle.std.proofs.lemmas.Bool.{cases_Bool}
use Rattle.std.proofs.lemmas.List.{take_all}
use Rattle.waff_line.specs.declared.turn.Turn.{Turn}
use Rattle.waff_record.specs.Drift.{short_turns}
use Rattle.waff_record.proofs.Drifting.{short_more}
use Rattle.waff_record.proofs.drift.short_turns.Goals as goal

-- one or none
at_most_one : (b : Bool) (one : ℕ) → one ≡ (if b then 1 else 0) → one ≤ 1
at_most_one b one is = elim (cases_Bool b) [
  | inl is_yes ↦ omega (arith, is ∙ ap (λ (x : Bool). if x then 1 else 0) is_yes)
  | inr is_no ↦ omega (arith, is ∙ ap (λ (x : Bool). if x then 1 else 0) is_no)
]

pub loop-at-preserved : goal.loop-at-preserved
loop-at-preserved c =
    let turn_is = c.turn_in-turn.ensures in
    let one_is = c.one_if_short-one.ensures ∙ ap (λ (turn : Turn). if nat_lt (turn.finish - turn.start) c.args.tick then 1 else 0) turn_is in
    let more = short_more c.args.tick c.args.turns.now c.loop-at.at c.one_if_short-one.result c.loop-at-test.true one_is in
    let most = at_most_one _ c.one_if_short-one.result c.one_if_short-one.ensures in
    record {
      short_is = omega (arith, more, c.loop-at.invariant.short_is);
      few = omega (arith, most, c.loop-at.invariant.few);
    }

pub overflow_add-short : goal.overflow_add-short
overflow_add-short c =
    let most = at_most_one _ c.one_if_short-one.result c.one_if_short-one.ensures in
    omega (arith, most, c.loop-at.invariant.few, c.loop-at-test.true)

pub returns : goal.returns
returns c = c.loop-at.invariant.short_is ∙ ap (short_turns c.args.tick) (take_all c.loop-at.at c.args.turns.now (omega (arith, c.loop-at-test.false)))

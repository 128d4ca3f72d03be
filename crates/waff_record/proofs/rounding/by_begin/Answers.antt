use Rattle.std.proofs.Common.{◌≡◌, ℕ, List, length, map, sym, ◌∙◌, subst}
use Rattle.std.proofs.lemmas.List.{length-map}
use Rattle.std.proofs.lemmas.Result.{IfOk-weaker}
use Rattle.waff_plan.specs.ByStart.{AreByStart}
use Rattle.waff_plan.specs.Timing.{start_of}
use Rattle.waff_line.specs.declared.turn.Turn.{Turn}
use Rattle.waff_record.proofs.rounding.by_begin.Goals as goal

pub returns : goal.returns
returns c =
    let turns = c.args.turns.now in
    let ticks = c.as_slice.result.now in
    let same : ticks ≡ map (λ (turn : Turn). turn.start) turns = c.as_slice.ensures.value ∙ c.in_ok-starts.ensures in
    IfOk-weaker c.by_tick.result _ _
    (λ began are work count. subst (λ (xs : List ℕ). AreByStart work (start_of xs) began.items) same
    (are work (subst (λ (xs : List ℕ). work.count ≡ length xs) (sym same) (count ∙ sym (length-map turns (λ (turn : Turn). turn.start))))))
    c.by_tick.ensures

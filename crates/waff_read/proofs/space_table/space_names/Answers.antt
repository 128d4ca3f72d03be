-- Each space has a name that none before it has.
use Rattle.std.proofs.Common.{◌∙◌, ap, arith, ◌++◌, ◌∷◌, [], List, ℕ}
use Rattle.waff_read.proofs.SpaceLemmas.{names_more, no_earlier}
use Rattle.waff_read.proofs.space_table.space_names.Goals as goal

pub push-requires : goal.push-requires
push-requires c =
    rw c.loop-s.invariant
    (no_earlier c.args.layout.now.spaces c.loop-s.s c.space_name.result.now c.space_count-s-end.ensures.layout.different (omega (arith, c.space_count-s-end.ensures.count)) c.space_name.ensures)

pub loop-s-preserved : goal.loop-s-preserved
loop-s-preserved c =
    c.in_ok-push.ensures
    ∙ (ap (λ (names : List (List ℕ)). names ++ c.space_name.result.now ∷ []) c.loop-s.invariant
    ∙ names_more c.args.layout.now.spaces c.loop-s.s c.space_name.result.now (omega (arith, c.space_count-s-end.ensures.count)) c.space_name.ensures)

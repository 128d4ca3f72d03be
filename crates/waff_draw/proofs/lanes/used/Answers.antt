use Rattle.std.proofs.Common.{◌≡◌, ℕ, ◌+◌, ◌<◌, length, get_or, arith, sym, ◌∙◌, ap, subst}
use Rattle.std.proofs.lemmas.Result.{IfOk-weaker}
use Rattle.waff_draw.specs.Lanes.{affinities_of, is_among}
use Rattle.waff_draw.proofs.LaneLemmas.{numbers_are, numbers_known}
use Rattle.waff_draw.proofs.lanes.used.Goals as goal

pub marks-requires : goal.marks-requires
marks-requires c =
    let assigned = c.args.case.now.assigned.now in
    subst (λ ns. (k d : ℕ) → k < length ns → get_or ns k d < c.len-none.result + 1) (sym (c.as_slice.ensures.value ∙ c.in_ok-affinities.ensures))
    (numbers_known c.args.case.now.tree.now assigned c.len-none.result c.len-none.ensures.count c.args.case.now.known)

pub returns-clause-each : goal.returns-clause-each
returns-clause-each c =
    let tree = c.args.case.now.tree.now in
    let assigned = c.args.case.now.assigned.now in
    let numbers : c.as_slice.result.now ≡ affinities_of tree assigned
    = c.as_slice.ensures.value ∙ c.in_ok-affinities.ensures ∙ numbers_are tree assigned c.len-none.result c.len-none.ensures.count in
    IfOk-weaker c.marks.result _ _
    (λ marks each a low. each a (omega (arith, low, c.len-none.ensures.count)) ∙ ap (λ ns. is_among ns a) numbers)
    c.marks.ensures.each

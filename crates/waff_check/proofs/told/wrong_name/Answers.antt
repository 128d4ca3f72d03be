-- No earlier message has a wrong name.
use Rattle.std.proofs.Common.{arith, sym, ap, ◌∙◌}
use Rattle.waff_check.proofs.TextLaws.{agree, differ}
use Rattle.waff_check.proofs.FirstLaws.{below-more, least-first, none-of}
use Rattle.waff_check.proofs.told.wrong_name.Goals as goal

pub loop-n-init : goal.loop-n-init
loop-n-init c = λ m lt h. let e = h.number.from in omega arith

pub returns-then-ne : goal.returns-then-ne
returns-then-ne c =
    least-first _ _ c.loop-n.invariant (record { number = record { from = omega arith; to = omega (arith, c.len-n-end.ensures.count) }; wrong = λ e. differ _ _ c.if-ne.ensures (c.as_str.ensures ∙ ap (λ row. row.affinity) c.row.ensures.row ∙ e ∙ sym c.affinity_name.ensures) })

pub loop-n-preserved : goal.loop-n-preserved
loop-n-preserved c = below-more _ _ c.loop-n.invariant (λ h. h.wrong (sym (c.as_str.ensures ∙ ap (λ row. row.affinity) c.row.ensures.row) ∙ agree _ _ c.if-ne.ensures ∙ c.affinity_name.ensures))

pub returns : goal.returns
returns c = none-of _ _ c.loop-n.invariant (λ m le h. let e = h.number.to in omega (arith, c.len-n-end.ensures.count))

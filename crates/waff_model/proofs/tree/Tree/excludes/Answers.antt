use Rattle.std.proofs.Common.{inl, inr}
use Rattle.waff_model.proofs.tree.Tree.excludes.Goals as goal

pub returns-then-at_or_above : goal.returns-then-at_or_above
returns-then-at_or_above c = (λ yes. inl (c.at_or_above.ensures.answer.0 yes), λ either. c.if-at_or_above.true)

pub returns-else-at_or_above : goal.returns-else-at_or_above
returns-else-at_or_above c = (
  λ yes. inr (c.at_or_above-else-at_or_above.ensures.answer.0 yes),
  λ either. elim either [
    | inl above ↦ let yes = c.at_or_above.ensures.answer.1 above in cc
    | inr below ↦ c.at_or_above-else-at_or_above.ensures.answer.1 below
  ],
)

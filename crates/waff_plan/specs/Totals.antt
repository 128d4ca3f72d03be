-- What the summary of a plan tells (own).
use Rattle.std.specs.Prelude.{ℕ, ◌+◌, List, Option, Some, None}
use Rattle.waff_plan.specs.Bound.{left_side, right_side}
use Rattle.waff_plan.specs.Chain.{chain_cost, chain_release}
use Rattle.waff_plan.specs.Work.{Work, length_of, total_of}
use Rattle.waff_plan.specs.declared.totals.Totals.{Totals}

-- the two numbers that a summary compares. The left one is that of the bound for k workers, and
-- without workers the length
abbrev pub left_of : Option ℕ → Work → (ℕ → ℕ) → ℕ
left_of None work start = length_of work start
left_of (Some k) work start = left_side work k start

-- the right one is that of the bound for k workers, and without workers the release plus the cost
-- of the chain
abbrev pub right_of : Option ℕ → Work → List ℕ → ℕ
right_of None work chain = chain_release work chain + chain_cost work chain
right_of (Some k) work chain = right_side work k chain

-- the totals of a plan with a chain of its messages
abbrev pub totals_of : Option ℕ → Work → (ℕ → ℕ) → List ℕ → Totals
totals_of workers work start chain = record {
  total = total_of work;
  length = length_of work start;
  release = chain_release work chain;
  cost = chain_cost work chain;
  left = left_of workers work start;
  right = right_of workers work chain;
}

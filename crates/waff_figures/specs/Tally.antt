-- What is told of some of the messages.
use Rattle.std.specs.Prelude.{ℕ, ◌-◌, ◌==◌, Bool, List, if◌then◌else◌, count_by, slice_index}
use Rattle.std.specs.Prelude.{sum_by}
use Rattle.waff_plan.specs.Work.{Work, numbers}
use Rattle.waff_figures.specs.declared.tally.Tally.{Tally}

-- the sum of the costs of those of the messages that are meant
abbrev pub cost_among : Work → (ℕ → Bool) → List ℕ → ℕ
cost_among work is_meant messages = sum_by (λ m. if is_meant m then work.cost m else 0) messages

-- of those of the messages that are meant: how many there are, the sum of their costs, and that of
-- those on a chain
abbrev pub tally_over : Work → (ℕ → Bool) → List ℕ → List ℕ → Tally
tally_over work is_meant messages chain = record {
  messages = count_by is_meant messages;
  cost = cost_among work is_meant messages;
  chain = cost_among work is_meant chain;
}

-- the same of all messages
abbrev pub tally_of : Work → List ℕ → (ℕ → Bool) → Tally
tally_of work chain is_meant = tally_over work is_meant (numbers work) chain

-- whether message m is in the group g, by a list of groups in the order of arrival
abbrev pub is_in : List ℕ → ℕ → ℕ → Bool
is_in groups g m = slice_index groups (m - 1) == g

-- of no message
abbrev pub no_tally : Tally
no_tally = record { messages = 0; cost = 0; chain = 0 }

-- Whether of messages one after another the later start when the earlier have finished.
use Rattle.std.specs.Prelude.{ℕ, ◌<◌, ◌≤◌, List, length}
use Rattle.waff_model.specs.Tree.{Node}
use Rattle.waff_plan.specs.ByStart.{started_at}
use Rattle.waff_plan.specs.Work.{Work, finish_of}
use Rattle.waff_plan.specs.declared.ordered.Pairs.{Pairs}
use Rattle.waff_plan.specs.declared.sequence.Started.{Started}
use Rattle.waff_assign.specs.Held.{ExcludeEachOther, Held}
use Rattle.waff_assign.specs.Order.{held_of}

-- the messages at places p and q are one of these pairs, and exclude each other
pub record IsPair (tree : List Node) (assigned : List Held) (sequence : List Started) (pairs : Pairs)
    (p q : ℕ) : Type 0 where
  pub before : p < q
  pub within : q < length sequence
  pub from : pairs.from ≤ (started_at sequence p).number
  pub to : (started_at sequence p).number ≤ pairs.to
  pub last : (started_at sequence q).number ≤ pairs.last
  pub excludes : ExcludeEachOther tree (held_of assigned (started_at sequence p).number)
      (held_of assigned (started_at sequence q).number)

-- of each of these pairs the later message starts only when the earlier one has finished
abbrev pub KeepsPairs : List Node → List Held → Work → (ℕ → ℕ) → List Started → Pairs → Type 0
KeepsPairs tree assigned work start sequence pairs =
    (p q : ℕ) → IsPair tree assigned sequence pairs p q
    → finish_of work start (started_at sequence p).number ≤ start (started_at sequence q).number

-- Work to be done: messages numbered from 1, each with its cost in ticks and its floor, the tick before
-- which it may not start. A message may await others, as the one before it of its client: it is issued
-- when each of them has finished and a gap has gone by. A plan is a map from the number of a message to
-- its start tick.
use Rattle.std.specs.Prelude.{◌≡◌, ℕ, ◌+◌, ◌==◌, ◌⊎◌, max, List, [], ◌∷◌, map, sum_by}
use Rattle.std.specs.Prelude.{if◌then◌else◌}
use Rattle.std.specs.List.{range_with_len}
pub use Rattle.waff_model.specs.Numbers.{IsAmongFirst}
pub use Rattle.waff_model.specs.declared.awaits.Await.{Await}

-- message i is one of those that are awaited
abbrev pub IsAwaited : List Await → ℕ → Type 0
IsAwaited [] i = ⊥
IsAwaited (a ∷ rest) i = (a.message ≡ i) ⊎ IsAwaited rest i

-- how many messages there are; how many ticks each runs, and the tick before which it may not start
-- whatever the others do; and those that it awaits
pub record Work : Type 0 where
  pub count : ℕ
  pub cost : ℕ → ℕ
  pub floor : ℕ → ℕ
  pub awaits : ℕ → List Await

-- m is the number of a message
abbrev pub IsNumber : Work → ℕ → Type 0
IsNumber work m = IsAmongFirst work.count m

-- the numbers of all messages, in the order of arrival
abbrev pub numbers : Work → List ℕ
numbers work = range_with_len 1 work.count

-- the tick at which a message that runs from its start for its cost has finished
abbrev pub finish_of : Work → (ℕ → ℕ) → ℕ → ℕ
finish_of work start m = start m + work.cost m

-- the issue of a message with this floor that awaits these, where messages finish at these ticks
abbrev pub issue_after : (ℕ → ℕ) → ℕ → List Await → ℕ
issue_after finish floor [] = floor
issue_after finish floor (a ∷ rest) =
    max (finish a.message + a.gap) (issue_after finish floor rest)

-- the tick at which message m is issued: its floor, or where that is later the latest finish of a
-- message that it awaits, with its gap
abbrev pub issue_of : Work → (ℕ → ℕ) → ℕ → ℕ
issue_of work start m = issue_after (finish_of work start) (work.floor m) (work.awaits m)

-- the greatest gap with which message i is awaited, 0 where it is not
abbrev pub gap_after : ℕ → List Await → ℕ
gap_after i [] = 0
gap_after i (a ∷ rest) = max (if a.message == i then a.gap else 0) (gap_after i rest)

-- the gap between messages i and m: how many ticks after the finish of i message m may start
abbrev pub gap_of : Work → ℕ → ℕ → ℕ
gap_of work i m = gap_after i (work.awaits m)

-- the tick until which message i holds back message m
abbrev pub holds_until : Work → (ℕ → ℕ) → ℕ → ℕ → ℕ
holds_until work start m i = finish_of work start i + gap_of work i m

-- the greatest number of a list, 0 where it is empty
abbrev pub greatest : List ℕ → ℕ
greatest [] = 0
greatest (x ∷ xs) = max x (greatest xs)

-- the length of a plan: the greatest finish, 0 for no message
abbrev pub length_of : Work → (ℕ → ℕ) → ℕ
length_of work start = greatest (map (finish_of work start) (numbers work))

-- the total: the sum of all costs
abbrev pub total_of : Work → ℕ
total_of work = sum_by work.cost (numbers work)

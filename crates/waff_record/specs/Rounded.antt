-- What is told of the turns of a run, whose times are nanoseconds: their rounding to ticks.
use Rattle.std.specs.Prelude.{◌≡◌, ◌⊎◌, ℕ, ◌+◌, ◌/◌, ◌<◌, ◌≤◌, max, List}
use Rattle.waff_assign.specs.Held.{ExcludeEachOther}
use Rattle.waff_assign.specs.Order.{held_of}
use Rattle.waff_plan.specs.Work.{Work, IsAmongFirst, IsNumber, finish_of, issue_of}
use Rattle.waff_line.specs.Machine.{Course}
use Rattle.waff_line.specs.declared.turn.Turn.{Turn}
use Rattle.waff_record.specs.Turns.{turn_at}

-- message i goes before message m: it began first, and they exclude each other, or ran on one worker
pub record GoesBefore (course : Course) (turns : List Turn) (i m : ℕ) : Type 0 where
  pub number : IsAmongFirst course.work.count i
  pub sooner : (turn_at turns i).start < (turn_at turns m).start
  pub held : ExcludeEachOther course.tree (held_of course.assigned i) (held_of course.assigned m)
      ⊎ ((turn_at turns i).worker ≡ (turn_at turns m).worker)

-- message m may be told to start at tick t: that is not before the tick in which it began, nor before it is issued and
-- those that go before it have finished, by what is told
pub record MayStart (course : Course) (tick : ℕ) (turns : List Turn) (work : Work) (start : ℕ → ℕ) (m t : ℕ)
    : Type 0 where
  pub begun : (turn_at turns m).start / tick ≤ t
  pub issued : issue_of work start m ≤ t
  pub after : (i : ℕ) → GoesBefore course turns i m → finish_of work start i ≤ t

-- what is told of message m: it starts at the first tick at which it may, and finishes in the tick in which it ended, but
-- at least a tick after its start
pub record IsTold (course : Course) (tick : ℕ) (turns : List Turn) (work : Work) (start : ℕ → ℕ) (m : ℕ)
    : Type 0 where
  pub may : MayStart course tick turns work start m (start m)
  pub least : (t : ℕ) → MayStart course tick turns work start m t → start m ≤ t
  pub finish : finish_of work start m ≡ max ((turn_at turns m).finish / tick) (start m + 1)

-- work is other work with other costs
pub record HasOtherCosts (work other : Work) : Type 0 where
  pub count : other.count ≡ work.count
  pub floor : (m : ℕ) → other.floor m ≡ work.floor m
  pub awaits : (m : ℕ) → other.awaits m ≡ work.awaits m

-- the rounding of turns, whose ticks are so many nanoseconds: the work, with the costs that are told, and the starts
pub record IsRounded (course : Course) (ticks : Work) (tick : ℕ) (turns : List Turn) (work : Work) (start : ℕ → ℕ)
    : Type 0 where
  pub work_is : HasOtherCosts ticks work
  pub told : (m : ℕ) → IsNumber work m → IsTold course tick turns work start m

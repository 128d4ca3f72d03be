-- The timings and the starts of a trace's messages, as lists in the order of arrival.
use Rattle.std.specs.Prelude.{◌≡◌, ℕ, zero, suc, ◌+◌, ◌-◌, ◌^◌, ◌<◌, ◌≤◌, List, [], ◌∷◌, ◌++◌, length, All}
use Rattle.std.specs.Prelude.{slice_index, slice_index_or}
use Rattle.waff_model.specs.declared.limits.TheConstants.{MAX_COST, MAX_RELEASE, MAX_THINK}
use Rattle.waff_plan.specs.Obeys.{AwaitsEarlier}
use Rattle.waff_plan.specs.Work.{Await, IsAmongFirst, IsAwaited, Work}
use Rattle.waff_plan.specs.declared.timing.Timing.{Timing}
use Rattle.waff_plan.specs.declared.timing.Awaited.{Awaited}
use Rattle.waff_plan.specs.declared.timing.Awaited.TheVariants.{Client, Every}

-- of no message
abbrev pub no_timing : Timing
no_timing = record { cost = 0; floor = 0; follows = 0; think = 0; after = [] }

-- a timing within the limits of messages
pub record IsTiming (timing : Timing) : Type 0 where
  pub some_cost : 1 ≤ timing.cost
  pub cost : timing.cost ≤ MAX_COST
  pub floor : timing.floor ≤ MAX_RELEASE
  pub think : timing.think ≤ MAX_THINK
  pub gaps : All (λ a. a.gap ≤ MAX_THINK) timing.after

-- the timing of message n, from 1
abbrev pub timing_of : List Timing → ℕ → Timing
timing_of timings n = slice_index_or timings (n - 1) no_timing

-- what a message awaits that follows the one with this number, 0 for none, after this think time
abbrev pub await_of : ℕ → ℕ → List Await
await_of zero think = []
await_of (suc n) think = record { message = suc n; gap = think } ∷ []

-- what a message awaits by its client alone, or besides by its list
abbrev pub awaits_by : Awaited → Timing → List Await
awaits_by Client timing = await_of timing.follows timing.think
awaits_by Every timing = await_of timing.follows timing.think ++ timing.after

-- the work of messages with these timings, of which each awaits the one before it of its client, or besides
-- those of its list
abbrev pub work_by : Awaited → List Timing → Work
work_by awaited timings = record {
  count = length timings;
  cost = λ m. (timing_of timings m).cost;
  floor = λ m. (timing_of timings m).floor;
  awaits = λ m. awaits_by awaited (timing_of timings m);
}

-- their work, of which each awaits all that it has to
abbrev pub work_of : List Timing → Work
work_of timings = work_by Every timings

-- the same by clients alone
abbrev pub client_work_of : List Timing → Work
client_work_of timings = work_by Client timings

-- the start of message n, from 1
abbrev pub start_of : List ℕ → ℕ → ℕ
start_of starts n = slice_index starts (n - 1)

-- message m is one of those with these timings, and all that it awaits starts early enough
pub record HasIssue (timings : List Timing) (starts : List ℕ) (m : ℕ) : Type 0 where
  pub number : IsAmongFirst (length timings) m
  pub small : All IsTiming timings
  pub count : length starts ≡ length timings
  pub earlier : AwaitsEarlier (work_of timings)
  pub early : (i : ℕ) → IsAwaited ((work_of timings).awaits m) i → start_of starts i + 2 ^ 33 < 2 ^ 64

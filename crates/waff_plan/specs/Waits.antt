-- What the messages of a plan waited for, since their releases or since their issues.
use Rattle.std.specs.Prelude.{ℕ, ◌-◌, ◌≤◌, List, Option, None, slice_index_or}
use Rattle.waff_assign.specs.Order.{Relation}
use Rattle.waff_plan.specs.Links.{IsLink, held_by, link_of}
use Rattle.waff_plan.specs.Waited.{IsWaitedFor}
use Rattle.waff_plan.specs.Work.{Work, finish_of, issue_of}
use Rattle.waff_plan.specs.declared.latest.Latest.{Latest}
use Rattle.waff_plan.specs.declared.waits.Since.{Since}
use Rattle.waff_plan.specs.declared.waits.Since.TheVariants.{Release, Issue}

-- the message that m waited for: since its release its link, since its issue what it does not await
abbrev pub IsWait : Since → Relation → Work → (ℕ → ℕ) → ℕ → Option ℕ → Type 0
IsWait Release before work start m wait = IsLink before work start m wait
IsWait Issue before work start m wait = IsWaitedFor before work start m wait

-- the same, where this is the latest of those before m that exclude it
abbrev pub wait_of : Since → Work → (ℕ → ℕ) → ℕ → Option Latest → Option ℕ
wait_of Release work start m latest =
    link_of (held_by (finish_of work start) latest (work.awaits m)) (work.floor m)
wait_of Issue work start m latest = link_of latest (issue_of work start m)

-- those that the first n messages waited for
abbrev pub AreWaits : Since → Relation → Work → (ℕ → ℕ) → ℕ → List (Option ℕ) → Type 0
AreWaits since before work start n waits =
    (m : ℕ) → 1 ≤ m → m ≤ n
    → IsWait since before work start m (slice_index_or waits (m - 1) None)

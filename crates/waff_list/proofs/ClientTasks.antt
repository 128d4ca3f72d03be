-- What is known of a task: its messages await earlier ones, and costs, releases and gaps are within their limits.
use Rattle.std.proofs.Common.{◌≡◌, ℕ, ◌+◌, ◌^◌, ◌<◌, ◌≤◌, ◌⊎◌, inl, inr, List, length, arith}
use Rattle.waff_plan.specs.Timing.{HasIssue, start_of, work_of}
use Rattle.waff_plan.specs.Work.{Work, IsNumber, issue_of}
use Rattle.waff_plan.proofs.Holding.{awaited-le-issue}
use Rattle.waff_list.specs.Progress.{IsSmall}
use Rattle.waff_plan.specs.declared.due.TheConstants.{NEVER}
use Rattle.waff_list.specs.declared.task.Task.{Task}
use Rattle.waff_list.proofs.TraceWork.{small_timings}

module _ (task : Task) where
  abbrev pub work : Work
  work = work_of task.timings.items

  pub small_of : IsSmall work
  small_of = small_timings task.timings.items task.small

  -- where the issue of a message is known, it can be told
  pub has_issue : (starts : List ℕ) (now m : ℕ) → length starts ≡ work.count → now + 2 ^ 33 < NEVER → ((i : ℕ) → IsNumber work i → (start_of starts i ≤ now) ⊎ (start_of starts i ≡ NEVER))
      → IsNumber work m → issue_of work (start_of starts) m < NEVER → HasIssue task.timings.items starts m
  has_issue starts now m count short placed number known = record {
    number = record { from = number.from; to = number.to };
    small = task.small;
    count = count;
    earlier = task.earlier;
    early = λ i is.
        let earlier = task.earlier i m is in
        let after = awaited-le-issue work (start_of starts) i m is in
        elim (placed i (record { from = earlier.from; to = omega (arith, earlier.earlier, earlier.to) })) [
          | inl begun ↦ omega (arith, begun, short)
          | inr never ↦ absurd (omega (arith, never, after, known))
        ];
  }

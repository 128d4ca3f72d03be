-- The two lower bounds on the length of a plan for k workers.
use Rattle.std.proofs.Common.{ℕ, ◌+◌, ◌*◌, ◌<◌, ◌≤◌, inl, inr, arith}
use Rattle.std.proofs.Math.Nat.{mul-le-mul_right}
use Rattle.std.proofs.lemmas.Bool.{cases_lt}
use Rattle.std.proofs.lemmas.Grind.{div_ceil_times}
use Rattle.waff_plan.specs.Work.{Work, length_of, total_of}
use Rattle.waff_plan.specs.Laws.{NoneIsShorter, share_of}
use Rattle.waff_plan.proofs.Chains.{least_is_shortest}
use Rattle.waff_plan.proofs.Ticks.{total_is_within_workers}

-- k workers that do the work in this many ticks have a share each of no more ticks
pub share_is_within : (k total length : ℕ) → 1 ≤ k → total ≤ k * length → share_of total k ≤ length
share_is_within k total length some within =
    let below : share_of total k * k < total + k = (div_ceil_times total k (omega (arith, some))).1 in
    elim (cases_lt length (share_of total k)) [
      | inl more ↦
          let whole : (length + 1) * k ≤ share_of total k * k = mul-le-mul_right k (omega (arith, more)) in
          absurd (omega (arith, below, whole, within))
      | inr done ↦ done
    ]

pub none_is_shorter : (before : ℕ → ℕ → Type 0) (work : Work) → NoneIsShorter before work
none_is_shorter before work k start other some least plan =
    let shortest : length_of work start ≤ length_of work other = least_is_shortest before work start other least plan.obeys in
    let share = share_is_within k (total_of work) (length_of work other) some (total_is_within_workers before work k other plan) in
    omega (arith, shortest, share)

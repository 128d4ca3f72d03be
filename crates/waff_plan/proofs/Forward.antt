-- The ordered pairs of a trace go forward, where a message awaits only earlier ones.
use Rattle.std.proofs.Common.{◌≡◌, ℕ, List, length, inl, inr, subst, ◌<◌, ◌≤◌, arith}
use Rattle.waff_model.specs.Tree.{Node}
use Rattle.waff_assign.specs.Order.{IsOrdered}
use Rattle.waff_plan.specs.Work.{Work}
use Rattle.waff_plan.specs.Timing.{work_of}
use Rattle.waff_plan.specs.declared.timing.Timing.{Timing}
use Rattle.waff_plan.specs.Obeys.{IsLinked, IsForward, AwaitsEarlier}
use Rattle.waff_assign.specs.Held.{Held}

pub IsOrdered_forward : (tree : List Node) (assigned : List Held) (work : Work) → length assigned ≡ work.count → AwaitsEarlier work
    → IsForward (IsOrdered tree assigned) work
IsOrdered_forward tree assigned work same follows =
    let pair = λ (i m : ℕ) (linked : IsLinked (IsOrdered tree assigned) work i m).
    let is : (1 ≤ i) × ((i < m) × (m ≤ work.count)) = elim linked [
      | inl h ↦ (h.from, (h.earlier, subst (λ n. m ≤ n) same h.to))
      | inr h ↦ let earlier = follows i m h in (earlier.from, (earlier.earlier, earlier.to))
    ] in is in
    record {
      place = λ m. m;
      from = λ m number. number.from;
      to = λ m number. number.to;
      first = λ i m linked. let p = pair i m linked in record { from = p.0; to = omega (arith, p.1.0, p.1.1) };
      second = λ i m linked. let p = pair i m linked in record { from = omega (arith, p.0, p.1.0); to = p.1.1 };
      earlier = λ i m linked. (pair i m linked).1.0;
    }

-- so do those of timings
pub timings_forward : (tree : List Node) (assigned : List Held) (timings : List Timing) → length assigned ≡ length timings
    → AwaitsEarlier (work_of timings) → IsForward (IsOrdered tree assigned) (work_of timings)
timings_forward tree assigned timings same follows = IsOrdered_forward tree assigned (work_of timings) same follows

-- A given plan has one verdict: faults of two kinds exclude each other, and each kind picks the least.
use Rattle.std.proofs.Common.{◌≡◌, ℕ, ◌<◌, ◌≤◌, inl, inr, refl, arith, sym, ap, subst}
use Rattle.std.proofs.lemmas.Bool.{cases_order}
use Rattle.waff_assign.specs.Order.{Relation}
use Rattle.waff_check.specs.Faults.{IsFirstPair, IsLeastOf}
use Rattle.waff_check.specs.Unique.{VerdictIsOne}
use Rattle.waff_check.specs.Verdicts.{Claim, FinishIsWrong, IsFound, IsFreeOf, IsVerdict, LinkIsBroken, NameIsWrong, PairOverlaps, StartIsEarly, StartIsHeld, StartIsUnissued, TickIsCrowded, WorkerIsWrong}
use Rattle.waff_check.specs.Verdicts.{stage}
use Rattle.waff_check.specs.declared.verdict.Verdict.{Verdict}
use Rattle.waff_check.specs.declared.verdict.Verdict.TheVariants as verdict

-- what a verdict tells does not both hold and not hold
found-or-free : (claim : Claim) (v : Verdict) → IsFound claim v → IsFreeOf claim v → ⊥
found-or-free claim (verdict.Overlap first second) found free = free found.least_second.holds
found-or-free claim (verdict.TooManyAt tick) found free = free found.holds
found-or-free claim (verdict.Worker message) found free = free found.holds
found-or-free claim (verdict.Affinity message) found free = free found.holds
found-or-free claim (verdict.Finish message) found free = free found.holds
found-or-free claim (verdict.NotAChain place) found free = found.holds.broken (free found.holds.from found.holds.to)
found-or-free claim (verdict.Early message) found free = free found.holds
found-or-free claim (verdict.Client message) found free = free found.holds
found-or-free claim (verdict.After message awaited) found free = free found.least_second.holds
found-or-free claim verdict.Totals found free = found free
found-or-free claim verdict.Shortest found free = free found
found-or-free claim verdict.Tight found free = free found
found-or-free claim verdict.WithinBound found free = free found
found-or-free claim verdict.Obeys found free = free

not-before : (claim : Claim) (v w : Verdict) → IsVerdict claim v → IsVerdict claim w → stage v < stage w → ⊥
not-before claim v w first second less = found-or-free claim v first.found (second.free v less)

same-stage : (claim : Claim) (v w : Verdict) → IsVerdict claim v → IsVerdict claim w → stage v ≡ stage w
same-stage claim v w first second = elim (cases_order (stage v) (stage w)) [
  | inl same ↦ same
  | inr (inl less) ↦ absurd (not-before claim v w first second less)
  | inr (inr more) ↦ absurd (not-before claim w v second first more)
]

-- the least number is one
one_least : (P : ℕ → Type 0) (n m : ℕ) → IsLeastOf P n → IsLeastOf P m → n ≡ m
one_least P n m first second =
    let below : n ≤ m = first.least m second.holds in
    let above : m ≤ n = second.least n first.holds in
    omega arith

-- the first pair is one
one_first : (Pair : Relation) (i j n m : ℕ) → IsFirstPair Pair i j → IsFirstPair Pair n m → i ≡ n
one_first Pair i j n m one other =
    let below : i ≤ n = one.least_first n m other.least_second.holds in
    let above : n ≤ i = other.least_first i j one.least_second.holds in
    omega arith

one_pair : (Pair : Relation) (i j n m : ℕ) → IsFirstPair Pair i j → IsFirstPair Pair n m → (i ≡ n) × (j ≡ m)
one_pair Pair i j n m one other =
    let first = one_first Pair i j n m one other in (
      first,
      one_least (Pair i) j m one.least_second (subst (λ x. IsLeastOf (Pair x) m) (sym first) other.least_second),
    )

-- of one stage there is one verdict
of-stage : (claim : Claim) (v w : Verdict) → IsFound claim v → IsFound claim w → stage v ≡ stage w → v ≡ w
of-stage claim (verdict.Overlap i j) (verdict.Overlap n m) one other same =
    let e = one_pair (PairOverlaps claim) i j n m one other in cc (e.0, e.1)
of-stage claim (verdict.TooManyAt n) (verdict.TooManyAt m) one other same = ap verdict.TooManyAt (one_least (TickIsCrowded claim) n m one other)
of-stage claim (verdict.Worker n) (verdict.Worker m) one other same = ap verdict.Worker (one_least (WorkerIsWrong claim) n m one other)
of-stage claim (verdict.Affinity n) (verdict.Affinity m) one other same = ap verdict.Affinity (one_least (NameIsWrong claim) n m one other)
of-stage claim (verdict.Finish n) (verdict.Finish m) one other same = ap verdict.Finish (one_least (FinishIsWrong claim) n m one other)
of-stage claim verdict.Totals verdict.Totals one other same = refl
of-stage claim (verdict.NotAChain n) (verdict.NotAChain m) one other same = ap verdict.NotAChain (one_least (LinkIsBroken claim) n m one other)
of-stage claim (verdict.Early n) (verdict.Early m) one other same = ap verdict.Early (one_least (StartIsEarly claim) n m one other)
of-stage claim (verdict.Client n) (verdict.Client m) one other same = ap verdict.Client (one_least (StartIsUnissued claim) n m one other)
of-stage claim (verdict.After i j) (verdict.After n m) one other same =
    let e = one_pair (StartIsHeld claim) i j n m one other in cc (e.0, e.1)
of-stage claim verdict.Shortest verdict.Shortest one other same = refl
of-stage claim verdict.Tight verdict.Tight one other same = refl
of-stage claim verdict.WithinBound verdict.WithinBound one other same = refl
of-stage claim verdict.Obeys verdict.Obeys one other same = refl
of-stage claim _ _ one other same = absurd (omega arith)

pub verdict_is_one : (claim : Claim) → VerdictIsOne claim
verdict_is_one claim one other first second =
    of-stage claim one other first.found second.found (same-stage claim one other first second)

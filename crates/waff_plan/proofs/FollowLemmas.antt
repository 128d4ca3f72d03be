-- What messages await by their clients: each the one before it at most.
use Rattle.std.proofs.Common.{◌≡◌, ◌≢◌, ℕ, zero, suc, ◌-◌, ◌+◌, ◌<◌, ◌≤◌, inl, inr, eqb, max, List, [], ◌∷◌, length, get_or, arith, refl, sym, ◌∙◌, ap, subst}
use Rattle.std.proofs.lemmas.Bool.{cases_eq, cond_both}
use Rattle.std.proofs.lemmas.List.{get_or_read}
use Rattle.waff_plan.specs.Work.{Await, IsAmongFirst, IsAwaited, gap_after, issue_after}
use Rattle.waff_plan.specs.Obeys.{AwaitsEarlier}
use Rattle.waff_plan.specs.Timing.{IsTiming, await_of, awaits_by, no_timing, timing_of, work_by, work_of}
use Rattle.waff_model.specs.declared.limits.TheConstants.{MAX_THINK}
use Rattle.waff_plan.specs.declared.timing.Awaited.{Awaited}
use Rattle.waff_plan.specs.declared.timing.Awaited.TheVariants.{Client, Every}
use Rattle.waff_plan.specs.declared.timing.Timing.{Timing}
use Rattle.waff_plan.proofs.AwaitLemmas.{awaited_left, awaited_right, gap_after-append, gap_within_all, issue_after-append}

-- what follows another awaits that one, and what follows none awaits none
pub awaits_one : (n think : ℕ) → n ≢ 0 → await_of n think ≡ record { message = n; gap = think } ∷ []
awaits_one zero think some = absurd (some refl)
awaits_one (suc n) think some = refl

pub awaits_none : (n think : ℕ) → n ≡ 0 → await_of n think ≡ []
awaits_none n think none = ap (λ k. await_of k think) none

pub awaits_it : (n think : ℕ) → n ≢ 0 → IsAwaited (await_of n think) n
awaits_it n think some = subst (λ awaits. IsAwaited awaits n) (sym (awaits_one n think some)) (inl refl)

-- what is awaited is the one that is followed
pub awaited_is : (n think i : ℕ) → IsAwaited (await_of n think) i → n ≡ i
awaited_is zero think i never = absurd never
awaited_is (suc n) think i (inl same) = same
awaited_is (suc n) think i (inr never) = absurd never

pub awaited_some : (n think i : ℕ) → IsAwaited (await_of n think) i → n ≢ 0
awaited_some zero think i never = absurd never
awaited_some (suc n) think i awaited = λ none. omega (arith, none)

-- the gap after it is the think time, and none is more
pub gap_within : (n think i : ℕ) → gap_after i (await_of n think) ≤ think
gap_within zero think i = omega arith
gap_within (suc n) think i =
    cond_both (eqb (suc n) i) think 0 (λ gap. max gap 0 ≤ think) (λ same. omega arith) (λ other. omega arith)

-- the issue of what follows another, and of what follows none
pub issue_after_one : (finish : ℕ → ℕ) (floor n think : ℕ) → n ≢ 0 → issue_after finish floor (await_of n think) ≡ max floor (finish n + think)
issue_after_one finish floor n think some = ap (issue_after finish floor) (awaits_one n think some) ∙ swap
  where
    swap : max (finish n + think) floor ≡ max floor (finish n + think)
    swap = omega arith

pub issue_after_none : (finish : ℕ → ℕ) (floor n think : ℕ) → n ≡ 0 → issue_after finish floor (await_of n think) ≡ floor
issue_after_none finish floor n think none = ap (issue_after finish floor) (awaits_none n think none)

-- what a message follows comes earlier
pub follows_earlier : (timings : List Timing) → AwaitsEarlier (work_of timings) → (m : ℕ) → 1 ≤ m → (timing_of timings m).follows < m
follows_earlier timings earlier m from = elim (cases_eq (timing_of timings m).follows 0) [
  | inl none ↦ omega (arith, none, from)
  | inr some ↦
      let timing = timing_of timings m in
      (earlier timing.follows m (awaited_left (await_of timing.follows timing.think) timing.after timing.follows (awaits_it timing.follows timing.think some))).earlier
]

-- where none is awaited
pub none_awaited : (awaits : List Await) (i : ℕ) → awaits ≡ [] → IsAwaited awaits i → ⊥
none_awaited awaits i none awaited = subst (λ x. IsAwaited x i) none awaited

-- the timing that is read
pub timing_read : (timings : List Timing) (m : ℕ) (timing : Timing) → IsAmongFirst (length timings) m → timing ≡ get_or timings (m - 1) timing → timing ≡ timing_of timings m
timing_read timings m timing number is = get_or_read timings (m - 1) timing (omega (arith, number.from, number.to)) is no_timing

-- what a message awaits by its client and by its list
module _ (timings : List Timing) (m : ℕ) where
  abbrev timing : Timing
  timing = timing_of timings m

  pub followed_awaited : timing.follows ≢ 0 → IsAwaited ((work_of timings).awaits m) timing.follows
  followed_awaited some =
      awaited_left (await_of timing.follows timing.think) timing.after timing.follows (awaits_it timing.follows timing.think some)

  pub listed_awaited : (i : ℕ) → IsAwaited timing.after i → IsAwaited ((work_of timings).awaits m) i
  listed_awaited i listed = awaited_right (await_of timing.follows timing.think) timing.after i listed

  -- the issue by both
  pub issue_followed : (finish : ℕ → ℕ) (floor : ℕ) → timing.follows ≢ 0
      → issue_after finish floor ((work_of timings).awaits m) ≡ max (issue_after finish floor timing.after) (finish timing.follows + timing.think)
  issue_followed finish floor some =
      issue_after-append finish floor (await_of timing.follows timing.think) timing.after
      ∙ issue_after_one finish (issue_after finish floor timing.after) timing.follows timing.think some

  pub issue_unfollowed : (finish : ℕ → ℕ) (floor : ℕ) → timing.follows ≡ 0
      → issue_after finish floor ((work_of timings).awaits m) ≡ issue_after finish floor timing.after
  issue_unfollowed finish floor none =
      issue_after-append finish floor (await_of timing.follows timing.think) timing.after
      ∙ issue_after_none finish (issue_after finish floor timing.after) timing.follows timing.think none

-- no gap is more than the limit
pub gap_limit : (awaited : Awaited) (timing : Timing) (i : ℕ) → IsTiming timing → gap_after i (awaits_by awaited timing) ≤ MAX_THINK
gap_limit Client timing i is = let within = gap_within timing.follows timing.think i in omega (arith, within, is.think)
gap_limit Every timing i is =
    let within = gap_within timing.follows timing.think i in
    let listed = gap_within_all MAX_THINK i timing.after is.gaps in
    omega (arith, gap_after-append i (await_of timing.follows timing.think) timing.after, within, listed, is.think)

-- what comes earlier of all that is awaited does of the one that is followed
pub earlier_by : (awaited : Awaited) (timings : List Timing) → AwaitsEarlier (work_of timings) → AwaitsEarlier (work_by awaited timings)
earlier_by Client timings earlier i m follows =
    let timing = timing_of timings m in
    let before = earlier i m (awaited_left (await_of timing.follows timing.think) timing.after i follows) in
    record { from = before.from; earlier = before.earlier; to = before.to }
earlier_by Every timings earlier i m awaited = earlier i m awaited

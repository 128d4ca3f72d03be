-- The verdicts on plans that tell what they are.
use Rattle.std.proofs.Common.{◌≡◌, ℕ, ◌+◌, ◌-◌, ◌*◌, ◌<◌, ◌≤◌, ◌⊎◌, inl, inr, Bool, false, true, List, length, map, cond, Option, Some, None, refl, sym, ap, ◌∙◌, arith, subst}
use Rattle.std.specs.Prelude.{nat_le, nat_lt, ◌&&◌}
use Rattle.std.proofs.lemmas.Bool.{cases_eq, cases_lt}
use Rattle.std.proofs.lemmas.Option.{none-some, same_Some}
use Rattle.std.proofs.lemmas.List.{get_or-map}
use Rattle.std.proofs.lemmas.List.FromFn.{get_or-map-range_with_len, length-map-range_with_len}
use Rattle.waff_model.specs.Tree.{Node}
use Rattle.waff_model.specs.Versions.{has_clients}
use Rattle.waff_model.specs.declared.message.Version.{Version}
use Rattle.waff_model.specs.declared.message.Version.TheVariants.{V1, V2, V3, V4}
use Rattle.waff_assign.specs.Instance.{Instance, before_in}
use Rattle.waff_assign.specs.Order.{IsOrdered}
use Rattle.waff_plan.specs.Apart.{AreApart}
use Rattle.waff_plan.specs.Bound.{left_side, right_side}
use Rattle.waff_plan.specs.Chain.{IsChain, chain_cost, chain_release}
use Rattle.waff_plan.specs.IssueLaws.{StartsIssued}
use Rattle.waff_plan.specs.Issues.{IsServedBefore}
use Rattle.waff_plan.specs.Obeys.{AwaitsEarlier, KeepsOrder, Obeys}
use Rattle.waff_plan.specs.Instances.{started_first, work_of_instance}
use Rattle.waff_plan.specs.Serving.{IsStartedBefore, served_before, started_before}
use Rattle.waff_plan.specs.Timetable.{timings_of}
use Rattle.waff_plan.specs.Unique.{AreSame}
use Rattle.waff_plan.specs.Work.{Work, IsNumber, length_of, numbers}
use Rattle.waff_plan.specs.Workers.{running, runs_at}
use Rattle.waff_plan.proofs.ApartLaws.{apart_where_finished, turned}
use Rattle.waff_plan.proofs.Exclusion.{excludes_back}
use Rattle.waff_plan.proofs.IssueOrder.{one_is_issued_first}
use Rattle.waff_plan.proofs.Holding.{same_issue}
use Rattle.waff_plan.proofs.Ticks.{sum_by-numbers-le}
use Rattle.waff_plan.proofs.TimingLemmas.{length-timings_of}
use Rattle.waff_plan.proofs.Uniqueness.{same_length, totals_same}
use Rattle.waff_plan_text.specs.Given.{no_row, row_at}
use Rattle.waff_plan_text.specs.Laws.{row_told}
use Rattle.waff_plan_text.specs.Spelling.{no_worker}
use Rattle.waff_plan_text.specs.declared.row.Row.{Row}
use Rattle.waff_check.specs.Faults.{HasWrongWorker, IsCrowded, IsMisplaced, IsTaken, NoneOf, OverlapsWhere, RunTogether}
use Rattle.waff_check.specs.Promises.{AreOneAtATime}
use Rattle.waff_check.specs.OwnPlans.{IsAccepted, IsFoundShortWhere, OwnPlanIsAccepted, OwnPlanIsShortest, OwnPlanIsWithinBound, claim_told}
use Rattle.waff_check.specs.Shifts.{IsOneOf}
use Rattle.waff_check.specs.Verdicts.{Claim, IsFaultless, IsFound, IsFreeBelow, IsShort, IsShortWhere, KeepsBound, ReachesLength, IsVerdict, chain_in, stage, start_in, version_of, work_of_claim, worker_in, workers_in}
use Rattle.waff_check.specs.declared.verdict.Verdict.TheVariants as verdict
use Rattle.waff_check.proofs.LinkLaws.{chain-linked, chain-of-more}
use Rattle.waff_check.proofs.ListLaws.{none_listed, none_unissued}
use Rattle.waff_check.proofs.OverlapLaws.{overlap_parts}
use Rattle.waff_check.proofs.ServedLaws.{none_early}
use Rattle.waff_assign.specs.Held.{Held}

-- no more run at a tick under the same starts
no_more_run : (work : Work) (start other : ℕ → ℕ) → AreSame work start other → (t : ℕ) → running work start t ≤ running work other t
no_more_run work start other same t =
    sum_by-numbers-le work (λ m. cond (runs_at work start t m) 1 0) (λ m. cond (runs_at work other t m) 1 0)
    (λ m number.
    let equal : cond {A = ℕ} (runs_at work start t m) 1 0 ≡ cond (runs_at work other t m) 1 0 =
    ap (λ s. cond {A = ℕ} (nat_le s t && nat_lt t (s + work.cost m)) 1 0) (same m number) in
    omega arith)

-- messages run together under the same starts
together_too : (work : Work) (start other : ℕ → ℕ) → AreSame work start other → (i j : ℕ) → IsNumber work i → IsNumber work j
    → RunTogether work start i j → RunTogether work other i j
together_too work start other same i j i_number j_number together =
    let runs = λ (m s : ℕ). nat_le s together.0 && nat_lt together.0 (s + work.cost m) in
    (together.0, ap (runs i) (sym (same i i_number)) ∙ together.1, ap (runs j) (sym (same j j_number)) ∙ together.2)

uncrowded : (work : Work) (start : ℕ → ℕ) (workers : Option ℕ) → ((k : ℕ) → workers ≡ Some k → (t : ℕ) → running work start t ≤ k)
    → NoneOf (IsCrowded work start workers)
uncrowded work start None within t crowded = crowded
uncrowded work start (Some k) within t crowded = let few = within k refl t in omega (arith, few, crowded)

-- workers as they are, are right
manned_for : (work : Work) (start : ℕ → ℕ) (worker told : ℕ → Option ℕ) (k n : ℕ) (w : Option ℕ) → told n ≡ w → IsOneOf k w
    → ((i v : ℕ) → IsTaken work start told v n i → told n ≡ Some v → ⊥) → IsMisplaced work start told (Some k) n w → ⊥
manned_for work start worker told k n None is one free wrong = one
manned_for work start worker told k n (Some w) is one free wrong = elim wrong [
  | inl none ↦ let from = one.0 in omega (arith, from, none)
  | inr (inl past) ↦ let to = one.1 in omega (arith, to, past)
  | inr (inr taken) ↦ free taken.0 w taken.1 is
]

right_workers : (work : Work) (start other : ℕ → ℕ) (worker told : ℕ → Option ℕ) (k : ℕ) → AreSame work other start
    → ((n : ℕ) → IsNumber work n → told n ≡ worker n) → AreOneAtATime work start worker k → NoneOf (HasWrongWorker work other told (Some k))
right_workers work start other worker told k same tells manned n wrong =
    let number = wrong.number in
    let to : n ≤ work.count = number.to in
    manned_for work other worker told k n (told n) refl (subst (IsOneOf k) (sym (tells n number)) (manned.each n number))
    (λ i v taken is.
    let earlier : i < n = taken.earlier in
    let i_number : IsNumber work i = record { from = taken.from; to = omega arith } in
    manned.apart i n v i_number number earlier (sym (tells i i_number) ∙ taken.same) (sym (tells n number) ∙ is)
    (together_too work other start same i n i_number number taken.together))
    wrong.wrong

no_workers : (work : Work) (start : ℕ → ℕ) (told : ℕ → Option ℕ) → ((n : ℕ) → IsNumber work n → told n ≡ None)
    → NoneOf (HasWrongWorker work start told None)
no_workers work start told tells n wrong =
    subst (λ w. IsMisplaced work start told None n w) (tells n wrong.number) wrong.wrong

issued_apart : (tree : List Node) (assigned : List Held) (work : Work) (start : ℕ → ℕ) → length assigned ≡ work.count
    → Obeys (IsServedBefore tree assigned work start) work start → AreApart (IsOrdered tree assigned) work start
issued_apart tree assigned work start long obeys i j pair =
    let ordered = pair.ordered in
    let from : 1 ≤ i = ordered.from in
    let earlier : i < j = ordered.earlier in
    let first : IsNumber work i = record { from = from; to = omega (arith, long, earlier, ordered.to) } in
    let second : IsNumber work j = record { from = omega (arith, from, earlier); to = omega (arith, long, ordered.to) } in
    elim (one_is_issued_first work start i j) [
      | inl same ↦ absurd (omega (arith, same, earlier))
      | inr (inl before) ↦
          apart_where_finished work start i j
          (obeys.ordered i j (record { first = first; second = second; precedes = before; excludes = ordered.excludes })) pair.together
      | inr (inr after) ↦
          apart_where_finished work start j i
          (obeys.ordered j i (record { first = second; second = first; precedes = after; excludes = excludes_back tree _ _ ordered.excludes }))
          (turned work start i j pair.together)
    ]

-- what a plan has to keep, by the version of its trace
abbrev KeepsFor : Version → List Node → List Held → Work → (ℕ → ℕ) → Type 0
KeepsFor V1 tree assigned work start = KeepsOrder (IsOrdered tree assigned) work start
KeepsFor V2 tree assigned work start = KeepsOrder (IsOrdered tree assigned) work start
KeepsFor V3 tree assigned work start = AreApart (IsOrdered tree assigned) work start
KeepsFor V4 tree assigned work start = AreApart (IsOrdered tree assigned) work start

-- a plan that obeys the order of its version keeps that
served_keeps : (version : Version) (tree : List Node) (assigned : List Held) (work : Work) (start : ℕ → ℕ) → length assigned ≡ work.count
    → Obeys (served_before version tree assigned work start) work start → KeepsFor version tree assigned work start
served_keeps V1 tree assigned work start long obeys = obeys.ordered
served_keeps V2 tree assigned work start long obeys = obeys.ordered
served_keeps V3 tree assigned work start long obeys = issued_apart tree assigned work start long obeys
served_keeps V4 tree assigned work start long obeys = issued_apart tree assigned work start long obeys

-- and so does one that keeps the order of its chains, and whose messages that exclude each other run at no common tick
started_keeps : (version : Version) (tree : List Node) (assigned : List Held) (work : Work) (start : ℕ → ℕ)
    → KeepsOrder (started_before version tree assigned start) work start → AreApart (IsOrdered tree assigned) work start
    → KeepsFor version tree assigned work start
started_keeps V1 tree assigned work start order apart = order
started_keeps V2 tree assigned work start order apart = order
started_keeps V3 tree assigned work start order apart = apart
started_keeps V4 tree assigned work start order apart = apart

-- under the same starts no pair of such a plan overlaps
none_overlap : (version : Version) (tree : List Node) (assigned : List Held) (work : Work) (start told : ℕ → ℕ)
    → AreSame work told start → KeepsFor version tree assigned work start
    → (i j : ℕ) → IsNumber work i → IsNumber work j → OverlapsWhere (has_clients version) (IsOrdered tree assigned) work told i j → ⊥
none_overlap V1 tree assigned work start told same order i j first second pair =
    omega (arith, same i first, same j second, order i j pair.ordered, pair.early)
none_overlap V2 tree assigned work start told same order i j first second pair =
    omega (arith, same i first, same j second, order i j pair.ordered, pair.early)
none_overlap V3 tree assigned work start told same apart i j first second pair =
    apart i j (record { ordered = pair.ordered; together = together_too work told start same i j first second pair.together })
none_overlap V4 tree assigned work start told same apart i j first second pair =
    apart i j (record { ordered = pair.ordered; together = together_too work told start same i j first second pair.together })

-- messages start in the same order
starts_too : (tree : List Node) (assigned : List Held) (work : Work) (start told : ℕ → ℕ) → length assigned ≡ work.count → AreSame work told start
    → (i j : ℕ) → IsStartedBefore tree assigned start i j → IsStartedBefore tree assigned told i j
starts_too tree assigned work start told long same i j before =
    let one = same i (record { from = before.first.from; to = omega (arith, before.first.to, long) }) in
    let other = same j (record { from = before.second.from; to = omega (arith, before.second.to, long) }) in
    record { first = before.first; second = before.second; precedes = omega (arith, one, other, before.precedes); excludes = before.excludes }

started_too : (version : Version) (tree : List Node) (assigned : List Held) (work : Work) (start told : ℕ → ℕ) → length assigned ≡ work.count
    → AreSame work told start → (i j : ℕ) → started_before version tree assigned start i j → started_before version tree assigned told i j
started_too V1 tree assigned work start told long same i j before = before
started_too V2 tree assigned work start told long same i j before = before
started_too V3 tree assigned work start told long same i j before = starts_too tree assigned work start told long same i j before
started_too V4 tree assigned work start told long same i j before = starts_too tree assigned work start told long same i j before

-- and each message is issued when it starts
issued_too : (work : Work) (start told : ℕ → ℕ) → AwaitsEarlier work → AreSame work told start → StartsIssued work start → StartsIssued work told
issued_too work start told follows same issued m number =
    let again = same_issue work told start m (λ f follow.
    let earlier = follows f m follow in
    same f (record { from = earlier.from; to = omega (arith, earlier.earlier, earlier.to) })) in
    omega (arith, again, same m number, issued m number)

module _ (instance : Instance) (workers : Option ℕ) (start : ℕ → ℕ)
    (worker : ℕ → Option ℕ) (chain : List ℕ) where
  abbrev claim : Claim
  claim = claim_told instance workers start worker chain

  abbrev work : Work
  work = work_of_instance instance

  -- the claim tells the rows
  tells_row : (n : ℕ) → IsNumber work n → row_at claim.plan.rows n ≡ row_told instance.tree instance.assigned work start worker n
  tells_row n number =
      let from : 1 ≤ n = number.from in
      let to : n ≤ work.count = number.to in
      get_or-map-range_with_len (row_told instance.tree instance.assigned work start worker) 1 work.count (n - 1) n no_row (omega arith) (omega arith)

  pub tells_start : AreSame work (start_in claim) start
  tells_start n number =
      let from : 1 ≤ n = number.from in
      let to : n ≤ work.count = number.to in
      get_or-map (λ (row : Row). row.start) (map (row_told instance.tree instance.assigned work start worker) (numbers work)) (n - 1) no_row 0
      (omega (arith, length-map-range_with_len (row_told instance.tree instance.assigned work start worker) 1 work.count))
      ∙ ap (λ (row : Row). row.start) (tells_row n number)

  tells_back : AreSame work start (start_in claim)
  tells_back n number = sym (tells_start n number)

  pub tells_worker : (n : ℕ) → IsNumber work n → worker_in claim.plan n ≡ worker n
  tells_worker n number = ap (λ (row : Row). row.worker) (tells_row n number)

  long : length instance.assigned ≡ length instance.trace.messages → length instance.assigned ≡ work.count
  long count = omega (arith, count, length-timings_of instance.trace.messages)

  issued : AwaitsEarlier work → StartsIssued work start → StartsIssued work (start_in claim)
  issued earlier = issued_too work start (start_in claim) earlier tells_start

  -- a claim of an obeying plan with its chain has no fault
  no_fault : length instance.assigned ≡ length instance.trace.messages → AwaitsEarlier work → StartsIssued work start
      → KeepsFor instance.trace.version instance.tree instance.assigned work start → IsChain (started_first instance start) work chain
      → ((k : ℕ) → workers ≡ Some k → (t : ℕ) → running work start t ≤ k)
      → NoneOf (HasWrongWorker work (start_in claim) (worker_in claim.plan) workers) → IsFaultless claim
  no_fault count earlier starts keeps is_chain within manned (verdict.Overlap i j) less = λ overlap.
      let pair = (overlap_parts (has_clients instance.trace.version) (before_in instance) work (start_in claim) i j overlap).0 in
      let from : 1 ≤ i = pair.from in
      let earlier : i < j = pair.earlier in
      none_overlap instance.trace.version instance.tree instance.assigned work start (start_in claim) tells_start keeps i j
      (record { from = from; to = omega (arith, earlier, pair.to, long count) })
      (record { from = omega (arith, from, earlier); to = omega (arith, pair.to, long count) }) overlap
  no_fault count earlier starts keeps is_chain within manned (verdict.TooManyAt tick) less =
      uncrowded work (start_in claim) workers
      (λ k is t. let few = within k is t in let same = no_more_run work (start_in claim) start tells_start t in omega (arith, few, same)) tick
  no_fault count earlier starts keeps is_chain within manned (verdict.Worker n) less = manned n
  no_fault count earlier starts keeps is_chain within manned (verdict.Affinity n) less = λ wrong.
      wrong.wrong (ap (λ (row : Row). row.affinity) (tells_row n wrong.number))
  no_fault count earlier starts keeps is_chain within manned (verdict.Finish n) less = λ wrong.
      wrong.wrong (ap (λ (row : Row). row.finish) (tells_row n wrong.number) ∙ ap (λ s. s + work.cost n) (tells_back n wrong.number))
  no_fault count earlier starts keeps is_chain within manned verdict.Totals less = totals_same workers work start (start_in claim) chain tells_back
  no_fault count earlier starts keeps is_chain within manned (verdict.NotAChain place) less =
      chain-linked (started_first instance (start_in claim)) work chain
      (chain-of-more (started_first instance start) (started_first instance (start_in claim)) work
      (started_too instance.trace.version instance.tree instance.assigned work start (start_in claim) (long count) tells_start) chain is_chain)
      place
  no_fault count earlier starts keeps is_chain within manned (verdict.Early n) less = none_early work (start_in claim) (issued earlier starts) n
  no_fault count earlier starts keeps is_chain within manned (verdict.Client n) less =
      none_unissued (timings_of instance.trace.messages) (start_in claim) (issued earlier starts) n
  no_fault count earlier starts keeps is_chain within manned (verdict.After n i) less =
      none_listed (timings_of instance.trace.messages) (start_in claim) (issued earlier starts) n i
  no_fault count earlier starts keeps is_chain within manned _ less = absurd (omega arith)

-- whether a plan is as short as any can be
short_or_longer : (clients : Bool) (claim : Claim) → (IsShortWhere clients claim) ⊎ (IsShortWhere clients claim → ⊥)
short_or_longer false _ = cases_eq _ _
short_or_longer true _ = cases_eq _ _

-- a plan without a fault that is no shortest one, and one that is not tight either
not_shortest : (claim : Claim) → IsFaultless claim → (IsShort claim → ⊥) → IsFreeBelow claim (stage verdict.Tight)
not_shortest claim good longer verdict.Shortest less = longer
not_shortest claim good longer v less = good v (omega arith)

not_bound : (claim : Claim) → IsFaultless claim → (IsShort claim → ⊥) → (ReachesLength claim → ⊥) → (KeepsBound claim → ⊥) → IsFreeBelow claim (stage verdict.Obeys)
not_bound claim good longer loose far verdict.Shortest less = longer
not_bound claim good longer loose far verdict.Tight less = loose
not_bound claim good longer loose far verdict.WithinBound less = far
not_bound claim good longer loose far v less = good v (omega arith)

not_tight : (claim : Claim) → IsFaultless claim → (IsShort claim → ⊥) → (ReachesLength claim → ⊥) → IsFreeBelow claim (stage verdict.WithinBound)
not_tight claim good longer loose verdict.Shortest less = longer
not_tight claim good longer loose verdict.Tight less = loose
not_tight claim good longer loose v less = good v (omega arith)

-- a plan as long as its chain is found as short as it can be
found_short : (claim : Claim) (clients : Bool) → clients ≡ has_clients (version_of claim) → IsFaultless claim → ReachesLength claim
    → IsFoundShortWhere clients claim
found_short claim false is good reach = record { free = good; found = subst (λ clients. IsShortWhere clients claim) is reach }
found_short claim true is good reach = elim (short_or_longer (has_clients (version_of claim)) claim) [
  | inl short ↦ inl (record { free = good; found = short })
  | inr longer ↦ inr (record { free = not_shortest claim good longer; found = reach })
]

-- a plan that is longer than its chain, but within the bound
found_within : (claim : Claim) (clients : Bool) → clients ≡ has_clients (version_of claim) → IsFaultless claim → (ReachesLength claim → ⊥)
    → IsFound claim verdict.WithinBound → IsFoundShortWhere clients claim ⊎ IsVerdict claim verdict.WithinBound
found_within claim false is good loose kept =
    inr (record { free = not_tight claim good (subst (λ clients. IsShortWhere clients claim → ⊥) is loose) loose; found = kept })
found_within claim true is good loose kept = elim (short_or_longer (has_clients (version_of claim)) claim) [
  | inl short ↦ inl (inl (record { free = good; found = short }))
  | inr longer ↦ inr (record { free = not_tight claim good longer loose; found = kept })
]

pub own_plan_is_shortest : (instance : Instance) (start : ℕ → ℕ) (chain : List ℕ)
    → OwnPlanIsShortest instance start chain
own_plan_is_shortest instance start chain count earlier obeys is_chain as_long =
    let told = claim_told instance None start no_worker chain in
    found_short told (has_clients instance.trace.version) refl
    (no_fault instance None start no_worker chain count earlier obeys.issued
    (served_keeps instance.trace.version instance.tree instance.assigned (work_of_instance instance) start (long instance None start no_worker chain count) obeys) is_chain (λ k none. absurd (cc))
    (no_workers (work_of_instance instance) (start_in told) (worker_in told.plan) (tells_worker instance None start no_worker chain)))
    (as_long ∙ same_length (work_of_instance instance) start (start_in told) (tells_back instance None start no_worker chain))

pub own_plan_is_within_bound : (instance : Instance) (k : ℕ) (start : ℕ → ℕ)
    (worker : ℕ → Option ℕ) (chain : List ℕ) → OwnPlanIsWithinBound instance k start worker chain
own_plan_is_within_bound instance k start worker chain count earlier plan manned is_chain bound =
    let told = claim_told instance (Some k) start worker chain in
    let all = work_of_instance instance in
    let same = tells_start instance (Some k) start worker chain in
    let good : IsFaultless told =
    no_fault instance (Some k) start worker chain count earlier plan.obeys.issued
    (served_keeps instance.trace.version instance.tree instance.assigned all start (long instance (Some k) start worker chain count) plan.obeys) is_chain
    (λ j is t. subst (λ n. running all start t ≤ n) (some_is k j is) (plan.within t))
    (right_workers all start (start_in told) worker (worker_in told.plan) k same (tells_worker instance (Some k) start worker chain) manned) in
    let kept = subst (λ n. k * n ≤ right_side all k chain) (same_length all start (start_in told) (tells_back instance (Some k) start worker chain)) bound in
    elim (cases_eq (chain_release all chain + chain_cost all chain) (length_of all (start_in told))) [
      | inl as_long ↦ inl (found_short told (has_clients instance.trace.version) refl good as_long)
      | inr shorter ↦ found_within told (has_clients instance.trace.version) refl good shorter (k, refl, kept)
    ]
  where
    some_is : (k j : ℕ) → Some k ≡ Some j → k ≡ j
    some_is k j is = cc

-- where no fault is left, one of the verdicts that tell none holds
verdict_of : (claim : Claim) → IsFaultless claim → IsAccepted claim
verdict_of claim good = elim (short_or_longer (has_clients (version_of claim)) claim) [
  | inl short ↦ record { verdict = verdict.Shortest; is_verdict = record { free = good; found = short }; no_fault = tt }
  | inr longer ↦ elim (cases_eq (chain_release (work_of_claim claim) (chain_in claim) + chain_cost (work_of_claim claim) (chain_in claim)) (length_of (work_of_claim claim) (start_in claim))) [
    | inl tight ↦ record { verdict = verdict.Tight; is_verdict = record { free = not_shortest claim good longer; found = tight }; no_fault = tt }
    | inr loose ↦ by_bound (workers_in claim) refl longer loose
  ]
]
  where
    by_bound : (workers : Option ℕ) → workers_in claim ≡ workers → (IsShort claim → ⊥) → (ReachesLength claim → ⊥) → IsAccepted claim
    by_bound None is longer loose = record {
      verdict = verdict.Obeys;
      is_verdict = record { free = not_bound claim good longer loose (λ kept. none-some kept.0 (sym is ∙ kept.1)); found = tt };
      no_fault = tt;
    }
    by_bound (Some k) is longer loose =
        elim (cases_lt (right_side (work_of_claim claim) k (chain_in claim)) (left_side (work_of_claim claim) k (start_in claim))) [
          | inl more ↦ record {
            verdict = verdict.Obeys;
            is_verdict = record {
              free = not_bound claim good longer loose (λ kept.
                  let same = same_Some k kept.0 (sym is ∙ kept.1) in
                  let bound = subst (λ n. left_side (work_of_claim claim) n (start_in claim) ≤ right_side (work_of_claim claim) n (chain_in claim)) (sym same) kept.2 in
                  omega (arith, more, bound));
              found = tt;
            };
            no_fault = tt;
          }
          | inr kept ↦ record {
            verdict = verdict.WithinBound;
            is_verdict = record { free = not_tight claim good longer loose; found = (k, is, kept) };
            no_fault = tt;
          }
        ]

pub own_plan_is_accepted : (instance : Instance) (k : ℕ) (start : ℕ → ℕ) (worker : ℕ → Option ℕ) (chain : List ℕ)
    → OwnPlanIsAccepted instance k start worker chain
own_plan_is_accepted instance k start worker chain count earlier plan apart manned is_chain =
    let told = claim_told instance (Some k) start worker chain in
    let all = work_of_instance instance in
    verdict_of told
    (no_fault instance (Some k) start worker chain count earlier plan.obeys.issued
    (started_keeps instance.trace.version instance.tree instance.assigned all start plan.obeys.ordered apart) is_chain
    (λ j is t. subst (λ n. running all start t ≤ n) (same_Some k j is) (plan.within t))
    (right_workers all start (start_in told) worker (worker_in told.plan) k (tells_start instance (Some k) start worker chain)
    (tells_worker instance (Some k) start worker chain) manned))

use Rattle.std.proofs.Common.{◌≡◌, ℕ, ◌+◌, ◌-◌, ◌≤◌, List, ◌++◌, length, get_or, replicate, set, take, drop, Contains, arith, inl, inr, sym, ◌∙◌, ap, subst, rules}
use Rattle.std.proofs.lemmas.Bool.{cases_lt}
use Rattle.std.proofs.lemmas.List.{get_or-replicate, get_or_past, length-replicate, get_or_read, length-set, take_all, drop_all, append-nil}
use Rattle.std.proofs.lemmas.List.Elements.{Contains-get_or}
use Rattle.waff_model.specs.Numbers.{IsAmongFirst}
use Rattle.waff_plan.specs.Timing.{awaits_by, no_timing, timing_of, work_of}
use Rattle.waff_plan.specs.Work.{IsAwaited, gap_after}
use Rattle.waff_plan.specs.declared.timing.Awaited.TheVariants.{Every}
use Rattle.waff_plan.specs.declared.timing.Timing.{Timing}
use Rattle.waff_list.specs.Tails.{AreRaised, tail_of}
use Rattle.waff_list.specs.Planning.{Fits}
use Rattle.waff_list.specs.Telling.{basis_of}
use Rattle.waff_list.proofs.Orders.{needs_inside}
use Rattle.waff_list.proofs.TailOrders.{gap_by, holds_by, raised_needs, tails_begin, tails_by, tails_step}
use Rattle.waff_list.proofs.tails.tails.Goals as goal

-- a vector whose elements have all been written anew
refilled : (n : ℕ) (new old : List ℕ) → length new ≡ n → length old ≡ n → take n (new ++ drop (length new) old) ≡ new
refilled n new old long was =
    ap (λ xs. take n (new ++ xs)) (drop_all (length new) old (omega (arith, long, was)))
    ∙ ap (λ xs. take n xs) (append-nil new) ∙ take_all n new (omega (arith, long))

zeros : (n i : ℕ) → get_or {A = ℕ} (replicate n 0) i 0 ≡ 0
zeros n i = elim (cases_lt i n) [
  | inl inside ↦ get_or-replicate n i 0 0 inside
  | inr past ↦ get_or_past (replicate n 0) i 0 (omega (arith, past, length-replicate {A = ℕ} n 0))
]

pub loop-m-init : goal.loop-m-init
loop-m-init c =
    let timings = c.args.timings.now in
    let items : c.in_ok-tails.tails.items ≡ replicate (length timings) 0 = search rules in
    let end : length timings + 1 - 1 ≡ length timings = omega arith in
    rw (end, items) (record {
      count = length-replicate {A = ℕ} (length timings) 0;
      after = tails_begin c.args.service.now timings c.requires.small c.requires.earlier c.requires.fits (replicate (length timings) 0) (λ m. zeros (length timings) (m - 1));
    })

pub raise-requires : goal.raise-requires
raise-requires c = λ k d within.
    let xs = c.of.result.now in
    let needs = c.in-ByNumber.needs.now in
    let m = c.loop-m.m - 1 in
    let fits = subst (λ s. Fits s (work_of c.args.timings.now)) c.in-ByNumber.is c.requires.fits in
    let there = subst (λ ys. Contains ys (get_or xs k d)) c.of.ensures.needs (Contains-get_or xs k d within) in
    let inside = needs_inside needs m fits.2 (omega arith) (get_or xs k d) there in
    let long : length c.deref_mut.result.now ≡ length c.loop-m.tails.items = ap length c.deref_mut.ensures.value ∙ length-set c.loop-m.tails.items (m - 1) (c.index.result.now + c.from.result) in
    record { from = inside.0; to = omega (arith, inside.1, fits.0, long, c.loop-m.invariant.count) }

-- the message that has its turn, and its tail
module _ (old : List ℕ) (timings : List Timing) (count : length old ≡ length timings) (n index cost : ℕ) (timing : Timing) (to : n ≤ length timings) (from : 1 ≤ n)
    (read : index ≡ get_or old (n - 1) index) (found : timing ≡ get_or timings (n - 1) timing) (is : cost ≡ timing.cost) where
  number_is : IsAmongFirst (length timings) n
  number_is = record { from = from; to = to }

  timing_is : timing ≡ timing_of timings n
  timing_is = get_or_read timings (n - 1) timing (omega (arith, from, to)) found no_timing

  sum_is : index + cost ≡ tail_of old n + (work_of timings).cost n
  sum_is =
      let costs = ap (λ (t : Timing). t.cost) timing_is in
      omega (arith, get_or_read old (n - 1) index (omega (arith, from, to, count)) read 0, is, costs)

pub raise_awaited-requires-clause-numbers : goal.raise_awaited-requires-clause-numbers
raise_awaited-requires-clause-numbers c i awaited =
    let timings = c.args.timings.now in
    let m = c.loop-m.m - 1 in
    let timing = c.index-timings-m.result in
    let old = c.loop-m.tails.items in
    let tail = c.index.result.now + c.from.result in
    let count = c.loop-m.invariant.count in
    let is = timing_is old timings count m c.index.result.now c.from.result timing (omega (arith, c.loop-m.auto.m)) (omega arith) c.index.ensures c.index-timings-m.is c.from.ensures in
    let before = c.requires.earlier i m (subst (λ (t : Timing). IsAwaited (awaits_by Every t) i) is awaited) in
    let long : length c.deref_mut-in-ByIssue.result.now ≡ length old = ap length c.deref_mut-in-ByIssue.ensures.value ∙ length-set old (m - 1) tail in
    record { from = before.from; to = omega (arith, before.earlier, before.to, long, count) }

pub loop-m-preserved-in-ByNumber : goal.loop-m-preserved-in-ByNumber
loop-m-preserved-in-ByNumber c =
    let service = c.args.service.now in
    let timings = c.args.timings.now in
    let work = work_of timings in
    let old = c.loop-m.tails.items in
    let new = c.raise.new.tails in
    let needs = c.in-ByNumber.needs in
    let m = c.loop-m.m - 1 in
    let tail = c.index.result.now + c.from.result in
    let timing = c.index-timings-m.result in
    let count = c.loop-m.invariant.count in
    let from : 1 ≤ m = omega arith in
    let to : m ≤ length timings = omega (arith, c.loop-m.auto.m) in
    let raised = subst (λ xs. AreRaised (set old (m - 1) tail) (Contains xs) (λ i. 0) tail new) c.of.ensures.needs
    (subst (λ xs. AreRaised xs (Contains c.of.result.now) (λ i. 0) tail new) c.deref_mut.ensures.value c.raise.ensures) in
    let these = subst (λ s. AreRaised (set old (m - 1) tail) (λ i. holds_by (basis_of s) work i m) (λ i. gap_by (basis_of s) work i m) tail new) (sym c.in-ByNumber.is)
    (raised_needs needs work (set old (m - 1) tail) new m tail from raised) in
    let long : length new ≡ length old = raised.count ∙ length-set old (m - 1) tail in
    let is = refilled c.loop-m.tails.len new (set old (m - 1) tail) (long ∙ sym c.loop-m.tails.ok.0) (length-set old (m - 1) tail ∙ sym c.loop-m.tails.ok.0) in
    rw is (record {
      count = long ∙ count;
      after = tails_step service timings c.requires.small c.requires.earlier c.requires.fits old new m tail count
          (number_is old timings count m c.index.result.now c.from.result timing to from c.index.ensures c.index-timings-m.is c.from.ensures)
          (sum_is old timings count m c.index.result.now c.from.result timing to from c.index.ensures c.index-timings-m.is c.from.ensures)
          these c.loop-m.invariant.after;
    })

pub loop-m-preserved : goal.loop-m-preserved
loop-m-preserved c =
    let service = c.args.service.now in
    let timings = c.args.timings.now in
    let work = work_of timings in
    let old = c.loop-m.tails.items in
    let new = c.raise_awaited.new.tails in
    let m = c.loop-m.m - 1 in
    let tail = c.index.result.now + c.from.result in
    let timing = c.index-timings-m.result in
    let count = c.loop-m.invariant.count in
    let from : 1 ≤ m = omega arith in
    let to : m ≤ length timings = omega (arith, c.loop-m.auto.m) in
    let found = timing_is old timings count m c.index.result.now c.from.result timing to from c.index.ensures c.index-timings-m.is c.from.ensures in
    let Raised = λ (xs : List ℕ) (t : Timing). AreRaised xs (IsAwaited (awaits_by Every t)) (λ i. gap_after i (awaits_by Every t)) tail new in
    let raised = subst (λ (t : Timing). Raised (set old (m - 1) tail) t) found (subst (λ xs. Raised xs timing) c.deref_mut-in-ByIssue.ensures.value c.raise_awaited.ensures) in
    let these = subst (λ s. AreRaised (set old (m - 1) tail) (λ i. holds_by (basis_of s) work i m) (λ i. gap_by (basis_of s) work i m) tail new) (sym c.in-ByIssue.is) raised in
    let long : length new ≡ length old = raised.count ∙ length-set old (m - 1) tail in
    let is = refilled c.loop-m.tails.len new (set old (m - 1) tail) (long ∙ sym c.loop-m.tails.ok.0) (length-set old (m - 1) tail ∙ sym c.loop-m.tails.ok.0) in
    rw is (record {
      count = long ∙ count;
      after = tails_step service timings c.requires.small c.requires.earlier c.requires.fits old new m tail count
          (number_is old timings count m c.index.result.now c.from.result timing to from c.index.ensures c.index-timings-m.is c.from.ensures)
          (sum_is old timings count m c.index.result.now c.from.result timing to from c.index.ensures c.index-timings-m.is c.from.ensures)
          these c.loop-m.invariant.after;
    })

pub returns-clause-tails : goal.returns-clause-tails
returns-clause-tails c =
    let none : c.loop-m.m - 1 ≡ 0 = omega (arith, c.loop-m-test.false) in
    tails_by c.args.service.now (work_of c.args.timings.now) c.requires.fits c.requires.earlier (tail_of c.loop-m.tails.items) (rw none at c.loop-m.invariant.after)

-- The turns of messages by number: all have the same key, and the next one comes first.
use Rattle.std.proofs.Common.{◌≡◌, ℕ, zero, suc, ◌+◌, ◌-◌, ◌<◌, ◌≤◌, inl, inr, Bool, true, false, List, [], ◌∷◌, length, map, get_or, replicate, set, Contains, arith, refl, sym, ◌∙◌, ap, subst}
use Rattle.std.specs.List.{range_with_len}
use Rattle.std.proofs.lemmas.Bool.{cases_lt, false≢true}
use Rattle.std.proofs.lemmas.List.{get_or-replicate, get_or_past, length-replicate, set-get_or}
use Rattle.std.proofs.lemmas.List.FromFn.{get_or-map-range_with_len, length-map-range_with_len}
use Rattle.std.proofs.lemmas.List.Sorted.{IsPermutation-refl}
use Rattle.waff_model.specs.Versions.{has_clients}
use Rattle.waff_model.specs.declared.message.Version.{Version}
use Rattle.waff_model.specs.declared.message.Version.TheVariants.{V1, V2, V3, V4}
use Rattle.waff_waits.specs.Times.{AreEach, times}
use Rattle.waff_waits.specs.Waits.{IsFree, WhoWaits, waiting_for}
use Rattle.waff_waits.proofs.Each.{each_same, none_there}
use Rattle.waff_waits.proofs.Waiting.{waits_none}
use Rattle.waff_plan.specs.Awaiting.{AreAwaiting, awaited_by}
use Rattle.waff_plan.specs.Obeys.{AwaitsNone}
use Rattle.waff_plan.specs.Order.{key_of}
use Rattle.waff_plan.specs.Due.{LeavesDue}
use Rattle.waff_plan.specs.Pending.{AreFirst, Issue}
use Rattle.waff_plan.specs.Timetable.{AreTimings}
use Rattle.waff_plan.specs.Timing.{work_of}
use Rattle.waff_plan.specs.Turns.{HoldsWaits, is_by_issue, numbered}
use Rattle.waff_plan.specs.Work.{Await, Work, IsAwaited, issue_of}
use Rattle.waff_plan.specs.declared.timing.Timing.{Timing}
use Rattle.waff_plan.specs.declared.turns.Turns.{Turns}
use Rattle.waff_plan.specs.declared.turns.Turns.TheVariants.{Issues, Numbers}
use Rattle.waff_plan.proofs.AwaitingLemmas.{needs_are, needs_count, none_taken, range_among}
use Rattle.waff_plan.proofs.FollowLemmas.{none_awaited}
use Rattle.waff_plan.proofs.IssueSteps.{AreOnce, once_put}

pub numbered_next : (next end : ℕ) → next < end → numbered next end ≡ (0, next) ∷ numbered (next + 1) end
numbered_next next end less =
    let one_more : end - next ≡ suc (end - (next + 1)) = omega (arith, less) in
    ap (λ n. map (λ (i : ℕ). (0, i)) (range_with_len next n)) one_more

-- what is among them
range_at : (a n : ℕ) (x : Issue) → Contains {X = Issue} (map (λ (i : ℕ). (0, i)) (range_with_len a n)) x → (x.0 ≡ 0) × ((a ≤ x.1) × (x.1 < a + n))
range_at a n x (k, within, at) =
    let short : k < n = omega (arith, within, length-map-range_with_len {X = Issue} (λ (i : ℕ). (0, i)) a n) in
    let is : (0, a + k) ≡ x = sym (get_or-map-range_with_len {X = Issue} (λ (i : ℕ). (0, i)) a n k (a + k) x short refl) ∙ at in
    let second : a + k ≡ x.1 = ap (λ (y : Issue). y.1) is in
    (sym (ap (λ (y : Issue). y.0) is), (omega (arith, second), omega (arith, second, short)))

range_there : (a n m : ℕ) → a ≤ m → m < a + n → Contains {X = Issue} (map (λ (i : ℕ). (0, i)) (range_with_len a n)) (0, m)
range_there a n m from to = (
  m - a,
  omega (arith, from, to, length-map-range_with_len {X = Issue} (λ (i : ℕ). (0, i)) a n),
  get_or-map-range_with_len {X = Issue} (λ (i : ℕ). (0, i)) a n (m - a) m _ (omega (arith, from, to)) (omega (arith, from)),
)

once_range : (a n : ℕ) → AreOnce (map (λ (i : ℕ). (0, i)) (range_with_len a n))
once_range a zero = λ m. omega arith
once_range a (suc n) =
    let rest : List Issue = map (λ (i : ℕ). (0, i)) (range_with_len (a + 1) n) in
    once_put rest ((0, a) ∷ rest) (0, a) (IsPermutation-refl ((0, a) ∷ rest)) (once_range (a + 1) n)
    (λ y there same. let at = range_at (a + 1) n y there in omega (arith, at.1.0, same))

pub take_numbered : (next end : ℕ) → next < end → LeavesDue (numbered next end) (0, next) (numbered (next + 1) end)
take_numbered next end less =
    let more = numbered_next next end less in
    record {
      rest = rw more (IsPermutation-refl ((0, next) ∷ numbered (next + 1) end));
      least = λ y there. let at = range_at (next + 1) (end - (next + 1)) y there in inr (sym at.0, omega (arith, at.1.0));
    }

-- by number all messages have their turn at first
zero_first : (work : Work) → AwaitsNone work → AreFirst work (λ start m. 0) (numbered 1 (work.count + 1))
zero_first work none =
    let many : work.count + 1 - 1 ≡ work.count = omega arith in
    rw many (record {
      number = λ x there. let at = range_at 1 work.count x there in record { from = at.1.0; to = omega (arith, at.1.1) };
      key_is = λ start x there. (range_at 1 work.count x there).0;
      alone = λ x there. none x.1;
      all = λ start m number follow. range_there 1 work.count m number.from (omega (arith, number.to));
      once = once_range 1 work.count;
    })

-- without clients no message awaits another
pub follows_none : (version : Version) (timings : List Timing) → AreTimings version timings → has_clients version ≡ false → AwaitsNone (work_of timings)
follows_none version timings are without = are.alone without

pub has_followed : (version : Version) (timings : List Timing) → AreTimings version timings → (i m : ℕ) → IsAwaited ((work_of timings).awaits m) i → has_clients version ≡ true
has_followed V1 timings are i m awaited = absurd (none_awaited ((work_of timings).awaits m) i (follows_none V1 timings are refl m) awaited)
has_followed V2 timings are i m awaited = absurd (none_awaited ((work_of timings).awaits m) i (follows_none V2 timings are refl m) awaited)
has_followed V3 timings are i m awaited = refl
has_followed V4 timings are i m awaited = refl

pub first_numbers : (version : Version) (timings : List Timing) → AreTimings version timings → has_clients version ≡ false
    → AreFirst (work_of timings) (key_of version (work_of timings)) (numbered 1 (length timings + 1))
first_numbers V1 timings are without = zero_first (work_of timings) (follows_none V1 timings are without)
first_numbers V2 timings are without = zero_first (work_of timings) (follows_none V2 timings are without)
first_numbers V3 timings are without = absurd (false≢true (sym without))
first_numbers V4 timings are without = absurd (false≢true (sym without))

pub first_issued : (version : Version) (work : Work) (first : List Issue) → has_clients version ≡ true → AreFirst work (issue_of work) first
    → AreFirst work (key_of version work) first
first_issued V1 work first has are = absurd (false≢true has)
first_issued V2 work first has are = absurd (false≢true has)
first_issued V3 work first has are = are
first_issued V4 work first has are = are

-- who waits for whom is one, where messages are taken by issue
pub held_is : (turns : Turns) (v w : WhoWaits) → is_by_issue turns ≡ true → HoldsWaits turns v → HoldsWaits turns w → v ≡ w
held_is (Numbers next end) v w by first second = absurd (false≢true by)
held_is (Issues due waits) v w by first second = sym first ∙ second

-- where nobody waits, nobody is let go
pub none_let_go : (w : WhoWaits) (m : ℕ) (finished : List Bool) → ((i : ℕ) → waiting_for w i ≡ []) → (i : ℕ)
    → waiting_for (record { awaited = set w.awaited (m - 1) []; finished = finished }) i ≡ []
none_let_go w m finished none i =
    ap (λ xs. get_or xs (i - 1) []) (ap (set w.awaited (m - 1)) (sym (none m)) ∙ set-get_or w.awaited (m - 1) []) ∙ none i

-- and all that have entered are free
pub all_free : (v w : WhoWaits) → ((i : ℕ) → waiting_for v i ≡ []) → ((i : ℕ) → waiting_for w i ≡ [])
    → (entered xs : List ℕ) → AreEach (IsFree entered v) xs → AreEach (IsFree entered w) xs
all_free v w none no_other entered xs each =
    each_same (IsFree entered v) xs each (IsFree entered w)
    (λ m free. (free.0, λ i waits. none_there m (subst (λ ys. Contains ys m) (no_other i) waits)))
    (λ m free. (free.0, λ i waits. none_there m (subst (λ ys. Contains ys m) (none i) waits)))

no_list : (n i : ℕ) → get_or {A = List ℕ} (replicate n []) i [] ≡ []
no_list n i = elim (cases_lt i n) [
  | inl within ↦ get_or-replicate n i [] [] within
  | inr past ↦ get_or_past (replicate n []) i [] (omega (arith, past, length-replicate {A = List ℕ} n []))
]

-- where no message awaits another, nobody waits at first
pub nobody_awaits : (work : Work) → AwaitsNone work → (w : WhoWaits) × AreAwaiting work [] w × ((i : ℕ) → waiting_for w i ≡ [])
nobody_awaits work none =
    let w : WhoWaits = record { awaited = replicate work.count []; finished = replicate work.count false } in
    let first = waits_none (awaited_by work) work.count (needs_count work) in
    let nobody : (i : ℕ) → waiting_for w i ≡ [] = λ i. no_list work.count (i - 1) in (
      w,
      none_taken work w (record {
        count = first.count;
        marks = first.marks;
        each = λ i m from there undone.
            let number = range_among work.count m there in
            ap (times m) (nobody i) ∙ sym (ap (times i) (needs_are work m number ∙ ap (map (λ (a : Await). a.message)) (none m)));
        over = λ i from done. nobody i;
        only = λ i m there. absurd (none_there m (subst (λ ys. Contains ys m) (nobody i) there));
      }) refl,
      nobody,
    )

-- where messages are of clients the key is the issue
pub key_is_issue : (version : Version) (work : Work) (start : ℕ → ℕ) (m : ℕ) → has_clients version ≡ true → key_of version work start m ≡ issue_of work start m
key_is_issue V1 work start m has = absurd (false≢true has)
key_is_issue V2 work start m has = absurd (false≢true has)
key_is_issue V3 work start m has = refl
key_is_issue V4 work start m has = refl

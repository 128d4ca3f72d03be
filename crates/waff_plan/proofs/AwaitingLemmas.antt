-- Who waits for whom, where messages await others: those that wait for nothing await only what is taken.
use Rattle.std.proofs.Common.{◌≡◌, ℕ, zero, suc, ◌+◌, ◌-◌, ◌<◌, inl, inr, Bool, true, false, List, [], ◌∷◌, ◌++◌, length, map, get_or, replicate, Contains, arith, refl, sym, ◌∙◌, ap, subst}
use Rattle.std.specs.List.{range_with_len}
use Rattle.std.proofs.lemmas.Bool.{cases_eq, false≢true}
use Rattle.std.proofs.lemmas.List.{get_or-replicate, map-id}
use Rattle.std.proofs.lemmas.List.Elements.{Contains-append_left, Contains-push, Contains-push_cases}
use Rattle.std.proofs.lemmas.List.FromFn.{get_or-map-range_with_len, get_or-range_with_len, length-map-range_with_len, length-range_with_len, map-range_with_len_more}
use Rattle.waff_order.specs.Needs.{IsNeed, needs_of}
use Rattle.waff_waits.specs.Times.{AreEach}
use Rattle.waff_waits.specs.Waits.{AreWaits, Enters, HasFinished, IsFree, WhoWaits, waiting_for}
use Rattle.waff_waits.proofs.Each.{each_same, none_there, times_append, times_listed}
use Rattle.waff_waits.proofs.TimesLemmas.{times_some}
use Rattle.waff_waits.proofs.Waiting.{after_finish, finished_here, finished_there, free_over, over_free, waits_entered, waits_finished}
use Rattle.waff_plan.specs.Awaiting.{AreAwaiting, IsOpen, awaited_by}
use Rattle.waff_plan.specs.Obeys.{AwaitsEarlier}
use Rattle.waff_plan.specs.Work.{Await, IsAmongFirst, IsAwaited, IsNumber, Work, numbers}

-- numbers from 1 on
pub range_there : (n m : ℕ) → IsAmongFirst n m → Contains (range_with_len 1 n) m
range_there n m among = (
  m - 1,
  omega (arith, length-range_with_len 1 n, among.from, among.to),
  get_or-range_with_len 1 n (m - 1) m (omega (arith, among.from, among.to)) ∙ (let same : 1 + (m - 1) ≡ m = omega (arith, among.from) in same),
)

pub range_among : (n m : ℕ) → Contains (range_with_len 1 n) m → IsAmongFirst n m
range_among n m (k, within, at) =
    let short : k < n = omega (arith, within, length-range_with_len 1 n) in
    let is : 1 + k ≡ m = sym (get_or-range_with_len 1 n k m short) ∙ at in
    record { from = omega (arith, is); to = omega (arith, is, short) }

pub range_more : (n m : ℕ) → 1 + n ≡ m → range_with_len 1 n ++ m ∷ [] ≡ range_with_len 1 (n + 1)
range_more n m is =
    ap (λ xs. xs ++ m ∷ []) (sym (map-id (range_with_len 1 n))) ∙ sym (map-range_with_len_more (λ x. x) 1 n m is) ∙ map-id (range_with_len 1 (n + 1))

-- the numbers of those that are awaited
awaited_listed : (awaits : List Await) (i : ℕ) → IsAwaited awaits i → Contains (map (λ (a : Await). a.message) awaits) i
awaited_listed [] i never = absurd never
awaited_listed (a ∷ rest) i (inl same) = (0, omega arith, same)
awaited_listed (a ∷ rest) i (inr awaited) =
    let there = awaited_listed rest i awaited in (suc there.0, omega (arith, there.1), there.2)

listed_awaited : (awaits : List Await) (i : ℕ) → Contains (map (λ (a : Await). a.message) awaits) i → IsAwaited awaits i
listed_awaited [] i there = absurd (none_there i there)
listed_awaited (a ∷ rest) i (zero, within, at) = inl at
listed_awaited (a ∷ rest) i (suc k, within, at) = inr (listed_awaited rest i (k, omega (arith, within), at))

-- a message waits for some, and then for more
pub enters_on : (old mid new : WhoWaits) (m : ℕ) (xs ys : List ℕ) → Enters old m xs mid → Enters mid m ys new → Enters old m (xs ++ ys) new
enters_on old mid new m xs ys first second = record {
  count = second.count ∙ first.count;
  finished = second.finished ∙ first.finished;
  others = λ i x other. second.others i x other ∙ first.others i x other;
  waits = λ i from undone.
      let still : ¬ HasFinished mid i = λ done. undone (subst (λ (marks : List Bool). get_or marks (i - 1) false ≡ true) first.finished done) in
      omega (arith, first.waits i from undone, second.waits i from still, times_append i xs ys);
  over = λ i from done.
      second.over i from (subst (λ (marks : List Bool). get_or marks (i - 1) false ≡ true) (sym first.finished) done) ∙ first.over i from done;
}

module _ (work : Work) where
  abbrev needs : List (List ℕ)
  needs = awaited_by work

  abbrev all : List ℕ
  all = numbers work

  pub needs_count : length needs ≡ work.count
  needs_count = length-map-range_with_len (λ m. map (λ (a : Await). a.message) (work.awaits m)) 1 work.count

  pub needs_are : (m : ℕ) → IsNumber work m → needs_of needs m ≡ map (λ (a : Await). a.message) (work.awaits m)
  needs_are m number =
      get_or-map-range_with_len (λ n. map (λ (a : Await). a.message) (work.awaits n)) 1 work.count (m - 1) m []
      (omega (arith, number.from, number.to)) (omega (arith, number.from))

  need_awaited : (i m : ℕ) → IsNumber work m → IsNeed needs i m → IsAwaited (work.awaits m) i
  need_awaited i m number need = listed_awaited (work.awaits m) i (subst (λ xs. Contains xs i) (needs_are m number) need.listed)

  awaited_need : (i m : ℕ) → IsNumber work m → IsAwaited (work.awaits m) i → IsNeed needs i m
  awaited_need i m number awaited = record {
    from = number.from;
    listed = subst (λ xs. Contains xs i) (sym (needs_are m number)) (awaited_listed (work.awaits m) i awaited);
  }

  -- a message all that which it awaits are taken
  abbrev pub IsDue : List ℕ → ℕ → Type 0
  IsDue taken m = IsNumber work m × IsOpen work taken m

  module _ (earlier : AwaitsEarlier work) (taken : List ℕ) (w : WhoWaits) (are : AreAwaiting work taken w) where
    awaited_number : (i m : ℕ) → IsAwaited (work.awaits m) i → IsNumber work i
    awaited_number i m awaited =
        let before = earlier i m awaited in record { from = before.from; to = omega (arith, before.earlier, before.to) }

    pub free_is_due : (m : ℕ) → IsFree all w m → IsDue taken m
    free_is_due m free =
        let number : IsNumber work m = range_among work.count m free.0 in (
          number,
          λ i awaited.
              let over = free_over all needs w are.waits m number.from free.0 (λ k need. (awaited_number k m (need_awaited k m number need)).from) free.1
              i (awaited_need i m number awaited) in
              (are.marks i (awaited_number i m awaited)).0 over,
        )

    pub due_is_free : (m : ℕ) → IsDue taken m → IsFree all w m
    due_is_free m due =
        let there = range_there work.count m due.0 in (
          there,
          over_free all needs w are.waits m due.0.from there
              (λ i need. let awaited = need_awaited i m due.0 need in (are.marks i (awaited_number i m awaited)).1 (due.1 i awaited)),
        )

    -- those that wait for nothing are those that are due
    pub each_due : (xs : List ℕ) → AreEach (IsFree all w) xs → AreEach (IsDue taken) xs
    each_due xs each = each_same (IsFree all w) xs each (IsDue taken) free_is_due due_is_free

    pub each_free : (xs : List ℕ) → AreEach (IsDue taken) xs → AreEach (IsFree all w) xs
    each_free xs each = each_same (IsDue taken) xs each (IsFree all w) due_is_free free_is_due

    -- who waits for a message is a message
    pub waiting_number : (i d : ℕ) → Contains (waiting_for w i) d → IsNumber work d
    waiting_number i d waits = range_among work.count d (are.waits.only i d waits)

    -- and awaits it, where it is not taken
    pub waiting_awaits : (i d : ℕ) → IsNumber work i → (Contains taken i → ⊥) → Contains (waiting_for w i) d → IsAwaited (work.awaits d) i
    waiting_awaits i d number untaken waits =
        let times = times_some d (waiting_for w i) waits in
        let same = are.waits.each i d number.from (are.waits.only i d waits) (λ over. untaken ((are.marks i number).0 over)) in
        listed_awaited (work.awaits d) i
        (subst (λ xs. Contains xs i) (needs_are d (waiting_number i d waits)) (times_listed i (needs_of needs d) (omega (arith, times, same))))

    pub waits_count : length w.awaited ≡ work.count
    waits_count = are.waits.count ∙ needs_count

    -- one more message is taken
    pub taken_too : (m : ℕ) (number : IsNumber work m) → AreAwaiting work (taken ++ m ∷ []) (after_finish all needs w are.waits m (record { from = number.from; to = omega (arith, number.to, waits_count) }))
    taken_too m number =
        let place : IsAmongFirst (length w.awaited) m = record { from = number.from; to = omega (arith, number.to, waits_count) } in
        record {
          waits = waits_finished all needs w are.waits m place;
          marks = λ i known. elim (cases_eq i m) [
            | inl here ↦ (
              λ over. subst (Contains (taken ++ m ∷ [])) (sym here) (Contains-push taken m),
              λ there. subst (HasFinished (after_finish all needs w are.waits m place)) (sym here) (finished_here all needs w are.waits m place),
            )
            | inr other ↦ (
              λ over.
                  let before = sym (finished_there all needs w are.waits m place i known.from other) ∙ over in
                  Contains-append_left taken (m ∷ []) i ((are.marks i known).0 before),
              λ there. elim (Contains-push_cases taken m i there) [
                | inl before ↦ finished_there all needs w are.waits m place i known.from other ∙ (are.marks i known).1 before
                | inr now ↦ absurd (other (sym now))
              ],
            )
          ];
        }

  -- the messages enter one after another
  module _ (m : ℕ) (number : IsNumber work m) (old new : WhoWaits) (waits : AreWaits (range_with_len 1 (m - 1)) needs old) where
    pub waits_more : Enters old m (map (λ (a : Await). a.message) (work.awaits m)) new → AreWaits (range_with_len 1 (m - 1) ++ m ∷ []) needs new
    waits_more enters =
        waits_entered (range_with_len 1 (m - 1)) needs old waits needs m new
        (λ there. let among = range_among (m - 1) m there in omega (arith, among.to, number.from))
        (λ x there. (range_among (m - 1) x there).from) refl (λ x from other. refl)
        (subst (λ xs. Enters old m xs new) (sym (needs_are m number)) enters)

  -- at first none is taken
  pub none_taken : (w : WhoWaits) → AreWaits all needs w → w.finished ≡ replicate work.count false → AreAwaiting work [] w
  none_taken w waits none = record {
    waits = waits;
    marks = λ i number. (
      λ over.
          let marked : get_or (replicate work.count false) (i - 1) false ≡ false
          = get_or-replicate work.count (i - 1) false false (omega (arith, number.from, number.to)) in
          absurd (false≢true (sym marked ∙ ap (λ xs. get_or xs (i - 1) false) (sym none) ∙ over)),
      λ there. absurd (none_there i there),
    );
  }

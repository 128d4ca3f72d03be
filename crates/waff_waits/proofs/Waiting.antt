-- Who waits for whom, as messages enter, are let go and finish.
use Rattle.std.proofs.Common.{◌≡◌, ◌≢◌, ℕ, zero, suc, ◌+◌, ◌-◌, ◌<◌, ◌≤◌, ◌⊎◌, inl, inr, Bool, true, false, List, [], ◌∷◌, ◌++◌, length, get_or, set, take, replicate, Contains, arith, refl, ap, sym, ◌∙◌, subst, get_or-set_same, get_or-set_other, length-set}
use Rattle.std.proofs.lemmas.Bool.{cases_eq, cases_lt, false≢true}
use Rattle.std.proofs.lemmas.List.{get_or-replicate, get_or_past, length-replicate}
use Rattle.std.proofs.lemmas.List.Elements.{Contains-append_left, Contains-push}
use Rattle.std.specs.List.Sorted.{IsPermutation}
use Rattle.waff_model.specs.Numbers.{IsAmongFirst}
use Rattle.waff_order.specs.Needs.{IsNeed, needs_of}
use Rattle.waff_waits.specs.Times.{AreEach, times}
use Rattle.waff_waits.specs.Waits.{AreWaits, Enters, HasFinished, WaitsForNone, WhoWaits, IsFree, waiting_for}
use Rattle.waff_waits.proofs.Each.{contains_first, contains_more, contains_rest_of, each_pushed, each_same, none_there, one_of, times_listed}
use Rattle.waff_waits.proofs.TimesLemmas.{times_cons_other, times_cons_same, times_here, times_none, times_other, times_some}

-- a number of times
at_all : (m : ℕ) → times m [] ≡ 0
at_all m = refl

-- no need yet
pub enters_none : (w : WhoWaits) (m : ℕ) → Enters w m [] w
enters_none w m = record {
  count = refl;
  finished = refl;
  others = λ i x other. refl;
  waits = λ i from undone. omega (arith, at_all i);
  over = λ i from done. refl;
}

module _ (old mid : WhoWaits) (m : ℕ) (needs : List ℕ) (at : ℕ) (h : Enters old m (take at needs) mid) (inside : at < length needs) where
  abbrev need : ℕ
  need = get_or needs at 0

  open_still : (i : ℕ) → ¬ HasFinished old i → ¬ HasFinished mid i
  open_still i undone done = undone (subst (λ (marks : List Bool). get_or marks (i - 1) false ≡ true) h.finished done)

  -- a need that has finished
  pub enters_over : HasFinished mid need → Enters old m (take (at + 1) needs) mid
  enters_over done = record {
    count = h.count;
    finished = h.finished;
    others = h.others;
    waits = λ i from undone. elim (cases_eq i need) [
      | inl same ↦ absurd (open_still i undone (subst (HasFinished mid) (sym same) done))
      | inr other ↦ omega (arith, h.waits i from undone, times_other i needs at 0 inside (λ is. other (sym is)))
    ];
    over = h.over;
  }

  -- one that has not
  module _ (number : IsAmongFirst (length mid.awaited) need) (undone : ¬ HasFinished mid need) where
    abbrev longer : List ℕ
    longer = m ∷ waiting_for mid need

    abbrev pub waits_more : WhoWaits
    waits_more = record { awaited = set mid.awaited (need - 1) longer; finished = mid.finished }

    place : need - 1 < length mid.awaited
    place = omega (arith, number.from, number.to)

    there : (i : ℕ) → (waiting_for waits_more i ≡ m ∷ waiting_for mid i) ⊎ (waiting_for waits_more i ≡ waiting_for mid i)
    there i = elim (cases_eq (i - 1) (need - 1)) [
      | inl same ↦ inl (ap (λ k. get_or (set mid.awaited (need - 1) longer) k []) same ∙ get_or-set_same mid.awaited (need - 1) longer [] place ∙ ap (λ k. m ∷ get_or mid.awaited k []) (sym same))
      | inr other ↦ inr (get_or-set_other mid.awaited (need - 1) (i - 1) longer [] other)
    ]

    elsewhere : (i : ℕ) → 1 ≤ i → i ≢ need → waiting_for waits_more i ≡ waiting_for mid i
    elsewhere i from other =
        let apart : i - 1 ≢ need - 1 = omega (arith, from, other, number.from) in
        get_or-set_other mid.awaited (need - 1) (i - 1) longer [] apart

    pub enters_wait : Enters old m (take (at + 1) needs) waits_more
    enters_wait = record {
      count = length-set mid.awaited (need - 1) longer ∙ h.count;
      finished = h.finished;
      others = λ i x other. elim (there i) [
        | inl more ↦ ap (times x) more ∙ times_cons_other {m = m} (waiting_for mid i) x other ∙ h.others i x other
        | inr same ↦ ap (times x) same ∙ h.others i x other
      ];
      waits = λ i from undone. elim (cases_eq i need) [
        | inl same ↦
            let here : waiting_for waits_more need ≡ longer = get_or-set_same mid.awaited (need - 1) longer [] place in
            let more = ap (λ k. times m (waiting_for waits_more k)) same ∙ ap (times m) here ∙ times_cons_same (waiting_for mid need) m in
            omega (arith, more, ap (λ k. times m (waiting_for mid k)) same, h.waits i from undone, times_here i needs at 0 inside (sym same))
        | inr other ↦ omega (arith, ap (times m) (elsewhere i from other), h.waits i from undone, times_other i needs at 0 inside (λ is. other (sym is)))
      ];
      over = λ i from done.
          let other : i ≢ need = λ same. undone (subst (HasFinished mid) same (subst (λ (marks : List Bool). get_or marks (i - 1) false ≡ true) (sym h.finished) done)) in
          elsewhere i from other ∙ h.over i from done;
    }

marked : (xs : List Bool) (k : ℕ) → (get_or xs k false ≡ true) ⊎ (get_or xs k false ≡ false)
marked xs k = either (get_or xs k false)
  where
    either : (b : Bool) → (b ≡ true) ⊎ (b ≡ false)
    either true = inl refl
    either false = inr refl

-- none has entered
pub waits_none : (needs : List (List ℕ)) (count : ℕ) → length needs ≡ count → AreWaits [] needs (record { awaited = replicate count []; finished = replicate count false })
waits_none needs count same =
    let nothing : List ℕ = [] in
    let empty : (i : ℕ) → get_or (replicate count nothing) (i - 1) [] ≡ [] = λ i. elim (cases_lt (i - 1) count) [
      | inl inside ↦ get_or-replicate count (i - 1) nothing nothing inside
      | inr past ↦ get_or_past (replicate count nothing) (i - 1) nothing (omega (arith, past, length-replicate count nothing))
    ] in
    record {
      count = length-replicate count nothing ∙ sym same;
      marks = length-replicate count false ∙ sym same;
      each = λ i m from there. absurd (none_there m there);
      over = λ i from done. empty i;
      only = λ i m there. absurd (none_there m (subst (λ xs. Contains xs m) (empty i) there));
    }

module _ (entered : List ℕ) (needs : List (List ℕ)) (w : WhoWaits) (h : AreWaits entered needs w) where
  -- a message waits for none where its needs have finished, and only then
  pub free_over : (m : ℕ) → 1 ≤ m → Contains entered m → ((i : ℕ) → IsNeed needs i m → 1 ≤ i) → WaitsForNone w m → (i : ℕ) → IsNeed needs i m → HasFinished w i
  free_over m from there numbers none i need = elim (marked w.finished (i - 1)) [
    | inl done ↦ done
    | inr undone ↦
        let listed = times_some i (needs_of needs m) need.listed in
        let waits = h.each i m (numbers i need) there (λ done. false≢true (sym undone ∙ done)) in
        absurd (none i (times_listed m (waiting_for w i) (omega (arith, listed, waits))))
  ]

  waits_not : (m i : ℕ) → 1 ≤ m → 1 ≤ i → Contains entered m → ((k : ℕ) → IsNeed needs k m → HasFinished w k) → Contains (waiting_for w i) m → ⊥
  waits_not m i from i_from there over waits =
      let undone : ¬ HasFinished w i = λ done. none_there m (subst (λ xs. Contains xs m) (h.over i i_from done) waits) in
      let listed = times_some m (waiting_for w i) waits in
      let is = h.each i m i_from there undone in
      undone (over i (record { from = from; listed = times_listed i (needs_of needs m) (omega (arith, listed, is)) }))

  pub over_free : (m : ℕ) → 1 ≤ m → Contains entered m → ((i : ℕ) → IsNeed needs i m → HasFinished w i) → WaitsForNone w m
  over_free m from there over zero waits = waits_not m 1 from (omega arith) there over waits
  over_free m from there over (suc i) waits = waits_not m (suc i) from (omega arith) there over waits

  -- message m enters
  module _ (more : List (List ℕ)) (m : ℕ) (new : WhoWaits) (is_new : Contains entered m → ⊥) (numbers : (x : ℕ) → Contains entered x → 1 ≤ x)
      (count : length more ≡ length needs) (others : (x : ℕ) → 1 ≤ x → x ≢ m → needs_of more x ≡ needs_of needs x) (e : Enters w m (needs_of more m) new) where
    waited_not : (i : ℕ) → times m (waiting_for w i) ≡ 0
    waited_not i = times_none m (waiting_for w i) (λ there. is_new (h.only i m there))

    was : (i : ℕ) → HasFinished new i → HasFinished w i
    was i done = subst (λ (marks : List Bool). get_or marks (i - 1) false ≡ true) e.finished done

    is : (i : ℕ) → HasFinished w i → HasFinished new i
    is i done = subst (λ (marks : List Bool). get_or marks (i - 1) false ≡ true) (sym e.finished) done

    apart_from : (x : ℕ) → Contains entered x → x ≢ m
    apart_from x there same = is_new (subst (Contains entered) same there)

    pub waits_entered : AreWaits (entered ++ m ∷ []) more new
    waits_entered = record {
      count = e.count ∙ h.count ∙ sym count;
      marks = ap length e.finished ∙ h.marks ∙ sym count;
      each = λ i x from there undone.
          let not_yet : ¬ HasFinished w i = λ done. undone (is i done) in
          elim (one_of entered m x there) [
            | inl before ↦
                let other = apart_from x before in
                e.others i x other ∙ h.each i x from before not_yet ∙ ap (times i) (sym (others x (numbers x before) other))
            | inr same ↦ subst (λ y. times y (waiting_for new i) ≡ times i (needs_of more y)) (sym same) (omega (arith, e.waits i from not_yet, waited_not i))
          ];
      over = λ i from done. e.over i from (was i done) ∙ h.over i from (was i done);
      only = λ i x there. elim (cases_eq x m) [
        | inl same ↦ subst (Contains (entered ++ m ∷ [])) (sym same) (Contains-push entered m)
        | inr other ↦
            let some = times_some x (waiting_for new i) there in
            Contains-append_left entered (m ∷ []) x (h.only i x (times_listed x (waiting_for w i) (omega (arith, some, e.others i x other))))
      ];
    }

    kept : (x : ℕ) → IsFree entered w x → IsFree (entered ++ m ∷ []) new x
    kept x (there, none) = (
      Contains-append_left entered (m ∷ []) x there,
      λ i waits.
          let some = times_some x (waiting_for new i) waits in
          none i (times_listed x (waiting_for w i) (omega (arith, some, e.others i x (apart_from x there)))),
    )

    back : (x : ℕ) → IsFree (entered ++ m ∷ []) new x → x ≢ m → IsFree entered w x
    back x (there, none) other = (
      elim (one_of entered m x there) [ inl before ↦ before | inr same ↦ absurd (other same) ],
      λ i waits.
          let some = times_some x (waiting_for w i) waits in
          none i (times_listed x (waiting_for new i) (omega (arith, some, e.others i x other))),
    )

    module _ (order ready : List ℕ) (each : AreEach (IsFree entered w) (order ++ ready)) where
      pub free_entered : (after : List ℕ) → IsPermutation (m ∷ ready) after → WaitsForNone new m → AreEach (IsFree (entered ++ m ∷ []) new) (order ++ after)
      free_entered after pushed none = each_pushed (IsFree entered w) (IsFree (entered ++ m ∷ []) new) m order ready after each pushed
          (λ free. is_new free.0) (Contains-push entered m, none) kept back

      pub bound_entered : (WaitsForNone new m → ⊥) → AreEach (IsFree (entered ++ m ∷ []) new) (order ++ ready)
      bound_entered bound = each_same (IsFree entered w) (order ++ ready) each (IsFree (entered ++ m ∷ []) new) kept
          (λ x free. back x free (λ same. bound (subst (WaitsForNone new) same free.1)))

  -- message i has finished, and those that waited for it have been let go
  module _ (i : ℕ) (number : IsAmongFirst (length w.awaited) i) where
    abbrev pub after_finish : WhoWaits
    after_finish = record { awaited = set w.awaited (i - 1) []; finished = set w.finished (i - 1) true }

    finish_place : i - 1 < length w.awaited
    finish_place = omega (arith, number.from, number.to)

    marked_place : i - 1 < length w.finished
    marked_place = omega (arith, finish_place, h.count, h.marks)

    emptied : waiting_for after_finish i ≡ []
    emptied = get_or-set_same w.awaited (i - 1) [] [] finish_place

    kept_elsewhere : (j : ℕ) → 1 ≤ j → j ≢ i → (waiting_for after_finish j ≡ waiting_for w j)
    kept_elsewhere j from other = let apart : j - 1 ≢ i - 1 = omega (arith, from, other, number.from) in get_or-set_other w.awaited (i - 1) (j - 1) [] [] apart

    pub finished_here : HasFinished after_finish i
    finished_here = get_or-set_same w.finished (i - 1) true false marked_place

    pub finished_there : (j : ℕ) → 1 ≤ j → j ≢ i → get_or (set w.finished (i - 1) true) (j - 1) false ≡ get_or w.finished (j - 1) false
    finished_there j from other = let apart : j - 1 ≢ i - 1 = omega (arith, from, other, number.from) in get_or-set_other w.finished (i - 1) (j - 1) true false apart

    pub finish_less : (j d : ℕ) → Contains (waiting_for after_finish j) d → Contains (waiting_for w j) d
    finish_less j d there = elim (cases_eq (j - 1) (i - 1)) [
      | inl same ↦ absurd (none_there d (subst (λ xs. Contains xs d) (ap (λ k. get_or (set w.awaited (i - 1) []) k []) same ∙ emptied) there))
      | inr other ↦ subst (λ xs. Contains xs d) (get_or-set_other w.awaited (i - 1) (j - 1) [] [] other) there
    ]

    pub waits_finished : AreWaits entered needs after_finish
    waits_finished = record {
      count = length-set w.awaited (i - 1) [] ∙ h.count;
      marks = length-set w.finished (i - 1) true ∙ h.marks;
      each = λ j m from there undone.
          let other : j ≢ i = λ same. undone (subst (HasFinished after_finish) (sym same) finished_here) in
          ap (times m) (kept_elsewhere j from other) ∙ h.each j m from there (λ done. undone (finished_there j from other ∙ done));
      over = λ j from done. elim (cases_eq j i) [
        | inl same ↦ ap (waiting_for after_finish) same ∙ emptied
        | inr other ↦ kept_elsewhere j from other ∙ h.over j from (sym (finished_there j from other) ∙ done)
      ];
      only = λ j m there. h.only j m (finish_less j m there);
    }

-- message m, which waits for message i, is let go
module _ (entered : List ℕ) (w : WhoWaits) (i m : ℕ) (number : IsAmongFirst (length w.awaited) i) (there : Contains entered m) (rest : List ℕ) (first : waiting_for w i ≡ m ∷ rest) where
  abbrev pub after_go : WhoWaits
  after_go = record { awaited = set w.awaited (i - 1) rest; finished = w.finished }

  at_place : i - 1 < length w.awaited
  at_place = omega (arith, number.from, number.to)

  did_wait : IsFree entered w m → ⊥
  did_wait free = free.1 i (subst (λ xs. Contains xs m) (sym first) (contains_first m rest))

  gone_less : (j x : ℕ) → Contains (waiting_for after_go j) x → Contains (waiting_for w j) x
  gone_less j x waits = elim (cases_eq (j - 1) (i - 1)) [
    | inl same ↦
        let here = subst (λ xs. Contains xs x) (ap (λ k. get_or (set w.awaited (i - 1) rest) k []) same ∙ get_or-set_same w.awaited (i - 1) rest [] at_place) waits in
        subst (λ xs. Contains xs x) (sym first ∙ ap (λ k. get_or w.awaited k []) (sym same)) (contains_more m x rest here)
    | inr other ↦ subst (λ xs. Contains xs x) (get_or-set_other w.awaited (i - 1) (j - 1) rest [] other) waits
  ]

  gone_more : (j x : ℕ) → x ≢ m → Contains (waiting_for w j) x → Contains (waiting_for after_go j) x
  gone_more j x other waits = elim (cases_eq (j - 1) (i - 1)) [
    | inl same ↦
        let here = subst (λ xs. Contains xs x) (ap (λ k. get_or w.awaited k []) same ∙ first) waits in
        elim (contains_rest_of m x rest here) [
          | inl behind ↦ subst (λ xs. Contains xs x) (sym (ap (λ k. get_or (set w.awaited (i - 1) rest) k []) same ∙ get_or-set_same w.awaited (i - 1) rest [] at_place)) behind
          | inr is ↦ absurd (other is)
        ]
    | inr apart ↦ subst (λ xs. Contains xs x) (sym (get_or-set_other w.awaited (i - 1) (j - 1) rest [] apart)) waits
  ]

  kept_free : (x : ℕ) → IsFree entered w x → IsFree entered after_go x
  kept_free x (listed, none) = (listed, λ j waits. none j (gone_less j x waits))

  back_free : (x : ℕ) → IsFree entered after_go x → x ≢ m → IsFree entered w x
  back_free x (listed, none) other = (listed, λ j waits. none j (gone_more j x other waits))

  module _ (order ready : List ℕ) (each : AreEach (IsFree entered w) (order ++ ready)) where
    pub free_gone : (after : List ℕ) → IsPermutation (m ∷ ready) after → WaitsForNone after_go m → AreEach (IsFree entered after_go) (order ++ after)
    free_gone after pushed none = each_pushed (IsFree entered w) (IsFree entered after_go) m order ready after each pushed did_wait (there, none) kept_free back_free

    pub bound_gone : (WaitsForNone after_go m → ⊥) → AreEach (IsFree entered after_go) (order ++ ready)
    bound_gone bound = each_same (IsFree entered w) (order ++ ready) each (IsFree entered after_go) kept_free
        (λ x free. back_free x free (λ same. bound (subst (WaitsForNone after_go) same free.1)))

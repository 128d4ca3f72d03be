-- Who waits for whom of those that have entered, and which are ready: kept by each event of a run, and so one that is ready may begin,
-- and where none is, none may.
use Rattle.std.proofs.Common.{◌≡◌, ◌≢◌, ℕ, suc, ◌-◌, ◌≤◌, inl, inr, Bool, true, false, List, [], ◌∷◌, ◌++◌, length, map, replicate, set, get_or, All, Contains, ap, sym, ◌∙◌, subst, arith, get_or-set_same, get_or-set_other, length-set}
use Rattle.std.specs.Prelude.{◌↔◌}
use Rattle.std.specs.List.Sorted.{IsPermutation}
use Rattle.std.proofs.lemmas.Bool.{cases_eq, false≢true}
use Rattle.std.proofs.lemmas.List.{append-nil, append_assoc, get_or-replicate, get_or_default, length-map, length-replicate}
use Rattle.std.proofs.lemmas.List.Elements.{All-contains_itself, All-map, All-weaker, Contains-append_left, Contains-append_right, Contains-get_or, Contains-push}
use Rattle.std.proofs.lemmas.List.Sorted.{IsPermutation-append_right}
use Rattle.waff_assign.specs.Held.{ExcludeEachOther}
use Rattle.waff_assign.specs.Order.{held_of}
use Rattle.waff_model.specs.declared.preorder.Span.{Span}
use Rattle.waff_order.specs.Joined.{Joined}
use Rattle.waff_order.specs.Needs.{IsNeed, needs_of}
use Rattle.waff_waits.specs.Times.{AreEach}
use Rattle.waff_waits.specs.Waits.{AreWaits, Enters, HasFinished, IsFree, WaitsForNone, WhoWaits, waiting_for}
use Rattle.waff_waits.proofs.Each.{contains_map, contains_mapped, each_apart, each_moved, each_there, none_there, one_of}
use Rattle.waff_waits.proofs.Waiting.{after_finish, bound_entered, finished_here, finished_there, free_entered, free_over, over_free, waits_entered, waits_finished, waits_none}
use Rattle.waff_plan.specs.Order.{Serves}
use Rattle.waff_plan.specs.Work.{IsAmongFirst}
use Rattle.waff_line.specs.Entered.{AreDue, ArePlaced, AreWaiting, HaveNoneCome, IsReadied, needs_at}
use Rattle.waff_line.specs.Lined.{IsLined, served_at}
use Rattle.waff_line.specs.Machine.{Course, IsCourse, State, Turn, HasBegun, HasEnded, IsClear, IsFree as IsFreeWorker, IsRunning, MayBegin, NobodyMayBegin, begun_on, ended_at, issue_in, key_in, measured, opening, told}
use Rattle.waff_line.proofs.Lining.{clear_at, held_at, one_first}
use Rattle.waff_line.proofs.Sound.{Sound, begun_other, begun_same, begun_self, ended_other, ended_self, worker_same}
use Rattle.waff_line.proofs.Turns.{begun_number, none_begun, none_ended}

-- the places of those that have joined
module _ (course : Course) (s : State) (spans : List Span) (joining : Joined) (messages : List ℕ) (late : List (ℕ × ℕ))
    (line : IsLined course s spans joining messages late) where
  pub there_at : (p : ℕ) → IsAmongFirst (length messages) p → Contains messages (served_at messages p)
  there_at p number = Contains-get_or messages (p - 1) 0 (omega (arith, number.from, number.to))

  -- a need stands at an earlier place
  pub need_place : (p q : ℕ) → IsAmongFirst (length messages) p → IsNeed joining.needs q p → IsAmongFirst (length messages) q
  need_place p q number need =
      record { from = line.joined.lists.from q p need; to = omega (arith, line.joined.lists.earlier q p need, number.to) }

  pub needs_count : length joining.needs ≡ length messages
  needs_count = line.joined.needs.count ∙ length-map messages (held_of course.assigned)

  pub needs_numbers : (p : ℕ) → IsAmongFirst (length messages) p → All (IsAmongFirst course.work.count) (needs_at messages joining.needs p)
  needs_numbers p number =
      let list = needs_of joining.needs p in
      All-map (IsAmongFirst course.work.count) (served_at messages) list
      (All-weaker (Contains list) (λ q. IsAmongFirst course.work.count (served_at messages q))
      (λ q listed. (line.each (served_at messages q) (there_at q (need_place p q number (record { from = number.from; listed = listed })))).0) list
      (All-contains_itself list))

-- one that joins
module _ (course : Course) (s : State) (joined : Joined) (messages entered : List ℕ) (w : WhoWaits) (ready : List ℕ)
    (h : AreWaiting course s joined messages entered w ready) where
  module _ (m : ℕ) (number : IsAmongFirst course.work.count m) (new : Contains entered m → ⊥) (from_one : (x : ℕ) → Contains entered x → 1 ≤ x)
      (after : Joined) (more : List ℕ) (place : ℕ)
      (kept : (p : ℕ) → IsAmongFirst (length more) p → Contains entered (served_at more p)
      → IsAmongFirst (length messages) p × ((served_at messages p ≡ served_at more p) × (needs_at messages joined.needs p ≡ needs_at more after.needs p)))
      (sole : (p : ℕ) → IsAmongFirst (length more) p → served_at more p ≡ m → p ≡ place)
      (now : WhoWaits) (enters : Enters w m (needs_at more after.needs place) now) (ready_now : List ℕ) (readied : IsReadied now m ready ready_now) where
    abbrev list : List ℕ
    list = needs_at more after.needs place

    abbrev needs : List (List ℕ)
    needs = set h.needs (m - 1) list

    here : needs_of needs m ≡ list
    here = get_or-set_same h.needs (m - 1) list [] (omega (arith, number.from, number.to, h.count))

    others : (x : ℕ) → 1 ≤ x → x ≢ m → needs_of needs x ≡ needs_of h.needs x
    others x from other = get_or-set_other h.needs (m - 1) (x - 1) list [] (omega (arith, from, other, number.from))

    long : length needs ≡ length h.needs
    long = length-set h.needs (m - 1) list

    enters_here : Enters w m (needs_of needs m) now
    enters_here = subst (λ ys. Enters w m ys now) (sym here) enters

    told_more : (p : ℕ) → IsAmongFirst (length more) p → Contains (entered ++ m ∷ []) (served_at more p)
        → needs_of needs (served_at more p) ≡ needs_at more after.needs p
    told_more p among there = elim (one_of entered m (served_at more p) there) [
      | inr same ↦ ap (needs_of needs) same ∙ here ∙ ap (needs_at more after.needs) (sym (sole p among same))
      | inl was ↦
          let old = kept p among was in
          let other : served_at more p ≢ m = λ same. new (subst (Contains entered) same was) in
          others (served_at more p) (from_one (served_at more p) was) other ∙ ap (needs_of h.needs) (sym old.1.0)
          ∙ h.told p old.0 (subst (Contains entered) (sym old.1.0) was) ∙ old.1.1
    ]

    pub waiting_entered : AreWaiting course s after more (entered ++ m ∷ []) now ready_now
    waiting_entered = record {
      needs = needs;
      begun = h.begun;
      count = long ∙ h.count;
      waits = waits_entered entered h.needs w h.waits needs m now new from_one long others enters_here;
      told = told_more;
      ended = λ i known. subst (λ (marks : List Bool). (get_or marks (i - 1) false ≡ true) ↔ HasEnded s i) (sym enters.finished) (h.ended i known);
      began = h.began;
      each = elim readied [
        | inl free ↦ free_entered entered h.needs w h.waits needs m now new from_one long others enters_here h.begun ready h.each ready_now free.1 free.0
        | inr bound ↦
            subst (λ rs. AreEach (IsFree (entered ++ m ∷ []) now) (h.begun ++ rs)) (sym bound.1)
            (bound_entered entered h.needs w h.waits needs m now new from_one long others enters_here h.begun ready h.each bound.0)
      ];
    }

  -- the machine is told the time
  pub waiting_told : (now : ℕ) → AreWaiting course (told s now) joined messages entered w ready
  waiting_told now = record {
    needs = h.needs;
    begun = h.begun;
    count = h.count;
    waits = h.waits;
    told = h.told;
    ended = h.ended;
    began = h.began;
    each = h.each;
  }

  -- one that was ready begins
  pub waiting_begun : (x m : ℕ) → Sound course s → MayBegin course s x m → (rest : List ℕ) → IsPermutation ready (m ∷ rest)
      → AreWaiting course (begun_on s x m) joined messages entered w rest
  waiting_begun x m sound may rest popped =
      let t = begun_on s x m in
      record {
        needs = h.needs;
        begun = h.begun ++ m ∷ [];
        count = h.count;
        waits = h.waits;
        told = h.told;
        ended = λ i number. (
          λ over. let ended = (h.ended i number).0 over in ap (λ (turn : Turn). turn.ended) (begun_same course s x m sound may i ended) ∙ ended,
          λ ended.
              let other : i ≢ m = λ is. false≢true (sym (ap (λ (turn : Turn). turn.ended) (begun_self course s x m sound may)) ∙ subst (HasEnded t) is ended) in
              (h.ended i number).1 (sym (ap (λ (turn : Turn). turn.ended) (begun_other course s x m sound may i other)) ∙ ended),
        );
        began = λ i number. elim (cases_eq i m) [
          | inl is ↦ (
            λ begun. subst (Contains (h.begun ++ m ∷ [])) (sym is) (Contains-push h.begun m),
            λ there. subst (HasBegun t) (sym is) (omega (arith, may.worker.from, ap (λ (turn : Turn). turn.worker) (begun_self course s x m sound may))),
          )
          | inr other ↦
              let same = ap (λ (turn : Turn). turn.worker) (begun_other course s x m sound may i other) in (
                λ begun. Contains-append_left h.begun (m ∷ []) i ((h.began i number).0 (omega (arith, begun, same))),
                λ there. elim (one_of h.begun m i there) [
                  | inl was ↦ let begun = (h.began i number).1 was in omega (arith, begun, same)
                  | inr is ↦ absurd (other is)
                ],
              )
        ];
        each = subst (AreEach (IsFree entered w)) (sym (append_assoc h.begun (m ∷ []) rest))
            (each_moved (IsFree entered w) (h.begun ++ ready) h.each (h.begun ++ m ∷ rest) (IsPermutation-append_right h.begun ready (m ∷ rest) popped));
      }

  -- one ends, and those that waited for it are let go
  pub waiting_ended : (is : IsCourse course) (m now : ℕ) → Sound course s → (running : IsRunning s m) → (after : WhoWaits) (ready_now : List ℕ)
      → after ≡ record { awaited = set w.awaited (m - 1) []; finished = set w.finished (m - 1) true }
      → ((entered begun : List ℕ) → ((d : ℕ) → Contains (waiting_for w m) d → Contains entered d) → AreEach (IsFree entered w) (begun ++ ready)
      → AreEach (IsFree entered after) (begun ++ ready_now)) → AreWaiting course (ended_at s m now) joined messages entered after ready_now
  waiting_ended is m now sound running after ready_now gone goes =
      let t = ended_at s m now in
      let known = begun_number s m running.begun in
      let place : IsAmongFirst (length w.awaited) m = record { from = known.from; to = omega (arith, known.to, sound.many, h.waits.count, h.count) } in
      record {
        needs = h.needs;
        begun = h.begun;
        count = h.count;
        waits = subst (AreWaits entered h.needs) (sym gone) (waits_finished entered h.needs w h.waits m place);
        told = h.told;
        ended = λ i number. subst (λ (u : WhoWaits). HasFinished u i ↔ HasEnded t i) (sym gone) (elim (cases_eq i m) [
          | inl same ↦ (
            λ over. subst (HasEnded t) (sym same) (ap (λ (turn : Turn). turn.ended) (ended_self course is s m now sound running)),
            λ ended. subst (HasFinished (after_finish entered h.needs w h.waits m place)) (sym same) (finished_here entered h.needs w h.waits m place),
          )
          | inr other ↦
              let turn = ap (λ (turn : Turn). turn.ended) (ended_other course is s m now sound running i other) in
              let mark = finished_there entered h.needs w h.waits m place i number.from other in (
                λ over. turn ∙ (h.ended i number).0 (sym mark ∙ over),
                λ ended. mark ∙ (h.ended i number).1 (sym turn ∙ ended),
              )
        ]);
        began = λ i number.
            let same = worker_same course is s m now sound running i in (
              λ begun. (h.began i number).0 (omega (arith, begun, same)),
              λ there. let begun = (h.began i number).1 there in omega (arith, begun, same),
            );
        each = goes entered h.begun (h.waits.only m) h.each;
      }

-- when a run begins none has entered
pub waiting_opening : (course : Course) (joined : Joined) (messages : List ℕ) (w : WhoWaits) (ready : List ℕ) (count : ℕ) → course.work.count ≡ count
    → w ≡ record { awaited = replicate count []; finished = replicate count false } → ready ≡ []
    → AreWaiting course (opening course) joined messages [] w ready
waiting_opening course joined messages w ready count many is none =
    let nothing : List ℕ = [] in
    let needs = replicate count nothing in
    record {
      needs = needs;
      begun = [];
      count = length-replicate count nothing ∙ sym many;
      waits = subst (AreWaits [] needs) (sym is) (waits_none needs count (length-replicate count nothing));
      told = λ p among there. absurd (none_there (served_at messages p) there);
      ended = λ i number. (
        λ over.
            let unmarked = get_or-replicate count (i - 1) false false (omega (arith, number.from, number.to, many)) in
            absurd (false≢true (sym unmarked ∙ subst (λ (u : WhoWaits). HasFinished u i) is over)),
        λ ended. absurd (none_ended course i ended),
      );
      began = λ i number. (λ begun. absurd (none_begun course i begun), λ there. absurd (none_there i there));
      each = subst (λ rs. AreEach (IsFree [] w) ([] ++ rs)) (sym none)
          (record { only = λ i there. absurd (none_there i there); each = λ i free. absurd (none_there i free.0) });
    }

-- one that waits for none is clear, and one that is clear waits for none
module _ (course : Course) (s : State) (spans : List Span) (joining : Joined) (messages : List ℕ) (late : List (ℕ × ℕ))
    (line : IsLined course s spans joining messages late) (entered : List ℕ) (due : List (ℕ × ℕ)) (are : AreDue course s entered due)
    (placed : ArePlaced course.version course.work.count messages entered) (w : WhoWaits) (ready : List ℕ)
    (h : AreWaiting course s joining messages entered w ready) where
  -- the place of a message
  place_of : (m : ℕ) → Contains messages m → (p : ℕ) × (IsAmongFirst (length messages) p × (served_at messages p ≡ m))
  place_of m (k, within, is) =
      let at : suc k - 1 ≡ k = omega arith in (
        suc k,
        (record { from = omega arith; to = omega (arith, within) }, ap (λ n. get_or messages n 0) at ∙ get_or_default messages k 0 m within ∙ is),
      )

  earlier : (p q : ℕ) → IsAmongFirst (length messages) p → IsNeed joining.needs q p → IsAmongFirst (length messages) q
  earlier = need_place course s spans joining messages late line

  there : (p : ℕ) → IsAmongFirst (length messages) p → Contains messages (served_at messages p)
  there = there_at course s spans joining messages late line

  module _ (m : ℕ) (is_in : Contains entered m) where
    abbrev at : (p : ℕ) × (IsAmongFirst (length messages) p × (served_at messages p ≡ m))
    at = place_of m (placed.there m is_in)

    told_at : needs_of h.needs m ≡ needs_at messages joining.needs at.0
    told_at = ap (needs_of h.needs) (sym at.1.1) ∙ h.told at.0 at.1.0 (subst (Contains entered) (sym at.1.1) is_in)

    from : 1 ≤ m
    from = (are.come m is_in).number.from

    -- a need of it, by the places
    need_at : (i : ℕ) → IsNeed h.needs i m → (q : ℕ) × (IsNeed joining.needs q at.0 × (served_at messages q ≡ i))
    need_at i need =
        let one = contains_mapped (served_at messages) (needs_of joining.needs at.0) i (subst (λ xs. Contains xs i) told_at need.listed) in
        (one.0, (record { from = at.1.0.from; listed = one.1 }, one.2))

    need_number : (i : ℕ) → IsNeed h.needs i m → IsAmongFirst course.work.count i
    need_number i need =
        let (q, is) = need_at i need in
        subst (IsAmongFirst course.work.count) is.1 (line.each (served_at messages q) (there q (earlier at.0 q at.1.0 is.0))).0

    pub clear_free : Sound course s → WaitsForNone w m → IsClear course s m
    clear_free sound none =
        let over = free_over entered h.needs w h.waits m from is_in (λ i need. (need_number i need).from) none in
        let done : (q : ℕ) → IsNeed joining.needs q at.0 → HasEnded s (served_at messages q) = λ q need.
        let listed = contains_map (served_at messages) (needs_of joining.needs at.0) q need.listed in
        let needed : IsNeed h.needs (served_at messages q) m = record { from = from; listed = subst (λ xs. Contains xs (served_at messages q)) (sym told_at) listed } in
        (h.ended (served_at messages q) (need_number (served_at messages q) needed)).0 (over (served_at messages q) needed) in
        subst (IsClear course s) at.1.1 (clear_at course s spans joining messages late line sound at.0 at.1.0 done)

    -- what it needs is served before it
    serves : (q : ℕ) → IsNeed joining.needs q at.0 → Serves course.tree course.assigned (measured course s) (key_in course s) (served_at messages q) m
    serves q need =
        let p = at.0 in
        let at_q = earlier p q at.1.0 need in
        let ordered = line.joined.needs.ordered q p need in
        let less = line.joined.lists.earlier q p need in
        subst (λ n. Serves course.tree course.assigned (measured course s) (key_in course s) (served_at messages q) n) at.1.1 (record {
          first = (line.each (served_at messages q) (there q at_q)).0;
          second = (line.each (served_at messages p) (there p at.1.0)).0;
          precedes = elim (one_first (key_in course s) (served_at messages q) (served_at messages p)) [
            | inl before ↦ before
            | inr (inl same) ↦ absurd (placed.apart (q - 1) (p - 1) (omega (arith, at_q.from, less)) (omega (arith, at.1.0.from, at.1.0.to)) same)
            | inr (inr after) ↦ absurd (line.sorted (q - 1) (p - 1) (omega (arith, at_q.from, less)) (omega (arith, at.1.0.from, at.1.0.to)) after)
          ];
          excludes = subst (λ held. ExcludeEachOther course.tree held (held_of course.assigned (served_at messages p)))
              (held_at course s spans joining messages late line q at_q.from at_q.to)
              (subst (λ held. ExcludeEachOther course.tree (held_of (map (held_of course.assigned) messages) q) held)
              (held_at course s spans joining messages late line p at.1.0.from at.1.0.to) ordered.excludes);
        })

    pub free_clear : IsClear course s m → WaitsForNone w m
    free_clear clear =
        over_free entered h.needs w h.waits m from is_in (λ i need.
        let (q, is) = need_at i need in
        let number = need_number i need in
        let issued = (line.each (served_at messages q) (there q (earlier at.0 q at.1.0 is.0))).1 in
        (h.ended i number).1 (subst (HasEnded s) is.1 (clear (served_at messages q) issued (serves q is.0))))

  -- one that is ready may begin on a worker that is free
  pub ready_may : Sound course s → (x m : ℕ) → Contains ready m → IsAmongFirst course.workers x → IsFreeWorker s x → MayBegin course s x m
  ready_may sound x m listed worker free =
      let is = h.each.only m (Contains-append_right h.begun ready m listed) in
      let known = are.come m is.0 in
      record {
        worker = worker;
        free = free;
        number = known.number;
        waits = λ begun. each_apart (IsFree entered w) h.begun ready h.each m ((h.began m known.number).0 begun) listed;
        issued = known.issued;
        come = known.come;
        clear = clear_free m is.0 sound is.1;
      }

  -- and where none is ready and none is to come, none may begin
  pub none_may : ready ≡ [] → HaveNoneCome course.version s.clock due → (x : ℕ) → NobodyMayBegin course s x
  none_may none come x n may = elim (are.known n may.number may.issued) [
    | inr is_due ↦ come (issue_in course s n, n) is_due may.come
    | inl is_in ↦
        let listed = each_there (IsFree entered w) (h.begun ++ ready) h.each n (is_in, free_clear n is_in may.clear) in
        let begun = subst (λ xs. Contains xs n) (ap (λ rs. h.begun ++ rs) none ∙ append-nil h.begun) listed in
        may.waits ((h.began n may.number).1 begun)
  ]

-- A list plan while it is made: one message more is placed, the tick has been filled, and the next tick begins.
use Rattle.std.proofs.Common.{◌≡◌, ◌≢◌, ℕ, zero, suc, ◌+◌, ◌-◌, ◌^◌, ◌<◌, ◌≤◌, ◌⊎◌, inl, inr, List, [], ◌∷◌, ◌++◌, length, map, get_or, set, replicate, All, Contains, arith, ap, sym, ◌∙◌, subst, get_or-set_same, get_or-set_other, length-set}
use Rattle.std.specs.List.Sorted.{IsPermutation}
use Rattle.std.proofs.lemmas.Bool.{cases_lt, cases_eq}
use Rattle.std.proofs.lemmas.List.{get_or-replicate, length-replicate}
use Rattle.std.proofs.lemmas.List.Elements.{All-nil, All-push, All-weaker, All-get_or, All-contains, Contains-append_left, Contains-append_cases, Contains-push}
use Rattle.std.proofs.lemmas.List.Quantifiers.{all_pairs_push}
use Rattle.waff_assign.specs.Order.{Relation}
use Rattle.waff_plan.specs.Work.{Work, IsNumber, IsAmongFirst, finish_of, issue_of}
use Rattle.waff_plan.specs.Workers.{runs_at, running}
use Rattle.waff_plan.specs.Timing.{start_of}
use Rattle.waff_list.specs.ListRule.{IsReady, IsListPlan}
use Rattle.waff_list.specs.Placed.{Placed}
use Rattle.waff_list.specs.Seats.{ComesBefore, HoldsWorker, IsSeated}
use Rattle.waff_list.specs.Seating.{worker_of}
use Rattle.waff_list.specs.Progress.{IsSettled, IsOrderSoFar, IsProgressOf}
use Rattle.waff_waits.specs.Times.{AreEach}
use Rattle.waff_list.specs.Waiting.{AreManned, AreFinishes, Runs}
use Rattle.waff_plan.specs.declared.due.TheConstants.{NEVER}
use Rattle.waff_waits.proofs.Each.{each_there, each_moved, each_same, each_apart, contains_rest_of, contains_first, contains_map, contains_mapped, manned_more}
use Rattle.waff_list.proofs.TailLemmas.{IsAhead}
use Rattle.waff_list.proofs.Uniqueness.{AreAlike, AwaitsMessages}
use Rattle.waff_plan.proofs.Holding.{awaited-le-issue, same_issue}
use Rattle.waff_list.proofs.Running.{AreSeatedAt, runs_parts, runs_before_start, runs_after_finish, runs_from, runs_same, running_same, running_none, running_within, running_all, running_fewer}

-- the same numbers but at x, which has y
pub record IsMovedTo (old new : ℕ → ℕ) (x y : ℕ) : Type 0 where
  pub here : new x ≡ y
  pub others : (i : ℕ) → 1 ≤ i → i ≢ x → new i ≡ old i

-- what holds a worker still does, where both start as before
holds_same : (work : Work) (start later : ℕ → ℕ) (i m : ℕ) → start i ≡ later i → start m ≡ later m → HoldsWorker work start i m → HoldsWorker work later i m
holds_same work start later i m same_i same_m h = record {
  number = h.number;
  sooner = rw (same_i, same_m) at h.sooner;
  runs = rw (same_i, same_m) at h.runs;
}

module _ (before taken_first : Relation) (work : Work) (k : ℕ) (numbers : (i j : ℕ) → before i j → IsNumber work i × IsNumber work j)
    (awaited : AwaitsMessages work) where
  -- messages that run have been placed, so they have their workers
  pub seated_at : (start worker : ℕ → ℕ) (now turn end t : ℕ) → IsSettled before taken_first work k start worker now turn end → t ≤ now → AreSeatedAt work k start worker t
  seated_at start worker now turn end t h early = record {
    seated = λ m number runs. h.seated m number (omega (arith, (runs_parts work start t m runs).0));
    within = λ m number runs. h.within m number (omega (arith, (runs_parts work start t m runs).0));
  }

  -- the first of a pair is a message
  pub first_number : (i j : ℕ) → before i j → IsNumber work i
  first_number i j h = (numbers i j h).0

  pub second_number : (i j : ℕ) → before i j → IsNumber work j
  second_number i j h = (numbers i j h).1

  -- the turn goes on
  pub settled_skip : (start worker : ℕ → ℕ) (now turn next end : ℕ) → turn ≤ next
      → IsSettled before taken_first work k start worker now turn end → IsSettled before taken_first work k start worker now next end
  settled_skip start worker now turn next end on h = record {
    placed = h.placed;
    turns = λ m number is. omega (arith, h.turns m number is);
    issued = h.issued;
    ordered = h.ordered;
    seated = h.seated;
    within = h.within;
    busy = h.busy;
    in_turn = h.in_turn;
  }

  -- a message that is ready at now and has not been placed: k run, and it is taken before none that starts at now
  abbrev pub IsPassedOver : (ℕ → ℕ) → ℕ → Type 0
  IsPassedOver start now = (m : ℕ) → IsReady before work start now m → now < start m
      → (running work start now ≡ k) × ((other : ℕ) → IsNumber work other → taken_first m other → start other ≢ now)

  -- the tick has been filled
  pub settled_filled : (start worker : ℕ → ℕ) (now turn : ℕ) → IsPassedOver start now
      → IsSettled before taken_first work k start worker now turn now → IsSettled before taken_first work k start worker now turn (now + 1)
  settled_filled start worker now turn over h = record {
    placed = h.placed;
    turns = h.turns;
    issued = h.issued;
    ordered = h.ordered;
    seated = h.seated;
    within = h.within;
    busy = λ t m soon ready waits. elim (cases_lt t now) [
      | inl past ↦ h.busy t m past ready waits
      | inr here ↦ let same : t ≡ now = omega arith in rw same ((over m (rw same at ready) (rw same at waits)).0)
    ];
    in_turn = λ t m other soon ready waits number first is. elim (cases_lt t now) [
      | inl past ↦ h.in_turn t m other past ready waits number first is
      | inr here ↦ let same : t ≡ now = omega arith in (over m (rw same at ready) (rw same at waits)).1 other number first (is ∙ same)
    ];
  }

  -- from one tick to the next at which a message finishes or is issued
  pub settled_advance : (start worker : ℕ → ℕ) (now next : ℕ) → now < next → next < NEVER
      → ((m : ℕ) → IsNumber work m → (finish_of work start m ≤ now) ⊎ (next ≤ finish_of work start m))
      → ((m : ℕ) → IsNumber work m → (issue_of work start m ≤ now) ⊎ (next ≤ issue_of work start m))
      → IsSettled before taken_first work k start worker now (work.count + 1) (now + 1) → IsSettled before taken_first work k start worker next 1 next
  settled_advance start worker now next later short finishes issues h =
      let back : (m : ℕ) → IsNumber work m → start m ≤ next → start m ≤ now = λ m number is. elim (h.placed m number) [ inl early ↦ early | inr never ↦ absurd (omega arith) ] in
      record {
        placed = λ m number. elim (h.placed m number) [ inl early ↦ inl (omega arith) | inr never ↦ inr never ];
        turns = λ m number is. absurd (omega (arith, back m number (omega (arith, is))));
        issued = λ m number is. h.issued m number (back m number is);
        ordered = λ i j pair is. h.ordered i j pair (back j (second_number i j pair) is);
        seated = λ m number is. h.seated m number (back m number is);
        within = λ m number is. h.within m number (back m number is);
        busy = busy_between;
        in_turn = λ t m other soon ready waits number first is. elim (cases_lt t (now + 1)) [
          | inl old ↦ h.in_turn t m other old ready waits number first is
          | inr new ↦ omega (arith, back other number (omega (arith, is)))
        ];
      }
    where
      ready_at_now : (t m : ℕ) → now ≤ t → t < next → IsReady before work start t m → IsReady before work start now m
      ready_at_now t m from_now before_next ready = record {
        number = ready.number;
        issued = elim (issues m ready.number) [ inl early ↦ early | inr late ↦ absurd (omega (arith, late, ready.issued)) ];
        free = λ i pair. elim (finishes i (first_number i m pair)) [ inl early ↦ early | inr late ↦ absurd (omega (arith, ready.free i pair)) ];
      }

      runs_like_now : (t m : ℕ) → now ≤ t → t < next → IsNumber work m → runs_at work start t m ≡ runs_at work start now m
      runs_like_now t m from_now before_next number = elim (finishes m number) [
        | inl done ↦ runs_after_finish work start t m (omega arith) ∙ sym (runs_after_finish work start now m done)
        | inr still ↦ elim (h.placed m number) [
          | inl begun ↦ runs_from work start t m (omega arith) (omega arith) ∙ sym (runs_from work start now m begun (omega arith))
          | inr never ↦ runs_before_start work start t m (omega arith) ∙ sym (runs_before_start work start now m (omega arith))
        ]
      ]

      busy_between : (t m : ℕ) → t < next → IsReady before work start t m → t < start m → running work start t ≡ k
      busy_between t m past ready waits = elim (cases_lt t now) [
        | inl old ↦ h.busy t m (omega arith) ready waits
        | inr new ↦ running_same work start start t now (λ i i_number. runs_like_now t i new past i_number)
            ∙ h.busy now m (omega arith) (ready_at_now t m new past ready) (omega arith)
      ]

  -- where no message finishes later, all that are issued by now are placed
  module _ (start worker : ℕ → ℕ) (now : ℕ) (some : 1 ≤ k) (short : now < NEVER)
      (finishes : (m : ℕ) → IsNumber work m → start m ≤ now → finish_of work start m ≤ now) (ahead : IsAhead before work)
      (issued_too : (i m : ℕ) → before i m → issue_of work start m ≤ now → issue_of work start i ≤ now)
      (h : IsSettled before taken_first work k start worker now (work.count + 1) (now + 1)) where
    settled_from : (bound m : ℕ) → ahead.place m < bound → IsNumber work m → issue_of work start m ≤ now → start m ≤ now
    settled_from zero m less number issued = absurd (omega arith)
    settled_from (suc bound) m less number issued = elim (h.placed m number) [
      | inl early ↦ early
      | inr never ↦
          let ready : IsReady before work start now m = record {
            number = number;
            issued = issued;
            free = λ i pair.
                let first = first_number i m pair in
                finishes i first (settled_from bound i (omega (arith, less, ahead.earlier i m pair)) first (issued_too i m pair issued));
          } in
          let full = h.busy now m (omega arith) ready (omega arith) in
          let none = running_none work start now (λ i i_number. elim (h.placed i i_number) [
            | inl early ↦ runs_after_finish work start now i (finishes i i_number early)
            | inr other ↦ runs_before_start work start now i (omega arith)
          ]) in
          absurd (omega (arith, full, none))
    ]

    pub settled_all : (m : ℕ) → IsNumber work m → issue_of work start m ≤ now → start m ≤ now
    settled_all m = settled_from (suc (ahead.place m)) m (omega arith)

  -- the plan in which all messages are placed is a list plan
  pub settled_plan : (start worker : ℕ → ℕ) (now : ℕ) → ((m : ℕ) → IsNumber work m → start m ≤ now)
      → IsSettled before taken_first work k start worker now (work.count + 1) (now + 1) → IsListPlan before taken_first work k start
  settled_plan start worker now all h = record {
    within = record {
      obeys = record {
        issued = λ m number. h.issued m number (all m number);
        ordered = λ i j pair. h.ordered i j pair (all j (second_number i j pair));
      };
      within = λ t. running_within work k start worker t (record {
        seated = λ m number runs. h.seated m number (all m number);
        within = λ m number runs. h.within m number (all m number);
      });
    };
    follows = record {
      busy = λ t m ready waits. h.busy t m (soon t m ready waits) ready waits;
      in_turn = λ t m other ready waits. h.in_turn t m other (soon t m ready waits) ready waits;
    };
  }
    where
      soon : (t m : ℕ) → IsReady before work start t m → t < start m → t < now + 1
      soon t m ready waits = omega (arith, waits, all m ready.number)

  -- the worker of a message that runs, and where a worker is idle and where none is
  module _ (start worker : ℕ → ℕ) (now : ℕ) (finishes : List (ℕ × ℕ)) (run : AreFinishes work start now finishes) where
    its_worker : (m : ℕ) → IsNumber work m → start m ≤ now → now < finish_of work start m → Contains (map (λ r. worker r.1) finishes) (worker m)
    its_worker m number early late = contains_map (λ r. worker r.1) finishes (finish_of work start m, m) (run.each m number early late)

  module _ (start worker : ℕ → ℕ) (now turn end : ℕ) (settled : IsSettled before taken_first work k start worker now turn end) (finishes : List (ℕ × ℕ)) (idle : List ℕ)
      (run : AreFinishes work start now finishes) (manned : AreEach (IsAmongFirst k) (idle ++ map (λ r. worker r.1) finishes)) where
    pub all_run : idle ≡ [] → running work start now ≡ k
    all_run none = running_all work k start worker now (seated_at start worker now turn end now settled (omega arith))
        (λ w some less.
        let there = each_there (IsAmongFirst k) (idle ++ map (λ r. worker r.1) finishes) manned w (record { from = some; to = less }) in
        let busy = subst (λ free. Contains (free ++ map (λ r. worker r.1) finishes) w) none there in
        let one = contains_mapped (λ r. worker r.1) finishes w busy in
        let runs = All-contains (Runs work start now) finishes one.0 run.only one.1 in
        (one.0.1, runs.0, runs_from work start now one.0.1 runs.1 (subst (λ f. now < f) (sym runs.3) runs.2), one.2))

    pub room_left : (w : ℕ) → Contains idle w → running work start now < k
    room_left w free =
        let known = manned.only w (Contains-append_left idle (map (λ r. worker r.1) finishes) w free) in
        running_fewer work k start worker now (seated_at start worker now turn end now settled (omega arith)) w known.from known.to
        (λ m number runs same.
        let parts = runs_parts work start now m runs in
        each_apart (IsAmongFirst k) idle (map (λ r. worker r.1) finishes) manned w free
        (subst (λ v. Contains (map (λ r. worker r.1) finishes) v) same (its_worker start worker now finishes run m number parts.0 parts.1)))

  -- a list with one number changed
  moved_by_set : (xs : List ℕ) (x y : ℕ) → 1 ≤ x → x ≤ length xs → IsMovedTo (start_of xs) (start_of (set xs (x - 1) y)) x y
  moved_by_set xs x y from to = record {
    here = get_or-set_same xs (x - 1) y 0 (omega arith);
    others = λ i i_from other. let apart : i - 1 ≢ x - 1 = omega arith in get_or-set_other xs (x - 1) (i - 1) y 0 apart;
  }

  -- nothing is placed at the beginning
  pub never_at : (m : ℕ) → IsNumber work m → start_of (replicate work.count NEVER) m ≡ NEVER
  never_at m number =
      let from : 1 ≤ m = number.from in
      let to : m ≤ work.count = number.to in
      get_or-replicate work.count (m - 1) NEVER 0 (omega arith)

  module _ (start worker later seats : ℕ → ℕ) (now x w : ℕ) (number : IsNumber work x) (short : now < NEVER) (cost : 1 ≤ work.cost x)
      (moved : IsMovedTo start later x now) (sat : IsMovedTo worker seats x w)
      (unplaced : now < start x) (settled : IsSettled before taken_first work k start worker now x now) where
    never : start x ≡ NEVER
    never = elim (settled.placed x number) [ inl early ↦ absurd (omega arith) | inr is ↦ is ]

    kept : (m : ℕ) → IsNumber work m → m ≢ x → later m ≡ start m
    kept m m_number other = moved.others m m_number.from other

    kept_seat : (m : ℕ) → IsNumber work m → m ≢ x → seats m ≡ worker m
    kept_seat m m_number other = sat.others m m_number.from other

    at_x : later x ≡ now
    at_x = moved.here

    -- what was placed is another message
    pub placed_is_other : (m : ℕ) → start m ≤ now → m ≢ x
    placed_is_other m early same = omega (arith, ap start same)

    -- and comes before x
    before_x : (m : ℕ) → IsNumber work m → start m ≤ now → ComesBefore later m x
    before_x m m_number early = elim (cases_lt (start m) now) [
      | inl sooner ↦ inl (rw (kept m m_number (placed_is_other m early), at_x) sooner)
      | inr late ↦ inr (omega (arith, kept m m_number (placed_is_other m early), at_x), settled.turns m m_number (omega arith))
    ]

    -- what starts by now is x or was placed
    pub placed_cases : (m : ℕ) → IsNumber work m → later m ≤ now → (m ≡ x) ⊎ ((m ≢ x) × (start m ≤ now))
    placed_cases m m_number early = elim (cases_eq m x) [
      | inl same ↦ inl same
      | inr other ↦ inr (other, rw (kept m m_number other) at early)
    ]

    -- a message that holds its worker when one that was placed starts is not x
    holder_is_other : (i m : ℕ) → IsNumber work m → start m ≤ now → HoldsWorker work later i m → i ≢ x
    holder_is_other i m m_number early holds same =
        let m_at = kept m m_number (placed_is_other m early) in
        let i_at : later i ≡ now = ap later same ∙ at_x in
        elim holds.sooner [
          | inl sooner ↦ omega (arith, m_at)
          | inr both ↦ omega (arith, same, both.1, settled.turns m m_number (omega (arith, m_at, i_at, both.0)))
        ]

    -- those that were placed keep their workers
    pub seated_kept : (m : ℕ) → IsNumber work m → start m ≤ now → IsSeated work later seats m
    seated_kept m m_number early =
        let other = placed_is_other m early in
        let seat = settled.seated m m_number early in
        let m_at = kept m m_number other in
        record {
          from = rw (kept_seat m m_number other) seat.from;
          free = λ i holds same.
              let i_other = holder_is_other i m m_number early holds in
              seat.free i (holds_same work later start i m (kept i holds.number i_other) m_at holds)
              (sym (kept_seat i holds.number i_other) ∙ same ∙ kept_seat m m_number other);
          least = λ v some less.
              let there = seat.least v some (rw (kept_seat m m_number other) at less) in
              let i = there.0 in
              let holds = there.1 in
              let i_other = placed_is_other i (omega (arith, early, (runs_parts work start (start m) i holds.runs).0)) in
              (i, holds_same work start later i m (sym (kept i holds.number i_other)) (sym m_at) holds, kept_seat i holds.number i_other ∙ there.2);
        }

    -- what is issued by now in the new plan was issued then
    pub issue_back : (m t : ℕ) → t ≤ now → issue_of work later m ≤ t → issue_of work later m ≡ issue_of work start m
    issue_back m t early issued = same_issue work later start m (λ i is. elim (cases_eq i x) [
      | inl same ↦ absurd (omega (arith, awaited-le-issue work later i m is, issued, early, ap (finish_of work later) same, at_x, cost))
      | inr other ↦ kept i (awaited i m is) other
    ])

    -- and stays so
    pub issue_kept : (m t : ℕ) → t ≤ now → issue_of work start m ≤ t → issue_of work later m ≡ issue_of work start m
    issue_kept m t early issued = same_issue work later start m (λ i is. elim (cases_eq i x) [
      | inl same ↦ absurd (omega (arith, awaited-le-issue work start i m is, issued, early, ap (finish_of work start) same, never, short))
      | inr other ↦ kept i (awaited i m is) other
    ])

    -- what is ready in the new plan by now was ready
    pub ready_was : (near second : Relation) → AreAlike work before near taken_first second start later now
        → (t m : ℕ) → t ≤ now → IsReady near work later t m → IsReady before work start t m
    ready_was near second alike t m early ready = record {
      number = ready.number;
      issued = omega (arith, ready.issued, issue_back m t (omega arith) ready.issued);
      free = λ i pair.
          let near_pair = alike.before_to i m (omega (arith, early, ready.issued, issue_back m t early ready.issued)) pair in
          elim (cases_eq i x) [
            | inl same ↦ absurd (omega (arith, rw (same, at_x) at (ready.free i near_pair), cost))
            | inr other ↦ rw (kept i (first_number i m pair) other) at (ready.free i near_pair)
          ];
    }

    -- and what was ready at now is so still
    pub ready_still : (near second : Relation) → AreAlike work before near taken_first second start later now
        → (m : ℕ) → IsReady before work start now m → IsReady near work later now m
    ready_still near second alike m ready =
        let issued = issue_kept m now (omega arith) ready.issued in
        record {
          number = ready.number;
          issued = omega (arith, ready.issued, issued);
          free = λ i near_pair.
              let pair = alike.before_back i m (omega (arith, ready.issued, issued)) near_pair in
              let done = ready.free i pair in
              rw (kept i (first_number i m pair) (λ is_x. omega (arith, done, ap (finish_of work start) is_x, never, short))) done;
        }

    -- what is ready in the new plan by now, and waits, was ready and waited
    pub ready_back : (near second : Relation) → AreAlike work before near taken_first second start later now
        → (t m : ℕ) → t ≤ now → IsReady near work later t m → t < later m → IsReady before work start t m × (t < start m)
    ready_back near second alike t m early ready waits = (
      ready_was near second alike t m early ready,
      elim (cases_eq m x) [
        | inl same ↦ omega (arith, ap start same, never)
        | inr other ↦ rw (kept m ready.number other) at waits
      ],
    )

    -- what was placed is issued by now in the new plan too
    issued_placed : (m : ℕ) → IsNumber work m → start m ≤ now → issue_of work later m ≤ now
    issued_placed m m_number early =
        let was = settled.issued m m_number early in
        omega (arith, was, early, issue_kept m now (omega arith) (omega (arith, was, early)))

    running_back : (t : ℕ) → t < now → running work later t ≡ running work start t
    running_back t early = running_same work later start t t (λ m m_number. elim (cases_eq m x) [
      | inl same ↦ runs_before_start work later t m (omega (arith, ap later same, at_x)) ∙ sym (runs_before_start work start t m (omega (arith, ap start same, never)))
      | inr other ↦ runs_same work later start t m (kept m m_number other)
    ])

    -- so is x
    issued_by_now : issue_of work start x ≤ now → (m : ℕ) → IsNumber work m → later m ≤ now → issue_of work later m ≤ now
    issued_by_now issued m m_number early = elim (placed_cases m m_number early) [
      | inl same ↦ subst (λ y. issue_of work later y ≤ now) (sym same) (omega (arith, issue_kept x now (omega arith) issued, issued))
      | inr both ↦ issued_placed m m_number both.1
    ]

    -- x is placed at now on the worker w, where fewer than k ran
    pub settled_place : (near second : Relation) → ((i j : ℕ) → near i j → IsNumber work j) → AreAlike work before near taken_first second start later now
        → issue_of work start x ≤ now → ((i : ℕ) → before i x → finish_of work start i ≤ now) → running work start now < k
        → IsSeated work later seats x → w ≤ k → IsSettled near second work k later seats now (x + 1) now
    settled_place near second near_number alike issued free room seat within = record {
      placed = λ m m_number. elim (cases_eq m x) [
        | inl same ↦ inl (omega (arith, ap later same, at_x))
        | inr other ↦ rw (kept m m_number other) (settled.placed m m_number)
      ];
      turns = λ m m_number is. elim (cases_eq m x) [
        | inl same ↦ omega arith
        | inr other ↦ omega (arith, settled.turns m m_number (sym (kept m m_number other) ∙ is))
      ];
      issued = λ m m_number early. elim (placed_cases m m_number early) [
        | inl same ↦ subst (λ y. issue_of work later y ≤ later y) (sym same) (omega (arith, issue_kept x now (omega arith) issued, issued, at_x))
        | inr both ↦
            let was = settled.issued m m_number both.1 in
            omega (arith, issue_kept m (start m) both.1 was, was, kept m m_number both.0)
      ];
      ordered = λ i j near_pair early.
          let pair : before i j = alike.before_back i j (issued_by_now issued j (near_number i j near_pair) early) near_pair in
          let i_number = first_number i j pair in
          elim (placed_cases j (second_number i j pair) early) [
            | inl same ↦ rw (kept i i_number (λ is_x. omega (arith, free i (rw same at pair), ap (finish_of work start) is_x, never, short)), same, at_x) (free i (rw same at pair))
            | inr both ↦
                let there = settled.ordered i j pair both.1 in
                rw (kept i i_number (placed_is_other i (omega (arith, there, both.1))), kept j (second_number i j pair) both.0) there
          ];
      seated = λ m m_number early. elim (placed_cases m m_number early) [
        | inl same ↦ rw same seat
        | inr both ↦ seated_kept m m_number both.1
      ];
      within = λ m m_number early. elim (placed_cases m m_number early) [
        | inl same ↦ rw (same, sat.here) within
        | inr both ↦ rw (kept_seat m m_number both.0) (settled.within m m_number both.1)
      ];
      busy = λ t m soon ready waits.
          let was = ready_back near second alike t m (omega arith) ready waits in
          running_back t soon ∙ settled.busy t m soon was.0 was.1;
      in_turn = λ t m other soon ready waits other_number takes is.
          let was = ready_back near second alike t m (omega arith) ready waits in
          elim (cases_eq other x) [
            | inl same ↦ omega (arith, ap later same, at_x)
            | inr apart ↦
                let took = alike.first_back m other ready.number other_number (omega (arith, ready.issued, soon))
                (issued_placed other other_number (omega (arith, is, soon, kept other other_number apart))) takes in
                settled.in_turn t m other soon was.0 was.1 other_number took (sym (kept other other_number apart) ∙ is)
          ];
    }

    order_more : (order : List ℕ) → IsOrderSoFar work start now order → IsOrderSoFar work later now (order ++ x ∷ [])
    order_more order h = record {
      messages = All-push (λ m. IsNumber work m × (later m ≤ now)) order x
          (All-weaker (λ m. IsNumber work m × (start m ≤ now)) (λ m. IsNumber work m × (later m ≤ now))
          (λ m there. (there.0, rw (kept m there.0 (placed_is_other m there.1)) there.1)) order h.messages)
          (number, omega (arith, at_x));
      each = λ m m_number early. elim (placed_cases m m_number early) [
        | inl same ↦ rw same (Contains-push order x)
        | inr both ↦ Contains-append_left order (x ∷ []) m (h.each m m_number both.1)
      ];
      sorted = all_pairs_push (ComesBefore later) order x
          (λ i j d less inside.
          let first = All-get_or (λ m. IsNumber work m × (start m ≤ now)) order i d (omega arith) h.messages in
          let second = All-get_or (λ m. IsNumber work m × (start m ≤ now)) order j d inside h.messages in
          rw (kept (get_or order i d) first.0 (placed_is_other (get_or order i d) first.1), kept (get_or order j d) second.0 (placed_is_other (get_or order j d) second.1))
          (h.sorted i j d less inside))
          (λ i d inside.
          let first = All-get_or (λ m. IsNumber work m × (start m ≤ now)) order i d inside h.messages in
          before_x (get_or order i d) first.0 first.1);
    }

    -- the message is seated on the least worker that is idle
    seated_here : (finishes : List (ℕ × ℕ)) (idle : List ℕ) → AreFinishes work start now finishes
        → AreEach (IsAmongFirst k) ((w ∷ idle) ++ map (λ r. worker r.1) finishes) → ((v : ℕ) → Contains idle v → w ≤ v) → IsSeated work later seats x
    seated_here finishes idle run manned smallest =
        let run_at = λ (r : ℕ × ℕ). worker r.1 in
        let w_known = manned.only w (contains_first w (idle ++ map run_at finishes)) in
        record {
          from = rw sat.here w_known.from;
          free = λ i holds same.
              let parts = runs_parts work later (later x) i holds.runs in
              elim (placed_cases i holds.number (omega (arith, parts.0, at_x))) [
                | inl is_x ↦ elim holds.sooner [
                  | inl sooner ↦ omega (arith, ap later is_x)
                  | inr both ↦ omega (arith, both.1)
                ]
                | inr both ↦ each_apart (IsAmongFirst k) (w ∷ idle) (map run_at finishes) manned w (contains_first w idle)
                    (rw (sym (kept_seat i holds.number both.0) ∙ same ∙ sat.here) at
                    (its_worker start worker now finishes run i holds.number both.1 (omega (arith, parts.1, at_x, kept i holds.number both.0))))
              ];
          least = λ v some less.
              let there = each_there (IsAmongFirst k) ((w ∷ idle) ++ map run_at finishes) manned v (record { from = some; to = omega (arith, sat.here, less, w_known.to) }) in
              elim (Contains-append_cases (w ∷ idle) (map run_at finishes) v there) [
                | inl free ↦ elim (contains_rest_of w v idle free) [
                  | inl behind ↦ absurd (omega (arith, smallest v behind, sat.here, less))
                  | inr same ↦ absurd (omega (arith, sat.here, less))
                ]
                | inr busy ↦
                    let one = contains_mapped run_at finishes v busy in
                    let m = one.0.1 in
                    let runs = All-contains (Runs work start now) finishes one.0 run.only one.1 in
                    let m_at = kept m runs.0 (placed_is_other m runs.1) in (
                      m,
                      record {
                        number = runs.0;
                        sooner = before_x m runs.0 runs.1;
                        runs = runs_from work later (later x) m (omega (arith, m_at, at_x, runs.1)) (omega (arith, m_at, at_x, runs.2, runs.3));
                      },
                      kept_seat m runs.0 (placed_is_other m runs.1) ∙ one.2,
                    )
              ];
        }

  -- a message is placed on the least worker that is idle
  module _ (placed : Placed) (finishes : List (ℕ × ℕ)) (idle : List ℕ) (now x w : ℕ) (number : IsNumber work x) (short : now < NEVER) (cost : 1 ≤ work.cost x)
      (unplaced : now < start_of placed.starts x) (h : IsProgressOf before taken_first work k placed now x now) (run : AreFinishes work (start_of placed.starts) now finishes)
      (manned : AreManned k placed.seats finishes (w ∷ idle)) (smallest : (v : ℕ) → Contains idle v → w ≤ v) where
    abbrev pub more_placed : Placed
    more_placed = record { starts = set placed.starts (x - 1) now; seats = set placed.seats (x - 1) w; order = placed.order ++ x ∷ [] }

    pub moved_here : IsMovedTo (start_of placed.starts) (start_of more_placed.starts) x now
    moved_here = moved_by_set placed.starts x now number.from (omega (arith, number.to, h.starts_count))

    seated_there : IsMovedTo (worker_of placed.seats) (worker_of more_placed.seats) x w
    seated_there = moved_by_set placed.seats x w number.from (omega (arith, number.to, h.seats_count))

    pub progress_place : (near second : Relation) → ((i j : ℕ) → near i j → IsNumber work j)
        → AreAlike work before near taken_first second (start_of placed.starts) (start_of more_placed.starts) now
        → issue_of work (start_of placed.starts) x ≤ now → ((i : ℕ) → before i x → finish_of work (start_of placed.starts) i ≤ now) → IsProgressOf near second work k more_placed now (x + 1) now
    progress_place near second near_number alike issued free =
        let start = start_of placed.starts in
        let worker = worker_of placed.seats in
        let later = start_of more_placed.starts in
        let seats = worker_of more_placed.seats in
        let known = manned.only w (contains_first w (idle ++ map (λ r. worker_of placed.seats r.1) finishes)) in
        let room = room_left start worker now x now h.settled finishes (w ∷ idle) run manned w (contains_first w idle) in
        let seat = seated_here start worker later seats now x w number short cost moved_here seated_there unplaced h.settled finishes idle run manned smallest in
        record {
          starts_count = length-set placed.starts (x - 1) now ∙ h.starts_count;
          seats_count = length-set placed.seats (x - 1) w ∙ h.seats_count;
          settled = settled_place start worker later seats now x w number short cost moved_here seated_there unplaced h.settled near second near_number alike issued free room seat known.to;
          listed = order_more start worker later seats now x w number short cost moved_here seated_there unplaced h.settled placed.order h.listed;
        }

    -- what is issued by now in the new plan was issued then
    pub issue_was : (m t : ℕ) → t ≤ now → issue_of work (start_of more_placed.starts) m ≤ t → issue_of work (start_of more_placed.starts) m ≡ issue_of work (start_of placed.starts) m
    issue_was = issue_back (start_of placed.starts) (worker_of placed.seats) (start_of more_placed.starts) (worker_of more_placed.seats) now x w number short cost moved_here seated_there unplaced h.settled

    -- and stays so
    pub issue_stays : (m t : ℕ) → t ≤ now → issue_of work (start_of placed.starts) m ≤ t → issue_of work (start_of more_placed.starts) m ≡ issue_of work (start_of placed.starts) m
    issue_stays = issue_kept (start_of placed.starts) (worker_of placed.seats) (start_of more_placed.starts) (worker_of more_placed.seats) now x w number short cost moved_here seated_there unplaced h.settled

    -- the same are ready at now
    pub ready_place : (near second : Relation) → AreAlike work before near taken_first second (start_of placed.starts) (start_of more_placed.starts) now
        → (xs : List ℕ) → AreEach (IsReady before work (start_of placed.starts) now) xs → AreEach (IsReady near work (start_of more_placed.starts) now) xs
    ready_place near second alike xs each =
        let start = start_of placed.starts in
        let worker = worker_of placed.seats in
        let later = start_of more_placed.starts in
        let seats = worker_of more_placed.seats in
        each_same (IsReady before work start now) xs each (IsReady near work later now)
        (ready_still start worker later seats now x w number short cost moved_here seated_there unplaced h.settled near second alike)
        (λ m. ready_was start worker later seats now x w number short cost moved_here seated_there unplaced h.settled near second alike now m (omega arith))

    pub manned_place : (more : List (ℕ × ℕ)) → IsPermutation ((now + work.cost x, x) ∷ finishes) more → AreManned k more_placed.seats more idle
    manned_place more pushed =
        let kept : All (λ (r : ℕ × ℕ). worker_of placed.seats r.1 ≡ worker_of more_placed.seats r.1) finishes
        = All-weaker (Runs work (start_of placed.starts) now) (λ (r : ℕ × ℕ). worker_of placed.seats r.1 ≡ worker_of more_placed.seats r.1)
        (λ (r : ℕ × ℕ) runs. sym (seated_there.others r.1 runs.0.from (λ same. omega (arith, runs.1, ap (start_of placed.starts) same))))
        finishes run.only in
        each_moved (IsAmongFirst k) (w ∷ idle ++ map (λ r. worker_of placed.seats r.1) finishes) manned (idle ++ map (λ r. worker_of more_placed.seats r.1) more)
        (subst (λ v. IsPermutation (v ∷ idle ++ map (λ r. worker_of placed.seats r.1) finishes) (idle ++ map (λ r. worker_of more_placed.seats r.1) more)) seated_there.here
        (manned_more (λ r. worker_of placed.seats r.1) idle finishes (now + work.cost x, x) more (λ r. worker_of more_placed.seats r.1) kept pushed))

  -- nothing is placed yet
  pub progress_none : work.count ≤ 2 ^ 32 → IsProgressOf before taken_first work k (record { starts = replicate work.count NEVER; seats = replicate work.count 0; order = [] }) 0 1 0
  progress_none few =
      let not_placed : (m : ℕ) → IsNumber work m → start_of (replicate work.count NEVER) m ≤ 0 → ⊥ = λ m number early. omega (arith, never_at m number, early) in
      record {
        starts_count = length-replicate work.count NEVER;
        seats_count = length-replicate work.count 0;
        settled = record {
          placed = λ m number. inr (never_at m number);
          turns = λ m number is. absurd (not_placed m number (omega (arith, is)));
          issued = λ m number early. absurd (not_placed m number early);
          ordered = λ i j pair early. absurd (not_placed j (second_number i j pair) early);
          seated = λ m number early. absurd (not_placed m number early);
          within = λ m number early. absurd (not_placed m number early);
          busy = λ t m soon ready waits. absurd (omega arith);
          in_turn = λ t m other soon ready waits number first is. omega arith;
        };
        listed = record {
          messages = All-nil _;
          each = λ m number early. absurd (not_placed m number early);
          sorted = λ i j d less inside. absurd (omega arith);
        };
      }

  -- the turn goes on, and the tick has been filled
  pub progress_filled : (placed : Placed) (now turn : ℕ) → turn ≤ work.count + 1 → IsPassedOver (start_of placed.starts) now
      → IsProgressOf before taken_first work k placed now turn now → IsProgressOf before taken_first work k placed now (work.count + 1) (now + 1)
  progress_filled placed now turn on over h = record {
    starts_count = h.starts_count;
    seats_count = h.seats_count;
    settled = settled_filled (start_of placed.starts) (worker_of placed.seats) now (work.count + 1) over
        (settled_skip (start_of placed.starts) (worker_of placed.seats) now turn (work.count + 1) now on h.settled);
    listed = h.listed;
  }

  pub progress_skip : (placed : Placed) (now turn next : ℕ) → turn ≤ next → IsProgressOf before taken_first work k placed now turn now → IsProgressOf before taken_first work k placed now next now
  progress_skip placed now turn next on h = record {
    starts_count = h.starts_count;
    seats_count = h.seats_count;
    settled = settled_skip (start_of placed.starts) (worker_of placed.seats) now turn next now on h.settled;
    listed = h.listed;
  }

  -- on to the next tick at which a message finishes or is issued
  pub progress_advance : (placed : Placed) (now next : ℕ) (finishes : List (ℕ × ℕ)) → AreFinishes work (start_of placed.starts) now finishes
      → now < next → next < NEVER → All (λ r. next ≤ r.0) finishes
      → ((m : ℕ) → IsNumber work m → (issue_of work (start_of placed.starts) m ≤ now) ⊎ (next ≤ issue_of work (start_of placed.starts) m))
      → IsProgressOf before taken_first work k placed now (work.count + 1) (now + 1) → IsProgressOf before taken_first work k placed next 1 next
  progress_advance placed now next finishes run later short first issues h =
      let start = start_of placed.starts in
      let back : (m : ℕ) → IsNumber work m → start m ≤ next → start m ≤ now = λ m number is. elim (h.settled.placed m number) [ inl early ↦ early | inr never ↦ absurd (omega arith) ] in
      let ends : (m : ℕ) → IsNumber work m → (finish_of work start m ≤ now) ⊎ (next ≤ finish_of work start m) = λ m number. elim (h.settled.placed m number) [
        | inl early ↦ elim (cases_lt now (finish_of work start m)) [
          | inl late ↦ inr (All-contains (λ (r : ℕ × ℕ). next ≤ r.0) finishes (finish_of work start m, m) first (run.each m number early late))
          | inr done ↦ inl done
        ]
        | inr never ↦ inr (omega arith)
      ] in
      record {
        starts_count = h.starts_count;
        seats_count = h.seats_count;
        settled = settled_advance start (worker_of placed.seats) now next later short ends issues h.settled;
        listed = record {
          messages = All-weaker (λ m. IsNumber work m × (start m ≤ now)) (λ m. IsNumber work m × (start m ≤ next))
              (λ m there. (there.0, omega (arith, there.1))) placed.order h.listed.messages;
          each = λ m number is. h.listed.each m number (back m number is);
          sorted = h.listed.sorted;
        };
      }

-- A begin keeps the rule.
use Rattle.std.proofs.Common.{◌≡◌, ◌⊎◌, inl, inr, ⊎_elim, ℕ, ◌-◌, true, true≢false, List, [], Some, Contains, set, slice_index, refl, ap, sym, ◌∙◌, subst, arith, length-set}
use Rattle.std.proofs.lemmas.List.{get_or-set_same, get_or-set_other}
use Rattle.std.proofs.lemmas.Option.{same_Some}
use mathlib.Core.Option.{Option, some, none}
use mathlib.Core.Logic.{dite}
use native.Mathlib.Decide.{ℕ_discrete}
use lib.ListN.{get_elem?}
use Rattle.atomic_table.specs.Table.{Allows, State, stepped, homes_after, carried_after}
use Rattle.waff_order.specs.Needs.{IsNeed}
use Rattle.waff_cells.specs.Meaning.{Cells}
use Rattle.waff_cells.specs.Serial.{SameParcel, ops_of, serial}
use Rattle.waff_core.specs.Job.{JobValue, IsJob, IsIn, IsOwner, owners_of}
use Rattle.waff_core.specs.Machine.{Core, IsAway, IsClear, phase_of, begun_by}
use Rattle.waff_core.specs.declared.actors.Event.TheVariants.{Begin}
use Rattle.waff_core.specs.declared.actors.Phase.TheVariants.{Drawn, Running}
use Rattle.waff_core.proofs.Phases.{phase_same, phase_other}
use Rattle.waff_cells.specs.Parcel.{IsParcel}
use Rattle.waff_board.specs.Shows.{IsStatus, Words, Slots}
use Rattle.waff_board.specs.Seats.{HasSeen, Shown}
use Rattle.waff_board.specs.Rule.{Holds}
use Rattle.waff_board.specs.Plays.{Parcels, begun_view}
use Rattle.waff_board.specs.declared.view.Setup.{Setup}
use Rattle.waff_board.specs.declared.view.View.{View}
use Rattle.waff_board.proofs.Known.{Known, known}
use Rattle.waff_board.proofs.Nexts.{IsNext, holds_next}
use Rattle.waff_board.proofs.Moves.{Moves, phase_here, draws_stay, ran_stays, seats_moved}
use Rattle.waff_board.proofs.Phases.{IsStill, runs_after}
use Rattle.waff_board.proofs.Handing.{IsHome, Taken, take_all}

drawn_still : (m : ℕ) → IsStill (Drawn m)
drawn_still m n same = cc

-- a parcel of cells is one of other cells that are the same there
pub parcel_same : (job : JobValue) (a : ℕ) (one other : Cells) (numbers : List ℕ) → SameParcel job.layout.spaces a one other
    → IsParcel job.layout.spaces a one numbers → IsParcel job.layout.spaces a other numbers
parcel_same job a one other numbers same h = record {
  count = h.count;
  each = λ cell is_cell owned. h.each cell is_cell owned ∙ ap (λ n. Some n) (same cell is_cell owned);
}

-- the owners of a message
pub listed_owner : (job : JobValue) → IsJob job → (m a : ℕ) → IsIn job m → Contains (owners_of job.owners m) a
    → IsOwner job.layout.spaces (ops_of job.ops m) a
listed_owner job is m a within there = (((is.owners m within).each a)).0 there

pub owner_listed : (job : JobValue) → IsJob job → (m a : ℕ) → IsIn job m → IsOwner job.layout.spaces (ops_of job.ops m) a
    → Contains (owners_of job.owners m) a
owner_listed job is m a within owner = (((is.owners m within).each a)).1 owner

module _ (job : JobValue) (is : IsJob job) (seats : ℕ) (core : Core) (known : Known job seats core) (x m : ℕ)
    (holds : phase_of core.phases x ≡ Some (Drawn m)) (clear : IsClear job core m) where
  run_here : phase_of (begun_by core x m).phases x ≡ Some (Running m)
  run_here = phase_same core.phases x (Drawn m) (Running m) holds

  run_after : (y n : ℕ) → phase_of core.phases y ≡ Some (Running n) → phase_of (begun_by core x m).phases y ≡ Some (Running n)
  run_after = runs_after core.phases x (Drawn m) (Running m) holds (drawn_still m)

  -- who runs now runs message m as actor x, or ran before
  run_cases : (y n : ℕ) → phase_of (begun_by core x m).phases y ≡ Some (Running n)
      → ((y ≡ x) × (n ≡ m)) ⊎ (phase_of core.phases y ≡ Some (Running n))
  run_cases y n runs = dite (ℕ_discrete y x)
      (λ same. inl (
        same,
        message (same_Some (Running m) (Running n)
            (sym run_here ∙ subst (λ z. phase_of (begun_by core x m).phases z ≡ Some (Running n)) same runs)),
      ))
      (λ other. inr (sym (phase_other core.phases x y (Drawn m) (Running m) holds other) ∙ runs))
    where
      message : Running m ≡ Running n → n ≡ m
      message same = cc

  in_job : IsIn job m
  in_job = known.within x m (inl holds)

  words_begun : (words : List ℕ) → Words job core words → Words job (begun_by core x m) (set words m 1)
  words_begun words h = record {
    count = length-set words m 1 ∙ h.count;
    draws =
        let from = in_job.from in
        get_or-set_other words m 0 1 0 (λ none. omega (arith, none, from)) ∙ h.draws;
    statuses = λ n within. dite (ℕ_discrete n m)
        (λ same.
        let to = in_job.to in
        let count = h.count in
        let word : slice_index (set words m 1) n ≡ 1
        = subst (λ k. slice_index (set words m 1) k ≡ 1) (sym same) (get_or-set_same words m 1 0 (omega (arith, to, count))) in
        subst (IsStatus (begun_by core x m) n) (sym word)
        (record {
          done = (
            (λ two. absurd (omega (arith, two))),
            (λ done. absurd (true≢false (sym (subst (λ k. core.done k ≡ true) same done) ∙ known.undone x m (inl holds)))),
          );
          running = (
            (λ one. record { actor = x; running = subst (λ k. phase_of (begun_by core x m).phases x ≡ Some (Running k)) (sym same) run_here }),
            (λ run. refl),
          );
          known = omega arith;
        }))
        (λ other.
        let old : IsStatus core n (slice_index words n) = h.statuses n within in
        subst (IsStatus (begun_by core x m) n) (sym (get_or-set_other words m n 1 0 other))
        (record {
          done = old.done;
          running = (
            (λ one. let run = old.running.0 one in record { actor = run.actor; running = run_after run.actor n run.running }),
            (λ run. old.running.1 (record {
              actor = run.actor;
              running = ⊎_elim {C = phase_of core.phases run.actor ≡ Some (Running n)}
                  (λ (new : (run.actor ≡ x) × (n ≡ m)). absurd (other new.1))
                  (λ (was : phase_of core.phases run.actor ≡ Some (Running n)). was)
                  (run_cases run.actor n run.running);
            })),
          );
          known = old.known;
        }));
  }

  -- no owner of the message is away
  owners_home : (a : ℕ) → IsOwner job.layout.spaces (ops_of job.ops m) a → ¬ IsAway job core a
  owners_home a owner away =
      let same : m ≡ away.message = known.apart x away.actor m away.message a (inl holds) (inr away.running) clear
      (known.clear away.actor away.message away.running) owner away.owner in
      let actor : x ≡ away.actor = known.alone x away.actor m (inl holds)
      (inr (subst (λ n. phase_of core.phases away.actor ≡ Some (Running n)) (sym same) away.running)) in
      drawn_still m away.message (same_Some (Drawn m) (Running away.message)
      (sym holds ∙ subst (λ y. phase_of core.phases y ≡ Some (Running away.message)) (sym actor) away.running))

  module _ {S : Type 0} (items : S → List ℕ) (homes : List (Option S)) (h : Slots items job core homes) where
    parcel_home : (a : ℕ) → Contains (owners_of job.owners m) a
        → IsHome items job.layout.spaces (serial job.ops (m - 1)) homes a
    parcel_home a there =
        let owner : IsOwner job.layout.spaces (ops_of job.ops m) a = listed_owner job is m a in_job there in
        let slot = h.home a (known.affinity x m a (inl holds) owner) (owners_home a owner) in (
          slot.0,
          slot.1,
          parcel_same job a core.cells (serial job.ops (m - 1)) (items slot.0)
              (known.before x m a (inl holds) clear owner) slot.2,
        )

    pub taken : Taken items job.layout.spaces (serial job.ops (m - 1)) homes (owners_of job.owners m)
    taken = take_all items job.layout.spaces (serial job.ops (m - 1)) homes (owners_of job.owners m) (is.owners m in_job).once parcel_home

    slots_begun : (r : Taken items job.layout.spaces (serial job.ops (m - 1)) homes (owners_of job.owners m))
        → Slots items job (begun_by core x m) (homes_after homes [] r.act)
    slots_begun r = record {
      count = r.count ∙ h.count;
      home = λ a within not_away.
          let slot = h.home a within (λ away. not_away (record {
            actor = away.actor;
            message = away.message;
            running = run_after away.actor away.message away.running;
            owner = away.owner;
          })) in
          let other : ¬ Contains (owners_of job.owners m) a = (λ there. not_away (record {
            actor = x;
            message = m;
            running = run_here;
            owner = listed_owner job is m a in_job there;
          })) in
          (slot.0, r.same a other ∙ slot.1, slot.2);
      away = λ a away. ⊎_elim {C = get_elem? (homes_after homes [] r.act) a ≡ some none}
          (λ (new : (away.actor ≡ x) × (away.message ≡ m)).
          r.gone a (owner_listed job is m a in_job (subst (λ n. IsOwner job.layout.spaces (ops_of job.ops n) a) new.1 away.owner)))
          (λ (was : phase_of core.phases away.actor ≡ Some (Running away.message)).
          r.stays a (h.away a (record { actor = away.actor; message = away.message; running = was; owner = away.owner })))
          (run_cases away.actor away.message away.running);
    }

  moves_begun : Moves core x (begun_by core x m)
  moves_begun = record {
    others = λ y other. phase_other core.phases x y (Drawn m) (Running m) holds other;
    done = λ n done. done;
  }

  shown_begun : (v : View) → v.actor ≡ x → Shown job core v → Shown job (begun_by core x m) (begun_view v m)
  shown_begun v actor h = record {
    same = h.same;
    phase = subst (λ y. phase_of (begun_by core x m).phases y ≡ Some (Running m)) (sym actor) run_here;
    seen = h.seen;
  }

module _ {S : Type 0} (items : S → List ℕ) (setup : Setup) where
  -- words and views after a begin of a message that is clear
  pub begin_next : (s : State S View) (h : Holds items setup s) (id m : ℕ) (v : View) → get_elem? s.views id ≡ some v → v.phase ≡ Drawn m
      → IsClear setup.job h.core m
      → IsNext setup h.core (Begin v.actor) (begun_by h.core v.actor m) (set s.words m 1) (set s.views id (begun_view v m))
  begin_next s h id m v at is_drawn clear =
      let job = setup.job in
      let is = h.told.job in
      let core = h.core in
      let x = v.actor in
      let mine : Shown job core v = h.seats.each id v at in
      let holds : phase_of core.phases x ≡ Some (Drawn m) = phase_here setup core s.views h.seats id v at (Drawn m) is_drawn in
      let facts : Known job setup.seats core = known job is setup.seats h.events core h.reached in
      record {
        steps = (m, holds, clear, refl);
        words = words_begun job is setup.seats core facts x m holds clear s.words h.words;
        seats = seats_moved setup core (begun_by core x m) s.views id v (begun_view v m) at (moves_begun job is setup.seats core facts x m holds clear)
            h.seats refl refl (shown_begun job is setup.seats core facts x m holds clear v refl mine)
            (draws_stay setup core s.views id v at h.seats) (ran_stays setup core s.views id v at h.seats);
      }

  -- a seat that holds a message and has seen all its needs done may begin it
  pub begins : (slots id m : ℕ) (v : View) → v.phase ≡ Drawn m → ((i : ℕ) → IsNeed setup.job.needs i m → HasSeen v i)
      → Allows (Holds items setup) slots id (v, []) m (λ _. 1)
      (λ _ after. (after.0 ≡ begun_view v m) × Parcels items setup.job.layout.spaces (serial setup.job.ops (m - 1)) (owners_of setup.job.owners m) after.1)
  begins slots id m v is_drawn seen s h sized at small =
      let job = setup.job in
      let facts : Known job setup.seats h.core = known job h.told.job setup.seats h.events h.core h.reached in
      let clear : IsClear job h.core m = facts.enough m (λ i need. (h.seats.each id v at).seen i (seen i need)) in
      let holds = phase_here setup h.core s.views h.seats id v at (Drawn m) is_drawn in
      let r : Taken items job.layout.spaces (serial job.ops (m - 1)) s.homes (owners_of job.owners m)
      = taken job h.told.job setup.seats h.core facts v.actor m holds clear items s.homes h.slots in (
        begun_view v m,
        r.act,
        r.valid,
        holds_next items setup s (stepped s m 1 id [] (begun_view v m) r.act) h (Begin v.actor) (begun_by h.core v.actor m)
            (begin_next s h id m v at is_drawn clear)
            (slots_begun job h.told.job setup.seats h.core facts v.actor m holds clear items s.homes h.slots r),
        (refl, r.parcels),
      )

-- by the job of the view
pub begins_at : {S : Type 0} (items : S → List ℕ) (setup : Setup) (slots id m : ℕ) (v : View) → v.phase ≡ Drawn m
    → ((i : ℕ) → IsNeed v.job.needs i m → HasSeen v i)
    → Allows (Holds items setup) slots id (v, []) m (λ _. 1)
    (λ _ after. (after.0 ≡ begun_view v m) × Parcels items v.job.layout.spaces (serial v.job.ops (m - 1)) (owners_of v.job.owners m) after.1)
begins_at items setup slots id m v is_drawn seen s h sized at small =
    let same : v.job ≡ setup.job = (h.seats.each id v at).same in
    let r = begins items setup slots id m v is_drawn
    (subst (λ (job : JobValue). (i : ℕ) → IsNeed job.needs i m → HasSeen v i) same seen) s h sized at small in (
      r.0,
      r.1,
      r.2,
      r.3,
      (
        r.4.0,
        subst (λ (job : JobValue). Parcels items job.layout.spaces (serial job.ops (m - 1)) (owners_of job.owners m) (carried_after [] r.1)) (sym same) r.4.1,
      ),
    )

-- by what the seat holds
pub begins_with : {S : Type 0} (items : S → List ℕ) (setup : Setup) (slots id m : ℕ) (v : View) (held : List (ℕ × S)) → held ≡ [] → v.phase ≡ Drawn m
    → ((i : ℕ) → IsNeed v.job.needs i m → HasSeen v i)
    → Allows (Holds items setup) slots id (v, held) m (λ _. 1)
    (λ _ after. (after.0 ≡ begun_view v m) × Parcels items v.job.layout.spaces (serial v.job.ops (m - 1)) (owners_of v.job.owners m) after.1)
begins_with {S = S} items setup slots id m v held empty is_drawn seen =
    subst (λ (xs : List (ℕ × S)). Allows (Holds items setup) slots id (v, xs) m (λ _. 1)
    (λ _ after. (after.0 ≡ begun_view v m) × Parcels items v.job.layout.spaces (serial v.job.ops (m - 1)) (owners_of v.job.owners m) after.1))
    (sym empty) (begins_at items setup slots id m v is_drawn seen)

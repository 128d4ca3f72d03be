-- A finish keeps the rule.
use Rattle.std.proofs.Common.{◌≡◌, ◌≢◌, ◌⊎◌, inl, inr, ⊎_elim, ℕ, ◌==◌, ◌||◌, true, true≢false, List, [], ◌∷◌, ◌++◌, Some, AllPairs, Contains, set, slice_index, refl, ap, sym, ◌∙◌, subst, arith, length-set}
use Rattle.std.proofs.lemmas.List.{get_or-set_same, get_or-set_other}
use Rattle.std.proofs.lemmas.Option.{same_Some}
use mathlib.Core.Option.{Option, some, none}
use mathlib.Core.Logic.{dite}
use native.Mathlib.Decide.{ℕ_discrete}
use lib.ListN.{get_elem?}
use Rattle.atomic_table.specs.Table.{Allows, State, stepped, homes_after}
use Rattle.waff_cells.specs.Meaning.{meaning}
use Rattle.waff_cells.specs.Serial.{SameParcel, ops_of, serial}
use Rattle.waff_cells.proofs.MeaningLaws.{meaning_other}
use Rattle.waff_core.specs.Job.{JobValue, IsJob, IsIn, IsOwner, owners_of}
use Rattle.waff_core.specs.Machine.{Core, IsAway, IsClear, phase_of, ended_by}
use Rattle.waff_core.specs.declared.actors.Event.TheVariants.{End}
use Rattle.waff_core.specs.declared.actors.Phase.TheVariants.{Free, Running}
use Rattle.waff_core.proofs.Phases.{phase_same, phase_other}
use Rattle.waff_core.proofs.Settling.{done_this, done_kept, done_cases}
use Rattle.waff_board.specs.Shows.{IsStatus, Words, Slots}
use Rattle.waff_board.specs.Seats.{HasSeen, Shown}
use Rattle.waff_board.specs.Rule.{Holds}
use Rattle.waff_board.specs.Plays.{Parcels, finished_view}
use Rattle.waff_board.specs.declared.view.Setup.{Setup}
use Rattle.waff_board.specs.declared.view.View.{View}
use Rattle.waff_board.proofs.Known.{Known, known}
use Rattle.waff_board.proofs.Nexts.{IsNext, holds_next}
use Rattle.waff_board.proofs.Seen.{finish_cases}
use Rattle.waff_board.proofs.Listed.{Adds, adds_one, at_within}
use Rattle.waff_board.proofs.Moves.{Moves, phase_here, draws_stay, seats_moved}
use Rattle.waff_board.proofs.Owners.{decide_in}
use Rattle.waff_board.proofs.Phases.{IsStill, runs_before}
use Rattle.waff_board.proofs.Handing.{IsHome, Given, give_all, given}
use Rattle.waff_board.proofs.Begins.{parcel_same, listed_owner, owner_listed}

free_still : IsStill Free
free_still n same = cc

module _ (job : JobValue) (is : IsJob job) (seats : ℕ) (core : Core) (known : Known job seats core) (x m : ℕ)
    (runs : phase_of core.phases x ≡ Some (Running m)) where
  run_before : (y n : ℕ) → phase_of (ended_by job core x m).phases y ≡ Some (Running n) → phase_of core.phases y ≡ Some (Running n)
  run_before = runs_before core.phases x (Running m) Free runs free_still

  free_here : phase_of (ended_by job core x m).phases x ≡ Some Free
  free_here = phase_same core.phases x (Running m) Free runs

  same_message : (n : ℕ) → phase_of core.phases x ≡ Some (Running n) → n ≡ m
  same_message n too = message (same_Some (Running m) (Running n) (sym runs ∙ too))
    where
      message : Running m ≡ Running n → n ≡ m
      message same = cc

  -- who runs now ran before, another message
  run_other : (y n : ℕ) → phase_of (ended_by job core x m).phases y ≡ Some (Running n) → n ≢ m
  run_other y n now same =
      let actor : y ≡ x = known.alone y x m (inr (subst (λ k. phase_of core.phases y ≡ Some (Running k)) same (run_before y n now))) (inr runs) in
      free_still n (same_Some Free (Running n)
      (sym free_here ∙ subst (λ z. phase_of (ended_by job core x m).phases z ≡ Some (Running n)) actor now))

  -- who ran another message runs it still
  run_after : (y n : ℕ) → phase_of core.phases y ≡ Some (Running n) → n ≢ m → phase_of (ended_by job core x m).phases y ≡ Some (Running n)
  run_after y n was other =
      phase_other core.phases x y (Running m) Free runs
      (λ same. other (same_message n (subst (λ z. phase_of core.phases z ≡ Some (Running n)) same was))) ∙ was

  in_job : IsIn job m
  in_job = known.within x m (inr runs)

  clear : IsClear job core m
  clear = known.clear x m runs

  words_finished : (words : List ℕ) → Words job core words → Words job (ended_by job core x m) (set words m 2)
  words_finished words h = record {
    count = length-set words m 2 ∙ h.count;
    draws =
        let from = in_job.from in
        get_or-set_other words m 0 2 0 (λ none. omega (arith, none, from)) ∙ h.draws;
    statuses = λ n within. dite (ℕ_discrete n m)
        (λ same.
        let to = in_job.to in
        let count = h.count in
        let word : slice_index (set words m 2) n ≡ 2
        = subst (λ k. slice_index (set words m 2) k ≡ 2) (sym same) (get_or-set_same words m 2 0 (omega (arith, to, count))) in
        subst (IsStatus (ended_by job core x m) n) (sym word)
        (record {
          done = (
            (λ two. subst (λ k. (k == m || core.done k) ≡ true) (sym same) (done_this core m)),
            (λ done. refl),
          );
          running = (
            (λ one. absurd (omega (arith, one))),
            (λ run. absurd (run_other run.actor n run.running same)),
          );
          known = omega arith;
        }))
        (λ other.
        let old : IsStatus core n (slice_index words n) = h.statuses n within in
        subst (IsStatus (ended_by job core x m) n) (sym (get_or-set_other words m n 2 0 other))
        (record {
          done = (
            (λ two. done_kept core m n (old.done.0 two)),
            (λ done. ⊎_elim {C = slice_index words n ≡ 2}
                (λ (same : n ≡ m). absurd (other same)) (λ (was : core.done n ≡ true). old.done.1 was) (done_cases core m n done)),
          );
          running = (
            (λ one. let run = old.running.0 one in record { actor = run.actor; running = run_after run.actor n run.running other }),
            (λ run. old.running.1 (record { actor = run.actor; running = run_before run.actor n run.running })),
          );
          known = old.known;
        }));
  }

  module _ {S : Type 0} (items : S → List ℕ) (homes : List (Option S)) (h : Slots items job core homes) where
    away_here : (a : ℕ) → Contains (owners_of job.owners m) a → IsAway job core a
    away_here a there = record { actor = x; message = m; running = runs; owner = listed_owner job is m a in_job there }

    put : (held : List (ℕ × S)) → Parcels items job.layout.spaces (serial job.ops m) (owners_of job.owners m) held
        → Given items job.layout.spaces (serial job.ops m) homes (owners_of job.owners m) held
    put held parcels = given items job.layout.spaces (serial job.ops m) homes (owners_of job.owners m) held (is.owners m in_job).once parcels
        (λ a there. at_within homes a none (h.away a (away_here a there)))

    -- a cell of an affinity that owns none of the message's cells stays as it was
    cells_stay : (a : ℕ) → ¬ Contains (owners_of job.owners m) a
        → SameParcel job.layout.spaces a core.cells (meaning (ops_of job.ops m) core.cells)
    cells_stay a other cell is_cell owned = sym (meaning_other (ops_of job.ops m) core.cells cell
        (λ named. other (owner_listed job is m a in_job (record { cell = cell; named = named; owned = owned }))))

    slots_finished : (held : List (ℕ × S)) → Given items job.layout.spaces (serial job.ops m) homes (owners_of job.owners m) held
        → Slots items job (ended_by job core x m) (homes_after homes held (give_all held))
    slots_finished held r = record {
      count = r.count ∙ h.count;
      home = λ a within not_away. ⊎_elim {C = IsHome items job.layout.spaces (meaning (ops_of job.ops m) core.cells) (homes_after homes held (give_all held)) a}
          (λ (there : Contains (owners_of job.owners m) a).
          let slot = r.home a there in
          let same : SameParcel job.layout.spaces a (meaning (ops_of job.ops m) core.cells) (serial job.ops m)
          = known.after x m a (inr runs) clear (listed_owner job is m a in_job there) in (
            slot.0,
            slot.1,
            parcel_same job a (serial job.ops m) (meaning (ops_of job.ops m) core.cells) (items slot.0)
                (λ cell is_cell owned. sym (same cell is_cell owned)) slot.2,
          ))
          (λ (other : ¬ Contains (owners_of job.owners m) a).
          let slot = h.home a within (λ away. not_away (record {
            actor = away.actor;
            message = away.message;
            running = run_after away.actor away.message away.running
                (λ same. other (owner_listed job is m a in_job (subst (λ n. IsOwner job.layout.spaces (ops_of job.ops n) a) same away.owner)));
            owner = away.owner;
          })) in (
            slot.0,
            r.same a other ∙ slot.1,
            parcel_same job a core.cells (meaning (ops_of job.ops m) core.cells) (items slot.0) (cells_stay a other) slot.2,
          ))
          (decide_in (owners_of job.owners m) a);
      away = λ a away.
          let was : phase_of core.phases away.actor ≡ Some (Running away.message) = run_before away.actor away.message away.running in
          let other : ¬ Contains (owners_of job.owners m) a = (λ there.
          run_other away.actor away.message away.running
          (known.apart away.actor x away.message m a (inr was) (inr runs) (known.clear away.actor away.message was) clear
          away.owner (listed_owner job is m a in_job there))) in
          r.same a other ∙ h.away a (record { actor = away.actor; message = away.message; running = was; owner = away.owner });
    }

  moves_finished : Moves core x (ended_by job core x m)
  moves_finished = record {
    others = λ y other. phase_other core.phases x y (Running m) Free runs other;
    done = λ n done. done_kept core m n done;
  }

  -- the message comes to those that the seat has run
  ran_more : (xs : List ℕ) → ((n : ℕ) → Contains xs n → core.done n ≡ true) → AllPairs (λ i j. i ≢ j) xs
      → Adds (λ n. core.done n ≡ true) (λ n. (n == m || core.done n) ≡ true) xs (xs ++ m ∷ [])
  ran_more xs done once = adds_one (λ n. core.done n ≡ true) (λ n. (n == m || core.done n) ≡ true) xs m done once
      (λ is. true≢false (sym is ∙ known.undone x m (inr runs)))
      (done_this core m)
      (λ n is. done_kept core m n is)
      (λ n is. ⊎_elim {C = (core.done n ≡ true) ⊎ (m ≡ n)}
      (λ (same : n ≡ m). inr (sym same)) (λ (was : core.done n ≡ true). inl was) (done_cases core m n is))

  seen_finished : (v : View) → Shown job core v → (n : ℕ) → HasSeen (finished_view v m) n → (n == m || core.done n) ≡ true
  seen_finished v h n seen = ⊎_elim {C = (n == m || core.done n) ≡ true}
      (λ (old : HasSeen v n). done_kept core m n (h.seen n old))
      (λ (new : m ≡ n). subst (λ k. (k == m || core.done k) ≡ true) new (done_this core m))
      (finish_cases v m n seen)

  shown_finished : (v : View) → v.actor ≡ x → Shown job core v → Shown job (ended_by job core x m) (finished_view v m)
  shown_finished v actor h = record {
    same = h.same;
    phase = subst (λ y. phase_of (ended_by job core x m).phases y ≡ Some Free) (sym actor) free_here;
    seen = seen_finished v h;
  }

module _ {S : Type 0} (items : S → List ℕ) (setup : Setup) where
  -- words and views after a finish
  pub finish_next : (s : State S View) (h : Holds items setup s) (id m : ℕ) (v : View) → get_elem? s.views id ≡ some v → v.phase ≡ Running m
      → IsNext setup h.core (End v.actor) (ended_by setup.job h.core v.actor m) (set s.words m 2) (set s.views id (finished_view v m))
  finish_next s h id m v at is_running =
      let job = setup.job in
      let is = h.told.job in
      let core = h.core in
      let x = v.actor in
      let mine : Shown job core v = h.seats.each id v at in
      let runs : phase_of core.phases x ≡ Some (Running m) = phase_here setup core s.views h.seats id v at (Running m) is_running in
      let facts : Known job setup.seats core = known job is setup.seats h.events core h.reached in
      record {
        steps = (m, runs, refl);
        words = words_finished job is setup.seats core facts x m runs s.words h.words;
        seats = seats_moved setup core (ended_by job core x m) s.views id v (finished_view v m) at (moves_finished job is setup.seats core facts x m runs)
            h.seats refl refl (shown_finished job is setup.seats core facts x m runs v refl mine)
            (draws_stay setup core s.views id v at h.seats)
            (ran_more job is setup.seats core facts x m runs v.ran (h.seats.ran.only id v at) (h.seats.ran.once id v at));
      }

  -- a seat that runs a message, and has the parcels of the state after it, may finish it
  pub finishes : (slots id m : ℕ) (v : View) (held : List (ℕ × S)) → v.phase ≡ Running m
      → Parcels items setup.job.layout.spaces (serial setup.job.ops m) (owners_of setup.job.owners m) held
      → Allows (Holds items setup) slots id (v, held) m (λ _. 2) (λ _ after. after ≡ (finished_view v m, []))
  finishes slots id m v held is_running parcels s h sized at small =
      let job = setup.job in
      let runs = phase_here setup h.core s.views h.seats id v at (Running m) is_running in
      let facts : Known job setup.seats h.core = known job h.told.job setup.seats h.events h.core h.reached in
      let r : Given items job.layout.spaces (serial job.ops m) s.homes (owners_of job.owners m) held
      = put job h.told.job setup.seats h.core facts v.actor m runs items s.homes h.slots held parcels in (
        finished_view v m,
        give_all held,
        r.valid,
        holds_next items setup s (stepped s m 2 id held (finished_view v m) (give_all held)) h (End v.actor) (ended_by job h.core v.actor m)
            (finish_next s h id m v at is_running)
            (slots_finished job h.told.job setup.seats h.core facts v.actor m runs items s.homes h.slots held r),
        ap (λ (left : List (ℕ × S)). (finished_view v m, left)) r.none,
      )

-- by the job of the view
pub finishes_at : {S : Type 0} (items : S → List ℕ) (setup : Setup) (slots id m : ℕ) (v : View) (held : List (ℕ × S)) → v.phase ≡ Running m
    → Parcels items v.job.layout.spaces (serial v.job.ops m) (owners_of v.job.owners m) held
    → Allows (Holds items setup) slots id (v, held) m (λ _. 2) (λ _ after. after ≡ (finished_view v m, []))
finishes_at items setup slots id m v held is_running parcels s h sized at small =
    finishes items setup slots id m v held is_running
    (subst (λ (job : JobValue). Parcels items job.layout.spaces (serial job.ops m) (owners_of job.owners m) held) (h.seats.each id v at).same parcels)
    s h sized at small

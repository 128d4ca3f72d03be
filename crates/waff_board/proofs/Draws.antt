-- A draw keeps the rule.
use Rattle.std.proofs.Common.{◌≡◌, ◌≢◌, ◌⊎◌, inl, inr, ℕ, ◌+◌, ◌%◌, ◌^◌, ◌<◌, ◌≤◌, List, [], ◌∷◌, ◌++◌, Option, Some, None, AllPairs, Contains, length, set, slice_get, slice_index, refl, sym, ◌∙◌, subst, ⊎_elim, arith, length-set}
use Rattle.std.proofs.Math.Nat.{mod-eq_of_lt}
use Rattle.std.proofs.lemmas.List.{get_or-set_same, get_or-set_other}
use Rattle.std.proofs.lemmas.Bool.{cases_lt}
use mathlib.Core.Option.{some}
use lib.ListN.{get_elem?}
use Rattle.atomic_table.specs.Table.{Allows, State, keeps, stepped}
use Rattle.waff_core.specs.Job.{JobValue}
use Rattle.waff_core.specs.Machine.{Core, IsAway, Runs, opening, phase_of, phase_drawn, drawn_by}
use Rattle.waff_core.specs.declared.actors.Event.TheVariants.{Draw}
use Rattle.waff_core.specs.declared.actors.Phase.TheVariants.{Free, Running}
use Rattle.waff_board.specs.Shows.{IsStatus, Words, Slots}
use Rattle.waff_board.specs.Seats.{Shown, Seats}
use Rattle.waff_board.specs.Rule.{Holds}
use Rattle.waff_board.specs.Plays.{drawn_view}
use Rattle.waff_board.specs.declared.view.Setup.{Setup}
use Rattle.waff_board.specs.declared.view.View.{View}
use Rattle.waff_board.proofs.Known.{known}
use Rattle.waff_core.proofs.Reaching.{runs_more}
use Rattle.waff_core.proofs.Phases.{phase_same, phase_other}
use Rattle.waff_board.proofs.Phases.{IsStill, runs_before, runs_after}
use Rattle.waff_board.proofs.Listed.{Adds, adds_one}
use Rattle.waff_board.proofs.Nexts.{IsNext, holds_next}
use Rattle.waff_board.proofs.Moves.{Moves, phase_here, ran_stays, seats_moved}

free_still : IsStill Free
free_still n same = cc

drawn_still : (message : Option ℕ) → IsStill (phase_drawn message)
drawn_still (Some m) n same = cc
drawn_still None n same = cc

module _ (job : JobValue) (core : Core) (x : ℕ) (free : phase_of core.phases x ≡ Some Free) where
  run_before : (y n : ℕ) → phase_of (drawn_by job core x).phases y ≡ Some (Running n) → phase_of core.phases y ≡ Some (Running n)
  run_before = runs_before core.phases x Free (phase_drawn (slice_get job.order core.drawn)) free (drawn_still (slice_get job.order core.drawn))

  run_after : (y n : ℕ) → phase_of core.phases y ≡ Some (Running n) → phase_of (drawn_by job core x).phases y ≡ Some (Running n)
  run_after = runs_after core.phases x Free (phase_drawn (slice_get job.order core.drawn)) free free_still

  words_drawn : (words : List ℕ) → Words job core words → Words job (drawn_by job core x) (set words 0 (core.drawn + 1))
  words_drawn words h = record {
    count = length-set words 0 (core.drawn + 1) ∙ h.count;
    draws = get_or-set_same words 0 (core.drawn + 1) 0 (let count = h.count in omega (arith, count));
    statuses = λ n within.
        let old : IsStatus core n (slice_index words n) = h.statuses n within in
        let other : n ≢ 0 = (λ none. let from = within.from in omega (arith, from, none)) in
        subst (IsStatus (drawn_by job core x) n) (sym (get_or-set_other words 0 n (core.drawn + 1) 0 other))
        (record {
          done = old.done;
          running = (
            (λ one. let run = old.running.0 one in record { actor = run.actor; running = run_after run.actor n run.running }),
            (λ run. old.running.1 (record { actor = run.actor; running = run_before run.actor n run.running })),
          );
          known = old.known;
        });
  }

  away_before : (a : ℕ) → IsAway job (drawn_by job core x) a → IsAway job core a
  away_before a away = record {
    actor = away.actor;
    message = away.message;
    running = run_before away.actor away.message away.running;
    owner = away.owner;
  }

  away_after : (a : ℕ) → IsAway job core a → IsAway job (drawn_by job core x) a
  away_after a away = record {
    actor = away.actor;
    message = away.message;
    running = run_after away.actor away.message away.running;
    owner = away.owner;
  }

  slots_drawn : {S : Type 0} (items : S → List ℕ) (homes : List (mathlib.Core.Option.Option S)) → Slots items job core homes
      → Slots items job (drawn_by job core x) homes
  slots_drawn items homes h = record {
    count = h.count;
    home = λ a within there. h.home a within (λ away. there (away_after a away));
    away = λ a away. h.away a (away_before a away);
  }

  moves_drawn : Moves core x (drawn_by job core x)
  moves_drawn = record {
    others = λ y other. phase_other core.phases x y Free (phase_drawn (slice_get job.order core.drawn)) free other;
    done = λ n done. done;
  }

  shown_drawn : (v : View) → v.actor ≡ x → Shown job core v → Shown job (drawn_by job core x) (drawn_view v core.drawn)
  shown_drawn v actor h = record {
    same = h.same;
    phase = subst (λ (j : JobValue). phase_of (drawn_by job core x).phases v.actor ≡ Some (phase_drawn (slice_get j.order core.drawn))) (sym h.same)
        (subst (λ y. phase_of (drawn_by job core x).phases y ≡ Some (phase_drawn (slice_get job.order core.drawn))) (sym actor)
        (phase_same core.phases x Free (phase_drawn (slice_get job.order core.drawn)) free));
    seen = h.seen;
  }

-- the number of draws comes to the numbers drawn
draws_more : (drawn : ℕ) (xs : List ℕ) → ((p : ℕ) → Contains xs p → p < drawn) → AllPairs (λ p q. p ≢ q) xs
    → Adds (λ p. p < drawn) (λ p. p < drawn + 1) xs (xs ++ drawn ∷ [])
draws_more drawn xs below once = adds_one (λ p. p < drawn) (λ p. p < drawn + 1) xs drawn below once
    (λ is. omega (arith, is)) (omega arith) (λ p is. omega (arith, is)) more
  where
    more : (p : ℕ) → p < drawn + 1 → (p < drawn) ⊎ (drawn ≡ p)
    more p is = ⊎_elim {C = (p < drawn) ⊎ (drawn ≡ p)}
        (λ (before : p < drawn). inl before) (λ (past : drawn ≤ p). inr (omega (arith, past, is))) (cases_lt p drawn)

module _ {S : Type 0} (items : S → List ℕ) (setup : Setup) where
  -- words and views after a draw of a free seat
  pub draw_next : (s : State S View) (h : Holds items setup s) (id p : ℕ) (v : View) → get_elem? s.views id ≡ some v → v.phase ≡ Free
      → slice_index s.words 0 ≡ p
      → IsNext setup h.core (Draw v.actor) (drawn_by setup.job h.core v.actor) (set s.words 0 ((p + 1) % 2 ^ 64)) (set s.views id (drawn_view v p))
  draw_next s h id p v at is_free found =
      let job = setup.job in
      let core = h.core in
      let x = v.actor in
      let mine : Shown job core v = h.seats.each id v at in
      let free : phase_of core.phases x ≡ Some Free = phase_here setup core s.views h.seats id v at Free is_free in
      let next : Core = drawn_by job core x in
      let reached : Runs job (opening setup.seats) (h.events ++ Draw x ∷ []) next
      = runs_more job (opening setup.seats) h.events core (Draw x) next h.reached (free, refl) in
      let limit : core.drawn + 1 ≤ length job.ops + setup.seats = (known job h.told.job setup.seats (h.events ++ Draw x ∷ []) next reached).drawn in
      let short = h.told.short in
      let few = h.told.few in
      let fits : (core.drawn + 1) % 2 ^ 64 ≡ core.drawn + 1 = mod-eq_of_lt (omega (arith, limit, short, few)) in
      let number : core.drawn ≡ p = sym h.words.draws ∙ found in
      record {
        steps = (free, refl);
        words = subst (λ k. Words job next (set s.words 0 ((k + 1) % 2 ^ 64))) number
            (subst (λ k. Words job next (set s.words 0 k)) (sym fits) (words_drawn job core x free s.words h.words));
        seats = subst (λ k. Seats setup next (set s.views id (drawn_view v k))) number
            (seats_moved setup core next s.views id v (drawn_view v core.drawn) at (moves_drawn job core x free) h.seats refl refl
            (shown_drawn job core x free v refl mine)
            (draws_more core.drawn v.draws (h.seats.draws.only id v at) (h.seats.draws.once id v at))
            (ran_stays setup core s.views id v at h.seats));
      }

  -- a free seat may draw
  pub draws : (slots id : ℕ) (v : View) (held : List (ℕ × S)) → v.phase ≡ Free
      → Allows (Holds items setup) slots id (v, held) 0 (λ n. (n + 1) % 2 ^ 64) (λ found after. after ≡ (drawn_view v found, held))
  draws slots id v held is_free s h sized at small =
      let p = slice_index s.words 0 in
      let free = phase_here setup h.core s.views h.seats id v at Free is_free in (
        drawn_view v p,
        keeps,
        tt,
        holds_next items setup s (stepped s 0 ((p + 1) % 2 ^ 64) id held (drawn_view v p) keeps) h (Draw v.actor)
            (drawn_by setup.job h.core v.actor) (draw_next s h id p v at is_free refl) (slots_drawn setup.job h.core v.actor free items s.homes h.slots),
        refl,
      )

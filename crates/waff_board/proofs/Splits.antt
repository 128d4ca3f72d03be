-- Making the next seat keeps the rule.
use Rattle.std.proofs.Common.{◌≡◌, ◌≢◌, ⊎_elim, ℕ, ◌+◌, ◌<◌, true, true≢false, List, [], ◌∷◌, ◌++◌, Some, length, set, refl, ap, sym, ◌∙◌, subst, arith, length-set}
use Rattle.std.proofs.lemmas.List.{length_push}
use mathlib.Core.Option.{some}
use lib.ListN.{get_elem?}
use Rattle.atomic_table.specs.Table.{Splits}
use Rattle.atomic_table.proofs.Lists.{at_set}
use Rattle.waff_core.specs.Job.{JobValue}
use Rattle.waff_core.specs.Machine.{Core, phase_of}
use Rattle.waff_core.specs.declared.actors.Phase.TheVariants.{Free}
use Rattle.waff_board.specs.Seats.{Shown, Seats, fresh}
use Rattle.waff_board.specs.Rule.{Holds}
use Rattle.waff_board.specs.Plays.{made_view, next_view}
use Rattle.waff_board.specs.declared.view.Setup.{Setup}
use Rattle.waff_board.specs.declared.view.View.{View}
use Rattle.waff_board.proofs.Listed.{at_within, at_end, listed_moved, listed_longer}
use Rattle.waff_board.proofs.Moves.{Moves, each_moved, actors_moved, draws_stay, ran_stays}

-- the view of an actor that is free shows the state
pub shown_fresh : (job : JobValue) (core : Core) (x made : ℕ) → phase_of core.phases x ≡ Some Free → Shown job core (fresh job x made)
shown_fresh job core x made free = record {
  same = refl;
  phase = free;
  seen = λ n sees. absurd (true≢false (sym sees));
}

shown_made : (job : JobValue) (core : Core) (v : View) → Shown job core v → Shown job core (made_view v)
shown_made job core v h = record {
  same = h.same;
  phase = h.phase;
  seen = h.seen;
}

module _ (setup : Setup) (core : Core) (views : List View) (id : ℕ) (v : View)
    (at : get_elem? views id ≡ some v) (is_first : v.actor ≡ 1) (room : v.made < setup.seats) (h : Seats setup core views) where
  first_id : 0 ≡ id
  first_id = let mine : v.actor ≡ id + 1 = h.actors id v at in omega (arith, mine, is_first)

  all_made : v.made ≡ length views
  all_made = h.made v (subst (λ i. get_elem? views i ≡ some v) (sym first_id) at)

  none_moves : Moves core v.actor core
  none_moves = record { others = λ y other. refl; done = λ n done. done }

  mine : Shown setup.job core v
  mine = h.each id v at

  next_free : phase_of core.phases (v.made + 1) ≡ Some Free
  next_free = h.free (v.made + 1) (let made = all_made in omega (arith, made)) (omega (arith, room))

  last_place : length (set views id (made_view v)) ≡ v.made
  last_place = length-set views id (made_view v) ∙ sym all_made

  pub seats_split : Seats setup core (set views id (made_view v) ++ next_view v ∷ [])
  seats_split = record {
    each = λ j u there. ⊎_elim {C = Shown setup.job core u}
        (λ (old : get_elem? (set views id (made_view v)) j ≡ some u).
        each_moved setup core core views id v (made_view v) at none_moves h refl (shown_made setup.job core v mine) j u old)
        (λ (new : (j ≡ length (set views id (made_view v))) × (next_view v ≡ u)).
        subst (λ (u : View). Shown setup.job core u) new.1
        (subst (λ (job : JobValue). Shown setup.job core (fresh job (v.made + 1) 0)) (sym mine.same)
        (shown_fresh setup.job core (v.made + 1) 0 next_free)))
        (at_end (set views id (made_view v)) (next_view v) u j there);
    actors = λ j u there. ⊎_elim {C = u.actor ≡ j + 1}
        (λ (old : get_elem? (set views id (made_view v)) j ≡ some u).
        actors_moved setup core core views id v (made_view v) at none_moves h refl j u old)
        (λ (new : (j ≡ length (set views id (made_view v))) × (next_view v ≡ u)).
        let place = new.0 in
        let actor : v.made + 1 ≡ u.actor = ap (λ (u : View). u.actor) new.1 in
        let last = last_place in
        omega (arith, place, actor, last))
        (at_end (set views id (made_view v)) (next_view v) u j there);
    draws = listed_longer (λ (u : View). u.draws) (λ p. p < core.drawn) (set views id (made_view v)) (next_view v)
        (listed_moved (λ (u : View). u.draws) (λ p. p < core.drawn) (λ p. p < core.drawn) views id v (made_view v) at h.draws
        (draws_stay setup core views id v at h))
        refl;
    ran = listed_longer (λ (u : View). u.ran) (λ m. core.done m ≡ true) (set views id (made_view v)) (next_view v)
        (listed_moved (λ (u : View). u.ran) (λ m. core.done m ≡ true) (λ m. core.done m ≡ true) views id v (made_view v) at h.ran
        (ran_stays setup core views id v at h))
        refl;
    made = λ u there.
        let long : length (set views id (made_view v) ++ next_view v ∷ []) ≡ length (set views id (made_view v)) + 1
        = length_push (set views id (made_view v)) (next_view v) in
        let last = last_place in
        let filled : 0 < length views = subst (λ i. i < length views) (sym first_id) (at_within views id v at) in
        let made = all_made in
        ⊎_elim {C = u.made ≡ length (set views id (made_view v) ++ next_view v ∷ [])}
        (λ (old : get_elem? (set views id (made_view v)) 0 ≡ some u). ⊎_elim {C = u.made ≡ length (set views id (made_view v) ++ next_view v ∷ [])}
        (λ (here : (0 ≡ id) × (made_view v ≡ u)).
        let is : v.made + 1 ≡ u.made = ap (λ (u : View). u.made) here.1 in
        omega (arith, is, long, last))
        (λ (else : (0 ≢ id) × (get_elem? views 0 ≡ some u)). absurd (else.0 first_id))
        (at_set views id 0 (made_view v) u old))
        (λ (new : (0 ≡ length (set views id (made_view v))) × (next_view v ≡ u)).
        let place = new.0 in absurd (omega (arith, place, last, filled, made)))
        (at_end (set views id (made_view v)) (next_view v) u 0 there);
    few =
        let long : length (set views id (made_view v) ++ next_view v ∷ []) ≡ length (set views id (made_view v)) + 1
        = length_push (set views id (made_view v)) (next_view v) in
        let last = last_place in omega (arith, long, last, room);
    free = λ x past to.
        let long : length (set views id (made_view v) ++ next_view v ∷ []) ≡ length (set views id (made_view v)) + 1
        = length_push (set views id (made_view v)) (next_view v) in
        let last = last_place in
        let made = all_made in
        h.free x (omega (arith, past, long, last, made)) to;
  }

-- the first seat may make one more where there is one to make
pub splits : {S : Type 0} (items : S → List ℕ) (setup : Setup) (id : ℕ) (v : View) → v.actor ≡ 1 → v.made < setup.seats
    → Splits (Holds items setup) id v (made_view v) (next_view v)
splits items setup id v is_first room s h at = record {
  told = h.told;
  events = h.events;
  core = h.core;
  reached = h.reached;
  words = h.words;
  slots = h.slots;
  seats = seats_split setup h.core s.views id v at is_first room h.seats;
}

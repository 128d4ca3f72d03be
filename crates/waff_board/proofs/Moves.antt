-- A step of one actor leaves what the seats of the others know.
use Rattle.std.proofs.Common.{◌≡◌, ◌≢◌, ℕ, ◌+◌, ◌<◌, ◌≤◌, true, List, Some, length, set, ap, sym, ◌∙◌, subst, ⊎_elim, arith, length-set}
use mathlib.Core.Option.{some}
use lib.ListN.{get_elem?}
use Rattle.atomic_table.proofs.Lists.{at_set}
use Rattle.waff_core.specs.Job.{JobValue}
use Rattle.waff_core.specs.Machine.{Core, phase_of}
use Rattle.waff_core.specs.declared.actors.Phase.{Phase}
use Rattle.waff_core.specs.declared.actors.Phase.TheVariants.{Free}
use Rattle.waff_board.specs.Seats.{Shown, Seats}
use Rattle.waff_board.specs.declared.view.Setup.{Setup}
use Rattle.waff_board.specs.declared.view.View.{View}
use Rattle.waff_board.proofs.Listed.{Adds, adds_none, listed_moved, at_within}

-- what a step of actor x leaves of the state: the phases of the others, and all that is done
pub record Moves (core : Core) (x : ℕ) (next : Core) : Type 0 where
  pub others : (y : ℕ) → y ≢ x → phase_of next.phases y ≡ phase_of core.phases y
  pub done : (n : ℕ) → core.done n ≡ true → next.done n ≡ true

-- the view of another actor shows the next state too
pub shown_moved : (job : JobValue) (core next : Core) (x : ℕ) (v : View) → Moves core x next → v.actor ≢ x
    → Shown job core v → Shown job next v
shown_moved job core next x v moves other h = record {
  same = h.same;
  phase = moves.others v.actor other ∙ h.phase;
  seen = λ n sees. moves.done n (h.seen n sees);
}

-- the phase of a seat is that of its actor
pub phase_here : (setup : Setup) (core : Core) (views : List View) → Seats setup core views → (id : ℕ) (v : View) → get_elem? views id ≡ some v
    → (phase : Phase) → v.phase ≡ phase → phase_of core.phases v.actor ≡ Some phase
phase_here setup core views h id v at phase is = subst (λ p. phase_of core.phases v.actor ≡ Some p) is (h.each id v at).phase

module _ (setup : Setup) (core next : Core) (views : List View) (id : ℕ) (v w : View)
    (at : get_elem? views id ≡ some v) (moves : Moves core v.actor next) (h : Seats setup core views) where
  other_actor : (j : ℕ) (u : View) → j ≢ id → get_elem? views j ≡ some u → u.actor ≢ v.actor
  other_actor j u apart there same =
      let one : u.actor ≡ j + 1 = h.actors j u there in
      let two : v.actor ≡ id + 1 = h.actors id v at in
      apart (omega (arith, one, two, same))

  module _ (actor : w.actor ≡ v.actor) where
    pub each_moved : Shown setup.job next w → (j : ℕ) (u : View) → get_elem? (set views id w) j ≡ some u → Shown setup.job next u
    each_moved shown j u there = ⊎_elim {C = Shown setup.job next u}
        (λ (here : (j ≡ id) × (w ≡ u)). subst (λ (u : View). Shown setup.job next u) here.1 shown)
        (λ (else : (j ≢ id) × (get_elem? views j ≡ some u)).
        shown_moved setup.job core next v.actor u moves (other_actor j u else.0 else.1) (h.each j u else.1))
        (at_set views id j w u there)

    pub actors_moved : (j : ℕ) (u : View) → get_elem? (set views id w) j ≡ some u → u.actor ≡ j + 1
    actors_moved j u there = ⊎_elim {C = u.actor ≡ j + 1}
        (λ (here : (j ≡ id) × (w ≡ u)).
        let mine : v.actor ≡ id + 1 = h.actors id v at in
        let is : w.actor ≡ u.actor = ap (λ (u : View). u.actor) here.1 in
        let place = here.0 in omega (arith, mine, is, place, actor))
        (λ (else : (j ≢ id) × (get_elem? views j ≡ some u)). h.actors j u else.1)
        (at_set views id j w u there)

    pub free_moved : (x : ℕ) → length views < x → x ≤ setup.seats → phase_of next.phases x ≡ Some Free
    free_moved x past to =
        let mine : v.actor ≡ id + 1 = h.actors id v at in
        let within : id < length views = at_within views id v at in
        moves.others x (λ same. omega (arith, past, mine, within, same)) ∙ h.free x past to

  -- the seat of the actor has a new view
  pub seats_moved : w.actor ≡ v.actor → w.made ≡ v.made → Shown setup.job next w
      → Adds (λ p. p < core.drawn) (λ p. p < next.drawn) v.draws w.draws
      → Adds (λ m. core.done m ≡ true) (λ m. next.done m ≡ true) v.ran w.ran
      → Seats setup next (set views id w)
  seats_moved actor made shown drawn ran = record {
    each = each_moved actor shown;
    actors = actors_moved actor;
    draws = listed_moved (λ (u : View). u.draws) (λ p. p < core.drawn) (λ p. p < next.drawn) views id v w at h.draws drawn;
    ran = listed_moved (λ (u : View). u.ran) (λ m. core.done m ≡ true) (λ m. next.done m ≡ true) views id v w at h.ran ran;
    made = λ u there. ⊎_elim {C = u.made ≡ length (set views id w)}
        (λ (here : (0 ≡ id) × (w ≡ u)).
        let mine : v.made ≡ length views = h.made v (subst (λ i. get_elem? views i ≡ some v) (sym here.0) at) in
        let is : w.made ≡ u.made = ap (λ (u : View). u.made) here.1 in
        omega (arith, mine, is, made, length-set {A = View}))
        (λ (else : (0 ≢ id) × (get_elem? views 0 ≡ some u)).
        let theirs : u.made ≡ length views = h.made u else.1 in omega (arith, theirs, length-set {A = View}))
        (at_set views id 0 w u there);
    few = let few = h.few in omega (arith, few, length-set {A = View});
    free = λ x past to.
        let long : length (set views id w) ≡ length views = length-set views id w in
        free_moved actor x (omega (arith, past, long)) to;
  }

module _ (setup : Setup) (core : Core) (views : List View) (id : ℕ) (v : View) (at : get_elem? views id ≡ some v) (h : Seats setup core views) where
  -- a step that draws nothing
  pub draws_stay : Adds (λ p. p < core.drawn) (λ p. p < core.drawn) v.draws v.draws
  draws_stay = adds_none (λ p. p < core.drawn) v.draws (h.draws.only id v at) (h.draws.once id v at)

  -- a step that finishes nothing
  pub ran_stays : Adds (λ m. core.done m ≡ true) (λ m. core.done m ≡ true) v.ran v.ran
  ran_stays = adds_none (λ m. core.done m ≡ true) v.ran (h.ran.only id v at) (h.ran.once id v at)

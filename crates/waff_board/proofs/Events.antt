-- Each event of the core machine is one step of the board, and every other step leaves the machine's state.
use Rattle.std.proofs.Common.{◌≡◌, ◌≢◌, ◌↔◌, ⊎_elim, ℕ, zero, suc, ◌<◌, ◌≤◌, true, List, [], ◌∷◌, ◌++◌, Some, length, set, get_or, slice_get, slice_index, refl, ap, sym, ◌∙◌, subst, arith, length-set}
use Rattle.std.proofs.lemmas.Bool.{cases_lt}
use Rattle.std.proofs.lemmas.List.{ext_get_or, get_or-set_other, length_push, set-get_or}
use Rattle.std.proofs.lemmas.Option.{get_or_from_slice_get}
use Rattle.std.specs.Global.{Vec}
use mathlib.Core.Option.{some}
use lib.ListN.{get_elem?}
use Rattle.atomic_table.specs.Table.{State}
use Rattle.atomic_table.proofs.Lists.{at_set, set_here}
use Rattle.waff_core.specs.Job.{IsIn}
use Rattle.waff_core.specs.Laws.{Reaches}
use Rattle.waff_core.specs.Machine.{Core, IsClear, Steps, phase_of}
use Rattle.waff_core.specs.declared.actors.Event.{Event}
use Rattle.waff_core.specs.declared.actors.Phase.TheVariants.{Free}
use Rattle.waff_core.proofs.Following.{cells_follow}
use Rattle.waff_core.proofs.Reaching.{reaches_more}
use Rattle.waff_core.proofs.Sound.{seats_stay}
use Rattle.waff_board.specs.Laws.{IsBetween, ShowsOneState, DrawIsOneEvent, BeginIsOneEvent, FinishIsOneEvent, LookIsNoEvent, MakingIsNoEvent}
use Rattle.waff_board.specs.Plays.{looked_view, begun_view, made_view, next_view}
use Rattle.waff_board.specs.Rule.{IsSetup}
use Rattle.waff_board.specs.Seats.{Seats}
use Rattle.waff_board.specs.Shows.{Words}
use Rattle.waff_board.specs.declared.view.Setup.{Setup}
use Rattle.waff_board.specs.declared.view.View.{View}
use Rattle.waff_board.proofs.Begins.{begin_next}
use Rattle.waff_board.proofs.Draws.{draw_next}
use Rattle.waff_board.proofs.Finishes.{finish_next}
use Rattle.waff_board.proofs.Known.{known}
use Rattle.waff_board.proofs.Listed.{at_within, at_end}
use Rattle.waff_board.proofs.Nexts.{IsNext}

-- what words and views show of a state that is reached
record IsShown (setup : Setup) (core : Core) (words : List ℕ) (views : List View) : Type 0 where
  reached : Reaches setup.job setup.seats core
  drawn : slice_index words 0 ≡ core.drawn
  done : (n : ℕ) → IsIn setup.job n → (slice_index words n ≡ 2) ↔ (core.done n ≡ true)
  phases : (id : ℕ) (v : View) → get_elem? views id ≡ some v → slice_get core.phases id ≡ Some v.phase
  free : (id : ℕ) → length views ≤ id → id < setup.seats → slice_get core.phases id ≡ Some Free

shown : (setup : Setup) (core : Core) (words : List ℕ) (views : List View) → Reaches setup.job setup.seats core → Words setup.job core words
    → Seats setup core views → IsShown setup core words views
shown setup core words views reached w seats = record {
  reached = reached;
  drawn = w.draws;
  done = λ n is. (w.statuses n is).done;
  phases = λ id v at.
      let actor : v.actor ≡ suc id = (let is = seats.actors id v at in omega (arith, is)) in
      subst (λ x. phase_of core.phases x ≡ Some v.phase) actor (seats.each id v at).phase;
  free = λ id past within. seats.free (suc id) (omega (arith, past)) (omega (arith, within));
}

view_at : (views : List View) (id : ℕ) → id < length views → (v : View) × (get_elem? views id ≡ some v)
view_at [] id within = absurd (omega (arith, within))
view_at (v ∷ views) zero within = (v, refl)
view_at (v ∷ views) (suc id) within = view_at views id (omega (arith, within))

-- it decides the state
module _ (setup : Setup) (told : IsSetup setup) (words : List ℕ) (views : List View) (one other : Core)
    (h : IsShown setup one words views) (k : IsShown setup other words views) where
  same_phase : (id : ℕ) → id < setup.seats → get_or one.phases id Free ≡ get_or other.phases id Free
  same_phase id within = ⊎_elim {C = get_or one.phases id Free ≡ get_or other.phases id Free}
      (λ (seated : id < length views).
      let at = view_at views id seated in
      get_or_from_slice_get one.phases id at.0.phase Free (h.phases id at.0 at.1)
      ∙ sym (get_or_from_slice_get other.phases id at.0.phase Free (k.phases id at.0 at.1)))
      (λ (past : length views ≤ id).
      get_or_from_slice_get one.phases id Free Free (h.free id past within)
      ∙ sym (get_or_from_slice_get other.phases id Free Free (k.free id past within)))
      (cases_lt id (length views))

  one_state : one ≡ other
  one_state =
      let long : length one.phases ≡ setup.seats = seats_stay setup.job setup.seats h.reached.0 one h.reached.1 in
      let also : length other.phases ≡ setup.seats = seats_stay setup.job setup.seats k.reached.0 other k.reached.1 in
      cells_follow setup.job told.job setup.seats one other h.reached k.reached (sym h.drawn ∙ k.drawn)
      (ext_get_or Free one.phases other.phases (long ∙ sym also) (λ id within. same_phase id (omega (arith, within, long))))
      (λ n is. ((λ done. (k.done n is).0 ((h.done n is).1 done)), (λ done. (h.done n is).0 ((k.done n is).1 done))))

-- a seat whose phase stays leaves what is shown
shown_still : (setup : Setup) (core : Core) (words : List ℕ) (views : List View) (id : ℕ) (v w : View) → get_elem? views id ≡ some v → w.phase ≡ v.phase
    → IsShown setup core words views → IsShown setup core words (set views id w)
shown_still setup core words views id v w at same is = record {
  reached = is.reached;
  drawn = is.drawn;
  done = is.done;
  phases = λ j u there. ⊎_elim {C = slice_get core.phases j ≡ Some u.phase}
      (λ (here : (j ≡ id) × (w ≡ u)).
      subst (λ k. slice_get core.phases k ≡ Some u.phase) (sym here.0)
      (is.phases id v at ∙ ap (λ p. Some p) (sym same ∙ ap (λ (u : View). u.phase) here.1)))
      (λ (else : (j ≢ id) × (get_elem? views j ≡ some u)). is.phases j u else.1)
      (at_set views id j w u there);
  free = λ j past within. is.free j (let long = length-set views id w in omega (arith, past, long)) within;
}

-- one more seat that is free
shown_longer : (setup : Setup) (core : Core) (words : List ℕ) (views : List View) (w : View) → length views < setup.seats → w.phase ≡ Free
    → IsShown setup core words views → IsShown setup core words (views ++ w ∷ [])
shown_longer setup core words views w room free is = record {
  reached = is.reached;
  drawn = is.drawn;
  done = is.done;
  phases = λ j u there. ⊎_elim {C = slice_get core.phases j ≡ Some u.phase}
      (λ (old : get_elem? views j ≡ some u). is.phases j u old)
      (λ (new : (j ≡ length views) × (w ≡ u)).
      is.free j (omega (arith, new.0)) (omega (arith, new.0, room)) ∙ ap (λ p. Some p) (sym free ∙ ap (λ (u : View). u.phase) new.1))
      (at_end views w u j there);
  free = λ j past within. is.free j (let long = length_push views w in omega (arith, past, long)) within;
}

module _ (setup : Setup) where
  held : (s : State (Vec ℕ) View) (h : IsBetween setup s) → IsShown setup h.core s.words s.views
  held s h = shown setup h.core s.words s.views (h.events, h.reached) h.words h.seats

  -- where another state is shown, it is the state
  is_state : (t : State (Vec ℕ) View) (after : IsBetween setup t) (core : Core) → IsShown setup core t.words t.views → after.core ≡ core
  is_state t after core is = one_state setup after.told t.words t.views after.core core (held t after) is

  -- a step that leads to the next state
  leads : (s t : State (Vec ℕ) View) (before : IsBetween setup s) (after : IsBetween setup t) (event : Event) (next : Core) (words : List ℕ)
      (views : List View) → IsNext setup before.core event next words views → t.words ≡ words → t.views ≡ views
      → Steps setup.job before.core event after.core
  leads s t before after event next words views is same_words same_views =
      let reached : Reaches setup.job setup.seats next
      = reaches_more setup.job setup.seats before.core event next (before.events, before.reached) is.steps in
      subst (λ core. Steps setup.job before.core event core)
      (sym (is_state t after next
      (shown setup next t.words t.views reached (subst (λ ws. Words setup.job next ws) (sym same_words) is.words)
      (subst (λ vs. Seats setup next vs) (sym same_views) is.seats))))
      is.steps

pub shows_one_state : (setup : Setup) → ShowsOneState setup
shows_one_state setup s one other = is_state setup s one other.core (held setup s other)

pub draw_is_one_event : (setup : Setup) → DrawIsOneEvent setup
draw_is_one_event setup s t before after seat p v at free found step =
    leads setup s t before after _ _ _ _ (draw_next (λ parcel. parcel.items) setup s before seat p v at free found) step.words step.views

pub begin_is_one_event : (setup : Setup) → BeginIsOneEvent setup
begin_is_one_event setup s t before after seat m v at is_drawn step =
    leads setup s t before after _ _ _ _
    (begin_next (λ parcel. parcel.items) setup s before seat m v at is_drawn clear) step.words step.views
  where
    now : get_elem? t.views seat ≡ some (begun_view v m)
    now = subst (λ vs. get_elem? vs seat ≡ some (begun_view v m)) (sym step.views) (set_here s.views seat (begun_view v m) (at_within s.views seat v at))

    -- it runs after the step, so it was clear before it
    clear : IsClear setup.job before.core m
    clear i ordered =
        let from = ordered.from in
        let earlier = ordered.earlier in
        let to = ordered.to in
        let count = before.told.job.count in
        let is : IsIn setup.job i = record { from = from; to = omega (arith, earlier, to, count) } in
        let done = (known setup.job after.told.job setup.seats after.events after.core after.reached).clear v.actor m
        ((after.seats.each seat (begun_view v m) now).phase) i ordered in
        let word : slice_index t.words i ≡ 2 = (after.words.statuses i is).done.1 done in
        (before.words.statuses i is).done.0
        (sym (get_or-set_other s.words m i 1 0 (λ same. omega (arith, same, earlier))) ∙ ap (λ ws. slice_index ws i) (sym step.words) ∙ word)

pub finish_is_one_event : (setup : Setup) → FinishIsOneEvent setup
finish_is_one_event setup s t before after seat m v at running step =
    leads setup s t before after _ _ _ _ (finish_next (λ parcel. parcel.items) setup s before seat m v at running) step.words step.views

pub look_is_no_event : (setup : Setup) → LookIsNoEvent setup
look_is_no_event setup s t before after seat n word v at found step =
    is_state setup t after before.core
    (subst (λ ws. IsShown setup before.core ws t.views) (sym same)
    (subst (λ vs. IsShown setup before.core s.words vs) (sym step.views)
    (shown_still setup before.core s.words s.views seat v (looked_view v n word) at refl
    (held setup s before))))
  where
    same : t.words ≡ s.words
    same = step.words ∙ ap (λ w. set s.words n w) (sym found) ∙ set-get_or s.words n 0

pub making_is_no_event : (setup : Setup) → MakingIsNoEvent setup
making_is_no_event setup s t before after seat v at same_words same_views =
    is_state setup t after before.core
    (subst (λ ws. IsShown setup before.core ws t.views) (sym same_words)
    (subst (λ vs. IsShown setup before.core s.words vs) (sym same_views)
    (shown_longer setup before.core s.words (set s.views seat (made_view v)) (next_view v) room refl
    (shown_still setup before.core s.words s.views seat v (made_view v) at refl
    (held setup s before)))))
  where
    room : length (set s.views seat (made_view v)) < setup.seats
    room =
        let few = after.seats.few in
        let long : length t.views ≡ length (set s.views seat (made_view v) ++ next_view v ∷ []) = ap length same_views in
        let more = length_push (set s.views seat (made_view v)) (next_view v) in
        omega (arith, few, long, more)

-- What follows from the rule.
use Rattle.std.proofs.Common.{◌≡◌, ◌≢◌, inl, inr, ⊎_elim, ℕ, ◌+◌, ◌<◌, ◌≤◌, true, List, Some, AllPairs, Contains, length, slice_get, sym, ap, ◌∙◌, subst, arith}
use Rattle.std.proofs.lemmas.Bool.{cases_order, cases_lt}
use Rattle.std.proofs.lemmas.List.Sums.{count_by-le-length}
use Rattle.std.proofs.lemmas.Option.{slice_get_within, get_or_from_slice_get}
use mathlib.Core.Option.{some, some-injective}
use lib.ListN.{get_elem?}
use Rattle.waff_core.specs.Machine.{Core}
use Rattle.waff_core.proofs.Arrival.{running_do_not_exclude}
use Rattle.waff_core.proofs.Phases.{Has}
use Rattle.waff_board.specs.Laws.{ActorsDiffer, NumbersDiffer, NumbersAreDrawn, HandedOutOnce, IsAt, RunByOne, RunningExcludeNobody, FewRun, runs, RunOnce, DoneIsRun, SeenIsDone, DrawsAreFew, OpensUntouched}
use Rattle.waff_board.specs.Seats.{Shown, StandsInOne, AreListedOnce}
use Rattle.waff_board.specs.declared.view.Setup.{Setup}
use Rattle.waff_board.specs.declared.view.View.{View}
use Rattle.waff_board.proofs.Known.{Known, known}
use Rattle.waff_board.proofs.Opens.{undrawn_opening}

listed : (xs : List ℕ) (i p : ℕ) → slice_get xs i ≡ Some p → Contains xs p
listed xs i p at = (i, slice_get_within xs i p at, get_or_from_slice_get xs i p p at)

-- in a list of different numbers each has one place
one_place : (xs : List ℕ) (i j p : ℕ) → AllPairs (λ a b. a ≢ b) xs → slice_get xs i ≡ Some p → slice_get xs j ≡ Some p → i ≡ j
one_place xs i j p apart at_i at_j = ⊎_elim {C = i ≡ j}
    (λ (same : i ≡ j). same)
    (⊎_elim {C = i ≡ j}
    (λ (before : i < j). absurd (apart i j p before (slice_get_within xs j p at_j)
    (get_or_from_slice_get xs i p p at_i ∙ sym (get_or_from_slice_get xs j p p at_j))))
    (λ (after : j < i). absurd (apart j i p after (slice_get_within xs i p at_i)
    (get_or_from_slice_get xs j p p at_j ∙ sym (get_or_from_slice_get xs i p p at_i)))))
    (cases_order i j)

pub actors_are_apart : (setup : Setup) → ActorsDiffer setup
actors_are_apart setup s h seat other v w at_v at_w same =
    let one : v.actor ≡ seat + 1 = h.seats.actors seat v at_v in
    let two : w.actor ≡ other + 1 = h.seats.actors other w at_w in
    omega (arith, one, two, same)

-- a number that stands in lists of the views stands in one, and once
listed_once : (list : View → List ℕ) (such : ℕ → Type 0) (views : List View) → AreListedOnce list such views
    → (seat other : ℕ) (v w : View) → get_elem? views seat ≡ some v → get_elem? views other ≡ some w
    → (i j n : ℕ) → slice_get (list v) i ≡ Some n → slice_get (list w) j ≡ Some n → (seat ≡ other) × (i ≡ j)
listed_once list such views h seat other v w at_v at_w i j n in_v in_w =
    let same : seat ≡ other = h.apart seat other v w at_v at_w n (listed (list v) i n in_v) (listed (list w) j n in_w) in
    let view : v ≡ w = same_view (sym at_v ∙ ap (λ k. get_elem? views k) same ∙ at_w) in (
      same,
      one_place (list v) i j n (h.once seat v at_v) in_v (subst (λ (u : View). slice_get (list u) j ≡ Some n) (sym view) in_w),
    )
  where
    same_view : some v ≡ some w → v ≡ w
    same_view is = some-injective v w is

pub numbers_are_apart : (setup : Setup) → NumbersDiffer setup
numbers_are_apart setup s h seat other v w at_v at_w i j p in_v in_w =
    let apart : (seat ≡ other) × (i ≡ j)
    = listed_once (λ (u : View). u.draws) (λ p. p < h.core.drawn) s.views h.seats.draws seat other v w at_v at_w i j p in_v in_w in
    let below : p < h.core.drawn = h.seats.draws.only seat v at_v p (listed v.draws i p in_v) in
    let drawn = h.words.draws in
    (apart.0, apart.1, omega (arith, below, drawn))

pub numbers_are_drawn : (setup : Setup) → NumbersAreDrawn setup
numbers_are_drawn setup s h p below = h.seats.draws.each p (let drawn = h.words.draws in omega (arith, below, drawn))

pub run_once : (setup : Setup) → RunOnce setup
run_once setup s h = listed_once (λ (u : View). u.ran) (λ m. h.core.done m ≡ true) s.views h.seats.ran

pub done_is_run : (setup : Setup) → DoneIsRun setup
done_is_run setup s h m within = (
  (λ two. h.seats.ran.each m ((h.words.statuses m within).done.0 two)),
  (λ ran. (h.words.statuses m within).done.1 (h.seats.ran.only ran.seat ran.view ran.at m ran.has)),
)

pub opens_untouched : (setup : Setup) → OpensUntouched setup
opens_untouched setup s h none = undrawn_opening setup.job setup.seats h.events h.core h.reached
    (⊎_elim {C = h.core.drawn ≡ 0}
    (λ (drawn : 0 < h.core.drawn).
    let first : StandsInOne (λ v. v.draws) s.views 0 = h.seats.draws.each 0 drawn in
    let few : length first.view.draws ≡ 0 = ap length (none first.seat first.view first.at) in
    let has = first.has.1 in absurd (omega (arith, few, has)))
    (λ (none : h.core.drawn ≤ 0). omega (arith, none))
    (cases_lt 0 h.core.drawn))

pub handed_out_once : (setup : Setup) → HandedOutOnce setup
handed_out_once setup s h seat other v w at_v at_w i j p q m in_v in_w at_p at_q =
    let same : p ≡ q = h.told.job.order.once p q m at_p at_q in
    let r = numbers_are_apart setup s h seat other v w at_v at_w i j p in_v (subst (λ k. slice_get w.draws j ≡ Some k) (sym same) in_w) in
    (r.0, r.1)

has_phase : (setup : Setup) (core : Core) (v : View) (m : ℕ) → Shown setup.job core v → IsAt v m → Has core.phases v.actor m
has_phase setup core v m shown (inl drawn) = inl (shown.phase ∙ ap (λ p. Some p) drawn)
has_phase setup core v m shown (inr running) = inr (shown.phase ∙ ap (λ p. Some p) running)

pub run_by_one : (setup : Setup) → RunByOne setup
run_by_one setup s h seat other v w at_v at_w m one two =
    let facts : Known setup.job setup.seats h.core = known setup.job h.told.job setup.seats h.events h.core h.reached in
    actors_are_apart setup s h seat other v w at_v at_w
    (facts.alone v.actor w.actor m (has_phase setup h.core v m (h.seats.each seat v at_v) one) (has_phase setup h.core w m (h.seats.each other w at_w) two))

pub running_exclude_nobody : (setup : Setup) → RunningExcludeNobody setup
running_exclude_nobody setup s h seat other v w at_v at_w apart m n one two =
    running_do_not_exclude setup.job h.told.job setup.seats h.core (h.events, h.reached) v.actor w.actor m n
    (λ same. apart (actors_are_apart setup s h seat other v w at_v at_w same))
    ((h.seats.each seat v at_v).phase ∙ ap (λ p. Some p) one) ((h.seats.each other w at_w).phase ∙ ap (λ p. Some p) two)

pub few_run : (setup : Setup) → FewRun setup
few_run setup s h =
    let most = count_by-le-length (λ (v : View). runs v.phase) s.views in
    let few = h.seats.few in
    omega (arith, most, few)

pub seen_is_done : (setup : Setup) → SeenIsDone setup
seen_is_done setup s h seat v at m within seen = (h.words.statuses m within).done.1 ((h.seats.each seat v at).seen m seen)

pub draws_are_few : (setup : Setup) → DrawsAreFew setup
draws_are_few setup s h =
    let facts : Known setup.job setup.seats h.core = known setup.job h.told.job setup.seats h.events h.core h.reached in
    let few = facts.drawn in
    let drawn = h.words.draws in
    omega (arith, few, drawn)

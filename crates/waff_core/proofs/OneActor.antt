-- One actor can run the whole order.
use Rattle.std.proofs.Common.{◌≡◌, ◌≢◌, ℕ, zero, suc, ◌+◌, ◌<◌, ◌≤◌, true, List, ◌∷◌, length, Some, slice_get, get_or, refl, ap, sym, ◌∙◌, subst, arith, ⊎_elim}
use Rattle.std.proofs.lemmas.Bool.{cases_eq}
use Rattle.std.proofs.lemmas.Option.{same_Some, slice_get-get_or, slice_get_within}
use Rattle.waff_assign.specs.Order.{PathBy}
use Rattle.waff_order.specs.Needs.{IsNeed}
use Rattle.waff_core.specs.Job.{JobValue, IsJob, StandsAt}
use Rattle.waff_core.specs.Machine.{Core, Runs, IsClear, opening, phase_of, phase_drawn, drawn_by, begun_by, ended_by}
use Rattle.waff_core.specs.Laws.{rounds, AreAllDone, OneActorEnds}
use Rattle.waff_core.specs.declared.actors.Event.{Event}
use Rattle.waff_core.specs.declared.actors.Event.TheVariants.{Draw, Begin, End}
use Rattle.waff_core.specs.declared.actors.Phase.TheVariants.{Free, Drawn, Running}
use Rattle.waff_core.proofs.Phases.{phase_same, phase_free}
use Rattle.waff_core.proofs.Settling.{done_this, done_kept}

-- what leads to a message by needs stands before it
path_stands_before : (job : JobValue) → IsJob job → (n i m place other : ℕ) → PathBy (IsNeed job.needs) n i m
    → StandsAt job.order place i → StandsAt job.order other m → place < other
path_stands_before job is zero i m place other need at at_m = is.order.needed i m place other need at at_m
path_stands_before job is (suc n) i m place other (k, need, path) at at_m =
    let ordered = is.needs.ordered i k need in
    let from : 1 ≤ i = ordered.from in
    let later : i < k = ordered.earlier in
    let to : k ≤ length job.assigned = ordered.to in
    let count : length job.needs ≡ length job.assigned = is.needs.count in
    let between = is.order.each k (omega arith) (omega arith) in
    let first : place < between.0 = is.order.needed i k place between.0 need at between.1 in
    let rest : between.0 < other = path_stands_before job is n k m between.0 other path between.1 at_m in
    omega arith

-- the messages at the places before this one are done
abbrev pub AreDoneBefore : JobValue → Core → ℕ → Type 0
AreDoneBefore job s places = (place m : ℕ) → place < places → StandsAt job.order place m → s.done m ≡ true

-- where all before it are done, the message that stands next is clear
pub next_is_clear : (job : JobValue) → IsJob job → (s : Core) (place m : ℕ) → StandsAt job.order place m → AreDoneBefore job s place → IsClear job s m
next_is_clear job is s place m at done i ordered =
    let from : 1 ≤ i = ordered.from in
    let later : i < m = ordered.earlier in
    let to : m ≤ length job.assigned = ordered.to in
    let count : length job.needs ≡ length job.assigned = is.needs.count in
    let stands = is.order.each i from (omega arith) in
    let path = is.needs.paths i m ordered in
    done stands.0 i (path_stands_before job is path.0 i m stands.0 place path.1 stands.1 at) stands.1

-- one message: a draw, a begin and an end
module _ (job : JobValue) (is : IsJob job) (x : ℕ) (s : Core) (m : ℕ) (free : phase_of s.phases x ≡ Some Free)
    (at : StandsAt job.order s.drawn m) (done : AreDoneBefore job s s.drawn) where
  drawn : Core
  drawn = drawn_by job s x

  begun : Core
  begun = begun_by drawn x m

  after : Core
  after = ended_by job begun x m

  holds : phase_of drawn.phases x ≡ Some (Drawn m)
  unfolding drawn
  holds = phase_same s.phases x Free (phase_drawn (slice_get job.order s.drawn)) free ∙ ap (λ o. Some (phase_drawn o)) at

  runs : phase_of begun.phases x ≡ Some (Running m)
  unfolding drawn begun
  runs = phase_same drawn.phases x (Drawn m) (Running m) holds

  clear : IsClear job drawn m
  unfolding drawn
  clear = next_is_clear job is s s.drawn m at done

  round : (events : List Event) (t : Core) → Runs job after events t → Runs job s (Draw x ∷ Begin x ∷ End x ∷ events) t
  unfolding drawn begun after
  round events t rest = (drawn, (free, refl), (begun, (m, holds, clear, refl), (after, (m, runs, refl), rest)))

  free_after : phase_of after.phases x ≡ Some Free
  unfolding drawn begun after
  free_after = phase_same begun.phases x (Running m) Free runs

  drawn_after : after.drawn ≡ s.drawn + 1
  unfolding drawn begun after
  drawn_after = refl

  done_after : AreDoneBefore job after (s.drawn + 1)
  unfolding drawn begun after
  done_after place n before stands =
      ⊎_elim {C = after.done n ≡ true}
      (λ (last : place ≡ s.drawn).
      let same : m ≡ n = same_Some m n (sym at ∙ subst (λ p. slice_get job.order p ≡ Some n) last stands) in
      subst (λ k. after.done k ≡ true) same (done_this s m))
      (λ (earlier : place ≢ s.drawn). done_kept s m n (done place n (omega arith) stands))
      (cases_eq place s.drawn)

-- so many messages, one after another
rounds_run : (job : JobValue) → IsJob job → (x n : ℕ) (s : Core) → n + s.drawn ≡ length job.order → phase_of s.phases x ≡ Some Free
    → AreDoneBefore job s s.drawn → (t : Core) × Runs job s (rounds x n) t × AreDoneBefore job t (length job.order)
rounds_run job is x zero s count free done =
    let all : s.drawn ≡ length job.order = omega arith in
    (s, refl, subst (λ k. AreDoneBefore job s k) all done)
rounds_run job is x (suc n) s count free done =
    let m = get_or job.order s.drawn 0 in
    let at : StandsAt job.order s.drawn m = slice_get-get_or job.order s.drawn 0 (omega arith) in
    let next = after job is x s m free at done in
    let drew : next.drawn ≡ s.drawn + 1 = drawn_after job is x s m free at done in
    let more = rounds_run job is x n next (omega arith) (free_after job is x s m free at done)
    (subst (λ k. AreDoneBefore job next k) (sym drew) (done_after job is x s m free at done)) in
    (more.0, round job is x s m free at done (rounds x n) more.0 more.1, more.2)

-- where all places of the order are, all messages are
pub all_are_done : (job : JobValue) → IsJob job → (s : Core) → AreDoneBefore job s (length job.order) → AreAllDone job s
all_are_done job is s done m within =
    let count : length job.needs ≡ length job.assigned = is.needs.count in
    let also : length job.assigned ≡ length job.ops = is.count in
    let last : m ≤ length job.ops = within.to in
    let stands = is.order.each m within.from (omega arith) in
    done stands.0 m (slice_get_within job.order stands.0 m stands.1) stands.1

pub one_actor_ends : (job : JobValue) → IsJob job → OneActorEnds job
one_actor_ends job is seats x from to =
    let run = rounds_run job is x (length job.order) (opening seats) (omega arith) (phase_free seats x from to)
    (λ place m before stands. absurd (omega arith)) in
    (run.0, run.1, all_are_done job is run.0 run.2)

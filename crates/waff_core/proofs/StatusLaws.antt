-- Each message has one status.
use Rattle.std.proofs.Common.{◌≡◌, ℕ, ◌<◌, ◌≤◌, ◌⊎◌, inl, inr, true, length, Some, refl, ap, sym, ◌∙◌, subst, arith, ⊎_elim}
use Rattle.std.proofs.lemmas.Bool.{cases_lt, true≢false}
use Rattle.waff_core.specs.Job.{JobValue, IsJob, IsIn}
use Rattle.waff_core.specs.Machine.{Core, phase_of}
use Rattle.waff_core.specs.Statuses.{HasStatus}
use Rattle.waff_core.specs.Laws.{EachHasOneStatus}
use Rattle.waff_core.specs.declared.actors.Phase.TheVariants.{Drawn, Running as Runs}
use Rattle.waff_core.specs.declared.actors.Status.{Status}
use Rattle.waff_core.specs.declared.actors.Status.TheVariants.{Waiting, Held, Running, Done}
use Rattle.waff_core.proofs.Phases.{Has}
use Rattle.waff_core.proofs.Sound.{Sound, WasDrawn}
use Rattle.waff_core.proofs.Arrival.{sound_at}

module _ (job : JobValue) (is : IsJob job) where
  -- a message that was drawn does not wait
  waits_not : (s : Core) (m : ℕ) → HasStatus job s m Waiting → WasDrawn job s.drawn m → ⊥
  waits_not s m waits (place, before, at) = let after : s.drawn ≤ place = waits place at in omega arith

  -- two statuses of one message are the same
  status_once : (s : Core) → Sound job s → (m : ℕ) (one other : Status) → HasStatus job s m one → HasStatus job s m other → one ≡ other
  status_once s sound m Waiting Waiting h k = refl
  status_once s sound m Waiting (Held x) h k = absurd (waits_not s m h (sound.held x m (inl k)))
  status_once s sound m Waiting (Running x) h k = absurd (waits_not s m h (sound.held x m (inr k)))
  status_once s sound m Waiting Done h k = absurd (waits_not s m h (sound.over m k))
  status_once s sound m (Held x) Waiting h k = absurd (waits_not s m k (sound.held x m (inl h)))
  status_once s sound m (Held x) (Held y) h k = ap (λ z. Held z) (sound.alone x y m (inl h) (inl k))
  status_once s sound m (Held x) (Running y) h k =
      let same : x ≡ y = sound.alone x y m (inl h) (inr k) in
      let there : phase_of s.phases y ≡ Some (Drawn m) = subst (λ z. phase_of s.phases z ≡ Some (Drawn m)) same h in
      cc
  status_once s sound m (Held x) Done h k = absurd (true≢false (sym k ∙ sound.undone x m (inl h)))
  status_once s sound m (Running x) Waiting h k = absurd (waits_not s m k (sound.held x m (inr h)))
  status_once s sound m (Running x) (Held y) h k =
      let same : x ≡ y = sound.alone x y m (inr h) (inl k) in
      let there : phase_of s.phases y ≡ Some (Runs m) = subst (λ z. phase_of s.phases z ≡ Some (Runs m)) same h in
      cc
  status_once s sound m (Running x) (Running y) h k = ap (λ z. Running z) (sound.alone x y m (inr h) (inr k))
  status_once s sound m (Running x) Done h k = absurd (true≢false (sym k ∙ sound.undone x m (inr h)))
  status_once s sound m Done Waiting h k = absurd (waits_not s m k (sound.over m h))
  status_once s sound m Done (Held x) h k = absurd (true≢false (sym h ∙ sound.undone x m (inl k)))
  status_once s sound m Done (Running x) h k = absurd (true≢false (sym h ∙ sound.undone x m (inr k)))
  status_once s sound m Done Done h k = refl

  status_of_drawn : (s : Core) (m : ℕ) → (s.done m ≡ true) ⊎ ((x : ℕ) × Has s.phases x m) → (status : Status) × HasStatus job s m status
  status_of_drawn s m (inl done) = (Done, done)
  status_of_drawn s m (inr (x, inl holds)) = (Held x, holds)
  status_of_drawn s m (inr (x, inr runs)) = (Running x, runs)

  has_status : (s : Core) → Sound job s → (m : ℕ) → IsIn job m → (status : Status) × HasStatus job s m status
  has_status s sound m within =
      let count : length job.needs ≡ length job.assigned = is.needs.count in
      let also : length job.assigned ≡ length job.ops = is.count in
      let last : m ≤ length job.ops = within.to in
      let stands = is.order.each m within.from (omega arith) in
      ⊎_elim {C = (status : Status) × HasStatus job s m status}
      (λ (before : stands.0 < s.drawn). status_of_drawn s m (sound.kept stands.0 m before stands.1))
      (λ (after : s.drawn ≤ stands.0). (
        Waiting,
        λ place at. let same : place ≡ stands.0 = is.order.once place stands.0 m at stands.1 in omega arith,
      ))
      (cases_lt stands.0 s.drawn)

  pub each_has_one_status : EachHasOneStatus job
  each_has_one_status seats s reaches m within =
      let sound = sound_at job is seats s reaches in
      let status = has_status s sound m within in
      (status.0, status.1, λ other has. status_once s sound m other status.0 has status.1)

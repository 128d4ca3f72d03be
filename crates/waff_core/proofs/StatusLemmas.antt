-- The statuses of messages.
use Rattle.std.proofs.Common.{◌≡◌, ℕ, ◌<◌, ◌≤◌, true, List, Some, inl, inr, arith, sym, ◌∙◌, ⊎_elim}
use Rattle.std.proofs.lemmas.Bool.{cases_lt, false_from_ne_true, true≢false}
use Rattle.waff_core.specs.Job.{JobValue, IsJob}
use Rattle.waff_core.specs.Machine.{phase_of}
use Rattle.waff_core.specs.Laws.{ShowsWhatItHas}
use Rattle.waff_core.specs.Statuses.{HasStatus, ShowsStatus}
use Rattle.waff_core.specs.declared.actors.Phase.{Phase}
use Rattle.waff_core.specs.declared.actors.Phase.TheVariants.{Drawn, Running}
use Rattle.waff_core.specs.declared.actors.Status.{Status}
use Rattle.waff_core.specs.declared.actors.Status.TheVariants.{Waiting, Held, Done, Running as Run}
use Rattle.waff_core.proofs.Phases.{Has}
use Rattle.waff_core.proofs.Sound.{WasDrawn, sound_reached}

-- the first actors do not have message n
abbrev pub HaveNot : List Phase → ℕ → ℕ → Type 0
HaveNot phases n at = (x : ℕ) → x ≤ at → (¬ (phase_of phases x ≡ Some (Drawn n))) × (¬ (phase_of phases x ≡ Some (Running n)))

-- the status that a state shows is the one that it has
pub shows_what_it_has : (job : JobValue) → IsJob job → ShowsWhatItHas job
shows_what_it_has job is seats s reaches m status = (to status, from status)
  where
    to : (status : Status) → ShowsStatus s m status → HasStatus job s m status
    to Waiting h = λ place at.
        let sound = sound_reached job is seats reaches.0 s reaches.1 in
        ⊎_elim {C = s.drawn ≤ place}
        (λ (drawn : place < s.drawn).
        ⊎_elim {C = s.drawn ≤ place}
        (λ (done : s.done m ≡ true). absurd (true≢false (sym done ∙ h.0)))
        (λ (has : (x : ℕ) × Has s.phases x m).
        ⊎_elim {C = s.drawn ≤ place}
        (λ (holds : phase_of s.phases has.0 ≡ Some (Drawn m)). absurd (h.1 has.0 holds))
        (λ (runs : phase_of s.phases has.0 ≡ Some (Running m)). absurd (h.2 has.0 runs))
        has.1)
        (sound.kept place m drawn at))
        (λ (later : s.drawn ≤ place). later)
        (cases_lt place s.drawn)
    to (Held x) h = h
    to (Run x) h = h
    to Done h = h

    waits : HasStatus job s m Waiting → WasDrawn job s.drawn m → ⊥
    waits h was = omega (arith, was.1, h was.0 was.2)

    from : (status : Status) → HasStatus job s m status → ShowsStatus s m status
    from Waiting h =
        let sound = sound_reached job is seats reaches.0 s reaches.1 in (
          false_from_ne_true (s.done m) (λ done. waits h (sound.over m done)),
          λ x holds. waits h (sound.held x m (inl holds)),
          λ x runs. waits h (sound.held x m (inr runs)),
        )
    from (Held x) h = h
    from (Run x) h = h
    from Done h = h

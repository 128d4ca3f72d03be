-- An actor whose phase changes leaves the runs of the others.
use Rattle.std.proofs.Common.{◌≡◌, ◌≢◌, ℕ, List, Some, sym, ◌∙◌, subst}
use mathlib.Core.Logic.{dite}
use native.Mathlib.Decide.{ℕ_discrete}
use Rattle.std.proofs.lemmas.Option.{same_Some}
use Rattle.waff_core.specs.Machine.{phase_of, with_phase}
use Rattle.waff_core.specs.declared.actors.Phase.{Phase}
use Rattle.waff_core.specs.declared.actors.Phase.TheVariants.{Running}
use Rattle.waff_core.proofs.Phases.{phase_same, phase_other}

-- the phase is not that of an actor that runs a message
abbrev pub IsStill : Phase → Type 0
IsStill phase = (n : ℕ) → phase ≢ Running n

-- an actor whose phase changes to one that is no run leaves the others' runs, and has none
pub runs_before : (phases : List Phase) (x : ℕ) (old phase : Phase) → phase_of phases x ≡ Some old → IsStill phase
    → (y n : ℕ) → phase_of (with_phase phases x phase) y ≡ Some (Running n) → phase_of phases y ≡ Some (Running n)
runs_before phases x old phase is still y n runs = dite (ℕ_discrete y x)
    (λ same. let there : phase_of (with_phase phases x phase) y ≡ Some phase
    = subst (λ z. phase_of (with_phase phases x phase) z ≡ Some phase) (sym same) (phase_same phases x old phase is) in
    absurd (still n (same_Some phase (Running n) (sym there ∙ runs))))
    (λ other. sym (phase_other phases x y old phase is other) ∙ runs)

-- an actor that did not run leaves the others' runs
pub runs_after : (phases : List Phase) (x : ℕ) (old phase : Phase) → phase_of phases x ≡ Some old → IsStill old
    → (y n : ℕ) → phase_of phases y ≡ Some (Running n) → phase_of (with_phase phases x phase) y ≡ Some (Running n)
runs_after phases x old phase is still y n runs = dite (ℕ_discrete y x)
    (λ same. let there : phase_of phases x ≡ Some (Running n) = subst (λ z. phase_of phases z ≡ Some (Running n)) same runs in
    absurd (still n (same_Some old (Running n) (sym is ∙ there))))
    (λ other. phase_other phases x y old phase is other ∙ runs)

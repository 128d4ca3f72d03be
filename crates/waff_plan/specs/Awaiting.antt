-- Who awaits whom, as messages are taken one after another: each waits for those that it awaits and that are
-- not taken.
use Rattle.std.specs.Prelude.{ℕ, ◌↔◌, List, map, Contains}
use Rattle.waff_waits.specs.Waits.{AreWaits, HasFinished, WhoWaits}
use Rattle.waff_plan.specs.Work.{IsAwaited, IsNumber, Work, numbers}

-- for each message the numbers of those that it awaits
abbrev pub awaited_by : Work → List (List ℕ)
awaited_by work = map (λ m. map (λ a. a.message) (work.awaits m)) (numbers work)

-- all that message m awaits are taken
abbrev pub IsOpen : Work → List ℕ → ℕ → Type 0
IsOpen work taken m = (i : ℕ) → IsAwaited (work.awaits m) i → Contains taken i

-- who waits for whom, where these are taken
pub record AreAwaiting (work : Work) (taken : List ℕ) (w : WhoWaits) : Type 0 where
  pub waits : AreWaits (numbers work) (awaited_by work) w
  pub marks : (i : ℕ) → IsNumber work i → HasFinished w i ↔ Contains taken i

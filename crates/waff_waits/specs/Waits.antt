-- Who waits for whom, as messages enter, are let go and finish.
use Rattle.std.specs.Prelude.{◌≡◌, ◌≢◌, ℕ, ◌+◌, ◌-◌, ◌≤◌, Bool, true, false, List, [], ◌∷◌, length}
use Rattle.std.specs.Prelude.{Contains, slice_index_or, slice_set}
use Rattle.waff_model.specs.Numbers.{IsAmongFirst}
use Rattle.waff_order.specs.Needs.{needs_of}
use Rattle.waff_waits.specs.Times.{times}

-- of message 1, 2 and so on the messages that wait for it, each as often as it does, and whether it
-- has finished
pub record WhoWaits : Type 0 where
  pub awaited : List (List ℕ)
  pub finished : List Bool

-- the list of message i, from 1
abbrev pub dependents_of : List (List ℕ) → ℕ → List ℕ
dependents_of lists i = slice_index_or lists (i - 1) []

-- those that wait for message i
abbrev pub waiting_for : WhoWaits → ℕ → List ℕ
waiting_for w i = dependents_of w.awaited i

-- message i has finished
abbrev pub HasFinished : WhoWaits → ℕ → Type 0
HasFinished w i = slice_index_or w.finished (i - 1) false ≡ true

-- message m waits for none
abbrev pub WaitsForNone : WhoWaits → ℕ → Type 0
WaitsForNone w m = (i : ℕ) → Contains (waiting_for w i) m → ⊥

-- message m enters: it waits for each of these that has not finished, as often as it is listed
pub record Enters (old : WhoWaits) (m : ℕ) (needs : List ℕ) (new : WhoWaits) : Type 0 where
  pub count : length new.awaited ≡ length old.awaited
  pub finished : new.finished ≡ old.finished
  pub others : (i x : ℕ) → x ≢ m → times x (waiting_for new i) ≡ times x (waiting_for old i)
  pub waits : (i : ℕ) → 1 ≤ i → ¬ HasFinished old i
      → times m (waiting_for new i) ≡ times m (waiting_for old i) + times i needs
  pub over : (i : ℕ) → 1 ≤ i → HasFinished old i → waiting_for new i ≡ waiting_for old i

-- message m, which waits for message i, is let go
pub record LetsGo (old : WhoWaits) (i m : ℕ) (new : WhoWaits) : Type 0 where
  pub number : IsAmongFirst (length old.awaited) m
  pub rest : List ℕ
  pub first : waiting_for old i ≡ m ∷ rest
  pub gone : new ≡ record { awaited = slice_set old.awaited (i - 1) rest; finished = old.finished }

-- who waits for whom, where these have entered with these needs: each waits for those of its needs
-- that have not finished, and for nothing else
pub record AreWaits (entered : List ℕ) (needs : List (List ℕ)) (w : WhoWaits) : Type 0 where
  pub count : length w.awaited ≡ length needs
  pub marks : length w.finished ≡ length needs
  pub each : (i m : ℕ) → 1 ≤ i → Contains entered m → ¬ HasFinished w i
      → times m (waiting_for w i) ≡ times i (needs_of needs m)
  pub over : (i : ℕ) → 1 ≤ i → HasFinished w i → waiting_for w i ≡ []
  pub only : (i m : ℕ) → Contains (waiting_for w i) m → Contains entered m

-- message m has entered and waits for none
abbrev pub IsFree : List ℕ → WhoWaits → ℕ → Type 0
IsFree entered w m = Contains entered m × WaitsForNone w m

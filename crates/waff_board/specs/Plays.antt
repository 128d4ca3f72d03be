-- What the steps of the board tell the seats that make them.
use Rattle.std.specs.Prelude.{◌≡◌, ℕ, ◌+◌, ◌-◌, ◌==◌, List, [], ◌∷◌, ◌++◌, slice_get}
use Rattle.std.specs.List.{AllZip}
use Rattle.atomic_table.specs.Table.{Me, Step}
use Rattle.waff_model.specs.Layout.{Space}
use Rattle.waff_cells.specs.Meaning.{Cells}
use Rattle.waff_cells.specs.Serial.{serial}
use Rattle.waff_core.specs.Job.{owners_of}
use Rattle.waff_core.specs.Machine.{phase_drawn}
use Rattle.waff_core.specs.declared.actors.Phase.TheVariants.{Free, Running}
use Rattle.waff_cells.specs.Parcel.{IsParcel}
use Rattle.waff_board.specs.Seats.{fresh}
use Rattle.waff_board.specs.declared.view.View.{View}
use Rattle.waff_board.specs.declared.view.TheConstants.{DONE}

-- the view after a draw of number p
abbrev pub drawn_view : View → ℕ → View
drawn_view v p =
    record v { phase = phase_drawn (slice_get v.job.order p); draws = v.draws ++ p ∷ [] }

-- the view after a look at message n, which found this status word
abbrev pub looked_view : View → ℕ → ℕ → View
looked_view v n word = record v { looks = v.looks ++ (n, word == DONE) ∷ [] }

-- the view after message m has begun
abbrev pub begun_view : View → ℕ → View
begun_view v m = record v { phase = Running m }

-- the view after message m is finished
abbrev pub finished_view : View → ℕ → View
finished_view v m = record v { phase = Free; ran = v.ran ++ m ∷ [] }

-- the slots of these affinities, in order, each with its parcel of the cells
abbrev pub Parcels : {S : Type 0} → (S → List ℕ)
    → List Space → Cells → List ℕ → List (ℕ × S) → Type 0
Parcels items spaces cells owners held =
    AllZip (λ a slot. (slot.0 ≡ a) × IsParcel spaces a cells (items slot.1)) owners held

-- a draw: fetch_add of 1 on word 0
abbrev pub Draws : {S : Type 0} → Step S → Me S View → ℕ → Me S View → Type 0
Draws step me found after = after ≡ (drawn_view me.0 found, me.1)

-- a look: a load of a status word
abbrev pub Looks : {S : Type 0} → Step S → Me S View → ℕ → Me S View → Type 0
Looks step me found after = after ≡ (looked_view me.0 step.word found, me.1)

-- a begin: a store of 1 in the message's status word, with which the slots of its footprint's
-- owners leave home. They have the parcels of the state of arrival order before the message
abbrev pub Begins : {S : Type 0} → (S → List ℕ) → Step S → Me S View → ℕ → Me S View → Type 0
Begins items step me stored after =
    (after.0 ≡ begun_view me.0 step.word)
    × Parcels items me.0.job.layout.spaces (serial me.0.job.ops (step.word - 1))
    (owners_of me.0.job.owners step.word) after.1

-- a finish: a store of 2 in the message's status word, with which the slots come home
abbrev pub Finishes : {S : Type 0} → Step S → Me S View → ℕ → Me S View → Type 0
Finishes step me stored after = after ≡ (finished_view me.0 step.word, [])

-- the view of the first seat after it has made one more
abbrev pub made_view : View → View
made_view v = record v { made = v.made + 1 }

-- the view of the seat that it makes
abbrev pub next_view : View → View
next_view v = fresh v.job (v.made + 1) 0

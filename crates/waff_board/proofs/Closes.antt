-- What a closed board holds.
use Rattle.std.proofs.Common.{inr, ◌≡◌, ℕ, ◌<◌, true, true≢false, List, length, slice_index, sym, ◌∙◌, subst}
use mathlib.Core.Option.{some}
use lib.ListN.{get_elem?}
use Rattle.atomic_table.specs.Table.{Final, Seen}
use Rattle.waff_cells.specs.Meaning.{Cells}
use Rattle.waff_cells.specs.Serial.{serial}
use Rattle.waff_core.specs.Job.{JobValue, IsIn}
use Rattle.waff_core.specs.Machine.{IsAway}
use Rattle.waff_cells.specs.Parcel.{IsParcel}
use Rattle.waff_board.specs.Seats.{HasSeen, Shown}
use Rattle.waff_board.specs.Rule.{Holds}
use Rattle.waff_board.specs.declared.view.Setup.{Setup}
use Rattle.waff_board.specs.declared.view.View.{View}
use Rattle.waff_board.proofs.Known.{Known, known}
use Rattle.waff_board.proofs.Begins.{parcel_same}

-- the slots have the parcels of the cells
pub record HaveParcels {S : Type 0} (items : S → List ℕ) (job : JobValue) (cells : Cells) (xs : List S) : Type 0 where
  pub count : length xs ≡ length job.layout.tree
  pub each : (a : ℕ) → a < length job.layout.tree
      → (y : S) × (get_elem? xs a ≡ some y) × IsParcel job.layout.spaces a cells (items y)

module _ {S : Type 0} (items : S → List ℕ) (setup : Setup) (id : ℕ) (v : View) (words : List ℕ) (xs : List S)
    (final : Final (Seen (Holds items setup) id v) words xs) where
  -- what the view has seen has a status word that says so
  pub seen_is_done : (n : ℕ) → IsIn setup.job n → HasSeen v n → slice_index words n ≡ 2
  seen_is_done n within seen =
      let h = final.1.0 in
      let mine : Shown setup.job h.core v = h.seats.each id v final.1.1 in
      subst (λ ws. slice_index ws n ≡ 2) final.2 ((h.words.statuses n within).done.1 (mine.seen n seen))

  -- where all status words say so, the slots have the parcels of the state after all messages
  pub all_done_is_serial : ((n : ℕ) → IsIn setup.job n → slice_index words n ≡ 2)
      → HaveParcels items setup.job (serial setup.job.ops (length setup.job.ops)) xs
  all_done_is_serial over =
      let h = final.1.0 in
      let job = setup.job in
      let facts : Known job setup.seats h.core = known job h.told.job setup.seats h.events h.core h.reached in
      let done : (n : ℕ) → IsIn job n → h.core.done n ≡ true
      = (λ n within. (h.words.statuses n within).done.0 (subst (λ ws. slice_index ws n ≡ 2) (sym final.2) (over n within))) in
      let home : (a : ℕ) → ¬ IsAway job h.core a
      = (λ a away.
      let within : IsIn job away.message = facts.within away.actor away.message (inr away.running) in
      true≢false (sym (done away.message within) ∙ facts.undone away.actor away.message (inr away.running))) in
      record {
        count = sym final.3 ∙ h.slots.count;
        each = λ a within.
            let slot = h.slots.home a within (home a) in (
              slot.0,
              final.4 a slot.0 slot.1,
              parcel_same job a h.core.cells (serial job.ops (length job.ops)) (items slot.0) (facts.finished done a) slot.2,
            );
      }

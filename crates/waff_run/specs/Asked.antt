-- What a store is asked for a message.
use Rattle.std.specs.Prelude.{◌≡◌, ℕ, Bool, true, false, ◌+◌, ◌*◌, ◌%◌, ◌^◌, ◌<◌, ◌≤◌, List, [], ◌∷◌, ◌++◌, Option, Some, None, ⊤}
use Rattle.std.specs.Prelude.{drop, length, map, slice_get, slice_index, slice_index_or, take}
use Rattle.std.specs.Int.{from_le_bytes, to_le_bytes, w64}
use Rattle.waff_model.specs.declared.cell.Cell.{Cell}
use Rattle.waff_model.specs.declared.op.Op.{Op}
use Rattle.waff_model.specs.declared.op.Op.TheVariants.{Add, Copy, Read, Set, Swap}
use Rattle.waff_run.specs.Calls.{AreOneCall}
use Rattle.waff_run.specs.Named.{ListsSpots}
use Rattle.waff_run.specs.Places.{Placing, spot_of}
use Rattle.waff_run.specs.Syncing.{ListsOnce, files_synced}
use Rattle.waff_run.specs.declared.places.Spot.{Spot}
use Rattle.waff_run.specs.declared.syncing.Syncs.{Syncs}

-- one thing that was asked of a store and that it did: these bytes were read at a place, or written there, or a file was synced
pub data Access : Type 0 where
  was_read : Spot → List ℕ → Access
  was_written : Spot → List ℕ → Access
  was_synced : ℕ → Access

-- what was asked before is followed by what P says, and by nothing else. What is not known stays unknown
abbrev pub GoesOn : Option (List Access) → Option (List Access) → (List Access → Type 0) → Type 0
GoesOn None None P = ⊤
GoesOn None (Some later) P = ⊥
GoesOn (Some before) None P = ⊥
GoesOn (Some before) (Some later) P = (asked : List Access) × P asked × (later ≡ before ++ asked)

-- it is followed by one thing more
abbrev pub GoesOnBy : Option (List Access) → Option (List Access) → Access → Type 0
GoesOnBy before later access = GoesOn before later (λ asked. asked ≡ access ∷ [])

-- each byte is that of the number, the lowest first, again and again
abbrev pub IsRepeated : ℕ → List ℕ → Type 0
IsRepeated value bytes =
    (at : ℕ) → at < length bytes → slice_index bytes at ≡ slice_index (to_le_bytes w64 value) (at % 8)

-- the bytes, with the number added to that in the first eight, modulo 2^64
abbrev pub added : ℕ → List ℕ → List ℕ
added value bytes =
    to_le_bytes w64 ((from_le_bytes w64 (take 8 bytes) + value) % 2 ^ 64) ++ drop 8 bytes

-- what an operation asks, done on so many bytes from its cell on
abbrev pub AsksOp : Placing → ℕ → Op → List Access → Type 0
AsksOp placing long (Read cell) asked =
    (bytes : List ℕ) × (length bytes ≡ long) × (asked ≡ was_read (spot_of placing cell) bytes ∷ [])
AsksOp placing long (Set cell value) asked =
    (bytes : List ℕ) × (length bytes ≡ long) × IsRepeated value bytes
    × (asked ≡ was_written (spot_of placing cell) bytes ∷ [])
AsksOp placing long (Add cell value) asked =
    (bytes sum : List ℕ) × (length bytes ≡ long) × (8 ≤ long → sum ≡ added value bytes)
    × (asked ≡ was_read (spot_of placing cell) bytes ∷ was_written (spot_of placing cell) sum ∷ [])
AsksOp placing long (Copy cell source) asked =
    (bytes : List ℕ) × (length bytes ≡ long)
    × (asked ≡ was_read (spot_of placing source) bytes ∷ was_written (spot_of placing cell) bytes ∷ [])
AsksOp placing long (Swap cell other) asked =
    (one two : List ℕ) × (length one ≡ long) × (length two ≡ long)
    × (asked ≡ was_read (spot_of placing cell) one ∷ was_read (spot_of placing other) two
    ∷ was_written (spot_of placing cell) two ∷ was_written (spot_of placing other) one ∷ [])

-- what is asked for so many operations from one on that are one call: it is done in parts, in order, each of which is the
-- operation at its begin, done on the cells of so many
pub data AsksParts (placing : Placing) (ops : List Op) (from : ℕ) : ℕ → List Access → Type 0 where
  no_part : AsksParts placing ops from 0 []
  part_more : (done count : ℕ) (op : Op) (before asked : List Access) → AsksParts placing ops from done before
      → slice_get ops (from + done) ≡ Some op → 0 < count → AsksOp placing (placing.bytes * count) op asked
      → AsksParts placing ops from (done + count) (before ++ asked)

-- what is asked for the operations before one: they are done in calls, in order, each of which begins where the one before it
-- ends
pub data AsksCalls (placing : Placing) (ops : List Op) : ℕ → List Access → Type 0 where
  no_call : AsksCalls placing ops 0 []
  call_more : (from count : ℕ) (before asked : List Access) → AsksCalls placing ops from before
      → AreOneCall placing ops from count → AsksParts placing ops from count asked
      → AsksCalls placing ops (from + count) (before ++ asked)

-- what is asked so that the files with these numbers are synced: a sync of each, once, in order
abbrev pub AsksSyncOf : List ℕ → List Access → Type 0
AsksSyncOf numbers asked =
    (files : List ℕ) × ListsOnce numbers files × (asked ≡ map was_synced files)

-- what is asked so that the files are synced that are to be at the end of these operations
abbrev pub AsksSyncs : Placing → Syncs → List Op → List Access → Type 0
AsksSyncs placing which ops asked = AsksSyncOf (files_synced placing which ops) asked

-- what is asked for a message of these operations: all its calls, and its syncs behind them
pub record AsksMessage (placing : Placing) (which : Syncs) (ops : List Op) (asked : List Access) : Type 0 where
  pub calls : List Access
  pub syncs : List Access
  pub done : AsksCalls placing ops (length ops) calls
  pub synced : AsksSyncs placing which ops syncs
  pub whole : asked ≡ calls ++ syncs

-- what is asked for one of these places: it is read, and written back as it is
abbrev pub AsksOneBack : ℕ → List Spot → ℕ → List Access → Type 0
AsksOneBack long spots at asked =
    (spot : Spot) × (bytes : List ℕ) × ((none : Spot) → slice_index_or spots at none ≡ spot)
    × (length bytes ≡ long)
    × (asked ≡ was_read spot bytes ∷ was_written spot bytes ∷ [])

-- what is asked for the first of these places, so many, in order
pub data AsksBack (long : ℕ) (spots : List Spot) : ℕ → List Access → Type 0 where
  no_place : AsksBack long spots 0 []
  place_more : (at : ℕ) (before asked : List Access) → AsksBack long spots at before
      → AsksOneBack long spots at asked → AsksBack long spots (at + 1) (before ++ asked)

-- what is asked so that these places, of so many bytes each, are filled: each is read and written back, and behind that each file
-- in which one lies is synced, once
pub record AsksFill (long : ℕ) (spots : List Spot) (asked : List Access) : Type 0 where
  pub back : List Access
  pub syncs : List Access
  pub done : AsksBack long spots (length spots) back
  pub synced : AsksSyncOf (map (λ spot. spot.file) spots) syncs
  pub whole : asked ≡ back ++ syncs

-- what is asked so that cells are filled, each once
abbrev pub AsksFilled : Placing → List Cell → List Access → Type 0
AsksFilled placing cells asked =
    (spots : List Spot) × ListsSpots placing cells spots × AsksFill placing.bytes spots asked

-- that is asked for, or nothing is
abbrev pub AsksFilling : Placing → Bool → List Cell → List Access → Type 0
AsksFilling placing true cells asked = AsksFilled placing cells asked
AsksFilling placing false cells asked = asked ≡ []

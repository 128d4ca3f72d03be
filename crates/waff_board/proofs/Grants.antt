-- The parcels of a message: how many they are, and what its operations do to them.
use Rattle.std.proofs.Common.{◌≡◌, ◌↔◌, IsSome, Option, ℕ, zero, suc, ◌-◌, ◌<◌, ◌≤◌, ◌||◌, Bool, true, false, List, All, Vec, Global, map, length, set, slice_index_or, eq-eqb, ne_eqb, sym, ap, ◌∙◌, subst, arith}
use mathlib.Core.Logic.{dite}
use native.Mathlib.Decide.{ℕ_discrete}
use Rattle.std.proofs.Math.Bool.{or-true}
use Rattle.std.proofs.lemmas.List.{get_or-set_same, get_or-set_other, length-map}
use Rattle.waff_model.specs.Cells.{cells_of}
use Rattle.waff_model.specs.Layout.{Hierarchy, Space}
use Rattle.waff_model.specs.declared.cell.Cell.{Cell}
use Rattle.waff_model.specs.declared.op.Op.{Op}
use Rattle.waff_cells.specs.Grid.{HasSizes}
use Rattle.waff_cells.specs.Held.{rows_of}
use Rattle.waff_cells.specs.Meaning.{Cells, meaning}
use Rattle.waff_cells.specs.Serial.{ops_of, serial}
use Rattle.waff_cells.specs.Parcel.{AreParcels, IsHeld, IsOwned}
use Rattle.waff_cells.proofs.Holdings.{parcel_address, parcel_sizes}
use Rattle.waff_core.specs.Job.{JobValue, IsJob, IsIn, owners_of}
use Rattle.waff_core.proofs.Owning.{message_owned}
use Rattle.waff_board.specs.Hands.{running_token}
use Rattle.waff_board.specs.Plays.{finished_view}
use Rattle.waff_board.specs.Seats.{has_seen}
use Rattle.waff_board.specs.Tokens.{Token, HoldsCells, IsCellOf}
use Rattle.waff_board.specs.declared.hand.Hand.{Hand}
use Rattle.waff_board.specs.declared.view.View.{View}
use Rattle.waff_board.proofs.Seen.{or_false, seen_finished}

-- the rows hold each cell of their owners
pub held_cells : (spaces : List Space) (owners : List ℕ) (cells : Cells) (rows : List (List ℕ)) (named : List Cell)
    → AreParcels spaces owners cells rows → All (IsOwned spaces owners) named → All (IsHeld spaces rows) named
held_cells spaces owners cells rows named are owned k d within = record {
  there = (owned k d within).there;
  within = parcel_address spaces owners rows (parcel_sizes spaces owners cells rows are) (slice_index_or named k d) (owned k d within);
}

-- the state after a message is what its operations leave of the state before it
pub serial_after : (spaces : List Space) (owners : List ℕ) (ops : List (List Op)) (m : ℕ) (rows : List (List ℕ)) → 1 ≤ m
    → AreParcels spaces owners (meaning (ops_of ops m) (serial ops (m - 1))) rows → AreParcels spaces owners (serial ops m) rows
serial_after spaces owners ops zero rows from h = absurd (omega (arith, from))
serial_after spaces owners ops (suc n) rows from h =
    let before : suc n - 1 ≡ n = omega arith in
    subst (λ k. AreParcels spaces owners (meaning (ops_of ops (suc n)) (serial ops k)) rows) before h

-- what a run of the operations leaves of parcels
abbrev Runs : Hierarchy → List Op → List (List ℕ) → List (List ℕ) → Type 0
Runs layout ops rows left =
    (owners : List ℕ) (cells : Cells) → All (IsOwned layout.spaces owners) (cells_of ops) → AreParcels layout.spaces owners cells rows
    → AreParcels layout.spaces owners (meaning ops cells) left

-- the marks after message m is finished
pub marks_finished : (v : View) (marks : List Bool) (count m n : ℕ) → length marks ≡ count
    → ((k : ℕ) → k < count → slice_index_or marks k false ≡ has_seen v k) → m < count → n < count
    → slice_index_or (set marks m true) n false ≡ has_seen (finished_view v m) n
marks_finished v marks count m n long marked m_within n_within = dite (ℕ_discrete n m)
    (λ same.
    subst (λ k. slice_index_or (set marks m true) k false ≡ true) (sym same) (get_or-set_same marks m true false (omega (arith, m_within, long)))
    ∙ sym (seen_finished v m n ∙ ap (λ b. has_seen v n || b) (eq-eqb m n (sym same)) ∙ or-true (has_seen v n)))
    (λ other.
    get_or-set_other marks m n true false other ∙ marked n n_within
    ∙ sym (seen_finished v m n ∙ ap (λ b. has_seen v n || b) (ne_eqb m n (λ same. other (sym same))) ∙ or_false (has_seen v n)))

-- the operations of a message, as they run on the parcels of its owners, by what the job's getters answer
module _ (job : JobValue) (is : IsJob job) (m : ℕ) (within : IsIn job m) (layout : Hierarchy) (ops : List Op) (is_layout : layout ≡ job.layout)
    (is_ops : ops ≡ ops_of job.ops m) (rows : List (List ℕ))
    (before : AreParcels job.layout.spaces (owners_of job.owners m) (serial job.ops (m - 1)) rows) where
  owned : All (IsOwned job.layout.spaces (owners_of job.owners m)) (cells_of (ops_of job.ops m))
  owned = message_owned job is m within

  pub cells_held : All (IsHeld layout.spaces rows) (cells_of ops)
  cells_held =
      subst (λ (l : Hierarchy). All (IsHeld l.spaces rows) (cells_of ops)) (sym is_layout)
      (subst (λ (named : List Op). All (IsHeld job.layout.spaces rows) (cells_of named)) (sym is_ops)
      (held_cells job.layout.spaces (owners_of job.owners m) (serial job.ops (m - 1)) rows (cells_of (ops_of job.ops m)) before owned))

  pub parcels_after : (left : List (List ℕ)) → Runs layout ops rows left
      → AreParcels job.layout.spaces (owners_of job.owners m) (serial job.ops m) left
  parcels_after left runs =
      serial_after job.layout.spaces (owners_of job.owners m) job.ops m left within.from
      (subst (λ (o : List Op). Runs job.layout o rows left) is_ops (subst (λ (l : Hierarchy). Runs l ops rows left) is_layout runs)
      (owners_of job.owners m) (serial job.ops (m - 1)) owned before)

-- the parcels before a message, by the job and the rows as they are read
pub before_run : (job known : JobValue) (m : ℕ) (rows read : List (Vec ℕ Global)) → known ≡ job → read ≡ rows
    → AreParcels job.layout.spaces (owners_of job.owners m) (serial job.ops (m - 1)) (rows_of rows)
    → AreParcels known.layout.spaces (owners_of known.owners m) (serial known.ops (m - 1)) (rows_of read)
before_run job known m rows read same is_rows h =
    subst (λ (j : JobValue). AreParcels j.layout.spaces (owners_of j.owners m) (serial j.ops (m - 1)) (rows_of read)) (sym same)
    (subst (λ (xs : List (Vec ℕ Global)). AreParcels job.layout.spaces (owners_of job.owners m) (serial job.ops (m - 1)) (rows_of xs)) (sym is_rows) h)

-- the parcels that a token has, by what the job's getters answer
pub parcels_in : (hand : Hand) (m : ℕ) (token : Token) (job : JobValue) (layout : Hierarchy) (owners : List ℕ) (rows : List (Vec ℕ Global))
    → running_token hand m ≡ token → job ≡ hand.chair.me.0.job → layout ≡ job.layout → owners ≡ owners_of job.owners m → rows ≡ hand.parcels.items
    → (cells : Cells) → HoldsCells token cells → AreParcels layout.spaces owners cells (rows_of rows)
parcels_in hand m token job layout owners rows is same is_layout is_owners is_rows cells holds =
    subst (λ (l : Hierarchy). AreParcels l.spaces owners cells (rows_of rows)) (sym is_layout)
    (subst (λ names. AreParcels job.layout.spaces names cells (rows_of rows)) (sym is_owners)
    (subst (λ (xs : List (Vec ℕ Global)). AreParcels job.layout.spaces (owners_of job.owners m) cells (rows_of xs)) (sym is_rows)
    (subst (λ (j : JobValue). AreParcels j.layout.spaces (owners_of j.owners m) cells (rows_of hand.parcels.items)) (sym same)
    (subst (λ (t : Token). HoldsCells t cells) (sym is) holds))))

-- the cells that it has
pub owned_in : (hand : Hand) (m : ℕ) (token : Token) (job : JobValue) (layout : Hierarchy) (owners : List ℕ) (cell : Cell) (found : Option ℕ)
    → running_token hand m ≡ token → job ≡ hand.chair.me.0.job → layout ≡ job.layout → owners ≡ owners_of job.owners m
    → IsSome found ↔ IsOwned layout.spaces owners cell → IsSome found ↔ IsCellOf token cell
owned_in hand m token job layout owners cell found is same is_layout is_owners h =
    subst (λ (t : Token). IsSome found ↔ IsCellOf t cell) is
    (subst (λ (j : JobValue). IsSome found ↔ IsOwned j.layout.spaces (owners_of j.owners m) cell) same
    (subst (λ names. IsSome found ↔ IsOwned job.layout.spaces names cell) is_owners
    (subst (λ (l : Hierarchy). IsSome found ↔ IsOwned l.spaces owners cell) is_layout h)))

-- as many rows as before, where each has the size that it had
pub as_many : (now was : List (Vec ℕ Global)) → HasSizes (rows_of now) (map length (rows_of was)) → length now ≡ length was
as_many now was sizes =
    let same = ap (λ (xs : List ℕ). length xs) sizes in
    omega (
      arith,
      same,
      length-map (rows_of now) (λ (row : List ℕ). length row),
      length-map (rows_of was) (λ (row : List ℕ). length row),
      length-map now (λ (row : Vec ℕ Global). row.items),
      length-map was (λ (row : Vec ℕ Global). row.items),
    )

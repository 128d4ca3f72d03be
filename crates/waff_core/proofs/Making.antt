-- What a job is made of.
use Rattle.std.proofs.Common.{◌≡◌, ℕ, suc, ◌-◌, ◌<◌, ◌≤◌, List, [], ◌∷◌, length, get_or, slice_get, All, Contains, Some, false, arith, ap, refl, sym, ◌∙◌, subst, inl, inr}
use Rattle.std.proofs.lemmas.List.{get_or_default, length-map}
use Rattle.std.proofs.lemmas.List.Elements.{All-map, All-weaker}
use Rattle.std.proofs.lemmas.Option.{slice_get_cases, slice_get_within, get_or_from_slice_get}
use Rattle.waff_model.specs.Cells.{cells_of}
use Rattle.waff_model.specs.Layout.{Hierarchy, Space, IsCell, IsLayout, IsLocked, has_locks}
use Rattle.waff_model.specs.Messages.{Arrivals, IsMessage, IsTrace, sizes_of}
use Rattle.waff_model.specs.declared.limits.TheConstants.{MAX_OPS}
use Rattle.waff_model.specs.declared.message.Message.{Message}
use Rattle.waff_model.specs.declared.cell.Cell.{Cell}
use Rattle.waff_model.specs.declared.op.Op.{Op}
use Rattle.waff_model.proofs.TraceLemmas.{max_ops-most}
use Rattle.waff_model.proofs.Unlocking.{none_is_locked}
use Rattle.waff_assign.specs.Held.{Held, nothing, AreKnown, AreUnlocked}
use Rattle.waff_assign.specs.Lowest.{IsAffinityOf, IsAssignment, IsInFootprint, IsLowest, ListsLocks, ListsUses}
use Rattle.waff_assign.specs.Order.{affinity_of, held_of}
use Rattle.waff_assign.specs.declared.held.LockUse.{LockUse}
use Rattle.waff_assign.proofs.Assignments.{cells_of_layout}
use Rattle.waff_assign.proofs.Knowing.{unlocked_known}
use Rattle.waff_order.specs.Needs.{AreNeeds}
use Rattle.waff_cells.specs.Serial.{operations, ops_of}
use Rattle.waff_core.specs.Job.{IsJob, IsOrder}
use Rattle.waff_core.specs.Owners.{AreOwners}
use Rattle.waff_core.proofs.Listing.{ops_of-at, operations_at}

-- the operations of a trace's messages are few, and their cells are those of the layout
pub few_operations : (trace : Arrivals) → IsTrace trace → All (λ ops. length ops ≤ MAX_OPS) (operations trace.messages)
few_operations trace is =
    All-map (λ (ops : List Op). length ops ≤ MAX_OPS) (λ (m : Message). m.ops) trace.messages
    (All-weaker (IsMessage trace.version trace.sizes) (λ m. length m.ops ≤ MAX_OPS) (λ m h. omega (arith, h.within_ops, max_ops-most trace.version)) trace.messages is.messages)

pub cells_operations : (trace : Arrivals) (spaces : List Space) → IsTrace trace → trace.sizes ≡ sizes_of spaces
    → All (λ ops. All (IsCell spaces) (cells_of ops)) (operations trace.messages)
cells_operations trace spaces is fits =
    All-map (λ (ops : List Op). All (IsCell spaces) (cells_of ops)) (λ (m : Message). m.ops) trace.messages
    (All-weaker (IsMessage trace.version trace.sizes) (λ m. All (IsCell spaces) (cells_of m.ops))
    (λ m h. cells_of_layout trace.sizes spaces (cells_of m.ops) fits h.cells) trace.messages is.messages)

-- without locks a message's affinity covers its whole footprint
lowest_of_all : (layout : Hierarchy) (ops : List Op) (a : ℕ) → ((cell : Cell) → ¬ IsLocked layout.spaces cell) → IsAffinityOf layout ops (Some a)
    → IsLowest layout (IsInFootprint ops) a
lowest_of_all layout ops a free is = record {
  covers = λ cell has. is.1.covers cell (has, free cell);
  lowest = λ other covers. is.1.lowest other (λ cell has. covers cell has.0);
}

module _ (layout : Hierarchy) (messages : List Message) (assigned : List Held) (free : (cell : Cell) → ¬ IsLocked layout.spaces cell)
    (is : IsAssignment layout messages assigned) where
  lowest_of : (n a : ℕ) → 1 ≤ n → n ≤ length messages → affinity_of assigned n ≡ Some a
      → IsLowest layout (IsInFootprint (ops_of (operations messages) n)) a
  lowest_of n a from to at =
      elim ((slice_get_cases messages (n - 1)).1) [
        | inl there ↦
            let message = there.0 in
            let same : ops_of (operations messages) n ≡ message.ops
            = ops_of-at (operations messages) n from ∙ operations_at messages (n - 1) message there.2 in
            let affinity = subst (λ o. IsAffinityOf layout message.ops o) at (is.each n message from there.2).affinity in
            subst (λ (ops : List Op). IsLowest layout (IsInFootprint ops) a) (sym same) (lowest_of_all layout message.ops a free affinity)
        | inr past ↦ absurd (omega (arith, past.0))
      ]

pub job_of : (layout : Hierarchy) (trace : Arrivals) (assigned : List Held) (needs : List (List ℕ)) (order : List ℕ) (ops : List (List Op)) (owners : List (List ℕ))
    → IsLayout layout → IsTrace trace → trace.sizes ≡ sizes_of layout.spaces → has_locks layout.spaces ≡ false → IsAssignment layout trace.messages assigned
    → AreKnown layout.tree assigned → AreNeeds layout.tree assigned needs → IsOrder needs order → ops ≡ operations trace.messages
    → AreOwners layout.spaces ops owners
    → IsJob (record { layout = layout; ops = ops; assigned = assigned; needs = needs; owners = owners; order = order })
job_of layout trace assigned needs order ops owners is_layout is_trace fits none assignment known are_needs is_order is are_owners =
    let free = none_is_locked layout.spaces none in
    let long : length ops ≡ length trace.messages = ap length is ∙ length-map trace.messages (λ (m : Message). m.ops) in
    record {
      layout = is_layout;
      cells = subst (λ xs. All (λ ops. All (IsCell layout.spaces) (cells_of ops)) xs) (sym is) (cells_operations trace layout.spaces is_trace fits);
      few = subst (λ (xs : List (List Op)). All (λ ops. length ops ≤ MAX_OPS) xs) (sym is) (few_operations trace is_trace);
      count = assignment.count ∙ sym long;
      lowest = λ n a inside at.
          subst (λ (xs : List (List Op)). IsLowest layout (IsInFootprint (ops_of xs n)) a) (sym is)
          (lowest_of layout trace.messages assigned free assignment n a inside.from (omega (arith, inside.to, long)) at);
      known = known;
      unlocked = unlocked_known layout trace.messages assigned none assignment;
      needs = are_needs;
      owned = are_owners.count;
      owners = λ n inside. are_owners.each n inside.from inside.to;
      order = is_order;
    }

use Rattle.std.proofs.Common.{◌≡◌, ℕ, ◌<◌, ◌≤◌, slice_index}
use Rattle.std.specs.Slots.{slots_items}
use Rattle.waff_board.specs.declared.view.TheConstants.{DONE}
use Rattle.waff_board.proofs.closing.first_unfinished.Given as goal

abbrev pub invariant-loop-n : goal.invariant-loop-n
invariant-loop-n l = (m : ℕ) → 1 ≤ m → m < l.n → slice_index (slots_items l.closed.words) m ≡ DONE

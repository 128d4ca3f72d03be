use Rattle.std.proofs.Common.{◌≡◌, length, map, take, drop}
use Rattle.waff_cells.specs.Held.{rows_of}
use Rattle.waff_board.specs.Hands.{rows_at}
use Rattle.waff_board.proofs.Swapping.{IsSwapping}
use Rattle.waff_board.proofs.board.Board.swap_all.Given as goal

abbrev pub invariant-loop-a : goal.invariant-loop-a
invariant-loop-a l =
    (l.chair.table_id ≡ l.fn.chair.table_id)
    × IsSwapping (λ parcel. parcel.items) l.fn.chair.me.0 l.owners (map (λ slot. slot.1.items) l.fn.chair.me.1)
    (rows_at (rows_of l.fn.parcels.items) l.owners) l.a-index l.chair.me (rows_at (rows_of l.parcels.items) (take l.a-index l.owners))
    × (length l.parcels.items ≡ length l.fn.parcels.items)
    × (rows_at (rows_of l.parcels.items) (drop l.a-index l.owners) ≡ rows_at (rows_of l.fn.parcels.items) (drop l.a-index l.owners))

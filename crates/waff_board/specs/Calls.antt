-- What the calls of a board tell.
use Rattle.std.specs.Prelude.{◌≡◌, ℕ, ◌<◌, ◌≤◌, List, [], ◌∷◌, Some, None, MatchBool, find, length}
use Rattle.std.specs.Prelude.{not, slice_get}
use Rattle.waff_order.specs.Needs.{needs_of}
use Rattle.waff_board.specs.Plays.{drawn_view, looked_view}
use Rattle.waff_board.specs.Seats.{has_seen}
use Rattle.waff_board.specs.Tokens.{BoardValue, IsOf}
use Rattle.waff_board.specs.declared.clearing.Clear.{Clear}
use Rattle.waff_board.specs.declared.clearing.Clear.TheVariants.{Go, Wait}
use Rattle.waff_board.specs.declared.drawing.Draw.{Draw}
use Rattle.waff_board.specs.declared.drawing.Draw.TheVariants.{Got, Over}
use Rattle.waff_board.specs.declared.view.View.{View}

-- a draw: `draws` has one more number, which is the place of the message in the order, or past the
-- end of the order
abbrev pub DrawTells : BoardValue → View → Draw → Type 0
DrawTells board v (Got drawn) =
    (p : ℕ) × (p < length v.job.ops) × (slice_get v.job.order p ≡ Some drawn.message)
    × (drawn.view ≡ drawn_view v p) × IsOf board drawn
DrawTells board v (Over seat) = (p : ℕ) × (length v.job.ops ≤ p)
    × (seat.view ≡ drawn_view v p) × IsOf board seat

-- a look at message n: `looks` has one more
abbrev pub Looked : View → ℕ → View → Type 0
Looked v n w = (word : ℕ) × (w ≡ looked_view v n word)

-- a look at each of these messages, in order, that the view has not seen done: `looks` has one more
-- for each
abbrev pub LooksOver : View → List ℕ → View → Type 0
LooksOver v [] w = w ≡ v
LooksOver v (n ∷ messages) w =
    (u : View) × MatchBool (has_seen v n) (u ≡ v) (Looked v n u) × LooksOver u messages w

-- a look at the needs of message m: go where all are then seen, else wait on the first that is not
abbrev pub ClearTells : BoardValue → View → ℕ → Clear → Type 0
ClearTells board v m (Go cleared) = (cleared.message ≡ m)
    × LooksOver v (needs_of v.job.needs m) cleared.view
    × (find (λ n. not (has_seen cleared.view n)) (needs_of v.job.needs m) ≡ None)
    × IsOf board cleared
ClearTells board v m (Wait drawn on) = (drawn.message ≡ m)
    × LooksOver v (needs_of v.job.needs m) drawn.view
    × (find (λ n. not (has_seen drawn.view n)) (needs_of v.job.needs m) ≡ Some on)
    × IsOf board drawn

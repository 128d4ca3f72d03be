-- What the hands of tokens are.
use Rattle.std.specs.Prelude.{◌≡◌, ℕ, List, [], map, slice_index_or}
use Rattle.waff_cells.specs.Held.{rows_of}
use Rattle.waff_board.specs.Tokens.{BoardValue, Token}
use Rattle.waff_board.specs.declared.hand.Hand.{Hand}

-- a hand of a token of this board
abbrev pub IsHandOf : BoardValue → Hand → Type 0
IsHandOf board hand = (hand.chair.table_id ≡ board.table) × (hand.chair.me.0.job ≡ board.job)

-- the token of a hand with this message, which it does not run
abbrev pub idle_token : Hand → ℕ → Token
idle_token hand message = record {
  table = hand.chair.table_id;
  view = hand.chair.me.0;
  message = message;
  parcels = [];
}

-- the token of a hand that runs this message
abbrev pub running_token : Hand → ℕ → Token
running_token hand message = record {
  table = hand.chair.table_id;
  view = hand.chair.me.0;
  message = message;
  parcels = rows_of hand.parcels.items;
}

-- the rows of these affinities, in their order
abbrev pub rows_at : List (List ℕ) → List ℕ → List (List ℕ)
rows_at rows affinities = map (λ a. slice_index_or rows a []) affinities

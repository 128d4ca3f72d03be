-- The text of the needs of messages: a header, and a line for each message in the order of their
-- numbers.
use Rattle.std.specs.Prelude.{◌≡◌, ℕ, List, [], ◌∷◌, codes, decimal, length, map}
use Rattle.std.specs.List.{range_with_len}
use Rattle.waff_assign.specs.Instance.{Instance}
use Rattle.waff_order.specs.Needs.{AreNeeds, needs_of}
use Rattle.waff_order.specs.Open.{AreChosen}
use Rattle.waff_plan_text.specs.Lines.{text_of}
use Rattle.waff_plan_text.specs.Spelling.{numbers_field}

-- the header
abbrev pub needs_header : List (List ℕ)
needs_header = codes "message" ∷ codes "needs" ∷ []

-- the line of message n: its number, and its needs, joined by spaces
abbrev pub needs_row : List (List ℕ) → ℕ → List (List ℕ)
needs_row needs n = decimal n ∷ numbers_field (needs_of needs n) ∷ []

-- the lines of the needs of all messages
abbrev pub needs_lines : List (List ℕ) → List (List (List ℕ))
needs_lines needs = needs_header ∷ map (needs_row needs) (range_with_len 1 (length needs))

-- the text of the needs: the paths through them are those through all ordered pairs, so who waits for
-- the needs of a message waits for each earlier message that excludes it. Of several such needs they
-- are these: the open messages at or below a message, in rising order, or, where there is none, the
-- latest one above it
pub record TellsNeeds (instance : Instance) (text : List ℕ) : Type 0 where
  pub needs : List (List ℕ)
  pub are_needs : AreNeeds instance.tree instance.assigned needs
  pub are_chosen : AreChosen instance.tree instance.assigned needs
  pub lines : text ≡ text_of (needs_lines needs)

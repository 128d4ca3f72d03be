-- The text of an assignment: a header, and a line for each message in the order of their numbers.
use Rattle.std.specs.Prelude.{◌≡◌, ℕ, ◌-◌, List, [], ◌∷◌, length, map, option_map, unwrap_or}
use Rattle.std.specs.Prelude.{codes, decimal, slice_get}
use Rattle.std.specs.List.{range_with_len}
use Rattle.waff_model.specs.declared.message.Message.{Message}
use Rattle.waff_assign.specs.Instance.{Instance}
use Rattle.waff_assign.specs.Order.{affinity_name}
use Rattle.waff_plan_text.specs.Lines.{text_of}

-- the header
abbrev pub assign_header : List (List ℕ)
assign_header = codes "message" ∷ codes "name" ∷ codes "affinity" ∷ []

-- the name of message n
abbrev pub message_name : List Message → ℕ → List ℕ
message_name messages n =
    unwrap_or (option_map (λ message. message.name) (slice_get messages (n - 1))) []

-- the line of message n: its number, its name, and the name of its affinity
abbrev pub assign_row : Instance → ℕ → List (List ℕ)
assign_row instance n =
    decimal n ∷ message_name instance.trace.messages n
    ∷ affinity_name instance.tree instance.assigned n ∷ []

-- the lines of an assignment
abbrev pub assign_lines : Instance → List (List (List ℕ))
assign_lines instance =
    assign_header
    ∷ map (assign_row instance) (range_with_len 1 (length instance.trace.messages))

-- the text of an assignment
abbrev pub TellsAssignment : Instance → List ℕ → Type 0
TellsAssignment instance text = text ≡ text_of (assign_lines instance)

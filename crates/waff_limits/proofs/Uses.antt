-- The ticks of the cells of one message after another.
use Rattle.std.proofs.Common.{◌≡◌, ℕ, ◌+◌, ◌-◌, ◌*◌, ◌<◌, ◌≤◌, inl, inr, suc, cond, List, [], ◌∷◌, ◌++◌, All, length, take, get_or, Some, sum_by, arith, map, max, refl, sym, ◌∙◌, ap}
use Rattle.std.specs.Cmp.{both_ways}
use Rattle.std.specs.List.{list_any}
use Rattle.std.specs.Prelude.{slice_get}
use Rattle.std.proofs.lemmas.Bool.{cases_Bool, cond-false, cond-true}
use Rattle.std.proofs.lemmas.List.{length-take, map_push, take_more}
use Rattle.std.proofs.lemmas.List.Elements.{All-take}
use Rattle.std.proofs.lemmas.List.Recursion.{max_push}
use Rattle.std.proofs.lemmas.List.Sums.{sum_by-append, sum_by-cons}
use Rattle.std.proofs.lemmas.Map.Views.{Contains-from_any, list_any-from_Contains}
use Rattle.std.proofs.lemmas.Option.{get_or_from_slice_get}
use Rattle.waff_model.specs.Cells.{cells_of}
use Rattle.waff_model.specs.Messages.{IsTrace, Arrivals}
use Rattle.waff_model.specs.Numbers.{IsAmongFirst}
use Rattle.waff_model.specs.declared.cell.Cell.{Cell}
use Rattle.waff_model.specs.declared.limits.TheConstants.{MAX_COST}
use Rattle.waff_model.specs.declared.message.Message.{Message}
use Rattle.waff_assign.specs.Footprint.{ListsFootprint}
use Rattle.waff_assign.proofs.CellOrder.{cell_eq_equiv, cell_eq_same}
use Rattle.waff_plan.specs.Work.{greatest}
use Rattle.waff_limits.specs.Data.{cost_on, is_cell, ticks_on, used_among}

-- a footprint has the cells that the operations name
pub has_same : (messages : List Message) (n : ℕ) (message : Message) (cells : List Cell) (cell : Cell) → slice_get messages (n - 1) ≡ Some message
    → ListsFootprint messages n cells → list_any (is_cell cell) cells ≡ list_any (is_cell cell) (cells_of message.ops)
has_same messages n message cells cell is lists =
    let each = lists.each message is cell in
    both_ways _ _
    (λ there. list_any-from_Contains cell_eq_equiv cell (cells_of message.ops) (each.0 (Contains-from_any cell_eq_same cell cells there)))
    (λ there. list_any-from_Contains cell_eq_equiv cell cells (each.1 (Contains-from_any cell_eq_same cell (cells_of message.ops) there)))

-- one message more
taken_with : (messages : List Message) (n : ℕ) (message : Message) → IsAmongFirst (length messages) n
    → slice_get messages (n - 1) ≡ Some message → take n messages ≡ take (n - 1) messages ++ message ∷ []
taken_with messages n message number is =
    let back : n ≡ n - 1 + 1 = omega (arith, number.from) in
    let there : n - 1 < length messages = omega (arith, number.from, number.to) in
    let last : get_or messages (n - 1) message ≡ message = get_or_from_slice_get messages (n - 1) message message is in
    ap (λ k. take k messages) back ∙ take_more messages (n - 1) message there ∙ ap (λ m. take (n - 1) messages ++ m ∷ []) last

pub sum_with : (f : Message → ℕ) (messages : List Message) (n : ℕ) (message : Message) → IsAmongFirst (length messages) n
    → slice_get messages (n - 1) ≡ Some message → sum_by f (take n messages) ≡ sum_by f (take (n - 1) messages) + f message
sum_with f messages n message number is =
    let sum = ap (sum_by f) (taken_with messages n message number is) ∙ sum_by-append f (take (n - 1) messages) (message ∷ []) in
    let one = sum_by-cons f message [] in
    omega (arith, sum, one)

pub greatest_with : (f : Message → ℕ) (messages : List Message) (n : ℕ) (message : Message) → IsAmongFirst (length messages) n
    → slice_get messages (n - 1) ≡ Some message → greatest (map f (take n messages)) ≡ max (greatest (map f (take (n - 1) messages))) (f message)
greatest_with f messages n message number is =
    ap (λ ms. greatest (map f ms)) (taken_with messages n message number is) ∙ ap greatest (map_push f (take (n - 1) messages) message)
    ∙ max_push greatest (λ x. x) refl (λ _ _. refl) (map f (take (n - 1) messages)) (f message)

pub ticks_with : (messages : List Message) (n : ℕ) (message : Message) → IsAmongFirst (length messages) n
    → slice_get messages (n - 1) ≡ Some message → (cell : Cell)
    → ticks_on (take n messages) cell ≡ used_among (cells_of message.ops) (ticks_on (take (n - 1) messages)) message.cost cell
ticks_with messages n message number is cell = sum_with (cost_on cell) messages n message number is

-- and by its footprint
pub ticks_more : (messages : List Message) (n : ℕ) (message : Message) (cells : List Cell) → IsAmongFirst (length messages) n
    → slice_get messages (n - 1) ≡ Some message → ListsFootprint messages n cells → (cell : Cell)
    → ticks_on (take n messages) cell ≡ used_among cells (ticks_on (take (n - 1) messages)) message.cost cell
ticks_more messages n message cells number is lists cell =
    ticks_with messages n message number is cell
    ∙ ap (λ b. ticks_on (take (n - 1) messages) cell + cond b message.cost 0) (sym (has_same messages n message cells cell is lists))

-- the ticks of a cell are not many
costs_small : (f : Message → ℕ) (messages : List Message) → ((message : Message) → f message ≤ message.cost) → All (λ (m : Message). m.cost ≤ MAX_COST) messages
    → sum_by f messages ≤ MAX_COST * length messages
costs_small f [] below small = omega arith
costs_small f (m ∷ messages) below small =
    omega (arith, below m, small 0 m (omega arith), costs_small f messages below (λ i d lt. small (suc i) d (omega arith)), sum_by-cons f m messages)

pub cost_within : (cell : Cell) (message : Message) → cost_on cell message ≤ message.cost
cost_within cell message = elim (cases_Bool (list_any (is_cell cell) (cells_of message.ops))) [
  | inl has ↦ omega (arith, cond-true (list_any (is_cell cell) (cells_of message.ops)) message.cost 0 has)
  | inr has ↦ omega (arith, cond-false (list_any (is_cell cell) (cells_of message.ops)) message.cost 0 has)
]

pub ticks_small : (trace : Arrivals) → IsTrace trace → (n : ℕ) (cell : Cell) → ticks_on (take n trace.messages) cell ≤ MAX_COST * n
ticks_small trace is n cell =
    let each : All (λ (m : Message). m.cost ≤ MAX_COST) trace.messages = λ i d lt. (is.messages i d lt).within_cost in
    omega (arith, costs_small (cost_on cell) (take n trace.messages) (cost_within cell) (All-take (λ (m : Message). m.cost ≤ MAX_COST) n trace.messages each), length-take n trace.messages)

-- The cell that is used longest lies in a space, and the text of what limits a workload in its parts.
use Rattle.std.proofs.Common.{◌≡◌, ℕ, ◌+◌, ◌<◌, ◌≤◌, ◌&&◌, true, length, map, sum_by, inl, inr, suc, List, [], ◌∷◌, ◌++◌, All, Option, Some, None, IfSome, sym, ◌∙◌, ap, subst, arith, append_assoc}
use Rattle.std.specs.List.{list_any, range_with_len}
use Rattle.std.proofs.lemmas.Bool.{and_parts, cases_Bool, cond-false, cond-true, or_cases}
use Rattle.std.proofs.lemmas.Grind.{flat_map-append}
use Rattle.std.proofs.lemmas.List.{append-nil}
use Rattle.std.proofs.lemmas.List.Elements.{All-contains}
use Rattle.std.proofs.lemmas.List.Sums.{sum_by-cons}
use Rattle.std.proofs.lemmas.Map.Views.{Contains-from_any}
use Rattle.waff_model.specs.Cells.{LiesIn, cells_of}
use Rattle.waff_model.specs.Layout.{IsCell, Space, are_locked, locking_of, sizes_of}
use Rattle.waff_model.specs.Messages.{Arrivals, IsMessage, IsTrace}
use Rattle.waff_model.specs.declared.cell.Cell.{Cell}
use Rattle.waff_model.specs.declared.message.Message.{Message}
use Rattle.waff_model.specs.declared.message.Version.{Version}
use Rattle.waff_model.proofs.TraceLemmas.{lies_in-sizes_of}
use Rattle.waff_assign.proofs.CellOrder.{cell_eq_same}
use Rattle.waff_plan_text.specs.Lines.{line_text, text_of}
use Rattle.waff_plan_text.proofs.LinesLemmas.{three_parts}
use Rattle.waff_assign.specs.Held.{Held}
use Rattle.waff_plan.specs.Work.{greatest}
use Rattle.waff_limits.specs.Locks.{kept_by, names, shared_by, ticks_locked}
use Rattle.waff_limits.specs.Data.{IsMostOf, cost_on, is_cell, ticks_on}
use Rattle.waff_limits.specs.declared.data.CellUse.{CellUse}

-- a cell that messages use is one of theirs
lies_by : (version : Version) (sizes : List ℕ) (messages : List Message) (cell : Cell) → All (IsMessage version sizes) messages → 0 < ticks_on messages cell → LiesIn sizes cell
lies_by version sizes [] cell all some = absurd (omega (arith, some))
lies_by version sizes (m ∷ ms) cell all some = elim (cases_Bool (list_any (is_cell cell) (cells_of m.ops))) [
  | inl has ↦
      let is_message : IsMessage version sizes m = all 0 m (omega arith) in
      All-contains (LiesIn sizes) (cells_of m.ops) cell is_message.cells (Contains-from_any cell_eq_same cell (cells_of m.ops) has)
  | inr not ↦
      let sum = sum_by-cons (cost_on cell) m ms in
      let none : cost_on cell m ≡ 0 = cond-false (list_any (is_cell cell) (cells_of m.ops)) m.cost 0 not in
      lies_by version sizes ms cell (λ i d lt. all (suc i) d (omega (arith, lt))) (omega (arith, some, sum, none))
]

pub used_lies : (trace : Arrivals) → IsTrace trace → (cell : Cell) → 0 < ticks_on trace.messages cell → LiesIn trace.sizes cell
used_lies trace is cell some = lies_by trace.version trace.sizes trace.messages cell is.messages some

-- what is used for some ticks, where each cell of some ticks is used by messages, lies in a space
pub most_is_cell : (spaces : List Space) (trace : Arrivals) → IsTrace trace → trace.sizes ≡ sizes_of spaces → (used : Cell → ℕ)
    → ((cell : Cell) → 0 < used cell → 0 < ticks_on trace.messages cell) → (found : Option CellUse) → IsMostOf used found → IfSome found (λ one. IsCell spaces one.cell)
most_is_cell spaces trace is fits used less None most = tt
most_is_cell spaces trace is fits used less (Some one) most =
    lies_in-sizes_of spaces one.cell (subst (λ sizes. LiesIn sizes one.cell) fits (used_lies trace is one.cell (less one.cell (omega (arith, most.some, most.ticks)))))

-- a cell that some message names is used
pub named_used : (version : Version) (sizes : List ℕ) (messages : List Message) (cell : Cell) → All (IsMessage version sizes) messages
    → list_any (λ (m : Message). names m.ops cell) messages ≡ true → 0 < ticks_on messages cell
named_used version sizes [] cell all some = absurd (cc)
named_used version sizes (m ∷ ms) cell all some =
    let sum = sum_by-cons (cost_on cell) m ms in
    let is_message : IsMessage version sizes m = all 0 m (omega arith) in
    elim (or_cases (names m.ops cell) (list_any (λ (n : Message). names n.ops cell) ms) some) [
      | inl here ↦ omega (arith, sum, is_message.some_cost, cond-true (list_any (is_cell cell) (cells_of m.ops)) m.cost 0 here)
      | inr later ↦ let rest = named_used version sizes ms cell (λ i d lt. all (suc i) d (omega (arith, lt))) later in omega (arith, sum, rest)
    ]

-- and so is one whose lock is needed
pub locked_used : (spaces : List Space) (trace : Arrivals) (assigned : List Held) → IsTrace trace → (cell : Cell)
    → 0 < ticks_locked spaces trace.messages assigned cell → 0 < ticks_on trace.messages cell
locked_used spaces trace assigned is cell some =
    let named = list_any (λ (m : Message). names m.ops cell) trace.messages in
    let gate = are_locked (locking_of spaces cell) && named in
    let needed : ℕ = sum_by (kept_by spaces trace.messages assigned cell) (range_with_len 1 (length trace.messages))
    + greatest (map (shared_by spaces trace.messages assigned cell) (range_with_len 1 (length trace.messages))) in
    elim (cases_Bool gate) [
      | inl is_so ↦
          let parts = and_parts (are_locked (locking_of spaces cell)) named is_so in
          named_used trace.version trace.sizes trace.messages cell is.messages parts.1
      | inr not ↦ absurd (omega (arith, some, cond-false gate needed 0 not))
    ]

-- more lines behind some
push_line : (a : List (List ℕ)) (lines : List (List (List ℕ))) (old one two : List ℕ) → one ≡ old ++ text_of lines → two ≡ one ++ line_text a
    → two ≡ old ++ text_of (lines ++ a ∷ [])
push_line a lines old one two h k =
    k ∙ ap (λ t. t ++ line_text a) h ∙ append_assoc old (text_of lines) (line_text a)
    ∙ ap (λ t. old ++ (text_of lines ++ t)) (sym (append-nil (line_text a)))
    ∙ ap (λ t. old ++ t) (sym (flat_map-append line_text lines (a ∷ [])))

push_lines : (more lines : List (List (List ℕ))) (old one two : List ℕ) → one ≡ old ++ text_of lines → two ≡ one ++ text_of more
    → two ≡ old ++ text_of (lines ++ more)
push_lines more lines old one two h k =
    k ∙ ap (λ t. t ++ text_of more) h ∙ append_assoc old (text_of lines) (text_of more) ∙ ap (λ t. old ++ t) (sym (flat_map-append line_text lines more))

-- a line, some more, three behind them, some more, and one behind those
pub bound_parts : (first : List (List ℕ)) (more : List (List (List ℕ))) (a b c : List (List ℕ)) (locks : List (List (List ℕ))) (d : List (List ℕ))
    (old zero one two three four five six : List ℕ)
    → zero ≡ old ++ line_text first → one ≡ zero ++ text_of more → two ≡ one ++ line_text a → three ≡ two ++ line_text b → four ≡ three ++ line_text c
    → five ≡ four ++ text_of locks → six ≡ five ++ line_text d → six ≡ old ++ text_of (first ∷ more ++ a ∷ b ∷ c ∷ locks ++ d ∷ [])
bound_parts first more a b c locks d old zero one two three four five six h k l m n o p =
    let front : one ≡ old ++ text_of (first ∷ more) = k ∙ ap (λ t. t ++ text_of more) h ∙ append_assoc old (line_text first) (text_of more) in
    let start = first ∷ more in
    let with_a = push_line a start old one two front l in
    let with_b = push_line b (start ++ a ∷ []) old two three with_a m in
    let with_c = push_line c ((start ++ a ∷ []) ++ b ∷ []) old three four with_b n in
    let with_locks = push_lines locks (((start ++ a ∷ []) ++ b ∷ []) ++ c ∷ []) old four five with_c o in
    let all = push_line d ((((start ++ a ∷ []) ++ b ∷ []) ++ c ∷ []) ++ locks) old five six with_locks p in
    all
    ∙ ap (λ lines. old ++ text_of (lines ++ d ∷ []))
    (append_assoc ((start ++ a ∷ []) ++ b ∷ []) (c ∷ []) locks
    ∙ append_assoc (start ++ a ∷ []) (b ∷ []) (c ∷ locks)
    ∙ append_assoc start (a ∷ []) (b ∷ c ∷ locks))

-- a first line, and three parts
pub four_parts : (first : List (List ℕ)) (rows more end : List (List (List ℕ))) (one two three four : List ℕ) → one ≡ line_text first → two ≡ one ++ text_of rows
    → three ≡ two ++ text_of more → four ≡ three ++ text_of end → four ≡ text_of (first ∷ rows ++ more ++ end)
four_parts first rows more end one two three four h k l m =
    three_parts first (rows ++ more) end one three four h
    (l ∙ ap (λ t. t ++ text_of more) k ∙ append_assoc one (text_of rows) (text_of more) ∙ ap (λ t. one ++ t) (sym (flat_map-append line_text rows more)))
    m

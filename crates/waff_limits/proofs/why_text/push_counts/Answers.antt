use Rattle.std.proofs.Common.{ℕ, List, [], ◌∷◌, ◌++◌, decimal, string_bytes, ◌∙◌, ap}
use Rattle.std.proofs.lemmas.Result.{on_ok_weaker}
use Rattle.waff_read.specs.Spellings.{cell_spelled}
use Rattle.waff_limits.specs.WhyLines.{other_cell}
use Rattle.waff_limits.proofs.WhyFields.{first_field}
use Rattle.waff_limits.proofs.why_text.push_counts.Goals as goal

pub returns : goal.returns
returns c =
    let row = c.args.row.now in
    let spaces = c.args.layout.now.spaces in
    let cell : List ℕ = cell_spelled spaces row.first.cell in
    let other : List ℕ = other_cell c.args.layout.now row.first in
    let before : List ℕ = string_bytes c.args.text.now in
    let one : List ℕ = string_bytes c.push_field.new.text in
    let two : List ℕ = string_bytes c.push_field-2.new.text in
    let three : List ℕ = string_bytes c.push_field-3.new.text in
    let now : List ℕ = string_bytes c.push_cells.new.text in
    on_ok_weaker c.push_cells.result (λ more.
    first_field before one now (decimal row.messages) (decimal row.cost) (decimal row.first.message ∷ cell ∷ other ∷ [])
    (c.in_ok-push_field.ensures ∙ ap (λ n. before ++ (decimal n ++ 44 ∷ [])) c.from.ensures)
    (first_field one two now (decimal row.cost) (decimal row.first.message) (cell ∷ other ∷ []) c.in_ok-push_field-2.ensures
    (first_field two three now (decimal row.first.message) cell (other ∷ [])
    (c.in_ok-push_field-3.ensures ∙ ap (λ n. two ++ (decimal n ++ 44 ∷ [])) c.from-2.ensures) more)))
    c.push_cells.ensures

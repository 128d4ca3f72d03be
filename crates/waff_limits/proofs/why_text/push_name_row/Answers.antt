use Rattle.std.proofs.Common.{ℕ, List, [], ◌∷◌, ◌++◌, decimal, string_bytes, ◌∙◌, ap}
use Rattle.std.proofs.lemmas.Result.{on_ok_weaker}
use Rattle.waff_read.specs.Spellings.{cell_spelled}
use Rattle.waff_assign.specs.Order.{affinity_name}
use Rattle.waff_figures.specs.ByName.{label_at, message_names}
use Rattle.waff_limits.specs.WhyLines.{other_cell, other_owner, owner_name}
use Rattle.waff_limits.proofs.WhyFields.{first_field}
use Rattle.waff_limits.proofs.why_text.push_name_row.Goals as goal

pub returns : goal.returns
returns c =
    let row = c.args.row.now in
    let laid = c.args.laid.now in
    let layout = laid.layout.now in
    let assigned = laid.case.assigned.now in
    let name : List ℕ = label_at (message_names laid.case.trace.now.messages) row.first.message in
    let fields : List (List ℕ) = other_owner layout row.first ∷ decimal row.messages ∷ decimal row.cost ∷ decimal row.first.message
    ∷ cell_spelled layout.spaces row.first.cell ∷ other_cell layout row.first ∷ [] in
    let before : List ℕ = string_bytes c.args.text.now in
    let one : List ℕ = string_bytes c.push_name.new.text in
    let two : List ℕ = string_bytes c.push_name-2.new.text in
    let now : List ℕ = string_bytes c.push_fields.new.text in
    on_ok_weaker c.push_fields.result (λ more.
    first_field before one now (affinity_name layout.tree assigned row.first.message) name (owner_name layout row.first.cell ∷ fields)
    (c.in_ok-push_name.ensures
    ∙ ap (λ n. before ++ (n ++ 44 ∷ [])) (c.affinity_name.ensures ∙ ap (λ t. affinity_name t assigned row.first.message) laid.tree))
    (first_field one two now name (owner_name layout row.first.cell) fields
    (c.in_ok-push_name-2.ensures ∙ ap (λ n. one ++ (n ++ 44 ∷ [])) c.message_name.ensures) more))
    c.push_fields.ensures

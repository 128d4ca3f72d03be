use Rattle.std.proofs.Common.{ℕ, List, [], ◌∷◌, ◌++◌, decimal, string_bytes, ◌∙◌, ap}
use Rattle.std.proofs.lemmas.Result.{on_ok_weaker}
use Rattle.waff_read.specs.Spellings.{cell_spelled}
use Rattle.waff_limits.specs.WhyLines.{other_cell, other_owner, owner_name}
use Rattle.waff_limits.proofs.WhyFields.{first_field}
use Rattle.waff_limits.proofs.why_text.push_fields.Goals as goal

pub returns : goal.returns
returns c =
    let row = c.args.row.now in
    let layout = c.args.layout.now in
    let counts : List (List ℕ) = decimal row.cost ∷ decimal row.first.message ∷ cell_spelled layout.spaces row.first.cell ∷ other_cell layout row.first ∷ [] in
    let before : List ℕ = string_bytes c.args.text.now in
    let one : List ℕ = string_bytes c.push_name.new.text in
    let two : List ℕ = string_bytes c.push_name-2.new.text in
    let now : List ℕ = string_bytes c.push_counts.new.text in
    on_ok_weaker c.push_counts.result (λ more.
    first_field before one now (owner_name layout row.first.cell) (other_owner layout row.first) (decimal row.messages ∷ counts)
    (c.in_ok-push_name.ensures ∙ ap (λ n. before ++ (n ++ 44 ∷ [])) c.owner_name.ensures)
    (first_field one two now (other_owner layout row.first) (decimal row.messages) counts
    (c.in_ok-push_name-2.ensures ∙ ap (λ n. one ++ (n ++ 44 ∷ [])) c.other_owner.ensures) more))
    c.push_counts.ensures

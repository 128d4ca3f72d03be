use Rattle.std.proofs.Common.{◌≡◌, ℕ, ◌-◌, ◌<◌, ◌≤◌, ◌==◌, ◌&&◌, [], map, get_or, length, sym, ◌∙◌, ap, subst}
use Rattle.std.specs.List.{range_with_len}
use Rattle.std.proofs.lemmas.List.FromFn.{length-map-range_with_len}
use Rattle.std.proofs.lemmas.Result.{IfOk-weaker}
use Rattle.waff_assign.specs.Order.{held_of, number_or}
use Rattle.waff_plan.specs.Work.{IsAmongFirst}
use Rattle.waff_figures.specs.ByName.{is_named, message_names}
use Rattle.waff_figures.specs.Tally.{is_in}
use Rattle.waff_figures.specs.WaitRows.{same_group}
use Rattle.waff_figures.specs.WaitText.{are_alike, same_affinity}
use Rattle.waff_figures.proofs.WaitGroups.{affinities_tell, groups_tell, names_tell}
use Rattle.waff_figures.proofs.wait_groups.groups.Goals as goal

pub returns-in_ok-found-in-Name-clause-count : goal.returns-in_ok-found-in-Name-clause-count
returns-in_ok-found-in-Name-clause-count c =
    let group : ℕ → ℕ × ℕ = λ m. (get_or c.as_slice.result.now (m - 1) 0, number_or c.len-in-Name.result (held_of c.args.case.now.assigned.now m)) in
    IfOk-weaker c.numbered_groups.result (λ groups. groups.items ≡ map group (range_with_len 1 (length c.args.case.now.assigned.now))) _
    (λ groups are. ap length are ∙ length-map-range_with_len group 1 (length c.args.case.now.assigned.now)) c.numbered_groups.ensures

pub returns-in_ok-found-in-Name-clause-tell : goal.returns-in_ok-found-in-Name-clause-tell
returns-in_ok-found-in-Name-clause-tell c =
    let assigned = c.args.case.now.assigned.now in
    let n = length assigned in
    let alike : (none : ℕ) → none ≡ length c.args.case.now.tree.now → (i j : ℕ)
    → (number_or none (held_of assigned i) == number_or none (held_of assigned j)) ≡ same_affinity assigned i j
    = λ none is i j.
    ap (λ k. number_or k (held_of assigned i) == number_or k (held_of assigned j)) is
    ∙ affinities_tell c.args.case.now.tree.now assigned c.args.case.now.known i j in
    let names = message_names c.args.case.now.trace.now.messages in
    let places = c.in_ok-found-in-Name.found.places.items in
    let keys = c.in_ok-found-in-Name.found.names in
    let number : ℕ → ℕ = λ m. get_or places (m - 1) 0 in
    IfOk-weaker c.numbered_groups.result
    (λ groups. groups.items ≡ map (λ m. (get_or c.as_slice.result.now (m - 1) 0, number_or c.len-in-Name.result (held_of assigned m))) (range_with_len 1 n))
    (λ groups. (i j : ℕ) → IsAmongFirst n i → IsAmongFirst n j → same_group groups.items i j ≡ are_alike c.args.grouping assigned names i j)
    (λ groups are i j first second.
    let are_numbered = subst (λ ps. groups.items ≡ map (λ m. (get_or ps (m - 1) 0, number_or c.len-in-Name.result (held_of assigned m))) (range_with_len 1 n)) c.as_slice.ensures.value are in
    groups_tell number (λ m. number_or c.len-in-Name.result (held_of assigned m)) groups.items n are_numbered i j first second
    ∙ ap (λ b. (number i == number j) && b) (alike c.len-in-Name.result c.len-in-Name.ensures.count i j)
    ∙ ap (λ b. b && same_affinity assigned i j)
    (names_tell names keys places n (length keys) (c.in_ok-found-in-Name.ensures.places ∙ sym c.args.case.now.lengths) c.in_ok-found-in-Name.ensures.known
    (subst (λ k. (g m : ℕ) → g < length keys → 1 ≤ m → m ≤ k → is_in places g m ≡ is_named names (get_or keys g []) m)
    (sym c.args.case.now.lengths) c.in_ok-found-in-Name.ensures.each) i j first second)
    ∙ ap (λ b. are_alike b assigned names i j) (sym c.in-Name.is))
    c.numbered_groups.ensures

pub returns-in-Affinity-clause-count : goal.returns-in-Affinity-clause-count
returns-in-Affinity-clause-count c =
    let group : ℕ → ℕ × ℕ = λ m. (0, number_or c.len.result (held_of c.args.case.now.assigned.now m)) in
    IfOk-weaker c.affinity_groups.result (λ groups. groups.items ≡ map group (range_with_len 1 (length c.args.case.now.assigned.now))) _
    (λ groups are. ap length are ∙ length-map-range_with_len group 1 (length c.args.case.now.assigned.now)) c.affinity_groups.ensures

pub returns-in-Affinity-clause-tell : goal.returns-in-Affinity-clause-tell
returns-in-Affinity-clause-tell c =
    let assigned = c.args.case.now.assigned.now in
    let n = length assigned in
    let alike : (none : ℕ) → none ≡ length c.args.case.now.tree.now → (i j : ℕ)
    → (number_or none (held_of assigned i) == number_or none (held_of assigned j)) ≡ same_affinity assigned i j
    = λ none is i j.
    ap (λ k. number_or k (held_of assigned i) == number_or k (held_of assigned j)) is
    ∙ affinities_tell c.args.case.now.tree.now assigned c.args.case.now.known i j in
    let names = message_names c.args.case.now.trace.now.messages in
    IfOk-weaker c.affinity_groups.result
    (λ groups. groups.items ≡ map (λ m. (0, number_or c.len.result (held_of assigned m))) (range_with_len 1 n))
    (λ groups. (i j : ℕ) → IsAmongFirst n i → IsAmongFirst n j → same_group groups.items i j ≡ are_alike c.args.grouping assigned names i j)
    (λ groups are i j first second.
    groups_tell (λ m. 0) (λ m. number_or c.len.result (held_of assigned m)) groups.items n are i j first second
    ∙ alike c.len.result c.len.ensures.count i j
    ∙ ap (λ b. are_alike b assigned names i j) (sym c.in-Affinity.is))
    c.affinity_groups.ensures

use Rattle.std.proofs.Common.{◌-◌, of_calls, rules, sym, subst}
use Rattle.std.proofs.lemmas.List.Sorted.{IsNonDecreasingBy-from_sort_by_key}
use Rattle.waff_limits.specs.Edges.{AreSmall, AreUsed, IsMostAt, begun_at, ended_at}
use Rattle.waff_limits.specs.declared.edges.Edge.{Edge}
use Rattle.waff_limits.proofs.EdgeLemmas.{is_most, small_again, used_again}
use Rattle.waff_limits.proofs.edges.Edges.most.Goals as goal

pub most_of-requires-clause-rising : goal.most_of-requires-clause-rising
most_of-requires-clause-rising c =
    rw c.as_slice.ensures.value
    (IsNonDecreasingBy-from_sort_by_key (λ (e : Edge). e.place) _ c.sort_unstable_by_key.ensures.sorted (λ a r f k. search (rules, of_calls)))

pub most_of-requires-clause-small : goal.most_of-requires-clause-small
most_of-requires-clause-small c =
    rw c.as_slice.ensures.value
    (small_again c.push.new.self.items c.sort_unstable_by_key.new.self.items c.sort_unstable_by_key.ensures.permutation
    (subst AreSmall (sym c.in_ok-push.ensures.items) c.requires))

pub returns : goal.returns
returns c = λ used are.
    let pushed = c.push.new.self.items in
    let sorted = c.sort_unstable_by_key.new.self.items in
    is_most sorted used
    (used_again pushed sorted c.sort_unstable_by_key.ensures.permutation used (subst (λ es. AreUsed es used) (sym c.in_ok-push.ensures.items) are))
    c.most_of.result
    (subst (λ es. IsMostAt (λ place. begun_at es place - ended_at es place) c.most_of.result) c.as_slice.ensures.value c.most_of.ensures)
    c.cell.result c.cell.ensures

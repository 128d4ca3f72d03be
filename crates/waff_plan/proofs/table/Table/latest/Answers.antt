use Rattle.std.proofs.Common.{◌≡◌, ◌==◌, ℕ, List, true, option_map, length, arith, sym, ◌∙◌, ap, subst}
use Rattle.std.proofs.lemmas.Bool.{false≢true}
use Rattle.std.proofs.lemmas.Bool.Decides.{nat_tests}
use Rattle.waff_model.specs.declared.tree.AffinityId.{AffinityId}
use Rattle.waff_model.specs.Numbers.{IsAmongFirst}
use Rattle.waff_assign.specs.Held.{Held}
use Rattle.waff_assign.specs.Order.{affinity_of, held_of}
use Rattle.waff_plan.specs.Latest.{later_of}
use Rattle.waff_plan.specs.Table.{IsLatestByTree, IsLatestExcluding, IsTable, LatestTable}
use Rattle.waff_plan.specs.TableFit.{Fits}
use Rattle.waff_plan.proofs.Tables.{locks_excluding, root_excluding, tree_excluding}
use Rattle.waff_plan.proofs.table.Table.latest.Goals as goal
use Rattle.waff_plan.proofs.table.Table.latest.Goals.{After-is_root}

abbrev now : After-is_root → LatestTable
now c = c.args.self.now

fit : (c : After-is_root) → Fits (now c)
fit c = subst Fits c.self.view_is c.self.invariant

abbrev held : After-is_root → Held
held c = held_of (now c).assigned c.args.m

affinity : (c : After-is_root) → option_map (λ (a : AffinityId). a.0) c.affinity-affinity.result ≡ (held c).affinity
affinity c = subst (λ (t : LatestTable). option_map (λ (a : AffinityId). a.0) c.affinity-affinity.result ≡ affinity_of t.assigned c.args.m) c.self.view_is c.affinity-affinity.ensures

uses : (c : After-is_root) → (held c).uses ≡ c.uses-uses.result.now
uses c = sym (subst (λ (t : LatestTable). c.uses-uses.result.now ≡ (held_of t.assigned c.args.m).uses) c.self.view_is c.uses-uses.ensures)

by_tree : (c : After-is_root) (finish : ℕ → ℕ) (noted : List ℕ) → IsTable finish noted (now c)
    → IsLatestByTree (now c).tree (now c).assigned finish noted (held c) c.latest_by_tree-by_tree.result
by_tree c finish noted table = c.latest_by_tree-by_tree.ensures finish noted table (held c) (sym (affinity c))

empty : (n : ℕ) → (n == 0) ≡ true → n ≡ 0
empty n none = grind (arith, nat_tests)

pub returns-then-is_root : goal.returns-then-is_root
returns-then-is_root c = λ finish noted table.
    let s = (goal.at.returns-then-is_root c).After-is_root in
    let t = now s in
    let by = c.latest_by_tree-by_tree.result in
    let is : c.message.result ≡ later_of by t.locks.some = c.message.ensures ∙ c.later.ensures ∙ ap (λ (t : LatestTable). later_of by t.locks.some) c.self.view_is in
    subst (IsLatestExcluding t.tree t.assigned finish noted c.args.m) (sym is)
    (root_excluding t.tree t.spans t.assigned finish noted (fit s).is_tree (fit s).nested (fit s).known table.numbers c.args.m c.requires.number by t.locks.some
    (sym (affinity s) ∙ c.is_root.ensures.0 c.if-is_root.true) (by_tree s finish noted table) table.locks.some)

pub returns-then-is_empty : goal.returns-then-is_empty
returns-then-is_empty c = λ finish noted table.
    let s = (goal.at.returns-then-is_empty c).After-is_root in
    let t = now s in
    let by = c.latest_by_tree-by_tree.result in
    let none : length c.uses-uses.result.now ≡ 0 = empty (length c.uses-uses.result.now) (sym c.is_empty.ensures ∙ c.if-is_empty.true) in
    subst (IsLatestExcluding t.tree t.assigned finish noted c.args.m) (sym c.message-then-is_empty.ensures)
    (tree_excluding t.tree t.spans t.assigned finish noted (fit s).is_tree (fit s).nested (fit s).known table.numbers c.args.m c.requires.number by
    (λ root. false≢true (sym c.if-is_root.false ∙ c.is_root.ensures.1 (affinity s ∙ root))) (ap length (uses s) ∙ none) (by_tree s finish noted table))

pub returns : goal.returns
returns c = λ finish noted table.
    let s = (goal.at.returns c).After-is_root in
    let t = now s in
    let inside = c.self.inside in
    let by = c.latest_by_tree-by_tree.result in
    let h = subst (IsTable finish noted) (sym c.self.view_is) table in
    let f = c.self.invariant in
    let is : c.message-2.result ≡ later_of (later_of by c.latest_over-in_root.result) c.latest.result
    = c.message-2.ensures ∙ c.later-3.ensures ∙ ap (λ x. later_of x c.latest.result) c.later-2.ensures in
    subst (λ (t : LatestTable). IsLatestExcluding t.tree t.assigned finish noted c.args.m c.message-2.result) c.self.view_is
    (subst (IsLatestExcluding inside.tree.now inside.assigned.now finish noted c.args.m) (sym is)
    (locks_excluding inside.tree.now inside.spans.now inside.assigned.now finish noted f.is_tree f.nested f.known h.numbers c.args.m
    (subst (λ (t : LatestTable). IsAmongFirst (length t.assigned) c.args.m) (sym c.self.view_is) c.requires.number)
    by c.latest_over-in_root.result c.latest.result c.uses-uses.result.now
    (λ root. false≢true (sym c.if-is_root.false ∙ c.is_root.ensures.1 (c.affinity-affinity.ensures ∙ root))) (sym c.uses-uses.ensures)
    (subst (λ (t : LatestTable). IsLatestByTree t.tree t.assigned finish noted (held_of t.assigned c.args.m) by) (sym c.self.view_is) (by_tree s finish noted table))
    (c.latest_over-in_root.ensures inside.spans.now inside.assigned.now finish noted h.places)
    (c.latest.ensures inside.assigned.now finish noted h.locks)))

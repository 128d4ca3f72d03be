use Rattle.std.proofs.Common.{inr, sym, ◌∙◌}
use Rattle.std.proofs.lemmas.Bool.{false≢true}
use Rattle.waff_assign.specs.Held.{ExcludeByAffinities}
use Rattle.waff_assign.specs.Order.{held_of}
use Rattle.waff_assign.proofs.Contentions.{first_of_some, some_first}
use Rattle.waff_assign.proofs.Holding.{by_lock}
use Rattle.waff_assign.proofs.order.exclude_each_other.Goals as goal

pub returns-else-exclude_by_affinities : goal.returns-else-exclude_by_affinities
returns-else-exclude_by_affinities c =
    let tree = c.args.tree.now in
    let one = held_of c.args.assigned.now c.args.i in
    let other = held_of c.args.assigned.now c.args.j in
    let first = c.contended_lock.result in
    let apart : ExcludeByAffinities tree one other → ⊥ = λ exclude. false≢true (sym c.if-exclude_by_affinities.false ∙ c.exclude_by_affinities.ensures.1 exclude) in (
      λ yes. inr (inr (some_first one other first c.contended_lock.ensures (sym c.is_some.ensures ∙ yes))),
      λ exclude. c.is_some.ensures ∙ first_of_some one other first c.contended_lock.ensures (by_lock tree one other apart exclude),
    )

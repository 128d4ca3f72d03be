use Rattle.std.proofs.Common.{◌<◌, IfSome, length, option_map, sym, ◌∙◌, ap, subst}
use Rattle.waff_model.specs.declared.tree.AffinityId.{AffinityId}
use Rattle.waff_plan.specs.Table.{IsLatestByTree, IsTable, LatestTable}
use Rattle.waff_plan.proofs.Tables.{meeting_excludes}
use Rattle.waff_plan.proofs.table.Table.latest_by_tree.Goals as goal

pub returns-in-Some : goal.returns-in-Some
returns-in-Some c = λ finish noted table held is.
    let t = c.self.inside in
    let a = c.in-Some.affinity.0 in
    let latest = c.latest.result in
    let fit = c.self.invariant in
    let h = subst (IsTable finish noted) (sym c.self.view_is) table in
    let within : a < length c.args.self.now.tree = subst (λ x. IfSome x (λ (a : AffinityId). a.0 < length c.args.self.now.tree)) c.in-Some.is c.requires.within in
    subst (λ (t : LatestTable). IsLatestByTree t.tree t.assigned finish noted held latest) c.self.view_is
    (meeting_excludes t.tree.now t.spans.now t.assigned.now finish noted fit.is_tree fit.nested fit.known h.numbers a held latest
    (subst (λ (t : LatestTable). a < length t.tree) (sym c.self.view_is) within) (is ∙ ap (option_map (λ (a : AffinityId). a.0)) c.in-Some.is)
    (c.latest.ensures t.spans.now t.assigned.now finish noted h.places))

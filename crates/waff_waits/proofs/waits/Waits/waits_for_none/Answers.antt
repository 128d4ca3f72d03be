use Rattle.std.proofs.Common.{◌-◌, ◌<◌, length, sym, ◌∙◌, arith}
use Rattle.std.proofs.lemmas.Bool.{eq-eqb, eqb-true}
use Rattle.std.proofs.lemmas.List.{get_or_read}
use Rattle.waff_waits.proofs.Counting.{left_as, none_as, number_as}
use Rattle.waff_waits.proofs.waits.Waits.waits_for_none.Goals as goal

pub returns : goal.returns
returns c =
    let x = c.self.inside in
    let m = c.args.m in
    let h = c.self.invariant in
    let within = number_as x.firsts.items x.links.items x.left.items x.finished.items h c.args.self.now c.self.view_is m c.requires.number in
    let inside : m - 1 < length x.left.items = omega (arith, within.from, within.to, h.counts) in
    let read = get_or_read x.left.items (m - 1) c.index.result.now inside c.index.ensures 0 in (
      λ none.
          none_as x.firsts.items x.links.items x.left.items x.finished.items h c.args.self.now c.self.view_is m c.requires.number (sym read ∙ eqb-true c.index.result.now 0 none),
      λ waits.
          eq-eqb c.index.result.now 0 (read ∙ left_as x.firsts.items x.links.items x.left.items x.finished.items h c.args.self.now c.self.view_is m c.requires.number waits),
    )

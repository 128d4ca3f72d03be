use Rattle.std.specs.Prelude.{option_map}
use Rattle.std.proofs.Common.{◌≡◌, [], arith, subst}
use Rattle.std.proofs.lemmas.List.{take_all}
use Rattle.std.proofs.lemmas.Option.{IfSome_then}
use Rattle.waff_model.specs.Layout.{IsCell}
use Rattle.waff_model.proofs.OpCells.{cells_of_one}
use Rattle.waff_limits.specs.Writes.{cells_alone}
use Rattle.waff_limits.proofs.WrittenCells.{none_more}
use Rattle.waff_limits.proofs.writes.needs_none.Goals as goal

pub loop-index-preserved : goal.loop-index-preserved
loop-index-preserved c = none_more (option_map (λ l. l.now.spaces) c.args.sharing) c.args.ops.now c.loop-index.index c.get.result c.get.ensures c.loop-index.invariant (c.needs_none_by.ensures c.if-not-needs_none_by.false)

pub returns : goal.returns
returns c = λ yes. subst (λ ops. cells_alone (option_map (λ l. l.now.spaces) c.args.sharing) ops ≡ []) (take_all c.loop-index.index c.args.ops.now (omega (arith, c.loop-index-test.false, c.len-index-end.ensures))) c.loop-index.invariant

pub needs_none_by-requires : goal.needs_none_by-requires
needs_none_by-requires c = record {
  cells = IfSome_then c.args.sharing c.requires.cells
      (λ layout all. cells_of_one (IsCell layout.now.spaces) c.args.ops.now c.loop-index.index c.get.result c.get.ensures all);
}

use Rattle.std.specs.Prelude.{option_map}
use Rattle.std.proofs.Common.{◌++◌, ◌∙◌, ap, arith}
use Rattle.std.proofs.lemmas.List.{take_all}
use Rattle.std.proofs.lemmas.Option.{IfSome_then}
use Rattle.waff_model.specs.Layout.{IsCell}
use Rattle.waff_model.proofs.OpCells.{cells_of_one}
use Rattle.waff_limits.specs.Writes.{cells_alone, cells_alone_by}
use Rattle.waff_limits.proofs.WrittenCells.{alone_more}
use Rattle.waff_limits.proofs.writes.push_alone.Goals as goal

pub loop-index-preserved : goal.loop-index-preserved
loop-index-preserved c =
    c.in_ok-push_alone_by.ensures ∙ ap (λ xs. xs ++ cells_alone_by (option_map (λ l. l.now.spaces) c.args.sharing) c.get.result) c.loop-index.invariant
    ∙ alone_more (option_map (λ l. l.now.spaces) c.args.sharing) c.args.cells.now.items c.args.ops.now c.loop-index.index c.get.result c.get.ensures

pub returns : goal.returns
returns c =
    c.loop-index.invariant
    ∙ ap (λ ops. c.args.cells.now.items ++ cells_alone (option_map (λ l. l.now.spaces) c.args.sharing) ops) (take_all c.loop-index.index c.args.ops.now (omega (arith, c.loop-index-test.false, c.len-index-end.ensures)))

pub push_alone_by-requires : goal.push_alone_by-requires
push_alone_by-requires c = record {
  cells = IfSome_then c.args.sharing c.requires.cells
      (λ layout all. cells_of_one (IsCell layout.now.spaces) c.args.ops.now c.loop-index.index c.get.result c.get.ensures all);
}

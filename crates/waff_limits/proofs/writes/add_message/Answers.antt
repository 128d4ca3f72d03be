use Rattle.std.specs.Prelude.{option_map}
use Rattle.std.proofs.lemmas.Result.{on_ok_weaker}
use Rattle.std.proofs.lemmas.Option.{IfSome_then}
use Rattle.waff_assign.proofs.Assignments.{cells_of_layout}
use Rattle.waff_model.specs.Cells.{cells_of}
use Rattle.waff_limits.specs.Edges.{edges_of}
use Rattle.waff_limits.specs.Readings.{readings_of}
use Rattle.waff_limits.proofs.EdgeLemmas.{same_used}
use Rattle.waff_limits.proofs.SkyLemmas.{same_read}
use Rattle.waff_limits.proofs.WrittenCells.{none_only_read, none_written, run_only_read, run_written}
use Rattle.waff_limits.proofs.writes.add_message.Goals as goal

pub returns-then-needs_none : goal.returns-then-needs_none
returns-then-needs_none c =
    let sharing = option_map (λ l. l.now.spaces) c.args.sharing in
    let messages = c.args.trace.now.messages in
    let message = c.message-message.result.now in
    let none = c.needs_none.ensures c.if-needs_none.true in
    on_ok_weaker c.add_run.result
    (λ told. record {
      alone = λ are. same_used (edges_of c.args.alone.now) _ _
          (λ cell. none_written sharing messages c.args.n message c.requires.number c.message-message.ensures.message cell none) are;
      shared = λ are. same_read (readings_of c.add_run.new.self) _ _
          (λ cell. run_only_read sharing messages c.args.n message c.requires.number c.message-message.ensures.message cell none
          c.in-Some.run' c.in-Some.ensures.cells) (told _ are);
    })
    c.add_run.ensures

pub returns-then-needs_all : goal.returns-then-needs_all
returns-then-needs_all c =
    let sharing = option_map (λ l. l.now.spaces) c.args.sharing in
    let messages = c.args.trace.now.messages in
    let message = c.message-message.result.now in
    let all = c.needs_all.ensures c.if-needs_all.true in
    on_ok_weaker c.add_run-then-needs_all.result
    (λ told. record {
      alone = λ are. same_used (edges_of c.add_run-then-needs_all.new.self) _ _
          (λ cell. run_written sharing messages c.args.n message c.requires.number c.message-message.ensures.message cell all
          c.in-Some.run' c.in-Some.ensures.cells) (told _ are);
      shared = λ are. same_read (readings_of c.args.shared.now) _ _
          (λ cell. none_only_read sharing messages c.args.n message c.requires.number c.message-message.ensures.message cell all) are;
    })
    c.add_run-then-needs_all.ensures

pub needs_none-requires : goal.needs_none-requires
needs_none-requires c = record {
  cells = IfSome_then c.args.sharing c.requires.fits
      (λ layout fits. cells_of_layout c.args.trace.now.sizes layout.now.spaces (cells_of c.message-message.result.now.ops) fits c.message-message.ensures.within.cells);
}

pub needs_all-requires : goal.needs_all-requires
needs_all-requires c = record {
  cells = IfSome_then c.args.sharing c.requires.fits
      (λ layout fits. cells_of_layout c.args.trace.now.sizes layout.now.spaces (cells_of c.message-message.result.now.ops) fits c.message-message.ensures.within.cells);
}

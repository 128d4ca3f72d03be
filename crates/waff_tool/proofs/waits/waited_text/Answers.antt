use Rattle.std.proofs.Common.{◌<◌, All, length, sym, subst}
use Rattle.waff_model.specs.declared.cell.Cell.{Cell}
use Rattle.waff_assign.specs.Lowest.{ListsLocks}
use Rattle.waff_tool.proofs.LockLists.{cells_known}
use Rattle.waff_tool.proofs.waits.waited_text.Goals as goal

pub invariant_of-locks : goal.invariant_of-locks
invariant_of-locks c = record {
  some = c.has_locks.ensures;
  known = subst (All (λ (cell : Cell). cell.space < length c.args.layout.now.spaces)) (sym c.as_slice.ensures.value)
      (cells_known c.args.layout.now c.args.case.now.trace.now.messages c.in_ok-cells.cells.items c.in_ok-cells.ensures);
}

pub text_by-text-requires : goal.text_by-text-requires
text_by-text-requires c = record {
  listed = subst (ListsLocks c.args.layout.now c.args.case.now.trace.now.messages) (sym c.as_slice.ensures.value)
      c.in_ok-cells.ensures;
}

-- The cells of both parts are those of the whole.
use Rattle.std.proofs.Common.{◌≡◌, ◌+◌, ◌-◌, ◌/◌, ◌++◌, arith, ◌∙◌, ap, subst}
use Rattle.std.proofs.lemmas.Result.{IfOk-at_ok}
use Rattle.waff_assign.specs.Uses.{ListsOnce, locked_cells_between}
use Rattle.waff_assign.proofs.Once.{between_both, once_of_both}
use Rattle.waff_assign.proofs.locks.+listing.Goals as goal

pub returns : goal.returns
returns g t c =
    let spaces = c.args.layout.now.spaces in
    let messages = c.args.trace.now.messages in
    let before = c.args.before in
    let end = c.args.end in
    let middle = before + (end - before) / 2 in
    let first = c.in_ok-cells.cells.items in
    let second = c.in_ok-second.second.items in
    let kept = c.keep_once.new.cells.items in
    let front : ListsOnce (locked_cells_between spaces messages before middle) first
    = IfOk-at_ok (λ cells. ListsOnce (locked_cells_between spaces messages before middle) cells.items) c.in_ok-cells.was
    c.join-first.ensures.first in
    let back : ListsOnce (locked_cells_between spaces messages middle end) second
    = IfOk-at_ok (λ cells. ListsOnce (locked_cells_between spaces messages middle end) cells.items) c.in_ok-second.was
    c.join-first.ensures.second in
    let both : c.extend_from_slice.new.self.items ≡ first ++ second
    = c.in_ok-extend_from_slice.ensures.items ∙ ap (λ xs. first ++ xs) c.deref.ensures.value in
    let once : ListsOnce (first ++ second) kept = subst (λ xs. ListsOnce xs kept) both c.in_ok-keep_once.ensures in
    subst (λ xs. ListsOnce xs kept) (between_both spaces messages before middle end (omega arith) (omega arith))
    (once_of_both (locked_cells_between spaces messages before middle) (locked_cells_between spaces messages middle end) first second kept front back once)

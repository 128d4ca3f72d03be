use Rattle.std.proofs.Common.{◌≡◌, length, arith, sym, subst}
use Rattle.waff_assign.specs.Held.{AreLocksBelow}
use Rattle.waff_assign.proofs.Assignments.{assignment_of_all, below_of_all, known_of_all, part_of_all}
use Rattle.waff_assign.proofs.gathering.assigned_of.Goals as goal

pub assigned-requires-clause-few : goal.assigned-requires-clause-few
assigned-requires-clause-few c = omega (arith, c.requires.all.count, c.len.ensures.count, c.len.ensures.few)

pub assigned-requires-clause-below : goal.assigned-requires-clause-below
assigned-requires-clause-below c =
    let layout = c.args.layout.now in
    let locks = c.args.locks.now in
    let messages = c.args.trace.now.messages in
    let helds = c.args.gathered in
    let count : length helds ≡ length messages = omega (arith, c.requires.all.count) in
    subst (λ n. AreLocksBelow n helds) (sym c.len-2.ensures)
    (below_of_all layout locks messages helds count c.requires.locks (part_of_all layout locks messages helds c.requires.all.each))

pub returns-clause-assignment : goal.returns-clause-assignment
returns-clause-assignment c =
    let layout = c.args.layout.now in
    let locks = c.args.locks.now in
    let messages = c.args.trace.now.messages in
    let helds = c.args.gathered in
    let count : length helds ≡ length messages = omega (arith, c.requires.all.count) in
    rw c.assigned.ensures
    (assignment_of_all layout locks messages helds count c.requires.locks (part_of_all layout locks messages helds c.requires.all.each))

pub returns-clause-known : goal.returns-clause-known
returns-clause-known c =
    let layout = c.args.layout.now in
    let locks = c.args.locks.now in
    let messages = c.args.trace.now.messages in
    let helds = c.args.gathered in
    let count : length helds ≡ length messages = omega (arith, c.requires.all.count) in
    rw c.assigned.ensures
    (known_of_all layout locks messages helds count c.requires.locks (part_of_all layout locks messages helds c.requires.all.each))

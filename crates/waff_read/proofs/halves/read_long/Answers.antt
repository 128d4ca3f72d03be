-- The messages of the rows, behind a header alone.
use Rattle.std.proofs.Common.{◌≡◌, length, arith}
use Rattle.waff_model.specs.Messages.{Arrivals, sizes_of}
use Rattle.waff_parse.specs.Rows.{records_of}
use Rattle.waff_read.specs.Places.{first_place}
use Rattle.waff_read.specs.Traces.{trace_of}
use Rattle.waff_read.proofs.HalfLaws.{made-long, ok-has, read-is, trace-behind}
use Rattle.waff_read.proofs.TraceLaws.{awaited-few, lists-read, messages-few, messages-fit, ops-few}
use Rattle.waff_read.proofs.halves.read_long.Goals as goal

pub of_messages-requires-clause-messages : goal.of_messages-requires-clause-messages
of_messages-requires-clause-messages g c =
    let spaces = ok-has (λ spaces. spaces ≡ c.args.layout.now.spaces) c.new.result c.in_ok-spaces.spaces c.in_ok-spaces.ensures.value c.new.ensures in
    rw (← spaces) (messages-fit c.version-version.result c.in_ok-spaces.spaces first_place (records_of c.in_ok-first.rows.now) c.in_ok-messages.messages.list c.in_ok-messages.ensures.messages)

pub of_messages-requires-clause-few : goal.of_messages-requires-clause-few
of_messages-requires-clause-few g c =
    omega (arith, messages-few c.version-version.result c.in_ok-spaces.spaces first_place (records_of c.in_ok-first.rows.now) c.in_ok-messages.messages.list c.in_ok-messages.ensures.messages (omega arith))

pub of_messages-requires-clause-few_ops : goal.of_messages-requires-clause-few_ops
of_messages-requires-clause-few_ops g c =
    omega (arith, ops-few c.version-version.result c.in_ok-spaces.spaces first_place (records_of c.in_ok-first.rows.now) c.in_ok-messages.messages.list c.in_ok-messages.ensures.messages (omega arith))

pub of_messages-requires-clause-lists : goal.of_messages-requires-clause-lists
of_messages-requires-clause-lists g c =
    lists-read c.version-version.result c.in_ok-spaces.spaces first_place (records_of c.in_ok-first.rows.now) c.in_ok-messages.messages.list c.in_ok-messages.ensures.messages (omega arith)

pub of_messages-requires-clause-few_awaited : goal.of_messages-requires-clause-few_awaited
of_messages-requires-clause-few_awaited g c =
    omega (arith, awaited-few c.version-version.result c.in_ok-spaces.spaces first_place (records_of c.in_ok-first.rows.now) c.in_ok-messages.messages.list c.in_ok-messages.ensures.messages (omega arith))

pub returns : goal.returns
returns g c =
    let spaces = ok-has (λ spaces. spaces ≡ c.args.layout.now.spaces) c.new.result c.in_ok-spaces.spaces c.in_ok-spaces.ensures.value c.new.ensures in
    let header = read-is c.read_bytes.result c.in_ok-header.header (trace_of c.args.newest c.in_ok-spaces.spaces c.in_ok-first.first.now) c.in_ok-header.ensures.value c.read_bytes.ensures in
    let none : length c.in_ok-header.header.messages ≡ 0 = omega (arith, c.if-len-gt0.false, c.len.ensures.count) in
    let messages = c.in_ok-messages.messages.list in
    let all : Arrivals = record { version = c.version-version.result; sizes = sizes_of c.args.layout.now.spaces; messages = messages } in
    let read = trace-behind c.args.newest c.in_ok-spaces.spaces c.args.text.now c.in_ok-first.first.now c.in_ok-first.rows.now c.in_ok-header.header messages
    c.in_ok-first.ensures.records header none (rw c.version-version.ensures at c.in_ok-messages.ensures.messages) in
    made-long c.args.newest c.args.layout.now.spaces c.args.text.now all c.of_messages.result c.ok-3.result c.ok-3.ensures.value c.of_messages.ensures
    (rw (← spaces, c.version-version.ensures) read)

-- The messages that are read are within the limits.
use Rattle.std.proofs.Common.{arith}
use Rattle.waff_parse.specs.Rows.{records_left}
use Rattle.waff_read.specs.Places.{first_place}
use Rattle.waff_read.proofs.TraceLaws.{awaited-few, lists-read, messages-few, messages-fit, ops-few}
use Rattle.waff_read.proofs.trace.read_records.Goals as goal

pub of_messages-requires-clause-messages : goal.of_messages-requires-clause-messages
of_messages-requires-clause-messages c =
    rw c.layout.ensures
    (messages-fit c.in_ok-version.version c.args.spaces.now first_place (records_left c.read_header.new.rdr) c.in_ok-messages.messages.list c.in_ok-messages.ensures.messages)

pub of_messages-requires-clause-few : goal.of_messages-requires-clause-few
of_messages-requires-clause-few c =
    omega (arith, messages-few c.in_ok-version.version c.args.spaces.now first_place (records_left c.read_header.new.rdr) c.in_ok-messages.messages.list c.in_ok-messages.ensures.messages (omega arith))

pub of_messages-requires-clause-few_ops : goal.of_messages-requires-clause-few_ops
of_messages-requires-clause-few_ops c =
    omega (arith, ops-few c.in_ok-version.version c.args.spaces.now first_place (records_left c.read_header.new.rdr) c.in_ok-messages.messages.list c.in_ok-messages.ensures.messages (omega arith))

pub of_messages-requires-clause-lists : goal.of_messages-requires-clause-lists
of_messages-requires-clause-lists c =
    lists-read c.in_ok-version.version c.args.spaces.now first_place (records_left c.read_header.new.rdr) c.in_ok-messages.messages.list c.in_ok-messages.ensures.messages (omega arith)

pub of_messages-requires-clause-few_awaited : goal.of_messages-requires-clause-few_awaited
of_messages-requires-clause-few_awaited c =
    omega (arith, awaited-few c.in_ok-version.version c.args.spaces.now first_place (records_left c.read_header.new.rdr) c.in_ok-messages.messages.list c.in_ok-messages.ensures.messages (omega arith))

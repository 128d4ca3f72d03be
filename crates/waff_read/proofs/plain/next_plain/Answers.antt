-- The message of the columns.
use Rattle.waff_read.proofs.PlainLaws.{row_message}
use Rattle.waff_read.proofs.plain.next_plain.Goals as goal

pub returns-clause-message : goal.returns-clause-message
returns-clause-message c =
    row_message c.args.version c.args.spaces.now c.args.place c.args.text.now c.in_ok-columns.rest.now c.in_ok-columns.columns c.in_ok-message.message c.message_of_columns.result
    c.in_ok-columns.ensures c.in_ok-message.ensures.value c.message_of_columns.ensures

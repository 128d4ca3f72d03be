use Rattle.csv.specs.Records.{fields_of}
use Rattle.waff_parse.specs.Rows.{records_left}
use Rattle.waff_read.proofs.TraceLaws.{gives-message, gives-no-text, gives-fault}
use Rattle.waff_read.proofs.trace.next_message.Goals as goal

pub returns-in-Ok-clause-message : goal.returns-in-Ok-clause-message
returns-in-Ok-clause-message c =
    gives-message c.args.version c.args.spaces.now c.args.place (records_left c.args.rdr.now) (fields_of c.next_text.new.row) (records_left c.next_text.new.rdr) c.in-Ok.message
    (rw c.in-Ok-true.field-0-test at c.in-Ok-true.ensures.next) c.in-Ok.ensures

pub returns-in-Err-Fault-read_message-clause-message : goal.returns-in-Err-Fault-read_message-clause-message
returns-in-Err-Fault-read_message-clause-message c =
    gives-fault c.args.version c.args.spaces.now c.args.place (records_left c.args.rdr.now) (fields_of c.next_text.new.row) (records_left c.next_text.new.rdr) (records_left c.next_text.new.rdr) c.in-Err-Fault-read_message.fault c.at_record.result
    (rw c.in-Ok-true.field-0-test at c.in-Ok-true.ensures.next) (rw c.in-Err-Fault-read_message.field-0-is at c.in-Err-Fault-read_message.ensures) c.at_record.ensures

pub returns-in-Err-Fault-clause-message : goal.returns-in-Err-Fault-clause-message
returns-in-Err-Fault-clause-message c =
    gives-no-text c.args.version c.args.spaces.now c.args.place (records_left c.args.rdr.now) (records_left c.next_text.new.rdr) c.at_record-in-Err-Fault.result
    (rw c.in-Err-Fault.field-0-is at c.in-Err-Fault.ensures.next) c.at_record-in-Err-Fault.ensures

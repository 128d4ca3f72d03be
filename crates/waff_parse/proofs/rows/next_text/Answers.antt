-- What `csv` says of a read, in terms of the records left.
use Rattle.std.proofs.Common.{sym, ap, ◌∙◌}
use Rattle.waff_parse.specs.Rows.{is_not_text}
use Rattle.csv.specs.Records.{fields_of}
use Rattle.waff_parse.proofs.RowLaws.{gives-next, gives-no-text}
use Rattle.waff_parse.proofs.rows.next_text.Goals as goal

pub returns-in-Ok-clause-next : goal.returns-in-Ok-clause-next
returns-in-Ok-clause-next c =
    gives-next c.args.rdr.now c.read_record.new.self c.in-Ok.found (fields_of c.read_record.new.row) c.requires
    (c.in-Ok.ensures.reads c.requires.untrimmed c.requires.ready) (c.in-Ok.ensures.text c.requires.untrimmed)

pub returns-then-is_not_text-clause-next : goal.returns-then-is_not_text-clause-next
returns-then-is_not_text-clause-next c =
    gives-no-text c.args.rdr.now c.read_record.new.self c.in-Err.e.kind c.requires
    (c.in-Err.ensures.why c.requires.untrimmed c.requires.ready)
    (ap is_not_text (sym c.kind.ensures) ∙ sym c.is_not_text.ensures ∙ c.if-is_not_text.true)

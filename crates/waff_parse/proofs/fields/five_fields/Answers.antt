use Rattle.std.proofs.Common.{sym, ◌∙◌}
use Rattle.csv.specs.Records.{fields_of}
use Rattle.waff_parse.proofs.FieldLaws.{five-some}
use Rattle.waff_parse.proofs.fields.five_fields.Goals as goal

pub returns : goal.returns
returns c =
    rw (c.field.ensures, c.field-2.ensures, c.field-3.ensures, c.field-4.ensures, c.field-5.ensures)
    (sym (five-some (fields_of c.args.row.now) (sym c.len.ensures ∙ c.if-len-ne5.false)))

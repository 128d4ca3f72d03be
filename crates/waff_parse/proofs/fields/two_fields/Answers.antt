use Rattle.std.proofs.Common.{sym, ◌∙◌}
use Rattle.csv.specs.Records.{fields_of}
use Rattle.waff_parse.proofs.FieldLaws.{two-some}
use Rattle.waff_parse.proofs.fields.two_fields.Goals as goal

pub returns : goal.returns
returns c = rw (c.field.ensures, c.field-2.ensures) (sym (two-some (fields_of c.args.row.now) (sym c.len.ensures ∙ c.if-len-ne2.false)))

use Rattle.std.proofs.Common.{sym, ◌∙◌}
use Rattle.csv.specs.Records.{fields_of}
use Rattle.waff_parse.proofs.FieldLaws.{three-some}
use Rattle.waff_parse.proofs.fields.three_fields.Goals as goal

pub returns : goal.returns
returns c = rw (c.field.ensures, c.field-2.ensures, c.field-3.ensures) (sym (three-some (fields_of c.args.row.now) (sym c.len.ensures ∙ c.if-len-ne3.false)))

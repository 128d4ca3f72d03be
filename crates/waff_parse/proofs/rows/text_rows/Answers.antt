-- A new reader has all records left.
use Rattle.std.proofs.Common.{refl}
use Rattle.waff_parse.specs.Rows.{records_after}
use Rattle.waff_parse.proofs.rows.text_rows.Goals as goal

pub returns-clause-left : goal.returns-clause-left
unfolding records_after
returns-clause-left c = rw (c.from_reader.ensures.source, c.from_reader.ensures.state) refl

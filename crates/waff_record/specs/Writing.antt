-- A trace that is told anew, record by record.
use Rattle.std.specs.Prelude.{◌≡◌, ℕ, List, ◌∷◌, ◌++◌, true, false, Some, Vec}
use Rattle.std.specs.Global.{Global}
use Rattle.std.specs.List.{flat_map}
use Rattle.csv.specs.Writing.{default_writer, fields_written, has_written, row_text, text_written, writer_setup}
use Rattle.csv.specs.declared.writer.Writer.{Writer}
use Rattle.waff_model.specs.declared.message.Version.{Version}
use Rattle.waff_parse.specs.Rows.{Record, is_text}
use Rattle.waff_read.specs.Messages.{columns_with, row_of}
use Rattle.waff_record.specs.declared.anew.Fields.{Fields}

-- records of which the first is text
abbrev pub BeginsWithText : List Record → Type 0
BeginsWithText rows =
    (row : Record) × (more : List Record) × (rows ≡ row ∷ more) × (is_text row ≡ true)

-- a writer between two records: what it has written, and these records behind it, are a text
pub record Completes (out : Writer (Vec ℕ Global)) (rows : List Record) (whole : List ℕ)
    : Type 0 where
  pub text : List ℕ
  pub setup : writer_setup out ≡ default_writer
  pub fields : fields_written out ≡ 0
  pub begun : has_written out ≡ false
  pub written : text_written (λ (v : Vec ℕ Global). Some v.items) out ≡ Some text
  pub rest : text ++ flat_map (row_text default_writer) rows ≡ whole

-- the record of these fields in a trace of this version
abbrev pub row_with : Version → Fields → Record
row_with version fields = row_of (columns_with version fields.name.now fields.cost.now
    fields.release.now fields.client.now fields.think.now fields.after.now fields.ops.now)

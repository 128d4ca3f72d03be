-- What a writer has written of a trace that is told anew, one record after another.
use Rattle.std.proofs.Common.{◌≡◌, ◌≢◌, ℕ, List, [], ◌∷◌, ◌++◌, false, Option, None, Some, sym, ◌∙◌, ap, subst, append_assoc}
use Rattle.std.specs.Prelude.{Vec}
use Rattle.std.specs.Global.{Global}
use Rattle.std.specs.Io.KnownBytes.{Appends}
use Rattle.std.specs.List.{flat_map}
use Rattle.std.proofs.lemmas.List.{append-nil}
use Rattle.csv.specs.Writing.{default_writer, fields_written, has_written, row_text, text_written, writer_setup}
use Rattle.csv.specs.declared.writer.QuoteStyle.TheVariants as style
use Rattle.csv.specs.declared.writer.Writer.{Writer}
use Rattle.csv.specs.declared.writer.WriterBuilder.{WriterBuilder}
use Rattle.waff_model.specs.declared.awaits.Await.{Await}
use Rattle.waff_parse.specs.Rows.{Record}
use Rattle.waff_read.specs.Spellings.{after_spelled, await_spelled}
use Rattle.waff_record.specs.Writing.{Completes}

-- the bytes that are written into
abbrev pub contents : Vec ℕ Global → Option (List ℕ)
contents v = Some v.items

grown : (now : Option (List ℕ)) (text bytes : List ℕ) → Appends (Some text) now bytes → now ≡ Some (text ++ bytes)
grown None text bytes appends = absurd appends
grown (Some all) text bytes appends = ap Some appends

-- one more record
pub more_written : (old new : Writer (Vec ℕ Global)) (row : Record)
    → (fields_written old ≡ 0 → has_written old ≡ false → (writer_setup old).style ≢ style.NonNumeric
    → Appends (text_written contents old) (text_written contents new) (row_text (writer_setup old) row))
    → fields_written new ≡ 0 → has_written new ≡ false → writer_setup new ≡ writer_setup old → (rows : List Record) (whole : List ℕ)
    → Completes old (row ∷ rows) whole → Completes new rows whole
more_written old new row bytes ended clean same rows whole c =
    let usual : (writer_setup old).style ≡ style.Necessary = ap (λ (b : WriterBuilder). b.style) c.setup in
    let appends = bytes c.fields c.begun (λ other. cc) in
    let known : Appends (Some c.text) (text_written contents new) (row_text default_writer row)
    = subst (λ b. Appends (Some c.text) (text_written contents new) (row_text b row)) c.setup
    (subst (λ o. Appends o (text_written contents new) (row_text (writer_setup old) row)) c.written appends) in
    record {
      text = c.text ++ row_text default_writer row;
      setup = same ∙ c.setup;
      fields = ended;
      begun = clean;
      written = grown (text_written contents new) c.text (row_text default_writer row) known;
      rest = append_assoc c.text (row_text default_writer row) (flat_map (row_text default_writer) rows) ∙ c.rest;
    }

-- a list, one after another
pub list_spelled : (first : Await) (others : List Await) → after_spelled (first ∷ others) ≡ await_spelled first ++ flat_map (λ a. 32 ∷ await_spelled a) others
list_spelled first [] = sym (append-nil (await_spelled first))
list_spelled first (next ∷ others) = ap (λ text. await_spelled first ++ (32 ∷ text)) (list_spelled next others)

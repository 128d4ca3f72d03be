-- Laws of the reading of plans, one record after the other.
use Rattle.std.proofs.Common.{◌≡◌, ℕ, zero, suc, ◌+◌, ◌≤◌, List, [], ◌∷◌, length, drop, Bool, true, false, Option, Some, None, Ok, Err, refl, arith}
use Rattle.std.specs.Prelude.{if◌then◌else◌}
use Rattle.csv.specs.Reading.{default_config, records_from, records_next, strip_bom}
use Rattle.csv.specs.Machine.{Read, next_record}
use Rattle.csv.specs.declared.parser.Config.{Config}
use Rattle.csv.specs.declared.parser.State.{State}
use Rattle.csv.specs.declared.parser.State.TheVariants as st
use Rattle.waff_model.specs.declared.message.Version.{Version}
use Rattle.waff_parse.specs.Rows.{Record, records_of}
use Rattle.waff_parse.specs.Stopping.{Stops}
use Rattle.waff_parse.proofs.Laws.{bind-stops}
use Rattle.waff_plan_text.specs.declared.row.Row.{Row}
use Rattle.waff_parse.specs.declared.stop.Stop.{Stop}
use Rattle.waff_parse.specs.declared.stop.Stop.TheVariants as stop
use Rattle.waff_plan_text.specs.PlanTexts.{plan_after, plan_of_end, plan_of_summary, put, rows_in}
use Rattle.waff_plan_text.specs.Records.{GivesRecord, TellsNoText}
use Rattle.waff_plan_text.specs.Refusals.{at_record}
use Rattle.waff_plan_text.specs.Rows.{Slots, row_of}
use Rattle.waff_plan_text.specs.Summaries.{begins_summary}
use Rattle.waff_plan_text.specs.declared.refusal.PlanTextError.{PlanTextError}
use Rattle.waff_plan_text.specs.declared.refusal.PlanTextError.TheVariants as error
use Rattle.waff_plan_text.specs.declared.refusal.Refusal.{Refusal}
use Rattle.waff_plan_text.specs.declared.row.NumberedRow.{NumberedRow}

module _ (version : Version) (messages at : ℕ) (slots : Slots) where
  -- a record that is no text
  pub after-no-text : (left : List Record) (e : PlanTextError) → TellsNoText at e left → plan_after version messages at slots left ≡ Err e
  unfolding plan_after
  after-no-text left e h = rw (h.2, h.3, h.4) refl

  -- a read that stops
  pub after-stops : (why : Stop PlanTextError) (left others : List Record) (row : Record) → GivesRecord at (Err why) left row others
      → Stops why (plan_after version messages at slots left)
  after-stops stop.Memory left others row h = tt
  after-stops (stop.Fault e) left others row h = after-no-text left e h

  -- a record that begins the summary
  pub after-summary : (left others : List Record) (row : Record) → GivesRecord at (Ok true) left row others → begins_summary row ≡ true
      → plan_after version messages at slots left ≡ plan_of_summary version messages at slots (row ∷ others)
  unfolding plan_after
  after-summary left others row h begins = rw (h.0, h.1, begins) refl

  -- a row
  pub after-row : (left others : List Record) (row : Record) (given : NumberedRow) → GivesRecord at (Ok true) left row others → begins_summary row ≡ false
      → row_of slots row ≡ Ok given → plan_after version messages at slots left ≡ plan_after version messages (at + 1) (put slots given) others
  unfolding plan_after
  after-row left others row given h begins is = rw (h.0, h.1, begins, is) refl

  -- a record that is refused as a row
  pub after-refused : (left others : List Record) (row : Record) (why : Refusal) → GivesRecord at (Ok true) left row others → begins_summary row ≡ false
      → row_of slots row ≡ Err why → plan_after version messages at slots left ≡ Err (at_record at why)
  unfolding plan_after
  after-refused left others row why h begins is = rw (h.0, h.1, begins, is) refl

  -- the end of the records
  pub after-end : (left : List Record) → left ≡ [] → plan_after version messages at slots left ≡ plan_of_end at slots
  unfolding plan_after
  after-end left none = rw none refl

-- the end, where a row is missing
pub end-stops : (at : ℕ) (slots : Slots) (why : Stop PlanTextError) → Stops why (rows_in slots) → Stops why (plan_of_end at slots)
unfolding plan_of_end
end-stops at slots why h = bind-stops why (rows_in slots) _ h

-- the end, where the summary is missing
pub end-summary : (at : ℕ) (slots : Slots) (rows : List Row) → rows_in slots ≡ Ok rows → plan_of_end at slots ≡ Err (error.Summary at)
unfolding plan_of_end
end-summary at slots rows h = rw h refl

-- there are no more records than turns
length-records_from : (cfg : Config) (n : ℕ) (s : State) (xs : List ℕ) → length (records_from cfg n s xs) ≤ n
unfolding records_from
length-records_from cfg zero s xs = omega arith
length-records_from cfg (suc n) s xs = by (next_record cfg s [] [] xs) (length-records_from cfg n)
  where
    by : (o : Option Read) → ((t : State) (ys : List ℕ) → length (records_from cfg n t ys) ≤ n) → length (records_next (records_from cfg n) o) ≤ suc n
    by None more = omega arith
    by (Some p) more = let h = more p.1 p.2 in omega arith

length-if : (b : Bool) (xs ys : List ℕ) (n : ℕ) → length xs ≤ n → length ys ≤ n → length (if b then xs else ys) ≤ n
length-if true xs ys n h k = h
length-if false xs ys n h k = k

length-strip_bom : (xs : List ℕ) → length (strip_bom xs) ≤ length xs
unfolding strip_bom
length-strip_bom [] = omega arith
length-strip_bom (a ∷ []) = omega arith
length-strip_bom (a ∷ b ∷ []) = omega arith
length-strip_bom (a ∷ b ∷ c ∷ rest) = length-if _ rest (a ∷ b ∷ c ∷ rest) _ (omega arith) (omega arith)

-- there is at most one record more than there are bytes
pub length-records_of : (bytes : List ℕ) → length (records_of bytes) ≤ length bytes + 1
length-records_of bytes = let r = length-records_from default_config (length (strip_bom bytes) + 1) st.StartRecord (strip_bom bytes) in let s = length-strip_bom bytes in omega arith

-- without its first there are no more
pub length-drop_one : {A : Type 0} (xs : List A) → length (drop 1 xs) ≤ length xs
length-drop_one [] = omega arith
length-drop_one (x ∷ xs) = omega arith

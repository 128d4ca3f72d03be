-- The lines of a summary.
use Rattle.std.specs.Prelude.{ℕ, ◌+◌, ◌==◌, Bool, false, ◌&&◌, nat_le, if◌then◌else◌, List, [], ◌∷◌}
use Rattle.std.specs.Prelude.{length, Option, Some, None, ok_or, option_map, is_some, Result}
use Rattle.std.specs.Prelude.{Ok, Err, codes}
use Rattle.std.specs.Borrow.{Bor}
use Rattle.std.specs.Str.{bytes_eq}
use Rattle.waff_model.specs.declared.message.Version.{Version}
use Rattle.waff_parse.specs.Fields.{Field, two_of, three_of}
use Rattle.waff_parse.specs.Refusals.{◌>>=◌, told}
use Rattle.waff_parse.specs.Rows.{Record, is_text}
use Rattle.waff_parse.specs.Texts.{number_of, number_within, parts}
use Rattle.waff_parse.specs.Walks.{walk}
use Rattle.waff_plan.specs.declared.totals.Totals.{Totals}
use Rattle.waff_plan_text.specs.Fields.{is_dash, number_within_limit}
use Rattle.waff_plan_text.specs.Given.{SummaryLines}
use Rattle.waff_plan_text.specs.Refusals.{at_record}
use Rattle.waff_plan_text.specs.Table.{Told, lines_of, line_name, with_told}
use Rattle.waff_model.specs.declared.limits.TheConstants.{MAX_WORKERS}
use Rattle.waff_plan_text.specs.declared.refusal.PlanTextError.{PlanTextError}
use Rattle.waff_plan_text.specs.declared.refusal.PlanTextError.TheVariants as error
use Rattle.waff_plan_text.specs.declared.refusal.Refusal.{Refusal}
use Rattle.waff_plan_text.specs.declared.refusal.Refusal.TheVariants as refusal
use Rattle.waff_plan_text.specs.declared.table.Line.{Line}
use Rattle.waff_plan_text.specs.declared.table.Line.TheVariants.{Bound, Chain, Cost, Length, Release, Total, Workers}

-- the text that was borrowed of a record
abbrev pub text_of : Result (Bor Field) Refusal → Result Field Refusal
text_of (Ok text) = Ok text.now
text_of (Err e) = Err e

-- the value of a line with this name
abbrev pub value_of : Field → Option (Field × Field) → Result Field Refusal
value_of name None = Err refusal.Summary
value_of name (Some f) = if bytes_eq f.0 name then Ok f.1 else Err refusal.Summary

-- a record begins the summary where its first field is `workers`
abbrev pub begins_summary : Record → Bool
begins_summary [] = false
begins_summary (first ∷ more) = bytes_eq first (codes "workers")

-- the number of workers: a dash, or a number within the limit
abbrev pub workers_of : Field → Result (Option ℕ) Refusal
workers_of text = if is_dash text then Ok None else ok_or
    (option_map Some (number_within 1 MAX_WORKERS text)) refusal.Summary

abbrev pub workers_line : Record → Result (Option ℕ) Refusal
workers_line row = value_of (codes "workers") (two_of row) >>= workers_of

-- a number within the limit
abbrev pub tick_of : Field → Result ℕ Refusal
tick_of text = if is_some (number_of text) then number_within_limit text else Err refusal.Summary

abbrev pub tick_line : Field → Record → Result ℕ Refusal
tick_line name row = value_of name (two_of row) >>= tick_of

-- one message of a chain
abbrev pub link_of : ℕ → Field → Result ℕ Refusal
link_of messages text = ok_or (number_within 1 messages text) refusal.Summary

-- a list that is not too long
abbrev pub few : ℕ → List ℕ → Result (List ℕ) Refusal
few messages chain = if nat_le (length chain) messages then Ok chain else Err refusal.Summary

abbrev pub same : ℕ → Field → ℕ
same messages text = messages

-- the messages of a chain that has some, joined by one space
abbrev pub links_of : ℕ → Field → Result (List ℕ) Refusal
links_of messages text = walk link_of same messages (parts 32 text) >>= few messages

-- the messages of a chain; nothing for the empty chain
abbrev pub chain_of : ℕ → Field → Result (List ℕ) Refusal
chain_of messages text = if length text == 0 then Ok [] else links_of messages text

abbrev pub chain_line : ℕ → Record → Result (List ℕ) Refusal
chain_line messages row = value_of (codes "chain") (two_of row) >>= chain_of messages

-- the name of the bound, and two numbers
abbrev pub is_bound : Field → Field → Field → Bool
is_bound name left right =
    bytes_eq name (codes "bound") && (is_some (number_of left) && is_some (number_of right))

-- two numbers within the limit
abbrev pub sides_of : Field → Field → Result (ℕ × ℕ) Refusal
sides_of left_text right_text = do
  left ← number_within_limit left_text
  right ← number_within_limit right_text
  Ok (left, right)

-- the two sides of the bound
abbrev pub bound_of : Option (Field × Field × Field) → Result (ℕ × ℕ) Refusal
bound_of None = Err refusal.Summary
bound_of (Some f) = if is_bound f.0 f.1 f.2 then sides_of f.1 f.2 else Err refusal.Summary

abbrev pub bound_line : Record → Result (ℕ × ℕ) Refusal
bound_line row = bound_of (three_of row)

-- what a record tells as this line
abbrev pub read_line : ℕ → (line : Line) → Record → Result (Told line) Refusal
read_line messages Workers row = workers_line row
read_line messages Total row = tick_line (line_name Total) row
read_line messages Length row = tick_line (line_name Length) row
read_line messages Chain row = chain_line messages row
read_line messages Release row = tick_line (line_name Release) row
read_line messages Cost row = tick_line (line_name Cost) row
read_line messages Bound row = bound_line row

-- a summary with what a record tells as this line
abbrev pub with_line : ℕ → Line → Record → SummaryLines → Result SummaryLines Refusal
with_line messages line row summary =
    read_line messages line row >>= (λ value. Ok (with_told line value summary))

-- no record follows the last line
abbrev pub ends : ℕ → List Record → Result (Unit {0}) PlanTextError
ends at [] = Ok tt
ends at (row ∷ more) = Err (at_record at (if is_text row then refusal.Summary else refusal.Csv))

-- a summary with what records tell as these lines: there is a record for each line, which is text,
-- and no other; the first has this number
unfoldable pub with_lines : ℕ → List Line → ℕ
    → List Record → SummaryLines → Result SummaryLines PlanTextError
with_lines messages [] at rows summary = ends at rows >>= (λ _. Ok summary)
with_lines messages (line ∷ lines) at [] summary = Err (error.Summary at)
with_lines messages (line ∷ lines) at (row ∷ more) summary =
    told (at_record at)
    (if is_text row then with_line messages line row summary else Err refusal.Csv)
    >>= with_lines messages lines (at + 1) more

-- before the first line
abbrev pub no_totals : Totals
no_totals = record { total = 0; length = 0; release = 0; cost = 0; left = 0; right = 0 }

abbrev pub no_summary : SummaryLines
no_summary = record { workers = None; chain = []; totals = no_totals }

-- the summary that records spell, the first of which has this number; the release is 0 where the
-- version has none
abbrev pub summary_of : Version → ℕ → ℕ → List Record → Result SummaryLines PlanTextError
summary_of version messages at rows = with_lines messages (lines_of version) at rows no_summary

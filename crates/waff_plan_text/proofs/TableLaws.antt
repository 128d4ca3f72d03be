-- Laws of loops over the lines of a summary: one line after the other, where the version has it.
use Rattle.std.proofs.Common.{◌≡◌, ℕ, zero, suc, ◌+◌, ◌<◌, ◌≤◌, List, [], ◌∷◌, length, get_or, drop, Bool, true, false, Ok, Err, refl, sym, ap, ◌∙◌, subst, arith, drop-cons}
use Rattle.std.specs.Prelude.{filter}
use Rattle.waff_model.specs.declared.message.Version.{Version}
use Rattle.waff_parse.specs.Rows.{Record, is_text}
use Rattle.waff_parse.specs.Stopping.{Stops}
use Rattle.waff_parse.specs.declared.stop.Stop.{Stop}
use Rattle.waff_parse.specs.declared.stop.Stop.TheVariants as stop
use Rattle.waff_plan_text.specs.Given.{SummaryLines}
use Rattle.waff_plan_text.specs.Records.{GivesRecord}
use Rattle.waff_plan_text.specs.Refusals.{at_record}
use Rattle.waff_plan_text.specs.Summaries.{read_line, with_line, with_lines}
use Rattle.waff_plan_text.specs.Table.{Told, is_in, with_told}
use Rattle.waff_plan_text.specs.declared.refusal.PlanTextError.{PlanTextError}
use Rattle.waff_plan_text.specs.declared.refusal.PlanTextError.TheVariants as error
use Rattle.waff_plan_text.specs.declared.refusal.Refusal.{Refusal}
use Rattle.waff_plan_text.specs.declared.table.Line.{Line}
use Rattle.waff_plan_text.specs.declared.table.Line.TheVariants.{Workers}
use Rattle.waff_parse.proofs.Laws.{bind-stops}

-- the lines that a version has, from a place in the table on
abbrev pub lines_from : Version → List Line → ℕ → List Line
lines_from version lines i = filter (is_in version) (drop i lines)

-- the records from the last that was read on, if one was found
abbrev pub left_with : Bool → Record → List Record → List Record
left_with true row left = row ∷ left
left_with false row left = []

-- the line at a place, and those behind it
module _ (version : Version) (lines : List Line) (i : ℕ) (d : Line) (low : i < length lines) where
  at_place : drop i lines ≡ get_or lines i d ∷ drop (i + 1) lines
  at_place = let e : i + 1 ≡ suc i = omega arith in rw e (drop-cons lines i d low)

  pub from_line : is_in version (get_or lines i d) ≡ true → lines_from version lines i ≡ get_or lines i d ∷ lines_from version lines (i + 1)
  from_line there = rw (at_place, there) refl

-- no line is left
pub from_end : (version : Version) (lines : List Line) (i : ℕ) → length lines ≤ i → lines_from version lines i ≡ []
from_end version lines i past = ap (filter (is_in version)) (drop-past lines i past)
  where
    drop-past : (lines : List Line) (i : ℕ) → length lines ≤ i → drop i lines ≡ []
    drop-past [] zero past = refl
    drop-past [] (suc i) past = refl
    drop-past (line ∷ lines) zero past = absurd (omega (arith, past))
    drop-past (line ∷ lines) (suc i) past = drop-past lines i (omega (arith, past))

-- one more line is read
module _ (messages : ℕ) (line : Line) (lines : List Line) (at : ℕ) (row : Record) (left : List Record) (summary : SummaryLines) (text : is_text row ≡ true) where
  pub line_taken : (next : SummaryLines) → with_line messages line row summary ≡ Ok next
      → with_lines messages (line ∷ lines) at (row ∷ left) summary ≡ with_lines messages lines (at + 1) left next
  unfolding with_lines
  line_taken next h = rw (text, h) refl

  pub line_not_taken : (why : Refusal) → with_line messages line row summary ≡ Err why
      → with_lines messages (line ∷ lines) at (row ∷ left) summary ≡ Err (at_record at why)
  unfolding with_lines
  line_not_taken why h = rw (text, h) refl

  pub one_too_many : with_lines messages [] at (row ∷ left) summary ≡ Err (error.Summary at)
  unfolding with_lines
  one_too_many = rw text refl

module _ (messages at : ℕ) (summary : SummaryLines) where
  pub line_missing : (line : Line) (lines : List Line) → with_lines messages (line ∷ lines) at [] summary ≡ Err (error.Summary at)
  unfolding with_lines
  line_missing line lines = refl

  pub lines_done : with_lines messages [] at [] summary ≡ Ok summary
  unfolding with_lines
  lines_done = refl

  no_text : (lines : List Line) (bad : Record) (more : List Record) → is_text bad ≡ false → with_lines messages lines at (bad ∷ more) summary ≡ Err (error.Csv at)
  unfolding with_lines
  no_text [] bad more not = rw not refl
  no_text (line ∷ lines) bad more not = rw not refl

  -- a read that stops
  pub lines_stop : (lines : List Line) (why : Stop PlanTextError) (left others : List Record) (row : Record) → GivesRecord at (Err why) left row others
      → Stops why (with_lines messages lines at left summary)
  lines_stop lines stop.Memory left others row h = tt
  lines_stop lines (stop.Fault e) left others row h = rw (h.2, h.4) (no_text lines h.0 h.1 h.3)

-- the next record is text, if there is one
pub next_is_text : (at : ℕ) (found : Bool) (left others : List Record) (row : Record) → GivesRecord at (Ok found) left row others → found ≡ true → is_text row ≡ true
next_is_text at true left others row h is = h.1
next_is_text at false left others row h is = absurd (cc)

left_same : (at : ℕ) (found : Bool) (left others : List Record) (row : Record) → GivesRecord at (Ok found) left row others → left_with found row others ≡ left
left_same at true left others row h = sym h.0
left_same at false left others row h = sym h

-- a turn of the loop at a line that the version has
module _ (version : Version) (messages : ℕ) (lines : List Line) (i : ℕ) (d : Line) (at : ℕ) (summary : SummaryLines)
    (low : i < length lines) (there : is_in version (get_or lines i d) ≡ true) where
  pub turn_missing : with_lines messages (lines_from version lines i) at [] summary ≡ Err (error.Summary at)
  turn_missing =
      ap (λ ls. with_lines messages ls at [] summary) (from_line version lines i d low there)
      ∙ line_missing messages at summary (get_or lines i d) (lines_from version lines (i + 1))

  module _ (row : Record) (left : List Record) (text : is_text row ≡ true) where
    pub turn_refused : (why : Refusal) → with_line messages (get_or lines i d) row summary ≡ Err why
        → with_lines messages (lines_from version lines i) at (row ∷ left) summary ≡ Err (at_record at why)
    turn_refused why h =
        ap (λ ls. with_lines messages ls at (row ∷ left) summary) (from_line version lines i d low there)
        ∙ line_not_taken messages (get_or lines i d) (lines_from version lines (i + 1)) at row left summary text why h

    module _ (next : SummaryLines) (h : with_line messages (get_or lines i d) row summary ≡ Ok next) where
      taken : with_lines messages (lines_from version lines i) at (row ∷ left) summary ≡ with_lines messages (lines_from version lines (i + 1)) (at + 1) left next
      taken =
          ap (λ ls. with_lines messages ls at (row ∷ left) summary) (from_line version lines i d low there)
          ∙ line_taken messages (get_or lines i d) (lines_from version lines (i + 1)) at row left summary text next h

      pub turn_taken : (found : Bool) (other : Record) (others : List Record) → GivesRecord (at + 1) (Ok found) left other others
          → with_lines messages (lines_from version lines (i + 1)) (at + 1) (left_with found other others) next
          ≡ with_lines messages (lines_from version lines i) at (row ∷ left) summary
      turn_taken found other others k =
          ap (λ rs. with_lines messages (lines_from version lines (i + 1)) (at + 1) rs next) (left_same (at + 1) found left others other k) ∙ sym taken

      pub turn_stops : (why : Stop PlanTextError) (other : Record) (others : List Record) → GivesRecord (at + 1) (Err why) left other others
          → Stops why (with_lines messages (lines_from version lines i) at (row ∷ left) summary)
      turn_stops why other others k =
          subst (λ r. Stops why r) (sym taken) (lines_stop messages (at + 1) next (lines_from version lines (i + 1)) why left others other k)

-- the end of the loop
module _ (version : Version) (messages : ℕ) (lines : List Line) (i at : ℕ) (summary : SummaryLines) (past : length lines ≤ i) where
  pub end_refused : (row : Record) (left : List Record) → is_text row ≡ true
      → with_lines messages (lines_from version lines i) at (row ∷ left) summary ≡ Err (error.Summary at)
  end_refused row left text =
      ap (λ ls. with_lines messages ls at (row ∷ left) summary) (from_end version lines i past)
      ∙ one_too_many messages Workers [] at row left summary text

  pub end_done : with_lines messages (lines_from version lines i) at [] summary ≡ Ok summary
  end_done = ap (λ ls. with_lines messages ls at [] summary) (from_end version lines i past) ∙ lines_done messages at summary

-- a record as one line
module _ (messages : ℕ) (line : Line) (row : Record) (summary : SummaryLines) where
  pub line_stops : (why : Stop Refusal) → Stops why (read_line messages line row) → Stops why (with_line messages line row summary)
  line_stops why h = bind-stops why (read_line messages line row) _ h

  pub line_read : (value : Told line) → read_line messages line row ≡ Ok value → with_line messages line row summary ≡ Ok (with_told line value summary)
  line_read value h = rw h refl

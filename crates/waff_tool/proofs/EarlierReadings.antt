-- The text of a plan reads as the same plan of both versions that have clients.
use Rattle.std.proofs.Common.{◌≡◌, ℕ, ◌+◌, Bool, true, false, List, [], ◌∷◌, drop, replicate, Option, None, Result, Ok, Err, refl, ◌∙◌, ap}
use Rattle.std.specs.Prelude.{if◌then◌else◌}
use Rattle.waff_model.specs.Tree.{Node}
use Rattle.waff_model.specs.declared.message.Version.{Version}
use Rattle.waff_model.specs.declared.message.Version.TheVariants.{V3, V4}
use Rattle.waff_parse.specs.Refusals.{◌>>=◌, told}
use Rattle.waff_parse.specs.Rows.{Record, is_text, records_of}
use Rattle.waff_plan.specs.Work.{Work}
use Rattle.waff_plan_text.specs.Given.{Given, SummaryLines}
use Rattle.waff_plan_text.specs.PlanTexts.{header_of, plan_after, plan_of, plan_of_end, plan_of_records, plan_of_rows, plan_of_summary, put, rows_in}
use Rattle.waff_plan_text.specs.Refusals.{at_record}
use Rattle.waff_plan_text.specs.Rows.{Slots, row_of}
use Rattle.waff_plan_text.specs.Spelling.{plan_lines, summary_lines}
use Rattle.waff_plan_text.specs.Summaries.{begins_summary, summary_of}
use Rattle.waff_plan_text.specs.declared.refusal.PlanTextError.{PlanTextError}
use Rattle.waff_plan_text.specs.declared.refusal.PlanTextError.TheVariants as error
use Rattle.waff_plan_text.specs.declared.row.Row.{Row}
use Rattle.waff_assign.specs.Held.{Held}

-- the two versions, from the later to the earlier one or back
pub data Both : Version → Version → Type 0 where
  down : Both V4 V3
  up : Both V3 V4

-- the lines of a plan are the same
pub lines_same : {v w : Version} → Both v w → (tree : List Node) (assigned : List Held) (work : Work) (workers : Option ℕ) (start : ℕ → ℕ) (worker : ℕ → Option ℕ)
    (chain : List ℕ) → plan_lines v tree assigned work workers start worker chain ≡ plan_lines w tree assigned work workers start worker chain
unfolding summary_lines
lines_same down tree assigned work workers start worker chain = refl
lines_same up tree assigned work workers start worker chain = refl

-- a plan that was read, and what was read, as of another version
abbrev pub given_in : Version → Given → Given
given_in version given = record { version = version; rows = given.rows; summary = given.summary }

abbrev read_in : Version → Result Given PlanTextError → Result Given PlanTextError
read_in version (Ok given) = Ok (given_in version given)
read_in version (Err e) = Err e

-- one reading after another, and either of two
after_same : {A : Type 0} (w : Version) (read : Result A PlanTextError) (f g : A → Result Given PlanTextError) → ((a : A) → g a ≡ read_in w (f a))
    → (read >>= g) ≡ read_in w (read >>= f)
after_same w (Ok a) f g same = same a
after_same w (Err e) f g same = refl

either_same : (w : Version) (test : Bool) (one other again more : Result Given PlanTextError) → again ≡ read_in w one → more ≡ read_in w other
    → (if test then again else more) ≡ read_in w (if test then one else other)
either_same w true one other again more first second = first
either_same w false one other again more first second = second

summary_same : {v w : Version} → Both v w → (messages at : ℕ) (records : List Record) → summary_of w messages at records ≡ summary_of v messages at records
summary_same down messages at records = refl
summary_same up messages at records = refl

end_same : (w : Version) (at : ℕ) (slots : Slots) → plan_of_end at slots ≡ read_in w (plan_of_end at slots)
unfolding plan_of_end
end_same w at slots = after_same w (rows_in slots) (λ rows. Err (error.Summary at)) (λ rows. Err (error.Summary at)) (λ rows. refl)

given_of : Version → List Row → SummaryLines → Result Given PlanTextError
given_of version rows summary = Ok (record { version = version; rows = rows; summary = summary })

lines_read_same : {v w : Version} → Both v w → (messages at : ℕ) (slots : Slots) (records : List Record)
    → plan_of_summary w messages at slots records ≡ read_in w (plan_of_summary v messages at slots records)
unfolding plan_of_summary given_of
lines_read_same {v} {w} both messages at slots records =
    after_same w (rows_in slots) (λ rows. summary_of v messages at records >>= given_of v rows) (λ rows. summary_of w messages at records >>= given_of w rows)
    (λ rows.
    ap (λ read. read >>= given_of w rows) (summary_same both messages at records)
    ∙ after_same w (summary_of v messages at records) (given_of v rows) (given_of w rows) (λ summary. refl))

records_same : {v w : Version} → Both v w → (messages at : ℕ) (slots : Slots) (records : List Record)
    → plan_after w messages at slots records ≡ read_in w (plan_after v messages at slots records)
unfolding plan_after
records_same {v} {w} both messages at slots [] = end_same w at slots
records_same {v} {w} both messages at slots (first ∷ more) =
    either_same w (is_text first) _ (Err (error.Csv at)) _ (Err (error.Csv at))
    (either_same w (begins_summary first) _ _ _ _ (lines_read_same both messages at slots (first ∷ more))
    (after_same w (told (at_record at) (row_of slots first)) (λ given. plan_after v messages (at + 1) (put slots given) more)
    (λ given. plan_after w messages (at + 1) (put slots given) more) (λ given. records_same both messages (at + 1) (put slots given) more)))
    refl

read_same : {v w : Version} → Both v w → (messages : ℕ) (bytes : List ℕ) → plan_of w messages bytes ≡ read_in w (plan_of v messages bytes)
unfolding plan_of_records
read_same {v} {w} both messages bytes =
    after_same w (header_of (records_of bytes)) (λ _. plan_of_rows v messages (drop 1 (records_of bytes))) (λ _. plan_of_rows w messages (drop 1 (records_of bytes)))
    (λ _. records_same both messages 2 (replicate messages None) (drop 1 (records_of bytes)))

-- a plan that was read of one version is read of the other
pub plan_read_same : {v w : Version} → Both v w → (messages : ℕ) (bytes : List ℕ) (given : Given) → plan_of v messages bytes ≡ Ok given
    → plan_of w messages bytes ≡ Ok (given_in w given)
plan_read_same {v} {w} both messages bytes given read = read_same both messages bytes ∙ ap (read_in w) read

-- What the program answers: which text, and with which exit status, answers what is asked of files.
use Rattle.std.specs.Global.{Global}
use Rattle.std.specs.Prelude.{◌≡◌, ℕ, List, None, Vec, drop, map, slice_get}
use Rattle.waff_io.specs.Split.{after_mark, before_mark}
use Rattle.waff_check.specs.declared.verdict.Verdict.{Verdict}
use Rattle.waff_figures.specs.declared.told.Told.TheVariants as told
use Rattle.waff_list.specs.declared.rule.Rule.TheVariants as rule
use Rattle.waff_inputs.specs.Inputs.{IsToldUnder, Refuses}
use Rattle.waff_inputs.specs.declared.fault.ToolError.{ToolError}
use Rattle.waff_tool.specs.CheckText.{IsCheckText, RefusesCheck, status_after, verdict_text}
use Rattle.waff_tool.specs.Comparison.{IsCompareText, RefusesComparison}
use Rattle.waff_tool.specs.DrawText.{IsDrawText}
use Rattle.waff_tool.specs.Explanations.{IsExplanation, RefusesWork, status_explained}
use Rattle.waff_tool.specs.Ranks.{IsRankText, RefusesRank, file_at}
use Rattle.waff_tool.specs.Rate.{IsRateText}
use Rattle.waff_tool.specs.ReplayText.{IsReplayText, RefusesReplay}
use Rattle.waff_tool.specs.Told.{Tells}
use Rattle.waff_tool.specs.declared.explains.Explained.{Explained}
use Rattle.waff_cli.specs.declared.words.Asked.{Asked}
use Rattle.waff_cli.specs.declared.words.Asked.TheVariants as asked

-- the bytes of files
abbrev pub bytes_of : List (Vec ℕ Global) → List (List ℕ)
bytes_of files = map (λ file. file.items) files

-- the files in the order of the words
abbrev pub first : List (List ℕ) → List ℕ
first files = file_at files 0

abbrev pub second : List (List ℕ) → List ℕ
second files = file_at files 1

abbrev pub third : List (List ℕ) → List ℕ
third files = file_at files 2

-- the text is an answer to what is asked of the bytes of these files, and this is the exit status
abbrev pub Answers : Asked → List (List ℕ) → ℕ → List ℕ → Type 0
Answers asked.PlanOfInput files status text =
    (status ≡ 0) × IsToldUnder (Tells (told.Plan None rule.Arrival))
    (before_mark (first files)) (after_mark (first files)) text
Answers (asked.Told told) files status text =
    (status ≡ 0) × IsToldUnder (Tells told) (first files) (second files) text
Answers asked.Check files status text =
    (v : Verdict) × IsCheckText (first files) (second files) (third files) v
    × (text ≡ verdict_text v) × (status ≡ status_after v)
Answers (asked.Replay workers) files status text =
    (status ≡ 0) × IsReplayText (first files) (second files) text
Answers (asked.Compare k) files status text =
    (status ≡ 0) × IsCompareText (first files) (second files) (third files) k text
Answers asked.Rate files status text =
    (v : Verdict) × IsRateText (first files) (second files) (third files) v text
    × (status ≡ status_after v)
Answers (asked.Draw picture part) files status text =
    (status ≡ 0)
    × IsDrawText (first files) (second files) (third files) picture part text
Answers (asked.Rank k rule) files status text =
    (status ≡ 0) × IsRankText rule (drop 1 files) (first files) k text
Answers asked.Explain files status text =
    (e : Explained) × IsExplanation (first files) (slice_get files 1) (slice_get files 2) e text
    × (status ≡ status_explained e)

-- the error tells why what is asked of these files is refused; an allocation failure and a writer's
-- fault tell nothing of them
abbrev pub RefusesAsked : Asked → List (List ℕ) → ToolError → Type 0
RefusesAsked asked.PlanOfInput files error =
    Refuses (before_mark (first files)) (after_mark (first files)) error
RefusesAsked asked.Check files error = RefusesCheck (first files) (second files) (third files) error
RefusesAsked asked.Rate files error = RefusesCheck (first files) (second files) (third files) error
RefusesAsked (asked.Draw picture part) files error =
    RefusesCheck (first files) (second files) (third files) error
RefusesAsked (asked.Replay workers) files error = RefusesReplay (first files) (second files) error
RefusesAsked (asked.Compare k) files error =
    RefusesComparison (first files) (second files) (third files) error
RefusesAsked (asked.Rank k rule) files error = RefusesRank (drop 1 files) (first files) error
RefusesAsked asked.Explain files error = RefusesWork error
RefusesAsked _ files error = Refuses (first files) (second files) error

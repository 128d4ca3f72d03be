-- Of the same files what is asked is refused for one error, and for none where it has an answer.
use Rattle.std.proofs.Common.{ℕ, List, drop}
use Rattle.waff_io.specs.Split.{after_mark, before_mark}
use Rattle.waff_inputs.proofs.Refusals.{accepted_is_not_refused, one_refusal}
use Rattle.waff_inputs.specs.Inputs.{TellsOfFiles, files_of}
use Rattle.waff_inputs.specs.declared.fault.ToolError.{ToolError}
use Rattle.waff_inputs.specs.declared.fault.ToolError.TheVariants as tool
use Rattle.waff_tool.specs.Explanations.{RefusesWork}
use Rattle.waff_tool.proofs.CheckRefusals.{accepted_plan_is_not_refused, check_refusal_is_one, checked_is_not_refused}
use Rattle.waff_tool.proofs.ComparisonRefusals.{compared_is_not_refused, comparison_refusal_is_one}
use Rattle.waff_tool.proofs.RankLaws.{rank_refusal_is_one, ranked_is_not_refused}
use Rattle.waff_tool.proofs.ReplayRefusals.{replay_refusal_is_one, replayed_is_not_refused}
use Rattle.waff_cli.specs.declared.words.Asked.{Asked}
use Rattle.waff_cli.specs.declared.words.Asked.TheVariants as asked
use Rattle.waff_answer.specs.Answers.{first, second, third}
use Rattle.waff_answer.specs.Unique.{AnsweredIsNotRefused, RefusalIsOne}

-- no error of an explanation tells of the files
no_work : (error : ToolError) → TellsOfFiles error → ¬ RefusesWork error
no_work tool.Memory tells refused = absurd tells
no_work tool.Write tells refused = absurd tells
no_work _ tells refused = absurd refused

pub asked_refusal_is_one : (asked : Asked) (files : List (List ℕ)) → RefusalIsOne asked files
asked_refusal_is_one asked.PlanOfInput files = one_refusal (files_of (before_mark (first files)) (after_mark (first files)))
asked_refusal_is_one asked.Check files = check_refusal_is_one (first files) (second files) (third files)
asked_refusal_is_one asked.Rate files = check_refusal_is_one (first files) (second files) (third files)
asked_refusal_is_one (asked.Draw picture part) files = check_refusal_is_one (first files) (second files) (third files)
asked_refusal_is_one (asked.Replay workers) files = replay_refusal_is_one (first files) (second files)
asked_refusal_is_one (asked.Compare k) files = comparison_refusal_is_one (first files) (second files) (third files)
asked_refusal_is_one (asked.Rank k rule) files = rank_refusal_is_one (drop 1 files) (first files)
asked_refusal_is_one asked.Explain files = λ one other p q. absurd (no_work one p.0 p.1)
asked_refusal_is_one _ files = one_refusal (files_of (first files) (second files))

pub answered_is_not_refused : (asked : Asked) (files : List (List ℕ)) → AnsweredIsNotRefused asked files
answered_is_not_refused asked.PlanOfInput files status text error told =
    accepted_is_not_refused (before_mark (first files)) (after_mark (first files)) told.1.instance error told.1.accepts
answered_is_not_refused asked.Check files status text error told =
    checked_is_not_refused (first files) (second files) (third files) told.0 error told.1
answered_is_not_refused asked.Rate files status text error told =
    checked_is_not_refused (first files) (second files) (third files) told.0 error told.1.checked
answered_is_not_refused (asked.Draw picture part) files status text error told =
    accepted_plan_is_not_refused (first files) (second files) (third files) told.1.instance told.1.given error told.1.accepts
answered_is_not_refused (asked.Replay workers) files status text error told =
    replayed_is_not_refused (first files) (second files) text error told.1
answered_is_not_refused (asked.Compare k) files status text error told =
    compared_is_not_refused (first files) (second files) (third files) k text error told.1
answered_is_not_refused (asked.Rank k rule) files status text error told =
    ranked_is_not_refused rule (drop 1 files) (first files) k text error told.1
answered_is_not_refused asked.Explain files status text error told = no_work error
answered_is_not_refused (asked.Told what) files status text error told =
    accepted_is_not_refused (first files) (second files) told.1.instance error told.1.accepts

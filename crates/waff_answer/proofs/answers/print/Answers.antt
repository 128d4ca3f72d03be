use Rattle.std.proofs.Common.{◌≡◌, None, drop, refl}
use Rattle.std.specs.Prelude.{slice_get}
use Rattle.waff_io.specs.Split.{after_mark, before_mark}
use Rattle.waff_figures.specs.declared.told.Told.TheVariants as told
use Rattle.waff_list.specs.declared.rule.Rule.TheVariants as rule
use Rattle.waff_inputs.specs.Inputs.{IsToldUnder}
use Rattle.waff_tool.specs.CheckText.{IsCheckText, status_after, verdict_text}
use Rattle.waff_tool.specs.Comparison.{IsCompareText}
use Rattle.waff_tool.specs.DrawText.{IsDrawText}
use Rattle.waff_tool.specs.Explanations.{IsExplanation, status_explained}
use Rattle.waff_tool.specs.Ranks.{IsRankText}
use Rattle.waff_tool.specs.Rate.{IsRateText}
use Rattle.waff_tool.specs.ReplayText.{IsReplayText}
use Rattle.waff_tool.specs.Told.{Tells}
use Rattle.waff_cli.specs.declared.words.Asked.TheVariants as asked
use Rattle.waff_answer.specs.Answers.{bytes_of, first, second, third}
use Rattle.waff_answer.proofs.Answering.{answers_as, rest_is}
use Rattle.waff_answer.proofs.answers.print.Goals as goal

pub returns-in-PlanOfInput : goal.returns-in-PlanOfInput
returns-in-PlanOfInput g c =
    let files = bytes_of c.args.question.now.files.items in
    answers_as (λ _. 0) (λ _ text. IsToldUnder (Tells (told.Plan None rule.Arrival)) (before_mark (first files)) (after_mark (first files)) text)
    asked.PlanOfInput files _ _ _ _ _
    c.in-PlanOfInput.is (λ _ text is. (refl, is)) c.printed.ensures.written c.printed.ensures.refused
    (rw (c.split_input.ensures.before, c.split_input.ensures.after, c.file-first.ensures, c.as_slice-files.ensures.value) at c.told_text.ensures)

pub returns-in-Told : goal.returns-in-Told
returns-in-Told g c =
    let files = bytes_of c.args.question.now.files.items in
    let what = c.in-Told.told in
    answers_as (λ _. 0) (λ _ text. IsToldUnder (Tells what) (first files) (second files) text) (asked.Told what) files _ _ _ _ _
    c.in-Told.is (λ _ text is. (refl, is)) c.printed-in-Told.ensures.written c.printed-in-Told.ensures.refused
    (rw (c.file-first.ensures, c.file-second.ensures, c.as_slice-files.ensures.value) at c.told_text-in-Told.ensures)

pub returns-in-Check : goal.returns-in-Check
returns-in-Check g c =
    let files = bytes_of c.args.question.now.files.items in
    answers_as status_after (λ v text. IsCheckText (first files) (second files) (third files) v × (text ≡ verdict_text v)) asked.Check files _ _ _ _ _
    c.in-Check.is (λ v text is. (v, is.0, is.1, refl)) c.judged.ensures.written c.judged.ensures.refused
    (rw (c.file-first.ensures, c.file-second.ensures, c.file-third.ensures, c.as_slice-files.ensures.value) at c.check_text.ensures)

pub returns-in-Replay : goal.returns-in-Replay
returns-in-Replay g c =
    let files = bytes_of c.args.question.now.files.items in
    let workers = c.in-Replay.workers in
    answers_as (λ _. 0) (λ _ text. IsReplayText (first files) (second files) text) (asked.Replay workers) files _ _ _ _ _
    c.in-Replay.is (λ _ text is. (refl, is)) c.printed-in-Replay.ensures.written c.printed-in-Replay.ensures.refused
    (rw (c.file-first.ensures, c.file-second.ensures, c.as_slice-files.ensures.value) at c.replay_text.ensures)

pub returns-in-Compare : goal.returns-in-Compare
returns-in-Compare g c =
    let files = bytes_of c.args.question.now.files.items in
    let k = c.in-Compare.k in
    answers_as (λ _. 0) (λ _ text. IsCompareText (first files) (second files) (third files) k text) (asked.Compare k) files _ _ _ _ _
    c.in-Compare.is (λ _ text is. (refl, is)) c.printed-in-Compare.ensures.written c.printed-in-Compare.ensures.refused
    (rw (c.file-first.ensures, c.file-second.ensures, c.file-third.ensures, c.as_slice-files.ensures.value) at c.compare_text_by_threads.ensures)

pub returns-in-Rate : goal.returns-in-Rate
returns-in-Rate g c =
    let files = bytes_of c.args.question.now.files.items in
    answers_as status_after (λ v text. IsRateText (first files) (second files) (third files) v text) asked.Rate files _ _ _ _ _
    c.in-Rate.is (λ v text is. (v, is, refl)) c.judged-in-Rate.ensures.written c.judged-in-Rate.ensures.refused
    (rw (c.file-first.ensures, c.file-second.ensures, c.file-third.ensures, c.as_slice-files.ensures.value) at c.rate_text.ensures)

pub returns-in-Draw : goal.returns-in-Draw
returns-in-Draw g c =
    let files = bytes_of c.args.question.now.files.items in
    let picture = c.in-Draw.picture in
    let part = c.in-Draw.part in
    answers_as (λ _. 0) (λ _ text. IsDrawText (first files) (second files) (third files) picture part text) (asked.Draw picture part) files _ _ _ _ _
    c.in-Draw.is (λ _ text is. (refl, is)) c.printed-in-Draw.ensures.written c.printed-in-Draw.ensures.refused
    (rw (c.file-first.ensures, c.file-second.ensures, c.file-third.ensures, c.as_slice-files.ensures.value) at c.draw_text.ensures)

pub returns-in-Rank : goal.returns-in-Rank
returns-in-Rank g c =
    let files = bytes_of c.args.question.now.files.items in
    let k = c.in-Rank.k in
    let rule = c.in-Rank.rule in
    answers_as (λ _. 0) (λ _ text. IsRankText rule (drop 1 files) (first files) k text) (asked.Rank k rule) files _ _ _ _ _
    c.in-Rank.is (λ _ text is. (refl, is)) c.printed-in-Rank.ensures.written c.printed-in-Rank.ensures.refused
    (rw (c.file-first.ensures, c.as_slice-files.ensures.value, rest_is c.args.question.now.files.items) at c.rank_text.ensures)

pub returns-in-Explain : goal.returns-in-Explain
returns-in-Explain g c =
    let files = bytes_of c.args.question.now.files.items in
    answers_as status_explained (λ e text. IsExplanation (first files) (slice_get files 1) (slice_get files 2) e text) asked.Explain files _ _ _ _ _
    c.in-Explain.is (λ e text is. (e, is, refl)) c.explained.ensures.written c.explained.ensures.refused
    (rw (c.file-first.ensures, c.file_given-trace.ensures, c.file_given-plan.ensures, c.as_slice-files.ensures.value) at c.explain_text.ensures)

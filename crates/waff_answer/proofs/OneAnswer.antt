-- Of the same files what is asked has one exit status and one text.
use Rattle.std.proofs.Common.{◌∙◌, ℕ, List, None, ap, drop, sym}
use Rattle.std.specs.Prelude.{slice_get}
use Rattle.waff_io.specs.Split.{after_mark, before_mark}
use Rattle.waff_figures.specs.declared.told.Told.TheVariants as told
use Rattle.waff_list.specs.declared.rule.Rule.TheVariants as rule
use Rattle.waff_tool.specs.CheckText.{status_after, verdict_text}
use Rattle.waff_tool.specs.Explanations.{status_explained}
use Rattle.waff_tool.proofs.CheckUniqueness.{check_text_is_one, draw_text_is_one, replay_text_is_one}
use Rattle.waff_tool.proofs.ExplainedLaws.{explained_is_one}
use Rattle.waff_tool.proofs.RankLaws.{rank_text_is_one}
use Rattle.waff_tool.proofs.RateLaws.{rate_text_is_one}
use Rattle.waff_tool.proofs.TextUniqueness.{compare_text_is_one}
use Rattle.waff_tool.proofs.ToldTexts.{told_text_is_one}
use Rattle.waff_cli.specs.declared.words.Asked.{Asked}
use Rattle.waff_cli.specs.declared.words.Asked.TheVariants as asked
use Rattle.waff_answer.specs.Answers.{first, second, third}
use Rattle.waff_answer.specs.Unique.{AnswerIsOne}

pub answer_is_one : (asked : Asked) (files : List (List ℕ)) → AnswerIsOne asked files
answer_is_one asked.PlanOfInput files status more text other p q =
    (p.0 ∙ sym q.0, told_text_is_one (told.Plan None rule.Arrival) (before_mark (first files)) (after_mark (first files)) text other p.1 q.1)
answer_is_one (asked.Told what) files status more text other p q =
    (p.0 ∙ sym q.0, told_text_is_one what (first files) (second files) text other p.1 q.1)
answer_is_one asked.Check files status more text other p q =
    let same = check_text_is_one (first files) (second files) (third files) p.0 q.0 p.1 q.1 in
    (p.3 ∙ ap status_after same ∙ sym q.3, p.2 ∙ ap verdict_text same ∙ sym q.2)
answer_is_one (asked.Replay workers) files status more text other p q =
    (p.0 ∙ sym q.0, replay_text_is_one (first files) (second files) text other p.1 q.1)
answer_is_one (asked.Compare k) files status more text other p q =
    (p.0 ∙ sym q.0, compare_text_is_one (first files) (second files) (third files) k text other p.1 q.1)
answer_is_one asked.Rate files status more text other p q =
    let same = check_text_is_one (first files) (second files) (third files) p.0 q.0 p.1.checked q.1.checked in (
      p.2 ∙ ap status_after same ∙ sym q.2,
      rate_text_is_one (first files) (second files) (third files) p.0 q.0 text other p.1 q.1,
    )
answer_is_one (asked.Draw picture part) files status more text other p q =
    (p.0 ∙ sym q.0, draw_text_is_one (first files) (second files) (third files) picture part text other p.1 q.1)
answer_is_one (asked.Rank k rule) files status more text other p q =
    (p.0 ∙ sym q.0, rank_text_is_one rule (drop 1 files) (first files) k text other p.1 q.1)
answer_is_one asked.Explain files status more text other p q = (
  p.2 ∙ ap status_explained (explained_is_one (first files) (slice_get files 1) (slice_get files 2) p.0 q.0
      p.1.is_explained q.1.is_explained) ∙ sym q.2,
  tt,
)

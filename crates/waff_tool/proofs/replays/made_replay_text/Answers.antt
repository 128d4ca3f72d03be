use Rattle.std.proofs.Common.{◌≡◌, Ok, List, ℕ, rules, subst, sym, ◌∙◌, ap}
use Rattle.waff_model.specs.Layout.{Hierarchy, HasFewCells, unlocked}
use Rattle.waff_inputs.specs.Known.{trace_of}
use Rattle.waff_plan_text.specs.Lines.{text_of}
use Rattle.waff_tool.specs.ReplayText.{state_after, state_lines}
use Rattle.waff_tool.proofs.ResultLemmas.{if_ok_turned}
use Rattle.waff_tool.proofs.UnlockedReplays.{few_locked, lines_unlocked, trace_unlocked}
use Rattle.waff_tool.proofs.replays.made_replay_text.Goals as goal

pub returns-in-Ok : goal.returns-in-Ok
returns-in-Ok g c =
    let accepted = c.in_ok-accepted.accepted in
    let is = c.in_ok-accepted.ensures in
    let layout = is.layout.0 in
    let without : accepted.layout ≡ unlocked layout = is.layout.2 in
    record {
      made = if_ok_turned c.replayed_text-text.result c.map_err.result _ _ _ c.map_err.ensures.cases c.map_err.ensures.variant
          (λ text lines. record {
            layout = layout;
            trace = accepted.trace;
            is_layout = is.layout.1;
            few = few_locked layout (subst (λ (l : Hierarchy). HasFewCells l.spaces) without is.few);
            is_trace = sym (trace_unlocked layout c.args.trace.now) ∙ subst (λ (l : Hierarchy). trace_of l.spaces c.args.trace.now ≡ Ok accepted.trace) without is.trace;
            lines = lines ∙ ap (λ (l : Hierarchy). text_of (state_lines l.spaces (state_after accepted.trace))) without
                ∙ ap text_of (lines_unlocked layout (state_after accepted.trace));
          })
          c.replayed_text-text.ensures;
      refused = search rules;
      unwritten = search rules;
    }

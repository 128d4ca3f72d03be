-- Of the same bytes there is one verdict, one picture and one state.
use Rattle.std.proofs.Common.{◌≡◌, ℕ, List, length, Result, Ok, sym, ◌∙◌, ap, subst}
use Rattle.waff_model.specs.Layout.{Hierarchy}
use Rattle.waff_model.specs.Messages.{Arrivals}
use Rattle.waff_model.specs.Unique.{AtMostOne}
use Rattle.waff_read.specs.Hierarchies.{hierarchy_of}
use Rattle.waff_assign.specs.Instance.{Instance}
use Rattle.waff_plan_text.specs.Given.{Given}
use Rattle.waff_plan_text.specs.Lines.{text_of}
use Rattle.waff_plan_text.specs.PlanTexts.{plan_of}
use Rattle.waff_plan_text.specs.declared.refusal.PlanTextError.{PlanTextError}
use Rattle.waff_check.specs.Verdicts.{IsVerdict, claim_of}
use Rattle.waff_check.proofs.Uniqueness.{verdict_is_one}
use Rattle.waff_draw.specs.Scene.{scene_of}
use Rattle.waff_draw.specs.declared.parts.Part.{Part}
use Rattle.waff_inputs.proofs.SameInput.{same_input, same_ok, same_trace}
use Rattle.waff_tool.specs.CheckText.{AcceptsPlan, IsCheckText}
use Rattle.waff_tool.specs.DrawText.{IsDrawText, picture_of}
use Rattle.waff_tool.specs.ReplayText.{IsReplayText, state_after, state_lines}
use Rattle.waff_draw.specs.declared.picture.Picture.{Picture}

-- what holds of the plan of a text holds of one plan
pub same_given : (P : Instance → Given → Type 0) (hierarchy_file trace_file plan_file : List ℕ) (instance other : Instance) (given more : Given)
    → AcceptsPlan hierarchy_file trace_file plan_file instance given → AcceptsPlan hierarchy_file trace_file plan_file other more → P other more → P instance given
same_given P hierarchy_file trace_file plan_file instance other given more p q holds =
    let same = same_input hierarchy_file trace_file instance other p.accepts q.accepts in
    let read : Instance → Result Given PlanTextError = λ i. plan_of i.trace.version (length i.trace.messages) plan_file in
    let plans = same_ok (read instance) given more p.is_plan (subst (λ i. read i ≡ Ok more) (sym same) q.is_plan) in
    subst (λ g. P instance g) (sym plans) (subst (λ i. P i more) (sym same) holds)

-- the verdict
pub check_text_is_one : (hierarchy_file trace_file plan_file : List ℕ) → AtMostOne (IsCheckText hierarchy_file trace_file plan_file)
check_text_is_one hierarchy_file trace_file plan_file one other p q =
    verdict_is_one (claim_of p.instance p.given) one other p.verdict
    (same_given (λ i g. IsVerdict (claim_of i g) other) hierarchy_file trace_file plan_file p.instance q.instance p.given q.given p.accepts q.accepts q.verdict)

-- the picture
pub draw_text_is_one : (hierarchy_file trace_file plan_file : List ℕ) (picture : Picture) (part : Part)
    → AtMostOne (IsDrawText hierarchy_file trace_file plan_file picture part)
draw_text_is_one hierarchy_file trace_file plan_file picture part text other p q =
    p.drawn
    ∙ sym (same_given (λ i g. other ≡ picture_of picture (scene_of i g part)) hierarchy_file trace_file plan_file
    p.instance q.instance p.given q.given p.accepts q.accepts q.drawn)

-- the state
pub replay_text_is_one : (hierarchy_file trace_file : List ℕ) → AtMostOne (IsReplayText hierarchy_file trace_file)
replay_text_is_one hierarchy_file trace_file text other p q =
    let layouts = same_ok (hierarchy_of hierarchy_file) p.layout q.layout p.is_layout q.is_layout in
    let traces = same_trace p.layout q.layout trace_file p.trace q.trace layouts p.is_trace q.is_trace in
    p.lines
    ∙ ap (λ (l : Hierarchy). text_of (state_lines l.spaces (state_after p.trace))) layouts
    ∙ ap (λ (t : Arrivals). text_of (state_lines q.layout.spaces (state_after t))) traces
    ∙ sym q.lines

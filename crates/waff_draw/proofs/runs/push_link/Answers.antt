use Rattle.std.proofs.Common.{ℕ, ◌∷◌, ◌++◌, List, append_assoc, string_bytes, sym, ◌∙◌, ap}
use Rattle.waff_draw.specs.Runs.{outlines, run_text}
use Rattle.waff_draw.proofs.RunLemmas.{outlines_apart, outlines_joined}
use Rattle.waff_draw.proofs.runs.push_link.Goals as goal

pub returns-then-touches : goal.returns-then-touches
returns-then-touches c = λ bars.
    ap (λ (t : List ℕ). string_bytes c.args.text.now ++ t) (outlines_joined c.args.run c.args.bar bars (sym c.touches.ensures ∙ c.if-touches.true))

pub returns : goal.returns
returns c = λ bars.
    let before = string_bytes c.args.text.now in
    ap (λ (t : List ℕ). t ++ outlines (c.args.bar ∷ bars)) c.in_ok-push_run.ensures
    ∙ append_assoc before (run_text c.args.run) (outlines (c.args.bar ∷ bars))
    ∙ ap (λ (t : List ℕ). before ++ t) (outlines_apart c.args.run c.args.bar bars (sym c.touches.ensures ∙ c.if-touches.false))

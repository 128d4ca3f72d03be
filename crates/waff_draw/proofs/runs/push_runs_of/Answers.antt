use Rattle.std.proofs.Common.{◌≡◌, ℕ, ◌+◌, ◌∷◌, ◌++◌, List, arith, drop, get_or, string_bytes, sym, ◌∙◌, ap, ap₂}
use Rattle.std.proofs.lemmas.List.{append-nil, at_drop_all, at_drop_more}
use Rattle.std.proofs.lemmas.Result.{on_ok_weaker}
use Rattle.waff_draw.specs.Kinds.{shown_row}
use Rattle.waff_draw.specs.Runs.{bars_in_order, outlines, run_text, run_where}
use Rattle.waff_draw.specs.declared.runs.Run.{Run}
use Rattle.waff_draw.proofs.RunLemmas.{outlines_begin}
use Rattle.waff_draw.proofs.runs.push_runs_of.Goals as goal
use Rattle.waff_draw.proofs.runs.push_runs_of.Goals.{in-Some+in_ok-run, in_default}

pub loop-n-init : goal.loop-n-init
loop-n-init c =
    ap (λ (t : List ℕ). string_bytes c.args.text.now ++ t) (outlines_begin (bars_in_order c.args.chart.now c.args.kind c.args.chain.now))

pub loop-n-preserved : goal.loop-n-preserved
loop-n-preserved c =
    let scene = c.args.chart.now in
    let kind = c.args.kind in
    let chain = c.args.chain.now in
    let i = c.loop-n.n-index in
    let n = get_or chain i 0 in
    let place = shown_row scene kind n in
    let before = string_bytes c.loop-n.text in
    let run = c.loop-n.run in
    let rest = bars_in_order scene kind (drop (i + 1) chain) in
    let next : bars_in_order scene kind (drop i chain) ≡ run_where scene n place ++ rest
    = at_drop_more (bars_in_order scene kind) chain i 0 c.loop-n-test.true in
    let now : string_bytes c.match-shown_row.text ++ outlines (c.match-shown_row.run ∷ rest) ≡ before ++ outlines (run ∷ (run_where scene n place ++ rest))
    = elim c.match-shown_row.branch [
      | in-Some+in_ok-run w ↦
          ap₂ (λ (t : List ℕ) (r : Run). t ++ outlines (r ∷ rest)) (ap (λ t. string_bytes t) w.text-is) w.run-is
          ∙ w.in_ok-run.ensures rest
          ∙ ap (λ (bar : Run). before ++ outlines (run ∷ bar ∷ rest)) w.as_run.ensures
          ∙ ap (λ r. before ++ outlines (run ∷ (run_where scene n r ++ rest))) (sym w.in-Some.is ∙ c.shown_row.ensures)
      | in_default w ↦
          ap₂ (λ (t : List ℕ) (r : Run). t ++ outlines (r ∷ rest)) (ap (λ t. string_bytes t) w.text-is) w.run-is
          ∙ ap (λ r. before ++ outlines (run ∷ (run_where scene n r ++ rest))) (sym w.in_default.is ∙ c.shown_row.ensures)
    ] in
    now ∙ sym (ap (λ bars. before ++ outlines (run ∷ bars)) next) ∙ c.loop-n.invariant

pub returns : goal.returns
returns c = on_ok_weaker c.push_run.result
    (λ done.
    let scene = c.args.chart.now in
    let kind = c.args.kind in
    let chain = c.args.chain.now in
    let run = c.loop-n.run in
    let before = string_bytes c.loop-n.text in
    let last : outlines (run ∷ bars_in_order scene kind (drop c.loop-n.n-index chain)) ≡ run_text run
    = at_drop_all (λ (ns : List ℕ). outlines (run ∷ bars_in_order scene kind ns)) chain c.loop-n.n-index (omega (arith, c.loop-n-test.false))
    ∙ append-nil (run_text run) in
    done ∙ ap (λ (t : List ℕ). before ++ t) (sym last) ∙ c.loop-n.invariant)
    c.push_run.ensures

use Rattle.std.proofs.Common.{◌≡◌, ℕ, ◌-◌, ◌++◌, flat_map, string_bytes, sym, ◌∙◌, ap, arith}
use Rattle.std.specs.List.{range_with_len}
use Rattle.std.proofs.lemmas.List.{append-nil}
use Rattle.waff_draw.specs.Bars.{bar_where}
use Rattle.waff_draw.specs.Kinds.{shown_row}
use Rattle.waff_draw.specs.Scene.{work_of_scene}
use Rattle.waff_draw.proofs.TextLemmas.{more_numbers}
use Rattle.waff_draw.proofs.bars.push_bars.Goals as goal
use Rattle.waff_draw.proofs.bars.push_bars.Goals.{in-Some+in_ok-push_bar, in_default}

pub loop-n-preserved : goal.loop-n-preserved
loop-n-preserved c =
    let scene = c.args.chart.now in
    let n = c.loop-n.n in
    let place = shown_row scene c.args.kind n in
    let before = string_bytes c.loop-n.text in
    let now : string_bytes c.match-shown_row.text ≡ before ++ bar_where scene n place
    = elim c.match-shown_row.branch [
      | in-Some+in_ok-push_bar w ↦
          ap (λ t. string_bytes t) w.text-is ∙ w.in_ok-push_bar.ensures
          ∙ ap (λ r. before ++ bar_where scene n r) (sym w.in-Some.is ∙ c.shown_row.ensures)
      | in_default w ↦
          ap (λ t. string_bytes t) w.text-is ∙ sym (append-nil before)
          ∙ ap (λ r. before ++ bar_where scene n r) (sym w.in_default.is ∙ c.shown_row.ensures)
    ] in
    more_numbers (λ (m : ℕ). bar_where scene m (shown_row scene c.args.kind m)) n (string_bytes c.args.text.now) before (string_bytes c.match-shown_row.text)
    c.loop-n.auto.n c.loop-n.invariant now

pub returns : goal.returns
returns c =
    let scene = c.args.chart.now in
    let before = string_bytes c.args.text.now in
    let all : c.loop-n.n - 1 ≡ (work_of_scene scene).count
    = omega (arith, c.loop-n-test.false, c.loop-n.auto.n-end, c.len-n-end.ensures.count) in
    c.loop-n.invariant ∙ ap (λ k. before ++ flat_map (λ (m : ℕ). bar_where scene m (shown_row scene c.args.kind m)) (range_with_len 1 k)) all

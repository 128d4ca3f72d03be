use Rattle.std.proofs.Common.{◌≡◌, ℕ, ◌++◌, flat_map, string_bytes, arith, subst}
use Rattle.std.specs.List.{range_with_len}
use Rattle.waff_draw.specs.Scene.{end_in}
use Rattle.waff_draw.specs.Svg.{line_in, tick_text, upto}
use Rattle.waff_draw.proofs.TextLemmas.{more_from}
use Rattle.waff_draw.proofs.svg.push_ticks.Goals as goal

pub loop-i-preserved : goal.loop-i-preserved
loop-i-preserved c =
    let i = c.loop-i.i in
    let scene = c.args.chart.now in
    let at = rw c.line.ensures.line at c.in_ok-push_tick.ensures in
    more_from (λ (k : ℕ). upto (end_in scene) (tick_text scene) (line_in scene k)) 0 i i (string_bytes c.args.text.now)
    (string_bytes c.loop-i.text) (string_bytes c.push_tick.new.text) (omega arith) c.loop-i.invariant at

pub returns : goal.returns
returns c =
    let end : c.loop-i.i ≡ 11 = omega (arith, c.loop-i-test.false, c.loop-i.auto.i-end) in
    let scene = c.args.chart.now in
    subst (λ n. string_bytes c.loop-i.text ≡ string_bytes c.args.text.now
    ++ flat_map (λ (k : ℕ). upto (end_in scene) (tick_text scene) (line_in scene k)) (range_with_len 0 n)) end c.loop-i.invariant

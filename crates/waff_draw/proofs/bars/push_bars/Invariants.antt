use Rattle.std.proofs.Common.{◌-◌, flat_map}
use Rattle.std.specs.List.{range_with_len}
use Rattle.waff_plan_text.specs.Lines.{Adds}
use Rattle.waff_draw.specs.Bars.{bar_where}
use Rattle.waff_draw.specs.Kinds.{shown_row}
use Rattle.waff_draw.proofs.bars.push_bars.Given as goal

abbrev pub invariant-loop-n : goal.invariant-loop-n
invariant-loop-n l = Adds l.initial.text l.text (flat_map (λ n. bar_where l.chart n (shown_row l.chart l.kind n)) (range_with_len 1 (l.n - 1)))

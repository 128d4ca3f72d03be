use Rattle.std.proofs.Common.{rules, ◌≡◌, ℕ}
use Rattle.std.specs.declared.cmp.Reverse.{Reverse}
use Rattle.std.proofs.lemmas.Fn.{always_returns_same}
use Rattle.waff_figures.proofs.WaitOrder.{sorted_rows}
use Rattle.waff_figures.specs.declared.wait_rows.Row.{Row}
use Rattle.waff_figures.specs.WaitRows.{same_in}
use Rattle.waff_figures.proofs.wait_rows.rows.Goals as goal

-- what the rows are sorted by
abbrev by_ticks : Row → Reverse ℕ
by_ticks row = record { 0 = row.ticks }

pub returns : goal.returns
returns c =
    sorted_rows (same_in c.args.groups.now c.args.cells.now) c.args.waits.now c.in_ok-rows.rows.items c.sort_by_key.new.self.items c.in_ok-rows.ensures
    c.requires.order c.in_ok-sort_by_key.ensures.permutation
    (c.in_ok-sort_by_key.ensures.sorted by_ticks (always_returns_same _ (λ a r. r ≡ by_ticks a.0.now) _ (λ a r q k. search rules)))
    (c.in_ok-sort_by_key.ensures.stable by_ticks (always_returns_same _ (λ a r. r ≡ by_ticks a.0.now) _ (λ a r q k. search rules)))

use Rattle.std.proofs.Common.{rules, ◌≡◌, ℕ}
use Rattle.std.specs.declared.cmp.Reverse.{Reverse}
use Rattle.std.proofs.lemmas.Fn.{always_returns_same}
use Rattle.waff_limits.proofs.WhyOrder.{sorted_rows}
use Rattle.waff_limits.specs.WhyRows.{same_group}
use Rattle.waff_limits.specs.declared.why_rows.Row.{Row}
use Rattle.waff_limits.proofs.why_rows.rows.Goals as goal

-- what the rows are sorted by
abbrev by_cost : Row → Reverse ℕ
by_cost row = record { 0 = row.cost }

pub returns : goal.returns
returns c =
    sorted_rows (same_group c.args.groups.now c.args.layout.now.spaces) c.args.lifts.now c.in_ok-rows.rows.items c.sort_by_key.new.self.items c.in_ok-rows.ensures
    c.requires.order c.in_ok-sort_by_key.ensures.permutation
    (c.in_ok-sort_by_key.ensures.sorted by_cost (always_returns_same _ (λ a r. r ≡ by_cost a.0.now) _ (λ a r q k. search rules)))
    (c.in_ok-sort_by_key.ensures.stable by_cost (always_returns_same _ (λ a r. r ≡ by_cost a.0.now) _ (λ a r q k. search rules)))

use Rattle.std.proofs.Common.{rules, map, string_bytes}
use Rattle.waff_limits.specs.Limits.{bound_lines, limits_header, planned_row, work_row}
use Rattle.waff_limits.proofs.LimitLemmas.{four_parts}
use Rattle.waff_limits.proofs.text.limits_text.Goals as goal

pub returns : goal.returns
returns c =
    four_parts limits_header (map (work_row c.args.limits.now.total) c.args.workers.now)
    (bound_lines c.args.layout.now.spaces c.args.unlimited.now.case.tree.now c.args.unlimited.now.case.trace.now c.args.limits.now)
    (map planned_row c.args.listed.now)
    (string_bytes c.push_header.new.text) (string_bytes c.push_shares.new.text) (string_bytes c.push_bounds.new.text) (string_bytes c.push_plans.new.text)
    (search rules) c.in_ok-push_shares.ensures c.in_ok-push_bounds.ensures c.in_ok-push_plans.ensures

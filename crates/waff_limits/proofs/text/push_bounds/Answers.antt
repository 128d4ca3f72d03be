use Rattle.std.proofs.Common.{None, codes, arith}
use Rattle.waff_limits.specs.Limits.{affinity_field, after_lines, cell_field, client_field, limit_row, lock_lines, ticks_of}
use Rattle.waff_limits.specs.Locks.{ticks_locked, ticks_needed}
use Rattle.waff_limits.specs.Writes.{ticks_shared}
use Rattle.waff_limits.proofs.LimitLemmas.{bound_parts, locked_used, most_is_cell}
use Rattle.waff_limits.proofs.SharedCells.{needed_within}
use Rattle.waff_limits.proofs.Sharing.{shared_within}
use Rattle.waff_limits.proofs.text.push_bounds.Goals as goal

pub push_data-requires : goal.push_data-requires
push_data-requires c =
    let trace = c.args.unlimited.now.case.trace.now in
    record {
      known = most_is_cell c.args.layout.now.spaces trace c.len-messages.ensures.trace c.requires.fits (ticks_shared trace.messages)
          (λ cell some. omega (arith, some, shared_within trace.messages cell)) c.args.limits.now.writes c.requires.limits.writes;
    }

pub push_data-requires-2 : goal.push_data-requires-2
push_data-requires-2 c =
    let trace = c.args.unlimited.now.case.trace.now in
    let spaces = c.args.layout.now.spaces in
    record {
      known = most_is_cell spaces trace c.len-messages.ensures.trace c.requires.fits (ticks_needed spaces trace.messages)
          (λ cell some. omega (arith, some, needed_within spaces trace.messages cell)) c.args.limits.now.cell c.requires.limits.cell;
    }

pub push_locks-requires : goal.push_locks-requires
push_locks-requires c =
    let case = c.args.unlimited.now.case in
    let trace = case.trace.now in
    let spaces = c.args.layout.now.spaces in
    record {
      known = most_is_cell spaces trace c.len-messages.ensures.trace c.requires.fits (ticks_locked spaces trace.messages case.assigned.now)
          (λ cell some. locked_used spaces trace case.assigned.now c.len-messages.ensures.trace cell some) c.args.limits.now.locks c.requires.limits.locks;
    }

pub returns : goal.returns
returns c =
    let limits = c.args.limits.now in
    let case = c.args.unlimited.now.case in
    let spaces = c.args.layout.now.spaces in
    bound_parts
    (limit_row (codes "clients") None limits.total limits.client.ticks (client_field case.trace.now.messages limits.client))
    (after_lines case.trace.now.version limits.total limits.after)
    (limit_row (codes "writes") None limits.total (ticks_of limits.writes) (cell_field spaces limits.writes))
    (limit_row (codes "data") None limits.total (ticks_of limits.cell) (cell_field spaces limits.cell))
    (limit_row (codes "tree") None limits.total limits.path.ticks (affinity_field case.tree.now limits.path))
    (lock_lines spaces limits.total limits.locks)
    (limit_row (codes "order") None limits.total limits.order (codes "-"))
    _ _ _ _ _ _ _ _ (rw c.client_name-name.ensures at c.in_ok-push_row.ensures) (rw c.version.ensures at c.in_ok-push_after.ensures) c.in_ok-push_data.ensures
    c.in_ok-push_data-2.ensures
    (rw c.affinity_name-name.ensures at c.in_ok-push_row-2.ensures) c.in_ok-push_locks.ensures c.in_ok-push_row-3.ensures

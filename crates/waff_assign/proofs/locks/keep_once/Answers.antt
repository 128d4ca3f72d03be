use Rattle.std.proofs.Common.{◌≡◌, ◌≤◌, length, arith}
use Rattle.std.specs.List.{dedup}
use Rattle.std.proofs.lemmas.List.Filters.{dedup_is}
use Rattle.waff_assign.specs.Footprint.{cell_eq}
use Rattle.waff_assign.proofs.Once.{kept_once}
use Rattle.waff_assign.proofs.locks.keep_once.Goals as goal

pub returns : goal.returns
returns c =
    let sorted = c.sort.new.self.items in
    let kept = c.dedup.new.self.items in
    let is : kept ≡ dedup cell_eq sorted = dedup_is cell_eq sorted kept c.dedup.ensures.filtered in
    let same : length sorted ≡ length c.args.cells.now.items = omega (arith, c.sort.ensures.len) in
    let bound : length kept ≤ length sorted = omega (arith, c.dedup.ensures.bound) in
    kept_once c.args.cells.now.items sorted kept c.sort.ensures.permutation same c.in_ok-sort.ensures.sorted is bound

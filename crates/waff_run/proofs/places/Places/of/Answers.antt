use Rattle.std.proofs.Common.{◌<◌, length, arith, ◌∙◌}
use Rattle.waff_run.proofs.Rows.{all_placed, count_more, mapped, rows_more}
use Rattle.waff_run.proofs.places.Places.of.Goals as goal

pub loop-s-preserved : goal.loop-s-preserved
loop-s-preserved c =
    let spaces = c.args.layout.now.spaces in
    let s = c.loop-s.s in
    let within : s < length spaces = omega (arith, c.space_count-s-end.ensures.count) in
    let unit = c.space_unit.ensures.unit in
    let count = c.space_owners-count.ensures.owners in
    let wide_unit = c.from.ensures in
    let wide_count = c.from-in-loop-s.ensures in
    let old = c.loop-s.invariant in
    record {
      made = c.in_ok-push.ensures.items ∙ rows_more spaces s c.from.result c.from-in-loop-s.result c.loop-s.files c.loop-s.spaces.items within (wide_unit ∙ unit) (wide_count ∙ count) old.count old.made;
      count = count_more spaces s c.space_owners-count.result c.loop-s.files within count old.count;
      few = omega (arith, count, old.few, (mapped c.args.layout.now.tree spaces s c.space_count-s-end.ensures.layout.each within).few);
    }

pub returns : goal.returns
returns c =
    let spaces = c.args.layout.now.spaces in
    all_placed spaces c.loop-s.s c.loop-s.files c.args.bytes c.loop-s.spaces.items (omega (arith, c.space_count-s-end.ensures.count))
    c.loop-s.invariant.made c.loop-s.invariant.count

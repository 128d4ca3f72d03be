use Rattle.std.proofs.Common.{◌∙◌, arith}
use Rattle.std.proofs.lemmas.List.{length_push}
use Rattle.toml.specs.View.{view}
use Rattle.toml.specs.declared.value.Value.{Value}
use Rattle.waff_read.specs.Spaces.{space_of}
use Rattle.waff_read.proofs.DocumentLemmas.{map_more}
use Rattle.waff_read.proofs.spaces.read_spaces.Goals as goal

pub push_reserved-requires : goal.push_reserved-requires
push_reserved-requires c = omega (arith, c.loop-row.invariant.count, c.loop-row.invariant.room)

pub loop-row-preserved : goal.loop-row-preserved
loop-row-preserved c =
    let long = length_push c.loop-row.spaces.items c.in_ok-read_space.field-0 in
    let more = map_more (λ (row : Value). space_of c.args.format (view row)) c.args.rows.now c.loop-row.row-index c.row-item.result (omega arith) c.row-item.is in
    let pushed = c.push_reserved.ensures.items in record {
      rows = rw (pushed, c.loop-row.invariant.rows, c.in_ok-read_space.ensures) more;
      count = rw pushed (omega (arith, long, c.loop-row.invariant.count));
      room = c.push_reserved.ensures.capacity ∙ c.loop-row.invariant.room;
    }

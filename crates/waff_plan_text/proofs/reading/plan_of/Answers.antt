-- There are no more records than bytes, and a byte takes room.
use Rattle.std.proofs.Common.{◌+◌, ap, arith, rules, Fits, w64, length}
use Rattle.waff_parse.specs.Rows.{records_left}
use Rattle.waff_plan_text.proofs.PlanLaws.{length-drop_one, length-records_of}
use Rattle.waff_plan_text.proofs.reading.plan_of.Goals as goal

pub read_rows-requires-clause-room : goal.read_rows-requires-clause-room
read_rows-requires-clause-room c =
    let all = c.text_rows-rdr.ensures.left in
    let left = c.in_ok-read_header.ensures.left in
    let few = length-records_of c.args.bytes.now in
    let one = length-drop_one (records_left c.text_rows-rdr.result) in
    let l = ap length left in
    let a = ap length all in
    let room : Fits w64 (length c.args.bytes.now + 100) = search rules in
    omega (arith, l, a, few, one, room)

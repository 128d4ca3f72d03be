-- A text is cut at the first place of the byte, which is a character of its own.
use Rattle.std.proofs.Common.{◌≡◌, ◌-◌, arith}
use Rattle.std.proofs.lemmas.Str.{IsCharBoundary-after_ascii, IsCharBoundary-before_ascii}
use Rattle.waff_parse.proofs.TextLaws.{parts-no_place, parts-place}
use Rattle.waff_parse.proofs.text.cut.Goals as goal

pub range-requires-clause-end_boundary : goal.range-requires-clause-end_boundary
range-requires-clause-end_boundary c =
    let place = parts-place c.args.at c.args.text.now c.in-Some.place (rw c.as_bytes.ensures.value at c.in-Some.ensures) in
    IsCharBoundary-before_ascii c.args.text.now c.in-Some.place place.within (rw place.here c.requires)

pub range_from-requires : goal.range_from-requires
range_from-requires c _ =
    let place = parts-place c.args.at c.args.text.now c.in-Some.place (rw c.as_bytes.ensures.value at c.in-Some.ensures) in
    IsCharBoundary-after_ascii c.args.text.now c.in-Some.place c.utf8.text place.within (rw place.here c.requires)

pub returns-in-Some : goal.returns-in-Some
returns-in-Some c =
    let place = parts-place c.args.at c.args.text.now c.in-Some.place (rw c.as_bytes.ensures.value at c.in-Some.ensures) in
    let front : c.in-Some.place - 0 ≡ c.in-Some.place = omega arith in
    rw (c.range.ensures.value, c.range_from.ensures.value, front) place.parted

pub returns-in-None : goal.returns-in-None
returns-in-None c = parts-no_place c.args.at c.args.text.now (rw c.as_bytes.ensures.value at c.in-None.ensures)

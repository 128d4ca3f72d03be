-- The field ends at the first sign, which is a character of its own.
use Rattle.std.proofs.Common.{◌≡◌, ◌-◌, arith}
use Rattle.std.proofs.lemmas.Str.{IsCharBoundary-after_ascii}
use Rattle.waff_read.proofs.PlainLaws.{sign_field}
use Rattle.waff_read.proofs.plain.next_field.Goals as goal

pub range_from-requires : goal.range_from-requires
range_from-requires c _ =
    let here = rw c.as_bytes-bytes.ensures.value at c.if-bytes-place.false in
    IsCharBoundary-after_ascii c.args.text.now c.in_ok-place.place c.utf8.text (rw c.as_bytes-bytes.ensures.value at c.in_ok-place.ensures).0.high (rw here c.requires.end)

pub returns : goal.returns
returns c =
    let front : c.in_ok-place.place - 0 ≡ c.in_ok-place.place = omega arith in
    rw (c.range.ensures.value, c.range_from.ensures.value, front)
    (sign_field c.args.end c.args.text.now c.in_ok-place.place c.requires.plain (rw c.as_bytes-bytes.ensures.value at c.in_ok-place.ensures)
    (rw c.as_bytes-bytes.ensures.value at c.if-bytes-place.false) (rw (c.range.ensures.value, front) at c.range.utf8))

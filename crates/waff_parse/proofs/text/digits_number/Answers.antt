-- A digit more, in the bytes and in the number.
use Rattle.std.proofs.Common.{◌≡◌, refl, sym, ap, ◌∙◌, ◌+◌, take, arith}
use Rattle.std.specs.Char.{is_ascii_digit}
use Rattle.std.specs.Str.Parse.{digits_value}
use Rattle.std.proofs.lemmas.List.{take_all}
use Rattle.std.proofs.lemmas.List.Folds.{list_all_more}
use Rattle.std.proofs.lemmas.Str.Parse.{digits_value-take-le}
use Rattle.waff_parse.specs.Texts.{small}
use Rattle.waff_parse.proofs.TextLaws.{digit_more, large_is_none, small_is_value}
use Rattle.waff_parse.proofs.text.digits_number.Goals as goal

pub loop-byte-preserved : goal.loop-byte-preserved
loop-byte-preserved c =
    let bytes = c.args.bytes.now in
    let i = c.loop-byte.byte-index in
    let digit = sym c.if-not-is_ascii_digit.ensures.value in
    let next = digit_more bytes i c.loop-byte.value c.loop-byte-test.true digit
    (small_is_value _ c.loop-byte.value c.loop-byte.invariant.value) in
    record {
      digits = list_all_more is_ascii_digit bytes i 0 c.loop-byte-test.true ∙ rw (c.loop-byte.invariant.digits, digit) refl;
      value = ap small (sym next) ∙ (sym c.with_digit.ensures ∙ c.in-Some.is);
    }

pub returns-in_default : goal.returns-in_default
returns-in_default c =
    let bytes = c.args.bytes.now in
    let i = c.loop-byte.byte-index in
    let digit = sym c.if-not-is_ascii_digit.ensures.value in
    let next = digit_more bytes i c.loop-byte.value c.loop-byte-test.true digit
    (small_is_value _ c.loop-byte.value c.loop-byte.invariant.value) in
    let large = large_is_none (digits_value 10 (take (i + 1) bytes)) (digits_value 10 bytes)
    (ap small (sym next) ∙ (sym c.with_digit.ensures ∙ c.in_default.is)) (digits_value-take-le 10 bytes (i + 1) (omega arith)) in
    rw large c.too_large.ensures

pub returns : goal.returns
returns c =
    let bytes = c.args.bytes.now in
    let whole : take c.loop-byte.byte-index bytes ≡ bytes = take_all c.loop-byte.byte-index bytes c.loop-byte-test.false in
    let digits = rw whole at c.loop-byte.invariant.digits in
    let value = rw whole at c.loop-byte.invariant.value in
    rw (digits, value) refl

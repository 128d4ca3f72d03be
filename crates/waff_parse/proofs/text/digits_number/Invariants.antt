use Rattle.std.proofs.Common.{◌≡◌, Some, true, take}
use Rattle.std.specs.Char.{is_ascii_digit}
use Rattle.std.specs.List.{list_all}
use Rattle.std.specs.Str.Parse.{digits_value}
use Rattle.waff_parse.specs.Texts.{small}
use Rattle.waff_parse.proofs.text.digits_number.Given as goal

-- the bytes so far are digits, and the value is their number
abbrev pub invariant-loop-byte : goal.invariant-loop-byte
invariant-loop-byte l = record {
  digits : list_all is_ascii_digit (take l.byte-index l.bytes) ≡ true;
  value : small (digits_value 10 (take l.byte-index l.bytes)) ≡ Some l.value;
}

use Rattle.std.proofs.Common.{◌≡◌, ◌<◌, ◌^◌, drop}
use Rattle.std.specs.Str.{all_ascii_digits}
use Rattle.std.specs.Str.Parse.{digits_value, digits_value_after}
use Rattle.script_text.proofs.words.number.Given as goal

-- the digits that are left, behind the number that was read, spell the whole number
abbrev pub invariant-loop-byte : goal.invariant-loop-byte
invariant-loop-byte l = record {
  digits : all_ascii_digits (drop l.byte-index l.word) ≡ all_ascii_digits l.word;
  fits : l.number < 2 ^ 128;
  value : digits_value_after 10 l.number (drop l.byte-index l.word) ≡ digits_value 10 l.word;
}

use Rattle.std.proofs.Common.{◌≡◌, ◌<◌, ◌^◌, drop, take, true}
use Rattle.std.specs.Char.{is_ascii_digit}
use Rattle.std.specs.List.{list_all}
use Rattle.std.specs.Str.Parse.{digits_value, digits_value_after}
use Rattle.thp_script.proofs.words.value_of.Given as goal

-- the value so far and the bytes that are left make the whole, and all bytes so far are digits
abbrev pub invariant-loop-byte : goal.invariant-loop-byte
invariant-loop-byte l = record {
  whole : digits_value_after 10 l.value (drop l.byte-index l.word) ≡ digits_value 10 l.word;
  fits : l.value < 2 ^ 64;
  digits : list_all is_ascii_digit (take l.byte-index l.word) ≡ true;
}

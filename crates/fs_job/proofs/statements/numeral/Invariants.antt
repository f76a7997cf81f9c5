use Rattle.std.proofs.Common.{◌≡◌, take}
use Rattle.std.specs.Str.Parse.{AllDigits, digits_value}
use Rattle.fs_job.proofs.statements.numeral.Given as goal

-- the digits so far, and what they stand for
abbrev pub invariant-loop-byte : goal.invariant-loop-byte
invariant-loop-byte l = record {
  digits : AllDigits 10 (take l.byte-index l.text);
  number : l.value ≡ digits_value 10 (take l.byte-index l.text);
}

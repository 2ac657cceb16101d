use Rattle.std.proofs.Common.{◌≡◌, ◌^◌, ◌<◌, take}
use Rattle.std.specs.List.{AllByRecursion}
use Rattle.p21_text.specs.Spelling.{IsDigit, decimal_from}
use Rattle.p21_text.proofs.instance_name.name.Given as goal

-- the bytes so far are Digits, and the number is theirs
abbrev pub invariant-loop-i : goal.invariant-loop-i
invariant-loop-i l = record {
  digits : AllByRecursion IsDigit (take l.i l.tail);
  value : l.number ≡ decimal_from 0 (take l.i l.tail);
  fits : l.number < 2 ^ 64;
}

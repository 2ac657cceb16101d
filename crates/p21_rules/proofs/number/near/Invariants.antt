use Rattle.std.proofs.Common.{◌≡◌, ◌<◌, ◌^◌, drop}
use Rattle.p21_text.specs.Spelling.{decimal_from}
use Rattle.p21_rules.proofs.number.near.Given as goal

-- the value of the digits so far, and of those after them
abbrev pub invariant-loop-digit : goal.invariant-loop-digit
invariant-loop-digit l =
    record {
      below : l.value < 10 ^ 17;
      left : decimal_from l.value (drop l.digit-index l.digits) ≡ decimal_from 0 l.digits;
    }

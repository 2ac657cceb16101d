use Rattle.std.proofs.Common.{◌≡◌, ◌<◌, ◌^◌, drop}
use Rattle.p21_express.specs.Words.{decimal_from}
use Rattle.p21_express.proofs.words.decimal.Given as goal

abbrev pub invariant-loop-byte : goal.invariant-loop-byte
invariant-loop-byte l = (l.value < 10 ^ l.byte-index) × (decimal_from l.value (drop l.byte-index l.digits) ≡ decimal_from 0 l.digits)

use Rattle.std.proofs.Common.{◌≡◌, length}
use Rattle.p21_express.specs.Lexer.{string_end}
use Rattle.p21_express.proofs.words.behind_string.Given as goal

abbrev pub invariant-loop-rest : goal.invariant-loop-rest
invariant-loop-rest l = string_end l.rest ≡ string_end l.text

abbrev pub decreases-loop-rest : goal.decreases-loop-rest
decreases-loop-rest l = length l.rest

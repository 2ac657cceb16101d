use Rattle.std.proofs.Common.{◌≡◌, drop}
use Rattle.p21_text.specs.Spelling.{NotBefore}
use Rattle.p21_text.proofs.RunLemmas.{stops_at, stops_end}
use Rattle.p21_text.proofs.WordLemmas.{enumeration_front, enumeration_none, enumeration_open}
use Rattle.p21_text.proofs.word.enumeration.Goals as goal
use Rattle.p21_text.proofs.word.enumeration.Goals.{else-name-tail-via-then-name-tail+else-tail-name-eq46, else-name-tail-via-else-name-tail}

pub returns-in_default : goal.returns-in_default
returns-in_default c = enumeration_none c.args.tail.now c.in_default.ensures

pub returns-then-tail-name-eq46 : goal.returns-then-tail-name-eq46
returns-then-tail-name-eq46 c =
    enumeration_front c.args.tail.now c.in-Some.name c.in-Some.ensures.0 c.in-Some.ensures.1 c.if-name-tail.true c.if-tail-name-eq46.true

pub returns-else-name-tail : goal.returns-else-name-tail
returns-else-name-tail c =
    let tail = c.args.tail.now in
    let no_point : NotBefore (λ b. b ≡ 46) (drop c.in-Some.name tail)
    = elim c.else-name-tail.branch [
      | else-name-tail-via-then-name-tail+else-tail-name-eq46 w ↦ stops_at (λ b. b ≡ 46) tail c.in-Some.name w.if-name-tail.true w.if-tail-name-eq46.false
      | else-name-tail-via-else-name-tail w ↦ stops_end (λ b. b ≡ 46) tail c.in-Some.name w.if-name-tail.false
    ] in
    enumeration_open tail c.in-Some.name c.in-Some.ensures.1 no_point

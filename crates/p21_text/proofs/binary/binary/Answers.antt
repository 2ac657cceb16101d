use Rattle.std.proofs.Common.{◌≡◌, ◌<◌, length, get_or, take, refl, arith}
use Rattle.std.proofs.lemmas.Bool.{false≢true}
use Rattle.p21_text.specs.Spelling.{IsBinary}
use Rattle.p21_text.proofs.RunLemmas.{hex_run_is}
use Rattle.p21_text.proofs.BinaryLemmas.{binary_front, binary_none}
use Rattle.p21_text.proofs.binary.binary.Goals as goal
use Rattle.p21_text.proofs.binary.binary.Goals.{else-digits-tail-via-then-digits-tail+then-tail-digits-eq34+else-is_binary, else-digits-tail-via-then-digits-tail+else-tail-digits-eq34, else-digits-tail-via-else-digits-tail}

pub is_binary-requires : goal.is_binary-requires
is_binary-requires c = (hex_run_is c.args.tail.now c.hex_run-digits.result c.hex_run-digits.ensures.run).each

pub returns-then-is_binary : goal.returns-then-is_binary
returns-then-is_binary c =
    binary_front c.args.tail.now c.hex_run-digits.result (hex_run_is c.args.tail.now c.hex_run-digits.result c.hex_run-digits.ensures.run) c.if-digits-tail.true c.if-tail-digits-eq34.true (c.if-is_binary.ensures.0 refl)

pub returns-else-digits-tail : goal.returns-else-digits-tail
returns-else-digits-tail c =
    let tail = c.args.tail.now in
    let n = c.hex_run-digits.result in
    let none : n < length tail → get_or tail n 0 ≡ 34 → IsBinary (take n tail) → ⊥
    = elim c.else-digits-tail.branch [
      | else-digits-tail-via-then-digits-tail+then-tail-digits-eq34+else-is_binary w ↦ λ _ _ b. false≢true (w.if-is_binary.ensures.1 b)
      | else-digits-tail-via-then-digits-tail+else-tail-digits-eq34 w ↦ λ _ quote _. w.if-tail-digits-eq34.false quote
      | else-digits-tail-via-else-digits-tail w ↦ λ h _ _. (let past = w.if-digits-tail.false in omega arith)
    ] in
    binary_none tail n (hex_run_is tail n c.hex_run-digits.ensures.run) none

use Rattle.std.proofs.Common.{◌≡◌, drop}
use Rattle.std.proofs.lemmas.List.{take_rest}
use Rattle.p21_text.specs.Spelling.{NotBefore}
use Rattle.p21_text.proofs.RunLemmas.{stops_at, stops_end}
use Rattle.p21_text.proofs.NumberLemmas.{number_none, number_int, number_real}
use Rattle.p21_text.proofs.number.number.Goals as goal
use Rattle.p21_text.proofs.number.number.Goals.{else-whole-text-via-then-whole-text+else-text-whole-eq46, else-whole-text-via-else-whole-text}

pub returns-in_default : goal.returns-in_default
returns-in_default c = number_none c.args.text.now c.requires c.in_default.ensures

pub returns-then-text-whole-eq46 : goal.returns-then-text-whole-eq46
returns-then-text-whole-eq46 c =
    number_real c.args.text.now c.in-Some.whole c.fraction_len.result c.requires c.in-Some.ensures c.if-whole-text.true c.if-text-whole-eq46.true (rw take_rest at c.fraction_len.ensures)

pub returns-else-whole-text : goal.returns-else-whole-text
returns-else-whole-text c =
    let text = c.args.text.now in
    let no_point : NotBefore (λ b. b ≡ 46) (drop c.in-Some.whole text)
    = elim c.else-whole-text.branch [
      | else-whole-text-via-then-whole-text+else-text-whole-eq46 w ↦ stops_at (λ b. b ≡ 46) text c.in-Some.whole w.if-whole-text.true w.if-text-whole-eq46.false
      | else-whole-text-via-else-whole-text w ↦ stops_end (λ b. b ≡ 46) text c.in-Some.whole w.if-whole-text.false
    ] in
    number_int text c.in-Some.whole c.requires c.in-Some.ensures no_point

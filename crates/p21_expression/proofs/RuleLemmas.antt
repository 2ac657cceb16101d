-- What the reader of a rule leaves.
use Rattle.std.proofs.Common.{◌≡◌, ℕ, ◌+◌, ◌<◌, ◌≤◌, List, length, Option, Some, None, arith}
use Rattle.p21_express.specs.Word.{Word}
use Rattle.p21_express.specs.Reader.{◌>>=◌, symbol_at}
use Rattle.p21_expression.specs.declared.operators.Precedence.TheVariants as precedence
use Rattle.p21_expression.specs.Reader.{expression_at, named_at}
use Rattle.p21_expression.specs.Rules.{has_label, if_label_at, label_at, rule_at}
use Rattle.p21_expression.proofs.LengthLemmas.{Leaves, Shrinks, leaves_none, leaves_some, then, either, symbol_leaves}
use Rattle.p21_expression.proofs.ReaderLemmas.{named_leaves, reading_shrinks}

label_leaves : (n : ℕ) (ws : List Word) → length ws < n → Leaves (λ x. x.1) n (label_at ws)
unfolding label_at
label_leaves n ws h = then (named_at ws) _ (named_leaves n ws (omega arith)) (λ m hm. then (symbol_at 58 m.1) _ (symbol_leaves 58 n m.1 (omega arith)) (λ r hr. leaves_some _ hr))

if_label_leaves : (n : ℕ) (ws : List Word) → length ws < n → Leaves (λ x. x.1) n (if_label_at ws)
unfolding if_label_at
if_label_leaves n ws h = either (has_label ws) _ _ (label_leaves n ws h) (leaves_some _ h)

rule_leaves : (n : ℕ) (ws : List Word) → length ws ≤ n → Leaves (λ x. x.1) n (rule_at ws)
unfolding rule_at
rule_leaves n ws h = then (if_label_at ws) _ (if_label_leaves (n + 1) ws (omega arith)) (λ l hl. then (expression_at l.1) _ ((reading_shrinks 256 precedence.Relation).leaves n l.1 (omega arith)) (λ c hc. then (symbol_at 59 c.1) _ (symbol_leaves 59 n c.1 (omega arith)) (λ r hr. leaves_some _ hr)))

pub rule_shrinks : Shrinks rule_at
rule_shrinks = record { leaves = rule_leaves }

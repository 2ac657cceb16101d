-- What the readers of expressions leave.
use Rattle.std.proofs.Common.{◌≡◌, ℕ, zero, suc, ◌<◌, ◌≤◌, Bool, true, false, cond, List, [], ◌∷◌, length, Option, Some, None, arith}
use Rattle.p21_express.specs.Word.{Word, begins_symbol}
use Rattle.p21_express.specs.Reader.{◌>>=◌, many_at, name_at, symbol_at}
use Rattle.p21_expression.specs.declared.literals.OperandWord.{OperandWord}
use Rattle.p21_expression.specs.declared.literals.OperandWord.TheVariants as word
use Rattle.p21_expression.specs.declared.operators.Precedence.{Precedence}
use Rattle.p21_expression.specs.declared.operators.Precedence.TheVariants as precedence
use Rattle.p21_expression.specs.declared.reader.FactorWord.{FactorWord}
use Rattle.p21_expression.specs.declared.reader.FactorWord.TheVariants as factor
use Rattle.p21_expression.specs.declared.tree.UnaryOperator.{UnaryOperator}
use Rattle.p21_expression.specs.Literals.{literal_at, operand_word_of}
use Rattle.p21_expression.specs.Operators.{ends_operations, operator_at}
use Rattle.p21_expression.specs.Tree.{Name, Tree}
use Rattle.p21_expression.specs.Reader.{Inner, named_at, fits, operation_at, operations_at, chain_by, next_argument, some_arguments_at, arguments_at, call_at, element_at, next_element, some_elements_at, elements_at, aggregate_at, ends_qualifiers, index_at, attribute_at, entity_at, bracket_at, qualifier_at, qualifiers_at, operand_by, word_operand_at, indeterminate_at, name_operand_at, qualifiable_at, qualified_at, first_of, primary_at, group_at, operand_at, sign_at, interval_operator_at, interval_at, query_at, factor_word_of, factor_by, factor_at, power_at, product_at, sum_at, operand_of, reading}
use Rattle.p21_expression.proofs.LengthLemmas.{Leaves, Shrinks, leaves_none, leaves_some, then, either, name_leaves, symbol_leaves, many_leaves}
use Rattle.p21_expression.proofs.OperatorLemmas.{operator_leaves, literal_leaves}

pub named_leaves : (n : ℕ) (ws : List Word) → length ws ≤ n → Leaves (λ x. x.1) n (named_at ws)
unfolding named_at
named_leaves n ws h = then (name_at ws) _ (name_leaves n ws h) (λ x hx. leaves_some _ hx)

-- ---- operations

pub operation_shrinks : {operand : List Word → Option (Tree × List Word)} → Shrinks operand → Shrinks (operation_at operand)
unfolding operation_at
operation_shrinks s = record { leaves = λ n ws h. then (operator_at ws) _ (operator_leaves n ws h) (λ o ho. then _ _ (s.leaves n o.1 (omega arith)) (λ r hr. leaves_some _ hr)) }

chain_shrinks : {operand : List Word → Option (Tree × List Word)} (p : Precedence) → Shrinks operand → Shrinks (chain_by operand p)
unfolding chain_by
chain_shrinks {operand} p s = record { leaves = λ n ws h. then (operand ws) _ (s.leaves n ws h) (λ x hx. then (operations_at operand p x.1) _ (many_leaves (ends_operations p) (operation_at operand) (operation_shrinks s) n _ x.1 hx) (λ y hy. either (fits p y.0) _ _ (leaves_some _ hy) leaves_none)) }

module _ {inner : Inner} (s : (p : Precedence) → Shrinks (inner p)) where
  -- ---- calls

  pub argument_shrinks : Shrinks (next_argument inner)
  unfolding next_argument
  argument_shrinks = record { leaves = λ n ws h. then (symbol_at 44 ws) _ (symbol_leaves 44 n ws h) (λ b hb. (s precedence.Relation).leaves n b (omega arith)) }

  some_arguments_leaves : (n : ℕ) (ws : List Word) → length ws ≤ n → Leaves (λ x. x.1) n (some_arguments_at inner ws)
  unfolding some_arguments_at
  some_arguments_leaves n ws h = then (inner precedence.Relation ws) _ ((s precedence.Relation).leaves n ws h) (λ x hx. then (many_at (begins_symbol 41) (next_argument inner) x.1) _ (many_leaves (begins_symbol 41) (next_argument inner) argument_shrinks n _ x.1 hx) (λ y hy. leaves_some _ hy))

  call_leaves : (m : Name) (n : ℕ) (ws : List Word) → length ws ≤ n → Leaves (λ x. x.1) n (call_at inner m ws)
  unfolding call_at
  call_leaves m n ws h = then (symbol_at 40 ws) _ (symbol_leaves 40 n ws h) (λ b hb. then (arguments_at inner b) _ (either (begins_symbol 41 b) _ _ (leaves_some _ hb) (some_arguments_leaves n b (omega arith))) (λ x hx. then (symbol_at 41 x.1) _ (symbol_leaves 41 n x.1 (omega arith)) (λ r hr. leaves_some _ hr)))

  -- ---- aggregates

  element_leaves : (n : ℕ) (ws : List Word) → length ws ≤ n → Leaves (λ x. x.1) n (element_at inner ws)
  unfolding element_at
  element_leaves n ws h = then (inner precedence.Relation ws) _ ((s precedence.Relation).leaves n ws h) (λ x hx. either (begins_symbol 58 x.1) _ _ (then (symbol_at 58 x.1) _ (symbol_leaves 58 n x.1 (omega arith)) (λ b hb. then (inner precedence.Sum b) _ ((s precedence.Sum).leaves n b (omega arith)) (λ y hy. leaves_some _ hy))) (leaves_some _ hx))

  pub element_shrinks : Shrinks (next_element inner)
  unfolding next_element
  element_shrinks = record { leaves = λ n ws h. then (symbol_at 44 ws) _ (symbol_leaves 44 n ws h) (λ b hb. element_leaves n b (omega arith)) }

  some_elements_leaves : (n : ℕ) (ws : List Word) → length ws ≤ n → Leaves (λ x. x.1) n (some_elements_at inner ws)
  unfolding some_elements_at
  some_elements_leaves n ws h = then (element_at inner ws) _ (element_leaves n ws h) (λ x hx. then (many_at (begins_symbol 93) (next_element inner) x.1) _ (many_leaves (begins_symbol 93) (next_element inner) element_shrinks n _ x.1 hx) (λ y hy. leaves_some _ hy))

  aggregate_leaves : (n : ℕ) (ws : List Word) → length ws < n → Leaves (λ x. x.1) n (aggregate_at inner ws)
  unfolding aggregate_at
  aggregate_leaves n ws h = then (elements_at inner ws) _ (either (begins_symbol 93 ws) _ _ (leaves_some _ h) (some_elements_leaves n ws (omega arith))) (λ x hx. then (symbol_at 93 x.1) _ (symbol_leaves 93 n x.1 (omega arith)) (λ r hr. leaves_some _ hr))

  -- ---- qualifiers

  index_leaves : (n : ℕ) (ws : List Word) → length ws ≤ n → Leaves (λ x. x.1) n (index_at inner ws)
  unfolding index_at
  index_leaves n ws h = then (inner precedence.Sum ws) _ ((s precedence.Sum).leaves n ws h) (λ x hx. either (begins_symbol 58 x.1) _ _ (then (symbol_at 58 x.1) _ (symbol_leaves 58 n x.1 (omega arith)) (λ b hb. then (inner precedence.Sum b) _ ((s precedence.Sum).leaves n b (omega arith)) (λ y hy. then (symbol_at 93 y.1) _ (symbol_leaves 93 n y.1 (omega arith)) (λ r hr. leaves_some _ hr)))) (then (symbol_at 93 x.1) _ (symbol_leaves 93 n x.1 (omega arith)) (λ r hr. leaves_some _ hr)))

  pub qualifier_shrinks : Shrinks (qualifier_at inner)
  unfolding qualifier_at
  qualifier_shrinks = record { leaves = λ n ws h. either (begins_symbol 46 ws) _ _ (then (symbol_at 46 ws) _ (symbol_leaves 46 n ws h) (λ b hb. then (named_at b) _ (named_leaves n b (omega arith)) (λ x hx. leaves_some _ hx))) (either (begins_symbol 92 ws) _ _ (then (symbol_at 92 ws) _ (symbol_leaves 92 n ws h) (λ b hb. then (named_at b) _ (named_leaves n b (omega arith)) (λ x hx. leaves_some _ hx))) (then (symbol_at 91 ws) _ (symbol_leaves 91 n ws h) (λ b hb. index_leaves n b (omega arith)))) }

  -- ---- operands

  operand_by_leaves : (w : OperandWord) (m : Name) (n : ℕ) (ws : List Word) → length ws < n → Leaves (λ x. x.1) n (operand_by inner w m ws)
  operand_by_leaves (word.Constant c) m n ws h = leaves_some _ h
  operand_by_leaves word.Reserved m n ws h = leaves_none
  operand_by_leaves word.Plain m n ws h = either (begins_symbol 40 ws) _ _ (call_leaves m n ws (omega arith)) (leaves_some _ h)

  qualifiable_leaves : (n : ℕ) (ws : List Word) → length ws ≤ n → Leaves (λ x. x.1) n (qualifiable_at inner ws)
  unfolding qualifiable_at
  qualifiable_leaves n ws h = either (begins_symbol 63 ws) _ _ (then (symbol_at 63 ws) _ (symbol_leaves 63 n ws h) (λ r hr. leaves_some _ hr)) (then (named_at ws) _ (named_leaves n ws h) (λ x hx. operand_by_leaves (operand_word_of x.0.text) x.0 n x.1 hx))

  qualified_leaves : (n : ℕ) (ws : List Word) → length ws ≤ n → Leaves (λ x. x.1) n (qualified_at inner ws)
  unfolding qualified_at
  qualified_leaves n ws h = then (qualifiable_at inner ws) _ (qualifiable_leaves n ws h) (λ x hx. then (qualifiers_at inner x.1) _ (many_leaves ends_qualifiers (qualifier_at inner) qualifier_shrinks n _ x.1 hx) (λ y hy. leaves_some _ hy))

  first_leaves : (n : ℕ) (x y : Option (Tree × List Word)) → Leaves (λ x. x.1) n x → Leaves (λ x. x.1) n y → Leaves (λ x. x.1) n (first_of x y)
  first_leaves n None y l m = m
  first_leaves n (Some x) y l m = l

  operand_leaves : (n : ℕ) (ws : List Word) → length ws ≤ n → Leaves (λ x. x.1) n (operand_at inner ws)
  unfolding group_at
  operand_leaves n ws h = either (begins_symbol 40 ws) _ _ (then (symbol_at 40 ws) _ (symbol_leaves 40 n ws h) (λ b hb. then (inner precedence.Relation b) _ ((s precedence.Relation).leaves n b (omega arith)) (λ x hx. then (symbol_at 41 x.1) _ (symbol_leaves 41 n x.1 (omega arith)) (λ r hr. leaves_some _ hr)))) (first_leaves n (literal_at ws) (qualified_at inner ws) (literal_leaves n ws h) (qualified_leaves n ws h))

  sign_leaves : (o : UnaryOperator) (n : ℕ) (ws : List Word) → length ws ≤ n → Leaves (λ x. x.1) n (sign_at inner o ws)
  unfolding sign_at
  sign_leaves o n ws h = then (operand_at inner ws) _ (operand_leaves n ws h) (λ x hx. leaves_some _ hx)

  comparison_leaves : (n : ℕ) (ws : List Word) → length ws ≤ n → Leaves (λ x. x.1) n (interval_operator_at ws)
  unfolding interval_operator_at
  comparison_leaves n ws h = then (symbol_at 60 ws) _ (symbol_leaves 60 n ws h) (λ b hb. either (begins_symbol 61 b) _ _ (then (symbol_at 61 b) _ (symbol_leaves 61 n b (omega arith)) (λ r hr. leaves_some _ hr)) (leaves_some _ hb))

  interval_leaves : (n : ℕ) (ws : List Word) → length ws ≤ n → Leaves (λ x. x.1) n (interval_at inner ws)
  unfolding interval_at
  interval_leaves n ws h = then (inner precedence.Sum ws) _ ((s precedence.Sum).leaves n ws h) (λ a ha. then (interval_operator_at a.1) _ (comparison_leaves n a.1 (omega arith)) (λ b hb. then (inner precedence.Sum b.1) _ ((s precedence.Sum).leaves n b.1 (omega arith)) (λ c hc. then (interval_operator_at c.1) _ (comparison_leaves n c.1 (omega arith)) (λ d hd. then (inner precedence.Sum d.1) _ ((s precedence.Sum).leaves n d.1 (omega arith)) (λ e he. then (symbol_at 125 e.1) _ (symbol_leaves 125 n e.1 (omega arith)) (λ r hr. leaves_some _ hr))))))

  query_leaves : (n : ℕ) (ws : List Word) → length ws ≤ n → Leaves (λ x. x.1) n (query_at inner ws)
  unfolding query_at
  query_leaves n ws h = then (symbol_at 40 ws) _ (symbol_leaves 40 n ws h) (λ a ha. then (named_at a) _ (named_leaves n a (omega arith)) (λ b hb. then (symbol_at 60 b.1) _ (symbol_leaves 60 n b.1 (omega arith)) (λ c hc. then (symbol_at 42 c) _ (symbol_leaves 42 n c (omega arith)) (λ d hd. then (inner precedence.Sum d) _ ((s precedence.Sum).leaves n d (omega arith)) (λ e he. then (symbol_at 124 e.1) _ (symbol_leaves 124 n e.1 (omega arith)) (λ f hf. then (inner precedence.Relation f) _ ((s precedence.Relation).leaves n f (omega arith)) (λ g hg. then (symbol_at 41 g.1) _ (symbol_leaves 41 n g.1 (omega arith)) (λ r hr. leaves_some _ hr))))))))

  factor_by_leaves : (f : FactorWord) (w : Word) (n : ℕ) (ws : List Word) → length ws < n → Leaves (λ x. x.1) n (factor_by inner f w ws)
  factor_by_leaves (factor.Unary o) w n ws h = sign_leaves o n ws (omega arith)
  factor_by_leaves factor.Aggregate w n ws h = aggregate_leaves n ws h
  factor_by_leaves factor.Interval w n ws h = interval_leaves n ws (omega arith)
  factor_by_leaves factor.Query w n ws h = query_leaves n ws (omega arith)
  factor_by_leaves factor.Operand w n ws h = operand_leaves n (w ∷ ws) (omega arith)

  factor_leaves : (n : ℕ) (ws : List Word) → length ws ≤ n → Leaves (λ x. x.1) n (factor_at inner ws)
  unfolding factor_at
  factor_leaves n [] h = leaves_none
  factor_leaves n (w ∷ ws) h = factor_by_leaves (factor_word_of w) w n ws (omega arith)

  factor_shrinks : Shrinks (factor_at inner)
  factor_shrinks = record { leaves = factor_leaves }

  -- ---- expressions

  pub operand_shrinks : (p : Precedence) → Shrinks (operand_of inner p)
  operand_shrinks precedence.Power = factor_shrinks
  operand_shrinks precedence.Product = chain_shrinks precedence.Power factor_shrinks
  operand_shrinks precedence.Sum = chain_shrinks precedence.Product (chain_shrinks precedence.Power factor_shrinks)
  operand_shrinks precedence.Relation = chain_shrinks precedence.Sum (chain_shrinks precedence.Product (chain_shrinks precedence.Power factor_shrinks))

pub reading_shrinks : (left : ℕ) (p : Precedence) → Shrinks (reading left p)
reading_shrinks zero p = record { leaves = λ n ws h. leaves_none }
reading_shrinks (suc left) p = chain_shrinks p (operand_shrinks (reading_shrinks left) p)

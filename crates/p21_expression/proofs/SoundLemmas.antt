-- What is read is such a thing by the grammar.
use Rattle.std.proofs.Common.{◌≡◌, ℕ, zero, suc, Bool, true, false, cond, List, [], ◌∷◌, length, Option, Some, None, refl, sym, ap, subst}
use Rattle.std.specs.Prelude.{codes, ◌==◌, not, IfOk, Result, Ok, Err}
use Rattle.std.specs.Str.{bytes_eq}
use Rattle.std.proofs.lemmas.Slice.Eq.{bytes_eq-Decides}
use Rattle.std.proofs.lemmas.Bool.Decides.{Decides-eqb}
use Rattle.p21_express.specs.Word.{Word, name, integer, string, symbol, is_name, is_symbol, begins_symbol}
use Rattle.p21_express.specs.declared.refusal.Refusal.{Refusal}
use Rattle.p21_express.specs.Reader.{◌>>=◌, Gives, name_at, symbol_at, many_by, many, many_at}
use Rattle.p21_expression.specs.declared.literals.OperandWord.{OperandWord}
use Rattle.p21_expression.specs.declared.literals.OperandWord.TheVariants as word
use Rattle.p21_expression.specs.declared.operators.Precedence.{Precedence}
use Rattle.p21_expression.specs.declared.operators.Precedence.TheVariants as precedence
use Rattle.p21_expression.specs.declared.reader.FactorWord.{FactorWord}
use Rattle.p21_expression.specs.declared.reader.FactorWord.TheVariants as factor
use Rattle.p21_expression.specs.declared.tree.BinaryOperator.{BinaryOperator}
use Rattle.p21_expression.specs.declared.tree.BinaryOperator.TheVariants as operator
use Rattle.p21_expression.specs.declared.tree.Constant.TheVariants as constants
use Rattle.p21_expression.specs.declared.tree.IntervalOperator.TheVariants as comparison
use Rattle.p21_expression.specs.declared.tree.IntervalOperator.{IntervalOperator}
use Rattle.p21_expression.specs.declared.tree.Truth.{Truth}
use Rattle.p21_expression.specs.declared.tree.UnaryOperator.{UnaryOperator}
use Rattle.p21_expression.specs.declared.tree.UnaryOperator.TheVariants as sign
use Rattle.p21_expression.specs.Grammar as grammar
use Rattle.p21_expression.specs.Grammar.{here, Several, Next, Listed, OperatorIs, ExponentIs, FractionIs, LiteralIs, ElementIs, QualifierIs, QualifiableIs, PrimaryIs, OperandIs, ComparisonIs, FactorIs, OperationIs, ChainIs, OperandOf, IsReading, IsExpression, IsSimple, AreQualifiers}
use Rattle.p21_expression.specs.Literals.{integer_at, if_integer_at, if_symbol, signed_integer_at, is_exponent, behind_exponent_at, real_at, number_at, binary_at, truth_of, truth_at, literal_at, operand_word_of}
use Rattle.p21_expression.specs.Operators.{rank_of, precedence_of, longer_at, less_at, same_instance_at, other_instance_at, instance_operator_at, combine_at, symbol_operator_at, word_operator_of, with_words, operator_at, is_other, ends_operations}
use Rattle.p21_expression.specs.Reader.{Inner, named_at, fits, operation_at, operations_at, chain_by, next_argument, some_arguments_at, arguments_at, call_at, element_at, next_element, some_elements_at, elements_at, aggregate_at, ends_qualifiers, index_at, attribute_at, entity_at, bracket_at, qualifier_at, qualifiers_at, operand_by, word_operand_at, indeterminate_at, name_operand_at, qualifiable_at, qualified_at, first_of, primary_at, group_at, operand_at, sign_at, interval_operator_at, interval_at, query_at, factor_word_of, factor_by, factor_at, power_at, product_at, sum_at, operand_of, reading, expression_at, simple_at, all_qualifiers_at}
use Rattle.p21_expression.specs.Tree as tree
use Rattle.p21_expression.specs.Tree.{Name, Tree, Qualifier, Step, Element, trees, qualifiers, steps, elements, operations, qualified}

pub bind_some : {A B : Type 0} (r : Option A) (f : A → Option B) (y : B) → (r >>= f) ≡ Some y → (x : A) × (r ≡ Some x) × (f x ≡ Some y)
bind_some None f y e = absurd cc
bind_some (Some x) f y e = (x, refl, e)

pub some_is : {A : Type 0} (x y : A) → Some x ≡ Some y → x ≡ y
some_is x y e = cc

pub guard_some : {A : Type 0} (b : Bool) (x y : A) → cond b (Some x) None ≡ Some y → (b ≡ true) × (x ≡ y)
guard_some true x y e = (refl, cc)
guard_some false x y e = absurd cc

-- what holds of a thing and the words after it, along an equation
pub along : {X : Type 0} (P : X → List Word → Type 0) (y x : X × List Word) → Some y ≡ Some x → P y.0 y.1 → P x.0 x.1
along {X} P y x e h = subst (λ (z : X × List Word). P z.0 z.1) (some_is y x e) h

pub symbol_true : (c : ℕ) (w : Word) → is_symbol c w ≡ true → w ≡ symbol c
symbol_true c (name n) e = absurd cc
symbol_true c (integer v) e = absurd cc
symbol_true c string e = absurd cc
symbol_true c (symbol b) e = ap symbol ((Decides-eqb b c).0 e)

pub name_true : (n : List ℕ) (w : Word) → is_name n w ≡ true → w ≡ name n
name_true n (name m) e = ap name ((bytes_eq-Decides m n).0 e)
name_true n (integer v) e = absurd cc
name_true n string e = absurd cc
name_true n (symbol b) e = absurd cc

pub symbol_sound : (c : ℕ) (ws rest : List Word) → symbol_at c ws ≡ Some rest → ws ≡ symbol c ∷ rest
symbol_sound c [] rest h = absurd cc
symbol_sound c (w ∷ ws) rest h =
    let g = guard_some (is_symbol c w) ws rest h in
    rw (symbol_true c w g.0, g.1) refl

pub named_sound : (ws : List Word) (x : Name × List Word) → named_at ws ≡ Some x → (n : List ℕ) × (ws ≡ name n ∷ x.1) × (x.0 ≡ here n x.1)
unfolding named_at
named_sound [] x h = absurd cc
named_sound (name n ∷ ws) x h = along (λ m r. (k : List ℕ) × (name n ∷ ws ≡ name k ∷ r) × (m ≡ here k r)) (here n ws, ws) x h (n, refl, refl)
named_sound (integer v ∷ ws) x h = absurd cc
named_sound (string ∷ ws) x h = absurd cc
named_sound (symbol b ∷ ws) x h = absurd cc

pub naming : {P : Type 0} (ws : List Word) (x : Name × List Word) → named_at ws ≡ Some x → ((n : List ℕ) → ws ≡ name n ∷ x.1 → x.0 ≡ here n x.1 → P) → P
naming ws x h k = let q = named_sound ws x h in k q.0 q.1 q.2

-- ---- steps

-- a symbol, and what is read behind it
pub past : {B P : Type 0} (c : ℕ) (ws : List Word) (f : List Word → Option B) (y : B) → (symbol_at c ws >>= f) ≡ Some y → ((rest : List Word) → ws ≡ symbol c ∷ rest → f rest ≡ Some y → P) → P
past c ws f y h k = let p = bind_some (symbol_at c ws) f y h in k p.0 (symbol_sound c ws p.0 p.1) p.2

-- a thing, and what is read behind it
pub first : {X B P : Type 0} (read : Option (X × List Word)) (f : X × List Word → Option B) (y : B) → (read >>= f) ≡ Some y → ((x : X) (rest : List Word) → read ≡ Some (x, rest) → f (x, rest) ≡ Some y → P) → P
first read f y h k = let p = bind_some read f y h in k p.0.0 p.0.1 p.1 p.2

pub choose : {A P : Type 0} (b : Bool) (y z : Option A) (x : A) → cond b y z ≡ Some x → (b ≡ true → y ≡ Some x → P) → (z ≡ Some x → P) → P
choose true y z x h here_is else_is = here_is refl h
choose false y z x h here_is else_is = else_is h

either_of : {A : Type 0} (Q : A → Type 0) (b : Bool) (y z : A) → (b ≡ true → Q y) → Q z → Q (cond b y z)
either_of Q true y z here_is else_is = here_is refl
either_of Q false y z here_is else_is = else_is

-- ---- many

many_step : {X : Type 0} {Item : List Word → X → List Word → Type 0} (b : Bool) (ws : List Word) (first : Option (X × List Word)) (again : List Word → Option (List X × List Word)) → ((x : X × List Word) → b ≡ false → first ≡ Some x → Item ws x.0 x.1) → ((vs : List Word) (xs : List X × List Word) → again vs ≡ Some xs → Several Item vs xs.0 xs.1) → (xs : List X × List Word) → many_by b ws first again ≡ Some xs → Several Item ws xs.0 xs.1
many_step {X} {Item} true ws first again one others xs h = along (Several Item ws) ([], ws) xs h grammar.none
many_step {X} {Item} false ws first again one others xs h =
    let p = bind_some first _ xs h in
    let q = bind_some (again p.0.1) _ xs p.2 in
    along (Several Item ws) (p.0.0 ∷ q.0.0, q.0.1) xs q.2 (grammar.more (one p.0 refl p.1) (others p.0.1 q.0 q.1))

pub many_sound : {X : Type 0} {Item : List Word → X → List Word → Type 0} (stops : List Word → Bool) (item : List Word → Option (X × List Word)) → ((ws : List Word) (x : X × List Word) → stops ws ≡ false → item ws ≡ Some x → Item ws x.0 x.1) → (k : ℕ) (ws : List Word) (xs : List X × List Word) → many stops item k ws ≡ Some xs → Several Item ws xs.0 xs.1
unfolding many
many_sound stops item one zero ws xs h = absurd cc
many_sound stops item one (suc k) ws xs h = many_step (stops ws) ws (item ws) (many stops item k) (λ x s e. one ws x s e) (λ vs ys e. many_sound stops item one k vs ys e) xs h

-- ---- operators

longer_step : (c d : ℕ) (long short : BinaryOperator) (b : Bool) (w : Word) (ws : List Word) → is_symbol d w ≡ b → ((vs : List Word) → OperatorIs (symbol c ∷ symbol d ∷ vs) long vs) → ((vs : List Word) → OperatorIs (symbol c ∷ vs) short vs) → OperatorIs (symbol c ∷ w ∷ ws) (cond {A = BinaryOperator × List Word} b (long, ws) (short, w ∷ ws)).0 (cond {A = BinaryOperator × List Word} b (long, ws) (short, w ∷ ws)).1
longer_step c d long short true w ws e two one = rw (symbol_true d w e) (two ws)
longer_step c d long short false w ws e two one = one (w ∷ ws)

longer_sound : (c d : ℕ) (long short : BinaryOperator) (ws : List Word) → ((vs : List Word) → OperatorIs (symbol c ∷ symbol d ∷ vs) long vs) → ((vs : List Word) → OperatorIs (symbol c ∷ vs) short vs) → OperatorIs (symbol c ∷ ws) (longer_at d long short ws).0 (longer_at d long short ws).1
longer_sound c d long short [] two one = one []
longer_sound c d long short (w ∷ ws) two one = longer_step c d long short (is_symbol d w) w ws refl two one

less_sound : (ws : List Word) → OperatorIs (symbol 60 ∷ ws) (less_at ws).0 (less_at ws).1
less_sound ws = either_of (λ (x : BinaryOperator × List Word). OperatorIs (symbol 60 ∷ ws) x.0 x.1) (begins_symbol 62 ws) _ _ (λ e. longer_sound 60 62 operator.NotEqual operator.Less ws (λ vs. grammar.not_equal) (λ vs. grammar.less)) (longer_sound 60 61 operator.LessOrEqual operator.Less ws (λ vs. grammar.less_or_equal) (λ vs. grammar.less))

same_sound : (ws : List Word) (x : BinaryOperator × List Word) → same_instance_at ws ≡ Some x → OperatorIs (symbol 58 ∷ ws) x.0 x.1
same_sound ws x h = past 61 ws _ x h (λ a d h. past 58 a _ x h (λ b e h. along (OperatorIs (symbol 58 ∷ ws)) (operator.SameInstance, b) x h (rw (d, e) grammar.same_instance)))

other_sound : (ws : List Word) (x : BinaryOperator × List Word) → other_instance_at ws ≡ Some x → OperatorIs (symbol 58 ∷ ws) x.0 x.1
other_sound ws x h = past 60 ws _ x h (λ a d h. past 62 a _ x h (λ b e h. past 58 b _ x h (λ c g h. along (OperatorIs (symbol 58 ∷ ws)) (operator.OtherInstance, c) x h (rw (d, e, g) grammar.other_instance))))

combine_sound : (ws : List Word) (x : BinaryOperator × List Word) → combine_at ws ≡ Some x → OperatorIs (symbol 124 ∷ ws) x.0 x.1
combine_sound ws x h = past 124 ws _ x h (λ a d h. along (OperatorIs (symbol 124 ∷ ws)) (operator.Combine, a) x h (rw d grammar.combine))

is_number : (c d : ℕ) → (c == d) ≡ true → c ≡ d
is_number c d e = (Decides-eqb c d).0 e

symbol_operator_sound : (c : ℕ) (ws : List Word) (x : BinaryOperator × List Word) → symbol_operator_at c ws ≡ Some x → OperatorIs (symbol c ∷ ws) x.0 x.1
unfolding symbol_operator_at
symbol_operator_sound c ws x h =
    choose (c == 42) _ _ x h (λ e h. rw (is_number c 42 e) (along (OperatorIs (symbol 42 ∷ ws)) (longer_at 42 operator.Power operator.Times ws) x h (longer_sound 42 42 operator.Power operator.Times ws (λ vs. grammar.power) (λ vs. grammar.times)))) (λ h.
    choose (c == 47) _ _ x h (λ e h. rw (is_number c 47 e) (along (OperatorIs (symbol 47 ∷ ws)) (operator.Divide, ws) x h grammar.divide)) (λ h.
    choose (c == 43) _ _ x h (λ e h. rw (is_number c 43 e) (along (OperatorIs (symbol 43 ∷ ws)) (operator.Plus, ws) x h grammar.plus)) (λ h.
    choose (c == 45) _ _ x h (λ e h. rw (is_number c 45 e) (along (OperatorIs (symbol 45 ∷ ws)) (operator.Minus, ws) x h grammar.minus)) (λ h.
    choose (c == 61) _ _ x h (λ e h. rw (is_number c 61 e) (along (OperatorIs (symbol 61 ∷ ws)) (operator.Equal, ws) x h grammar.equal)) (λ h.
    choose (c == 60) _ _ x h (λ e h. rw (is_number c 60 e) (along (OperatorIs (symbol 60 ∷ ws)) (less_at ws) x h (less_sound ws))) (λ h.
    choose (c == 62) _ _ x h (λ e h. rw (is_number c 62 e) (along (OperatorIs (symbol 62 ∷ ws)) (longer_at 61 operator.GreaterOrEqual operator.Greater ws) x h (longer_sound 62 61 operator.GreaterOrEqual operator.Greater ws (λ vs. grammar.greater_or_equal) (λ vs. grammar.greater)))) (λ h.
    choose (c == 124) _ _ x h (λ e h. rw (is_number c 124 e) (combine_sound ws x h)) (λ h.
    choose (c == 58) _ _ x h (λ e h. rw (is_number c 58 e) (choose (begins_symbol 61 ws) _ _ x h (λ g h. same_sound ws x h) (λ h. other_sound ws x h))) (λ h. absurd cc)))))))))

spelled_step : (n : List ℕ) (ws : List Word) (x : BinaryOperator × List Word) (o : Option BinaryOperator) → word_operator_of n ≡ o → with_words o ws ≡ Some x → OperatorIs (name n ∷ ws) x.0 x.1
spelled_step n ws x None e h = absurd cc
spelled_step n ws x (Some o) e h = along (OperatorIs (name n ∷ ws)) (o, ws) x h (grammar.spelled e)

operator_sound : (ws : List Word) (x : BinaryOperator × List Word) → operator_at ws ≡ Some x → OperatorIs ws x.0 x.1
operator_sound [] x h = absurd cc
operator_sound (name n ∷ ws) x h = spelled_step n ws x (word_operator_of n) refl h
operator_sound (integer v ∷ ws) x h = absurd cc
operator_sound (string ∷ ws) x h = absurd cc
operator_sound (symbol b ∷ ws) x h = symbol_operator_sound b ws x h

-- ---- literals

integer_sound : {P : Type 0} (ws rest : List Word) → integer_at ws ≡ Some rest → ((v : Option ℕ) → ws ≡ integer v ∷ rest → P) → P
integer_sound [] rest h k = absurd cc
integer_sound (name n ∷ ws) rest h k = absurd cc
integer_sound (integer v ∷ ws) rest h k = k v (ap (λ (r : List Word). integer v ∷ r) (some_is ws rest h))
integer_sound (string ∷ ws) rest h k = absurd cc
integer_sound (symbol b ∷ ws) rest h k = absurd cc

signed_step : (b c : Bool) (w : Word) (ws rest : List Word) → is_symbol 45 w ≡ b → is_symbol 43 w ≡ c → cond b (integer_at (cond {A = Bool × List Word} b (true, ws) (false, w ∷ ws)).1) (integer_at (cond {A = Bool × List Word} c (true, ws) (false, w ∷ ws)).1) ≡ Some rest → ExponentIs (name (codes "E") ∷ w ∷ ws) rest
signed_step true c w ws rest e f h = integer_sound ws rest h (λ v g. rw (symbol_true 45 w e, g) grammar.minus)
signed_step false true w ws rest e f h = integer_sound ws rest h (λ v g. rw (symbol_true 43 w f, g) grammar.plus)
signed_step false false w ws rest e f h = integer_sound (w ∷ ws) rest h (λ v g. subst (λ (vs : List Word). ExponentIs (name (codes "E") ∷ vs) rest) (sym g) grammar.apart)

signed_sound : (ws rest : List Word) → signed_integer_at ws ≡ Some rest → ExponentIs (name (codes "E") ∷ ws) rest
signed_sound [] rest h = absurd cc
signed_sound (w ∷ ws) rest h = signed_step (is_symbol 45 w) (is_symbol 43 w) w ws rest refl refl h

exponent_step : (b c : Bool) (n : List ℕ) (ws rest : List Word) → bytes_eq n (codes "E") ≡ b → is_exponent n ≡ c → cond b (signed_integer_at ws) (cond c (Some ws) (Some (name n ∷ ws))) ≡ Some rest → ExponentIs (name n ∷ ws) rest
exponent_step true c n ws rest e f h = rw ((bytes_eq-Decides n (codes "E")).0 e) (signed_sound ws rest h)
exponent_step false true n ws rest e f h = subst (ExponentIs (name n ∷ ws)) (some_is ws rest h) (grammar.joined e f)
exponent_step false false n ws rest e f h = subst (ExponentIs (name n ∷ ws)) (some_is (name n ∷ ws) rest h) grammar.none

exponent_sound : (ws rest : List Word) → behind_exponent_at ws ≡ Some rest → ExponentIs ws rest
unfolding behind_exponent_at
exponent_sound [] rest h = subst (ExponentIs []) (some_is [] rest h) grammar.none
exponent_sound (name n ∷ ws) rest h = exponent_step (bytes_eq n (codes "E")) (is_exponent n) n ws rest refl refl h
exponent_sound (integer v ∷ ws) rest h = subst (ExponentIs (integer v ∷ ws)) (some_is (integer v ∷ ws) rest h) grammar.none
exponent_sound (string ∷ ws) rest h = subst (ExponentIs (string ∷ ws)) (some_is (string ∷ ws) rest h) grammar.none
exponent_sound (symbol b ∷ ws) rest h = subst (ExponentIs (symbol b ∷ ws)) (some_is (symbol b ∷ ws) rest h) grammar.none

fraction_sound : (ws rest : List Word) → behind_exponent_at (if_integer_at ws).1 ≡ Some rest → FractionIs ws rest
fraction_sound [] rest h = grammar.without (exponent_sound [] rest h)
fraction_sound (name n ∷ ws) rest h = grammar.without (exponent_sound (name n ∷ ws) rest h)
fraction_sound (integer v ∷ ws) rest h = grammar.digits (exponent_sound ws rest h)
fraction_sound (string ∷ ws) rest h = grammar.without (exponent_sound (string ∷ ws) rest h)
fraction_sound (symbol b ∷ ws) rest h = grammar.without (exponent_sound (symbol b ∷ ws) rest h)

real_step : (v : Option ℕ) (ws mid rest : List Word) → ws ≡ symbol 46 ∷ mid → FractionIs mid rest → LiteralIs (integer v ∷ ws) (tree.real (suc (length ws))) rest
real_step v ws mid rest e f = rw e (grammar.is_real f)

binary_made : (b : ℕ) (ws rest : List Word) (v : Option ℕ) → b ≡ 37 → ws ≡ integer v ∷ rest → LiteralIs (symbol b ∷ ws) (tree.binary (suc (length ws))) rest
binary_made b ws rest v e g = rw (e, g) grammar.is_binary

binary_step : (b : ℕ) (ws : List Word) (x : Tree × List Word) → b ≡ 37 → binary_at (suc (length ws)) ws ≡ Some x → LiteralIs (symbol b ∷ ws) x.0 x.1
binary_step b ws x e h = let p = bind_some (integer_at ws) _ x h in integer_sound ws p.0 p.1 (λ v g. along (LiteralIs (symbol b ∷ ws)) (tree.binary (suc (length ws)), p.0) x p.2 (binary_made b ws p.0 v e g))

number_sound : (v : Option ℕ) (ws : List Word) (x : Tree × List Word) → number_at v (suc (length ws)) ws ≡ Some x → LiteralIs (integer v ∷ ws) x.0 x.1
unfolding number_at
number_sound v ws x h =
    choose (begins_symbol 46 ws) _ _ x h
    (λ g h. past 46 ws _ x h (λ a d h. let p = bind_some (behind_exponent_at (if_integer_at a).1) _ x h in along (LiteralIs (integer v ∷ ws)) (tree.real (suc (length ws)), p.0) x p.2 (real_step v ws a p.0 d (fraction_sound a p.0 p.1))))
    (λ h. along (LiteralIs (integer v ∷ ws)) (tree.integer v (suc (length ws)), ws) x h grammar.is_integer)

pub literal_sound : (ws : List Word) (x : Tree × List Word) → literal_at ws ≡ Some x → LiteralIs ws x.0 x.1
unfolding literal_at
literal_sound [] x h = absurd cc
literal_sound (name n ∷ ws) x h = let p = bind_some (truth_of n) _ x h in along (LiteralIs (name n ∷ ws)) (tree.truth p.0, ws) x p.2 (grammar.is_truth p.1)
literal_sound (integer v ∷ ws) x h = number_sound v ws x h
literal_sound (string ∷ ws) x h = along (LiteralIs (string ∷ ws)) (tree.text (suc (length ws)), ws) x h grammar.is_text
literal_sound (symbol b ∷ ws) x h = choose (b == 37) _ _ x h (λ e h. binary_step b ws x (is_number b 37 e) h) (λ h. absurd cc)

-- ---- operations

same_rank : (a b : Precedence) → not (rank_of a == rank_of b) ≡ false → a ≡ b
same_rank precedence.Relation precedence.Relation e = refl
same_rank precedence.Relation precedence.Sum e = absurd cc
same_rank precedence.Relation precedence.Product e = absurd cc
same_rank precedence.Relation precedence.Power e = absurd cc
same_rank precedence.Sum precedence.Relation e = absurd cc
same_rank precedence.Sum precedence.Sum e = refl
same_rank precedence.Sum precedence.Product e = absurd cc
same_rank precedence.Sum precedence.Power e = absurd cc
same_rank precedence.Product precedence.Relation e = absurd cc
same_rank precedence.Product precedence.Sum e = absurd cc
same_rank precedence.Product precedence.Product e = refl
same_rank precedence.Product precedence.Power e = absurd cc
same_rank precedence.Power precedence.Relation e = absurd cc
same_rank precedence.Power precedence.Sum e = absurd cc
same_rank precedence.Power precedence.Product e = absurd cc
same_rank precedence.Power precedence.Power e = refl

module _ (p : Precedence) {operand : List Word → Option (Tree × List Word)} {Operand : List Word → Tree → List Word → Type 0} (is_operand : (ws : List Word) (x : Tree × List Word) → operand ws ≡ Some x → Operand ws x.0 x.1) where
  operation_sound : (ws : List Word) (x : Step × List Word) → ends_operations p ws ≡ false → operation_at operand ws ≡ Some x → OperationIs p Operand ws x.0 x.1
  unfolding operation_at
  operation_sound ws x go h =
      first (operator_at ws) _ x h (λ o mid e h.
      first (operand mid) _ x h (λ t rest f h.
      along (OperationIs p Operand ws) (tree.step o (length ws) t, rest) x h (grammar.made (operator_sound ws (o, mid) e) (same_rank (precedence_of o) p (subst (λ (r : Option (BinaryOperator × List Word)). is_other p r ≡ false) e go)) (is_operand mid (t, rest) f))))

  chain_sound : (ws : List Word) (x : Tree × List Word) → chain_by operand p ws ≡ Some x → ChainIs p Operand ws x.0 x.1
  unfolding chain_by
  chain_sound ws x h =
      first (operand ws) _ x h (λ t mid e h.
      first (operations_at operand p mid) _ x h (λ ss rest f h.
      choose (fits p ss) _ _ x h (λ g h. along (ChainIs p Operand ws) (operations t (steps ss), rest) x h (grammar.made (is_operand ws (t, mid) e) (many_sound (ends_operations p) (operation_at operand) operation_sound _ mid (ss, rest) f) g)) (λ h. absurd cc)))

comparison_step : (b : Bool) (ws : List Word) (x : IntervalOperator × List Word) → cond b (symbol_at 61 ws >>= λ rest. Some (comparison.LessOrEqual, rest)) (Some (comparison.Less, ws)) ≡ Some x → ComparisonIs (symbol 60 ∷ ws) x.0 x.1
comparison_step true ws x h = past 61 ws _ x h (λ rest e h. along (ComparisonIs (symbol 60 ∷ ws)) (comparison.LessOrEqual, rest) x h (rw e grammar.less_or_equal))
comparison_step false ws x h = along (ComparisonIs (symbol 60 ∷ ws)) (comparison.Less, ws) x h grammar.less

comparison_sound : (ws : List Word) (x : IntervalOperator × List Word) → interval_operator_at ws ≡ Some x → ComparisonIs ws x.0 x.1
unfolding interval_operator_at
comparison_sound ws x h = past 60 ws _ x h (λ a e h. rw e (comparison_step (begins_symbol 61 a) a x h))

first_cases : {P : Type 0} (a b : Option (Tree × List Word)) (x : Tree × List Word) → first_of a b ≡ Some x → (a ≡ Some x → P) → (b ≡ Some x → P) → P
first_cases None b x h one other = other h
first_cases (Some y) b x h one other = one h

word_cases : (Q : Word → FactorWord → Type 0) (w : Word) → Q (symbol 91) factor.Aggregate → Q (symbol 123) factor.Interval → Q (symbol 45) (factor.Unary sign.Minus) → Q (symbol 43) (factor.Unary sign.Plus) → Q (name (codes "NOT")) (factor.Unary sign.Not) → Q (name (codes "QUERY")) factor.Query → Q w factor.Operand → Q w (factor_word_of w)
unfolding factor_word_of
word_cases Q w a i m p n q o =
    either_of (Q w) (is_symbol 91 w) _ _ (λ e. rw (symbol_true 91 w e) a)
    (either_of (Q w) (is_symbol 123 w) _ _ (λ e. rw (symbol_true 123 w e) i)
    (either_of (Q w) (is_symbol 45 w) _ _ (λ e. rw (symbol_true 45 w e) m)
    (either_of (Q w) (is_symbol 43 w) _ _ (λ e. rw (symbol_true 43 w e) p)
    (either_of (Q w) (is_name (codes "NOT") w) _ _ (λ e. rw (name_true (codes "NOT") w e) n)
    (either_of (Q w) (is_name (codes "QUERY") w) _ _ (λ e. rw (name_true (codes "QUERY") w e) q) o)))))

module _ (inner : Inner) (Within : Precedence → List Word → Tree → List Word → Type 0) (is_within : (p : Precedence) (ws : List Word) (x : Tree × List Word) → inner p ws ≡ Some x → Within p ws x.0 x.1) where
  -- ---- calls

  argument_sound : (ws : List Word) (x : Tree × List Word) → next_argument inner ws ≡ Some x → Next (Within precedence.Relation) ws x.0 x.1
  unfolding next_argument
  argument_sound ws x h = past 44 ws _ x h (λ r e h. rw e (grammar.behind (is_within precedence.Relation r x h)))

  some_arguments_sound : (ws : List Word) (x : List Tree × List Word) → some_arguments_at inner ws ≡ Some x → Listed (Within precedence.Relation) ws x.0 x.1
  unfolding some_arguments_at
  some_arguments_sound ws x h =
      first (inner precedence.Relation ws) _ x h (λ t mid e h.
      first (many_at (begins_symbol 41) (next_argument inner) mid) _ x h (λ ts rest f h.
      along (Listed (Within precedence.Relation) ws) (t ∷ ts, rest) x h (grammar.some (is_within precedence.Relation ws (t, mid) e) (many_sound (begins_symbol 41) (next_argument inner) (λ vs y go g. argument_sound vs y g) _ mid (ts, rest) f))))

  arguments_sound : (ws : List Word) (x : List Tree × List Word) → arguments_at inner ws ≡ Some x → Listed (Within precedence.Relation) ws x.0 x.1
  arguments_sound ws x h = choose (begins_symbol 41 ws) _ _ x h (λ e h. along (Listed (Within precedence.Relation) ws) ([], ws) x h grammar.none) (λ h. some_arguments_sound ws x h)

  call_made : (n : List ℕ) (ws mid rest : List Word) (ts : List Tree) → operand_word_of n ≡ word.Plain → ws ≡ symbol 40 ∷ mid → Listed (Within precedence.Relation) mid ts (symbol 41 ∷ rest) → QualifiableIs Within (name n ∷ ws) (tree.call (here n ws) (trees ts)) rest
  call_made n ws mid rest ts plain e l = rw e (grammar.call plain l)

  call_sound : (n : List ℕ) (ws : List Word) (x : Tree × List Word) → operand_word_of n ≡ word.Plain → call_at inner (here n ws) ws ≡ Some x → QualifiableIs Within (name n ∷ ws) x.0 x.1
  unfolding call_at
  call_sound n ws x plain h =
      past 40 ws _ x h (λ a e h.
      first (arguments_at inner a) _ x h (λ ts mid f h.
      past 41 mid _ x h (λ rest g h.
      along (QualifiableIs Within (name n ∷ ws)) (tree.call (here n ws) (trees ts), rest) x h (call_made n ws a rest ts plain e (subst (Listed (Within precedence.Relation) a ts) g (arguments_sound a (ts, mid) f))))))

  -- ---- aggregates

  element_sound : (ws : List Word) (x : Element × List Word) → element_at inner ws ≡ Some x → ElementIs Within ws x.0 x.1
  unfolding element_at
  element_sound ws x h =
      first (inner precedence.Relation ws) _ x h (λ t mid e h.
      choose (begins_symbol 58 mid) _ _ x h
      (λ g h. past 58 mid _ x h (λ a f h. first (inner precedence.Sum a) _ x h (λ n rest i h. along (ElementIs Within ws) (tree.repeated t n, rest) x h (grammar.repeated (subst (Within precedence.Relation ws t) f (is_within precedence.Relation ws (t, mid) e)) (is_within precedence.Sum a (n, rest) i)))))
      (λ h. along (ElementIs Within ws) (tree.once t, mid) x h (grammar.once (is_within precedence.Relation ws (t, mid) e))))

  next_element_sound : (ws : List Word) (x : Element × List Word) → next_element inner ws ≡ Some x → Next (ElementIs Within) ws x.0 x.1
  unfolding next_element
  next_element_sound ws x h = past 44 ws _ x h (λ r e h. rw e (grammar.behind (element_sound r x h)))

  some_elements_sound : (ws : List Word) (x : List Element × List Word) → some_elements_at inner ws ≡ Some x → Listed (ElementIs Within) ws x.0 x.1
  unfolding some_elements_at
  some_elements_sound ws x h =
      first (element_at inner ws) _ x h (λ t mid e h.
      first (many_at (begins_symbol 93) (next_element inner) mid) _ x h (λ ts rest f h.
      along (Listed (ElementIs Within) ws) (t ∷ ts, rest) x h (grammar.some (element_sound ws (t, mid) e) (many_sound (begins_symbol 93) (next_element inner) (λ vs y go g. next_element_sound vs y g) _ mid (ts, rest) f))))

  aggregate_sound : (ws : List Word) (x : Tree × List Word) → aggregate_at inner ws ≡ Some x → FactorIs Within (symbol 91 ∷ ws) x.0 x.1
  unfolding aggregate_at
  aggregate_sound ws x h =
      first (elements_at inner ws) _ x h (λ es mid e h.
      past 93 mid _ x h (λ rest g h.
      along (FactorIs Within (symbol 91 ∷ ws)) (tree.aggregate (elements es), rest) x h (grammar.aggregate (subst (Listed (ElementIs Within) ws es) g (choose (begins_symbol 93 ws) _ _ (es, mid) e (λ i k. along (Listed (ElementIs Within) ws) ([], ws) (es, mid) k grammar.none) (λ k. some_elements_sound ws (es, mid) k))))))

  -- ---- qualifiers

  index_sound : (ws : List Word) (x : Qualifier × List Word) → index_at inner ws ≡ Some x → QualifierIs Within (symbol 91 ∷ ws) x.0 x.1
  unfolding index_at
  index_sound ws x h =
      first (inner precedence.Sum ws) _ x h (λ t mid e h.
      choose (begins_symbol 58 mid) _ _ x h
      (λ g h. past 58 mid _ x h (λ a f h. first (inner precedence.Sum a) _ x h (λ u last i h. past 93 last _ x h (λ rest j h. along (QualifierIs Within (symbol 91 ∷ ws)) (tree.range t u, rest) x h (grammar.range (subst (Within precedence.Sum ws t) f (is_within precedence.Sum ws (t, mid) e)) (subst (Within precedence.Sum a u) j (is_within precedence.Sum a (u, last) i)))))))
      (λ h. past 93 mid _ x h (λ rest j h. along (QualifierIs Within (symbol 91 ∷ ws)) (tree.index t, rest) x h (grammar.index (subst (Within precedence.Sum ws t) j (is_within precedence.Sum ws (t, mid) e))))))

  qualifier_sound : (ws : List Word) (x : Qualifier × List Word) → qualifier_at inner ws ≡ Some x → QualifierIs Within ws x.0 x.1
  unfolding qualifier_at
  qualifier_sound ws x h =
      choose (begins_symbol 46 ws) _ _ x h
      (λ c h. past 46 ws _ x h (λ a e h. first (named_at a) _ x h (λ m rest f h. naming a (m, rest) f (λ n d i. along (QualifierIs Within ws) (tree.attribute m, rest) x h (rw (e, d, i) grammar.attribute)))))
      (λ h. choose (begins_symbol 92 ws) _ _ x h
      (λ c h. past 92 ws _ x h (λ a e h. first (named_at a) _ x h (λ m rest f h. naming a (m, rest) f (λ n d i. along (QualifierIs Within ws) (tree.group m, rest) x h (rw (e, d, i) grammar.group)))))
      (λ h. past 91 ws _ x h (λ a e h. rw e (index_sound a x h))))

  -- ---- operands

  word_sound : (w : OperandWord) (n : List ℕ) (ws : List Word) (x : Tree × List Word) → operand_word_of n ≡ w → operand_by inner w (here n ws) ws ≡ Some x → QualifiableIs Within (name n ∷ ws) x.0 x.1
  word_sound (word.Constant c) n ws x e h = along (QualifiableIs Within (name n ∷ ws)) (tree.constant c, ws) x h (grammar.constant e)
  word_sound word.Reserved n ws x e h = absurd cc
  word_sound word.Plain n ws x e h = choose (begins_symbol 40 ws) _ _ x h (λ c h. call_sound n ws x e h) (λ h. along (QualifiableIs Within (name n ∷ ws)) (tree.named (here n ws), ws) x h (grammar.named e))

  qualifiable_sound : (ws : List Word) (x : Tree × List Word) → qualifiable_at inner ws ≡ Some x → QualifiableIs Within ws x.0 x.1
  unfolding qualifiable_at
  qualifiable_sound ws x h =
      choose (begins_symbol 63 ws) _ _ x h
      (λ c h. past 63 ws _ x h (λ rest e h. along (QualifiableIs Within ws) (tree.constant constants.Indeterminate, rest) x h (rw e grammar.indeterminate)))
      (λ h. first (named_at ws) _ x h (λ m rest f h. naming ws (m, rest) f (λ n d i. rw d (word_sound (operand_word_of n) n rest x refl (subst (λ (v : Name). operand_by inner (operand_word_of v.text) v rest ≡ Some x) i h)))))

  qualified_sound : (ws : List Word) (x : Tree × List Word) → qualified_at inner ws ≡ Some x → PrimaryIs Within ws x.0 x.1
  unfolding qualified_at
  qualified_sound ws x h =
      first (qualifiable_at inner ws) _ x h (λ t mid e h.
      first (qualifiers_at inner mid) _ x h (λ qs rest f h.
      along (PrimaryIs Within ws) (qualified t (qualifiers qs), rest) x h (grammar.value (qualifiable_sound ws (t, mid) e) (many_sound ends_qualifiers (qualifier_at inner) (λ vs y go g. qualifier_sound vs y g) _ mid (qs, rest) f))))

  primary_sound : (ws : List Word) (x : Tree × List Word) → primary_at inner ws ≡ Some x → PrimaryIs Within ws x.0 x.1
  primary_sound ws x h = first_cases (literal_at ws) (qualified_at inner ws) x h (λ e. grammar.literal (literal_sound ws x e)) (λ e. qualified_sound ws x e)

  group_sound : (ws : List Word) (x : Tree × List Word) → group_at inner ws ≡ Some x → OperandIs Within ws x.0 x.1
  unfolding group_at
  group_sound ws x h =
      past 40 ws _ x h (λ a e h.
      first (inner precedence.Relation a) _ x h (λ t mid f h.
      past 41 mid _ x h (λ rest g h.
      along (OperandIs Within ws) (t, rest) x h (rw e (grammar.group (subst (Within precedence.Relation a t) g (is_within precedence.Relation a (t, mid) f)))))))

  operand_sound : (ws : List Word) (x : Tree × List Word) → operand_at inner ws ≡ Some x → OperandIs Within ws x.0 x.1
  operand_sound ws x h = choose (begins_symbol 40 ws) _ _ x h (λ e h. group_sound ws x h) (λ h. grammar.primary (primary_sound ws x h))

  sign_sound : (o : UnaryOperator) (vs ws : List Word) (x : Tree × List Word) → ((t : Tree) (rest : List Word) → OperandIs Within ws t rest → FactorIs Within vs (tree.unary o t) rest) → sign_at inner o ws ≡ Some x → FactorIs Within vs x.0 x.1
  unfolding sign_at
  sign_sound o vs ws x make h = first (operand_at inner ws) _ x h (λ t rest e h. along (FactorIs Within vs) (tree.unary o t, rest) x h (make t rest (operand_sound ws (t, rest) e)))

  interval_sound : (ws : List Word) (x : Tree × List Word) → interval_at inner ws ≡ Some x → FactorIs Within (symbol 123 ∷ ws) x.0 x.1
  unfolding interval_at
  interval_sound ws x h =
      first (inner precedence.Sum ws) _ x h (λ low a e h.
      first (interval_operator_at a) _ x h (λ above b f h.
      first (inner precedence.Sum b) _ x h (λ item c g h.
      first (interval_operator_at c) _ x h (λ below d i h.
      first (inner precedence.Sum d) _ x h (λ high mid j h.
      past 125 mid _ x h (λ rest k h.
      along (FactorIs Within (symbol 123 ∷ ws)) (tree.interval low above item below high, rest) x h (grammar.interval (is_within precedence.Sum ws (low, a) e) (comparison_sound a (above, b) f) (is_within precedence.Sum b (item, c) g) (comparison_sound c (below, d) i) (subst (Within precedence.Sum d high) k (is_within precedence.Sum d (high, mid) j)))))))))

  query_made : (n : List ℕ) (ws a b c d mid rest : List Word) (m : Name) (over condition : Tree) → ws ≡ symbol 40 ∷ a → a ≡ name n ∷ b → m ≡ here n b → b ≡ symbol 60 ∷ c → c ≡ symbol 42 ∷ d → Within precedence.Sum d over (symbol 124 ∷ mid) → Within precedence.Relation mid condition (symbol 41 ∷ rest) → FactorIs Within (name (codes "QUERY") ∷ ws) (tree.query m over condition) rest
  query_made n ws a b c d mid rest m over condition e f g i j k l = rw (e, f, g, i, j) (grammar.query k l)

  query_sound : (ws : List Word) (x : Tree × List Word) → query_at inner ws ≡ Some x → FactorIs Within (name (codes "QUERY") ∷ ws) x.0 x.1
  unfolding query_at
  query_sound ws x h =
      past 40 ws _ x h (λ a e h.
      first (named_at a) _ x h (λ m b f h.
      past 60 b _ x h (λ c g h.
      past 42 c _ x h (λ d i h.
      first (inner precedence.Sum d) _ x h (λ over j k h.
      past 124 j _ x h (λ mid l h.
      first (inner precedence.Relation mid) _ x h (λ condition o q h.
      past 41 o _ x h (λ rest r h.
      naming a (m, b) f (λ n u v. along (FactorIs Within (name (codes "QUERY") ∷ ws)) (tree.query m over condition, rest) x h (query_made n ws a b c d mid rest m over condition e u v g i (subst (Within precedence.Sum d over) l (is_within precedence.Sum d (over, j) k)) (subst (Within precedence.Relation mid condition) r (is_within precedence.Relation mid (condition, o) q)))))))))))
      )

  factor_sound : (ws : List Word) (x : Tree × List Word) → factor_at inner ws ≡ Some x → FactorIs Within ws x.0 x.1
  unfolding factor_at
  factor_sound [] x h = absurd cc
  factor_sound (w ∷ ws) x h =
      word_cases (λ (v : Word) (f : FactorWord). factor_by inner f v ws ≡ Some x → FactorIs Within (v ∷ ws) x.0 x.1) w
      (aggregate_sound ws x) (interval_sound ws x)
      (sign_sound sign.Minus (symbol 45 ∷ ws) ws x (λ t rest o. grammar.minus o))
      (sign_sound sign.Plus (symbol 43 ∷ ws) ws x (λ t rest o. grammar.plus o))
      (sign_sound sign.Not (name (codes "NOT") ∷ ws) ws x (λ t rest o. grammar.negated o))
      (query_sound ws x) (λ k. grammar.operand (operand_sound (w ∷ ws) x k)) h

  -- ---- expressions

  operand_of_sound : (p : Precedence) (ws : List Word) (x : Tree × List Word) → operand_of inner p ws ≡ Some x → OperandOf Within p ws x.0 x.1
  operand_of_sound precedence.Power = factor_sound
  operand_of_sound precedence.Product = chain_sound precedence.Power factor_sound
  operand_of_sound precedence.Sum = chain_sound precedence.Product (chain_sound precedence.Power factor_sound)
  operand_of_sound precedence.Relation = chain_sound precedence.Sum (chain_sound precedence.Product (chain_sound precedence.Power factor_sound))

pub reading_sound : (left : ℕ) (p : Precedence) (ws : List Word) (x : Tree × List Word) → reading left p ws ≡ Some x → IsReading left p ws x.0 x.1
reading_sound zero p ws x h = absurd cc
reading_sound (suc left) p ws x h = chain_sound p (operand_of_sound (reading left) (IsReading left) (reading_sound left) p) ws x h

-- what a reader that gives this returns
pub ok_reading : {X : Type 0} (view : X → Tree × List Word) (r : Result X Refusal) (ws : List Word) → Gives view r (expression_at ws) → IfOk r (λ x. IsExpression ws (view x).0 (view x).1)
ok_reading view (Ok x) ws h = reading_sound 256 precedence.Relation ws (view x) h
ok_reading view (Err e) ws h = tt

pub simple_sound : (ws : List Word) (x : Tree × List Word) → simple_at ws ≡ Some x → IsSimple ws x.0 x.1
simple_sound ws x h = reading_sound 256 precedence.Sum ws x h

pub ok_simple : {X : Type 0} (view : X → Tree × List Word) (r : Result X Refusal) (ws : List Word) → Gives view r (simple_at ws) → IfOk r (λ x. IsSimple ws (view x).0 (view x).1)
ok_simple view (Ok x) ws h = simple_sound ws (view x) h
ok_simple view (Err e) ws h = tt

pub qualifiers_sound : (ws : List Word) (x : List Qualifier × List Word) → all_qualifiers_at ws ≡ Some x → AreQualifiers ws x.0 x.1
qualifiers_sound ws x h = many_sound ends_qualifiers (qualifier_at (reading 256)) (λ vs y go g. qualifier_sound (reading 256) (IsReading 256) (reading_sound 256) vs y g) _ ws x h

pub ok_qualifiers : {X : Type 0} (view : X → List Qualifier × List Word) (r : Result X Refusal) (ws : List Word) → Gives view r (all_qualifiers_at ws) → IfOk r (λ x. AreQualifiers ws (view x).0 (view x).1)
ok_qualifiers view (Ok x) ws h = qualifiers_sound ws (view x) h
ok_qualifiers view (Err e) ws h = tt

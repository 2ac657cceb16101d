-- Types: what is read is in the grammar, and what is in the grammar is read.
use Rattle.std.proofs.Common.{◌≡◌, ℕ, zero, suc, ◌-◌, ◌<◌, ◌≤◌, Bool, true, false, cond, List, [], ◌∷◌, length, Some, None, refl, ap, subst, ◌∙◌, arith}
use Rattle.std.specs.Prelude.{codes, pos}
use Rattle.p21_express.specs.declared.declarations.Bounds.{Bounds}
use Rattle.p21_express.specs.declared.declarations.Width.{Width}
use Rattle.p21_express.specs.declared.keywords.TypeWord.{TypeWord}
use Rattle.p21_express.specs.declared.keywords.TypeWord.TheVariants as types
use Rattle.p21_express.specs.declared.keywords.SimpleWord.{SimpleWord}
use Rattle.p21_express.specs.declared.keywords.SimpleWord.TheVariants as simples
use Rattle.p21_express.specs.declared.keywords.AggregateWord.{AggregateWord}
use Rattle.p21_express.specs.declared.keywords.AggregateWord.TheVariants as aggregates
use Rattle.p21_express.specs.Keywords.{type_word_of}
use Rattle.p21_express.specs.Word.{Word, name, symbol, is_name, begins_name, begins_symbol}
use Rattle.p21_express.specs.Schema.{Expr, Aggregate}
use Rattle.p21_express.specs.Schema as schema
use Rattle.p21_express.specs.Grammar.{IfName, Group, IfGroup, BoundsAre, IfBounds, AggregateIs, SimpleIs, ExprIs, width_of, made, there, absent, array, list, set, bag, is_integer, is_number, is_boolean, is_logical, is_real, is_text, is_binary, is_named, simple, nested}
use Rattle.p21_express.specs.Reader.{name_at, if_name, group_at, if_group, bounds_at, if_bounds, array_at, list_at, set_at, bag_at, aggregate_at, width_at, real_at, text_at, binary_at, simple_at, flat_at, nested_at, expr_at}
use Rattle.p21_express.proofs.WordLemmas.{bind_some, some_is, symbol_sound, word_sound, name_sound, name_true, same_name}
use Rattle.p21_express.proofs.SkipLemmas.{up_to_sound, up_to_complete, upto_shorter}
use Rattle.p21_express.proofs.ReadLemmas.{expr_simple, expr_nested}

-- ---- a name that may stand there

if_name_step : (n : List ℕ) (w : Word) (ws : List Word) (b : Bool) → is_name n w ≡ b → IfName n (w ∷ ws) (cond {A = Bool × List Word} b (true, ws) (false, w ∷ ws)).0 (cond {A = Bool × List Word} b (true, ws) (false, w ∷ ws)).1
if_name_step n w ws true e = rw (name_true n w e) there
if_name_step n w ws false e = absent e

pub if_name_sound : (n : List ℕ) (ws : List Word) → IfName n ws (if_name n ws).0 (if_name n ws).1
if_name_sound n [] = absent refl
if_name_sound n (w ∷ ws) = if_name_step n w ws (is_name n w) refl

pub if_name_absent : (n : List ℕ) (ws : List Word) → begins_name n ws ≡ false → if_name n ws ≡ (false, ws)
if_name_absent n [] e = refl
if_name_absent n (w ∷ ws) e = rw e refl

pub if_name_complete : {n : List ℕ} {ws rest : List Word} {b : Bool} → IfName n ws b rest → if_name n ws ≡ (b, rest)
if_name_complete {n = n} there = rw (same_name n) refl
if_name_complete {n = n} {ws = ws} (absent e) = if_name_absent n ws e

pub if_name_shorter : {n : List ℕ} {ws rest : List Word} {b : Bool} → IfName n ws b rest → length rest ≤ length ws
if_name_shorter there = omega arith
if_name_shorter (absent e) = omega arith

-- ---- groups

pub group_sound : (ws : List Word) (x : List Word × List Word) → group_at ws ≡ Some x → Group ws x.0 x.1
unfolding group_at
group_sound ws x h =
    let p = bind_some _ _ _ h in
    rw (symbol_sound 40 ws p.0 p.1) (made (up_to_sound 41 p.0 x p.2))

pub group_complete : {ws tokens rest : List Word} → Group ws tokens rest → group_at ws ≡ Some (tokens, rest)
unfolding group_at
group_complete (made u) = up_to_complete refl u

group_begins : {ws tokens rest : List Word} → Group ws tokens rest → begins_symbol 40 ws ≡ true
group_begins (made u) = refl

pub group_shorter : {ws tokens rest : List Word} → Group ws tokens rest → length rest < length ws
group_shorter (made u) = let h = upto_shorter u in omega arith

if_group_step : (ws : List Word) (x : List Word × List Word) (b : Bool) → begins_symbol 40 ws ≡ b → cond b (group_at ws) (Some ([], ws)) ≡ Some x → IfGroup ws x.0 x.1
if_group_step ws x true e h = there (group_sound ws x h)
if_group_step ws x false e h = subst (λ (y : List Word × List Word). IfGroup ws y.0 y.1) (some_is _ _ h) (absent e)

pub if_group_sound : (ws : List Word) (x : List Word × List Word) → if_group ws ≡ Some x → IfGroup ws x.0 x.1
unfolding if_group
if_group_sound ws x h = if_group_step ws x (begins_symbol 40 ws) refl h

pub if_group_complete : {ws tokens rest : List Word} → IfGroup ws tokens rest → if_group ws ≡ Some (tokens, rest)
unfolding if_group
if_group_complete (there g) = rw (group_begins g) (group_complete g)
if_group_complete (absent e) = rw e refl

pub if_group_shorter : {ws tokens rest : List Word} → IfGroup ws tokens rest → length rest ≤ length ws
if_group_shorter (there g) = let h = group_shorter g in omega arith
if_group_shorter (absent e) = omega arith

-- ---- bounds

pub bounds_sound : (ws : List Word) (x : Bounds × List Word) → bounds_at ws ≡ Some x → BoundsAre ws x.0 x.1
unfolding bounds_at
bounds_sound ws x h =
    let p = bind_some _ _ _ h in
    let q = bind_some _ _ _ p.2 in
    let r = bind_some _ _ _ q.2 in
    rw (symbol_sound 91 ws p.0 p.1) (subst (λ (y : Bounds × List Word). BoundsAre (symbol 91 ∷ p.0) y.0 y.1) (some_is _ _ r.2) (made (up_to_sound 58 p.0 q.0 q.1) (up_to_sound 93 q.0.1 r.0 r.1)))

pub bounds_complete : {ws rest : List Word} {b : Bounds} → BoundsAre ws b rest → bounds_at ws ≡ Some (b, rest)
unfolding bounds_at
bounds_complete (made low high) = rw (up_to_complete refl low, up_to_complete refl high) refl

bounds_begin : {ws rest : List Word} {b : Bounds} → BoundsAre ws b rest → begins_symbol 91 ws ≡ true
bounds_begin (made low high) = refl

pub bounds_shorter : {ws rest : List Word} {b : Bounds} → BoundsAre ws b rest → length rest < length ws
bounds_shorter (made low high) = let h = upto_shorter low in let k = upto_shorter high in omega arith

if_bounds_step : (ws : List Word) (x : Bounds × List Word) (b : Bool) → begins_symbol 91 ws ≡ b → cond b (bounds_at ws) (Some (record { low = Some (pos 0); high = None }, ws)) ≡ Some x → IfBounds ws x.0 x.1
if_bounds_step ws x true e h = there (bounds_sound ws x h)
if_bounds_step ws x false e h = subst (λ (y : Bounds × List Word). IfBounds ws y.0 y.1) (some_is _ _ h) (absent e)

pub if_bounds_sound : (ws : List Word) (x : Bounds × List Word) → if_bounds ws ≡ Some x → IfBounds ws x.0 x.1
unfolding if_bounds
if_bounds_sound ws x h = if_bounds_step ws x (begins_symbol 91 ws) refl h

pub if_bounds_complete : {ws rest : List Word} {b : Bounds} → IfBounds ws b rest → if_bounds ws ≡ Some (b, rest)
unfolding if_bounds
if_bounds_complete (there g) = rw (bounds_begin g) (bounds_complete g)
if_bounds_complete (absent e) = rw e refl

pub if_bounds_shorter : {ws rest : List Word} {b : Bounds} → IfBounds ws b rest → length rest ≤ length ws
if_bounds_shorter (there g) = let h = bounds_shorter g in omega arith
if_bounds_shorter (absent e) = omega arith

-- ---- aggregates

pub aggregate_sound : (n : List ℕ) (w : AggregateWord) (ws : List Word) (x : Aggregate × List Word) → type_word_of n ≡ types.Aggregate w → aggregate_at w ws ≡ Some x → AggregateIs (name n ∷ ws) x.0 x.1
unfolding array_at list_at set_at bag_at
aggregate_sound n aggregates.Array ws x t h =
    let p = bind_some _ _ _ h in
    let q = bind_some _ _ _ p.2 in
    let b : BoundsAre ws p.0.0 (name (codes "OF") ∷ q.0) = subst (λ (v : List Word). BoundsAre ws p.0.0 v) (word_sound (codes "OF") p.0.1 q.0 q.1) (bounds_sound ws p.0 p.1) in
    subst (λ (y : Aggregate × List Word). AggregateIs (name n ∷ ws) y.0 y.1) (some_is _ _ q.2) (array t b (if_name_sound (codes "OPTIONAL") q.0) (if_name_sound (codes "UNIQUE") (if_name (codes "OPTIONAL") q.0).1))
aggregate_sound n aggregates.List ws x t h =
    let p = bind_some _ _ _ h in
    let q = bind_some _ _ _ p.2 in
    let b : IfBounds ws p.0.0 (name (codes "OF") ∷ q.0) = subst (λ (v : List Word). IfBounds ws p.0.0 v) (word_sound (codes "OF") p.0.1 q.0 q.1) (if_bounds_sound ws p.0 p.1) in
    subst (λ (y : Aggregate × List Word). AggregateIs (name n ∷ ws) y.0 y.1) (some_is _ _ q.2) (list t b (if_name_sound (codes "UNIQUE") q.0))
aggregate_sound n aggregates.Set ws x t h =
    let p = bind_some _ _ _ h in
    let q = bind_some _ _ _ p.2 in
    let b : IfBounds ws p.0.0 (name (codes "OF") ∷ q.0) = subst (λ (v : List Word). IfBounds ws p.0.0 v) (word_sound (codes "OF") p.0.1 q.0 q.1) (if_bounds_sound ws p.0 p.1) in
    subst (λ (y : Aggregate × List Word). AggregateIs (name n ∷ ws) y.0 y.1) (some_is _ _ q.2) (set t b)
aggregate_sound n aggregates.Bag ws x t h =
    let p = bind_some _ _ _ h in
    let q = bind_some _ _ _ p.2 in
    let b : IfBounds ws p.0.0 (name (codes "OF") ∷ q.0) = subst (λ (v : List Word). IfBounds ws p.0.0 v) (word_sound (codes "OF") p.0.1 q.0 q.1) (if_bounds_sound ws p.0 p.1) in
    subst (λ (y : Aggregate × List Word). AggregateIs (name n ∷ ws) y.0 y.1) (some_is _ _ q.2) (bag t b)

-- the words of an aggregate, as they are read
pub record ReadsAggregate (ws : List Word) (a : Aggregate) (rest : List Word) : Type 0 where
  pub first : List ℕ
  pub behind : List Word
  pub word : AggregateWord
  pub parts : ws ≡ name first ∷ behind
  pub says : type_word_of first ≡ types.Aggregate word
  pub reads : aggregate_at word behind ≡ Some (a, rest)

pub aggregate_complete : {ws rest : List Word} {a : Aggregate} → AggregateIs ws a rest → ReadsAggregate ws a rest
unfolding array_at list_at set_at bag_at
aggregate_complete (array {n = n} {ws = ws} t b o u) = record { first = n; behind = ws; word = aggregates.Array; parts = refl; says = t; reads = rw (bounds_complete b, if_name_complete o, if_name_complete u) refl }
aggregate_complete (list {n = n} {ws = ws} t b u) = record { first = n; behind = ws; word = aggregates.List; parts = refl; says = t; reads = rw (if_bounds_complete b, if_name_complete u) refl }
aggregate_complete (set {n = n} {ws = ws} t b) = record { first = n; behind = ws; word = aggregates.Set; parts = refl; says = t; reads = rw (if_bounds_complete b) refl }
aggregate_complete (bag {n = n} {ws = ws} t b) = record { first = n; behind = ws; word = aggregates.Bag; parts = refl; says = t; reads = rw (if_bounds_complete b) refl }

pub aggregate_shorter : {ws rest : List Word} {a : Aggregate} → AggregateIs ws a rest → length rest < length ws
aggregate_shorter (array t b o u) = let h = bounds_shorter b in let i = if_name_shorter o in let j = if_name_shorter u in omega arith
aggregate_shorter (list t b u) = let h = if_bounds_shorter b in let j = if_name_shorter u in omega arith
aggregate_shorter (set t b) = let h = if_bounds_shorter b in omega arith
aggregate_shorter (bag t b) = let h = if_bounds_shorter b in omega arith

-- ---- types that are no aggregates

pub simple_sound : (n : List ℕ) (w : SimpleWord) (ws : List Word) (x : Expr × List Word) → type_word_of n ≡ types.Simple w → simple_at n w ws ≡ Some x → SimpleIs (name n ∷ ws) x.0 x.1
unfolding real_at text_at binary_at width_at
simple_sound n simples.Integer ws x t h = subst (λ (y : Expr × List Word). SimpleIs (name n ∷ ws) y.0 y.1) (some_is _ _ h) (is_integer t)
simple_sound n simples.Number ws x t h = subst (λ (y : Expr × List Word). SimpleIs (name n ∷ ws) y.0 y.1) (some_is _ _ h) (is_number t)
simple_sound n simples.Boolean ws x t h = subst (λ (y : Expr × List Word). SimpleIs (name n ∷ ws) y.0 y.1) (some_is _ _ h) (is_boolean t)
simple_sound n simples.Logical ws x t h = subst (λ (y : Expr × List Word). SimpleIs (name n ∷ ws) y.0 y.1) (some_is _ _ h) (is_logical t)
simple_sound n simples.Real ws x t h =
    let p = bind_some _ _ _ h in
    subst (λ (y : Expr × List Word). SimpleIs (name n ∷ ws) y.0 y.1) (some_is _ _ p.2) (is_real t (if_group_sound ws p.0 p.1))
simple_sound n simples.Text ws x t h =
    let p = bind_some _ _ _ h in
    let q = bind_some _ _ _ p.1 in
    let e : (schema.text (record { count = width_of q.0.0; fixed = (if_name (codes "FIXED") q.0.1).0 }), (if_name (codes "FIXED") q.0.1).1) ≡ x = ap (λ (w : Width × List Word). (schema.text w.0, w.1)) (some_is _ _ q.2) ∙ some_is _ _ p.2 in
    subst (λ (y : Expr × List Word). SimpleIs (name n ∷ ws) y.0 y.1) e (is_text t (if_group_sound ws q.0 q.1) (if_name_sound (codes "FIXED") q.0.1))
simple_sound n simples.Binary ws x t h =
    let p = bind_some _ _ _ h in
    let q = bind_some _ _ _ p.1 in
    let e : (schema.binary (record { count = width_of q.0.0; fixed = (if_name (codes "FIXED") q.0.1).0 }), (if_name (codes "FIXED") q.0.1).1) ≡ x = ap (λ (w : Width × List Word). (schema.binary w.0, w.1)) (some_is _ _ q.2) ∙ some_is _ _ p.2 in
    subst (λ (y : Expr × List Word). SimpleIs (name n ∷ ws) y.0 y.1) e (is_binary t (if_group_sound ws q.0 q.1) (if_name_sound (codes "FIXED") q.0.1))
simple_sound n simples.Named ws x t h = subst (λ (y : Expr × List Word). SimpleIs (name n ∷ ws) y.0 y.1) (some_is _ _ h) (is_named t)

-- the words of a type that is no aggregate, as they are read
pub record ReadsSimple (ws : List Word) (e : Expr) (rest : List Word) : Type 0 where
  pub first : List ℕ
  pub behind : List Word
  pub word : SimpleWord
  pub parts : ws ≡ name first ∷ behind
  pub says : type_word_of first ≡ types.Simple word
  pub reads : simple_at first word behind ≡ Some (e, rest)

pub simple_complete : {ws rest : List Word} {e : Expr} → SimpleIs ws e rest → ReadsSimple ws e rest
unfolding real_at text_at binary_at width_at
simple_complete (is_integer {n = n} {rest = rest} t) = record { first = n; behind = rest; word = simples.Integer; parts = refl; says = t; reads = refl }
simple_complete (is_number {n = n} {rest = rest} t) = record { first = n; behind = rest; word = simples.Number; parts = refl; says = t; reads = refl }
simple_complete (is_boolean {n = n} {rest = rest} t) = record { first = n; behind = rest; word = simples.Boolean; parts = refl; says = t; reads = refl }
simple_complete (is_logical {n = n} {rest = rest} t) = record { first = n; behind = rest; word = simples.Logical; parts = refl; says = t; reads = refl }
simple_complete (is_real {n = n} {ws = ws} t g) = record { first = n; behind = ws; word = simples.Real; parts = refl; says = t; reads = rw (if_group_complete g) refl }
simple_complete (is_text {n = n} {ws = ws} t g f) = record { first = n; behind = ws; word = simples.Text; parts = refl; says = t; reads = rw (if_group_complete g, if_name_complete f) refl }
simple_complete (is_binary {n = n} {ws = ws} t g f) = record { first = n; behind = ws; word = simples.Binary; parts = refl; says = t; reads = rw (if_group_complete g, if_name_complete f) refl }
simple_complete (is_named {n = n} {rest = rest} t) = record { first = n; behind = rest; word = simples.Named; parts = refl; says = t; reads = refl }

pub simple_shorter : {ws rest : List Word} {e : Expr} → SimpleIs ws e rest → length rest < length ws
simple_shorter (is_integer t) = omega arith
simple_shorter (is_number t) = omega arith
simple_shorter (is_boolean t) = omega arith
simple_shorter (is_logical t) = omega arith
simple_shorter (is_real t g) = let h = if_group_shorter g in omega arith
simple_shorter (is_text t g f) = let h = if_group_shorter g in let k = if_name_shorter f in omega arith
simple_shorter (is_binary t g f) = let h = if_group_shorter g in let k = if_name_shorter f in omega arith
simple_shorter (is_named t) = omega arith

-- ---- types

flat_sound : (n : List ℕ) (w : TypeWord) (ws : List Word) (x : Expr × List Word) → type_word_of n ≡ w → flat_at n w ws ≡ Some x → ExprIs 0 (name n ∷ ws) x.0 x.1
flat_sound n (types.Simple w) ws x t h = simple (simple_sound n w ws x t h)
flat_sound n (types.Aggregate w) ws x t h = absurd cc

nested_sound : (left : ℕ) (n : List ℕ) (w : TypeWord) (ws : List Word) (x : Expr × List Word) → ((vs : List Word) (y : Expr × List Word) → expr_at left vs ≡ Some y → ExprIs left vs y.0 y.1) → type_word_of n ≡ w → nested_at (expr_at left) n w ws ≡ Some x → ExprIs (suc left) (name n ∷ ws) x.0 x.1
nested_sound left n (types.Simple w) ws x again t h = simple (simple_sound n w ws x t h)
nested_sound left n (types.Aggregate w) ws x again t h =
    let p = bind_some _ _ _ h in
    let q = bind_some _ _ _ p.2 in
    subst (λ (y : Expr × List Word). ExprIs (suc left) (name n ∷ ws) y.0 y.1) (some_is _ _ q.2) (nested (aggregate_sound n w ws p.0 t p.1) (again p.0.1 q.0 q.1))

pub expr_sound : (left : ℕ) (ws : List Word) (x : Expr × List Word) → expr_at left ws ≡ Some x → ExprIs left ws x.0 x.1
unfolding expr_at
expr_sound zero ws x h =
    let p = bind_some _ _ _ h in
    rw (name_sound ws p.0 p.1) (flat_sound p.0.0 (type_word_of p.0.0) p.0.1 x refl p.2)
expr_sound (suc left) ws x h =
    let p = bind_some _ _ _ h in
    rw (name_sound ws p.0 p.1) (nested_sound left p.0.0 (type_word_of p.0.0) p.0.1 x (expr_sound left) refl p.2)

pub expr_complete : {left : ℕ} {ws rest : List Word} {e : Expr} → ExprIs left ws e rest → expr_at left ws ≡ Some (e, rest)
expr_complete {left = left} {ws = ws} (simple s) =
    let r = simple_complete s in
    expr_simple left ws r.first r.behind r.word (ap name_at r.parts) r.says ∙ r.reads
expr_complete {ws = ws} (nested {left = left} {mid = mid} {a = a} s e) =
    let r = aggregate_complete s in
    let k : suc left - 1 ≡ left = omega arith in
    expr_nested (suc left) ws r.first r.behind r.word (λ z. absurd cc) (ap name_at r.parts) r.says ∙ rw (r.reads, k, expr_complete e) refl

pub expr_shorter : {left : ℕ} {ws rest : List Word} {e : Expr} → ExprIs left ws e rest → length rest < length ws
expr_shorter (simple s) = simple_shorter s
expr_shorter (nested s e) = let h = aggregate_shorter s in let k = expr_shorter e in omega arith

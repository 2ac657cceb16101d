-- What an INVERSE attribute states, by the rule of its bounds.
use Rattle.std.proofs.Common.{◌≡◌, ◌≢◌, List, [], ℕ, ◌∷◌, None, Some, Option, Result, Ok, Err, refl, sym, ap, subst}
use Rattle.std.specs.Prelude.{IfErr, IfOk, slice_get}
use Rattle.p21_express.specs.Answer.{OnRefusal}
use Rattle.p21_express.specs.Schema.{Schema}
use Rattle.p21_express.specs.declared.error.SchemaError.{SchemaError}
use Rattle.p21_express.specs.declared.error.SchemaError.TheVariants as errors
use Rattle.p21_schema.specs.Place.{entity_name}
use Rattle.p21_schema.specs.Row.{attribute_at}
use Rattle.p21_schema.specs.declared.ids.AttrId.{AttrId}
use Rattle.p21_schema.specs.declared.ids.EntityId.{EntityId}
use Rattle.p21_rules.specs.declared.rule.InverseRule.{InverseRule}
use Rattle.p21_rule_text.specs.Bounds.{any}
use Rattle.p21_rule_text.specs.Clauses.{InverseClause}
use Rattle.p21_rule_text.specs.Entities.{EntityClauses}
use Rattle.p21_rule_text.specs.Resolve.{AreDerivers, IsMeant}
use Rattle.p21_rule_text.specs.Statements.{IsDeclarable, IsInverseRule, IsNamed, IsStatementOf, IsUncounted, States, any_count, below, bounds_of_rule, derived_elsewhere, inverse, inverse_passed, inverse_rule, looked_at, within}
use Rattle.p21_rule_text.specs.declared.bounds.Bounds.{Bounds}
use Rattle.p21_rule_text.specs.declared.resolve.Found.{Found}
use Rattle.p21_rule_text.specs.declared.resolve.Found.TheVariants as found
use Rattle.p21_rule_text.specs.declared.statements.PassedOver.{PassedOver}
use Rattle.p21_rule_text.specs.declared.statements.RuleKind.TheVariants as kind
use Rattle.p21_rule_text.specs.declared.statements.Statement.{Statement}
use Rattle.p21_rule_text.specs.declared.statements.Statement.TheVariants as statement

-- lack of memory says nothing of the clause
pub of_memory : {X : Type 0} (r : Result X SchemaError) (P : Type 0) → IfErr r (λ e. e ≡ errors.Memory) → IfErr r (λ e. OnRefusal e P)
of_memory (Ok x) P h = tt
of_memory (Err e) P h = subst (λ (u : SchemaError). OnRefusal u P) (sym h) tt

-- that a clause is skipped, with these in it
abbrev pub IsPassing : InverseClause → EntityId → (attribute subtype : List ℕ) → Statement → Type 0
IsPassing c e n m t = (p : PassedOver) × (t ≡ statement.PassedOver p) × (p.kind ≡ kind.Inverse) × (p.entity ≡ e) × (p.label.items ≡ c.name.name) × (p.attribute.items ≡ n) × (p.subtype.items ≡ m)

pub passing : {E : Type 0} (s : Schema) (es : List EntityClauses) (e : List ℕ) (entity source : EntityId) (c : InverseClause) (f : Found) (n m : List ℕ) (r : Result Statement E) → IsNamed s e entity → IsDeclarable s es entity c.name → IsNamed s c.source source → IsMeant s es source c.attribute f → IsUncounted s source c.attribute.name c.bounds f n m → IfOk r (IsPassing c entity n m) → IfOk r (States s es (inverse e c))
passing s es e entity source c f n m (Err x) known declarable of meant uncounted made = tt
passing s es e entity source c f n m (Ok t) known declarable of meant uncounted made =
    let p = made.0 in
    subst (States s es (inverse e c)) (sym made.1) (inverse_passed {c = c} {p = p} (record {
      kind = made.2;
      entity = subst (IsNamed s e) (sym made.3) known;
      label = made.4;
      declarable = subst (λ (i : EntityId). IsDeclarable s es i c.name) (sym made.3) declarable;
      source = source;
      is_source = of;
      found = f;
      is_meant = meant;
      uncounted = subst (IsUncounted s source c.attribute.name c.bounds f p.attribute.items) (sym made.6) (subst (λ (l : List ℕ). IsUncounted s source c.attribute.name c.bounds f l m) (sym made.5) uncounted);
    }))

-- the first entity below the one that refers derives the attribute
pub passing_below : {E : Type 0} (s : Schema) (c : InverseClause) (rule : InverseRule) (o : EntityId) (os : List EntityId) (r : Result Statement E) → ¬ (bounds_of_rule rule ≡ any rule.is_bag) → AreDerivers s rule.source (attribute_at s rule.attribute) (o ∷ os) → IfOk r (IsPassing c rule.entity c.attribute.name (entity_name s o)) → IfOk r (IsStatementOf s c rule)
passing_below s c rule o os (Err x) other are made = tt
passing_below s c rule o os (Ok t) other are made = subst (IsStatementOf s c rule) (sym made.1) (below {o = o} {os = os} made.0 other are made.2 made.3 made.4 made.5 made.6)

uncounted_below : (s : Schema) (source : EntityId) (n m k : List ℕ) (bounds : Option Bounds) (b : Bounds) (a : AttrId) (o : EntityId) (os : List EntityId) → bounds ≡ Some b → m ≡ n → k ≡ entity_name s o → b ≢ any b.is_bag → AreDerivers s source (attribute_at s a) (o ∷ os) → IsUncounted s source n bounds (found.Explicit a) m k
uncounted_below s source n m k bounds b a o os is_b is_m is_k other are =
    subst (λ (u : Option Bounds). IsUncounted s source n u (found.Explicit a) m k) (sym is_b)
    (subst (λ (u : List ℕ). IsUncounted s source n (Some b) (found.Explicit a) u k) (sym is_m)
    (subst (λ (u : List ℕ). IsUncounted s source n (Some b) (found.Explicit a) n u) (sym is_k) (derived_elsewhere {b = b} {a = a} {o = o} {os = os} other are)))

states : (s : Schema) (es : List EntityClauses) (n : List ℕ) (c : InverseClause) (r : InverseRule) (t : Statement) → IsInverseRule s es n c r → IsStatementOf s c r t → States s es (inverse n c) t
states s es n c r t rule (looked_at counted name) = inverse_rule {c = c} {r = r} rule counted name
states s es n c r t rule (within is_any) = any_count {c = c} {r = r} rule is_any
states s es n c r t rule (below {o = o} {os = os} p other are is_kind entity label attribute subtype) = inverse_passed {c = c} {p = p} (record {
  kind = is_kind;
  entity = subst (IsNamed s n) (sym entity) rule.entity;
  label = label;
  declarable = subst (λ (i : EntityId). IsDeclarable s es i c.name) (sym entity) rule.declarable;
  source = r.source;
  is_source = rule.source;
  found = found.Explicit r.attribute;
  is_meant = rule.attribute;
  uncounted = uncounted_below s r.source c.attribute.name p.attribute.items p.subtype.items c.bounds (bounds_of_rule r) r.attribute o os rule.bounds attribute subtype other are;
})

-- what is stated of the rule is stated of the clause
pub stated : {E : Type 0} (s : Schema) (es : List EntityClauses) (n : List ℕ) (c : InverseClause) (rule : InverseRule) (r : Result Statement E) → IsInverseRule s es n c rule → IfOk r (IsStatementOf s c rule) → IfOk r (States s es (inverse n c))
stated s es n c rule (Err x) is h = tt
stated s es n c rule (Ok t) is h = states s es n c rule t is h

-- ---- the first of some entities

pub first_of : (xs : List EntityId) (o : EntityId) → Some o ≡ slice_get xs 0 → (os : List EntityId) × (xs ≡ o ∷ os)
first_of [] o h = absurd cc
first_of (x ∷ xs) o h = let same : x ≡ o = cc in (xs, ap (λ (u : EntityId). u ∷ xs) same)

pub none_of : (xs : List EntityId) → None ≡ slice_get xs 0 → xs ≡ []
none_of [] h = refl
none_of (x ∷ xs) h = absurd cc

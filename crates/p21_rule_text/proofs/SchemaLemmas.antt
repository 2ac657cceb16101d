-- What is stated is of the schema.
use Rattle.std.proofs.Common.{◌<◌, ℕ, zero, suc, List, [], ◌∷◌, ◌++◌, length, slice_index_or, sym, subst, arith}
use Rattle.std.specs.List.{AllByRecursion, AllZip, flat_map}
use Rattle.std.proofs.lemmas.List.Concat.{flat_map-cons}
use Rattle.p21_express.specs.Grammar.{Naming}
use Rattle.p21_express.specs.Schema.{Schema}
use Rattle.p21_rules.specs.InverseCount.{AreInverseRulesOf, IsInverseRuleOf}
use Rattle.p21_rules.specs.NotUnique.{AreRulesOf, IsRuleOf}
use Rattle.p21_rules.specs.declared.rule.UniqueRule.{UniqueRule}
use Rattle.p21_schema.specs.Place.{IsEntityOf}
use Rattle.p21_schema.specs.Row.{IsAttributeOf}
use Rattle.p21_schema.specs.declared.ids.AttrId.{AttrId}
use Rattle.p21_schema.specs.declared.ids.EntityId.{EntityId}
use Rattle.p21_rule_text.specs.Entities.{EntityClauses}
use Rattle.p21_rule_text.specs.Resolve.{IsAmong, IsAttribute, IsMeant}
use Rattle.p21_rule_text.specs.Rules.{AreStated, inverse_in, unique_in}
use Rattle.p21_rule_text.specs.Statements.{AreExplicit, Clause, States, any_count, inverse_passed, inverse_rule, unique_passed, unique_rule}
use Rattle.p21_rule_text.specs.declared.rules.Rules.{Rules}
use Rattle.p21_rule_text.specs.declared.resolve.Found.{Found}
use Rattle.p21_rule_text.specs.declared.resolve.Found.TheVariants as found
use Rattle.p21_rule_text.specs.declared.statements.Statement.{Statement}

-- each item, by its place
pub each : {X : Type 0} (P : X → Type 0) (xs : List X) → AllByRecursion P xs → (k : ℕ) (d : X) → k < length xs → P (slice_index_or xs k d)
each P [] all k d l = absurd (omega arith)
each P (x ∷ xs) all zero d l = all.0
each P (x ∷ xs) all (suc k) d l = each P xs all.1 k d (omega arith)

all_in_both : {X : Type 0} (P : X → Type 0) (xs ys : List X) → AllByRecursion P xs → AllByRecursion P ys → AllByRecursion P (xs ++ ys)
all_in_both P [] ys all more = more
all_in_both P (x ∷ xs) ys all more = (all.0, all_in_both P xs ys all.1 more)

-- what holds of what each clause states holds of all
of_statements : {X : Type 0} (P : X → Type 0) (f : Statement → List X) (s : Schema) (es : List EntityClauses) → ((c : Clause) (t : Statement) → States s es c t → AllByRecursion P (f t)) → (cs : List Clause) (ts : List Statement) → AllZip (States s es) cs ts → AllByRecursion P (flat_map f ts)
of_statements P f s es one [] [] all = tt
of_statements P f s es one [] (t ∷ ts) all = absurd all
of_statements P f s es one (c ∷ cs) [] all = absurd all
of_statements P f s es one (c ∷ cs) (t ∷ ts) all = subst (AllByRecursion P) (sym (flat_map-cons f t ts)) (all_in_both P (f t) (flat_map f ts) (one c t all.0) (of_statements P f s es one cs ts all.1))

-- ---- attributes

-- an explicit attribute is of the schema
abbrev IsOfSchema : Schema → Found → Type 0
IsOfSchema s (found.Explicit a) = IsAttributeOf s a
IsOfSchema s found.Other = Unit {0}
IsOfSchema s found.Nothing = Unit {0}

attribute_of : (s : Schema) (e : EntityId) (a : AttrId) (f : Found) → IsAttributeOf s a → IsAttribute s e a f → IsOfSchema s f
attribute_of s e a _ known (IsAttribute.not_derived n) = known
attribute_of s e a _ known (IsAttribute.is_derived d) = tt

among_of : (s : Schema) (es : List EntityClauses) (e o : EntityId) (n : List ℕ) (f : Found) → IsAmong s es e o n f → IsOfSchema s f
among_of s es e o n f (IsAmong.own {a = a} h x) = attribute_of s e a f h.0 x
among_of s es e o n _ (IsAmong.new none d) = tt
among_of s es e o n f (IsAmong.again {a = a} none h x) = attribute_of s e a f h.own.0 x
among_of s es e o n _ (IsAmong.again_other none m d) = tt
among_of s es e o n _ (IsAmong.nothing none m d) = tt

found_of : (s : Schema) (es : List EntityClauses) (e : EntityId) (x : Naming) (f : Found) → IsMeant s es e x f → IsOfSchema s f
found_of s es e x f (IsMeant.by {o = o} h a) = among_of s es e o x.name f a
found_of s es e x _ (IsMeant.none m) = tt

explicit_of : (s : Schema) (es : List EntityClauses) (e : EntityId) (xs : List Naming) (ids : List AttrId) → AreExplicit s es e xs ids → AllByRecursion (IsAttributeOf s) ids
explicit_of s es e [] [] all = tt
explicit_of s es e [] (a ∷ ids) all = absurd all
explicit_of s es e (x ∷ xs) [] all = absurd all
explicit_of s es e (x ∷ xs) (a ∷ ids) all = (found_of s es e x (found.Explicit a) all.0, explicit_of s es e xs ids all.1)

pub is_attribute : (s : Schema) (es : List EntityClauses) (e : EntityId) (x : Naming) (a : AttrId) → IsMeant s es e x (found.Explicit a) → IsAttributeOf s a
is_attribute s es e x a meant = found_of s es e x (found.Explicit a) meant

-- ---- rules

-- a rule UNIQUE of explicit attributes is of the schema
pub is_rule : (s : Schema) (es : List EntityClauses) (xs : List Naming) (r : UniqueRule) → IsEntityOf s r.entity → AreExplicit s es r.entity xs r.attributes.items → IsRuleOf s r
is_rule s es xs r known explicit = record { entity = known; attributes = each (IsAttributeOf s) r.attributes.items (explicit_of s es r.entity xs r.attributes.items explicit) }

unique_of : (s : Schema) (es : List EntityClauses) (c : Clause) (t : Statement) → States s es c t → AllByRecursion (IsRuleOf s) (unique_in t)
unique_of s es c t (unique_rule {c = clause} {r = r} rule label told) = (is_rule s es clause.names r rule.entity.known rule.attributes, tt)
unique_of s es c t (unique_passed passed) = tt
unique_of s es c t (inverse_rule rule bounds name) = tt
unique_of s es c t (any_count rule any) = tt
unique_of s es c t (inverse_passed passed) = tt

inverse_of : (s : Schema) (es : List EntityClauses) (c : Clause) (t : Statement) → States s es c t → AllByRecursion (IsInverseRuleOf s) (inverse_in t)
inverse_of s es c t (unique_rule rule label told) = tt
inverse_of s es c t (unique_passed passed) = tt
inverse_of s es c t (inverse_rule {c = clause} {r = r} rule counted name) = (record { entity = rule.entity.known; source = rule.source.known; attribute = found_of s es r.source clause.attribute (found.Explicit r.attribute) rule.attribute }, tt)
inverse_of s es c t (any_count rule any) = tt
inverse_of s es c t (inverse_passed passed) = tt

-- the rules UNIQUE that clauses state
pub unique_rules : (s : Schema) (es : List EntityClauses) (cs : List Clause) (rules : Rules) → AreStated s es cs rules → AreRulesOf s rules.unique.items
unique_rules s es cs rules are = subst (AreRulesOf s) (sym are.listed.unique) (each (IsRuleOf s) _ (of_statements (IsRuleOf s) unique_in s es (unique_of s es) cs are.statements are.states))

-- the bounds that they state
pub inverse_rules : (s : Schema) (es : List EntityClauses) (cs : List Clause) (rules : Rules) → AreStated s es cs rules → AreInverseRulesOf s rules.inverse.items
inverse_rules s es cs rules are = subst (AreInverseRulesOf s) (sym are.listed.inverse) (each (IsInverseRuleOf s) _ (of_statements (IsInverseRuleOf s) inverse_in s es (inverse_of s es) cs are.statements are.states))

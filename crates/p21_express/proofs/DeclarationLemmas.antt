-- Entities, types and the schema: what is read is in the grammar, and what is in the grammar is read.
use Rattle.std.proofs.Common.{◌≡◌, ℕ, suc, ◌<◌, ◌≤◌, Bool, true, false, cond, List, [], ◌∷◌, length, Option, Some, None, refl, sym, ap, subst, ◌∙◌, arith}
use Rattle.std.specs.Prelude.{codes}
use Rattle.std.specs.Str.{bytes_eq}
use Rattle.std.proofs.lemmas.Slice.Eq.{bytes_eq-Decides}
use Rattle.p21_express.specs.declared.keywords.UnderWord.{UnderWord}
use Rattle.p21_express.specs.declared.keywords.UnderWord.TheVariants as unders
use Rattle.p21_express.specs.declared.keywords.DeclWord.{DeclWord}
use Rattle.p21_express.specs.declared.keywords.DeclWord.TheVariants as decls
use Rattle.p21_express.specs.Keywords.{under_word_of, decl_word_of, is_rules_word}
use Rattle.p21_express.specs.Word.{Word, name, symbol, begins_name, begins_symbol}
use Rattle.p21_express.specs.Schema.{Schema, Entity, Attribute, Derived, Defined, Underlying}
use Rattle.p21_express.specs.Grammar.{Group, Ends, ExprIs, Many, none, IfName, Naming, NamingIs, NextNaming, AttributesAre, DerivedIs, DerivesAre, RulesEnd, SupertypeIs, SubtypeIs, EntityIs, UnderIs, TypeEnds, TypeIs, Declaration, DeclarationIs, SchemaIs, made, there, absent, some, abstract_of, abstract_alone, supertype_of, enumeration, select, plain, entity, type, function, procedure, rule, constant, skipped, attributes_of, joined, entities_of, types_of, begins_rules, ends_attributes, deepest}
use Rattle.p21_express.specs.Reader.{◌>>=◌, name_at, word_at, symbol_at, if_name, ends_at, names_at, next_naming, namings_at, attributes_at, all_attributes_at, derived_at, all_derived_at, derives_at, rules_end, of_group, abstract_at, supertype_at, subtype_at, entity_at, enumeration_at, select_at, plain_at, under_by, under_at, type_ends, type_at, skipped_at, declaration_by, declaration_at, declarations_at, ended, schema_at}
use Rattle.p21_express.proofs.WordLemmas.{bind_some, some_is, symbol_sound, word_sound, name_sound}
use Rattle.p21_express.proofs.SkipLemmas.{behind_sound, upto_complete, upto_shorter, ends_sound, ends_complete, ends_shorter}
use Rattle.p21_express.proofs.GrammarLemmas.{many_sound, many_complete, many_shorter, names_sound, names_complete, names_shorter, naming_sound, naming_complete, naming_shorter, next_naming_sound, next_naming_complete, next_naming_shorter}
use Rattle.p21_express.proofs.TypeLemmas.{if_name_sound, if_name_complete, if_name_absent, if_name_shorter, group_sound, group_complete, group_shorter, expr_sound, expr_complete, expr_shorter}

-- ---- attributes

-- the names of attributes up to their colon, as they are read
pub record ReadsNamings (ws : List Word) (xs : List Naming) (rest : List Word) : Type 0 where
  pub first : Naming
  pub others : List Naming
  pub behind : List Word
  pub parts : first ∷ others ≡ xs
  pub first_is : NamingIs ws first behind
  pub others_are : Many (begins_symbol 58) NextNaming behind others (symbol 58 ∷ rest)

namings_sound : (ws : List Word) (x : List Naming × List Word) → namings_at ws ≡ Some x → ReadsNamings ws x.0 x.1
unfolding namings_at
namings_sound ws x h =
    let p = bind_some _ _ _ h in
    let q = bind_some _ _ _ p.2 in
    let r = bind_some _ _ _ q.2 in
    let m : Many (begins_symbol 58) NextNaming p.0.1 q.0.0 (symbol 58 ∷ r.0) = subst (λ (v : List Word). Many (begins_symbol 58) NextNaming p.0.1 q.0.0 v) (symbol_sound 58 q.0.1 r.0 r.1) (many_sound (begins_symbol 58) next_naming NextNaming next_naming_sound (suc (length p.0.1)) p.0.1 q.0 q.1) in
    let e : (p.0.0 ∷ q.0.0, r.0) ≡ x = some_is _ _ r.2 in
    subst (λ (y : List Naming × List Word). ReadsNamings ws y.0 y.1) e (record { first = p.0.0; others = q.0.0; behind = p.0.1; parts = refl; first_is = naming_sound ws p.0 p.1; others_are = m })

namings_complete : {ws rest behind : List Word} {x : Naming} {xs : List Naming} → NamingIs ws x behind → Many (begins_symbol 58) NextNaming behind xs (symbol 58 ∷ rest) → namings_at ws ≡ Some (x ∷ xs, rest)
unfolding namings_at
namings_complete n m = rw (naming_complete n, many_complete (begins_symbol 58) next_naming NextNaming next_naming_complete next_naming_shorter m) refl

pub attributes_sound : (ws : List Word) (x : List Attribute × List Word) → attributes_at ws ≡ Some x → AttributesAre ws x.0 x.1
unfolding attributes_at
attributes_sound ws x h =
    let p = bind_some _ _ _ h in
    let q = bind_some _ _ _ p.2 in
    let r = bind_some _ _ _ q.2 in
    let n = namings_sound ws p.0 p.1 in
    let o = if_name_sound (codes "OPTIONAL") p.0.1 in
    let e : ExprIs deepest (if_name (codes "OPTIONAL") p.0.1).1 q.0.0 (symbol 59 ∷ r.0) = subst (λ (v : List Word). ExprIs deepest (if_name (codes "OPTIONAL") p.0.1).1 q.0.0 v) (symbol_sound 59 q.0.1 r.0 r.1) (expr_sound deepest (if_name (codes "OPTIONAL") p.0.1).1 q.0 q.1) in
    let t : (attributes_of (n.first ∷ n.others) (if_name (codes "OPTIONAL") p.0.1).0 q.0.0, r.0) ≡ x = ap (λ (ys : List Naming). (attributes_of ys (if_name (codes "OPTIONAL") p.0.1).0 q.0.0, r.0)) n.parts ∙ some_is _ _ r.2 in
    subst (λ (y : List Attribute × List Word). AttributesAre ws y.0 y.1) t (made n.first_is n.others_are o e)

attributes_complete : (ws rest : List Word) (xs : List Attribute) → AttributesAre ws xs rest → attributes_at ws ≡ Some (xs, rest)
unfolding attributes_at
attributes_complete ws rest xs (made n m o e) = rw (namings_complete n m, if_name_complete o, expr_complete e) refl

pub attributes_shorter : (ws rest : List Word) (xs : List Attribute) → AttributesAre ws xs rest → length rest < length ws
attributes_shorter ws rest xs (made n m o e) =
    let a = naming_shorter n in
    let b = many_shorter (begins_symbol 58) next_naming NextNaming next_naming_shorter m in
    let c = if_name_shorter o in
    let d = expr_shorter e in
    omega arith

-- ---- DERIVE

pub derived_sound : (ws : List Word) (x : Derived × List Word) → derived_at ws ≡ Some x → DerivedIs ws x.0 x.1
unfolding derived_at
derived_sound ws x h =
    let p = bind_some _ _ _ h in
    let q = bind_some _ _ _ p.2 in
    let r = bind_some _ _ _ q.2 in
    let n : NamingIs ws p.0.0 (symbol 58 ∷ q.0) = subst (λ (v : List Word). NamingIs ws p.0.0 v) (symbol_sound 58 p.0.1 q.0 q.1) (naming_sound ws p.0 p.1) in
    let u = behind_sound 59 0 q.0 r.0 r.1 in
    subst (λ (y : Derived × List Word). DerivedIs ws y.0 y.1) (some_is _ _ r.2) (made n u.1)

derived_complete : (ws rest : List Word) (d : Derived) → DerivedIs ws d rest → derived_at ws ≡ Some (d, rest)
unfolding derived_at
derived_complete ws rest d (made n u) = rw (naming_complete n, upto_complete refl u) refl

pub derived_shorter : (ws rest : List Word) (d : Derived) → DerivedIs ws d rest → length rest < length ws
derived_shorter ws rest d (made n u) = let a = naming_shorter n in let b = upto_shorter u in omega arith

all_derived_sound : (ws : List Word) (x : List Derived × List Word) → all_derived_at ws ≡ Some x → DerivesAre ws x.0 x.1
unfolding all_derived_at
all_derived_sound ws x h =
    let p = bind_some _ _ _ h in
    rw (word_sound (codes "DERIVE") ws p.0 p.1) (there (many_sound begins_rules derived_at DerivedIs derived_sound (suc (length p.0)) p.0 x p.2))

derives_step : (ws : List Word) (x : List Derived × List Word) (b : Bool) → begins_name (codes "DERIVE") ws ≡ b → cond b (all_derived_at ws) (Some ([], ws)) ≡ Some x → DerivesAre ws x.0 x.1
derives_step ws x true e h = all_derived_sound ws x h
derives_step ws x false e h = subst (λ (y : List Derived × List Word). DerivesAre ws y.0 y.1) (some_is _ _ h) (absent e)

derives_sound : (ws : List Word) (x : List Derived × List Word) → derives_at ws ≡ Some x → DerivesAre ws x.0 x.1
unfolding derives_at
derives_sound ws x h = derives_step ws x (begins_name (codes "DERIVE") ws) refl h

derives_complete : {ws rest : List Word} {ds : List Derived} → DerivesAre ws ds rest → derives_at ws ≡ Some (ds, rest)
unfolding derives_at all_derived_at
derives_complete (there m) = many_complete begins_rules derived_at DerivedIs derived_complete derived_shorter m
derives_complete (absent e) = rw e refl

derives_shorter : {ws rest : List Word} {ds : List Derived} → DerivesAre ws ds rest → length rest ≤ length ws
derives_shorter (there m) = let h = many_shorter begins_rules derived_at DerivedIs derived_shorter m in omega arith
derives_shorter (absent e) = omega arith

-- ---- rules

rules_step : (n : List ℕ) (ws rest : List Word) (b r : Bool) → bytes_eq n (codes "END_ENTITY") ≡ b → is_rules_word n ≡ r → cond b (Some ws) (cond r (ends_at None (codes "END_ENTITY") 0 ws) None) ≡ Some rest → RulesEnd (name n ∷ ws) rest
rules_step n ws rest true r e f h = rw ((bytes_eq-Decides n (codes "END_ENTITY")).0 e, some_is _ _ h) none
rules_step n ws rest false true e f h = some f (ends_sound None (codes "END_ENTITY") 0 ws rest h)
rules_step n ws rest false false e f h = absurd cc

rules_sound : (ws rest : List Word) → rules_end ws ≡ Some rest → RulesEnd ws rest
unfolding rules_end
rules_sound ws rest h =
    let p = bind_some _ _ _ h in
    rw (name_sound ws p.0 p.1) (rules_step p.0.0 p.0.1 rest (bytes_eq p.0.0 (codes "END_ENTITY")) (is_rules_word p.0.0) refl refl p.2)

not_end : (n : List ℕ) (b : Bool) → bytes_eq n (codes "END_ENTITY") ≡ b → is_rules_word n ≡ true → b ≡ false
unfolding is_rules_word
not_end n false e r = refl
not_end n true e r = absurd (let f : is_rules_word (codes "END_ENTITY") ≡ true = subst (λ (m : List ℕ). is_rules_word m ≡ true) ((bytes_eq-Decides n (codes "END_ENTITY")).0 e) r in cc)

rules_complete : {ws rest : List Word} → RulesEnd ws rest → rules_end ws ≡ Some rest
unfolding rules_end
rules_complete none = refl
rules_complete (some {n = n} r e) = rw (not_end n (bytes_eq n (codes "END_ENTITY")) refl r, r) (ends_complete e)

rules_shorter : {ws rest : List Word} → RulesEnd ws rest → length rest < length ws
rules_shorter none = omega arith
rules_shorter (some r e) = let h = ends_shorter e in omega arith

-- ---- supertypes

of_group_sound : (ws rest : List Word) → of_group ws ≡ Some rest → (tokens mid : List Word) × (ws ≡ name (codes "OF") ∷ mid) × Group mid tokens rest
unfolding of_group
of_group_sound ws rest h =
    let p = bind_some _ _ _ h in
    let q = bind_some _ _ _ p.2 in
    (q.0.0, p.0, word_sound (codes "OF") ws p.0 p.1, subst (λ (v : List Word). Group p.0 q.0.0 v) (some_is _ _ q.2) (group_sound p.0 q.0 q.1))

of_group_complete : {ws tokens rest : List Word} → Group ws tokens rest → of_group (name (codes "OF") ∷ ws) ≡ Some rest
unfolding of_group
of_group_complete g = rw (group_complete g) refl

abstract_step : (ws rest : List Word) (b : Bool) → begins_name (codes "OF") ws ≡ b → cond b (of_group ws) (Some ws) ≡ Some rest → SupertypeIs (name (codes "ABSTRACT") ∷ name (codes "SUPERTYPE") ∷ ws) true rest
abstract_step ws rest true e h = let g = of_group_sound ws rest h in subst (λ (v : List Word). SupertypeIs (name (codes "ABSTRACT") ∷ name (codes "SUPERTYPE") ∷ v) true rest) (sym g.2) (abstract_of g.3)
abstract_step ws rest false e h = subst (λ (v : List Word). SupertypeIs (name (codes "ABSTRACT") ∷ name (codes "SUPERTYPE") ∷ ws) true v) (some_is _ _ h) (abstract_alone e)

abstract_sound : (ws rest : List Word) → abstract_at ws ≡ Some rest → SupertypeIs (name (codes "ABSTRACT") ∷ ws) true rest
unfolding abstract_at
abstract_sound ws rest h =
    let p = bind_some _ _ _ h in
    rw (word_sound (codes "SUPERTYPE") ws p.0 p.1) (abstract_step p.0 rest (begins_name (codes "OF") p.0) refl p.2)

abstract_complete : {ws rest : List Word} → SupertypeIs (name (codes "ABSTRACT") ∷ ws) true rest → abstract_at ws ≡ Some rest
unfolding abstract_at
abstract_complete (abstract_of g) = of_group_complete g
abstract_complete (abstract_alone e) = rw e refl

supertype_second : (ws behind : List Word) (x : Bool × List Word) (c : Bool) → begins_name (codes "ABSTRACT") ws ≡ false → IfName (codes "SUPERTYPE") ws c behind → cond c (of_group behind >>= λ rest. Some (false, rest)) (Some (false, ws)) ≡ Some x → SupertypeIs ws x.0 x.1
supertype_second ws behind x c e there h =
    let p = bind_some _ _ _ h in
    let g = of_group_sound behind p.0 p.1 in
    subst (λ (y : Bool × List Word). SupertypeIs (name (codes "SUPERTYPE") ∷ behind) y.0 y.1) (some_is _ _ p.2) (subst (λ (v : List Word). SupertypeIs (name (codes "SUPERTYPE") ∷ v) false p.0) (sym g.2) (supertype_of g.3))
supertype_second ws behind x c e (absent f) h = subst (λ (y : Bool × List Word). SupertypeIs ws y.0 y.1) (some_is _ _ h) (absent e f)

supertype_first : (ws behind : List Word) (x : Bool × List Word) (b : Bool) → IfName (codes "ABSTRACT") ws b behind → cond b (abstract_at behind >>= λ rest. Some (true, rest)) (cond (if_name (codes "SUPERTYPE") ws).0 (of_group (if_name (codes "SUPERTYPE") ws).1 >>= λ rest. Some (false, rest)) (Some (false, ws))) ≡ Some x → SupertypeIs ws x.0 x.1
supertype_first ws behind x b there h =
    let p = bind_some _ _ _ h in
    subst (λ (y : Bool × List Word). SupertypeIs (name (codes "ABSTRACT") ∷ behind) y.0 y.1) (some_is _ _ p.2) (abstract_sound behind p.0 p.1)
supertype_first ws behind x b (absent e) h = supertype_second ws (if_name (codes "SUPERTYPE") ws).1 x (if_name (codes "SUPERTYPE") ws).0 e (if_name_sound (codes "SUPERTYPE") ws) h

supertype_sound : (ws : List Word) (x : Bool × List Word) → supertype_at ws ≡ Some x → SupertypeIs ws x.0 x.1
unfolding supertype_at
supertype_sound ws x h = supertype_first ws (if_name (codes "ABSTRACT") ws).1 x (if_name (codes "ABSTRACT") ws).0 (if_name_sound (codes "ABSTRACT") ws) h

supertype_complete : {ws rest : List Word} {b : Bool} → SupertypeIs ws b rest → supertype_at ws ≡ Some (b, rest)
unfolding supertype_at
supertype_complete (abstract_of {ws = ws} {rest = rest} g) = let s : SupertypeIs (name (codes "ABSTRACT") ∷ name (codes "SUPERTYPE") ∷ name (codes "OF") ∷ ws) true rest = abstract_of g in rw (abstract_complete s) refl
supertype_complete (abstract_alone {ws = ws} e) = let s : SupertypeIs (name (codes "ABSTRACT") ∷ name (codes "SUPERTYPE") ∷ ws) true ws = abstract_alone e in rw (abstract_complete s) refl
supertype_complete (supertype_of g) = rw (of_group_complete g) refl
supertype_complete {ws = ws} (absent e f) = rw (if_name_absent (codes "ABSTRACT") ws e, if_name_absent (codes "SUPERTYPE") ws f) refl

supertype_shorter : {ws rest : List Word} {b : Bool} → SupertypeIs ws b rest → length rest ≤ length ws
supertype_shorter (abstract_of g) = let h = group_shorter g in omega arith
supertype_shorter (abstract_alone e) = omega arith
supertype_shorter (supertype_of g) = let h = group_shorter g in omega arith
supertype_shorter (absent e f) = omega arith

subtype_step : (ws behind : List Word) (x : List (List ℕ) × List Word) (b : Bool) → IfName (codes "SUBTYPE") ws b behind → cond b (word_at (codes "OF") behind >>= names_at) (Some ([], ws)) ≡ Some x → SubtypeIs ws x.0 x.1
subtype_step ws behind x b there h =
    let p = bind_some _ _ _ h in
    rw (word_sound (codes "OF") behind p.0 p.1) (there (names_sound p.0 x p.2))
subtype_step ws behind x b (absent e) h = subst (λ (y : List (List ℕ) × List Word). SubtypeIs ws y.0 y.1) (some_is _ _ h) (absent e)

subtype_sound : (ws : List Word) (x : List (List ℕ) × List Word) → subtype_at ws ≡ Some x → SubtypeIs ws x.0 x.1
unfolding subtype_at
subtype_sound ws x h = subtype_step ws (if_name (codes "SUBTYPE") ws).1 x (if_name (codes "SUBTYPE") ws).0 (if_name_sound (codes "SUBTYPE") ws) h

subtype_complete : {ws rest : List Word} {ns : List (List ℕ)} → SubtypeIs ws ns rest → subtype_at ws ≡ Some (ns, rest)
unfolding subtype_at
subtype_complete (there m) = names_complete m
subtype_complete {ws = ws} (absent e) = rw (if_name_absent (codes "SUBTYPE") ws e) refl

subtype_shorter : {ws rest : List Word} {ns : List (List ℕ)} → SubtypeIs ws ns rest → length rest ≤ length ws
subtype_shorter (there m) = let h = names_shorter m in omega arith
subtype_shorter (absent e) = omega arith

-- ---- entities

pub entity_sound : (ws : List Word) (x : Entity × List Word) → entity_at ws ≡ Some x → EntityIs ws x.0 x.1
unfolding entity_at all_attributes_at
entity_sound ws x h =
    let n = bind_some _ _ _ h in
    let a = bind_some _ _ _ n.2 in
    let s = bind_some _ _ _ a.2 in
    let m = bind_some _ _ _ s.2 in
    let b = bind_some _ _ _ m.1 in
    let d = bind_some _ _ _ m.2 in
    let r = bind_some _ _ _ d.2 in
    let c = bind_some _ _ _ r.2 in
    let j = bind_some _ _ _ b.2 in
    let k : (joined j.0.0, j.0.1) ≡ m.0 = some_is _ _ j.2 in
    let sub : SubtypeIs a.0.1 s.0.0 (symbol 59 ∷ b.0) = subst (λ (v : List Word). SubtypeIs a.0.1 s.0.0 v) (symbol_sound 59 s.0.1 b.0 b.1) (subtype_sound a.0.1 s.0 s.1) in
    let ends : RulesEnd d.0.1 (symbol 59 ∷ c.0) = subst (λ (v : List Word). RulesEnd d.0.1 v) (symbol_sound 59 r.0 c.0 c.1) (rules_sound d.0.1 r.0 r.1) in
    rw (name_sound ws n.0 n.1) (subst (λ (y : Entity × List Word). EntityIs (name n.0.0 ∷ n.0.1) y.0 y.1) (some_is _ _ c.2) (subst (λ (y : List Attribute × List Word). DerivesAre y.1 d.0.0 d.0.1 → EntityIs (name n.0.0 ∷ n.0.1) (record { name = n.0.0; is_abstract = a.0.0; supertypes = s.0.0; attributes = y.0; derived = d.0.0 }) c.0) k (λ ds. made (supertype_sound n.0.1 a.0 a.1) sub (many_sound ends_attributes attributes_at AttributesAre attributes_sound (suc (length b.0)) b.0 j.0 j.1) ds ends) (derives_sound m.0.1 d.0 d.1)))

pub entity_complete : {ws rest : List Word} {e : Entity} → EntityIs ws e rest → entity_at ws ≡ Some (e, rest)
unfolding entity_at all_attributes_at
entity_complete (made a s m d r) = rw (supertype_complete a, subtype_complete s, many_complete ends_attributes attributes_at AttributesAre attributes_complete attributes_shorter m, derives_complete d, rules_complete r) refl

entity_shorter : {ws rest : List Word} {e : Entity} → EntityIs ws e rest → length rest < length ws
entity_shorter (made a s m d r) =
    let h1 = supertype_shorter a in
    let h2 = subtype_shorter s in
    let h3 = many_shorter ends_attributes attributes_at AttributesAre attributes_shorter m in
    let h4 = derives_shorter d in
    let h5 = rules_shorter r in
    omega arith

-- ---- types with a name

under_step : (n : List ℕ) (w : UnderWord) (ws : List Word) (x : Underlying × List Word) → under_word_of n ≡ w → under_by w (name n ∷ ws) ws ≡ Some x → UnderIs (name n ∷ ws) x.0 x.1
unfolding enumeration_at select_at plain_at
under_step n unders.Enumeration ws x e h =
    let p = bind_some _ _ _ h in
    let q = bind_some _ _ _ p.2 in
    rw (word_sound (codes "OF") ws p.0 p.1) (subst (λ (y : Underlying × List Word). UnderIs (name n ∷ name (codes "OF") ∷ p.0) y.0 y.1) (some_is _ _ q.2) (enumeration e (names_sound p.0 q.0 q.1)))
under_step n unders.Select ws x e h =
    let p = bind_some _ _ _ h in
    subst (λ (y : Underlying × List Word). UnderIs (name n ∷ ws) y.0 y.1) (some_is _ _ p.2) (select e (names_sound ws p.0 p.1))
under_step n unders.Unsupported ws x e h = absurd cc
under_step n unders.Plain ws x e h =
    let p = bind_some _ _ _ h in
    subst (λ (y : Underlying × List Word). UnderIs (name n ∷ ws) y.0 y.1) (some_is _ _ p.2) (plain e (expr_sound deepest (name n ∷ ws) p.0 p.1))

under_sound : (ws : List Word) (x : Underlying × List Word) → under_at ws ≡ Some x → UnderIs ws x.0 x.1
unfolding under_at
under_sound ws x h =
    let p = bind_some _ _ _ h in
    let e = name_sound ws p.0 p.1 in
    let g : under_by (under_word_of p.0.0) (name p.0.0 ∷ p.0.1) p.0.1 ≡ Some x = subst (λ (v : List Word). under_by (under_word_of p.0.0) v p.0.1 ≡ Some x) e p.2 in
    rw e (under_step p.0.0 (under_word_of p.0.0) p.0.1 x refl g)

under_complete : {ws rest : List Word} {u : Underlying} → UnderIs ws u rest → under_at ws ≡ Some (u, rest)
unfolding under_at enumeration_at select_at plain_at
under_complete (enumeration e m) = rw (e, names_complete m) refl
under_complete (select e m) = rw (e, names_complete m) refl
under_complete (plain e t) = rw (e, expr_complete t) refl

under_shorter : {ws rest : List Word} {u : Underlying} → UnderIs ws u rest → length rest < length ws
under_shorter (enumeration e m) = let h = names_shorter m in omega arith
under_shorter (select e m) = let h = names_shorter m in omega arith
under_shorter (plain e t) = expr_shorter t

type_ends_step : (ws behind rest : List Word) (b : Bool) → IfName (codes "WHERE") ws b behind → cond b (ends_at None (codes "END_TYPE") 0 behind) (word_at (codes "END_TYPE") ws) ≡ Some rest → TypeEnds ws rest
type_ends_step ws behind rest b there h = some (ends_sound None (codes "END_TYPE") 0 behind rest h)
type_ends_step ws behind rest b (absent e) h = rw (word_sound (codes "END_TYPE") ws rest h) none

type_ends_sound : (ws rest : List Word) → type_ends ws ≡ Some rest → TypeEnds ws rest
unfolding type_ends
type_ends_sound ws rest h = type_ends_step ws (if_name (codes "WHERE") ws).1 rest (if_name (codes "WHERE") ws).0 (if_name_sound (codes "WHERE") ws) h

type_ends_complete : {ws rest : List Word} → TypeEnds ws rest → type_ends ws ≡ Some rest
unfolding type_ends
type_ends_complete none = refl
type_ends_complete (some e) = ends_complete e

type_ends_shorter : {ws rest : List Word} → TypeEnds ws rest → length rest < length ws
type_ends_shorter none = omega arith
type_ends_shorter (some e) = let h = ends_shorter e in omega arith

pub type_sound : (ws : List Word) (x : Defined × List Word) → type_at ws ≡ Some x → TypeIs ws x.0 x.1
unfolding type_at
type_sound ws x h =
    let n = bind_some _ _ _ h in
    let q = bind_some _ _ _ n.2 in
    let u = bind_some _ _ _ q.2 in
    let s = bind_some _ _ _ u.2 in
    let t = bind_some _ _ _ s.2 in
    let c = bind_some _ _ _ t.2 in
    let under : UnderIs q.0 u.0.0 (symbol 59 ∷ s.0) = subst (λ (v : List Word). UnderIs q.0 u.0.0 v) (symbol_sound 59 u.0.1 s.0 s.1) (under_sound q.0 u.0 u.1) in
    let ends : TypeEnds s.0 (symbol 59 ∷ c.0) = subst (λ (v : List Word). TypeEnds s.0 v) (symbol_sound 59 t.0 c.0 c.1) (type_ends_sound s.0 t.0 t.1) in
    rw (name_sound ws n.0 n.1, symbol_sound 61 n.0.1 q.0 q.1) (subst (λ (y : Defined × List Word). TypeIs (name n.0.0 ∷ symbol 61 ∷ q.0) y.0 y.1) (some_is _ _ c.2) (made under ends))

pub type_complete : {ws rest : List Word} {t : Defined} → TypeIs ws t rest → type_at ws ≡ Some (t, rest)
unfolding type_at
type_complete (made u e) = rw (under_complete u, type_ends_complete e) refl

type_shorter : {ws rest : List Word} {t : Defined} → TypeIs ws t rest → length rest < length ws
type_shorter (made u e) = let h = under_shorter u in let k = type_ends_shorter e in omega arith

-- ---- declarations

skipped_sound : (nests : Option (List ℕ)) (last : List ℕ) (ws : List Word) (x : Declaration × List Word) → skipped_at nests last ws ≡ Some x → (x.0 ≡ skipped) × Ends nests last 0 ws (symbol 59 ∷ x.1)
unfolding skipped_at
skipped_sound nests last ws x h =
    let p = bind_some _ _ _ h in
    let q = bind_some _ _ _ p.2 in
    let e : Ends nests last 0 ws (symbol 59 ∷ q.0) = subst (λ (v : List Word). Ends nests last 0 ws v) (symbol_sound 59 p.0 q.0 q.1) (ends_sound nests last 0 ws p.0 p.1) in
    let t : (skipped, q.0) ≡ x = some_is _ _ q.2 in
    subst (λ (y : Declaration × List Word). (y.0 ≡ skipped) × Ends nests last 0 ws (symbol 59 ∷ y.1)) t (refl, e)

declaration_step : (n : List ℕ) (w : DeclWord) (ws : List Word) (x : Declaration × List Word) → decl_word_of n ≡ w → declaration_by w ws ≡ Some x → DeclarationIs (name n ∷ ws) x.0 x.1
declaration_step n decls.Entity ws x e h =
    let p = bind_some _ _ _ h in
    subst (λ (y : Declaration × List Word). DeclarationIs (name n ∷ ws) y.0 y.1) (some_is _ _ p.2) (entity e (entity_sound ws p.0 p.1))
declaration_step n decls.Type ws x e h =
    let p = bind_some _ _ _ h in
    subst (λ (y : Declaration × List Word). DeclarationIs (name n ∷ ws) y.0 y.1) (some_is _ _ p.2) (type e (type_sound ws p.0 p.1))
declaration_step n decls.Function ws x e h = let s = skipped_sound _ _ ws x h in subst (λ (y : Declaration). DeclarationIs (name n ∷ ws) y x.1) (sym s.0) (function e s.1)
declaration_step n decls.Procedure ws x e h = let s = skipped_sound _ _ ws x h in subst (λ (y : Declaration). DeclarationIs (name n ∷ ws) y x.1) (sym s.0) (procedure e s.1)
declaration_step n decls.Rule ws x e h = let s = skipped_sound _ _ ws x h in subst (λ (y : Declaration). DeclarationIs (name n ∷ ws) y x.1) (sym s.0) (rule e s.1)
declaration_step n decls.Constant ws x e h = let s = skipped_sound _ _ ws x h in subst (λ (y : Declaration). DeclarationIs (name n ∷ ws) y x.1) (sym s.0) (constant e s.1)
declaration_step n decls.Unsupported ws x e h = absurd cc
declaration_step n decls.Unknown ws x e h = absurd cc

pub declaration_sound : (ws : List Word) (x : Declaration × List Word) → declaration_at ws ≡ Some x → DeclarationIs ws x.0 x.1
unfolding declaration_at
declaration_sound ws x h =
    let p = bind_some _ _ _ h in
    rw (name_sound ws p.0 p.1) (declaration_step p.0.0 (decl_word_of p.0.0) p.0.1 x refl p.2)

declaration_complete : (ws rest : List Word) (d : Declaration) → DeclarationIs ws d rest → declaration_at ws ≡ Some (d, rest)
unfolding declaration_at skipped_at
declaration_complete ws rest d (entity w e) = rw (w, entity_complete e) refl
declaration_complete ws rest d (type w t) = rw (w, type_complete t) refl
declaration_complete ws rest d (function w e) = rw (w, ends_complete e) refl
declaration_complete ws rest d (procedure w e) = rw (w, ends_complete e) refl
declaration_complete ws rest d (rule w e) = rw (w, ends_complete e) refl
declaration_complete ws rest d (constant w e) = rw (w, ends_complete e) refl

pub declaration_shorter : (ws rest : List Word) (d : Declaration) → DeclarationIs ws d rest → length rest < length ws
declaration_shorter ws rest d (entity w e) = let h = entity_shorter e in omega arith
declaration_shorter ws rest d (type w t) = let h = type_shorter t in omega arith
declaration_shorter ws rest d (function w e) = let h = ends_shorter e in omega arith
declaration_shorter ws rest d (procedure w e) = let h = ends_shorter e in omega arith
declaration_shorter ws rest d (rule w e) = let h = ends_shorter e in omega arith
declaration_shorter ws rest d (constant w e) = let h = ends_shorter e in omega arith

-- ---- the schema

ended_sound : (ws : List Word) (s t : Schema) → ended ws (Some s) ≡ Some t → (ws ≡ []) × (s ≡ t)
ended_sound [] s t h = (refl, some_is s t h)
ended_sound (w ∷ ws) s t h = absurd cc

declarations_sound : (ws : List Word) (x : (List Entity × List Defined) × List Word) → declarations_at ws ≡ Some x → (ds : List Declaration) × (body : List Word) × (ws ≡ symbol 59 ∷ body) × ((entities_of ds, types_of ds) ≡ x.0) × Many (begins_name (codes "END_SCHEMA")) DeclarationIs body ds x.1
unfolding declarations_at
declarations_sound ws x h =
    let b = bind_some _ _ _ h in
    let d = bind_some _ _ _ b.2 in
    let e : ((entities_of d.0.0, types_of d.0.0), d.0.1) ≡ x = some_is _ _ d.2 in
    let m = many_sound (begins_name (codes "END_SCHEMA")) declaration_at DeclarationIs declaration_sound (suc (length b.0)) b.0 d.0 d.1 in
    (d.0.0, b.0, symbol_sound 59 ws b.0 b.1, ap (λ (y : (List Entity × List Defined) × List Word). y.0) e, subst (λ (y : (List Entity × List Defined) × List Word). Many (begins_name (codes "END_SCHEMA")) DeclarationIs b.0 d.0.0 y.1) e m)

abbrev schema_of : List ℕ → (List Entity × List Defined) → Schema
schema_of n x = record { name = n; entities = x.0; types = x.1; distinct = false }

pub schema_sound : (ws : List Word) (s : Schema) → schema_at ws ≡ Some s → SchemaIs ws s
unfolding schema_at
schema_sound ws s h =
    let f = bind_some (word_at (codes "SCHEMA") ws) (λ first. name_at first >>= λ n. declarations_at n.1 >>= λ ds. word_at (codes "END_SCHEMA") ds.1 >>= λ end. symbol_at 59 end >>= λ rest. ended rest (Some (record { name = n.0; entities = ds.0.0; types = ds.0.1; distinct = false }))) s h in
    let n = bind_some (name_at f.0) (λ n. declarations_at n.1 >>= λ ds. word_at (codes "END_SCHEMA") ds.1 >>= λ end. symbol_at 59 end >>= λ rest. ended rest (Some (record { name = n.0; entities = ds.0.0; types = ds.0.1; distinct = false }))) s f.2 in
    let d = bind_some (declarations_at n.0.1) (λ ds. word_at (codes "END_SCHEMA") ds.1 >>= λ end. symbol_at 59 end >>= λ rest. ended rest (Some (record { name = n.0.0; entities = ds.0.0; types = ds.0.1; distinct = false }))) s n.2 in
    let e = bind_some (word_at (codes "END_SCHEMA") d.0.1) (λ end. symbol_at 59 end >>= λ rest. ended rest (Some (record { name = n.0.0; entities = d.0.0.0; types = d.0.0.1; distinct = false }))) s d.2 in
    let c = bind_some (symbol_at 59 e.0) (λ rest. ended rest (Some (record { name = n.0.0; entities = d.0.0.0; types = d.0.0.1; distinct = false }))) s e.2 in
    let g : ended c.0 (Some (schema_of n.0.0 d.0.0)) ≡ Some s = c.2 in
    let z = ended_sound c.0 (schema_of n.0.0 d.0.0) s g in
    let k = declarations_sound n.0.1 d.0 d.1 in
    let tail : d.0.1 ≡ name (codes "END_SCHEMA") ∷ symbol 59 ∷ [] = word_sound (codes "END_SCHEMA") d.0.1 e.0 e.1 ∙ ap (λ (v : List Word). name (codes "END_SCHEMA") ∷ v) (symbol_sound 59 e.0 c.0 c.1 ∙ ap (λ (v : List Word). symbol 59 ∷ v) z.0) in
    let m : Many (begins_name (codes "END_SCHEMA")) DeclarationIs k.1 k.0 (name (codes "END_SCHEMA") ∷ symbol 59 ∷ []) = subst (λ (v : List Word). Many (begins_name (codes "END_SCHEMA")) DeclarationIs k.1 k.0 v) tail k.4 in
    let same : record { name = n.0.0; entities = entities_of k.0; types = types_of k.0; distinct = false } ≡ s = ap (λ (y : List Entity × List Defined). schema_of n.0.0 y) k.3 ∙ z.1 in
    let whole : SchemaIs (name (codes "SCHEMA") ∷ name n.0.0 ∷ symbol 59 ∷ k.1) s = subst (λ (t : Schema). SchemaIs (name (codes "SCHEMA") ∷ name n.0.0 ∷ symbol 59 ∷ k.1) t) same (made m) in
    rw (word_sound (codes "SCHEMA") ws f.0 f.1, name_sound f.0 n.0 n.1, k.2) whole

pub schema_complete : {ws : List Word} {s : Schema} → SchemaIs ws s → schema_at ws ≡ Some s
unfolding schema_at declarations_at
schema_complete (made m) = rw (many_complete (begins_name (codes "END_SCHEMA")) declaration_at DeclarationIs declaration_complete declaration_shorter m) refl

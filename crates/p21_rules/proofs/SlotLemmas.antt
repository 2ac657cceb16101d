-- The entities of an instance, and its value of an attribute by the declarations that count.
use Rattle.std.proofs.Common.{◌≡◌, ◌↔◌, inl, inr, ◌-◌, ◌<◌, ◌≤◌, ℕ, zero, suc, Bool, true, false, MatchBool, Option, None, Some, Result, Ok, Err, IfOk, List, [], ◌∷◌, ◌++◌, map, take, drop, length, length-append, get_or, refl, sym, ap, subst, ◌∙◌, arith}
use Rattle.std.proofs.lemmas.Bool.{false≢true}
use Rattle.std.specs.Str.{bytes_eq}
use Rattle.std.specs.Cmp.Lexicographic.{bytes_decides}
use Rattle.p21_check.specs.EntitySet.{IsInSet, keywords}
use Rattle.p21_check.specs.EntitySet as members
use Rattle.p21_check.specs.Sets.{AnyIn, CountsAmong, EachIn}
use Rattle.p21_check.specs.Slot.{Counts}
use Rattle.p21_rules.proofs.DeclarationLemmas.{counts_among, counts_there}
use Rattle.p21_express.specs.Schema.{Schema, Entity, Expr}
use Rattle.p21_express.specs.WellFormed.{IsAncestor, IsEntity, IsIn, IsWellFormed, Leads, Origin}
use Rattle.p21_schema.specs.Declaration.{AreDeclarations, Declaration, Form, explicit}
use Rattle.p21_schema.specs.Place.{entity_name, IsEntityOf}
use Rattle.p21_schema.specs.declared.ids.EntityId.{EntityId}
use Rattle.p21_tree.specs.Sentence.{Instance}
use Rattle.p21_tree.specs.Tree.{Tree}
use Rattle.p21_rules.specs.Code.{value_code}
use Rattle.p21_rules.specs.Named.{IsBelow, IsNamed}
use Rattle.p21_rules.specs.Parameter.{IsValueOf, MeansBy}
use Rattle.p21_rules.specs.Pushed.{IsPushed}
use Rattle.p21_rules.specs.Slots.{IsPushedBy, IsPushedOf, MeansCounting, no_declaration}
use Rattle.p21_rules.specs.Value.{Value}
use Rattle.p21_rules.proofs.CodeLemmas.{code_once}
use Rattle.p21_rules.proofs.ParameterLemmas.{is_entity}
use Rattle.p21_rules.proofs.TextLemmas.{whole_rest}
use Rattle.p21_rules.proofs.ValueLemmas.{OneItems, by_once}

-- ---- the entities of an instance

-- a record names the entity where the entity of the record is that one
pub named_this : (s : Schema) → ((a b : EntityId) → IsEntityOf s a → IsEntityOf s b → entity_name s a ≡ entity_name s b → a ≡ b) → (e : EntityId) → IsEntityOf s e → (k : List ℕ) (o : Option EntityId) → IsNamed s k o → (o ≡ Some e) ↔ (entity_name s e ≡ k)
named_this s one e known k None none = (λ f. absurd (cc), λ q. absurd (none (is_entity s e k known q)))
named_this s one e known k (Some d) (h, n) = (λ f. let same : d ≡ e = cc in ap (entity_name s) (sym same) ∙ n, λ q. ap (λ (x : EntityId). Some x) (one d e h known (n ∙ sym q)))

in_names : (f : Entity → List ℕ) (es : List Entity) (e : Entity) → IsIn es e → IsIn (map f es) (f e)
in_names f [] e h = absurd h
in_names f (x ∷ es) e (inl q) = inl (ap f q)
in_names f (x ∷ es) e (inr h) = inr (in_names f es e h)

-- what has an ancestor is an entity
has_ancestor : (s : Schema) (a b : List ℕ) → IsAncestor s a b → IsEntity s a
has_ancestor s _ _ (Leads.one h) = subst (IsEntity s) h.name_is (in_names (λ e. e.name) s.entities h.entity h.declared)
has_ancestor s _ _ (Leads.more h k) = subst (IsEntity s) h.name_is (in_names (λ e. e.name) s.entities h.entity h.declared)

module _ (s : Schema) (i : Instance) (n : List ℕ) (is : IsEntity s n) where
  pub in_complex : i.complex ≡ true → AnyIn (keywords i) (λ k. n ≡ k) ↔ IsInSet s i n
  in_complex c = (λ (k, h, e). members.named (subst (IsIn (keywords i)) (sym e) h) is, back)
    where
      back : IsInSet s i n → AnyIn (keywords i) (λ k. n ≡ k)
      back (members.named h e) = (n, h, refl)
      back (members.ancestor f h a) = absurd (false≢true (sym f ∙ c))

  pub in_simple : i.complex ≡ false → AnyIn (keywords i) (IsBelow s n) ↔ IsInSet s i n
  in_simple c = (there, back)
    where
      there : AnyIn (keywords i) (IsBelow s n) → IsInSet s i n
      there (k, h, (e, inl q)) = members.named (subst (IsIn (keywords i)) q h) is
      there (k, h, (e, inr a)) = members.ancestor c h a

      back : IsInSet s i n → AnyIn (keywords i) (IsBelow s n)
      back (members.named h e) = (n, h, (e, inl refl))
      back (members.ancestor {k} f h a) = (k, h, (has_ancestor s k n a, inr a))

-- ---- the value of a parameter

-- whether bytes are the same
same_bytes : (b : Bool) (xs ys : List ℕ) → b ≡ bytes_eq xs ys → MatchBool b (xs ≡ ys) (¬ (xs ≡ ys))
same_bytes true xs ys e = (bytes_decides xs ys).0 (sym e)
same_bytes false xs ys e = λ q. false≢true (e ∙ (bytes_decides xs ys).1 q)

module _ (one : OneItems) (s : Schema) (w : IsWellFormed s) where
  by_code : (f : Form) (t : Tree) (new own : List ℕ) (same : Bool) (u v : Value) → MeansBy s f t u → new ≡ value_code u → own ≡ value_code v → MatchBool same (new ≡ own) (¬ (new ≡ own)) → MatchBool same (MeansBy s f t v) (¬ (MeansBy s f t v))
  by_code f t new own true u v m e code same = subst (MeansBy s f t) (code_once u v (sym e ∙ same ∙ code)) m
  by_code f t new own false u v m e code other = λ k. other (e ∙ ap value_code (by_once one s w f t u v m k) ∙ sym code)

  -- whether the code that was added is that of a value
  pub value_by : (f : Form) (t : Tree) (old new slice own : List ℕ) (has same : Bool) (v : Value) → old ≡ [] → IsPushedBy s f t old new has → has ≡ true → slice ≡ new → own ≡ value_code v → same ≡ bytes_eq slice own → MatchBool same (MeansBy s f t v) (¬ (MeansBy s f t v))
  value_by f t old new slice own true same v empty (u, m, e) has is code test = by_code f t slice own same u v m (is ∙ e ∙ ap (λ l. l ++ value_code u) empty) code (same_bytes same slice own test)
  value_by f t old new slice own false same v empty none has is code test = absurd (false≢true has)

  pub not_by : (f : Form) (t : Tree) (old new : List ℕ) (has : Bool) (v : Value) → IsPushedBy s f t old new has → has ≡ false → ¬ (MeansBy s f t v)
  not_by f t old new true v pushed has = absurd (false≢true (sym has))
  not_by f t old new false v none has = none v

-- what was added by a declaration that is explicit
pub pushed_by : (s : Schema) (f : Form) (o : Bool) (x : Expr) (t : Tree) (old new : List ℕ) (done : Bool) → f ≡ explicit o x → IsPushed s x t old new done → IsPushedBy s f t old new done
pushed_by s _ o x t old new true e (v, m, code) = (v, subst (λ (g : Form). MeansBy s g t v) (sym e) m, code)
pushed_by s _ o x t old new false e none = λ v m. none v (subst (λ (g : Form). MeansBy s g t v) e m)

-- what was there before is no longer than all
pub no_longer : (s : Schema) (f : Form) (t : Tree) (old new items : List ℕ) (n : ℕ) (has : Bool) → IsPushedBy s f t old new has → has ≡ true → n ≡ length old → items ≡ new → n ≤ length items
no_longer s f t old new items n true (v, m, e) is at same = let both = length-append old (value_code v) in let long : length items ≡ length (old ++ value_code v) = ap length (same ∙ e) in omega (arith, both, long)
no_longer s f t old new items n false none is at same = absurd (false≢true is)

-- what is so where a declaration counts
pub on_counted : {E : Type 0} (r : Result Bool E) {C : Type 0} (M : Type 0) → C → IfOk r (λ is. MatchBool is M (¬ M)) → IfOk r (λ is. MatchBool is (C → M) (¬ (C → M)))
on_counted (Ok true) M c m = λ _. m
on_counted (Ok false) M c n = λ f. n (f c)
on_counted (Err e) M c h = tt

-- ---- bytes after others

pub behind : (old code : List ℕ) (n : ℕ) → n ≡ length old → drop n (old ++ code) ≡ code
behind [] code n e = subst (λ (k : ℕ). drop k code ≡ code) (sym e) refl
behind (b ∷ old) code zero e = absurd (cc)
behind (b ∷ old) code (suc n) e = behind old code n (cc)

-- ---- the value of an attribute

in_list : {X : Type 0} (xs : List X) (k : ℕ) (d : X) → k < length xs → IsIn xs (get_or xs k d)
in_list [] k d h = absurd (omega arith)
in_list (y ∷ ys) zero d h = inl refl
in_list (y ∷ ys) (suc k) d h = inr (in_list ys k d (omega arith))

module _ (one : OneItems) (s : Schema) (w : IsWellFormed s) (i : Instance) (o : Origin) (t : Tree) (ds : List Declaration) (are : AreDeclarations s o ds) where
  abbrev InSet : List ℕ → Type 0
  InSet n = IsInSet s i n

  pub none_counts : ¬ (AnyIn ds (CountsAmong s InSet ds)) → (v : Value) → ¬ (IsValueOf s i o t v)
  none_counts none v h = let k = counts_among s InSet o ds are h.counts in none (h.declaration, k.0, k.1)

  module _ (k : ℕ) (less : k < length ds) (counts : CountsAmong s InSet ds (get_or ds k no_declaration)) where
    counting : Counts s InSet o (get_or ds k no_declaration)
    counting = counts_there s InSet o ds are (in_list ds k no_declaration less) counts

    pub not_pushed : ((v : Value) → ¬ (MeansBy s (get_or ds k no_declaration).form t v)) → (v : Value) → ¬ (IsValueOf s i o t v)
    not_pushed none v h = none v (h.each (get_or ds k no_declaration) counting)

    pub pushed : (old new : List ℕ) (v : Value) (all : Bool) → MeansBy s (get_or ds k no_declaration).form t v → new ≡ old ++ value_code v → MatchBool all (EachIn ds (MeansCounting s InSet ds t v)) (¬ (EachIn ds (MeansCounting s InSet ds t v))) → IsPushedOf s i o t old new all
    pushed old new v true m e agree = (v, record { declaration = get_or ds k no_declaration; counts = counting; each = λ d h. let a = counts_among s InSet o ds are h in agree d a.0 a.1 }, e)
    pushed old new v false m e other = λ u h.
        let same : u ≡ v = by_once one s w (get_or ds k no_declaration).form t u v (h.each (get_or ds k no_declaration) counting) m in
        other (λ d j c. subst (MeansBy s d.form t) same (h.each d (counts_there s InSet o ds are j c)))

    -- the same of the code that was added, where the others agree with it
    pub all_pushed : {E : Type 0} (r : Result Bool E) (old new items : List ℕ) (n : ℕ) (has : Bool) → IsPushedBy s (get_or ds k no_declaration).form t old new has → has ≡ true → n ≡ length old → items ≡ new
        → ((v : Value) → take (length items - n) (drop n items) ≡ value_code v → MeansCounting s InSet ds t v (get_or ds k no_declaration) → IfOk r (λ all. MatchBool all (EachIn ds (MeansCounting s InSet ds t v)) (¬ (EachIn ds (MeansCounting s InSet ds t v)))))
        → IfOk r (IsPushedOf s i o t old new)
    all_pushed (Ok all) old new items n true (v, m, e) is at same agreed = pushed old new v all m e (agreed v (whole_rest items n ∙ ap (drop n) (same ∙ e) ∙ behind old (value_code v) n at) (λ h. m))
    all_pushed (Ok all) old new items n false none is at same agreed = absurd (false≢true is)
    all_pushed (Err x) old new items n has added is at same agreed = tt

-- A parameter is one value, and an instance has one list of values of some attributes.
use Rattle.std.proofs.Common.{◌≡◌, ◌<◌, ◌+◌, ℕ, zero, suc, true, false, List, [], ◌∷◌, ◌++◌, map, take, length, get_or, refl, sym, ap, subst, ◌∙◌, append_assoc, arith}
use Rattle.std.proofs.lemmas.List.{take_more, map-append, append-nil}
use Rattle.p21_text.specs.Items.{Item, ItemsOf}
use Rattle.p21_express.specs.Schema.{Schema, Expr, Aggregate, named}
use Rattle.p21_express.specs.WellFormed.{IsWellFormed, Origin}
use Rattle.p21_tree.specs.Tree.{Tree, Trees}
use Rattle.p21_tree.specs.Sentence.{Instance}
use Rattle.p21_schema.specs.declared.ids.AttrId.{AttrId}
use Rattle.p21_schema.specs.Row.{attribute_at}
use Rattle.p21_rules.specs.Code.{value_code, values_code}
use Rattle.p21_json.specs.Characters.{text_of_items}
use Rattle.p21_rules.specs.Means.{Means, MeanEach}
use Rattle.p21_rules.specs.Means as means
use Rattle.p21_rules.specs.Parameter.{HasValue, HasValues, IsParameterIn, IsValueOf, MeansBy}
use Rattle.p21_rules.specs.Slots.{IsPushedOf}
use Rattle.p21_rules.specs.Text.{IsTextValue, characters, has_replacement, written}
use Rattle.p21_rules.specs.Arranged.{AreArranged}
use Rattle.p21_rules.specs.Elements.{is_ordered}
use Rattle.p21_rules.proofs.ArrangedLemmas.{arranged_once}
use Rattle.p21_rules.proofs.ElementsLemmas.{list_once}
use Rattle.p21_schema.specs.Declaration.{Form, derived, explicit}
use Rattle.p21_rules.specs.Value.{Value, text, gathered, typed, listed}
use Rattle.p21_rules.proofs.ParameterLemmas.{parameter_once, zip_more}

-- a body has one list of items at most
abbrev pub OneItems : Type 0
OneItems = (raw : List ℕ) (xs ys : List Item) → ItemsOf raw xs → ItemsOf raw ys → xs ≡ ys

-- a string is one value
text_once : OneItems → (body : List ℕ) (v u : Value) → IsTextValue body v → IsTextValue body u → v ≡ u
text_once one body _ _ (characters {is} p f) (characters {is = js} q g) = ap (λ l. text (text_of_items l)) (one body is js p q)
text_once one body _ _ (characters {is} p f) (written {is = js} q g) =
    let both : false ≡ true = sym f ∙ ap (λ l. has_replacement (text_of_items l)) (one body is js p q) ∙ g in absurd (cc)
text_once one body _ _ (written {is} p f) (characters {is = js} q g) =
    let both : true ≡ false = sym f ∙ ap (λ l. has_replacement (text_of_items l)) (one body is js p q) ∙ g in absurd (cc)
text_once one body _ _ (written p f) (written q g) = refl

module _ (one : OneItems) (s : Schema) (w : IsWellFormed s) where
  mutual
    value_once : (x : Expr) (t : Tree) (v u : Value) → Means s x t v → Means s x t u → v ≡ u
    value_once x _ _ _ means.integer means.integer = refl
    value_once x _ _ _ (means.real p) (means.real q) = refl
    value_once x _ v u (means.text {t} p) (means.text q) = text_once one t v u p q
    value_once x _ _ _ means.item means.item = refl
    value_once x _ _ _ means.instance means.instance = refl
    value_once x _ _ _ means.binary means.binary = refl
    value_once x _ _ _ (means.list {e = e} {a = a} {ts = ts} {vs = vs} us l p r) (means.list {e = f} {a = b} {vs = ws} zs m q z) =
        let same = list_once s w x b a f e m l in
        let equal : ws ≡ vs = sym (each_once e ts vs ws p (subst (λ (y : Expr). MeanEach s y ts ws) same.1 q)) in
        let order : AreArranged (is_ordered a) vs zs = subst (λ (l : List Value). AreArranged (is_ordered a) l zs) equal (subst (λ (c : Aggregate). AreArranged (is_ordered c) ws zs) same.0 z) in
        ap (λ l. gathered (is_ordered a) (listed l)) (arranged_once (is_ordered a) vs us zs r order) ∙ ap (λ (c : Aggregate). gathered (is_ordered c) (listed zs)) (sym same.0)
    value_once x _ _ _ (means.typed {k = k} {t = t} {v = v} p) (means.typed {v = u} q) = ap (typed k) (value_once (named k) t v u p q)

    each_once : (e : Expr) (ts : Trees) (vs us : List Value) → MeanEach s e ts vs → MeanEach s e ts us → vs ≡ us
    each_once e _ _ _ means.none means.none = refl
    each_once e _ _ _ (means.more {t = t} {ts = ts} {v = v} {vs = vs} p ps) (means.more {v = u} {vs = us} q qs) = ap (λ z. z ∷ vs) (value_once e t v u p q) ∙ ap (λ l. u ∷ l) (each_once e ts vs us ps qs)

  pub by_once : (f : Form) (t : Tree) (v u : Value) → MeansBy s f t v → MeansBy s f t u → v ≡ u
  by_once derived t v u h k = absurd h
  by_once (explicit o x) t v u h k = value_once x t v u h k

module _ (one : OneItems) (s : Schema) (w : IsWellFormed s) (i : Instance) where
  value_of_once : (o : Origin) (v u : Value) → HasValue s i o v → HasValue s i o u → v ≡ u
  value_of_once o v u h k =
      let tree = parameter_once s w i.complex o i.records h.0 k.0 h.1 k.1 in
      let other = subst (λ (t : Tree). IsValueOf s i o t u) (sym tree) k.2 in
      let d = h.2.declaration in
      by_once one s w d.form h.0 v u (h.2.each d h.2.counts) (other.each d h.2.counts)

  pub values_of_once : (os : List Origin) (vs us : List Value) → HasValues s i os vs → HasValues s i os us → vs ≡ us
  values_of_once [] [] [] h k = refl
  values_of_once [] [] (u ∷ us) h k = absurd k
  values_of_once [] (v ∷ vs) us h k = absurd h
  values_of_once (o ∷ os) [] us h k = absurd h
  values_of_once (o ∷ os) (v ∷ vs) [] h k = absurd k
  values_of_once (o ∷ os) (v ∷ vs) (u ∷ us) h k = ap (λ x. x ∷ vs) (value_of_once o v u h.0 k.0) ∙ ap (λ l. u ∷ l) (values_of_once os vs us h.1 k.1)

-- ---- the values of some attributes so far

values_more : (vs : List Value) (v : Value) → values_code (vs ++ v ∷ []) ≡ values_code vs ++ value_code v
values_more [] v = append-nil (value_code v)
values_more (u ∷ vs) v = ap (λ l. value_code u ++ l) (values_more vs v) ∙ sym (append_assoc (value_code u) (values_code vs) (value_code v))

abbrev pub first_id : AttrId
first_id = record { index = 0 }

module _ (s : Schema) (i : Instance) (ids : List AttrId) where
  -- the values of these attributes were added after those bytes
  abbrev pub AreAdded : List AttrId → List ℕ → List ℕ → Type 0
  AreAdded some old new = (vs : List Value) × HasValues s i (map (attribute_at s) some) vs × (new ≡ old ++ values_code vs)

  pub value_added : (k : ℕ) (t : Tree) (old mid new : List ℕ) → k < length ids → AreAdded (take k ids) old mid → IsParameterIn s i.complex (attribute_at s (get_or ids k first_id)) i.records t → IsPushedOf s i (attribute_at s (get_or ids k first_id)) t mid new true → AreAdded (take (k + 1) ids) old new
  value_added k t old mid new less (vs, h, e) p (v, m, f) =
      let more : map (attribute_at s) (take (k + 1) ids) ≡ map (attribute_at s) (take k ids) ++ attribute_at s (get_or ids k first_id) ∷ [] =
      ap (map (attribute_at s)) (take_more ids k first_id less) ∙ map-append (attribute_at s) (take k ids) (get_or ids k first_id ∷ []) in
      let zipped = zip_more (HasValue s i) (map (attribute_at s) (take k ids)) vs (attribute_at s (get_or ids k first_id)) v h (t, p, m) in (
        vs ++ v ∷ [],
        subst (λ (os : List Origin). HasValues s i os (vs ++ v ∷ [])) (sym more) zipped,
        f ∙ ap (λ l. l ++ value_code v) e ∙ append_assoc old (values_code vs) (value_code v) ∙ ap (λ l. old ++ l) (sym (values_more vs v)),
      )

-- each attribute has a value where all have
pub value_there : (s : Schema) (i : Instance) (ids : List AttrId) (k : ℕ) (vs : List Value) → k < length ids → HasValues s i (map (attribute_at s) ids) vs → (v : Value) × HasValue s i (attribute_at s (get_or ids k first_id)) v
value_there s i [] k vs l h = absurd (omega arith)
value_there s i (a ∷ ids) k [] l h = absurd h
value_there s i (a ∷ ids) zero (v ∷ vs) l h = (v, h.0)
value_there s i (a ∷ ids) (suc k) (v ∷ vs) l h = value_there s i ids k vs (omega arith) h.1

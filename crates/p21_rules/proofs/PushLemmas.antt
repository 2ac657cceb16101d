-- What the bytes that were added for a parameter say.
use Rattle.std.proofs.Common.{◌≡◌, ℕ, zero, suc, ◌+◌, ◌<◌, ◌≤◌, length, drop, get_or, arith, Bool, true, false, None, map, List, [], ◌∷◌, ◌++◌, Result, Ok, Err, IfOk, Box, Bor, Vec, Global, refl, sym, ap, subst, ◌∙◌, append_assoc}
use Rattle.std.specs.Prelude.{IsPermutation, IsSorted}
use Rattle.std.specs.Ordering.{nat_cmp}
use Rattle.std.specs.Cmp.Lexicographic.{slice_cmp}
use Rattle.std.proofs.lemmas.List.{append-nil, drop_all, drop_more, map-append}
use Rattle.p21_express.specs.Schema.{Schema, Expr, Aggregate, named}
use Rattle.p21_express.specs.WellFormed.{IsWellFormed}
use Rattle.std.proofs.lemmas.List.Elements.{All-nil, All-cons}
use Rattle.p21_tree.specs.declared.params.Param.{Param, fold-roll-Param}
use Rattle.p21_tree.specs.declared.params.Param.TheOpen as level
use Rattle.p21_tree.specs.declared.params.Param.TheVariants.{Int, Real, Str, Enumeration, Binary, Ref, rolls-Int, rolls-Real, rolls-Str, rolls-Enumeration, rolls-Binary, rolls-Ref}
use Rattle.p21_tree.specs.declared.params.Param.TheViews.{Items, Typed, rolls-Items, rolls-Typed}
use Rattle.p21_text.specs.Spelling.{IsBinaryBody}
use Rattle.p21_tree.specs.Bodies.{HasBodies, HaveBodies, AllHaveBodies}
use Rattle.p21_tree.specs.Plain.{plain, plain_all, plain_level}
use Rattle.p21_tree.specs.Tree.{Tree, Trees}
use Rattle.p21_tree.specs.Tree as tree
use Rattle.p21_rules.specs.Code.{bytes_code, elements_code, number_code, value_code}
use Rattle.p21_rules.specs.Pushed.{AreEachPushed, IsPushed, IsRealPushed, codes_code}
use Rattle.p21_rules.specs.declared.elements.Elements.{Elements}
use Rattle.p21_rules.specs.Arranged.{AreArranged}
use Rattle.p21_rules.specs.Elements.{AreElements, IsElementsOf, IsListOf, is_ordered}
use Rattle.p21_rules.proofs.ArrangedLemmas.{rearranged}
use Rattle.p21_rules.proofs.ElementsLemmas.{list_once}
use Rattle.p21_rules.specs.Means.{Means, MeanEach}
use Rattle.p21_rules.specs.Means as means
use Rattle.p21_rules.specs.Bits.{bits}
use Rattle.p21_rules.specs.Number.{integer_of, real_of, IsNear}
use Rattle.p21_rules.specs.Text.{IsTextValue}
use Rattle.p21_rules.specs.Value.{Value, Values, gathered, listed}
use Rattle.p21_rules.specs.Value as value

-- ---- a parameter as a plain tree

pub plain_int : {p : Param} (v : Bor (List ℕ)) → p ≡ Int v → plain p ≡ tree.int v.now
plain_int {p} v e = ap plain e ∙ ap plain (sym (rolls-Int v)) ∙ fold-roll-Param Tree plain_level (level.Int v)

pub plain_real : {p : Param} (v : Bor (List ℕ)) → p ≡ Real v → plain p ≡ tree.real v.now
plain_real {p} v e = ap plain e ∙ ap plain (sym (rolls-Real v)) ∙ fold-roll-Param Tree plain_level (level.Real v)

pub plain_str : {p : Param} (v : Bor (List ℕ)) → p ≡ Str v → plain p ≡ tree.str v.now
plain_str {p} v e = ap plain e ∙ ap plain (sym (rolls-Str v)) ∙ fold-roll-Param Tree plain_level (level.Str v)

pub plain_enumeration : {p : Param} (v : Bor (List ℕ)) → p ≡ Enumeration v → plain p ≡ tree.enumeration v.now
plain_enumeration {p} v e = ap plain e ∙ ap plain (sym (rolls-Enumeration v)) ∙ fold-roll-Param Tree plain_level (level.Enumeration v)

pub plain_binary : {p : Param} (v : Bor (List ℕ)) → p ≡ Binary v → plain p ≡ tree.binary v.now
plain_binary {p} v e = ap plain e ∙ ap plain (sym (rolls-Binary v)) ∙ fold-roll-Param Tree plain_level (level.Binary v)

pub plain_reference : {p : Param} (n : ℕ) → p ≡ Ref n → plain p ≡ tree.reference n
plain_reference {p} n e = ap plain e ∙ ap plain (sym (rolls-Ref n)) ∙ fold-roll-Param Tree plain_level (level.Ref n)

pub plain_items : {p : Param} (v : Vec Param Global) → p ≡ Items v → plain p ≡ tree.items (plain_all v.items)
plain_items {p} v e = ap plain e ∙ ap plain (sym (rolls-Items v)) ∙ fold-roll-Param Tree plain_level (level.Items v)

pub plain_typed : {p : Param} (k : Bor (List ℕ)) (inner : Box Param Global) → p ≡ Typed k inner → plain p ≡ tree.typed k.now (plain inner.value)
plain_typed {p} k inner e = ap plain e ∙ ap plain (sym (rolls-Typed k inner)) ∙ fold-roll-Param Tree plain_level (level.Typed k inner)

-- ---- what was added

module _ (s : Schema) (x : Expr) where
  pushed : (t u : Tree) (v : Value) (tag : ℕ) (rest old mid new : List ℕ) → t ≡ u → Means s x u v → value_code v ≡ tag ∷ rest → mid ≡ old ++ tag ∷ [] → new ≡ mid ++ rest → IsPushed s x t old new true
  pushed t u v tag rest old mid new e m code first behind = (
    v,
    subst (λ (y : Tree). Means s x y v) (sym e) m,
    behind ∙ ap (λ l. l ++ rest) first ∙ append_assoc old (tag ∷ []) rest ∙ ap (λ l. old ++ l) (sym code),
  )

  pub integer_pushed : (t : Tree) (b old new : List ℕ) → t ≡ tree.int b → new ≡ old ++ value_code (integer_of b) → IsPushed s x t old new true
  integer_pushed t b old new e code = (integer_of b, subst (λ (y : Tree). Means s x y (integer_of b)) (sym e) means.integer, code)

  near_of : (b : List ℕ) (v : Value) → Means s x (tree.real b) v → IsNear b
  near_of b _ (means.real n) = n

  pub real_pushed : (t : Tree) (b old new : List ℕ) (done : Bool) → t ≡ tree.real b → IsRealPushed b old new done → IsPushed s x t old new done
  real_pushed t b old new true e (n, code) = (real_of b, subst (λ (y : Tree). Means s x y (real_of b)) (sym e) (means.real n), code)
  real_pushed t b old new false e far = λ v m. far (near_of b v (subst (λ (y : Tree). Means s x y v) e m))

  pub text_pushed : (t : Tree) (b old new : List ℕ) → t ≡ tree.str b → (v : Value) × IsTextValue b v × (new ≡ old ++ value_code v) → IsPushed s x t old new true
  text_pushed t b old new e (v, is, code) = (v, subst (λ (y : Tree). Means s x y v) (sym e) (means.text is), code)

  pub item_pushed : (t : Tree) (b old mid new : List ℕ) → t ≡ tree.enumeration b → mid ≡ old ++ 3 ∷ [] → new ≡ mid ++ bytes_code b → IsPushed s x t old new true
  item_pushed t b old mid new e first behind = pushed t (tree.enumeration b) (value.item b) 3 (bytes_code b) old mid new e means.item refl first behind

  pub instance_pushed : (t : Tree) (n : ℕ) (old mid new : List ℕ) → t ≡ tree.reference n → mid ≡ old ++ 4 ∷ [] → new ≡ mid ++ number_code n → IsPushed s x t old new true
  instance_pushed t n old mid new e first behind = pushed t (tree.reference n) (value.instance n) 4 (number_code n) old mid new e means.instance refl first behind

  pub binary_pushed : (t : Tree) (b old new : List ℕ) → t ≡ tree.binary b → new ≡ old ++ value_code (value.binary (bits b)) → IsPushed s x t old new true
  binary_pushed t b old new e code = (value.binary (bits b), subst (λ (y : Tree). Means s x y (value.binary (bits b))) (sym e) means.binary, code)

  inner_of : (k : List ℕ) (t : Tree) (v : Value) → Means s x (tree.typed k t) v → (u : Value) × Means s (named k) t u
  inner_of k t _ (means.typed {v = u} m) = (u, m)

  pub typed_pushed : (t u : Tree) (k old mid behind new : List ℕ) (done : Bool) → t ≡ tree.typed k u → mid ≡ old ++ 5 ∷ [] → behind ≡ mid ++ bytes_code k → IsPushed s (named k) u behind new done → IsPushed s x t old new done
  typed_pushed t u k old mid behind new true e first name (v, m, rest) =
      pushed t (tree.typed k u) (value.typed k v) 5 (bytes_code k ++ value_code v) old mid new e (means.typed m) refl first (rest ∙ ap (λ l. l ++ value_code v) name ∙ append_assoc mid (bytes_code k) (value_code v))
  typed_pushed t u k old mid behind new false e first name none = λ v m. let r = inner_of k u v (subst (λ (y : Tree). Means s x y v) e m) in none r.0 r.1

  list_of : (ts : Trees) (v : Value) → Means s x (tree.items ts) v → (a : Aggregate) × (e : Expr) × (vs : List Value) × IsListOf s x a e × MeanEach s e ts vs
  list_of ts _ (means.list {e = e} {a = a} {vs = vs} us l m r) = (a, e, vs, l, m)

  pub no_list : (t : Tree) (ts : Trees) (old new : List ℕ) → t ≡ tree.items ts → AreElements s x None → IsPushed s x t old new false
  no_list t ts old new e none = λ v m. let r = list_of ts v (subst (λ (y : Tree). Means s x y v) e m) in none r.0 r.1 r.3

  pub same_list : (t : Tree) (ts : Trees) (old new : List ℕ) (done : Bool) → t ≡ tree.items ts → IsPushed s x (tree.items ts) old new done → IsPushed s x t old new done
  same_list t ts old new done e h = subst (λ (y : Tree). IsPushed s x y old new done) (sym e) h

  -- the byte in front of the elements
  abbrev tag_of : Bool → ℕ
  tag_of true = 7
  tag_of false = 8

  gathered_code : (o p : Bool) (vs : Values) → o ≡ p → value_code (gathered p vs) ≡ tag_of o ∷ elements_code vs
  gathered_code true true vs e = refl
  gathered_code true false vs e = absurd (cc)
  gathered_code false true vs e = absurd (cc)
  gathered_code false false vs e = refl

  list_pushed_by : IsWellFormed s → (a : Aggregate) (e : Expr) → IsListOf s x a e → (o : Bool) → o ≡ is_ordered a → (ts : Trees) (old tag new : List ℕ) (done : Bool) → tag ≡ old ++ tag_of o ∷ [] → AreEachPushed s e o ts tag new done → IsPushed s x (tree.items ts) old new done
  list_pushed_by w a e l o same ts old tag new true first h =
      pushed (tree.items ts) (tree.items ts) (gathered (is_ordered a) (listed h.arranged)) (tag_of o) (elements_code (listed h.arranged)) old tag new refl (means.list h.arranged l h.mean (subst (λ b. AreArranged b h.values h.arranged) same h.order)) (gathered_code o (is_ordered a) (listed h.arranged) same) first h.added
  list_pushed_by w a e l o same ts old tag new false first h = λ v m.
      let r = list_of ts v m in
      let one = list_once s w x r.0 a r.1 e r.3 l in
      h r.2 (subst (λ (y : Expr). MeanEach s y ts r.2) one.1 r.4)

  pub list_pushed : IsWellFormed s → (found : Elements) (o : Bool) → found.ordered ≡ o → (f : IsElementsOf s x found) (ts : Trees) (old tag new : List ℕ) (done : Bool) → tag ≡ old ++ tag_of o ∷ [] → AreEachPushed s f.element o ts tag new done → IsPushed s x (tree.items ts) old new done
  list_pushed w found o is f ts old tag new done first h = list_pushed_by w f.aggregate_ f.element f.listed o (sym is ∙ f.ordered) ts old tag new done first h

-- its body is a binary's
pub binary_body : (t : Tree) (b : List ℕ) → t ≡ tree.binary b → HasBodies t → IsBinaryBody b
binary_body t b e h = subst HasBodies e h

-- ---- the elements of a list

-- the strings and binaries in a list are those of its elements
pub items_have : (ps : List Param) → HaveBodies (plain_all ps) → AllHaveBodies ps
items_have [] h = All-nil (λ p. HasBodies (plain p))
items_have (p ∷ ps) h = All-cons (λ q. HasBodies (plain q)) p ps h.0 (items_have ps h.1)

module _ (s : Schema) (e : Expr) where
  first_of_each : (t : Tree) (ts : Trees) (vs : List Value) → MeanEach s e (tree.cons t ts) vs → (v : Value) × (us : List Value) × Means s e t v × MeanEach s e ts us
  first_of_each t ts _ (means.more {v = v} {vs = vs} m ms) = (v, vs, m, ms)

  element_means : (ps : List Param) (k : ℕ) (d : Param) (vs : List Value) → k < length ps → MeanEach s e (plain_all ps) vs → (v : Value) × Means s e (plain (get_or ps k d)) v
  element_means [] k d vs l m = absurd (omega arith)
  element_means (p ∷ ps) zero d vs l m = let r = first_of_each (plain p) (plain_all ps) vs m in (r.0, r.2)
  element_means (p ∷ ps) (suc k) d vs l m = let r = first_of_each (plain p) (plain_all ps) vs m in element_means ps k d r.1 (omega arith) r.3

  -- elements have no values where one has none
  pub none_of_each : (ps : List Param) (k : ℕ) (p : Param) (old new : List ℕ) → k < length ps → p ≡ get_or ps k p → IsPushed s e (plain p) old new false → (vs : List Value) → ¬ (MeanEach s e (plain_all ps) vs)
  none_of_each ps k p old new less is none vs m =
      let one = element_means ps k p vs less m in
      none one.0 (subst (λ (q : Param). Means s e (plain q) one.0) (sym is) one.1)

  -- The values of these elements after those that were added are the values of all.
  pub record AreBehind (all : Trees) (old new : List ℕ) (vs : List Value) : Type 0 where
    pub values : List Value
    pub mean : MeanEach s e all values
    pub added : new ++ elements_code (listed vs) ≡ old ++ elements_code (listed values)

  -- the same of all values that the elements from this one on may have
  abbrev pub AreUnderway : List Param → ℕ → List ℕ → List ℕ → Type 0
  AreUnderway ps k old new = (vs : List Value) → MeanEach s e (plain_all (drop k ps)) vs → AreBehind (plain_all ps) old new vs

  pub one_more : (ps : List Param) (k : ℕ) (p : Param) (old mid new : List ℕ) → k < length ps → p ≡ get_or ps k p → AreUnderway ps k old mid → IsPushed s e (plain p) mid new true → AreUnderway ps (k + 1) old new
  one_more ps k p old mid new less is behind (v, m, f) = λ vs ms.
      let here : drop k ps ≡ p ∷ drop (k + 1) ps = drop_more ps k p less ∙ ap (λ (q : Param). q ∷ drop (k + 1) ps) (sym is) in
      let all = behind (v ∷ vs) (subst (λ (l : List Param). MeanEach s e (plain_all l) (v ∷ vs)) (sym here) (means.more m ms)) in
      record { values = all.values; mean = all.mean; added = ap (λ l. l ++ elements_code (listed vs)) f ∙ append_assoc mid (value_code v) (elements_code (listed vs)) ∙ all.added }

  pub all_ordered : (ps : List Param) (k : ℕ) (old mid new : List ℕ) → length ps ≤ k → AreUnderway ps k old mid → new ≡ mid ++ 0 ∷ [] → AreEachPushed s e true (plain_all ps) old new true
  all_ordered ps k old mid new long behind last =
      let all = behind [] (subst (λ (l : List Param). MeanEach s e (plain_all l) []) (sym (drop_all k ps long)) means.none) in
      record { values = all.values; arranged = all.values; mean = all.mean; order = refl; added = last ∙ all.added }

  -- ---- without order

  -- the same of codes that stand in a list of their own
  pub record AreAmong (all : Trees) (codes : List (List ℕ)) (vs : List Value) : Type 0 where
    pub values : List Value
    pub mean : MeanEach s e all values
    pub coded : codes ++ map value_code vs ≡ map value_code values

  abbrev pub AreCoded : List Param → ℕ → List (List ℕ) → Type 0
  AreCoded ps k codes = (vs : List Value) → MeanEach s e (plain_all (drop k ps)) vs → AreAmong (plain_all ps) codes vs

  one_coded : (ps : List Param) (k : ℕ) (p : Param) (codes : List (List ℕ)) (own : List ℕ) → k < length ps → p ≡ get_or ps k p → AreCoded ps k codes → IsPushed s e (plain p) [] own true → AreCoded ps (k + 1) (codes ++ own ∷ [])
  one_coded ps k p codes own less is behind (v, m, f) = λ vs ms.
      let here : drop k ps ≡ p ∷ drop (k + 1) ps = drop_more ps k p less ∙ ap (λ (q : Param). q ∷ drop (k + 1) ps) (sym is) in
      let all = behind (v ∷ vs) (subst (λ (l : List Param). MeanEach s e (plain_all l) (v ∷ vs)) (sym here) (means.more m ms)) in
      record { values = all.values; mean = all.mean; coded = append_assoc codes (own ∷ []) (map value_code vs) ∙ ap (λ c. codes ++ (c ∷ map value_code vs)) f ∙ all.coded }

  pub one_pushed : {A : Type 0} (ps : List Param) (k : ℕ) (p : Param) (codes new : List (Vec ℕ A)) (own : Vec ℕ A) (old : List ℕ) → k < length ps → p ≡ get_or ps k p → AreCoded ps k (map (λ c. c.items) codes) → old ≡ [] → IsPushed s e (plain p) old own.items true → new ≡ codes ++ own ∷ [] → AreCoded ps (k + 1) (map (λ c. c.items) new)
  one_pushed {A} ps k p codes new own old less is behind empty h added =
      let items : Vec ℕ A → List ℕ = λ c. c.items in
      let same : map items new ≡ map items codes ++ own.items ∷ [] = ap (map items) added ∙ map-append items codes (own ∷ []) in
      subst (AreCoded ps (k + 1)) (sym same) (one_coded ps k p (map items codes) own.items less is behind (subst (λ l. IsPushed s e (plain p) l own.items true) empty h))

  codes_of : (vs : List Value) → elements_code (listed vs) ≡ codes_code (map value_code vs)
  codes_of [] = refl
  codes_of (v ∷ vs) = ap (λ l. value_code v ++ l) (codes_of vs)

  pub all_unordered : {A : Type 0} (ps : List Param) (k : ℕ) (codes sorted : List (Vec ℕ A)) (old new : List ℕ) → length ps ≤ k → AreCoded ps k (map (λ c. c.items) codes) → IsPermutation codes sorted → IsSorted (λ a b. slice_cmp nat_cmp a.items b.items) sorted → new ≡ old ++ codes_code (map (λ c. c.items) sorted) → AreEachPushed s e false (plain_all ps) old new true
  all_unordered ps k codes sorted old new long behind moved order added =
      let all = behind [] (subst (λ (l : List Param). MeanEach s e (plain_all l) []) (sym (drop_all k ps long)) means.none) in
      let coded : map (λ c. c.items) codes ≡ map value_code all.values = sym (append-nil (map (λ c. c.items) codes)) ∙ all.coded in
      let r = rearranged all.values codes sorted coded moved order in
      record { values = all.values; arranged = r.0; mean = all.mean; order = r.1; added = added ∙ ap (λ l. old ++ codes_code l) r.2 ∙ ap (λ l. old ++ l) (sym (codes_of r.0)) }

pub on_ok : {T E : Type 0} {P Q : T → Type 0} (r : Result T E) → ((x : T) → P x → Q x) → IfOk r P → IfOk r Q
on_ok (Ok x) f h = f x h
on_ok (Err e) f h = tt

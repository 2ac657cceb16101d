-- A parameter as a plain tree, variant by variant.
use Rattle.std.proofs.Common.{◌≡◌, ℕ, List, sym, ap, subst, ◌∙◌, Vec, Box, Bor, Global}
use Rattle.p21_tree.specs.declared.params.Param.{Param, Param-F, out-Param, roll-Param, fold-roll-Param, roll-out-Param}
use Rattle.p21_tree.specs.declared.params.Param.TheOpen as level
use Rattle.p21_tree.specs.declared.params.Param.TheVariants.{Absent, Derived, Int, Real, Str, Enumeration, Binary, Ref, rolls-Absent, rolls-Derived, rolls-Int, rolls-Real, rolls-Str, rolls-Enumeration, rolls-Binary, rolls-Ref}
use Rattle.p21_tree.specs.declared.params.Param.TheViews.{Items, Typed, rolls-Items, rolls-Typed}
use Rattle.p21_tree.specs.Tree.{Tree}
use Rattle.p21_tree.specs.Tree as tree
use Rattle.p21_tree.specs.Plain.{plain, plain_all, plain_level}
use Rattle.p21_check.specs.References.{name_count}

pub plain_absent : {p : Param} → p ≡ Absent → plain p ≡ tree.absent
plain_absent {p} e = ap plain e ∙ ap plain (sym rolls-Absent) ∙ fold-roll-Param Tree plain_level level.Absent

pub plain_derived : {p : Param} → p ≡ Derived → plain p ≡ tree.derived
plain_derived {p} e = ap plain e ∙ ap plain (sym rolls-Derived) ∙ fold-roll-Param Tree plain_level level.Derived

pub plain_int : {p : Param} (v : Bor (List ℕ)) → p ≡ Int v → plain p ≡ tree.int v.now
plain_int {p} v e = ap plain e ∙ ap plain (sym (rolls-Int v)) ∙ fold-roll-Param Tree plain_level (level.Int v)

pub plain_real : {p : Param} (v : Bor (List ℕ)) → p ≡ Real v → plain p ≡ tree.real v.now
plain_real {p} v e = ap plain e ∙ ap plain (sym (rolls-Real v)) ∙ fold-roll-Param Tree plain_level (level.Real v)

pub plain_str : {p : Param} (v : Bor (List ℕ)) → p ≡ Str v → plain p ≡ tree.str v.now
plain_str {p} v e = ap plain e ∙ ap plain (sym (rolls-Str v)) ∙ fold-roll-Param Tree plain_level (level.Str v)

pub plain_enumeration : {p : Param} (v : Bor (List ℕ)) → p ≡ Enumeration v → plain p ≡ tree.enumeration v.now
plain_enumeration {p} v e = ap plain e ∙ ap plain (sym (rolls-Enumeration v)) ∙ fold-roll-Param Tree plain_level (level.Enumeration v)

pub plain_binary : {p : Param} (v : Bor (List ℕ)) → p ≡ Binary v → plain p ≡ tree.binary v.now
plain_binary {p} v e = ap plain e ∙ ap plain (sym (rolls-Binary v)) ∙ fold-roll-Param Tree plain_level (level.Binary v)

pub plain_reference : {p : Param} (n : ℕ) → p ≡ Ref n → plain p ≡ tree.reference n
plain_reference {p} n e = ap plain e ∙ ap plain (sym (rolls-Ref n)) ∙ fold-roll-Param Tree plain_level (level.Ref n)

pub plain_items : {p : Param} (v : Vec Param Global) → p ≡ Items v → plain p ≡ tree.items (plain_all v.items)
plain_items {p} v e = ap plain e ∙ ap plain (sym (rolls-Items v)) ∙ fold-roll-Param Tree plain_level (level.Items v)

pub plain_typed : {p : Param} (k : Bor (List ℕ)) (inner : Box Param Global) → p ≡ Typed k inner → plain p ≡ tree.typed k.now (plain inner.value)
plain_typed {p} k inner e = ap plain e ∙ ap plain (sym (rolls-Typed k inner)) ∙ fold-roll-Param Tree plain_level (level.Typed k inner)

rolled_reference : (l : Param-F Param) (n : ℕ) → plain (roll-Param l) ≡ tree.reference n → roll-Param l ≡ Ref n
rolled_reference (level.Ref m) n e = let same : m ≡ n = cc (ap plain (rolls-Ref m), fold-roll-Param Tree plain_level (level.Ref m)) in rolls-Ref m ∙ ap Ref same
rolled_reference other n e = absurd (let f = sym (fold-roll-Param Tree plain_level other) ∙ e in cc)

-- what is plainly an instance name is one
pub reference_param : (p : Param) (n : ℕ) → plain p ≡ tree.reference n → p ≡ Ref n
reference_param p n e = sym (roll-out-Param p) ∙ rolled_reference (out-Param p) n (ap plain (roll-out-Param p) ∙ e)

rolled_typed : (l : Param-F Param) (k : List ℕ) (t : Tree) → plain (roll-Param l) ≡ tree.typed k t → (m : Bor (List ℕ)) × (inner : Box Param Global) × (roll-Param l ≡ Typed m inner)
rolled_typed (level.Typed m inner) k t e = (m, inner, rolls-Typed m inner)
rolled_typed other k t e = absurd (let f = sym (fold-roll-Param Tree plain_level other) ∙ e in cc)

-- what is plainly a typed parameter is one
pub typed_param : (p : Param) (k : List ℕ) (t : Tree) → plain p ≡ tree.typed k t → (m : Bor (List ℕ)) × (inner : Box Param Global) × (p ≡ Typed m inner)
typed_param p k t e =
    let found = rolled_typed (out-Param p) k t (ap plain (roll-out-Param p) ∙ e) in
    (found.0, found.1, sym (roll-out-Param p) ∙ found.2)

nameless_level : (l : Param-F Param) → ((n : ℕ) → ¬ (roll-Param l ≡ Ref n)) → ((v : Vec Param Global) → ¬ (roll-Param l ≡ Items v)) → ((k : Bor (List ℕ)) (q : Box Param Global) → ¬ (roll-Param l ≡ Typed k q)) → name_count (plain (roll-Param l)) ≡ 0
nameless_level (level.Ref n) a b d = absurd (a n (rolls-Ref n))
nameless_level (level.Items v) a b d = absurd (b v (rolls-Items v))
nameless_level (level.Typed k q) a b d = absurd (d k q (rolls-Typed k q))
nameless_level other a b d = ap name_count (fold-roll-Param Tree plain_level other)

-- what is neither an instance name, nor a list, nor a typed parameter holds no instance name
pub nameless : (p : Param) → ((n : ℕ) → ¬ (p ≡ Ref n)) → ((v : Vec Param Global) → ¬ (p ≡ Items v)) → ((k : Bor (List ℕ)) (q : Box Param Global) → ¬ (p ≡ Typed k q)) → name_count (plain p) ≡ 0
nameless p a b d =
    let same = roll-out-Param p in
    subst (λ (q : Param). name_count (plain q) ≡ 0) same (nameless_level (out-Param p) (λ n e. a n (sym same ∙ e)) (λ v e. b v (sym same ∙ e)) (λ k q e. d k q (sym same ∙ e)))

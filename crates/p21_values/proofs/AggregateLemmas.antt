-- What is asked of an aggregate, by the values that were read of it.
use Rattle.std.proofs.Common.{◌≡◌, Bool, ℕ, ◌+◌, ◌-◌, ◌<◌, ◌≤◌, List, [], ◌∷◌, ◌++◌, length, map, drop, take, get_or, suc, refl, ap, sym, ◌∙◌, subst, arith, add-one, append_assoc, length-drop, Vec, Global, ℤ, pos, ◌+ℤ◌, ◌-ℤ◌}
use Rattle.std.proofs.Math.Seq.{take-suc}
use Rattle.std.proofs.lemmas.Bool.Decides.{nat_tests}
use Rattle.std.proofs.lemmas.List.{get_or-drop, length-map, map-set}
use Rattle.std.specs.Prelude.{if◌then◌else◌, nat_lt, slice_set}
use Rattle.std.specs.declared.rc.Rc.{Rc}
use Rattle.p21_values.specs.Aggregates.{any_of, first_index, high_index_of, in_of, not_known, size_of}
use Rattle.p21_values.specs.Arithmetic.{integer_of}
use Rattle.p21_values.specs.Elements.{with_place}
use Rattle.p21_values.specs.Logic.{or_of}
use Rattle.p21_values.specs.Plain.{Val, listed, part, plain, plain_all, several, whole}
use Rattle.p21_values.specs.Same.{same_of}
use Rattle.p21_values.specs.declared.truth.Truth.{Truth}
use Rattle.p21_values.specs.declared.kind.Kind.{Kind}
use Rattle.p21_values.specs.declared.value.Value.{Value}
use Rattle.p21_values.specs.declared.value.Value.TheVariants.{Aggregate}
use Rattle.p21_values.proofs.SameLemmas.{aggregate_is, listed_all}

pub size_is : (v : Value) (k : Kind) (r : Rc (Vec Value Global) Global) (w : Vec Value Global) → v ≡ Aggregate k r → w ≡ r.value → size_of (plain v) ≡ whole (pos (length w.items))
size_is v k r w e f =
    ap size_of (aggregate_is v k r w w.items e f refl) ∙ ap (λ n. whole (pos n)) (ap length (listed_all w.items) ∙ length-map w.items plain)

pub high_index_is : (v : Value) (k : Kind) (r : Rc (Vec Value Global) Global) (w : Vec Value Global) → v ≡ Aggregate k r → w ≡ r.value → high_index_of (plain v) ≡ integer_of (first_index k +ℤ (pos (length w.items) -ℤ pos 1))
high_index_is v k r w e f =
    ap high_index_of (aggregate_is v k r w w.items e f refl) ∙ ap (λ n. integer_of (first_index k +ℤ (pos n -ℤ pos 1))) (ap length (listed_all w.items) ∙ length-map w.items plain)

pub in_is : (p : ℕ → ℕ → Truth) (x : Val) (v : Value) (k : Kind) (r : Rc (Vec Value Global) Global) (w : Vec Value Global) (xs : List Value) → v ≡ Aggregate k r → w ≡ r.value → xs ≡ w.items → in_of p x (plain v) ≡ or_of (not_known x) (any_of (same_of p x) (map plain xs))
in_is p x v k r w xs e f g =
    ap (in_of p x) (aggregate_is v k r w xs e f g) ∙ ap (λ l. or_of (not_known x) (any_of (same_of p x) l)) (listed_all xs)

-- one more code of a part
pub part_more : (t : List ℕ) (from at : ℕ) → from ≤ at → at < length t → part t from (at + 1) ≡ part t from at ++ get_or t at 0 ∷ []
part_more t from at h lt =
    let n : (at + 1) - from ≡ suc (at - from) = omega arith in
    let near : at - from < length (drop from t) = simp (length-drop {A = ℕ}) (omega arith) in
    let place : from + (at - from) ≡ at = omega arith in
    ap (λ k. take k (drop from t)) n ∙ take-suc (drop from t) (at - from) 0 near ∙ ap (λ x. part t from at ++ x ∷ []) (get_or-drop from t (at - from) 0 ∙ ap (λ k. get_or t k 0) place)

pub codes_more : (t olds now news : List ℕ) (from at x : ℕ) → from ≤ at → at < length t → news ≡ now ++ x ∷ [] → x ≡ get_or t at 0 → now ≡ olds ++ part t from at → news ≡ olds ++ part t from (at + 1)
codes_more t olds now news from at x h lt e f g =
    e ∙ ap (λ l. l ++ x ∷ []) g ∙ append_assoc olds (part t from at) (x ∷ []) ∙ ap (λ y. olds ++ (part t from at ++ y ∷ [])) f ∙ ap (λ l. olds ++ l) (sym (part_more t from at h lt))

-- elements, of which one is set
chosen_below : (n m : ℕ) (a b : List Val) → n < m → (if nat_lt n m then a else b) ≡ a
chosen_below n m a b h = grind (arith, nat_tests)

pub element_set : (grows : Bool) (vs : List Value) (n : ℕ) (v : Value) (w : Val) → n < length vs → plain v ≡ w → map plain (slice_set vs n v) ≡ with_place grows (map plain vs) n w
element_set grows vs n v w lt e =
    let near : n < length (map plain vs) = rw (length-map vs plain) lt in
    map-set plain vs n v ∙ ap (slice_set (map plain vs) n) e ∙ sym (chosen_below n (length (map plain vs)) (slice_set (map plain vs) n w) _ near)

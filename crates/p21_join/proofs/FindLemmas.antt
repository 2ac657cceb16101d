-- The instance that has a name among instances of which no two have one.
use Rattle.std.proofs.Common.{◌≡◌, ◌≢◌, inl, inr, ℕ, zero, suc, ◌<◌, Option, Some, None, true, false, List, [], ◌∷◌, length, get_or, refl, sym, ap, ◌∙◌, arith}
use Rattle.std.specs.Prelude.{All, nat_eq, cond, option_map}
use Rattle.std.specs.Borrow.{Bor}
use Rattle.std.proofs.lemmas.Bool.{cases_Bool}
use Rattle.std.proofs.lemmas.Bool.Decides.{nat_tests}
use Rattle.std.proofs.lemmas.List.Elements.{All-head, All-tail}
use Rattle.p21_tree.specs.declared.instances.RawInstance.{RawInstance}
use Rattle.p21_tree.specs.Views.{plain_instance}
use Rattle.p21_check.specs.References.{named_in}
use Rattle.p21_join.specs.Names.{HaveOwnNames}
use Rattle.p21_join.specs.Model.{Finds, plain_instances}

differs : (m n : ℕ) → m ≢ n → nat_eq m n ≡ false
differs m n h = elim (cases_Bool (nat_eq m n)) [ inl e ↦ absurd (h (grind (arith, nat_tests, e))) | inr e ↦ e ]

same : (m n : ℕ) → m ≡ n → nat_eq m n ≡ true
same m n h = elim (cases_Bool (nat_eq m n)) [ inl e ↦ e | inr e ↦ absurd (let k = h in let f = e in grind (arith, nat_tests, k, f)) ]

pub none_named : (is : List RawInstance) (n : ℕ) → All (λ (i : RawInstance). i.name ≢ n) is → named_in (plain_instances is) n ≡ None
none_named [] n h = refl
none_named (x ∷ is) n h =
    let e : nat_eq x.name n ≡ false = differs x.name n (All-head (λ (i : RawInstance). i.name ≢ n) x is h) in
    ap (λ b. cond b (Some (plain_instance x)) (named_in (plain_instances is) n)) e ∙ none_named is n (All-tail (λ (i : RawInstance). i.name ≢ n) x is h)

others_own : (x : RawInstance) (is : List RawInstance) → HaveOwnNames (x ∷ is) → HaveOwnNames is
others_own x is h j k d less within = h (suc j) (suc k) d (omega arith) (omega arith)

pub some_named : (is : List RawInstance) (n k : ℕ) (i : RawInstance) → HaveOwnNames is → k < length is → get_or is k i ≡ i → i.name ≡ n → named_in (plain_instances is) n ≡ Some (plain_instance i)
some_named [] n k i own less there e = absurd (omega arith)
some_named (x ∷ is) n zero i own less there e =
    let f : nat_eq x.name n ≡ true = same x.name n (ap (λ y. y.name) there ∙ e) in
    ap (λ b. cond b (Some (plain_instance x)) (named_in (plain_instances is) n)) f ∙ ap (λ y. Some (plain_instance y)) there
some_named (x ∷ is) n (suc k) i own less there e =
    let other : x.name ≢ n = λ f. own 0 (suc k) i (omega arith) less (f ∙ (sym e ∙ ap (λ y. y.name) (sym there))) in
    ap (λ b. cond b (Some (plain_instance x)) (named_in (plain_instances is) n)) (differs x.name n other) ∙ some_named is n k i (others_own x is own) (omega arith) there e

pub finds_named : (is : List RawInstance) (n : ℕ) (r : Option (Bor RawInstance)) → HaveOwnNames is → Finds is n r → option_map (λ (i : Bor RawInstance). plain_instance i.now) r ≡ named_in (plain_instances is) n
finds_named is n None own h = sym (none_named is n h)
finds_named is n (Some i) own h = sym (some_named is n h.0.0 i.now own h.0.1 h.0.2 h.1)

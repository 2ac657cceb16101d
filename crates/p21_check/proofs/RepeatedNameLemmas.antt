-- The instance names of elements.
use Rattle.std.proofs.Common.{◌≡◌, ℕ, ◌+◌, ◌<◌, ◌≤◌, List, [], length, get_or, drop, Option, None, refl, sym, ap, ◌∙◌}
use Rattle.std.proofs.lemmas.List.{drop_more, drop_all}
use Rattle.p21_tree.specs.Tree.{Tree, reference}
use Rattle.p21_tree.specs.Tree as tree
use Rattle.p21_tree.specs.Plain.{plain}
use Rattle.p21_tree.specs.declared.params.Param.{Param}
use Rattle.p21_tree.specs.declared.params.Param.TheVariants.{Ref}
use Rattle.p21_check.specs.Repeats.{name_in, with_name}
use Rattle.p21_check.specs.RepeatedNames.{names_of}
use Rattle.p21_check.proofs.PlainLemmas.{reference_param}

nameless : (t : Tree) → ((n : ℕ) → ¬ (t ≡ reference n)) → None ≡ name_in t
nameless (tree.reference n) h = absurd (h n refl)
nameless tree.absent h = refl
nameless tree.derived h = refl
nameless (tree.int v) h = refl
nameless (tree.real v) h = refl
nameless (tree.str v) h = refl
nameless (tree.enumeration v) h = refl
nameless (tree.binary v) h = refl
nameless (tree.items ts) h = refl
nameless (tree.typed k t) h = refl

-- what is no reference is no instance name
pub no_name : (p : Param) → ((n : ℕ) → ¬ (p ≡ Ref n)) → None ≡ name_in (plain p)
no_name p h = nameless (plain p) (λ n e. h n (reference_param p n e))

-- the names of the elements that are left, at one of them and after the last
pub names_left : (ps : List Param) (i : ℕ) (d : Param) (o : Option ℕ) → i < length ps → d ≡ get_or ps i d → o ≡ name_in (plain d) → names_of (drop i ps) ≡ with_name o (names_of (drop (i + 1) ps))
names_left ps i d o h e f =
    ap names_of (drop_more ps i d h) ∙ ap (λ (x : Option ℕ). with_name x (names_of (drop (i + 1) ps))) (ap (λ (p : Param). name_in (plain p)) (sym e) ∙ sym f)

pub none_left : (ps : List Param) (i : ℕ) → length ps ≤ i → names_of (drop i ps) ≡ []
none_left ps i h = ap names_of (drop_all i ps h)

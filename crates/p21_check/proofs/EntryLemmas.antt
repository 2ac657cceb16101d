-- The first fault of a record.
use Rattle.std.proofs.Common.{◌≡◌, ℕ, ◌+◌, ◌<◌, ◌≤◌, ⊎_elim, List, length, get_or, Option, Some, sym, ap, subst, ◌∙◌, arith}
use Rattle.std.specs.Prelude.{slice_get}
use Rattle.std.proofs.lemmas.Bool.{cases_lt}
use Rattle.p21_express.specs.Schema.{Schema}
use Rattle.p21_express.specs.WellFormed.{Origin}
use Rattle.p21_tree.specs.Tree.{Tree}
use Rattle.p21_tree.specs.Sentence.{Instance}
use Rattle.p21_tree.specs.Plain.{plain, plain_all}
use Rattle.p21_tree.specs.declared.params.Param.{Param}
use Rattle.p21_tree.specs.declared.faults.FaultKind.{FaultKind}
use Rattle.p21_check.specs.declared.walk.Bad.{Bad}
use Rattle.p21_check.specs.LocalFault.{tree_get}
use Rattle.p21_check.specs.Walk.{EachIsAnswered}
use Rattle.p21_check.specs.Asked.{AskedBy, AreFaultless, IsFirst, IsRecordFault, kind_at}
use Rattle.p21_check.proofs.AttributeLemmas.{param_there, param_below}

some_is : {X : Type 0} (a b : X) → Some a ≡ Some b → a ≡ b
some_is a b e = cc

given_here : (ps : List Param) (i : ℕ) (d : Param) → i < length ps → d ≡ get_or ps i d → tree_get (plain_all ps) i ≡ Some (plain d)
given_here ps i d h e = param_there ps i d h ∙ ap (λ (x : Param). Some (plain x)) (sym e)

-- a parameter without a fault is passed
pub faultless_more : (s : Schema) (named : ℕ → Option Instance) (S : List ℕ → Type 0) (os : List Origin) (ps : List Param) (i : ℕ) (d : Param) (o : Origin) → i < length ps → d ≡ get_or ps i d → slice_get os i ≡ Some o → EachIsAnswered s named (AskedBy s S o (plain d)) → AreFaultless s named S os (plain_all ps) i → AreFaultless s named S os (plain_all ps) (i + 1)
faultless_more s named S os ps i d o h e f here before a o' t less g k =
    ⊎_elim (λ (x : a < i). before a o' t x g k) (λ (x : i ≤ a). at (omega arith)) (cases_lt a i) where
      at : a ≡ i → EachIsAnswered s named (AskedBy s S o' t)
      at same =
          let one : o ≡ o' = some_is o o' (sym f ∙ (ap (λ j. slice_get os j) (sym same) ∙ g)) in
          let two : plain d ≡ t = some_is (plain d) t (sym (given_here ps i d h e) ∙ (ap (λ j. tree_get (plain_all ps) j) (sym same) ∙ k)) in
          subst (λ (x : Origin). EachIsAnswered s named (AskedBy s S x t)) one (subst (λ (x : Tree). EachIsAnswered s named (AskedBy s S o x)) two here)

-- the parameter has the fault
pub faulty_here : (s : Schema) (named : ℕ → Option Instance) (S : List ℕ → Type 0) (os : List Origin) (ps : List Param) (i : ℕ) (d : Param) (o : Origin) (rec_ : ℕ) (b : Bad) (k : FaultKind) → i < length ps → d ≡ get_or ps i d → slice_get os i ≡ Some o → IsFirst s named (AskedBy s S o (plain d)) b → k ≡ kind_at rec_ i b → AreFaultless s named S os (plain_all ps) i → IsRecordFault s named S os (plain_all ps) rec_ k
faulty_here s named S os ps i d o rec_ b k h e f first is before = record {
  attr = i;
  attribute = o;
  parameter = plain d;
  bad_ = b;
  for_ = f;
  given = given_here ps i d h e;
  first = first;
  is = is;
  before = before;
}

-- no parameter is left
pub faultless_all : (s : Schema) (named : ℕ → Option Instance) (S : List ℕ → Type 0) (os : List Origin) (ps : List Param) (i n : ℕ) → length ps ≤ i → AreFaultless s named S os (plain_all ps) i → AreFaultless s named S os (plain_all ps) n
faultless_all s named S os ps i n h before a o t less g k = before a o t (let b = param_below ps a t k in omega arith) g k

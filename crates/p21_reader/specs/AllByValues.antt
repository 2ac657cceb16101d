-- All faults of a file by the values of its pieces.
use Rattle.std.specs.Prelude.{◌≡◌, ◌≢◌, ℕ, List, [], ◌∷◌, ◌++◌, map, Result, Ok, Err}
use Rattle.p21_express.specs.Schema.{Schema}
use Rattle.p21_tree.specs.declared.faults.Fault.{Fault}
use Rattle.p21_tree.specs.Sentence.{Instance}
use Rattle.p21_tree.specs.Fault.{tails}
use Rattle.p21_tree.specs.Texts.{HasTail, HasFault}
use Rattle.p21_refs.specs.AllReferenceFaults.{AreReferenceFaults}
use Rattle.p21_reader.specs.AllFaults.{AreFaultsOf}
use Rattle.p21_reader.specs.Values.{Value, Whole, grammar, whole, IsCarriedFault, HaveInstances}

-- the faults of whole instances, by what each is said to have by itself and the names before it
abbrev pub AreCarriedFaults : List Whole → List Fault → Type 0
AreCarriedFaults ws fs = AreFaultsOf (λ w. w.instance) IsCarriedFault [] ws fs

-- All faults of values, without those of references, where the tail begins at a place: the faults of the whole instances before
-- the first grammar fault, a value's or the tail's, and after them that fault, where there is one.
pub data AreFaultsOfValues (file : List ℕ) (end : ℕ) (vs : List Value) : List Fault → Type 0 where
  up_to_value : (f : Fault) (later : List Value) {ws : List Whole} {fs : List Fault} → vs ≡ map whole ws ++ grammar f ∷ later → AreCarriedFaults ws fs → AreFaultsOfValues file end vs (fs ++ f ∷ [])
  up_to_tail : {ws : List Whole} {f : Fault} {fs : List Fault} → vs ≡ map whole ws → AreCarriedFaults ws fs → HasFault tails file end f → AreFaultsOfValues file end vs (fs ++ f ∷ [])
  of_wholes : {ws : List Whole} {fs : List Fault} → vs ≡ map whole ws → AreCarriedFaults ws fs → HasTail file end → AreFaultsOfValues file end vs fs

-- The answer to the values of a file's pieces that tells all faults: those of the values, where there is one; else the reference
-- faults of their instances, where there is one; else these.
pub data IsAllAnswerTo (s : Schema) (file : List ℕ) (end : ℕ) (vs : List Value) : Result (List Instance) (List Fault) → Type 0 where
  values : {fs : List Fault} → AreFaultsOfValues file end vs fs → fs ≢ [] → IsAllAnswerTo s file end vs (Err fs)
  references : {is : List Instance} {fs : List Fault} → HaveInstances vs is → HasTail file end → AreReferenceFaults s is is fs → fs ≢ [] → IsAllAnswerTo s file end vs (Err fs)
  read : {is : List Instance} → HaveInstances vs is → HasTail file end → AreReferenceFaults s is is [] → IsAllAnswerTo s file end vs (Ok is)

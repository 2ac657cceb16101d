-- Whether the instance at a place has a reference fault.
use Rattle.std.proofs.Common.{◌≡◌, ℕ, zero, suc, ◌+◌, ◌<◌, Bool, true, false, not, Some, None, List, [], ◌∷◌, length, get_or, sym, ap, subst, ◌∙◌, arith}
use Rattle.std.specs.Prelude.{All, Any, MatchBool, MatchResult, Result, Ok, Err, is_err}
use Rattle.std.specs.List.{AllZip, range_with_len}
use Rattle.std.proofs.lemmas.List.{get_or-map, length-map}
use Rattle.std.proofs.lemmas.List.Elements.{All-get_or}
use Rattle.p21_express.specs.Schema.{Schema}
use Rattle.p21_tree.specs.declared.faults.FaultKind.{FaultKind}
use Rattle.p21_tree.specs.declared.instances.RawInstance.{RawInstance}
use Rattle.p21_tree.specs.Sentence.{Instance}
use Rattle.p21_tree.specs.Views.{plain_instance}
use Rattle.p21_check.specs.declared.referred.Reference.{Reference}
use Rattle.p21_check.specs.Laws.{PassesAnswered, RefusesUnanswered}
use Rattle.p21_check.specs.LocalFault.{IsLocalFault}
use Rattle.p21_check.specs.References.{IsReferenceFault, named_in}
use Rattle.p21_check.specs.Referred.{AreReferencesOf, plain_reference}
use Rattle.p21_check.specs.Walk.{IsAnswered}
use Rattle.p21_join.specs.Model.{plain_instances}
use Rattle.p21_outline.specs.Faultiness.{AreFaultinesses, IsFaultiness, IsFaultinessAt}

-- the instance at a place
abbrev pub StandsAt : List RawInstance → ℕ → RawInstance → Type 0
StandsAt is k i = (k < length is) × ((d : RawInstance) → get_or is k d ≡ i)

plain_there : (is : List RawInstance) (k : ℕ) (i : RawInstance) → StandsAt is k i → (d : Instance) → get_or (plain_instances is) k d ≡ plain_instance i
plain_there is k i h d = get_or-map plain_instance is k i d h.0 ∙ ap plain_instance (h.1 i)

-- has no fault by itself, where none has
pub sound_there : (s : Schema) (is : List RawInstance) (k : ℕ) (i : RawInstance) → All (λ x. IsLocalFault s x None) (plain_instances is) → StandsAt is k i → IsLocalFault s (plain_instance i) None
sound_there s is k i sound h =
    let long = length-map is plain_instance in
    let less = h.0 in
    subst (λ x. IsLocalFault s x None) (plain_there is k i h (plain_instance i)) (All-get_or (λ x. IsLocalFault s x None) (plain_instances is) k (plain_instance i) (omega arith) sound)

-- what is asked of it is asked of that place
pub at_place : (s : Schema) (is : List RawInstance) (k : ℕ) (i : RawInstance) (b : Bool) → StandsAt is k i → IsFaultiness s (plain_instances is) (plain_instance i) b → IsFaultinessAt s (plain_instances is) k b
at_place s is k i b h faulty d = subst (λ x. IsFaultiness s (plain_instances is) x b) (sym (plain_there is k i h d)) faulty

-- by the answer of a check
pub by_check : (s : Schema) (all : List Instance) (i : Instance) (answer : Result (Unit {0}) FaultKind) (b : Bool)
    → MatchResult answer (λ _. IsReferenceFault s (named_in all) i None) (λ kind. IsReferenceFault s (named_in all) i (Some kind)) → b ≡ is_err answer → IsFaultiness s all i b
by_check s all i (Ok u) b h e = subst (IsFaultiness s all i) (sym e) h
by_check s all i (Err kind) b h e = subst (IsFaultiness s all i) (sym e) (λ none. none h.rec_ h.attr h.place kind h.has)

-- by its references
pub by_references : (s : Schema) (all : List Instance) (i : Instance) (rs : List Reference) (b : Bool) → PassesAnswered s (named_in all) i rs → RefusesUnanswered s (named_in all) i rs → AreReferencesOf s i rs
    → MatchBool b (All (λ r. IsAnswered s (named_in all) (plain_reference s r)) rs) (Any (λ r. ¬ (IsAnswered s (named_in all) (plain_reference s r))) rs) → IsFaultiness s all i (not b)
by_references s all i rs true passes refuses are answered = passes are answered
by_references s all i rs false passes refuses are unanswered = refuses are unanswered

-- ---- all places

module _ (s : Schema) (all : List Instance) where
  -- the instances from a place on
  abbrev Stand : ℕ → List Instance → Type 0
  Stand from is = (k : ℕ) (d : Instance) → k < length is → get_or all (from + k) d ≡ get_or is k d

  stand_behind : (from : ℕ) (i : Instance) (is : List Instance) → Stand from (i ∷ is) → Stand (from + 1) is
  stand_behind from i is h k d less =
      let same : from + suc k ≡ from + 1 + k = omega arith in
      ap (λ p. get_or all p d) (sym same) ∙ h (suc k) d (omega (arith, less))

  from_places : (from : ℕ) (is : List Instance) (bs : List Bool) → Stand from is → AllZip (IsFaultinessAt s all) (range_with_len from (length is)) bs → AllZip (IsFaultiness s all) is bs
  from_places from [] [] stand h = tt
  from_places from [] (b ∷ bs) stand h = absurd h
  from_places from (i ∷ is) [] stand h = absurd h
  from_places from (i ∷ is) (b ∷ bs) stand h =
      let there : get_or all from i ≡ i = ap (λ p. get_or all p i) (omega arith) ∙ stand zero i (omega arith) in
      (subst (λ x. IsFaultiness s all x b) there (h.0 i), from_places (from + 1) is bs (stand_behind from i is stand) h.1)

  -- what is answered at all places
  pub all_places : (bs : List Bool) → AllZip (IsFaultinessAt s all) (range_with_len 0 (length all)) bs → AreFaultinesses s all bs
  all_places bs h = from_places 0 all bs (λ k d less. ap (λ p. get_or all p d) (omega arith)) h

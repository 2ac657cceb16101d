-- What a fault of a step is where the whole gives it back.
use Rattle.std.proofs.Common.{◌≡◌, Result, Ok, Err, IfErr, sym, subst}
use Rattle.std.specs.Result.{IsErrAnd}
use Rattle.p21_tree.specs.declared.faults.Fault.{Fault}
use Rattle.p21_tree.specs.declared.faults.TreeError.{TreeError}
use Rattle.p21_tree.specs.declared.faults.TreeError.TheVariants as error
use Rattle.p21_tree.specs.Texts.{OnGrammar}
use Rattle.p21_reader.specs.declared.stop.Stop.{Stop}
use Rattle.p21_reader.specs.declared.stop.Stop.TheVariants as stop
use Rattle.p21_reader.specs.Steps.{IsStopOf, OnFault}

-- what a fact for a fault gives of it
pub fault_gives : (P Q : Fault → Type 0) (e : Stop) → ((f : Fault) → P f → Q f) → OnFault e P → OnFault e Q
fault_gives P Q (stop.Fault f) g h = g f h
fault_gives P Q stop.Memory g h = tt

module _ {T : Type 0} (Q : Fault → Type 0) where
  -- a stop, given back as it is
  pub exit_stop : (r : Result T Stop) (e : Stop) → IsErrAnd r (λ y. y ≡ e) → OnFault e Q → IfErr r (λ y. OnFault y Q)
  exit_stop (Ok x) e h q = tt
  exit_stop (Err y) e h q = subst (λ z. OnFault z Q) (sym h) q

  -- why a text gave no tree
  pub exit_tree : (r : Result T Stop) (e : TreeError) (P : Fault → Type 0) → IsErrAnd r (λ y. IsStopOf e y) → ((f : Fault) → P f → Q f) → OnGrammar e P → IfErr r (λ y. OnFault y Q)
  exit_tree r (error.Grammar f) P h g p = exit_stop r (stop.Fault f) h (g f p)
  exit_tree r error.Memory P h g p = exit_stop r stop.Memory h tt

  -- a fault, given back as it is
  pub exit_fault : (r : Result T Fault) (f : Fault) → IsErrAnd r (λ y. y ≡ f) → Q f → IfErr r Q
  exit_fault (Ok x) f h q = tt
  exit_fault (Err y) f h q = subst Q (sym h) q

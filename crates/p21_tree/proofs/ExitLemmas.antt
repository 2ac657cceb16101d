-- What a fault of a part is where the whole gives it back.
use Rattle.std.proofs.Common.{◌≡◌, Result, Ok, Err, IfOk, IfErr, sym, subst}
use Rattle.std.specs.Result.{IsErrAnd}
use Rattle.p21_tree.specs.declared.faults.Fault.{Fault}
use Rattle.p21_tree.specs.declared.faults.TreeError.{TreeError}
use Rattle.p21_tree.specs.declared.faults.TreeError.TheVariants.{Grammar, Memory}
use Rattle.p21_tree.specs.Texts.{OnGrammar}

-- a fault, given back as an error
pub exit_fault : {T : Type 0} (r : Result T TreeError) (Q : Fault → Type 0) (f : Fault) → IsErrAnd r (λ e. e ≡ Grammar f) → Q f → IfErr r (λ e. OnGrammar e Q)
exit_fault (Ok x) Q f h q = tt
exit_fault (Err e) Q f h q = subst (λ y. OnGrammar y Q) (sym h) q

pub on_weaker : (e : TreeError) (Q R : Fault → Type 0) → ((f : Fault) → Q f → R f) → OnGrammar e Q → OnGrammar e R
on_weaker (Grammar f) Q R h q = h f q
on_weaker Memory Q R h q = tt

-- an error, given back as it is
pub exit_error : {T : Type 0} (r : Result T TreeError) (Q R : Fault → Type 0) (e : TreeError) → IsErrAnd r (λ y. y ≡ e) → ((f : Fault) → Q f → R f) → OnGrammar e Q → IfErr r (λ y. OnGrammar y R)
exit_error (Ok x) Q R e h g q = tt
exit_error (Err y) Q R e h g q = subst (λ z. OnGrammar z R) (sym h) (on_weaker e Q R g q)

-- the same of a fault
pub exit_same : {T : Type 0} (r : Result T Fault) (Q : Fault → Type 0) (f : Fault) → IsErrAnd r (λ e. e ≡ f) → Q f → IfErr r Q
exit_same (Ok x) Q f h q = tt
exit_same (Err e) Q f h q = subst Q (sym h) q

-- a result, given back as it is
pub result_ok : {T E : Type 0} (r : Result T E) (P Q : T → Type 0) → ((x : T) → P x → Q x) → IfOk r P → IfOk r Q
result_ok (Ok x) P Q h p = h x p
result_ok (Err e) P Q h p = tt

pub result_fault : {T : Type 0} (r : Result T TreeError) (P Q : Fault → Type 0) → ((f : Fault) → P f → Q f) → IfErr r (λ e. OnGrammar e P) → IfErr r (λ e. OnGrammar e Q)
result_fault (Ok x) P Q h p = tt
result_fault (Err e) P Q h p = on_weaker e P Q h p

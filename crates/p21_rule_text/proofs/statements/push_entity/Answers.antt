use Rattle.std.proofs.Common.{◌≡◌, ◌++◌, ℕ, List, Result, Ok, Err, OnOk, map, ap, sym, subst, append_assoc}
use Rattle.p21_express.specs.Schema.{Schema}
use Rattle.p21_rule_text.specs.Clauses.{InverseClause, UniqueClause, plain_inverse, plain_unique}
use Rattle.p21_rule_text.specs.Entities.{EntityClauses, plain_clauses}
use Rattle.p21_rule_text.specs.Rules.{AreStated}
use Rattle.p21_rule_text.specs.Statements.{Clause, inverse, numbered}
use Rattle.p21_rule_text.specs.declared.rules.Rules.{Rules}
use Rattle.std.proofs.lemmas.Result.{err_from_is_err_and}
use Rattle.p21_rule_text.proofs.RefusalLemmas.{err_along, in_left, in_right, on_along}
use Rattle.p21_rule_text.proofs.statements.push_entity.Goals as goal

-- the clauses of INVERSE of an entity, and after them those of UNIQUE
both : {E : Type 0} (s : Schema) (es : List EntityClauses) (n : List ℕ) (is js : List InverseClause) (us vs : List UniqueClause) (old mid new : Rules) (r : Result (Unit {0}) E) → is ≡ js → us ≡ vs
    → ((cs : List Clause) → AreStated s es cs old → AreStated s es (cs ++ map (inverse n) is) mid) → OnOk r ((cs : List Clause) → AreStated s es cs mid → AreStated s es (cs ++ numbered n 1 us) new)
    → OnOk r ((cs : List Clause) → AreStated s es cs old → AreStated s es (cs ++ (map (inverse n) js ++ numbered n 1 vs)) new)
both s es n is js us vs old mid new (Err e) i u first second = tt
both s es n is js us vs old mid new (Ok x) i u first second = rw (sym i, sym u) (λ cs are. subst (λ ds. AreStated s es ds new) (append_assoc cs (map (inverse n) is) (numbered n 1 us)) (second (cs ++ map (inverse n) is) (first cs are)))

pub returns-clause-ok : goal.returns-clause-ok
returns-clause-ok c =
    let e = plain_clauses c.args.entity.now in
    both c.args.known.schema.now (map plain_clauses c.args.known.clauses.now) e.name _ e.inverse _ e.unique c.args.rules.now _ c.push_unique.new.rules c.push_unique.result (ap (map plain_inverse) c.deref.ensures.value) (ap (map plain_unique) c.deref-2.ensures.value) c.in_ok-push_inverse.ensures.ok c.push_unique.ensures.ok

pub returns-in_err-push_inverse-clause-refused : goal.returns-in_err-push_inverse-clause-refused
returns-in_err-push_inverse-clause-refused c =
    let e = plain_clauses c.args.entity.now in
    let p = err_from_is_err_and c.from_residual.result c.from_residual.ensures.1 in
    let refused = rw c.deref.ensures.value at c.in_err-push_inverse.ensures.refused in
    rw (p.1, p.2) (on_along c.in_err-push_inverse.field-0.0 _ _ (λ none. (none.0, (in_left (map (inverse e.name) e.inverse) (numbered e.name 1 e.unique) none.0 none.1.0, none.1.1))) refused)

pub returns-clause-refused : goal.returns-clause-refused
returns-clause-refused c =
    let e = plain_clauses c.args.entity.now in
    let refused = rw c.deref-2.ensures.value at c.push_unique.ensures.refused in
    err_along c.push_unique.result _ _ (λ none. (none.0, (in_right (map (inverse e.name) e.inverse) (numbered e.name 1 e.unique) none.0 none.1.0, none.1.1))) refused

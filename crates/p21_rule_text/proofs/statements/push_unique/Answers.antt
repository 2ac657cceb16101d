use Rattle.std.proofs.Common.{◌≡◌, ◌+◌, ◌++◌, ◌∷◌, [], map, take, length, ap, sym, subst, ◌∙◌, append_assoc, arith}
use Rattle.std.proofs.lemmas.List.{length-map, length-take}
use Rattle.p21_rule_text.specs.Clauses.{plain_unique}
use Rattle.p21_rule_text.specs.Entities.{plain_clauses}
use Rattle.p21_rule_text.specs.Rules.{AreStated}
use Rattle.p21_rule_text.specs.Statements.{numbered, unique}
use Rattle.std.proofs.lemmas.Result.{err_from_is_err_and}
use Rattle.p21_express.specs.WellFormed.{IsIn}
use Rattle.p21_rule_text.proofs.RefusalLemmas.{numbered_at, on_along}
use Rattle.p21_rule_text.proofs.StatementLemmas.{map_more, numbered_push, stated_push}
use Rattle.p21_rule_text.proofs.statements.push_unique.Goals as goal

pub loop-index-preserved : goal.loop-index-preserved
loop-index-preserved c = λ cs are.
    let s = c.args.known.schema.now in
    let es = map plain_clauses c.args.known.clauses.now in
    let n = c.args.entity.now in
    let k = c.loop-index.index in
    let xs = c.args.clauses.now in
    let x = c.index-clauses-index.result in
    let before = map plain_unique (take k xs) in
    let count : 1 + length before ≡ k + 1 = omega (arith, length-map (take k xs) plain_unique, length-take k xs, c.loop-index-test.true) in
    let stated = stated_push s es _ _ c.push.new.self _ c.in_ok-unique_statement.field-0 (c.loop-index.invariant cs are) c.in_ok-unique_statement.ensures.ok c.in_ok-push.ensures in
    let all : (cs ++ numbered n 1 before) ++ unique n (k + 1) (plain_unique x) ∷ [] ≡ cs ++ numbered n 1 (map plain_unique (take (k + 1) xs)) =
    append_assoc cs (numbered n 1 before) (unique n (k + 1) (plain_unique x) ∷ []) ∙ ap (λ zs. cs ++ zs) (sym (ap (numbered n 1) (map_more plain_unique xs k x c.loop-index-test.true ∙ ap (λ z. before ++ plain_unique z ∷ []) (sym c.index-clauses-index.is)) ∙ (numbered_push n 1 before (plain_unique x) ∙ ap (λ m. numbered n 1 before ++ unique n m (plain_unique x) ∷ []) count))) in
    subst (λ ds. AreStated s es ds c.push.new.self) all stated

pub returns-in_err-unique_statement-clause-refused : goal.returns-in_err-unique_statement-clause-refused
returns-in_err-unique_statement-clause-refused c =
    let p = err_from_is_err_and c.from_residual.result c.from_residual.ensures.1 in
    let k = c.loop-index.index in
    let x = c.index-clauses-index.result in
    let there = numbered_at plain_unique c.args.entity.now 1 c.args.clauses.now k (k + 1) x c.loop-index-test.true (omega arith) in
    let same = subst (λ y. IsIn (numbered c.args.entity.now 1 (map plain_unique c.args.clauses.now)) (unique c.args.entity.now (k + 1) (plain_unique y))) (sym c.index-clauses-index.is) there in
    rw (p.1, p.2) (on_along c.in_err-unique_statement.field-0.0 _ _ (λ none. (_, (same, none))) c.in_err-unique_statement.ensures.refused)

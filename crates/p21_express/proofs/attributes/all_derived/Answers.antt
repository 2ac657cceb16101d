use Rattle.std.proofs.Common.{◌≡◌, ◌++◌, ◌∷◌, [], map, sym, ◌∙◌}
use Rattle.std.specs.Prelude.{codes}
use Rattle.std.proofs.lemmas.Result.{err_from_is_err_and}
use Rattle.std.proofs.lemmas.List.{map_push}
use Rattle.p21_express.specs.Grammar.{begins_rules}
use Rattle.p21_express.specs.Plain.{plain_derived}
use Rattle.p21_express.specs.Reader.{words_of, word_at, derived_at, all_derived_at}
use Rattle.p21_express.proofs.LoopLemmas.{goes_on}
use Rattle.p21_express.proofs.AttributeLemmas.{derived_less, derived_none, derived_fails, derived_done}
use Rattle.p21_express.proofs.ReadLemmas.{fails_along}
use Rattle.p21_express.proofs.TokenLemmas.{shorter}
use Rattle.p21_express.proofs.attributes.all_derived.Goals as goal

pub returns-in_err-rest : goal.returns-in_err-rest
returns-in_err-rest c =
    let p = err_from_is_err_and c.from_residual.result c.from_residual.ensures.1 in
    rw (p.1, p.2) (fails_along c.in_err-rest.field-0.0 (word_at (codes "DERIVE") (words_of c.args.words.now)) (all_derived_at (words_of c.args.words.now)) (derived_none (words_of c.args.words.now)) c.in_err-rest.ensures)

pub returns-in_err-decl : goal.returns-in_err-decl
returns-in_err-decl c =
    let p = err_from_is_err_and c.from_residual-in_err-decl.result c.from_residual-in_err-decl.ensures.1 in
    rw (p.1, p.2) (fails_along c.in_err-decl.field-0.0 (derived_at (words_of c.loop-alloc.rest.now)) (all_derived_at (words_of c.args.words.now)) (λ h. derived_fails (words_of c.args.words.now) (words_of c.in_ok-rest.rest.now) (words_of c.loop-alloc.rest.now) (map plain_derived c.loop-alloc.list.items) c.in_ok-rest.ensures c.loop-alloc.invariant (sym c.begins_rules.ensures ∙ c.loop-alloc-test.true) h) c.in_err-decl.ensures)

pub loop-alloc-smaller : goal.loop-alloc-smaller
loop-alloc-smaller c = shorter c.in_ok-decl.behind.now c.loop-alloc.rest.now (derived_less (words_of c.loop-alloc.rest.now) (words_of c.in_ok-decl.behind.now) (plain_derived c.in_ok-decl.decl) c.in_ok-decl.ensures)

pub loop-alloc-preserved : goal.loop-alloc-preserved
loop-alloc-preserved c =
    let e : map plain_derived c.push.new.self.items ≡ map plain_derived c.loop-alloc.list.items ++ plain_derived c.in_ok-decl.decl ∷ [] = rw c.in_ok-push.ensures.items (map_push plain_derived c.loop-alloc.list.items c.in_ok-decl.decl) in
    rw e (goes_on begins_rules derived_at (words_of c.in_ok-rest.rest.now) (words_of c.loop-alloc.rest.now) (words_of c.in_ok-decl.behind.now) (map plain_derived c.loop-alloc.list.items) (plain_derived c.in_ok-decl.decl) c.loop-alloc.invariant (derived_less (words_of c.loop-alloc.rest.now) (words_of c.in_ok-decl.behind.now) (plain_derived c.in_ok-decl.decl) c.in_ok-decl.ensures) (sym c.begins_rules.ensures ∙ c.loop-alloc-test.true) c.in_ok-decl.ensures)

pub returns : goal.returns
returns c = derived_done (words_of c.args.words.now) (words_of c.in_ok-rest.rest.now) (words_of c.loop-alloc.rest.now) (map plain_derived c.loop-alloc.list.items) c.in_ok-rest.ensures c.loop-alloc.invariant (sym c.begins_rules.ensures ∙ c.loop-alloc-test.false)

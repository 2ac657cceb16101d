use Rattle.std.proofs.Common.{[], map, length, ◌∙◌}
use Rattle.std.proofs.lemmas.Result.{err_from_is_err_and}
use Rattle.p21_express.specs.Reader.{words_of}
use Rattle.p21_rule_text.specs.Entities.{plain_clauses}
use Rattle.p21_rule_text.proofs.RefusalLemmas.{on_along, others, unread, unruled}
use Rattle.p21_rule_text.proofs.SchemaLemmas.{inverse_rules, unique_rules}
use Rattle.p21_rule_text.proofs.rules.read_rules.Goals as goal

pub returns-in-Ok-clause-unique : goal.returns-in-Ok-clause-unique
returns-in-Ok-clause-unique c =
    let es = map plain_clauses c.in-Ok.clauses.items in
    unique_rules c.args.schema.now _ _ c.push_statements.new.rules (c.in_ok-push_statements-in-Ok.ensures.ok (record { statements = []; states = tt; listed = c.new-rules.ensures }))

pub returns-in-Ok-clause-inverse : goal.returns-in-Ok-clause-inverse
returns-in-Ok-clause-inverse c =
    inverse_rules c.args.schema.now _ _ c.push_statements.new.rules (c.in_ok-push_statements-in-Ok.ensures.ok (record { statements = []; states = tt; listed = c.new-rules.ensures }))

pub returns-in_err-push_statements-in-Ok-clause-refused : goal.returns-in_err-push_statements-in-Ok-clause-refused
returns-in_err-push_statements-in-Ok-clause-refused c =
    let upper = c.deref.ensures.value ∙ c.in_ok-upper.ensures in
    let p = err_from_is_err_and c.from_residual-in_err-push_statements-in-Ok.result c.from_residual-in_err-push_statements-in-Ok.ensures.1 in
    let refused = rw c.deref-in-Ok.ensures.value at c.in_err-push_statements-in-Ok.ensures.refused in
    rw (p.1, p.2) (on_along c.in_err-push_statements-in-Ok.field-0.0 _ _ (unruled c.args.schema.now c.args.text.now c.deref.result.now c.in_ok-scanned.scanned.is_whole (words_of c.in_ok-scanned.scanned.words.items) (map plain_clauses c.in-Ok.clauses.items) c.one_word_list.ensures upper c.in_ok-scanned.ensures.whole c.in-Ok.ensures) refused)

pub returns-clause-refused : goal.returns-clause-refused
returns-clause-refused c =
    let upper = c.deref.ensures.value ∙ c.in_ok-upper.ensures in
    let n = length c.deref.result.now in
    unread n c.in-Err.refusal c.refused_as.result c.args.schema.now c.args.text.now c.deref.result.now c.in_ok-scanned.scanned.is_whole (words_of c.in_ok-scanned.scanned.words.items) c.one_word_list.ensures (c.refused_as.ensures n (rw c.deref-in-Err.ensures.value c.in_ok-scanned.ensures.places)) upper c.in_ok-scanned.ensures.whole c.in_ok-scanned.ensures.broken c.in-Err.ensures

pub returns-in-Some-clause-refused : goal.returns-in-Some-clause-refused
returns-in-Some-clause-refused c =
    let upper = c.deref.ensures.value ∙ c.in_ok-upper.ensures in
    let other = rw c.deref-in-Ok-3.ensures.value at c.in-Some.ensures in
    others c.args.schema.now c.args.text.now c.deref.result.now c.in_ok-scanned.scanned.is_whole (words_of c.in_ok-scanned.scanned.words.items) (map plain_clauses c.in-Ok.clauses.items) c.one_word_list.ensures upper c.in_ok-scanned.ensures.whole c.in-Ok.ensures other

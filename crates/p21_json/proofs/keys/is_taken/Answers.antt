use Rattle.std.proofs.Common.{◌≡◌, ◌<◌, ◌∙◌, ℕ, Some, arith, length, slice_get, subst, sym, ⊎_elim}
use Rattle.std.proofs.lemmas.Bool.{cases_eq, false≢true}
use Rattle.std.proofs.lemmas.Option.{slice_get_within}
use Rattle.std.proofs.lemmas.Slice.Eq.{bytes_eq-Decides}
use Rattle.p21_json.proofs.DeclaredLemmas.{has_at, has_none, there}
use Rattle.p21_json.proofs.keys.is_taken.Goals as goal

pub loop-before-init : goal.loop-before-init
loop-before-init c = λ os o r h q p l. absurd (omega arith)

pub returns-then-eq : goal.returns-then-eq
returns-then-eq c = λ os o r h.
    let within = slice_get_within os c.args.position o h in
    let before : c.loop-before.before < length os = (let less = c.loop-before-test.true in omega arith) in
    let at = there os c.loop-before.before before in
    let same = (bytes_eq-Decides c.name_at.result.now c.name_at-name.result.now).0 (sym c.eq.ensures ∙ c.if-eq.true) in
    sym (has_at os c.loop-before.before c.args.position at.0 o.name c.loop-before-test.true at.1 (sym (c.name_at.ensures os at.0 r at.1) ∙ same ∙ c.name_at-name.ensures os o r h))

pub loop-before-preserved : goal.loop-before-preserved
loop-before-preserved c = λ os o r h q p l k.
    ⊎_elim
    (λ (e : q ≡ c.loop-before.before). λ (same : p.name ≡ o.name).
    let here : slice_get os c.loop-before.before ≡ Some p = subst (λ (n : ℕ). slice_get os n ≡ Some p) e k in
    false≢true (sym c.if-eq.false ∙ c.eq.ensures ∙ (bytes_eq-Decides c.name_at.result.now c.name_at-name.result.now).1 (c.name_at.ensures os p r here ∙ same ∙ sym (c.name_at-name.ensures os o r h))))
    (λ (ne : ¬ (q ≡ c.loop-before.before)). c.loop-before.invariant os o r h q p (omega arith) k)
    (cases_eq q c.loop-before.before)

pub returns : goal.returns
returns c = λ os o r h. sym (has_none os c.args.position o.name (λ q p l. c.loop-before.invariant os o r h q p (let end = c.loop-before-test.false in omega arith)))

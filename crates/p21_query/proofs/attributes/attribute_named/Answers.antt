use Rattle.std.proofs.Common.{◌≡◌, ◌<◌, ◌≤◌, ◌∙◌, [], List, ℕ, Some, arith, length, slice_get, subst, sym, take, ⊎_elim}
use Rattle.std.proofs.lemmas.Bool.{cases_lt, false≢true}
use Rattle.std.proofs.lemmas.Option.{slice_get_within}
use Rattle.p21_express.specs.Schema.{Schema}
use Rattle.p21_json.specs.Keys.{key_of, keys_behind}
use Rattle.p21_json.specs.Rows.{AreAttributesOf}
use Rattle.p21_json.specs.Spelled.{IsSpelled}
use Rattle.p21_query.proofs.KeyLemmas.{key_at, keys_length, there}
use Rattle.p21_query.proofs.attributes.attribute_named.Goals as goal

same_some : {a b : List ℕ} → Some a ≡ Some b → a ≡ b
same_some e = cc

pub returns-then-is_called : goal.returns-then-is_called
returns-then-is_called c =
    let s = c.args.terms.now in
    let all = c.attribute_count-position-end.ensures in
    let os = all.0 in
    let are : AreAttributesOf s c.args.complex c.args.entity os = subst (λ (x : Schema). AreAttributesOf x c.args.complex c.args.entity os) c.schema.ensures all.1.0 in
    let p = c.loop-position.position in
    let within : p < length os = (let less = c.loop-position-test.true in let count = all.1.1 in omega arith) in
    let at = there os p within in
    let called = c.is_called.ensures os at.0 are at.1 in
    let here = key_at [] os p at.0 at.1 in
    (os, (are, ((omega arith, (key_of (take p os) at.0, (here, (called.0, (called.1.0, called.1.1.0 c.if-is_called.true))))), c.loop-position.invariant os are)))

pub loop-position-preserved : goal.loop-position-preserved
loop-position-preserved c = λ os a i x low high here.
    let p = c.loop-position.position in
    ⊎_elim
    (λ (less : i < p). c.loop-position.invariant os a i x low less here)
    (λ (more : p ≤ i).
    let same : i ≡ p = omega arith in
    let long = slice_get_within (keys_behind [] os) i x here in
    let count = keys_length [] os in
    let within : p < length os = omega arith in
    let at = there os p within in
    let called = c.is_called.ensures os at.0 a at.1 in
    let key : x ≡ key_of (take p os) at.0 = same_some (sym (subst (λ (n : ℕ). slice_get (keys_behind [] os) n ≡ Some x) same here) ∙ key_at [] os p at.0 at.1) in
    (called.0, (subst (IsSpelled called.0) (sym key) called.1.0, λ w. false≢true (sym c.if-is_called.false ∙ called.1.1.1 w))))
    (cases_lt i p)

pub returns : goal.returns
returns c =
    let s = c.args.terms.now in
    let all = c.attribute_count-position-end.ensures in
    let os = all.0 in
    let are : AreAttributesOf s c.args.complex c.args.entity os = subst (λ (x : Schema). AreAttributesOf x c.args.complex c.args.entity os) c.schema.ensures all.1.0 in (
      os,
      (
        are,
        λ i x low here.
            c.loop-position.invariant os are i x low (let long = slice_get_within (keys_behind [] os) i x here in let count = all.1.1 in let keys = keys_length [] os in let end = c.loop-position-test.false in omega arith) here,
      ),
    )

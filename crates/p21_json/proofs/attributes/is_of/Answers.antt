use Rattle.std.proofs.Common.{◌≡◌, ◌+◌, ◌∷◌, ◌∙◌, List, drop, ap, refl, sym, subst}
use Rattle.std.proofs.lemmas.Bool.{false≢true}
use Rattle.std.proofs.lemmas.List.{drop_more, drop_all}
use Rattle.p21_tree.specs.declared.instances.Record.{Record}
use Rattle.p21_schema.specs.Place.{entity_name}
use Rattle.p21_check.specs.Sets.{AnyIn}
use Rattle.p21_json.specs.Where.{IsBelow}
use Rattle.p21_json.proofs.AttributeLemmas.{any_further, any_of, any_there, none_left, of_any}
use Rattle.p21_json.proofs.attributes.is_of.Goals as goal

pub returns-then-is_named_below : goal.returns-then-is_named_below
returns-then-is_named_below c =
    let s = c.args.schema.now in
    let n = entity_name s c.args.entity in
    let rs = c.as_slice-record-items.result.now in
    let i = c.loop-record.record-index in
    let r = c.record-item.result in
    let here : drop i rs ≡ r ∷ drop (i + 1) rs = drop_more rs i r c.loop-record-test.true ∙ ap (λ (q : Record). q ∷ drop (i + 1) rs) (sym c.record-item.is) in
    let any = any_there (λ (q : Record). IsBelow s q.keyword.now n) rs _ i r here (c.is_named_below.ensures.0 c.if-is_named_below.true) in
    (λ _. of_any s c.args.instance.now n (subst (λ (l : List Record). AnyIn l (λ (q : Record). IsBelow s q.keyword.now n)) c.as_slice-record-items.ensures any), λ _. refl)

pub loop-record-preserved : goal.loop-record-preserved
loop-record-preserved c = λ any.
    let s = c.args.schema.now in
    let n = entity_name s c.args.entity in
    let rs = c.as_slice-record-items.result.now in
    let i = c.loop-record.record-index in
    let r = c.record-item.result in
    let here : drop i rs ≡ r ∷ drop (i + 1) rs = drop_more rs i r c.loop-record-test.true ∙ ap (λ (q : Record). q ∷ drop (i + 1) rs) (sym c.record-item.is) in
    any_further (λ (q : Record). IsBelow s q.keyword.now n) _ _ r here (λ b. false≢true (sym c.if-is_named_below.false ∙ c.is_named_below.ensures.1 b)) (c.loop-record.invariant any)

pub returns : goal.returns
returns c =
    let s = c.args.schema.now in
    let n = entity_name s c.args.entity in
    let none = drop_all c.loop-record.record-index c.as_slice-record-items.result.now c.loop-record-test.false in (
      λ f. absurd (false≢true f),
      λ h.
          let any = subst (λ (l : List Record). AnyIn l (λ (q : Record). IsBelow s q.keyword.now n)) (sym c.as_slice-record-items.ensures) (any_of s c.args.instance.now n h) in
          absurd (none_left (λ (q : Record). IsBelow s q.keyword.now n) _ none (c.loop-record.invariant any)),
    )

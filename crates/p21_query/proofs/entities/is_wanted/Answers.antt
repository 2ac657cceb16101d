use Rattle.std.proofs.Common.{◌≡◌, ◌+◌, ◌∷◌, ◌∙◌, List, drop, ap, refl, sym, subst}
use Rattle.std.proofs.lemmas.Bool.{false≢true}
use Rattle.std.proofs.lemmas.List.{drop_more, drop_all}
use Rattle.p21_tree.specs.declared.instances.Record.{Record}
use Rattle.p21_schema.specs.Place.{entity_name}
use Rattle.p21_check.specs.Sets.{AnyIn}
use Rattle.p21_query.specs.Wanted.{IsMeant}
use Rattle.p21_query.proofs.AnyLemmas.{any_further, any_there, any_wanted, none_left, wanted_any}
use Rattle.p21_query.proofs.entities.is_wanted.Goals as goal

pub returns-then-is_meant : goal.returns-then-is_meant
returns-then-is_meant c =
    let s = c.args.schema.now in
    let n = entity_name s c.args.entity in
    let P = λ (q : Record). IsMeant s c.args.subtypes q.keyword.now n in
    let rs = c.as_slice-record-items.result.now in
    let i = c.loop-record.record-index in
    let r = c.record-item.result in
    let here : drop i rs ≡ r ∷ drop (i + 1) rs = drop_more rs i r c.loop-record-test.true ∙ ap (λ (q : Record). q ∷ drop (i + 1) rs) (sym c.record-item.is) in
    let any = any_there P rs _ i r here (c.is_meant.ensures.0 c.if-is_meant.true) in
    (λ _. wanted_any s c.args.subtypes n c.args.instance.now (subst (λ (l : List Record). AnyIn l P) c.as_slice-record-items.ensures any), λ _. refl)

pub loop-record-preserved : goal.loop-record-preserved
loop-record-preserved c = λ any.
    let s = c.args.schema.now in
    let n = entity_name s c.args.entity in
    let rs = c.as_slice-record-items.result.now in
    let i = c.loop-record.record-index in
    let r = c.record-item.result in
    let here : drop i rs ≡ r ∷ drop (i + 1) rs = drop_more rs i r c.loop-record-test.true ∙ ap (λ (q : Record). q ∷ drop (i + 1) rs) (sym c.record-item.is) in
    any_further (λ (q : Record). IsMeant s c.args.subtypes q.keyword.now n) _ _ r here (λ b. false≢true (sym c.if-is_meant.false ∙ c.is_meant.ensures.1 b)) (c.loop-record.invariant any)

pub returns : goal.returns
returns c =
    let s = c.args.schema.now in
    let n = entity_name s c.args.entity in
    let P = λ (q : Record). IsMeant s c.args.subtypes q.keyword.now n in
    let none = drop_all c.loop-record.record-index c.as_slice-record-items.result.now c.loop-record-test.false in (
      λ f. absurd (false≢true f),
      λ h.
          let any = subst (λ (l : List Record). AnyIn l P) (sym c.as_slice-record-items.ensures) (any_wanted s c.args.subtypes n c.args.instance.now h) in
          absurd (none_left P _ none (c.loop-record.invariant any)),
    )

use Rattle.std.proofs.Common.{◌≡◌, ◌+◌, ◌∷◌, ◌∙◌, List, drop, ap, refl, sym, subst}
use Rattle.std.proofs.lemmas.Bool.{false≢true}
use Rattle.std.proofs.lemmas.List.{drop_more, drop_all}
use Rattle.p21_tree.specs.declared.instances.Record.{Record}
use Rattle.p21_tree.specs.Plain.{plain_all}
use Rattle.p21_tree.specs.declared.params.Param.{Param}
use Rattle.p21_tree.specs.Views.{plain_record}
use Rattle.p21_check.specs.Sets.{AnyIn}
use Rattle.p21_query.specs.Names.{HasNameIn}
use Rattle.p21_query.proofs.AnyLemmas.{any_further, any_there, any_named, none_left, named_any}
use Rattle.p21_query.proofs.references.is_naming.Goals as goal

pub returns-then-has_name : goal.returns-then-has_name
returns-then-has_name c =
    let n = c.args.name in
    let P = λ (q : Record). HasNameIn n (plain_record q).params in
    let rs = c.as_slice-record-items.result.now in
    let i = c.loop-record.record-index in
    let r = c.record-item.result in
    let here : drop i rs ≡ r ∷ drop (i + 1) rs = drop_more rs i r c.loop-record-test.true ∙ ap (λ (q : Record). q ∷ drop (i + 1) rs) (sym c.record-item.is) in
    let any = any_there P rs _ i r here (subst (λ (l : List Param). HasNameIn n (plain_all l)) c.as_slice.ensures (c.has_name.ensures.0 c.if-has_name.true)) in
    (λ _. named_any n c.args.instance.now (subst (λ (l : List Record). AnyIn l P) c.as_slice-record-items.ensures any), λ _. refl)

pub loop-record-preserved : goal.loop-record-preserved
loop-record-preserved c = λ any.
    let n = c.args.name in
    let rs = c.as_slice-record-items.result.now in
    let i = c.loop-record.record-index in
    let r = c.record-item.result in
    let here : drop i rs ≡ r ∷ drop (i + 1) rs = drop_more rs i r c.loop-record-test.true ∙ ap (λ (q : Record). q ∷ drop (i + 1) rs) (sym c.record-item.is) in
    any_further (λ (q : Record). HasNameIn n (plain_record q).params) _ _ r here (λ b. false≢true (sym c.if-has_name.false ∙ c.has_name.ensures.1 (subst (λ (l : List Param). HasNameIn n (plain_all l)) (sym c.as_slice.ensures) b))) (c.loop-record.invariant any)

pub returns : goal.returns
returns c =
    let n = c.args.name in
    let P = λ (q : Record). HasNameIn n (plain_record q).params in
    let none = drop_all c.loop-record.record-index c.as_slice-record-items.result.now c.loop-record-test.false in (
      λ f. absurd (false≢true f),
      λ h.
          let any = subst (λ (l : List Record). AnyIn l P) (sym c.as_slice-record-items.ensures) (any_named n c.args.instance.now h) in
          absurd (none_left P _ none (c.loop-record.invariant any)),
    )

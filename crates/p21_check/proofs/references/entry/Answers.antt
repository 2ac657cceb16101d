use Rattle.std.proofs.Common.{◌≡◌, ◌<◌, ◌≤◌, List, length, get_or, sym, subst}
use Rattle.p21_tree.specs.declared.params.Param.{Param}
use Rattle.p21_schema.specs.Row.{attribute_at}
use Rattle.p21_check.specs.Attributes.{AreAttributes}
use Rattle.p21_check.specs.Sets.{HasEntity}
use Rattle.p21_check.proofs.EntryLemmas.{faultless_more, faulty_here, faultless_all}
use Rattle.p21_check.proofs.references.entry.Goals as goal

pub loop-attr-preserved : goal.loop-attr-preserved
loop-attr-preserved g c os are =
    let s = c.args.schema.now in
    let ps = c.args.one.now.params in
    let i = c.loop-attr.attr in
    let d = c.param-item.result in
    let e = c.as_slice-param-items.ensures in
    let less = subst (λ (xs : List Param). i < length xs) e c.loop-attr-test.true in
    let is = subst (λ (xs : List Param). d ≡ get_or xs i d) e c.param-item.is in
    let there = c.attribute-attribute.ensures.there os (subst (λ n. AreAttributes s c.args.complex n os) (sym c.requires.named) are) in
    faultless_more s (g.J.NameJudge.named c.args.judge.now) (HasEntity s c.args.set.now) os ps i d (attribute_at s c.attribute-attribute.result) less is there c.in_default.ensures (c.loop-attr.invariant os are)

pub returns-in-Err-clause-found : goal.returns-in-Err-clause-found
returns-in-Err-clause-found g c os are =
    let s = c.args.schema.now in
    let ps = c.args.one.now.params in
    let i = c.loop-attr.attr in
    let d = c.param-item.result in
    let e = c.as_slice-param-items.ensures in
    let less = subst (λ (xs : List Param). i < length xs) e c.loop-attr-test.true in
    let is = subst (λ (xs : List Param). d ≡ get_or xs i d) e c.param-item.is in
    let there = c.attribute-attribute.ensures.there os (subst (λ n. AreAttributes s c.args.complex n os) (sym c.requires.named) are) in
    faulty_here s (g.J.NameJudge.named c.args.judge.now) (HasEntity s c.args.set.now) os ps i d (attribute_at s c.attribute-attribute.result) c.args.rec c.in-Err.bad c.at.result less is there c.in-Err.ensures c.at.ensures (c.loop-attr.invariant os are)

pub returns-clause-found : goal.returns-clause-found
returns-clause-found g c os are =
    let s = c.args.schema.now in
    let ps = c.args.one.now.params in
    let e = c.as_slice-param-items.ensures in
    faultless_all s (g.J.NameJudge.named c.args.judge.now) (HasEntity s c.args.set.now) os ps c.loop-attr.attr (length os) (subst (λ (xs : List Param). length xs ≤ c.loop-attr.attr) e c.loop-attr-test.false) (c.loop-attr.invariant os are)

pub attribute-attribute-requires-clause-position : goal.attribute-attribute-requires-clause-position
attribute-attribute-requires-clause-position g c =
    let s = c.args.schema.now in
    let found = c.attribute_count-count.ensures in
    let same : length c.args.one.now.params ≡ length found.0 = c.requires.count found.0 (subst (λ n. AreAttributes s c.args.complex n found.0) c.requires.named found.1.0) in
    let less = subst (λ (xs : List Param). c.loop-attr.attr < length xs) c.as_slice-param-items.ensures c.loop-attr-test.true in
    (found.0, (found.1.0, subst (λ n. c.loop-attr.attr < n) same less))

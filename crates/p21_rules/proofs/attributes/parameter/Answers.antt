use Rattle.std.proofs.Common.{◌≡◌, ◌∙◌, ℕ, List, Option, Some, None, length, map, sym, ap, subst, arith}
use Rattle.std.proofs.lemmas.List.{drop_all}
use Rattle.p21_tree.specs.Grammar.{Entry}
use Rattle.p21_tree.specs.Plain.{plain, plain_all}
use Rattle.p21_tree.specs.Tree.{Tree}
use Rattle.p21_tree.specs.Views.{plain_record}
use Rattle.p21_tree.specs.declared.instances.Record.{Record}
use Rattle.p21_tree.specs.declared.params.Param.{Param}
use Rattle.p21_schema.specs.Row.{attribute_at}
use Rattle.p21_check.specs.Attributes.{AreAttributes}
use Rattle.p21_rules.specs.Named.{AreNamed, IsNamed}
use Rattle.p21_rules.specs.Parameter.{IsParameterIn, parameter_of}
use Rattle.p21_rules.specs.Parameter as parameter
use Rattle.p21_rules.proofs.ParameterLemmas.{named_long, named_at, entries_at, record_passed, record_unknown, none_in}
use Rattle.p21_rules.proofs.attributes.parameter.Goals as goal

pub bounds-named-place : goal.bounds-named-place
bounds-named-place c =
    let long = named_long c.args.schema.now c.args.instance.now.records c.args.named.now c.requires.named in
    let same = ap (λ (l : List Record). length l) c.as_slice-records.ensures in
    omega arith

pub returns-in-None-clause-value : goal.returns-in-None-clause-value
returns-in-None-clause-value c = λ t h.
    let s = c.args.schema.now in
    let rs = c.as_slice-records.result.now in
    let i = c.loop-place.place in
    let r = c.index-records-place.result in
    let names = subst (λ (l : List Record). AreNamed s (map (λ (e : Entry). e.keyword) (map plain_record l)) c.args.named.now) (sym c.as_slice-records.ensures) c.requires.named in
    let unknown = subst (IsNamed s r.keyword.now) c.in-None.is (named_at s rs c.args.named.now i r names c.loop-place-test.true c.index-records-place.is) in
    let all = subst (λ (l : List Record). IsParameterIn s c.args.instance.now.complex (attribute_at s c.args.attribute) (map plain_record l) t) (sym c.as_slice-records.ensures) h in
    let left = subst (λ (l : List Entry). IsParameterIn s c.args.instance.now.complex (attribute_at s c.args.attribute) l t) (entries_at rs i r c.loop-place-test.true c.index-records-place.is) (c.loop-place.invariant.down t all) in
    record_unknown s c.args.instance.now.complex (attribute_at s c.args.attribute) (plain_record r) _ t unknown left

pub parameter_of-requires-clause-entity : goal.parameter_of-requires-clause-entity
parameter_of-requires-clause-entity c =
    let s = c.args.schema.now in
    let rs = c.as_slice-records.result.now in
    let r = c.index-records-place.result in
    let names = subst (λ (l : List Record). AreNamed s (map (λ (e : Entry). e.keyword) (map plain_record l)) c.args.named.now) (sym c.as_slice-records.ensures) c.requires.named in
    (subst (IsNamed s r.keyword.now) c.in-Some.is (named_at s rs c.args.named.now c.loop-place.place r names c.loop-place-test.true c.index-records-place.is)).0

pub returns-in-Some-parameter_of-clause-value : goal.returns-in-Some-parameter_of-clause-value
returns-in-Some-parameter_of-clause-value c =
    let s = c.args.schema.now in
    let o = attribute_at s c.args.attribute in
    let complex = c.args.instance.now.complex in
    let rs = c.as_slice-records.result.now in
    let i = c.loop-place.place in
    let r = c.index-records-place.result in
    let names = subst (λ (l : List Record). AreNamed s (map (λ (e : Entry). e.keyword) (map plain_record l)) c.args.named.now) (sym c.as_slice-records.ensures) c.requires.named in
    let own = subst (IsNamed s r.keyword.now) c.in-Some.is (named_at s rs c.args.named.now i r names c.loop-place-test.true c.index-records-place.is) in
    let listed = c.in-Some-parameter_of.ensures.listed in
    let p = c.in-Some-parameter_of.param.now in
    let value : ◌≡◌ {A = Option Tree} (Some (plain p)) (parameter_of listed.0 (plain_all c.as_slice-params.result.now) o) = c.in-Some-parameter_of.ensures.value listed.0 listed.1 in
    let are = subst (λ (k : List ℕ). AreAttributes s complex k listed.0) own.1 listed.1 in
    let found : parameter_of listed.0 (plain_record r).params o ≡ Some (plain p) = ap (λ (l : List Param). parameter_of listed.0 (plain_all l) o) (sym c.as_slice-params.ensures) ∙ sym value in
    let at = entries_at rs i r c.loop-place-test.true c.index-records-place.is in
    subst (λ (l : List Record). IsParameterIn s complex o (map plain_record l) (plain p)) c.as_slice-records.ensures (c.loop-place.invariant.up (plain p) (subst (λ (l : List Entry). IsParameterIn s complex o l (plain p)) (sym at) (parameter.here are found)))

pub loop-place-preserved : goal.loop-place-preserved
loop-place-preserved c =
    let s = c.args.schema.now in
    let o = attribute_at s c.args.attribute in
    let complex = c.args.instance.now.complex in
    let rs = c.as_slice-records.result.now in
    let i = c.loop-place.place in
    let r = c.index-records-place.result in
    let names = subst (λ (l : List Record). AreNamed s (map (λ (e : Entry). e.keyword) (map plain_record l)) c.args.named.now) (sym c.as_slice-records.ensures) c.requires.named in
    let own = subst (IsNamed s r.keyword.now) c.in-Some.is (named_at s rs c.args.named.now i r names c.loop-place-test.true c.index-records-place.is) in
    let listed = c.in-None-parameter_of.ensures.listed in
    let are = subst (λ (k : List ℕ). AreAttributes s complex k listed.0) own.1 listed.1 in
    let value : ◌≡◌ {A = Option Tree} None (parameter_of listed.0 (plain_all c.as_slice-params.result.now) o) = c.in-None-parameter_of.ensures.value listed.0 listed.1 in
    let none : parameter_of listed.0 (plain_record r).params o ≡ None = ap (λ (l : List Param). parameter_of listed.0 (plain_all l) o) (sym c.as_slice-params.ensures) ∙ sym value in
    let at = entries_at rs i r c.loop-place-test.true c.index-records-place.is in
    record {
      down = λ t h. record_passed s c.fits.ensures complex o (plain_record r) _ listed.0 t are none (subst (λ (l : List Entry). IsParameterIn s complex o l t) at (c.loop-place.invariant.down t h));
      up = λ t h. c.loop-place.invariant.up t (subst (λ (l : List Entry). IsParameterIn s complex o l t) (sym at) (parameter.behind are none h));
    }

pub returns-clause-value : goal.returns-clause-value
returns-clause-value c = λ t h.
    let s = c.args.schema.now in
    let o = attribute_at s c.args.attribute in
    let complex = c.args.instance.now.complex in
    let rs = c.as_slice-records.result.now in
    let all = subst (λ (l : List Record). IsParameterIn s complex o (map plain_record l) t) (sym c.as_slice-records.ensures) h in
    none_in s complex o _ t (ap (map plain_record) (drop_all c.loop-place.place rs c.loop-place-test.false)) (c.loop-place.invariant.down t all)

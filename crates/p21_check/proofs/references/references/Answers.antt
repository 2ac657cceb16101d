use Rattle.std.proofs.Common.{◌≡◌, List, None, get_or, sym, subst}
use Rattle.p21_tree.specs.Sentence.{Instance}
use Rattle.p21_tree.specs.Views.{plain_instance}
use Rattle.p21_tree.specs.declared.instances.Record.{Record}
use Rattle.p21_check.specs.EntityOf.{IsSimpleEntity}
use Rattle.p21_check.specs.LocalFault.{IsLocalFault}
use Rattle.p21_check.specs.Instances.{complex_instance}
use Rattle.p21_check.specs.Asked.{IsReferenceAnswer}
use Rattle.p21_check.proofs.EntityOfLemmas.{complex_of, is_complex, is_simple}
use Rattle.p21_check.proofs.references.references.Goals as goal

pub simple_references-requires-clause-local : goal.simple_references-requires-clause-local
simple_references-requires-clause-local g c =
    let s = c.args.schema.now in
    let i = c.args.instance.now in
    let x = c.index-records-0.result in
    let first = subst (λ (l : List Record). x ≡ get_or l 0 x) c.as_slice-records.ensures c.index-records-0.is in
    let same = is_simple s i x c.in-Some.entity first (subst (IsSimpleEntity s (plain_instance i)) c.in-Some.is c.requires.own) in
    (i.name, i.at, subst (λ (j : Instance). IsLocalFault s j None) same c.requires.local)

pub complex_references-requires-clause-local : goal.complex_references-requires-clause-local
complex_references-requires-clause-local g c =
    let s = c.args.schema.now in
    let i = c.args.instance.now in
    let same = is_complex i (complex_of s i c.requires.local (subst (IsSimpleEntity s (plain_instance i)) c.in-None.is c.requires.own)) in
    (i.name, i.at, subst (λ (l : List Record). IsLocalFault s (complex_instance i.name i.at l) None) (sym c.as_slice-records.ensures) (subst (λ (j : Instance). IsLocalFault s j None) same c.requires.local))

pub returns-in-Some : goal.returns-in-Some
returns-in-Some g c =
    let s = c.args.schema.now in
    let i = c.args.instance.now in
    let x = c.index-records-0.result in
    let first = subst (λ (l : List Record). x ≡ get_or l 0 x) c.as_slice-records.ensures c.index-records-0.is in
    let same = is_simple s i x c.in-Some.entity first (subst (IsSimpleEntity s (plain_instance i)) c.in-Some.is c.requires.own) in
    subst (λ (j : Instance). IsReferenceAnswer s (g.J.NameJudge.named c.args.judge.now) j c.simple_references.result) (sym same) (c.simple_references.ensures i.name i.at)

pub returns-in-None : goal.returns-in-None
returns-in-None g c =
    let s = c.args.schema.now in
    let i = c.args.instance.now in
    let named = g.J.NameJudge.named c.args.judge.now in
    let same = is_complex i (complex_of s i c.requires.local (subst (IsSimpleEntity s (plain_instance i)) c.in-None.is c.requires.own)) in
    let answer = subst (λ (l : List Record). IsReferenceAnswer s named (complex_instance i.name i.at l) c.complex_references.result) c.as_slice-records.ensures (c.complex_references.ensures i.name i.at) in
    subst (λ (j : Instance). IsReferenceAnswer s named j c.complex_references.result) (sym same) answer

use Rattle.std.proofs.Common.{◌≡◌, List, None, get_or, sym, subst}
use Rattle.std.specs.Prelude.{OnOk}
use Rattle.p21_tree.specs.Sentence.{Instance}
use Rattle.p21_tree.specs.declared.instances.Record.{Record}
use Rattle.p21_check.specs.LocalFault.{IsLocalFault}
use Rattle.p21_check.specs.Referred.{Adds, HasSomewhere}
use Rattle.p21_check.proofs.EntityOfLemmas.{is_simple, names}
use Rattle.p21_check.proofs.referred.push_references.Goals as goal

pub push_of_record-requires-clause-named : goal.push_of_record-requires-clause-named
push_of_record-requires-clause-named c =
    let x = c.index-records-0.result in
    let first = subst (λ (l : List Record). x ≡ get_or l 0 x) c.as_slice-records.ensures c.index-records-0.is in
    names c.args.schema.now c.args.instance.now x c.args.own first c.requires.own

pub push_of_record-requires-clause-local : goal.push_of_record-requires-clause-local
push_of_record-requires-clause-local c =
    let s = c.args.schema.now in
    let i = c.args.instance.now in
    let x = c.index-records-0.result in
    let first = subst (λ (l : List Record). x ≡ get_or l 0 x) c.as_slice-records.ensures c.index-records-0.is in
    (i.name, i.at, subst (λ (j : Instance). IsLocalFault s j None) (is_simple s i x c.args.own first c.requires.own) c.requires.local)

pub returns : goal.returns
returns c =
    let s = c.args.schema.now in
    let i = c.args.instance.now in
    let x = c.index-records-0.result in
    let first = subst (λ (l : List Record). x ≡ get_or l 0 x) c.as_slice-records.ensures c.index-records-0.is in
    subst (λ (j : Instance). OnOk c.push_of_record.result (Adds s (HasSomewhere s j) c.args.into.now.items c.push_of_record.new.into.items)) (sym (is_simple s i x c.args.own first c.requires.own)) (c.push_of_record.ensures i.name i.at)

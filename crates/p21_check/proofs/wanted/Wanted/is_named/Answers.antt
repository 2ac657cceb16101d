use Rattle.std.proofs.Common.{◌≡◌, List, take, map, refl, sym, subst, ◌∙◌}
use Rattle.std.proofs.lemmas.Bool.{false≢true}
use Rattle.std.proofs.lemmas.List.{take_all}
use Rattle.p21_tree.specs.Views.{plain_record}
use Rattle.p21_tree.specs.declared.instances.Record.{Record}
use Rattle.p21_check.specs.Wanted.{IsNamed}
use Rattle.p21_check.proofs.MetLemmas.{not_named_more, named_here}
use Rattle.p21_check.proofs.wanted.Wanted.is_named.Goals as goal

pub loop-record-preserved : goal.loop-record-preserved
loop-record-preserved c =
    let item = c.record-item in
    not_named_more c.args.schema.now c.args.self c.args.records.now c.loop-record.record-index item.result c.loop-record-test.true item.is c.loop-record.invariant
    (λ m. false≢true (sym c.if-is_met_by.false ∙ c.is_met_by.ensures.1 m))

pub returns-then-is_met_by : goal.returns-then-is_met_by
returns-then-is_met_by c =
    let item = c.record-item in
    ((λ _. named_here c.args.schema.now c.args.self c.args.records.now c.loop-record.record-index item.result c.loop-record-test.true item.is (c.is_met_by.ensures.0 c.if-is_met_by.true)), λ _. refl)

pub returns : goal.returns
returns c =
    let all : take c.loop-record.record-index c.args.records.now ≡ c.args.records.now = take_all c.loop-record.record-index c.args.records.now c.loop-record-test.false in
    ((λ h. absurd (false≢true h)), λ n. absurd (c.loop-record.invariant (subst (λ (rs : List Record). IsNamed c.args.schema.now c.args.self (map (λ e. e.keyword) (map plain_record rs))) (sym all) n)))

use Rattle.std.proofs.Common.{◌↔◌, List, map, sym, subst, ◌∙◌}
use Rattle.std.specs.Prelude.{IsTrue}
use Rattle.std.proofs.lemmas.Bool.{false≢true}
use Rattle.p21_tree.specs.Views.{plain_instance, plain_record}
use Rattle.p21_tree.specs.declared.instances.Record.{Record}
use Rattle.p21_check.specs.Wanted.{IsNamed}
use Rattle.p21_check.proofs.AdmitsLemmas.{both, complex_admits, unknown_admits}
use Rattle.p21_check.proofs.EntityOfLemmas.{unknown_keyword}
use Rattle.p21_check.proofs.wanted.Wanted.admits_records.Goals as goal

pub returns-then-instance : goal.returns-then-instance
returns-then-instance c =
    let i = plain_instance c.args.instance.now in
    let named = subst (λ (rs : List Record). IsTrue c.is_named.result ↔ IsNamed c.args.schema.now c.args.self (map (λ e. e.keyword) (map plain_record rs))) c.as_slice.ensures c.is_named.ensures in
    both named (complex_admits c.args.schema.now c.fits.ensures i c.args.self c.if-instance.true c.requires.name c.requires.asked)

pub returns-else-instance : goal.returns-else-instance
returns-else-instance c =
    let s = c.args.schema.now in
    let i = c.args.instance.now in
    let one = unknown_keyword s i c.if-instance.false c.requires.other in
    ((λ h. absurd (false≢true (sym c.if-instance.false ∙ h))), λ a. absurd (unknown_admits s (plain_instance i) c.args.self one.0 one.1 one.2 c.requires.name a))

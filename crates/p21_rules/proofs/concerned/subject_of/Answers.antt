use Rattle.std.proofs.Common.{List, ℕ, sym, subst}
use Rattle.p21_check.specs.EntitySet.{keywords}
use Rattle.p21_check.specs.Sets.{keywords_of}
use Rattle.p21_tree.specs.Views.{plain_instance}
use Rattle.p21_tree.specs.declared.instances.Record.{Record}
use Rattle.p21_schema.specs.declared.ids.EntityId.{EntityId}
use Rattle.p21_rules.specs.Concerned.{AreConcerned}
use Rattle.p21_rules.specs.Named.{AreNamed}
use Rattle.p21_rules.proofs.ParameterLemmas.{keywords_same}
use Rattle.p21_rules.proofs.concerned.subject_of.Goals as goal

pub returns-in_ok-number_rules-in-None : goal.returns-in_ok-number_rules-in-None
returns-in_ok-number_rules-in-None c =
    let s = c.args.schema.now in
    let ks = keywords (plain_instance c.args.instance.now) in
    let from_records = subst (λ (l : List Record). AreNamed s (keywords_of l) c.name_entities.new.named.items) c.as_slice.ensures c.in_ok-name_entities-in-None.ensures in
    let named = subst (λ (names : List (List ℕ)). AreNamed s names c.name_entities.new.named.items) (keywords_same c.args.instance.now.records) from_records in
    let asked = c.in_ok-number_rules-in-None.ensures ks (subst (AreNamed s ks) (sym c.deref-in-None-2.ensures.value) named) in
    record {
      named = subst (AreNamed s ks) (sym c.deref-in-None-3.ensures.value) named;
      numbers = subst (AreConcerned s ks 0 c.args.concerns.now.wanted.items) (sym c.deref-in-None-4.ensures.value) (subst (λ (ws : List EntityId). AreConcerned s ks 0 ws c.number_rules.new.numbers.items) c.deref-in-None.ensures.value asked);
    }

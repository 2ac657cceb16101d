use Rattle.std.proofs.Common.{◌+◌, ◌++◌, ◌∷◌, [], List, map, take, drop, refl, ap, sym, subst, ◌∙◌}
use Rattle.std.specs.List.{AllZip}
use Rattle.std.proofs.lemmas.List.{map-append}
use Rattle.p21_express.specs.Grammar.{Naming}
use Rattle.p21_express.specs.Naming.{plain_naming, plain_namings}
use Rattle.p21_rule_text.specs.Entities.{plain_clauses}
use Rattle.p21_rule_text.specs.Resolve.{IsMeant}
use Rattle.p21_rule_text.specs.declared.resolve.Found.TheVariants as found
use Rattle.p21_rule_text.proofs.RefusalLemmas.{on_any}
use Rattle.p21_rule_text.proofs.StatementLemmas.{map_at, map_more, zip_push}
use Rattle.p21_rule_text.proofs.unique.attributes_named.Goals as goal

pub returns-in-Other-clause-ok : goal.returns-in-Other-clause-ok
returns-in-Other-clause-ok c = record {
  front = plain_namings (take c.loop-name.name-index c.args.names.now);
  ids = c.loop-name.attributes.items;
  explicit = c.loop-name.invariant;
  first = _;
  is_meant = c.in-Other.ensures;
  name = refl;
  behind = plain_namings (drop (c.loop-name.name-index + 1) c.args.names.now);
  names_are = map_at plain_naming c.args.names.now c.loop-name.name-index _ c.loop-name-test.true;
}

pub loop-name-preserved : goal.loop-name-preserved
loop-name-preserved c =
    let s = c.args.known.schema.now in
    let es = map plain_clauses c.args.known.clauses.now in
    let more = zip_push (IsMeant s es c.args.entity) _ _ _ _ c.loop-name.invariant c.in-Explicit.ensures in
    let names = subst (λ (xs : List Naming). AllZip (IsMeant s es c.args.entity) xs (map found.Explicit c.loop-name.attributes.items ++ found.Explicit c.in-Explicit.attribute ∷ [])) (sym (map_more plain_naming c.args.names.now c.loop-name.name-index _ c.loop-name-test.true)) more in
    let ids = ap (map found.Explicit) c.in_ok-push-in-Explicit.ensures.items ∙ map-append found.Explicit c.loop-name.attributes.items (c.in-Explicit.attribute ∷ []) in
    subst (AllZip (IsMeant s es c.args.entity) (plain_namings (take (c.loop-name.name-index + 1) c.args.names.now))) (sym ids) names

pub returns-in-Nothing-clause-refused : goal.returns-in-Nothing-clause-refused
returns-in-Nothing-clause-refused c = on_any c.unknown_attribute.result _ (
  _,
  record {
    front = plain_namings (take c.loop-name.name-index c.args.names.now);
    ids = c.loop-name.attributes.items;
    explicit = c.loop-name.invariant;
    first = _;
    is_meant = c.in-Nothing.ensures;
    name = refl;
    behind = plain_namings (drop (c.loop-name.name-index + 1) c.args.names.now);
    names_are = map_at plain_naming c.args.names.now c.loop-name.name-index _ c.loop-name-test.true;
  },
)

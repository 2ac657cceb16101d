use Rattle.std.proofs.Common.{◌≡◌, ◌∙◌, Some, nat_eq, sym, ap}
use Rattle.p21_schema.specs.Row.{attribute_at, same_origin}
use Rattle.p21_rules.proofs.ParameterLemmas.{same_attribute}
use Rattle.p21_rules.proofs.attributes.is_at.Goals as goal

pub returns : goal.returns
returns c = λ os o a e.
    let s = c.args.schema.now in
    let found = c.attribute-found.result in
    let both : Some (attribute_at s found) ≡ Some o = sym (c.attribute-found.ensures.there os a) ∙ e in
    let same : attribute_at s found ≡ o = cc in
    let ids = same_attribute s c.one_id.ensures.attributes found c.args.other c.attribute-found.ensures.known c.requires.other in
    ap (λ x. nat_eq x c.place-2.result) c.place.ensures ∙ ap (λ y. nat_eq found.index y) c.place-2.ensures ∙ ids ∙ ap (λ u. same_origin u (attribute_at s c.args.other)) same

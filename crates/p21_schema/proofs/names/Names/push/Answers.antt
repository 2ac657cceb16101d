use Rattle.std.proofs.Common.{◌≡◌, ◌++◌, ◌∷◌, [], ◌∙◌}
use Rattle.p21_express.specs.WellFormed.{IsIn}
use Rattle.p21_schema.proofs.NameLemmas.{pushed, names_of}
use Rattle.p21_schema.proofs.names.Names.push.Goals as goal

pub returns : goal.returns
returns c =
    let k = c.in_ok-from_slice.field-0 in
    let e : k.items ≡ c.args.name.now = c.in_ok-from_slice.ensures.items in
    let absent : ¬ (IsIn (names_of c.self.inside.set.keys) k.items) = rw (c.self.view_is, e) c.requires in
    rw c.in_ok-insert.ensures.keys (pushed c.self.inside.set.keys k absent ∙ (λ j. c.self.view_is j ++ e j ∷ []))

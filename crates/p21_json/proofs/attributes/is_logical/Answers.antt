use Rattle.std.proofs.Common.{subst}
use Rattle.p21_express.specs.Schema.{Schema}
use Rattle.p21_tree.specs.Views.{plain_instance}
use Rattle.p21_schema.specs.Row.{attribute_at}
use Rattle.p21_schema.specs.Declaration.{AreDeclarations, AreResolvedIn}
use Rattle.p21_json.proofs.AttributeLemmas.{logical_attribute}
use Rattle.p21_json.proofs.attributes.is_logical.Goals as goal

pub returns : goal.returns
returns c =
    let ds = c.declarations.ensures in
    let are = subst (λ (s : Schema). AreDeclarations s (attribute_at s c.args.attribute) ds.0) c.schema.ensures ds.1.0 in
    let resolved = subst (λ (s : Schema). AreResolvedIn s c.declarations.result.now ds.0) c.schema.ensures ds.1.1 in
    logical_attribute c.args.terms.now (plain_instance c.args.instance.now) (attribute_at c.args.terms.now c.args.attribute) ds.0 c.declare_logical.result are (c.declare_logical.ensures ds.0 resolved)

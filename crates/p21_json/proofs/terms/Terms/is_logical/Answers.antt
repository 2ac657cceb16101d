use Rattle.std.proofs.Common.{sym, subst}
use Rattle.std.proofs.lemmas.Bool.{false≢true}
use Rattle.p21_express.specs.Schema.{Schema, named}
use Rattle.p21_json.specs.Logical.{TakesLogical}
use Rattle.p21_json.proofs.FlagLemmas.{no_type_takes}
use Rattle.p21_json.proofs.terms.Terms.is_logical.Goals as goal

pub returns-in-None : goal.returns-in-None
returns-in-None c = (
  λ f. absurd (false≢true f),
  λ t. absurd (no_type_takes c.self.inside.schema.now c.args.name.now c.in-None.ensures (subst (λ (s : Schema). TakesLogical s (named c.args.name.now)) (sym c.self.view_is) t)),
)

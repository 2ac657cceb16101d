use Rattle.std.proofs.Common.{List, ℕ, subst}
use Rattle.p21_express.specs.Schema.{named}
use Rattle.p21_rules.specs.Elements.{AreElements}
use Rattle.p21_rules.proofs.ElementsLemmas.{untyped_elements}
use Rattle.p21_rules.proofs.elements.elements_typed.Goals as goal

pub returns-in-Some : goal.returns-in-Some
returns-in-Some c = subst (λ (n : List ℕ). AreElements c.args.schema.now (named n) c.elements_under.result) c.in-Some.ensures.1 c.elements_under.ensures

pub returns-in-None : goal.returns-in-None
returns-in-None c = untyped_elements c.args.schema.now c.args.keyword.now c.in-None.ensures

use Rattle.std.proofs.Common.{◌≡◌, ◌<◌, Bool, true, false, not, subst}
use Rattle.std.specs.Bool.{MatchBool}
use Rattle.std.proofs.lemmas.List.{length-map}
use Rattle.p21_express.specs.Again.{IsDerivedAt}
use Rattle.p21_express.specs.Plain.{plain_entity, plain_schema}
use Rattle.p21_express.proofs.AgainLemmas.{derived_at}
use Rattle.p21_express.proofs.RedeclarationLemmas.{entity_there_at}
use Rattle.p21_express.proofs.checks.redeclared.is_allowed.Goals as goal

turned_round : (b : Bool) (E D : Type 0) → E → MatchBool b D (¬ D) → MatchBool (not b) (E → ¬ D) (¬ (E → ¬ D))
turned_round true E D e d = λ allowed. allowed e d
turned_round false E D e none = λ _. none

pub returns-then-again : goal.returns-then-again
returns-then-again c =
    let s = plain_schema c.args.declarations.now in
    let i = c.args.position in
    let there = entity_there_at c.args.declarations.now.entities.items i c.index.result.now (subst (λ u. i < u) (length-map c.args.declarations.now.entities.items plain_entity) c.requires) c.index.ensures in
    turned_round c.derives.result (c.args.again.explicit ≡ true) (IsDerivedAt s c.args.again.name.now i) c.if-again.true (derived_at s c.args.again.name.now i (plain_entity c.index.result.now) c.derives.result there c.derives.ensures)

pub returns : goal.returns
returns c = λ t. absurd (let a = c.if-again.false in cc)

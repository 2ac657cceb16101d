use Rattle.std.proofs.Common.{take}
use Rattle.p21_rule_text.specs.Statements.{AreTold}
use Rattle.p21_rule_text.proofs.unique.told.Given as goal

abbrev pub invariant-loop-index : goal.invariant-loop-index
invariant-loop-index l = AreTold l.fn.known.schema.now l.fn.rule l.fn.label (take l.index l.fn.rule.attributes.items) l.told.items

use Rattle.p21_tree.specs.Plain.{plain}
use Rattle.p21_rules.proofs.SlotLemmas.{not_by, value_by}
use Rattle.p21_rules.proofs.slots.is_value_by.Goals as goal

pub returns-then-not-branch : goal.returns-then-not-branch
returns-then-not-branch c = λ f v r e. not_by c.items_are_unique.ensures c.args.schema.now c.fits.ensures f (plain c.args.param.now) _ _ _ v (c.in_ok-push_by.ensures f r) c.if-not-branch.true

pub returns : goal.returns
returns c = λ f v r e. value_by c.items_are_unique.ensures c.args.schema.now c.fits.ensures f (plain c.args.param.now) _ _ c.as_slice.result.now c.args.own.now _ c.eq.result v c.new-code.ensures.items (c.in_ok-push_by.ensures f r) c.if-not-branch.false c.as_slice.ensures.value e c.eq.ensures

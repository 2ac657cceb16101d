use Rattle.std.proofs.Common.{sym, ◌∙◌}
use Rattle.std.proofs.lemmas.Bool.{false≢true}
use Rattle.p21_check.proofs.Tests.{each_false}
use Rattle.p21_check.proofs.SetLemmas.{not_true, lacking}
use Rattle.p21_check.proofs.InstanceLemmas.{abstract_by}
use Rattle.p21_check.proofs.supertypes.lacks_below.Goals as goal

pub returns-then-is_abstract : goal.returns-then-is_abstract
returns-then-is_abstract c =
    let abstract_ = abstract_by c.args.schema.now c.fits.ensures c.args.entity c.is_abstract.result c.requires.entity c.is_abstract.ensures in (
      λ t. (abstract_.0 c.if-is_abstract.true, λ h. false≢true (sym (not_true c.has_subtype_by.result t) ∙ c.has_subtype_by.ensures.1 h)),
      λ h. lacking c.has_subtype_by.result (λ t. h.1 (c.has_subtype_by.ensures.0 t)),
    )

pub returns-else-is_abstract : goal.returns-else-is_abstract
returns-else-is_abstract c = each_false c.if-is_abstract.false (abstract_by c.args.schema.now c.fits.ensures c.args.entity c.is_abstract.result c.requires.entity c.is_abstract.ensures)

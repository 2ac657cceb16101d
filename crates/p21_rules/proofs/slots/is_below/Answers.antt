use Rattle.std.proofs.Common.{refl, sym, ◌∙◌, nat_eq}
use Rattle.std.proofs.lemmas.Bool.{false≢true}
use Rattle.p21_rules.proofs.IdLemmas.{same_id, not_true, not_false, below_by, not_below}
use Rattle.p21_rules.proofs.slots.is_below.Goals as goal

pub returns-then-ne : goal.returns-then-ne
returns-then-ne c =
    let f = same_id (nat_eq c.args.entity.index c.args.other.index) c.args.entity c.args.other refl in
    let differ = not_true (nat_eq c.args.entity.index c.args.other.index) (sym c.ne.ensures ∙ c.if-ne.true) in
    below_by c.args.schema.now c.args.entity c.args.other c.one_id.ensures.entities c.is_a.result c.requires.entity c.requires.other (λ e. false≢true (sym differ ∙ f.1 e)) c.is_a.ensures

pub returns-else-ne : goal.returns-else-ne
returns-else-ne c =
    let f = same_id (nat_eq c.args.entity.index c.args.other.index) c.args.entity c.args.other refl in
    let same = f.0 (not_false (nat_eq c.args.entity.index c.args.other.index) (sym c.ne.ensures ∙ c.if-ne.false)) in
    (λ t. absurd (false≢true (sym c.if-ne.false ∙ t)), λ k. absurd (not_below c.args.schema.now c.args.entity c.args.other c.fits.ensures same k))

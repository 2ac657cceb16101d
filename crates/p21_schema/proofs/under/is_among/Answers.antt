use Rattle.std.proofs.Common.{◌≡◌, sym, refl, ◌∙◌}
use Rattle.std.specs.Cmp.Lexicographic.{bytes_decides}
use Rattle.std.proofs.lemmas.Bool.{false≢true}
use Rattle.p21_schema.proofs.ItemLemmas.{is_there, not_yet, nowhere}
use Rattle.p21_schema.proofs.under.is_among.Goals as goal

pub returns-then-eq : goal.returns-then-eq
returns-then-eq c =
    let same : c.as_slice.result.now ≡ c.args.name.now = (bytes_decides c.as_slice.result.now c.args.name.now).0 (sym c.eq.ensures ∙ c.if-eq.true) in
    (λ _. is_there c.args.names.now c.args.name.now c.loop-other.other-index c.other-item.result c.loop-other-test.true c.other-item.is (sym c.as_slice.ensures.value ∙ same), λ _. refl)

pub loop-other-preserved : goal.loop-other-preserved
loop-other-preserved c =
    not_yet c.args.names.now c.args.name.now c.loop-other.other-index c.other-item.result c.loop-other-test.true c.other-item.is
    (λ e. false≢true (sym c.if-eq.false ∙ c.eq.ensures ∙ (bytes_decides c.as_slice.result.now c.args.name.now).1 (c.as_slice.ensures.value ∙ e)))
    c.loop-other.invariant

pub returns : goal.returns
returns c = (λ h. absurd (false≢true h), λ m. absurd (nowhere c.args.names.now c.args.name.now c.loop-other.other-index c.loop-other-test.false c.loop-other.invariant m))

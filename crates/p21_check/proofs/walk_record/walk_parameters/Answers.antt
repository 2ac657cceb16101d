use Rattle.std.proofs.Common.{◌≡◌, length, refl, sym, ap, subst, ◌∙◌, arith}
use Rattle.p21_text.specs.Tokens.{placed}
use Rattle.p21_check.specs.WalkRecord.{SetOf, WalksParameters}
use Rattle.p21_check.proofs.AttributeLemmas.{one_list}
use Rattle.p21_check.proofs.PassedLemmas.{at_some}
use Rattle.p21_check.proofs.WalkRecordLemmas.{parameters_first, parameters_then}
use Rattle.p21_check.proofs.walk_record.walk_parameters.Goals as goal

pub loop-position-init : goal.loop-position-init
loop-position-init c = record {
  reached = omega (arith, c.if-count-eq0.false);
  within = at_some _ c.in-Some.is c.in_ok-first.ensures.within;
  counts = at_some _ c.in-Some.is c.in_ok-first.ensures.counts;
  walks = λ g os are.
      (let s = c.args.schema.now in
      let h = at_some _ c.in-Some.is (c.in_ok-first.ensures.walked g os are) in
      parameters_first s (SetOf s c.args.own) os h.0 c.args.text.now c.args.at c.args.into.now.items c.walk_parameter.new.into.items c.in-Some.first h.1 h.2);
}

pub loop-position-preserved : goal.loop-position-preserved
loop-position-preserved c =
    let more = at_some _ c.in-Some-2.is c.in_ok-next.ensures.counts in
    record {
      reached = omega (arith, c.loop-position-test.true);
      within = at_some _ c.in-Some-2.is c.in_ok-next.ensures.within;
      counts = omega (arith, more, c.loop-position.invariant.counts, c.next_token-lexed.ensures.behind, c.next_token-lexed.ensures.ordered);
      walks = λ g os are.
          (let s = c.args.schema.now in
          let h = at_some _ c.in-Some-2.is (c.in_ok-next.ensures.walked g os are) in
          parameters_then s (SetOf s c.args.own) os h.0 c.args.text.now c.args.at c.loop-position.position c.args.into.now.items c.loop-position.into.items c.walk_parameter-in-loop-position.new.into.items
          (record { after = c.loop-position.place; written = c.loop-position.written }) c.in-Some-2.next (placed c.next_token-lexed.result) (c.loop-position.invariant.walks g os are) c.next_token-lexed.ensures.first (c.if-not-is_comma.ensures refl) h.1 h.2);
    }

pub returns-clause-walked : goal.returns-clause-walked
returns-clause-walked c g os are =
    let s = c.args.schema.now in
    let found = c.attribute_count-count.ensures in
    let count : c.attribute_count-count.result ≡ length os = found.1.1 ∙ ap length (one_list s c.fits.ensures found.1.0 are) in
    let all : c.loop-position.position ≡ length os = omega (arith, c.loop-position-test.false, c.loop-position.invariant.reached, count) in
    subst (λ n. WalksParameters s (SetOf s c.args.own) os n c.args.text.now c.args.at c.args.into.now.items c.loop-position.into.items (record { after = c.loop-position.place; written = c.loop-position.written })) all (c.loop-position.invariant.walks g os are)

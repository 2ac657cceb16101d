use Rattle.std.proofs.Common.{refl, sym, ap, subst, ◌∙◌}
use Rattle.std.proofs.lemmas.Bool.{false≢true}
use Rattle.p21_text.specs.Spelling.{symbol}
use Rattle.p21_text.specs.Tokens.{placed}
use Rattle.p21_check.specs.LocalFault.{IsAbstract}
use Rattle.p21_check.proofs.InstanceLemmas.{abstract_by}
use Rattle.p21_check.proofs.piece_walk.walk_head.Goals as goal

pub returns-clause-head : goal.returns-clause-head
returns-clause-head c =
    let s = c.args.schema.now in
    let known = c.in_ok-entity.ensures in
    record {
      name = placed c.next_token-named.result;
      equals = placed c.next_token-equals.result;
      keyword = placed c.next_token-key.result;
      open_ = placed c.next_token-open.result;
      name_first = c.next_token-named.ensures.first;
      name_is = ap symbol c.in-Name.is;
      start_is = refl;
      equals_first = c.next_token-equals.ensures.first;
      equals_is = c.if-not-is_equals.ensures refl;
      keyword_first = c.next_token-key.ensures.first;
      keyword_is = ap symbol c.in-Keyword.is;
      open_first = c.next_token-open.ensures.first;
      open_is = c.if-not-is_open.ensures refl;
      after_is = refl;
      known_ = known.0;
      named = known.1;
      concrete = λ h. false≢true (sym c.if-is_abstract.false ∙ (abstract_by s c.fits.ensures c.in_ok-entity.entity c.is_abstract.result known.0 c.is_abstract.ensures).1 (subst (IsAbstract s) (sym known.1) h));
    }

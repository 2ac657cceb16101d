use Rattle.std.proofs.Common.{◌≡◌, ◌<◌, true, false, map, refl, sym, ap, ◌∙◌, arith}
use Rattle.p21_text.specs.Spelling.{symbol}
use Rattle.p21_text.specs.Spelling as token
use Rattle.p21_text.specs.Tokens.{placed}
use Rattle.p21_tree.specs.Grammar.{IsKey}
use Rattle.p21_tree.specs.Sentence.{endsec_word}
use Rattle.p21_tree.specs.Keywords.{keyword_view}
use Rattle.p21_tree.specs.Views.{plain_entity}
use Rattle.p21_tree.specs.Parts.{EntityRest, HeaderRest}
use Rattle.p21_tree.specs.Progress.{Fails}
use Rattle.p21_tree.proofs.ExitLemmas.{exit_error}
use Rattle.p21_tree.proofs.RecordLemmas.{keyword_is, no_keyword, key_not_last}
use Rattle.p21_tree.proofs.HeaderLemmas.{covers_no_entity, covers_next_entity, covers_one_entity, covers_header, fails_one_entity, fails_no_entity, fails_header_end, faults_next_entity}
use Rattle.p21_tree.proofs.header_section.entities.Goals as goal
use Rattle.p21_tree.proofs.header_section.entities.Goals.{In-Some}

is_key : (c : In-Some) → IsKey (symbol c.token-lexed.result.token) c.in-Some.keyword.now
is_key c = keyword_is (symbol c.token-lexed.result.token) c.in-Some.keyword.now (sym c.keyword.ensures ∙ ap keyword_view c.in-Some.is)

pub entities-init : goal.entities-init
entities-init c = record {
  within = c.requires;
  reads = covers_no_entity c.args.source c.args.at c.new-entities.result.items c.new-entities.ensures.items;
  faults = λ f h. h;
}

pub returns-then-is-clause-ok : goal.returns-then-is-clause-ok
returns-then-is-clause-ok c =
    covers_header c.args.source c.args.at c.entities.place (placed c.token-lexed.result) (map plain_entity c.entities.entities.items) c.entities.invariant.reads c.token-lexed.ensures.first (c.if-is.ensures.0 refl)

pub returns-then-is-clause-rest : goal.returns-then-is-clause-rest
returns-then-is-clause-rest c = λ f h. c.entities.invariant.faults f (fails_header_end c.args.source c.entities.place (placed c.token-lexed.result) f c.token-lexed.ensures.first (c.if-is.ensures.0 refl) h)

pub returns-in_default-clause-fault : goal.returns-in_default-clause-fault
returns-in_default-clause-fault c =
    c.entities.invariant.faults c.refused.result (fails_no_entity c.args.source c.entities.place (placed c.token-lexed.result) c.refused.result c.token-lexed.ensures.first
    (no_keyword (symbol c.token-lexed.result.token) (sym c.keyword.ensures ∙ ap keyword_view c.in_default.is)) (λ e. let f : false ≡ true = c.if-is.ensures.1 e in cc) c.refused.ensures.place c.refused.ensures.kind)

pub returns-in_err-read-clause-fault : goal.returns-in_err-read-clause-fault
returns-in_err-read-clause-fault c =
    exit_error c.from_residual.result (Fails EntityRest 63 c.args.source c.token-lexed.result.after) (Fails HeaderRest 64 c.args.source c.args.at) c.in_err-read.field-0.0 c.from_residual.ensures.1
    (λ f h. c.entities.invariant.faults f (fails_one_entity c.args.source c.entities.place (placed c.token-lexed.result) c.in-Some.keyword.now c.token-lexed.ensures.first (is_key (goal.at.returns-in_err-read-clause-fault c).In-Some) (λ e. let g : false ≡ true = c.if-is.ensures.1 e in cc) f h)) c.in_err-read.ensures.fault

pub entities-smaller : goal.entities-smaller
entities-smaller c =
    let a : c.token-lexed.result.start < c.token-lexed.result.after = c.token-lexed.ensures.advances (key_not_last (is_key (goal.at.entities-smaller c).In-Some)) in
    omega (arith, a, c.token-lexed.ensures.behind, c.in_ok-read.ensures.behind, c.in_ok-read.ensures.within)

pub entities-preserved : goal.entities-preserved
entities-preserved c =
    let t = placed c.token-lexed.result in
    let key = is_key (goal.at.entities-preserved c).In-Some in
    let other : symbol c.token-lexed.result.token ≡ token.keyword endsec_word → ⊥ = λ e. (let g : false ≡ true = c.if-is.ensures.1 e in cc) in
    record {
      within = c.in_ok-read.ensures.within;
      reads = covers_next_entity c.args.source c.args.at c.entities.place c.in_ok-read.after c.entities.entities.items c.push.new.self.items c.in_ok-read.read c.in_ok-push.ensures.items c.entities.invariant.reads
          (covers_one_entity c.args.source c.entities.place t c.in-Some.keyword.now c.token-lexed.ensures.first key other c.in_ok-read.after (plain_entity c.in_ok-read.read) c.in_ok-read.ensures.ok);
      faults = λ f g. c.entities.invariant.faults f (faults_next_entity c.args.source c.entities.place t c.in-Some.keyword.now c.token-lexed.ensures.first key other c.in_ok-read.after (plain_entity c.in_ok-read.read) f c.in_ok-read.ensures.ok g);
    }

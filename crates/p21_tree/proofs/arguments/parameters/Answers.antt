use Rattle.std.proofs.Common.{◌≡◌, ◌<◌, refl, sym, ap, ◌∙◌, arith}
use Rattle.p21_text.specs.Spelling.{symbol}
use Rattle.p21_text.specs.Tokens.{placed}
use Rattle.p21_tree.specs.Plain.{plain_all}
use Rattle.p21_tree.specs.Machine.{step, go, closed, refused, deep}
use Rattle.p21_tree.specs.Opened.{state_of, step_of}
use Rattle.p21_tree.proofs.ArgumentLemmas.{new_state, covers_start, covers_go, covers_closed, fails_refused, fails_deep, go_not_last}
use Rattle.p21_tree.proofs.arguments.parameters.Goals as goal

pub tokens-init : goal.tokens-init
tokens-init c = record {
  behind = omega arith;
  within = c.requires.place;
  reads = covers_start c.args.source c.args.at c.args.left _ (new_state c.restart.new.self.frames.items c.restart.new.self.current.items c.restart.new.self.room c.args.left c.restart.ensures.frames c.restart.ensures.current c.restart.ensures.room);
}

pub tokens-smaller : goal.tokens-smaller
tokens-smaller c =
    let e : step (state_of c.tokens.nest c.tokens.mode) (symbol c.token-lexed.result.token) ≡ go (state_of c.take_token.new.nest c.in-Go.next) = sym c.in_ok-next.ensures ∙ ap (step_of c.take_token.new.nest) c.in-Go.is in
    let a : c.token-lexed.result.start < c.token-lexed.result.after = c.token-lexed.ensures.advances (go_not_last (state_of c.tokens.nest c.tokens.mode) (state_of c.take_token.new.nest c.in-Go.next) (symbol c.token-lexed.result.token) e) in
    omega (arith, a, c.token-lexed.ensures.behind, c.token-lexed.ensures.within)

pub tokens-preserved : goal.tokens-preserved
tokens-preserved c =
    let e : step (state_of c.tokens.nest c.tokens.mode) (symbol c.token-lexed.result.token) ≡ go (state_of c.take_token.new.nest c.in-Go.next) = sym c.in_ok-next.ensures ∙ ap (step_of c.take_token.new.nest) c.in-Go.is in
    record {
      behind = omega (arith, c.tokens.invariant.behind, c.token-lexed.ensures.behind, c.token-lexed.ensures.ordered);
      within = c.token-lexed.ensures.within;
      reads = covers_go c.args.source c.args.at c.tokens.place c.args.left (state_of c.tokens.nest c.tokens.mode) (placed c.token-lexed.result) (state_of c.take_token.new.nest c.in-Go.next) c.tokens.invariant.reads c.token-lexed.ensures.first e;
    }

pub returns-in-Closed-clause-ok : goal.returns-in-Closed-clause-ok
returns-in-Closed-clause-ok c =
    let e : step (state_of c.tokens.nest c.tokens.mode) (symbol c.token-lexed.result.token) ≡ closed (plain_all c.in-Closed.params) = sym c.in_ok-next.ensures ∙ ap (step_of c.take_token.new.nest) c.in-Closed.is in
    covers_closed c.args.source c.args.at c.tokens.place c.args.left (state_of c.tokens.nest c.tokens.mode) (placed c.token-lexed.result) (plain_all c.in-Closed.params) c.tokens.invariant.reads c.token-lexed.ensures.first e

pub returns-in-Refused-clause-fault : goal.returns-in-Refused-clause-fault
returns-in-Refused-clause-fault c =
    let e : step (state_of c.tokens.nest c.tokens.mode) (symbol c.token-lexed.result.token) ≡ refused = sym c.in_ok-next.ensures ∙ ap (step_of c.take_token.new.nest) c.in-Refused.is in
    fails_refused c.args.source c.args.at c.tokens.place c.args.left (state_of c.tokens.nest c.tokens.mode) (placed c.token-lexed.result) c.refused.result c.tokens.invariant.reads c.token-lexed.ensures.first e c.refused.ensures.place c.refused.ensures.kind

pub returns-in-TooDeep-clause-fault : goal.returns-in-TooDeep-clause-fault
returns-in-TooDeep-clause-fault c =
    let e : step (state_of c.tokens.nest c.tokens.mode) (symbol c.token-lexed.result.token) ≡ deep = sym c.in_ok-next.ensures ∙ ap (step_of c.take_token.new.nest) c.in-TooDeep.is in
    fails_deep c.args.source c.args.at c.tokens.place c.args.left (state_of c.tokens.nest c.tokens.mode) (placed c.token-lexed.result) _ c.tokens.invariant.reads c.token-lexed.ensures.first e refl refl

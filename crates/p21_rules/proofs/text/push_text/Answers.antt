use Rattle.std.proofs.Common.{◌∙◌, sym}
use Rattle.p21_rules.proofs.TextLemmas.{characters_pushed, written_pushed}
use Rattle.p21_rules.proofs.text.push_text.Goals as goal

pub returns-then-has_replacement : goal.returns-then-has_replacement
returns-then-has_replacement c =
    let w = c.in_ok-write_string.ensures in
    written_pushed c.push_bytes.result c.args.body.now w.0 c.as_bytes.result.now _ _ _ w.1.0 (c.as_bytes.ensures.value ∙ w.1.1) (sym c.has_replacement.ensures ∙ c.if-has_replacement.true) c.in_ok-push.ensures.items c.push_bytes.ensures

pub returns : goal.returns
returns c =
    let w = c.in_ok-write_string.ensures in
    characters_pushed c.push_bytes-2.result c.args.body.now w.0 c.as_bytes.result.now c.as_bytes-2.result.now _ _ _ w.1.0 (c.as_bytes.ensures.value ∙ w.1.1) (c.as_bytes-2.ensures.value ∙ w.1.1) (sym c.has_replacement.ensures ∙ c.if-has_replacement.false) c.in_ok-push-2.ensures.items c.push_bytes-2.ensures

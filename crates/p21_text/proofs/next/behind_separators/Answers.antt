use Rattle.std.proofs.Common.{◌≤◌, ◌+◌, length, drop, arith}
use Rattle.std.proofs.lemmas.List.{take_rest, length-drop}
use Rattle.p21_text.specs.Spelling.{symbol}
use Rattle.p21_text.proofs.FrontLemmas.{front_within, front_some, front_content}
use Rattle.p21_text.proofs.next.behind_separators.Goals as goal

-- the token's bytes are bytes of the text
within : (c : goal.After-token-1) → c.args.at + c.separators_len-gap.result + c.front-len.result.1 ≤ length c.args.text.now
within c =
    let text = c.args.text.now in
    let at = c.args.at in
    let gap = c.separators_len-gap.result in
    let passed : gap ≤ length (drop at text) = simp take_rest at c.separators_len-gap.ensures.fits in
    let inside : c.front-len.result.1 ≤ length (drop gap (drop at text))
    = simp take_rest at (front_within _ c.front-len.result.1 (symbol c.front-len.result.0) c.front-len.ensures) in
    omega (arith, c.requires, length-drop at text, length-drop gap (drop at text))

pub overflow_add-result : goal.overflow_add-result
overflow_add-result c = let inside = within c in omega arith

pub returns-clause-within : goal.returns-clause-within
returns-clause-within c = within c

pub returns-clause-advances : goal.returns-clause-advances
returns-clause-advances c = λ more. let some = front_some _ c.front-len.result.1 (symbol c.front-len.result.0) c.front-len.ensures more in omega arith

pub returns-clause-content : goal.returns-clause-content
returns-clause-content c = front_content _ c.front-len.result.1 (symbol c.front-len.result.0) c.front-len.ensures

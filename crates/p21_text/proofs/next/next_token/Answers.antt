use Rattle.std.proofs.Common.{◌≤◌, ◌+◌, length, drop, arith}
use Rattle.std.proofs.lemmas.List.{take_rest, length-drop}
use Rattle.p21_text.specs.Spelling.{symbol}
use Rattle.p21_text.proofs.FrontLemmas.{front_within, front_some, front_content}
use Rattle.p21_text.proofs.next.next_token.Goals as goal

-- the token's bytes are bytes of the text
within : (c : goal.In-Some) → c.args.at + c.in-Some.len ≤ length c.args.text.now
within c =
    let inside : c.in-Some.len ≤ length (drop c.args.at c.args.text.now)
    = simp take_rest at (front_within _ c.in-Some.len (symbol c.in-Some.token) c.in-Some.ensures.1) in
    omega (arith, c.requires, length-drop c.args.at c.args.text.now)

pub overflow_add-result : goal.overflow_add-result
overflow_add-result c = let inside = within c in omega arith

pub returns-in-Some-clause-within : goal.returns-in-Some-clause-within
returns-in-Some-clause-within c = within c

pub returns-in-Some-clause-advances : goal.returns-in-Some-clause-advances
returns-in-Some-clause-advances c = λ more. let some = front_some _ c.in-Some.len (symbol c.in-Some.token) c.in-Some.ensures.1 more in omega arith

pub returns-in-Some-clause-content : goal.returns-in-Some-clause-content
returns-in-Some-clause-content c = front_content _ c.in-Some.len (symbol c.in-Some.token) c.in-Some.ensures.1

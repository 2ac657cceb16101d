use Rattle.std.proofs.Common.{inl, inr, refl}
use Rattle.p21_text.specs.Spelling as token
use Rattle.p21_text.proofs.FrontLemmas.{end_mark, single_mark}
use Rattle.p21_text.proofs.front.single_byte_token.Goals as goal

pub returns-in_default : goal.returns-in_default
returns-in_default c = end_mark c.args.text.now c.in_default.ensures.cases

pub returns-in-44 : goal.returns-in-44
returns-in-44 c = single_mark c.args.text.now c.in-Some._tail.now c.in-Some.first.now 44 token.comma c.in-Some.ensures.cases.0 c.in-44.is (inr (inr (inr (inr (inl refl))))) refl

pub returns-in-40 : goal.returns-in-40
returns-in-40 c = single_mark c.args.text.now c.in-Some._tail.now c.in-Some.first.now 40 token.lparen c.in-Some.ensures.cases.0 c.in-40.is (inr (inr (inl refl))) refl

pub returns-in-41 : goal.returns-in-41
returns-in-41 c = single_mark c.args.text.now c.in-Some._tail.now c.in-Some.first.now 41 token.rparen c.in-Some.ensures.cases.0 c.in-41.is (inr (inr (inr (inl refl)))) refl

pub returns-in-59 : goal.returns-in-59
returns-in-59 c = single_mark c.args.text.now c.in-Some._tail.now c.in-Some.first.now 59 token.semi c.in-Some.ensures.cases.0 c.in-59.is (inr (inr (inr (inr (inr (inr refl)))))) refl

pub returns-in-61 : goal.returns-in-61
returns-in-61 c = single_mark c.args.text.now c.in-Some._tail.now c.in-Some.first.now 61 token.equals c.in-Some.ensures.cases.0 c.in-61.is (inr (inr (inr (inr (inr (inl refl)))))) refl

pub returns-in-36 : goal.returns-in-36
returns-in-36 c = single_mark c.args.text.now c.in-Some._tail.now c.in-Some.first.now 36 token.dollar c.in-Some.ensures.cases.0 c.in-36.is (inl refl) refl

pub returns-in-42 : goal.returns-in-42
returns-in-42 c = single_mark c.args.text.now c.in-Some._tail.now c.in-Some.first.now 42 token.star c.in-Some.ensures.cases.0 c.in-42.is (inr (inl refl)) refl

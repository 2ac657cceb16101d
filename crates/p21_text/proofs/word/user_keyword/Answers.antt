use Rattle.p21_text.proofs.WordLemmas.{user_front, user_none}
use Rattle.p21_text.proofs.word.user_keyword.Goals as goal

pub returns-in-Some : goal.returns-in-Some
returns-in-Some c = user_front c.args.text.now c.args.tail.now c.in-Some.name c.requires c.in-Some.ensures.0 c.in-Some.ensures.1

pub returns-in-None : goal.returns-in-None
returns-in-None c = user_none c.args.text.now c.args.tail.now c.requires c.in-None.ensures

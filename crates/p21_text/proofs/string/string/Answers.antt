use Rattle.p21_text.proofs.StringLemmas.{bytes_of, string_front, string_none}
use Rattle.p21_text.proofs.string.string.Goals as goal

pub returns-in-Some : goal.returns-in-Some
returns-in-Some c = string_front c.args.tail.now c.in-Some.len (bytes_of c.args.tail.now c.type_inv.tail) c.in-Some.ensures.found

pub returns-in-None : goal.returns-in-None
returns-in-None c = string_none c.args.tail.now c.in-None.ensures.found

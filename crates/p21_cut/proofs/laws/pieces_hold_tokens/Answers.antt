use Rattle.p21_cut.proofs.HoldingLemmas.{pieces_hold, parts_hold}
use Rattle.p21_cut.proofs.laws.pieces_hold_tokens.Goals as goal

pub returns-clause-from_a_place : goal.returns-clause-from_a_place
returns-clause-from_a_place c = pieces_hold c.one_string.ensures c.tokens_are_unique.ensures

pub returns-clause-of_file : goal.returns-clause-of_file
returns-clause-of_file c = parts_hold c.one_string.ensures c.tokens_are_unique.ensures

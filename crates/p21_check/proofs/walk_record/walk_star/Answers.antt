use Rattle.std.proofs.Common.{ap}
use Rattle.p21_text.specs.Spelling.{symbol}
use Rattle.p21_text.specs.Tokens.{placed}
use Rattle.p21_check.proofs.WalkRecordLemmas.{star_stands}
use Rattle.p21_check.proofs.walk_record.walk_star.Goals as goal

pub returns-in-Star-clause-walked : goal.returns-in-Star-clause-walked
returns-in-Star-clause-walked c left = star_stands left c.args.text.now c.args.at (placed c.next_token-lexed.result) c.next_token-lexed.ensures.first (ap symbol c.in-Star.is)

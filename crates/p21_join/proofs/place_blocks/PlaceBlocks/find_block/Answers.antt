use Rattle.p21_join.proofs.PlaceBlockLemmas.{found_block}
use Rattle.p21_join.proofs.place_blocks.PlaceBlocks.find_block.Goals as goal

pub returns-in-Some-clause-found : goal.returns-in-Some-clause-found
returns-in-Some-clause-found c = found_block c.args.self.now c.args.number c.in-Some.at c.in-Some.ensures.index

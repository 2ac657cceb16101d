use Rattle.std.proofs.Common.{subst, sym}
use Rattle.p21_join.specs.declared.place_blocks.PlaceBlocks.{PlaceBlocks}
use Rattle.p21_join.specs.PlaceBlocks.{IsBlockAt}
use Rattle.p21_join.proofs.PlaceBlockLemmas.{pushed_block}
use Rattle.p21_join.proofs.place_blocks.PlaceBlocks.add_block.Goals as goal

pub returns-clause-found : goal.returns-clause-found
returns-clause-found c =
    let t = c.args.self.now in
    let u : PlaceBlocks = record { blocks = c.insert.new.self; latest = t.latest } in
    subst (IsBlockAt u c.args.number) (sym c.len-at.ensures.len) (pushed_block t u c.args.number _ c.requires c.in_ok-insert.ensures.entries)

use Rattle.p21_world.proofs.leaf.decoded.Goals as goal

pub items-item-items-requires : goal.items-item-items-requires
items-item-items-requires c = c.requires

use Rattle.std.proofs.Common.{◌⊎◌, List, ℕ}
use Rattle.p21_express.specs.WellFormed.{IsIn}
use Rattle.p21_graph.specs.MemberLaws.{holds_of}
use Rattle.p21_schema.proofs.NameLemmas.{known_name, names_of}
use Rattle.p21_schema.proofs.under.targets.Goals as goal

pub target_of-requires : goal.target_of-requires
target_of-requires c = holds_of (λ (n : List ℕ). IsIn c.args.entities.now n ⊎ IsIn c.args.types.now n) (names_of c.args.names.now) c.deref.result.now c.requires (known_name c.args.names.now c.loop-name.name-index c.name-item.result c.deref.result.now c.loop-name-test.true c.name-item.is c.deref.ensures.value)

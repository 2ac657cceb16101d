use Rattle.std.proofs.Common.{◌≡◌, take, fold}
use Rattle.p21_hash.specs.InstanceNames.{shifted}
use Rattle.p21_hash.proofs.instance_names.InstanceNameHasherHasher.write.Given as goal

abbrev pub invariant-loop-byte : goal.invariant-loop-byte
invariant-loop-byte l = l.name ≡ fold shifted l.fn.self.name (take l.byte-index l.bytes)

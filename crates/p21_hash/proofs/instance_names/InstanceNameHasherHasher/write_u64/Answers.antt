use Rattle.std.proofs.Common.{ℕ, sym, ap}
use Rattle.p21_hash.specs.declared.instance_names.InstanceNameHasher.{InstanceNameHasher}
use Rattle.p21_hash.proofs.instance_names.InstanceNameHasherHasher.write_u64.Goals as goal
use Rattle.p21_hash.proofs.InstanceNameLemmas.{all_shifted}

pub returns : goal.returns
returns c =
    let hasher : ℕ → InstanceNameHasher = λ n. record c.args.self.now { name = n } in
    ap hasher (sym (all_shifted c.args.self.now.name c.args.number c.ranges.number.fits))

use Rattle.std.proofs.Common.{map, take}
use Rattle.p21_express.specs.WellFormed.{IsIn}
use Rattle.p21_schema.proofs.under.is_among.Given as goal

-- none so far is the name
abbrev pub invariant-loop-other : goal.invariant-loop-other
invariant-loop-other l = ¬ (IsIn (take l.other-index (map (λ n. n.items) l.names)) l.name)

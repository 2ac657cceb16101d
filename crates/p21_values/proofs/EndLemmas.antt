-- How an operation ends.
use Rattle.p21_values.specs.Ends.{ClaimsNothing, EndsWith, Outcome}
use Rattle.p21_values.specs.declared.stop.Stop.{Stop}
use Rattle.p21_values.specs.declared.stop.Stop.TheVariants.{Memory, Limit, NotCompared, NotComputed, TooDeep}

-- an end that claims nothing may end anything
pub claims_end : {A : Type 0} (e : Stop) (o : Outcome A) → ClaimsNothing e → EndsWith e o
claims_end Memory o h = tt
claims_end Limit o h = tt
claims_end NotCompared o h = tt
claims_end NotComputed o h = absurd h
claims_end TooDeep o h = absurd h

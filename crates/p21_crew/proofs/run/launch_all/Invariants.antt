use Rattle.std.proofs.Common.{◌≡◌, vec_len}
use Rattle.p21_crew.specs.Each.{EachAt}
use Rattle.p21_crew.specs.Fresh.{IsFresh}
use Rattle.p21_crew.proofs.run.launch_all.Given as goal

abbrev pub invariant-loop-number : goal.invariant-loop-number
invariant-loop-number g l =
    (vec_len l.flights ≡ l.number) × EachAt (λ lane flight. IsFresh l.work flight) 0 l.flights.items

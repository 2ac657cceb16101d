-- Lemmas on lanes that are started one after the other.
use Rattle.std.proofs.Common.{◌≡◌, ◌+◌, false, List, [], ◌∷◌, ◌++◌, length, Result, Ok, Err, IsOk, IfOk, arith}
use Rattle.std.proofs.lemmas.List.{length-append}
use Rattle.p21_lanes.specs.LaneIn.{accepted}
use Rattle.p21_lanes.specs.LaneOut.{taken, took_end}
use Rattle.p21_crew.specs.declared.flight.Flight.{Flight}
use Rattle.p21_crew.specs.Each.{EachAt}
use Rattle.p21_crew.specs.Landing.{Works}
use Rattle.p21_crew.specs.Fresh.{IsFresh}
use Rattle.p21_crew.proofs.EachLemmas.{each_snoc}

module _ {P O W K E : Type 0} where
  -- one more lane is started
  pub fresh_more : (work : W) (started : Result (Flight P O W K) E) (old new : List (Flight P O W K)) → IsOk started → IfOk started (λ f. new ≡ old ++ f ∷ [])
      → IfOk started (λ f. accepted f.pieces ≡ []) → IfOk started (λ f. (taken f.results ≡ []) × (took_end f.results ≡ false)) → IfOk started (Works work)
      → EachAt (λ lane f. IsFresh work f) 0 old → EachAt (λ lane f. IsFresh work f) 0 new × (length new ≡ length old + 1)
  fresh_more work (Err e) old new is_ok joined sent back works all = cc
  fresh_more work (Ok f) old new is_ok joined sent back works all =
      let one : IsFresh work f = record { sent = sent; back = back.0; begun = back.1; works = works } in
      (rw joined (each_snoc (IsFresh work) old f all one), rw joined (omega (arith, length-append old (f ∷ []))))

-- What is known of lanes that are landed.
use Rattle.std.specs.Prelude.{◌≡◌, List}
use Rattle.std.specs.List.{AllZip}
use Rattle.p21_lanes.specs.declared.receipt.Receipt.{Receipt}
use Rattle.p21_lanes.specs.LaneIn.{accepted}
use Rattle.p21_lanes.specs.LaneOut.{taken}
use Rattle.p21_lanes.specs.Receipt.{passed}
use Rattle.p21_crew.specs.declared.returned.Returned.{Returned}
use Rattle.p21_crew.specs.declared.flight.Flight.{Flight}
use Rattle.p21_crew.specs.Each.{EachAt}
use Rattle.p21_crew.specs.Worker.{IsReturned}

module _ {P O W K : Type 0} where
  -- a worker of some work does this work
  abbrev pub Works : W → Flight P O W K → Type 0
  Works work f = f.worker.promise.work.value ≡ work

  -- The receipts of some lanes: of what was sent to each, and of what it returned and the dealer took; and each worker returned
  -- what is stated of its work.
  pub record AreLanded (stated : W → P → O → Type 0) (flights : List (Flight P O W K)) (receipts : List (Receipt P)) (returned : List (Receipt (Returned O))) : Type 0 where
    pub sent : AllZip (λ f r. passed r ≡ accepted f.pieces) flights receipts
    pub back : AllZip (λ f r. passed r ≡ taken f.results) flights returned
    pub read : (work : W) → EachAt (λ lane f. Works work f) 0 flights → AllZip (λ r s. AllZip (IsReturned (stated work)) (passed r) (passed s)) receipts returned

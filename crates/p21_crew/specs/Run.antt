-- What the run of a crew is.
use Rattle.std.specs.Prelude.{◌≡◌, ℕ, All, List, length, map}
use Rattle.std.specs.List.{AllZip}
use Rattle.p21_lanes.specs.declared.receipt.Receipt.{Receipt}
use Rattle.p21_lanes.specs.Receipt.{passed, IsEnded}
use Rattle.p21_desk.specs.Dealing.{share, IsDealing}
use Rattle.p21_crew.specs.declared.returned.Returned.{Returned}
use Rattle.p21_crew.specs.declared.returned.Returned.TheVariants.{Value}
use Rattle.p21_crew.specs.Each.{EachAt}

-- Each piece was dealt to exactly one lane. Each lane received exactly its share of the pieces, once, in their order, and then
-- its end and nothing after it, and so it returned its share of the results; and the results are stated of the pieces, one by one.
pub record IsRun {P O : Type 0} (stated : P → O → Type 0) (lanes : ℕ) (pieces : List P) (outs : List O) (dealt : List ℕ) (receipts : List (Receipt P)) (returned : List (Receipt (Returned O))) : Type 0 where
  pub dealing : IsDealing lanes dealt pieces
  pub receipts_each : length receipts ≡ lanes
  pub returned_each : length returned ≡ lanes
  pub shares : EachAt (λ lane receipt. passed receipt ≡ share dealt lane pieces) 0 receipts
  pub results : EachAt (λ lane receipt. passed receipt ≡ map (λ o. Value o) (share dealt lane outs)) 0 returned
  pub ended : All IsEnded receipts
  pub returned_ended : All IsEnded returned
  pub values : AllZip stated pieces outs

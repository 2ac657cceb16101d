-- Lemmas on lanes that are landed one after the other.
use Rattle.std.proofs.Common.{◌≡◌, ℕ, List, [], ◌∷◌, ◌++◌, length, sym, ap, ◌∙◌, append-nil}
use Rattle.std.specs.List.{AllZip}
use Rattle.std.proofs.lemmas.List.{nil_from_length}
use Rattle.p21_lanes.specs.declared.receipt.Receipt.{Receipt}
use Rattle.p21_lanes.specs.LaneIn.{accepted}
use Rattle.p21_lanes.specs.LaneOut.{taken}
use Rattle.p21_lanes.specs.Receipt.{passed}
use Rattle.p21_crew.specs.declared.returned.Returned.{Returned}
use Rattle.p21_crew.specs.declared.flight.Flight.{Flight}
use Rattle.p21_crew.specs.Landing.{AreLanded, Works}
use Rattle.p21_crew.specs.Worker.{IsReturned}
use Rattle.p21_crew.proofs.EachLemmas.{each_split}
use Rattle.p21_crew.proofs.ZipLemmas.{AllZip-snoc}

-- where none is left, all are landed
pub none_left : {X : Type 0} (landed left all : List X) (count : ℕ) → count ≡ length left → count ≡ 0 → landed ++ left ≡ all → landed ≡ all
none_left landed left all count is none parts =
    let empty : left ≡ [] = nil_from_length left (sym is ∙ none) in
    sym (append-nil landed) ∙ (ap (λ xs. landed ++ xs) (sym empty) ∙ parts)

module _ {P O W K : Type 0} where
  pub landed_none : (stated : W → P → O → Type 0) → AreLanded {P = P} {O = O} {W = W} {K = K} stated [] [] []
  landed_none stated = record { sent = tt; back = tt; read = λ work works. tt }

  -- one more lane is landed
  pub landed_more : (stated : W → P → O → Type 0) (fs : List (Flight P O W K)) (rs : List (Receipt P)) (ss : List (Receipt (Returned O))) (f : Flight P O W K) (r : Receipt P) (s : Receipt (Returned O))
      → AreLanded stated fs rs ss → passed r ≡ accepted f.pieces → passed s ≡ taken f.results → AllZip (IsReturned (stated f.worker.promise.work.value)) (passed r) (passed s)
      → AreLanded stated (fs ++ f ∷ []) (rs ++ r ∷ []) (ss ++ s ∷ [])
  landed_more stated fs rs ss f r s before sent back read =
      record {
        sent = AllZip-snoc (λ g t. passed t ≡ accepted g.pieces) fs rs f r before.sent sent;
        back = AllZip-snoc (λ g t. passed t ≡ taken g.results) fs ss f s before.back back;
        read = λ work works.
            let Q : Receipt P → Receipt (Returned O) → Type 0 = λ t u. AllZip (IsReturned (stated work)) (passed t) (passed u) in
            let parts = each_split (Works work) fs f works in
            let is : f.worker.promise.work.value ≡ work = parts.1 in
            AllZip-snoc Q rs ss r s (before.read work parts.0) (rw (← is) read);
      }

-- Lemmas on the run of a crew: its beginning, and what is known when all lanes are landed.
use Rattle.std.proofs.Common.{◌≡◌, ℕ, zero, suc, Bool, Option, None, ◌+◌, ◌<◌, true, false, List, [], ◌∷◌, ◌++◌, length, map, refl, sym, ap, subst, ◌∙◌, arith, append-nil, if◌then◌else◌}
use Rattle.std.specs.Prelude.{All, ◌==◌}
use Rattle.std.specs.List.{AllZip}
use Rattle.std.proofs.lemmas.List.Elements.{All-nil, All-cons, All-head, All-tail}
use Rattle.p21_lanes.specs.LaneIn.{accepted}
use Rattle.p21_lanes.specs.LaneOut.{taken}
use Rattle.p21_lanes.specs.declared.receipt.Receipt.{Receipt}
use Rattle.p21_lanes.specs.Receipt.{passed, IsEnded}
use Rattle.p21_desk.specs.Dealing.{share}
use Rattle.p21_crew.specs.declared.returned.Returned.{Returned}
use Rattle.p21_crew.specs.declared.returned.Returned.TheVariants.{Value}
use Rattle.p21_crew.specs.Each.{EachAt}
use Rattle.p21_crew.specs.Worker.{IsReturned}
use Rattle.p21_crew.specs.declared.dealer.Dealer.{Dealer}
use Rattle.p21_crew.specs.Fresh.{IsFresh}
use Rattle.p21_crew.specs.Landing.{AreLanded, Works}
use Rattle.p21_crew.specs.Run.{IsRun}
use Rattle.p21_crew.specs.Underway.{Underway, LaneStands, IsCut, IsWhole}
use Rattle.p21_crew.proofs.EachLemmas.{each_map}
use Rattle.p21_crew.proofs.ShareLemmas.{same_lane, share-empty}
use Rattle.p21_crew.proofs.ZipLemmas.{length-zip}

-- what is said of each lane's share is said of all
module _ {P O : Type 0} where
  values_back : (stated : P → O → Type 0) (ps : List P) (os : List O) → AllZip (IsReturned stated) ps (map (λ o. Value o) os) → AllZip stated ps os
  values_back stated [] [] zip = tt
  values_back stated [] (o ∷ os) zip = absurd zip
  values_back stated (p ∷ ps) [] zip = absurd zip
  values_back stated (p ∷ ps) (o ∷ os) zip = (zip.0, values_back stated ps os zip.1)

  head_of : (stated : P → O → Type 0) (b : Bool) (p : P) (x : O) (ps : List P) (os : List O) → b ≡ true → AllZip stated (if b then p ∷ ps else ps) (if b then x ∷ os else os) → stated p x
  head_of stated true p x ps os is zip = zip.0
  head_of stated false p x ps os is zip = cc

  tail_of : (stated : P → O → Type 0) (b : Bool) (p : P) (x : O) (ps : List P) (os : List O) → AllZip stated (if b then p ∷ ps else ps) (if b then x ∷ os else os) → AllZip stated ps os
  tail_of stated true p x ps os zip = zip.1
  tail_of stated false p x ps os zip = zip

  -- what is said of the shares of each lane is said of all
  pub shares_zip : (stated : P → O → Type 0) (lanes : ℕ) (dealt : List ℕ) (ps : List P) (os : List O) → length dealt ≡ length ps → length dealt ≡ length os
      → All (λ l. l < lanes) dealt → ((lane : ℕ) → lane < lanes → AllZip stated (share dealt lane ps) (share dealt lane os)) → AllZip stated ps os
  shares_zip stated lanes [] [] [] e o of_lanes each = tt
  shares_zip stated lanes [] (p ∷ ps) os e o of_lanes each = absurd (omega arith)
  shares_zip stated lanes [] [] (x ∷ os) e o of_lanes each = absurd (omega arith)
  shares_zip stated lanes (l ∷ dealt) [] os e o of_lanes each = absurd (omega arith)
  shares_zip stated lanes (l ∷ dealt) (p ∷ ps) [] e o of_lanes each = absurd (omega arith)
  shares_zip stated lanes (l ∷ dealt) (p ∷ ps) (x ∷ os) e o of_lanes each =
      let first = head_of stated (l == l) p x (share dealt l ps) (share dealt l os) (same_lane l) (each l (All-head (λ k. k < lanes) l dealt of_lanes)) in (
        first,
        shares_zip stated lanes dealt ps os (omega arith) (omega arith) (All-tail (λ k. k < lanes) l dealt of_lanes)
            (λ lane less. tail_of stated (l == lane) p x (share dealt lane ps) (share dealt lane os) (each lane less)),
      )

  -- of two lists of receipts that belong together, those of one lane
  pub read_at : (Q : P → Returned O → Type 0) (S : ℕ → List P) (T : ℕ → List (Returned O)) (k : ℕ) (rs : List (Receipt P)) (ss : List (Receipt (Returned O)))
      → EachAt (λ lane r. passed r ≡ S lane) k rs → EachAt (λ lane r. passed r ≡ T lane) k ss → AllZip (λ r s. AllZip Q (passed r) (passed s)) rs ss
      → (i : ℕ) → i < length rs → AllZip Q (S (k + i)) (T (k + i))
  read_at Q S T k [] ss s t zip i less = absurd (omega arith)
  read_at Q S T k (r ∷ rs) [] s t zip i less = absurd zip
  read_at Q S T k (r ∷ rs) (x ∷ ss) s t zip zero less =
      let here : k + 0 ≡ k = omega arith in
      rw (here, ← s.0, ← t.0) zip.0
  read_at Q S T k (r ∷ rs) (x ∷ ss) s t zip (suc i) less =
      let here : k + suc i ≡ suc k + i = omega arith in
      rw here (read_at Q S T (suc k) rs ss s.1 t.1 zip.1 i (omega arith))

-- each receipt is of a lane that was ended
all_ended : {T : Type 0} (rs : List (Receipt T)) → All IsEnded rs
all_ended [] = All-nil IsEnded
all_ended (r ∷ rs) = All-cons IsEnded r rs (r.ended, r.all_received ∙ r.ended) (all_ended rs)

module _ {X Y : Type 0} where
  zip_from : (R : ℕ → X → Type 0) (S : X → Y → Type 0) (T : ℕ → Y → Type 0) (k : ℕ) (xs : List X) (ys : List Y) → EachAt R k xs → AllZip S xs ys → ((j : ℕ) (x : X) (y : Y) → R j x → S x y → T j y) → EachAt T k ys
  zip_from R S T k [] [] all zip step = tt
  zip_from R S T k [] (y ∷ ys) all zip step = absurd zip
  zip_from R S T k (x ∷ xs) [] all zip step = tt
  zip_from R S T k (x ∷ xs) (y ∷ ys) all zip step = (step k x y all.0 zip.0, zip_from R S T (suc k) xs ys all.1 zip.1 step)

  -- what is said of the elements of a list by their numbers, of those that belong to them
  pub each_zip : (R : ℕ → X → Type 0) (S : X → Y → Type 0) (T : ℕ → Y → Type 0) (xs : List X) (ys : List Y) → EachAt R 0 xs → AllZip S xs ys → ((j : ℕ) (x : X) (y : Y) → R j x → S x y → T j y) → EachAt T 0 ys
  each_zip R S T xs ys all zip step = zip_from R S T 0 xs ys all zip step

module _ {P O W K C A : Type 0} where
  -- nothing is dealt and nothing gathered yet
  pub underway_first : (cuts : C → List P → ℕ → Type 0) (holds : A → List O → Type 0) (work : W) (size : ℕ) (d : Dealer P O W C A K)
      → EachAt (λ lane f. IsFresh work f) 0 d.flights.items → d.desk.lanes ≡ size → d.desk.dealt ≡ [] → d.desk.joined ≡ 0 → d.batch.items ≡ [] → d.tail ≡ None → holds d.gatherer []
      → Underway cuts holds d.cutter work size d [] []
  underway_first cuts holds work size d fresh as_many dealt joined empty open_ held =
      record {
        as_many = as_many;
        one_each = rw dealt refl;
        of_lanes = rw dealt (All-nil (λ l. l < d.desk.lanes));
        gathered = joined;
        within = omega arith;
        lanes = each_map (λ lane f. IsFresh work f) (LaneStands work d.desk.dealt [] []) d.flights.items
            (λ lane f one. record { sent = one.sent ∙ sym (share-empty d.desk.dealt lane); back = one.back ∙ ap (λ zs. map (λ o. Value o) zs) (sym (share-empty d.desk.dealt lane)); begun = one.begun; works = one.works }) fresh;
        holds_outs = held;
        cut = rw (empty, open_) (λ rest tail cut. cut);
      }

  -- all lanes are landed after a whole run
  pub run_whole : (cuts : C → List P → ℕ → Type 0) (holds : A → List O → Type 0) (stated : W → P → O → Type 0) (first : C) (work : W) (size : ℕ) (d : Dealer P O W C A K) (done : List P) (outs : List O) (tail : ℕ) (rs : List (Receipt P)) (ss : List (Receipt (Returned O)))
      → Underway cuts holds first work size d done outs → IsWhole d tail → AreLanded stated d.flights.items rs ss → length d.flights.items ≡ d.desk.lanes
      → cuts first done tail × IsRun (stated work) size done outs d.desk.dealt rs ss
  run_whole cuts holds stated first work size d done outs tail rs ss stands whole landed lanes =
      let one = stands.one_each in
      let of_lanes : All (λ l. l < size) d.desk.dealt = rw (← stands.as_many) stands.of_lanes in
      let count : length d.desk.dealt ≡ length outs = sym whole.1 ∙ stands.gathered in
      let receipts = length-zip (λ f r. passed r ≡ accepted f.pieces) d.flights.items rs landed.sent in
      let returned = length-zip (λ f r. passed r ≡ taken f.results) d.flights.items ss landed.back in
      let shares = each_zip (LaneStands work d.desk.dealt done outs) (λ f r. passed r ≡ accepted f.pieces) (λ lane r. passed r ≡ share d.desk.dealt lane done) d.flights.items rs stands.lanes landed.sent (λ lane f r stand is. is ∙ stand.sent) in
      let results = each_zip (LaneStands work d.desk.dealt done outs) (λ f r. passed r ≡ taken f.results) (λ lane r. passed r ≡ map (λ o. Value o) (share d.desk.dealt lane outs)) d.flights.items ss stands.lanes landed.back (λ lane f r stand is. is ∙ stand.back) in
      let works = each_map (LaneStands work d.desk.dealt done outs) (λ lane f. Works work f) d.flights.items (λ lane f stand. stand.works) stands.lanes in
      let read = landed.read work works in
      let cut : cuts first (done ++ d.batch.items) tail = subst (λ (t : Option ℕ). IsCut cuts first d.cutter (done ++ d.batch.items) t) whole.2 stands.cut in
      let all : done ++ d.batch.items ≡ done = ap (λ zs. done ++ zs) whole.0 ∙ append-nil done in (
        rw (← all) cut,
        record {
          dealing = record { one_each = one; of_lanes = of_lanes };
          receipts_each = receipts ∙ (lanes ∙ stands.as_many);
          returned_each = returned ∙ (lanes ∙ stands.as_many);
          shares = shares;
          results = results;
          ended = all_ended rs;
          returned_ended = all_ended ss;
          values = shares_zip (stated work) size d.desk.dealt done outs one count of_lanes
              (λ lane less.
              let here : 0 + lane ≡ lane = omega arith in
              let within : lane < length rs = omega (arith, receipts, lanes, stands.as_many) in
              values_back (stated work) (share d.desk.dealt lane done) (share d.desk.dealt lane outs)
              (rw (← here) (read_at (IsReturned (stated work)) (λ l. share d.desk.dealt l done) (λ l. map (λ o. Value o) (share d.desk.dealt l outs)) 0 rs ss shares results read lane within)));
        },
      )

-- Lemmas on the steps of the dealer.
use Rattle.std.proofs.Common.{◌≡◌, ◌≢◌, ℕ, Option, Some, None, ◌+◌, ◌<◌, ◌≤◌, false, List, [], ◌∷◌, ◌++◌, length, map, get_or, replicate, sym, ap, subst, ◌∙◌, arith, append-nil, append_assoc}
use Rattle.p21_crew.specs.declared.returned.Returned.TheVariants.{Value}
use Rattle.p21_crew.specs.declared.dealer.Dealer.{Dealer}
use Rattle.p21_crew.specs.declared.flight.Flight.{Flight}
use Rattle.p21_lanes.specs.LaneIn.{accepted}
use Rattle.p21_lanes.specs.LaneOut.{taken, took_end}
use Rattle.p21_desk.specs.Dealing.{share}
use Rattle.std.specs.Prelude.{slice_get, slice_set}
use Rattle.std.proofs.lemmas.List.{map-append, length-append, length-replicate}
use Rattle.std.proofs.lemmas.List.Elements.{All-append, All-replicate}
use Rattle.std.proofs.lemmas.Option.{get_or_from_slice_get}
use Rattle.p21_crew.specs.Underway.{Goes, Underway, LaneStands, IsCut}
use Rattle.p21_crew.proofs.EachLemmas.{each_at, each_set}
use Rattle.p21_crew.proofs.ShareLemmas.{share-append, share-all, share-none, share-longer, share-next, share-skip}

module _ {P O W K : Type 0} where
  -- the same in all that is seen of a lane
  pub stands-same : (work : W) (dealt : List ℕ) (done : List P) (outs : List O) (lane : ℕ) (f g : Flight P O W K)
      → LaneStands work dealt done outs lane f → g.pieces ≡ f.pieces → taken g.results ≡ taken f.results → took_end g.results ≡ false → g.worker.promise.work.value ≡ f.worker.promise.work.value → LaneStands work dealt done outs lane g
  stands-same work dealt done outs lane f g stands pieces back begun works =
      record {
        sent = ap accepted pieces ∙ stands.sent;
        back = back ∙ stands.back;
        begun = begun;
        works = works ∙ stands.works;
      }

  -- a result of another lane is gathered
  pub stands-gathered_other : (work : W) (dealt : List ℕ) (done : List P) (outs : List O) (out : O) (l lane : ℕ) (f : Flight P O W K)
      → length outs < length dealt → l ≡ get_or dealt (length outs) l → lane ≢ l → LaneStands work dealt done outs lane f → LaneStands work dealt done (outs ++ out ∷ []) lane f
  stands-gathered_other work dealt done outs out l lane f less at other stands =
      record {
        sent = stands.sent;
        back = stands.back ∙ ap (λ zs. map (λ o. Value o) zs) (sym (share-skip dealt l lane outs out less at other));
        begun = stands.begun;
        works = stands.works;
      }

  -- a result of the lane is gathered
  pub stands-gathered : (work : W) (dealt : List ℕ) (done : List P) (outs : List O) (out : O) (lane : ℕ) (f g : Flight P O W K)
      → length outs < length dealt → lane ≡ get_or dealt (length outs) lane → LaneStands work dealt done outs lane f
      → g.pieces ≡ f.pieces → taken g.results ≡ taken f.results ++ Value out ∷ [] → took_end g.results ≡ false → g.worker.promise.work.value ≡ f.worker.promise.work.value
      → LaneStands work dealt done (outs ++ out ∷ []) lane g
  stands-gathered work dealt done outs out lane f g less at stands pieces back begun works =
      record {
        sent = ap accepted pieces ∙ stands.sent;
        back = back ∙ (ap (λ zs. zs ++ Value out ∷ []) stands.back ∙ (sym (map-append (λ o. Value o) (share dealt lane outs) (out ∷ [])) ∙ ap (λ zs. map (λ o. Value o) zs) (sym (share-next dealt lane outs out less at))));
        begun = begun;
        works = works ∙ stands.works;
      }

  -- a batch is dealt to another lane
  pub stands-dealt_other : (work : W) (dealt : List ℕ) (done items : List P) (outs : List O) (l lane : ℕ) (f : Flight P O W K)
      → length dealt ≡ length done → length outs ≤ length dealt → lane ≢ l → LaneStands work dealt done outs lane f → LaneStands work (dealt ++ replicate (length items) l) (done ++ items) outs lane f
  stands-dealt_other work dealt done items outs l lane f one within other stands =
      let none = share-none (length items) l lane items other in
      record {
        sent = stands.sent ∙ (sym (append-nil (share dealt lane done)) ∙ (ap (λ zs. share dealt lane done ++ zs) (sym none) ∙ sym (share-append dealt (replicate (length items) l) lane done items one)));
        back = stands.back ∙ ap (λ zs. map (λ o. Value o) zs) (sym (share-longer dealt (replicate (length items) l) lane outs within));
        begun = stands.begun;
        works = stands.works;
      }

  -- a batch is dealt to the lane
  pub stands-dealt : (work : W) (dealt : List ℕ) (done items : List P) (outs : List O) (lane : ℕ) (f g : Flight P O W K)
      → length dealt ≡ length done → length outs ≤ length dealt → LaneStands work dealt done outs lane f
      → accepted g.pieces ≡ accepted f.pieces ++ items → g.results ≡ f.results → g.worker.promise.work.value ≡ f.worker.promise.work.value
      → LaneStands work (dealt ++ replicate (length items) lane) (done ++ items) outs lane g
  stands-dealt work dealt done items outs lane f g one within stands sent results works =
      let all = share-all lane items in
      record {
        sent = sent ∙ (ap (λ zs. zs ++ items) stands.sent ∙ (ap (λ zs. share dealt lane done ++ zs) (sym all) ∙ sym (share-append dealt (replicate (length items) lane) lane done items one)));
        back = ap taken results ∙ (stands.back ∙ ap (λ zs. map (λ o. Value o) zs) (sym (share-longer dealt (replicate (length items) lane) lane outs within)));
        begun = ap took_end results ∙ stands.begun;
        works = works ∙ stands.works;
      }

module _ {P O W K C A : Type 0} where
  -- one step and another
  pub goes_then : (cuts : C → List P → ℕ → Type 0) (holds : A → List O → Type 0) (a b c : Dealer P O W C A K) → Goes cuts holds a b → Goes cuts holds b c → Goes cuts holds a c
  goes_then cuts holds a b c first_step next_step first work size done outs stands =
      let between = first_step first work size done outs stands in
      next_step first work size between.0 between.1 between.2

  -- a lane is another one of which the same is seen
  pub underway_same : (cuts : C → List P → ℕ → Type 0) (holds : A → List O → Type 0) (first : C) (work : W) (size : ℕ) (d e : Dealer P O W C A K) (done : List P) (outs : List O) (lane : ℕ) (f g : Flight P O W K)
      → Underway cuts holds first work size d done outs → lane < length d.flights.items → f ≡ get_or d.flights.items lane f
      → g.pieces ≡ f.pieces → taken g.results ≡ taken f.results → took_end g.results ≡ took_end f.results → g.worker.promise.work.value ≡ f.worker.promise.work.value
      → e.desk ≡ d.desk → e.flights.items ≡ slice_set d.flights.items lane g → e.cutter ≡ d.cutter → e.batch ≡ d.batch → e.tail ≡ d.tail → e.gatherer ≡ d.gatherer
      → Underway cuts holds first work size e done outs
  underway_same cuts holds first work size d e done outs lane f g stands less at pieces back begun works desk flights cutter batch tail gatherer =
      let here = each_at (LaneStands work d.desk.dealt done outs) lane d.flights.items f less at stands.lanes in
      let there = stands-same work d.desk.dealt done outs lane f g here pieces back (begun ∙ here.begun) works in
      let lanes = each_set (LaneStands work d.desk.dealt done outs) (LaneStands work d.desk.dealt done outs) lane d.flights.items g less stands.lanes there (λ j y other r. r) in
      record {
        as_many = rw desk stands.as_many;
        one_each = rw desk stands.one_each;
        of_lanes = rw desk stands.of_lanes;
        gathered = rw desk stands.gathered;
        within = stands.within;
        lanes = rw (desk, flights) lanes;
        holds_outs = rw gatherer stands.holds_outs;
        cut = rw (cutter, batch, tail) stands.cut;
      }

  -- the next result is gathered
  pub underway_gathered : (cuts : C → List P → ℕ → Type 0) (holds : A → List O → Type 0) (first : C) (work : W) (size : ℕ) (d e : Dealer P O W C A K) (done : List P) (outs : List O) (out : O) (lane : ℕ) (f g : Flight P O W K)
      → Underway cuts holds first work size d done outs → d.desk.joined < length d.desk.dealt → Some lane ≡ slice_get d.desk.dealt d.desk.joined → lane < length d.flights.items → f ≡ get_or d.flights.items lane f
      → g.pieces ≡ f.pieces → taken g.results ≡ taken f.results ++ Value out ∷ [] → took_end g.results ≡ false → g.worker.promise.work.value ≡ f.worker.promise.work.value
      → e.desk ≡ record d.desk { joined = d.desk.joined + 1 } → e.flights.items ≡ slice_set d.flights.items lane g → e.cutter ≡ d.cutter → e.batch ≡ d.batch → e.tail ≡ d.tail → holds e.gatherer (outs ++ out ∷ [])
      → Underway cuts holds first work size e done (outs ++ out ∷ [])
  underway_gathered cuts holds first work size d e done outs out lane f g stands left next less at pieces back begun works desk flights cutter batch tail held =
      let count = stands.gathered in
      let within : length outs < length d.desk.dealt = omega arith in
      let is_next : lane ≡ get_or d.desk.dealt (length outs) lane = rw (← count) (sym (get_or_from_slice_get d.desk.dealt d.desk.joined lane lane (sym next))) in
      let here = each_at (LaneStands work d.desk.dealt done outs) lane d.flights.items f less at stands.lanes in
      let there = stands-gathered work d.desk.dealt done outs out lane f g within is_next here pieces back begun works in
      let lanes = each_set (LaneStands work d.desk.dealt done outs) (LaneStands work d.desk.dealt done (outs ++ out ∷ [])) lane d.flights.items g less stands.lanes there
      (λ j y other r. stands-gathered_other work d.desk.dealt done outs out lane j y within is_next other r) in
      record {
        as_many = rw desk stands.as_many;
        one_each = rw desk stands.one_each;
        of_lanes = rw desk stands.of_lanes;
        gathered = rw desk (omega (arith, length-append outs (out ∷ [])));
        within = omega (arith, stands.one_each, length-append outs (out ∷ []));
        lanes = rw (desk, flights) lanes;
        holds_outs = held;
        cut = rw (cutter, batch, tail) stands.cut;
      }

  -- the batch is dealt
  pub underway_dealt : (cuts : C → List P → ℕ → Type 0) (holds : A → List O → Type 0) (first : C) (work : W) (size : ℕ) (d e : Dealer P O W C A K) (done : List P) (outs : List O) (lane : ℕ) (f g : Flight P O W K)
      → Underway cuts holds first work size d done outs → lane < d.desk.lanes → lane < length d.flights.items → f ≡ get_or d.flights.items lane f
      → accepted g.pieces ≡ accepted f.pieces ++ d.batch.items → g.results ≡ f.results → g.worker.promise.work.value ≡ f.worker.promise.work.value
      → e.desk ≡ record d.desk { dealt = d.desk.dealt ++ replicate (length d.batch.items) lane } → e.flights.items ≡ slice_set d.flights.items lane g → e.cutter ≡ d.cutter → e.batch.items ≡ [] → e.tail ≡ d.tail → e.gatherer ≡ d.gatherer
      → Underway cuts holds first work size e (done ++ d.batch.items) outs
  underway_dealt cuts holds first work size d e done outs lane f g stands of_lanes less at sent results works desk flights cutter batch tail gatherer =
      let items = d.batch.items in
      let count = stands.gathered in
      let within : length outs ≤ length d.desk.dealt = omega (arith, stands.within, stands.one_each) in
      let here = each_at (LaneStands work d.desk.dealt done outs) lane d.flights.items f less at stands.lanes in
      let there = stands-dealt work d.desk.dealt done items outs lane f g stands.one_each within here sent results works in
      let lanes = each_set (LaneStands work d.desk.dealt done outs) (LaneStands work (d.desk.dealt ++ replicate (length items) lane) (done ++ items) outs) lane d.flights.items g less stands.lanes there
      (λ j y other r. stands-dealt_other work d.desk.dealt done items outs lane j y stands.one_each within other r) in
      record {
        as_many = rw desk stands.as_many;
        one_each = rw desk (omega (arith, stands.one_each, length-append d.desk.dealt (replicate (length items) lane), length-append done items, length-replicate (length items) lane));
        of_lanes = rw desk (All-append (λ l. l < d.desk.lanes) d.desk.dealt (replicate (length items) lane) stands.of_lanes (All-replicate (λ l. l < d.desk.lanes) (length items) lane of_lanes));
        gathered = rw desk stands.gathered;
        within = omega (arith, stands.within, length-append done items);
        lanes = rw (desk, flights) lanes;
        holds_outs = rw gatherer stands.holds_outs;
        cut = rw (cutter, batch, append-nil (done ++ items), tail) stands.cut;
      }

  -- one more piece is cut
  pub underway_cut : (cuts : C → List P → ℕ → Type 0) (holds : A → List O → Type 0) (first : C) (work : W) (size : ℕ) (d e : Dealer P O W C A K) (done : List P) (outs : List O) (piece : P)
      → Underway cuts holds first work size d done outs → d.tail ≡ None → ((pieces : List P) (tail : ℕ) → cuts e.cutter pieces tail → cuts d.cutter (piece ∷ pieces) tail) → e.batch.items ≡ d.batch.items ++ piece ∷ []
      → e.desk ≡ d.desk → e.flights.items ≡ d.flights.items → e.tail ≡ d.tail → e.gatherer ≡ d.gatherer
      → Underway cuts holds first work size e done outs
  underway_cut cuts holds first work size d e done outs piece stands open_ next more desk flights tail gatherer =
      let was : IsCut cuts first d.cutter (done ++ d.batch.items) None = subst (λ (t : Option ℕ). IsCut cuts first d.cutter (done ++ d.batch.items) t) open_ stands.cut in
      let is : IsCut cuts first e.cutter (done ++ e.batch.items) None = λ rest end cut.
      let parts : (done ++ e.batch.items) ++ rest ≡ (done ++ d.batch.items) ++ (piece ∷ rest) =
      ap (λ zs. (done ++ zs) ++ rest) more ∙ (ap (λ zs. zs ++ rest) (sym (append_assoc done d.batch.items (piece ∷ []))) ∙ append_assoc (done ++ d.batch.items) (piece ∷ []) rest) in
      rw parts (was (piece ∷ rest) end (next rest end cut)) in
      record {
        as_many = rw desk stands.as_many;
        one_each = rw desk stands.one_each;
        of_lanes = rw desk stands.of_lanes;
        gathered = rw desk stands.gathered;
        within = stands.within;
        lanes = rw (desk, flights) stands.lanes;
        holds_outs = rw gatherer stands.holds_outs;
        cut = rw (tail, open_) is;
      }

  -- the tail is found
  pub underway_tail : (cuts : C → List P → ℕ → Type 0) (holds : A → List O → Type 0) (first : C) (work : W) (size : ℕ) (d e : Dealer P O W C A K) (done : List P) (outs : List O) (at : ℕ)
      → Underway cuts holds first work size d done outs → d.tail ≡ None → cuts d.cutter [] at
      → e.desk ≡ d.desk → e.flights.items ≡ d.flights.items → e.batch ≡ d.batch → e.tail ≡ Some at → e.gatherer ≡ d.gatherer
      → Underway cuts holds first work size e done outs
  underway_tail cuts holds first work size d e done outs at stands open_ ends desk flights batch tail gatherer =
      let was : IsCut cuts first d.cutter (done ++ d.batch.items) None = subst (λ (t : Option ℕ). IsCut cuts first d.cutter (done ++ d.batch.items) t) open_ stands.cut in
      let all : cuts first (done ++ d.batch.items) at = rw (← append-nil (done ++ d.batch.items)) (was [] at ends) in
      record {
        as_many = rw desk stands.as_many;
        one_each = rw desk stands.one_each;
        of_lanes = rw desk stands.of_lanes;
        gathered = rw desk stands.gathered;
        within = stands.within;
        lanes = rw (desk, flights) stands.lanes;
        holds_outs = rw gatherer stands.holds_outs;
        cut = rw (batch, tail) all;
      }

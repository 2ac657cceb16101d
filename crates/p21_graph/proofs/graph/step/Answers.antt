use Rattle.std.proofs.Common.{◌≡◌, ℕ, ◌<◌, ◌≤◌, ◌-◌, ◌∙◌, ◌∷◌, [], List, false, length, get_or, take, sym, ap, subst, rules, ⊎_elim, inr}
use Rattle.std.proofs.lemmas.Bool.{cases_lt}
use Rattle.std.proofs.lemmas.List.{get_or_default}
use Rattle.std.specs.Prelude.{Vec}
use Rattle.p21_graph.specs.Members.{IsIn}
use Rattle.p21_graph.specs.Graph.{plain_graph, IsMarked}
use Rattle.p21_graph.specs.MemberLaws.{in_left}
use Rattle.p21_graph.specs.GraphLaws.{row_is, row_count}
use Rattle.p21_graph.proofs.GraphLemmas.{mark_stays}
use Rattle.p21_graph.proofs.WalkLemmas.{last_of, last_in, last_is, deeper, settled, distinct_way, fewer_deeper, fewer_settled, keeps_settled}
use Rattle.p21_graph.proofs.graph.step.Goals as goal

pub index-neighbors-requires : goal.index-neighbors-requires
index-neighbors-requires c =
    let v = last_is c.args.way.now c.len.result c.index-vertex.result.now c.len.ensures c.requires.way c.index-vertex.ensures in
    rw (v, ← (row_count c.args.graph.now)) (c.requires.walk.below (last_of c.args.way.now.items) (last_in c.args.way.now.items c.requires.way))

pub bounds-looked-vertex : goal.bounds-looked-vertex
bounds-looked-vertex c =
    let v = last_is c.args.way.now c.len.result c.index-vertex.result.now c.len.ensures c.requires.way c.index-vertex.ensures in
    rw (v, c.requires.walk.counts) (c.requires.walk.below (last_of c.args.way.now.items) (last_in c.args.way.now.items c.requires.way))

pub offset_bounds-looked-vertex : goal.offset_bounds-looked-vertex
offset_bounds-looked-vertex c =
    let v = last_is c.args.way.now c.len.result c.index-vertex.result.now c.len.ensures c.requires.way c.index-vertex.ensures in
    let less : c.index-vertex.result.now < length c.args.looked.now = rw (v, c.requires.walk.counts) (c.requires.walk.below (last_of c.args.way.now.items) (last_in c.args.way.now.items c.requires.way)) in
    search rules

pub bounds-looked-vertex-2 : goal.bounds-looked-vertex-2
bounds-looked-vertex-2 c =
    let v = last_is c.args.way.now c.len.result c.index-vertex.result.now c.len.ensures c.requires.way c.index-vertex.ensures in
    rw (v, c.requires.walk.counts) (c.requires.walk.below (last_of c.args.way.now.items) (last_in c.args.way.now.items c.requires.way))

pub offset_bounds-looked-vertex-2 : goal.offset_bounds-looked-vertex-2
offset_bounds-looked-vertex-2 c =
    let v = last_is c.args.way.now c.len.result c.index-vertex.result.now c.len.ensures c.requires.way c.index-vertex.ensures in
    let less : c.index-vertex.result.now < length c.args.looked.now = rw (v, c.requires.walk.counts) (c.requires.walk.below (last_of c.args.way.now.items) (last_in c.args.way.now.items c.requires.way)) in
    search rules

pub bounds-placed-vertex : goal.bounds-placed-vertex
bounds-placed-vertex c =
    let v = last_is c.args.way.now c.len.result c.index-vertex.result.now c.len.ensures c.requires.way c.index-vertex.ensures in
    rw (v, c.requires.walk.marks) (c.requires.walk.below (last_of c.args.way.now.items) (last_in c.args.way.now.items c.requires.way))

neighbors_are : (g : List (List ℕ)) (v r : ℕ) (row neighbors : List ℕ) → v ≡ r → get_or g v [] ≡ row → neighbors ≡ row → get_or g r [] ≡ neighbors
neighbors_are g v r row neighbors e is same = ap (λ u. get_or g u []) (sym e) ∙ is ∙ sym same

pub first_waiting-next-requires-clause-vertices : goal.first_waiting-next-requires-clause-vertices
first_waiting-next-requires-clause-vertices c =
    let v = last_is c.args.way.now c.len.result c.index-vertex.result.now c.len.ensures c.requires.way c.index-vertex.ensures in
    let below = c.requires.walk.below (last_of c.args.way.now.items) (last_in c.args.way.now.items c.requires.way) in
    let less : c.index-vertex.result.now < length c.args.graph.now.items = rw (v, ← c.args.graph.now.ok.0, ← (row_count c.args.graph.now)) below in
    let row = neighbors_are (plain_graph c.args.graph.now) c.index-vertex.result.now (last_of c.args.way.now.items) c.index-neighbors.result.now.items c.deref.result.now v (row_is c.args.graph.now c.index-vertex.result.now c.index-neighbors.result.now less c.index-neighbors.ensures) c.deref.ensures.value in
    λ a i. rw c.requires.walk.marks (c.requires.edges (last_of c.args.way.now.items) a (subst (λ (u : List ℕ). IsIn u a) (sym row) i))

pub first_waiting-next-requires-clause-from : goal.first_waiting-next-requires-clause-from
first_waiting-next-requires-clause-from c =
    let g = plain_graph c.args.graph.now in
    let way = c.args.way.now.items in
    let v = last_is c.args.way.now c.len.result c.index-vertex.result.now c.len.ensures c.requires.way c.index-vertex.ensures in
    let below = c.requires.walk.below (last_of way) (last_in way c.requires.way) in
    let less : c.index-vertex.result.now < length c.args.graph.now.items = rw (v, ← c.args.graph.now.ok.0, ← (row_count c.args.graph.now)) below in
    let row = neighbors_are g c.index-vertex.result.now (last_of way) c.index-neighbors.result.now.items c.deref.result.now v (row_is c.args.graph.now c.index-vertex.result.now c.index-neighbors.result.now less c.index-neighbors.ensures) c.deref.ensures.value in
    rw (v, ← row) (c.requires.walk.within (last_of way))

pub returns-in_ok-push-clause-walk : goal.returns-in_ok-push-clause-walk
returns-in_ok-push-clause-walk c =
    let g = plain_graph c.args.graph.now in
    let way = c.args.way.now.items in
    let v = last_is c.args.way.now c.len.result c.index-vertex.result.now c.len.ensures c.requires.way c.index-vertex.ensures in
    let below = c.requires.walk.below (last_of way) (last_in way c.requires.way) in
    let less : c.index-vertex.result.now < length c.args.graph.now.items = rw (v, ← c.args.graph.now.ok.0, ← (row_count c.args.graph.now)) below in
    let row = neighbors_are g c.index-vertex.result.now (last_of way) c.index-neighbors.result.now.items c.deref.result.now v (row_is c.args.graph.now c.index-vertex.result.now c.index-neighbors.result.now less c.index-neighbors.ensures) c.deref.ensures.value in
    let next = c.first_waiting-next.result in
    let upto : next ≤ length (get_or g (last_of way) []) = subst (λ (u : List ℕ). next ≤ length u) (sym row) c.first_waiting-next.ensures.within in
    let before : (k : ℕ) → k < next → IsMarked c.args.placed.now (get_or (get_or g (last_of way) []) k 0) =
    λ k l. ⊎_elim (λ (f : k < get_or c.args.looked.now (last_of way) 0). c.requires.walk.seen (last_of way) k f) (λ (h : get_or c.args.looked.now (last_of way) 0 ≤ k). subst (λ (u : List ℕ). IsMarked c.args.placed.now (get_or u k 0)) (sym row) (c.first_waiting-next.ensures.before k (subst (λ u. get_or c.args.looked.now u 0 ≤ k) (sym v) h) l)) (cases_lt k (get_or c.args.looked.now (last_of way) 0)) in
    let same : c.deref.result.now ≡ c.index-neighbors.result.now.items = c.deref.ensures.value in
    let inside : next < length c.deref.result.now = rw (same, ← c.index-neighbors.result.now.ok.0, ← c.len-2.ensures) c.if-next-len.true in
    let waits = subst (λ (u : List ℕ). get_or c.args.placed.now (get_or u next 0) false ≡ false) (sym row) (c.first_waiting-next.ensures.waits inside) in
    let w : c.index.result.now ≡ get_or (get_or g (last_of way) []) next 0 = c.index.ensures ∙ get_or_default c.index-neighbors.result.now.items next c.index.result.now 0 (subst (λ (u : List ℕ). next < length u) same inside) ∙ ap (λ (u : List ℕ). get_or u next 0) (sym (row ∙ same)) in
    rw (v, c.in_ok-push.ensures.items, w) (deeper g c.args.placed.now c.args.looked.now way c.args.order.now.items next c.requires.walk c.requires.way upto before c.requires.edges (subst (λ (u : List ℕ). next < length u) (sym row) inside) waits)

pub returns-in_ok-push-clause-fewer : goal.returns-in_ok-push-clause-fewer
returns-in_ok-push-clause-fewer c = rw c.in_ok-push.ensures.items (fewer_deeper (plain_graph c.args.graph.now) c.args.placed.now c.args.way.now.items c.index.result.now c.requires.cycles c.requires.walk.edges c.requires.walk.below)

pub returns-in_ok-push-clause-keeps : goal.returns-in_ok-push-clause-keeps
returns-in_ok-push-clause-keeps c = rw c.in_ok-push.ensures.items (λ a i. inr (in_left c.args.way.now.items (c.index.result.now ∷ []) a i))

rest_is : {A : Type 0} (way : Vec ℕ A) (rest : List ℕ) → rest ≡ take (way.len - 1) way.items → rest ≡ take (length way.items - 1) way.items
rest_is {A} way rest e = e ∙ ap (λ u. take (u - 1) way.items) way.ok.0

pub returns-in_ok-push-2-clause-walk : goal.returns-in_ok-push-2-clause-walk
returns-in_ok-push-2-clause-walk c =
    let g = plain_graph c.args.graph.now in
    let way = c.args.way.now.items in
    let v = last_is c.args.way.now c.len.result c.index-vertex.result.now c.len.ensures c.requires.way c.index-vertex.ensures in
    let below = c.requires.walk.below (last_of way) (last_in way c.requires.way) in
    let less : c.index-vertex.result.now < length c.args.graph.now.items = rw (v, ← c.args.graph.now.ok.0, ← (row_count c.args.graph.now)) below in
    let row = neighbors_are g c.index-vertex.result.now (last_of way) c.index-neighbors.result.now.items c.deref.result.now v (row_is c.args.graph.now c.index-vertex.result.now c.index-neighbors.result.now less c.index-neighbors.ensures) c.deref.ensures.value in
    let next = c.first_waiting-next.result in
    let upto : next ≤ length (get_or g (last_of way) []) = subst (λ (u : List ℕ). next ≤ length u) (sym row) c.first_waiting-next.ensures.within in
    let before : (k : ℕ) → k < next → IsMarked c.args.placed.now (get_or (get_or g (last_of way) []) k 0) =
    λ k l. ⊎_elim (λ (f : k < get_or c.args.looked.now (last_of way) 0). c.requires.walk.seen (last_of way) k f) (λ (h : get_or c.args.looked.now (last_of way) 0 ≤ k). subst (λ (u : List ℕ). IsMarked c.args.placed.now (get_or u k 0)) (sym row) (c.first_waiting-next.ensures.before k (subst (λ u. get_or c.args.looked.now u 0 ≤ k) (sym v) h) l)) (cases_lt k (get_or c.args.looked.now (last_of way) 0)) in
    let past : length (get_or g (last_of way) []) ≤ next = subst (λ (u : List ℕ). length u ≤ next) (sym (row ∙ c.deref.ensures.value)) (rw (← c.index-neighbors.result.now.ok.0, ← c.len-2.ensures) c.if-next-len.false) in
    rw (c.in_ok-push-2.ensures.items, rest_is c.args.way.now c.pop.new.self.items c.pop.ensures.rest, v) (settled g c.args.placed.now c.args.looked.now way c.args.order.now.items next c.requires.walk c.requires.way upto before past (distinct_way g way c.requires.cycles c.requires.walk.edges))

pub returns-in_ok-push-2-clause-fewer : goal.returns-in_ok-push-2-clause-fewer
returns-in_ok-push-2-clause-fewer c =
    let way = c.args.way.now.items in
    let v = last_is c.args.way.now c.len.result c.index-vertex.result.now c.len.ensures c.requires.way c.index-vertex.ensures in
    let below = c.requires.walk.below (last_of way) (last_in way c.requires.way) in
    rw (v, rest_is c.args.way.now c.pop.new.self.items c.pop.ensures.rest) (fewer_settled (plain_graph c.args.graph.now) c.args.placed.now way c.requires.way (c.requires.walk.waits (last_of way) (last_in way c.requires.way)) (rw c.requires.walk.marks below) c.requires.walk.marks)

pub returns-in_ok-push-2-clause-keeps : goal.returns-in_ok-push-2-clause-keeps
returns-in_ok-push-2-clause-keeps c =
    let way = c.args.way.now.items in
    let v = last_is c.args.way.now c.len.result c.index-vertex.result.now c.len.ensures c.requires.way c.index-vertex.ensures in
    let below = c.requires.walk.below (last_of way) (last_in way c.requires.way) in
    rw (v, rest_is c.args.way.now c.pop.new.self.items c.pop.ensures.rest) (λ a. keeps_settled c.args.placed.now way a c.requires.way (rw c.requires.walk.marks below))

pub returns-in_ok-push-2-clause-grows : goal.returns-in_ok-push-2-clause-grows
returns-in_ok-push-2-clause-grows c =
    let way = c.args.way.now.items in
    let v = last_is c.args.way.now c.len.result c.index-vertex.result.now c.len.ensures c.requires.way c.index-vertex.ensures in
    let below = c.requires.walk.below (last_of way) (last_in way c.requires.way) in
    rw v (λ a m. mark_stays c.args.placed.now (last_of way) a (rw c.requires.walk.marks below) m)

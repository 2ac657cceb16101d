-- What a vertex reaches, row by row.
use Rattle.std.proofs.Common.{◌≡◌, ℕ, ◌+◌, ◌<◌, ◌↔◌, ◌⊎◌, List, [], length, get_or, take, refl, sym, ◌∙◌, subst, inl, inr, ⊎_elim}
use Rattle.std.specs.Prelude.{Vec}
use Rattle.p21_graph.specs.declared.bits.Bits.{Bits}
use Rattle.p21_graph.specs.Bits.{Holds}
use Rattle.p21_graph.specs.Graph.{HasEdge, IsOrder, Reaches, here, through as onward, plain_graph}
use Rattle.p21_graph.specs.GraphLaws.{in_order_below, row_count, row_is}
use Rattle.p21_graph.specs.Members.{IsIn}
use Rattle.p21_graph.specs.MemberLaws.{front_more, front_in, in_front, last_in}
use Rattle.p21_graph.specs.Reach.{IsWithin, itself, through, SomeHolds}

-- one column more of those that a row comes to hold
pub columns_more : (first old new : Bits) (row : ℕ) (columns : List ℕ) (i : ℕ) → i < length columns
    → ((r c : ℕ) → Holds old r c ↔ (Holds first r c ⊎ ((r ≡ row) × IsIn (take i columns) c)))
    → ((r c : ℕ) → Holds new r c ↔ (Holds old r c ⊎ ((r ≡ row) × (c ≡ get_or columns i 0))))
    → (r c : ℕ) → Holds new r c ↔ (Holds first r c ⊎ ((r ≡ row) × IsIn (take (i + 1) columns) c))
columns_more first old new row columns i less so_far more r c = (
  λ h. ⊎_elim
      (λ (o : Holds old r c). ⊎_elim (λ (f : Holds first r c). inl f) (λ (p : (r ≡ row) × IsIn (take i columns) c). inr (p.0, front_in columns i 0 c less p.1)) ((so_far r c).0 o))
      (λ (p : (r ≡ row) × (c ≡ get_or columns i 0)). inr (p.0, subst (λ u. IsIn (take (i + 1) columns) u) (sym p.1) (last_in columns i 0 less)))
      ((more r c).0 h),
  λ s. (more r c).1 (⊎_elim
      (λ (f : Holds first r c). inl ((so_far r c).1 (inl f)))
      (λ (p : (r ≡ row) × IsIn (take (i + 1) columns) c). ⊎_elim (λ (f : IsIn (take i columns) c). inl ((so_far r c).1 (inr (p.0, f)))) (λ (e : get_or columns i 0 ≡ c). inr (p.0, sym e)) (front_more columns i 0 c less p.1))
      s),
)

-- one row more of those of which a row comes to hold what they hold
pub rows_more : (first old new : Bits) (row : ℕ) (from : List ℕ) (i : ℕ) → i < length from
    → ((r c : ℕ) → Holds old r c ↔ (Holds first r c ⊎ ((r ≡ row) × SomeHolds first (take i from) c)))
    → ((r c : ℕ) → Holds new r c ↔ (Holds old r c ⊎ ((r ≡ row) × Holds old (get_or from i 0) c)))
    → (r c : ℕ) → Holds new r c ↔ (Holds first r c ⊎ ((r ≡ row) × SomeHolds first (take (i + 1) from) c))
rows_more first old new row from i less so_far more r c =
    let wider : SomeHolds first (take i from) c → SomeHolds first (take (i + 1) from) c = λ s. (s.0, (front_in from i 0 s.0 less s.1.0, s.1.1)) in (
      λ h. ⊎_elim
          (λ (o : Holds old r c). ⊎_elim (λ (f : Holds first r c). inl f) (λ (p : (r ≡ row) × SomeHolds first (take i from) c). inr (p.0, wider p.1)) ((so_far r c).0 o))
          (λ (p : (r ≡ row) × Holds old (get_or from i 0) c). inr (p.0, ⊎_elim (λ (f : Holds first (get_or from i 0) c). (get_or from i 0, (last_in from i 0 less, f))) (λ (q : (get_or from i 0 ≡ row) × SomeHolds first (take i from) c). wider q.1) ((so_far (get_or from i 0) c).0 p.1)))
          ((more r c).0 h),
      λ s. (more r c).1 (⊎_elim
          (λ (f : Holds first r c). inl ((so_far r c).1 (inl f)))
          (λ (p : (r ≡ row) × SomeHolds first (take (i + 1) from) c).
          ⊎_elim
          (λ (f : IsIn (take i from) p.1.0). inl ((so_far r c).1 (inr (p.0, (p.1.0, (f, p.1.1.1))))))
          (λ (e : get_or from i 0 ≡ p.1.0). inr (p.0, (so_far (get_or from i 0) c).1 (inl (subst (λ u. Holds first u c) (sym e) p.1.1.1))))
          (front_more from i 0 p.1.0 less p.1.1.0))
          s),
    )

-- what is reached: what is direct, and what a neighbor reaches
pub record IsReached (Direct : ℕ → ℕ → Type 0) (graph : List (List ℕ)) (Reached : ℕ → ℕ → Type 0) : Type 0 where
  pub direct : (v k : ℕ) → Direct v k → Reached v k
  pub onward : (v w k : ℕ) → HasEdge graph v w → Reached w k → Reached v k
  pub only : (v k : ℕ) → Reached v k → Direct v k ⊎ ((w : ℕ) × (HasEdge graph v w × Reached w k))

pub reached_is : (direct graph : List (List ℕ)) → IsReached (λ v k. IsIn (get_or direct v []) k) graph (Reaches direct graph)
reached_is direct graph = record { direct = λ v k d. here d; onward = λ v w k e r. onward e r; only = only }
  where
    only : (v k : ℕ) → Reaches direct graph v k → IsIn (get_or direct v []) k ⊎ ((w : ℕ) × (HasEdge graph v w × Reaches direct graph w k))
    only v k (here d) = inl d
    only v k (onward {b = w} e r) = inr (w, (e, r))

pub within_is : (graph : List (List ℕ)) → IsReached (λ v k. k ≡ v) graph (IsWithin graph)
within_is graph = record { direct = λ v k e. itself (sym e); onward = λ v w k e r. through e r; only = only }
  where
    only : (v k : ℕ) → IsWithin graph v k → (k ≡ v) ⊎ ((w : ℕ) × (HasEdge graph v w × IsWithin graph w k))
    only v k (itself e) = inl (sym e)
    only v k (through {b = w} e r) = inr (w, (e, r))

-- each row holds only what its vertex reaches, and the rows of these vertices hold all of it
pub record AreWritten (Reached : ℕ → ℕ → Type 0) (vertices : List ℕ) (t : Bits) : Type 0 where
  pub only : (v k : ℕ) → Holds t v k → Reached v k
  pub all : (v k : ℕ) → IsIn vertices v → Reached v k → Holds t v k

module _ (Direct : ℕ → ℕ → Type 0) (graph : List (List ℕ)) (Reached : ℕ → ℕ → Type 0) (is : IsReached Direct graph Reached) (order : List ℕ) (i : ℕ) (old begun new : Bits) where
  abbrev v : ℕ
  v = get_or order i 0

  -- one vertex more, whose neighbors are written
  pub written_more : i < length order → ((w : ℕ) → HasEdge graph v w → IsIn (take i order) w) → AreWritten Reached (take i order) old
      → ((r c : ℕ) → Holds begun r c ↔ (Holds old r c ⊎ ((r ≡ v) × Direct v c))) → ((r c : ℕ) → Holds new r c ↔ (Holds begun r c ⊎ ((r ≡ v) × SomeHolds begun (get_or graph v []) c))) → AreWritten Reached (take (i + 1) order) new
  written_more less before written first second = record {
    only = λ r c h. ⊎_elim (sound r c) (λ (p : (r ≡ v) × SomeHolds begun (get_or graph v []) c). subst (λ u. Reached u c) (sym p.0) (is.onward v p.1.0 c p.1.1.0 (sound p.1.0 c p.1.1.1))) ((second r c).0 h);
    all = λ r c m reached. ⊎_elim
        (λ (f : IsIn (take i order) r). grown r c (written.all r c f reached))
        (λ (e : v ≡ r). subst (λ u. Holds new u c) e (⊎_elim
        (λ (d : Direct v c). (second v c).1 (inl ((first v c).1 (inr (refl, d)))))
        (λ (p : (w : ℕ) × (HasEdge graph v w × Reached w c)). (second v c).1 (inr (refl, (p.0, (p.1.0, (first p.0 c).1 (inl (written.all p.0 c (before p.0 p.1.0) p.1.1)))))))
        (is.only v c (subst (λ u. Reached u c) (sym e) reached))))
        (front_more order i 0 r less m);
  }
    where
      sound : (r c : ℕ) → Holds begun r c → Reached r c
      sound r c h = ⊎_elim (λ (o : Holds old r c). written.only r c o) (λ (p : (r ≡ v) × Direct v c). subst (λ u. Reached u c) (sym p.0) (is.direct v c p.1)) ((first r c).0 h)

      grown : (r c : ℕ) → Holds old r c → Holds new r c
      grown r c h = (second r c).1 (inl ((first r c).1 (inl h)))

-- ---- the rows of a graph of the code

pub neighbors_are : {A : Type 0} (g : Vec (Vec ℕ A) A) (v : ℕ) (r : Vec ℕ A) (row : List ℕ) → v < length (plain_graph g) → r ≡ get_or g.items v r → row ≡ r.items → get_or (plain_graph g) v [] ≡ row
neighbors_are {A} g v r row below at is = row_is g v r (subst (λ u. v < u) (row_count g ∙ g.ok.0) below) at ∙ sym is

-- the neighbors of a vertex of an order are vertices
pub neighbors_below : (graph : List (List ℕ)) (order row : List ℕ) (i : ℕ) → IsOrder graph order → i < length order → get_or graph (get_or order i 0) [] ≡ row → (w : ℕ) → IsIn row w → w < length graph
neighbors_below graph order row i ordered less is w m = in_order_below graph order w ordered (in_front i order w ((ordered i less).1 w (subst (λ (u : List ℕ). IsIn u w) (sym is) m)))

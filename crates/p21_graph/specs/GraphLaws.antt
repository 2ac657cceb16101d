-- What follows from the definitions of graphs.
use Rattle.std.proofs.Common.{◌≡◌, ℕ, ◌<◌, List, [], ◌∷◌, ◌++◌, map, length, get_or, sym, ap, ◌∙◌, subst}
use Rattle.std.proofs.lemmas.List.{map_push, get_or-map, length-map}
use Rattle.std.specs.Prelude.{Vec}
use Rattle.p21_graph.specs.Members.{IsIn}
use Rattle.p21_graph.specs.Graph.{Leads, one, more, rows_of, IsOrder}
use Rattle.p21_graph.specs.MemberLaws.{place_of}

-- a row of the code, as a row of the lists
pub row_is : {A X : Type 0} (t : Vec (Vec X A) A) (i : ℕ) (r : Vec X A) → i < length t.items → r ≡ get_or t.items i r → get_or (rows_of t) i [] ≡ r.items
row_is {A} {X} t i r less at = get_or-map (λ (n : Vec X A). n.items) t.items i r [] less ∙ ap (λ (n : Vec X A). n.items) (sym at)

pub rows_push : {A X : Type 0} (old new : Vec (Vec X A) A) (row : Vec X A) → new.items ≡ old.items ++ row ∷ [] → rows_of new ≡ rows_of old ++ row.items ∷ []
rows_push {A} {X} old new row e = ap (λ (xs : List (Vec X A)). map (λ (n : Vec X A). n.items) xs) e ∙ map_push (λ (n : Vec X A). n.items) old.items row

-- how many rows
pub row_count : {A X : Type 0} (t : Vec (Vec X A) A) → length (rows_of t) ≡ t.len
row_count {A} {X} t = length-map t.items (λ (n : Vec X A). n.items) ∙ sym t.ok.0

-- a way that is one step longer
pub leads_behind : {X : Type 0} {Step : X → X → Type 0} {a b c : X} → Leads Step a b → Step b c → Leads Step a c
leads_behind (one s) e = more s (one e)
leads_behind (more s l) e = more s (leads_behind l e)

-- what stands in an order is a vertex
pub in_order_below : (graph : List (List ℕ)) (order : List ℕ) (v : ℕ) → IsOrder graph order → IsIn order v → v < length graph
in_order_below graph order v o i = let p = place_of order v i in subst (λ u. u < length graph) (p.1.1 0) (o p.0 p.1.0).0

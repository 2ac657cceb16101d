use Rattle.std.proofs.Common.{◌≡◌, ◌<◌, ◌∙◌, [], Bool, true, List, ℕ, Vec, Global, get_or, length, map, nat_lt, arith, ap, subst, sym}
use Rattle.std.proofs.lemmas.Bool.Decides.{nat_tests}
use Rattle.std.proofs.lemmas.List.{get_or-map}
use Rattle.p21_express.specs.Schema.{Schema}
use Rattle.p21_schema.specs.declared.ids.EntityId.{EntityId}
use Rattle.p21_json.specs.Keys.{AreFlags}
use Rattle.p21_json.proofs.terms.Terms.flags.Goals as goal

below : (i n : ℕ) → true ≡ nat_lt i n → i < n
below i n e = grind (arith, nat_tests, e)

flags_at : (s : Schema) (e : EntityId) (t : List (Vec Bool Global)) (i : ℕ) (v : Vec Bool Global) → AreFlags s e (get_or (map (λ (v : Vec Bool Global). v.items) t) e.index []) → i ≡ e.index → i < length t → v ≡ get_or t i v → AreFlags s e v.items
flags_at s e t i v f q l is =
    subst (AreFlags s e) (ap (λ (k : ℕ). get_or (map (λ (v : Vec Bool Global). v.items) t) k []) (sym q) ∙ get_or-map (λ (v : Vec Bool Global). v.items) t i v [] l ∙ ap (λ (v : Vec Bool Global). v.items) (sym is)) f

pub returns-in-Some : goal.returns-in-Some
returns-in-Some c =
    let t = c.self.inside.taken.items in
    let v = c.in-Some.flags.now in
    let i = c.place.result in
    let less : i < length t = rw (← c.deref.ensures.value) (below i (length c.deref.result.now) c.in-Some.ensures.lookup.0) in
    let is : v ≡ get_or t i v = rw (← c.deref.ensures.value) c.in-Some.ensures.lookup.1 in
    let whole = flags_at c.self.inside.schema.now c.args.entity t i v (c.self.invariant.taken c.args.entity) c.place.ensures less is in
    subst (λ (l : List Bool). AreFlags c.args.self.now c.args.entity l) (sym c.as_slice.ensures.value) (subst (λ (x : Schema). AreFlags x c.args.entity v.items) c.self.view_is whole)

-- The entities of instances that are joined.
use Rattle.std.proofs.Common.{◌≡◌, Option, List, [], ◌∷◌, ◌++◌, Ok, sym, subst}
use Rattle.p21_express.specs.Schema.{Schema}
use Rattle.p21_schema.specs.declared.ids.EntityId.{EntityId}
use Rattle.p21_tree.specs.Sentence.{Instance}
use Rattle.p21_check.specs.EntityOf.{AreSimpleEntities, IsSimpleEntity}
use Rattle.p21_reader.specs.Values.{Value, whole}
use Rattle.p21_reader.specs.Judged.{IsEntityOfValue}
use Rattle.p21_reader.specs.Steps.{AddsValue}

one_more : (s : Schema) (is : List Instance) (es : List (Option EntityId)) (i : Instance) (own : Option EntityId) → AreSimpleEntities s is es → IsSimpleEntity s i own → AreSimpleEntities s (is ++ i ∷ []) (es ++ own ∷ [])
one_more s [] [] i own h here = (here, tt)
one_more s [] (e ∷ es) i own h here = absurd h
one_more s (j ∷ is) [] i own h here = absurd h
one_more s (j ∷ is) (e ∷ es) i own h here = (h.0, one_more s is es i own h.1 here)

-- that of one value more, after the others
pub value_known : (s : Schema) (old new : List Instance) (es longer : List (Option EntityId)) (v : Value) (own : Option EntityId) → AddsValue old v (Ok tt) new → IsEntityOfValue s v own → longer ≡ es ++ own ∷ [] → AreSimpleEntities s old es → AreSimpleEntities s new longer
value_known s old new es longer v own a here e h =
    let known : IsEntityOfValue s (whole a.0) own = subst (λ x. IsEntityOfValue s x own) a.1 here in
    subst (λ (l : List Instance). AreSimpleEntities s l longer) (sym a.3) (subst (AreSimpleEntities s (old ++ a.0.instance ∷ [])) (sym e) (one_more s old es a.0.instance own h known))

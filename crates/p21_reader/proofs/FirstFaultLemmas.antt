-- One judged piece more.
use Rattle.std.proofs.Common.{◌≡◌, ◌≢◌, false, is_some, List, [], ◌∷◌, ◌++◌, Option, Some, None, Ok, map, refl, sym, ap, subst, ◌∙◌}
use Rattle.std.proofs.lemmas.List.{map-append}
use Rattle.p21_schema.specs.declared.ids.EntityId.{EntityId}
use Rattle.p21_tree.specs.declared.faults.Fault.{Fault}
use Rattle.p21_tree.specs.Sentence.{Instance}
use Rattle.p21_reader.specs.declared.judged.Judgement.{Judgement}
use Rattle.p21_reader.specs.Values.{Whole, Value, whole, instances_in, IsCarriedFault, CarryNoFault, HaveInstances}
use Rattle.p21_reader.specs.Judged.{value_of, values_of, entities_of}
use Rattle.p21_reader.specs.Steps.{AddsValue}
use Rattle.p21_reader.specs.FirstFault.{Gathers}
use Rattle.p21_reader.proofs.PlaceLemmas.{Place, last, before, place_of}

none_carried : CarryNoFault []
none_carried = λ earlier later w e. nothing earlier later w e where
  nothing : (earlier later : List Whole) (w : Whole) → [] ≡ earlier ++ w ∷ later → IsCarriedFault (instances_in earlier) w None
  nothing [] later w e = absurd (cc)
  nothing (x ∷ earlier) later w e = absurd (cc)

carried_more : (ws : List Whole) (w : Whole) → CarryNoFault ws → IsCarriedFault (instances_in ws) w None → CarryNoFault (ws ++ w ∷ [])
carried_more ws w h own = λ earlier later x e. by_place earlier later x (place_of ws earlier later w x e) where
  by_place : (earlier later : List Whole) (x : Whole) → Place ws earlier later w x → IsCarriedFault (instances_in earlier) x None
  by_place earlier later x (last p q) = subst (λ l. IsCarriedFault (instances_in l) x None) p (subst (λ z. IsCarriedFault (instances_in ws) z None) q own)
  by_place earlier later x (before m p) = h earlier m x p

pub none_gathered : Gathers [] [] [] None
none_gathered = (record { wholes = []; are = refl; faultless = none_carried; instances = refl }, refl)

pub values_more : (js : List Judgement) (j : Judgement) (vs : List Value) (v : Value) → values_of js ≡ vs → value_of j.judged ≡ v → values_of (js ++ j ∷ []) ≡ vs ++ v ∷ []
values_more js j vs v e f = map-append (λ (x : Judgement). value_of x.judged) js (j ∷ []) ∙ (ap (λ l. l ++ value_of j.judged ∷ []) e ∙ ap (λ x. vs ++ x ∷ []) f)

-- an instance without a fault
instance_gathered : (js : List Judgement) (j : Judgement) (is more : List Instance) (es longer : List (Option EntityId)) → Gathers js is es None → AddsValue is (value_of j.judged) (Ok tt) more → longer ≡ es ++ j.entity ∷ [] → Gathers (js ++ j ∷ []) more longer None
instance_gathered js j is more es longer h a e =
    let ws : List Whole = h.0.wholes in
    let w : Whole = a.0 in
    let own : IsCarriedFault (instances_in ws) w None = subst (λ l. IsCarriedFault l w None) h.0.instances a.2 in
    let values : values_of (js ++ j ∷ []) ≡ map whole ws ++ whole w ∷ [] = values_more js j (map whole ws) (whole w) h.0.are a.1 in (
      record {
        wholes = ws ++ w ∷ [];
        are = values ∙ sym (map-append whole ws (w ∷ []));
        faultless = carried_more ws w h.0.faultless own;
        instances = a.3 ∙ (ap (λ l. l ++ w.instance ∷ []) h.0.instances ∙ sym (map-append (λ (x : Whole). x.instance) ws (w ∷ [])));
      },
      e ∙ (ap (λ l. l ++ j.entity ∷ []) h.1 ∙ sym (map-append (λ (x : Judgement). x.entity) js (j ∷ []))),
    )

pub still_none : (js : List Judgement) (j : Judgement) (is more : List Instance) (es longer : List (Option EntityId)) (fault : Option Fault) → is_some fault ≡ false → Gathers js is es fault → AddsValue is (value_of j.judged) (Ok tt) more → longer ≡ es ++ j.entity ∷ [] → Gathers (js ++ j ∷ []) more longer fault
still_none js j is more es longer None none h a e = instance_gathered js j is more es longer h a e
still_none js j is more es longer (Some f) none h a e = absurd (cc)

-- what was gathered where there is no fault
pub instances_gathered : (js : List Judgement) (is : List Instance) (es : List (Option EntityId)) (fault : Option Fault) → ((f : Fault) → fault ≢ Some f) → Gathers js is es fault → HaveInstances (values_of js) is × (es ≡ entities_of js)
instances_gathered js is es None none h = h
instances_gathered js is es (Some f) none h = absurd (none f refl)

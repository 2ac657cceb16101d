-- One judged piece more, with all faults.
use Rattle.std.proofs.Common.{◌≡◌, ◌≢◌, ℕ, Bool, true, false, List, [], ◌∷◌, ◌++◌, Option, Some, None, map, refl, sym, ap, subst, ◌∙◌, append_assoc, append-nil}
use Rattle.std.proofs.lemmas.List.{map-append}
use Rattle.p21_schema.specs.declared.ids.EntityId.{EntityId}
use Rattle.p21_tree.specs.declared.faults.Fault.{Fault}
use Rattle.p21_tree.specs.declared.faults.FaultKind.{FaultKind}
use Rattle.p21_tree.specs.Sentence.{Instance}
use Rattle.p21_tree.specs.Fault.{tails}
use Rattle.p21_tree.specs.Texts.{HasTail, HasFault}
use Rattle.p21_join.specs.declared.instance_names.InstanceNames.{InstanceNames}
use Rattle.p21_join.specs.InstanceNames.{IsAmong}
use Rattle.p21_reader.specs.declared.judged.Judgement.{Judgement}
use Rattle.p21_reader.specs.Values.{Whole, Value, grammar, whole, instances_in, IsCarriedFault, HaveInstances}
use Rattle.p21_reader.specs.Judged.{value_of, values_of, entities_of}
use Rattle.p21_reader.specs.Names.{AreNames}
use Rattle.p21_reader.specs.AllFaults.{AreFaultsOf}
use Rattle.p21_reader.specs.AllFaults as faults
use Rattle.p21_reader.specs.AllByValues.{AreCarriedFaults, AreFaultsOfValues}
use Rattle.p21_reader.specs.AllByValues as by
use Rattle.p21_reader.specs.EveryFault.{HaveFaults, GathersFaults}
use Rattle.p21_reader.proofs.FirstFaultLemmas.{still_none, values_more}
use Rattle.p21_reader.proofs.AllValueLemmas.{carry_none}

-- Faults, one element more.

module _ {T : Type 0} (instance_of : T → Instance) (IsFault : List Instance → T → Option FaultKind → Type 0) where
  behind_one : (earlier : List Instance) (x : T) (xs : List T) → (earlier ++ instance_of x ∷ []) ++ map instance_of xs ≡ earlier ++ map instance_of (x ∷ xs)
  behind_one earlier x xs = append_assoc earlier (instance_of x ∷ []) (map instance_of xs)

  none_more : (earlier : List Instance) (xs : List T) (fs : List Fault) (x : T) → AreFaultsOf instance_of IsFault earlier xs fs → IsFault (earlier ++ map instance_of xs) x None → AreFaultsOf instance_of IsFault earlier (xs ++ x ∷ []) fs
  none_more earlier _ _ x faults.none own = faults.faultless (subst (λ l. IsFault l x None) (append-nil earlier) own) faults.none
  none_more earlier _ fs x (faults.faultless {x = y} {xs} h rest) own =
      faults.faultless h (none_more (earlier ++ instance_of y ∷ []) xs fs x rest (subst (λ l. IsFault l x None) (sym (behind_one earlier y xs)) own))
  none_more earlier _ _ x (faults.faulty {x = y} {xs} {fs} h rest) own =
      faults.faulty h (none_more (earlier ++ instance_of y ∷ []) xs fs x rest (subst (λ l. IsFault l x None) (sym (behind_one earlier y xs)) own))

  some_more : (earlier : List Instance) (xs : List T) (fs : List Fault) (x : T) (kind : FaultKind) → AreFaultsOf instance_of IsFault earlier xs fs → IsFault (earlier ++ map instance_of xs) x (Some kind)
      → AreFaultsOf instance_of IsFault earlier (xs ++ x ∷ []) (fs ++ record { kind = kind; at = (instance_of x).at } ∷ [])
  some_more earlier _ _ x kind faults.none own = faults.faulty (subst (λ l. IsFault l x (Some kind)) (append-nil earlier) own) faults.none
  some_more earlier _ fs x kind (faults.faultless {x = y} {xs} h rest) own =
      faults.faultless h (some_more (earlier ++ instance_of y ∷ []) xs fs x kind rest (subst (λ l. IsFault l x (Some kind)) (sym (behind_one earlier y xs)) own))
  some_more earlier _ _ x kind (faults.faulty {x = y} {xs} {fs} h rest) own =
      faults.faulty h (some_more (earlier ++ instance_of y ∷ []) xs fs x kind rest (subst (λ l. IsFault l x (Some kind)) (sym (behind_one earlier y xs)) own))

-- What was gathered.

instances_more : (ws : List Whole) (w : Whole) → instances_in (ws ++ w ∷ []) ≡ instances_in ws ++ w.instance ∷ []
instances_more ws w = map-append (λ (x : Whole). x.instance) ws (w ∷ [])

wholes_more : (js : List Judgement) (j : Judgement) (ws : List Whole) (w : Whole) → values_of js ≡ map whole ws → value_of j.judged ≡ whole w → values_of (js ++ j ∷ []) ≡ map whole (ws ++ w ∷ [])
wholes_more js j ws w are own = values_more js j (map whole ws) (whole w) are own ∙ sym (map-append whole ws (w ∷ []))

-- some fault, and none of the grammar
pub faulty_gathered : (js : List Judgement) (is : List Instance) (es : List (Option EntityId)) (names : InstanceNames) (found : List Fault) (ended : Bool) → ended ≡ false → found ≢ [] → GathersFaults js is es names found ended
    → HaveFaults (values_of js) names found
faulty_gathered js is es names found true e some h = absurd (cc)
faulty_gathered js is es names [] false e some h = absurd (some refl)
faulty_gathered js is es names (f ∷ found) false e some h = h

-- whole values and their faults
record Carried (vs : List Value) (found : List Fault) : Type 0 where
  wholes : List Whole
  are : vs ≡ map whole wholes
  faults : AreCarriedFaults wholes found

carried_so_far : (js : List Judgement) (is : List Instance) (es : List (Option EntityId)) (names : InstanceNames) (found : List Fault) (ended : Bool) → ended ≡ false → GathersFaults js is es names found ended → Carried (values_of js) found
carried_so_far js is es names found true e h = absurd (cc)
carried_so_far js is es names [] false e h = record { wholes = h.0.wholes; are = h.0.are; faults = carry_none h.0.wholes h.0.faultless }
carried_so_far js is es names (f ∷ found) false e h = record { wholes = h.wholes; are = h.are; faults = h.faults }

gathers_faulty : (js : List Judgement) (is : List Instance) (es : List (Option EntityId)) (names : InstanceNames) (found : List Fault) → found ≢ [] → HaveFaults (values_of js) names found → GathersFaults js is es names found false
gathers_faulty js is es names [] some h = absurd (some refl)
gathers_faulty js is es names (f ∷ found) some h = h

some_behind : (found : List Fault) (f : Fault) → found ++ f ∷ [] ≢ []
some_behind [] f e = cc
some_behind (g ∷ found) f e = cc

-- an instance without a fault, after others without
pub sound_more : (js : List Judgement) (j : Judgement) (w : Whole) (is more : List Instance) (es longer : List (Option EntityId)) (names : InstanceNames) (found : List Fault) (ended : Bool) → ended ≡ false → found ≡ []
    → GathersFaults js is es names found ended → value_of j.judged ≡ whole w → IsCarriedFault is w None → more ≡ is ++ w.instance ∷ [] → longer ≡ es ++ j.entity ∷ [] → GathersFaults (js ++ j ∷ []) more longer names found ended
sound_more js j w is more es longer names found true e none h own fault add longer_is = absurd (cc)
sound_more js j w is more es longer names (f ∷ found) false e none h own fault add longer_is = absurd (cc)
sound_more js j w is more es longer names [] false e none h own fault add longer_is = still_none js j is more es longer None refl h (w, own, fault, add) longer_is

-- the first fault
pub first_fault : (js : List Judgement) (j : Judgement) (w : Whole) (kind : FaultKind) (is any : List Instance) (es others : List (Option EntityId)) (names after : InstanceNames) (found more : List Fault) (ended : Bool) → ended ≡ false → found ≡ []
    → GathersFaults js is es names found ended → value_of j.judged ≡ whole w → IsCarriedFault is w (Some kind) → AreNames (IsAmong after) (is ++ w.instance ∷ []) → more ≡ found ++ record { kind = kind; at = w.instance.at } ∷ []
    → GathersFaults (js ++ j ∷ []) any others after more ended
first_fault js j w kind is any es others names after found more true e none h own fault named more_is = absurd (cc)
first_fault js j w kind is any es others names after (f ∷ found) more false e none h own fault named more_is = absurd (cc)
first_fault js j w kind is any es others names after [] more false e none h own fault named more_is =
    let v = h.0 in
    let own_fault = subst (λ l. IsCarriedFault l w (Some kind)) v.instances fault in
    let all = some_more (λ (x : Whole). x.instance) IsCarriedFault [] v.wholes [] w kind (carry_none v.wholes v.faultless) own_fault in
    subst (λ l. GathersFaults (js ++ j ∷ []) any others after l false) (sym more_is) (record {
      wholes = v.wholes ++ w ∷ [];
      are = wholes_more js j v.wholes w v.are own;
      faults = all;
      names_are = subst (AreNames (IsAmong after)) (ap (λ l. l ++ w.instance ∷ []) v.instances ∙ sym (instances_more v.wholes w)) named;
    })

-- a further fault, or none
pub noted_none : (js : List Judgement) (j : Judgement) (w : Whole) (is any : List Instance) (es others : List (Option EntityId)) (after : InstanceNames) (names : InstanceNames) (found : List Fault) (h : HaveFaults (values_of js) names found) → found ≢ []
    → value_of j.judged ≡ whole w → IsCarriedFault (instances_in h.wholes) w None → AreNames (IsAmong after) (instances_in h.wholes ++ w.instance ∷ []) → GathersFaults (js ++ j ∷ []) any others after found false
noted_none js j w is any es others after names found h some own fault named = gathers_faulty (js ++ j ∷ []) any others after found some (record {
  wholes = h.wholes ++ w ∷ [];
  are = wholes_more js j h.wholes w h.are own;
  faults = none_more (λ (x : Whole). x.instance) IsCarriedFault [] h.wholes found w h.faults fault;
  names_are = subst (AreNames (IsAmong after)) (sym (instances_more h.wholes w)) named;
})

pub noted_some : (js : List Judgement) (j : Judgement) (w : Whole) (kind : FaultKind) (any : List Instance) (others : List (Option EntityId)) (after : InstanceNames) (names : InstanceNames) (found more : List Fault) (h : HaveFaults (values_of js) names found)
    → value_of j.judged ≡ whole w → IsCarriedFault (instances_in h.wholes) w (Some kind) → AreNames (IsAmong after) (instances_in h.wholes ++ w.instance ∷ []) → more ≡ found ++ record { kind = kind; at = w.instance.at } ∷ []
    → GathersFaults (js ++ j ∷ []) any others after more false
noted_some js j w kind any others after names found more h own fault named more_is =
    let last : Fault = record { kind = kind; at = w.instance.at } in
    subst (λ l. GathersFaults (js ++ j ∷ []) any others after l false) (sym more_is) (gathers_faulty (js ++ j ∷ []) any others after (found ++ last ∷ []) (some_behind found last) (record {
      wholes = h.wholes ++ w ∷ [];
      are = wholes_more js j h.wholes w h.are own;
      faults = some_more (λ (x : Whole). x.instance) IsCarriedFault [] h.wholes found w kind h.faults fault;
      names_are = subst (AreNames (IsAmong after)) (sym (instances_more h.wholes w)) named;
    }))

-- a grammar fault
pub grammar_more : (js : List Judgement) (j : Judgement) (f : Fault) (is any : List Instance) (es others : List (Option EntityId)) (names after : InstanceNames) (found more : List Fault) (ended : Bool) → ended ≡ false
    → GathersFaults js is es names found ended → value_of j.judged ≡ grammar f → more ≡ found ++ f ∷ [] → GathersFaults (js ++ j ∷ []) any others after more true
grammar_more js j f is any es others names after found more ended e h own more_is =
    let c = carried_so_far js is es names found ended e h in record {
      wholes = c.wholes;
      fault = f;
      later = [];
      earlier = found;
      are = values_more js j (map whole c.wholes) (grammar f) c.are own;
      faults = c.faults;
      found_are = more_is;
    }

-- All pieces are gathered.

pub ended_with : (file : List ℕ) (end : ℕ) (js : List Judgement) (is : List Instance) (es : List (Option EntityId)) (names : InstanceNames) (found : List Fault) (ended : Bool) → ended ≡ true → GathersFaults js is es names found ended → AreFaultsOfValues file end (values_of js) found
ended_with file end js is es names [] false e h = absurd (cc)
ended_with file end js is es names (f ∷ found) false e h = absurd (cc)
ended_with file end js is es names found true e h = subst (AreFaultsOfValues file end (values_of js)) (sym h.found_are) (by.up_to_value h.fault h.later h.are h.faults)

pub tail_with : (file : List ℕ) (end : ℕ) (js : List Judgement) (is : List Instance) (es : List (Option EntityId)) (names : InstanceNames) (found more : List Fault) (f : Fault) (ended : Bool) → ended ≡ false → GathersFaults js is es names found ended → HasFault tails file end f → more ≡ found ++ f ∷ []
    → AreFaultsOfValues file end (values_of js) more
tail_with file end js is es names found more f ended e h t more_is =
    let c = carried_so_far js is es names found ended e h in
    subst (AreFaultsOfValues file end (values_of js)) (sym more_is) (by.up_to_tail c.are c.faults t)

pub whole_with : (file : List ℕ) (end : ℕ) (js : List Judgement) (is : List Instance) (es : List (Option EntityId)) (names : InstanceNames) (found : List Fault) (ended : Bool) → ended ≡ false → GathersFaults js is es names found ended → HasTail file end → AreFaultsOfValues file end (values_of js) found
whole_with file end js is es names found ended e h t =
    let c = carried_so_far js is es names found ended e h in by.of_wholes c.are c.faults t

-- where none is found, there was none
pub none_found : (js : List Judgement) (is : List Instance) (es : List (Option EntityId)) (names : InstanceNames) (found : List Fault) (ended : Bool) → found ≡ [] → GathersFaults js is es names found ended → HaveInstances (values_of js) is × (es ≡ entities_of js)
none_found js is es names found true none h = absurd (some_behind h.earlier h.fault (sym h.found_are ∙ none))
none_found js is es names [] false none h = h
none_found js is es names (f ∷ found) false none h = absurd (cc)

pub none_behind : (found more : List Fault) (f : Fault) → more ≡ found ++ f ∷ [] → more ≡ [] → found ≡ []
none_behind found more f more_is none = absurd (some_behind found f (sym more_is ∙ none))

pub has_tail : (file : List ℕ) (end : ℕ) (vs : List Value) (fs : List Fault) → AreFaultsOfValues file end vs fs → fs ≡ [] → HasTail file end
has_tail file end vs _ (by.up_to_value f later {fs = gs} e carried) none = absurd (some_behind gs f none)
has_tail file end vs _ (by.up_to_tail {f} {fs = gs} e carried t) none = absurd (some_behind gs f none)
has_tail file end vs fs (by.of_wholes e carried t) none = t

-- More pieces, gathered.
use Rattle.std.proofs.Common.{◌≡◌, ◌≢◌, ◌⊎◌, inl, inr, ℕ, zero, suc, ◌+◌, ◌-◌, ◌<◌, Bool, true, false, List, [], ◌∷◌, ◌++◌, Option, Some, None, Ok, Err, drop, get_or, length, map, take, refl, sym, ap, subst, ◌∙◌, append_assoc, append-nil, arith}
use Rattle.std.specs.Prelude.{All, OnOk, Result}
use Rattle.std.proofs.lemmas.List.{drop-map, get_or-map, length-map, map-append, map_more, take_rest}
use Rattle.std.proofs.lemmas.Grind.{flat_map-append}
use Rattle.std.proofs.lemmas.List.Elements.{All-cons, All-head, All-nil, All-tail}
use Rattle.p21_tree.specs.declared.faults.Fault.{Fault}
use Rattle.p21_tree.specs.declared.faults.FaultKind.{FaultKind}
use Rattle.p21_tree.specs.declared.faults.FaultKind.TheVariants as kind
use Rattle.p21_tree.specs.declared.instances.RawInstance.{RawInstance}
use Rattle.p21_tree.specs.Sentence.{Instance}
use Rattle.p21_tree.specs.Fault.{tails}
use Rattle.p21_tree.specs.Texts.{HasTail, HasFault}
use Rattle.p21_join.specs.declared.instance_names.InstanceNames.{InstanceNames}
use Rattle.p21_join.specs.InstanceNames.{IsAmong}
use Rattle.p21_reader.specs.Values.{Whole, Value, grammar, whole, instances_in, IsCarriedFault, CarryNoFault, HaveInstances}
use Rattle.p21_reader.specs.InstanceFault.{IsRepeated}
use Rattle.p21_reader.specs.InstanceFault as fault
use Rattle.p21_reader.specs.Names.{AreNames}
use Rattle.p21_reader.specs.AllFaults.{AreFaultsOf}
use Rattle.p21_reader.specs.AllFaults as faults
use Rattle.p21_reader.specs.AllByValues.{AreCarriedFaults, AreFaultsOfValues}
use Rattle.p21_reader.specs.AllByValues as by
use Rattle.p21_reader.specs.EveryFault.{HaveFaults}
use Rattle.p21_express.specs.Schema.{Schema}
use Rattle.p21_join.specs.Model.{plain_instances}
use Rattle.p21_join.specs.Names.{HaveOwnNames}
use Rattle.p21_outline.specs.Outline.{AreOutlined, Extends, IsFirstRepeated, outlined_instances}
use Rattle.p21_outline.specs.declared.outline.Extended.TheVariants as extended
use Rattle.p21_outline.specs.OutlineList.{AreListed, listed_instances}
use Rattle.p21_outline.specs.PlacedName.{placed_name}
use Rattle.p21_outline.specs.declared.outline_list.OutlineList.{OutlineList}
use Rattle.p21_outline.specs.declared.outline_list.PlacedName.{PlacedName}
use Rattle.p21_tree.specs.Views.{plain_instance}
use Rattle.p21_checker.specs.Checked.{outlines_of, sound_value, values_in, values_of}
use Rattle.p21_checker.specs.Gathering.{FitsWith, GathersFaults, HasFaultBehind, HasGathered, IsGathered}
use Rattle.p21_checker.specs.declared.checked_list.CheckedList.{CheckedList}
use Rattle.p21_checker.specs.declared.gathering.Gathering.{Gathering}
use Rattle.p21_checker.proofs.NameLemmas.{is_new_behind, is_not_repeated, names_are, names_repeated}

-- Faults, one instance more.

module _ {T : Type 0} (instance_of : T → Instance) (IsFault : List Instance → T → Option FaultKind → Type 0) where
  behind_one : (earlier : List Instance) (x : T) (xs : List T) → (earlier ++ instance_of x ∷ []) ++ map instance_of xs ≡ earlier ++ map instance_of (x ∷ xs)
  behind_one earlier x xs = append_assoc earlier (instance_of x ∷ []) (map instance_of xs)

  none_more : (earlier : List Instance) (xs : List T) (fs : List Fault) (x : T) → AreFaultsOf instance_of IsFault earlier xs fs → IsFault (earlier ++ map instance_of xs) x None → AreFaultsOf instance_of IsFault earlier (xs ++ x ∷ []) fs
  none_more earlier _ _ x faults.none own = faults.faultless (subst (λ l. IsFault l x None) (append-nil earlier) own) faults.none
  none_more earlier _ fs x (faults.faultless {x = y} {xs} h rest) own =
      faults.faultless h (none_more (earlier ++ instance_of y ∷ []) xs fs x rest (subst (λ l. IsFault l x None) (sym (behind_one earlier y xs)) own))
  none_more earlier _ _ x (faults.faulty {x = y} {xs} {fs} h rest) own =
      faults.faulty h (none_more (earlier ++ instance_of y ∷ []) xs fs x rest (subst (λ l. IsFault l x None) (sym (behind_one earlier y xs)) own))

  some_more : (earlier : List Instance) (xs : List T) (fs : List Fault) (x : T) (kind : FaultKind) → AreFaultsOf instance_of IsFault earlier xs fs → IsFault (earlier ++ map instance_of xs) x (Some kind)
      → AreFaultsOf instance_of IsFault earlier (xs ++ x ∷ []) (fs ++ record { kind = kind; at = (instance_of x).at } ∷ [])
  some_more earlier _ _ x kind faults.none own = faults.faulty (subst (λ l. IsFault l x (Some kind)) (append-nil earlier) own) faults.none
  some_more earlier _ fs x kind (faults.faultless {x = y} {xs} h rest) own =
      faults.faultless h (some_more (earlier ++ instance_of y ∷ []) xs fs x kind rest (subst (λ l. IsFault l x (Some kind)) (sym (behind_one earlier y xs)) own))
  some_more earlier _ _ x kind (faults.faulty {x = y} {xs} {fs} h rest) own =
      faults.faulty h (some_more (earlier ++ instance_of y ∷ []) xs fs x kind rest (subst (λ l. IsFault l x (Some kind)) (sym (behind_one earlier y xs)) own))

-- Instances without a fault.

none_carried : (before ws : List Whole) → CarryNoFault (before ++ ws) → AreFaultsOf (λ (w : Whole). w.instance) IsCarriedFault (instances_in before) ws []
none_carried before [] clean = faults.none
none_carried before (w ∷ ws) clean =
    let parts : (before ++ w ∷ []) ++ ws ≡ before ++ w ∷ ws = append_assoc before (w ∷ []) ws in
    let more : instances_in (before ++ w ∷ []) ≡ instances_in before ++ w.instance ∷ [] = map-append (λ (x : Whole). x.instance) before (w ∷ []) in
    let rest = none_carried (before ++ w ∷ []) ws (subst CarryNoFault (sym parts) clean) in
    faults.faultless (clean before ws w refl) (subst (λ l. AreFaultsOf (λ (x : Whole). x.instance) IsCarriedFault l ws []) more rest)

-- where the last of all is one, and which it is
data Place (ws earlier later : List Whole) (w x : Whole) : Type 0 where
  last : ws ≡ earlier → w ≡ x → Place ws earlier later w x
  before : (m : List Whole) → ws ≡ earlier ++ x ∷ m → Place ws earlier later w x

place_of : (ws earlier later : List Whole) (w x : Whole) → ws ++ w ∷ [] ≡ earlier ++ x ∷ later → Place ws earlier later w x
place_of [] [] later w x e = last refl (cc)
place_of [] (y ∷ []) later w x e = absurd (cc)
place_of [] (y ∷ (z ∷ earlier)) later w x e = absurd (cc)
place_of (v ∷ ws) [] later w x e = let same : v ≡ x = cc in before ws (ap (λ y. y ∷ ws) same)
place_of (v ∷ ws) (y ∷ earlier) later w x e =
    let same : v ≡ y = cc in
    let rest : ws ++ w ∷ [] ≡ earlier ++ x ∷ later = cc in
    further (place_of ws earlier later w x rest) same where
      further : Place ws earlier later w x → v ≡ y → Place (v ∷ ws) (y ∷ earlier) later w x
      further (last p q) same = last (ap (λ z. z ∷ ws) same ∙ ap (λ l. y ∷ l) p) q
      further (before m p) same = before m (ap (λ z. z ∷ ws) same ∙ ap (λ l. y ∷ l) p)

pub nothing_gathered : HaveInstances [] []
nothing_gathered = record { wholes = []; are = refl; faultless = λ earlier later w e. nothing earlier later w e; instances = refl } where
  nothing : (earlier later : List Whole) (w : Whole) → [] ≡ earlier ++ w ∷ later → IsCarriedFault (instances_in earlier) w None
  nothing [] later w e = absurd (cc)
  nothing (x ∷ earlier) later w e = absurd (cc)

instances_more : (ws : List Whole) (w : Whole) → instances_in (ws ++ w ∷ []) ≡ instances_in ws ++ w.instance ∷ []
instances_more ws w = map-append (λ (x : Whole). x.instance) ws (w ∷ [])

wholes_more : (vs : List Value) (ws : List Whole) (w : Whole) → vs ≡ map whole ws → vs ++ whole w ∷ [] ≡ map whole (ws ++ w ∷ [])
wholes_more vs ws w are = ap (λ l. l ++ whole w ∷ []) are ∙ sym (map-append whole ws (w ∷ []))

-- an instance without a fault, after others without
sound_more : (vs : List Value) (is more : List Instance) (w : Whole) → HaveInstances vs is → IsCarriedFault is w None → more ≡ is ++ w.instance ∷ [] → HaveInstances (vs ++ whole w ∷ []) more
sound_more vs is more w h own add = record {
  wholes = h.wholes ++ w ∷ [];
  are = wholes_more vs h.wholes w h.are;
  faultless = λ earlier later x e. by_place earlier later x (place_of h.wholes earlier later w x e);
  instances = add ∙ (ap (λ l. l ++ w.instance ∷ []) h.instances ∙ sym (instances_more h.wholes w));
} where
  by_place : (earlier later : List Whole) (x : Whole) → Place h.wholes earlier later w x → IsCarriedFault (instances_in earlier) x None
  by_place earlier later x (last p q) = subst (λ l. IsCarriedFault (instances_in l) x None) p (subst (λ z. IsCarriedFault (instances_in h.wholes) z None) q (subst (λ l. IsCarriedFault l w None) h.instances own))
  by_place earlier later x (before m p) = h.faultless earlier m x p

-- the names of instances without a fault
pub faults_from : (vs : List Value) (is : List Instance) (names : InstanceNames) → HaveInstances vs is → AreNames (IsAmong names) is → HaveFaults vs names []
faults_from vs is names h named = record { wholes = h.wholes; are = h.are; faults = none_carried [] h.wholes h.faultless; names_are = subst (AreNames (IsAmong names)) h.instances named }

-- one more instance, with a fault or without, and the names with its own

pub noted_none : (vs : List Value) (w : Whole) (names after : InstanceNames) (found : List Fault) (h : HaveFaults vs names found) → IsCarriedFault (instances_in h.wholes) w None → AreNames (IsAmong after) (instances_in h.wholes ++ w.instance ∷ [])
    → HaveFaults (vs ++ whole w ∷ []) after found
noted_none vs w names after found h own named = record {
  wholes = h.wholes ++ w ∷ [];
  are = wholes_more vs h.wholes w h.are;
  faults = none_more (λ (x : Whole). x.instance) IsCarriedFault [] h.wholes found w h.faults own;
  names_are = subst (AreNames (IsAmong after)) (sym (instances_more h.wholes w)) named;
}

pub noted_some : (vs : List Value) (w : Whole) (kind : FaultKind) (names after : InstanceNames) (found : List Fault) (h : HaveFaults vs names found) → IsCarriedFault (instances_in h.wholes) w (Some kind) → AreNames (IsAmong after) (instances_in h.wholes ++ w.instance ∷ [])
    → HaveFaults (vs ++ whole w ∷ []) after (found ++ record { kind = kind; at = w.instance.at } ∷ [])
noted_some vs w kind names after found h own named = record {
  wholes = h.wholes ++ w ∷ [];
  are = wholes_more vs h.wholes w h.are;
  faults = some_more (λ (x : Whole). x.instance) IsCarriedFault [] h.wholes found w kind h.faults own;
  names_are = subst (AreNames (IsAmong after)) (sym (instances_more h.wholes w)) named;
}

-- What was gathered.

pub some_behind : (found : List Fault) (f : Fault) → found ++ f ∷ [] ≢ []
some_behind [] f e = cc
some_behind (g ∷ found) f e = cc

pub sound_gathered : (vs : List Value) (is : List Instance) (names : InstanceNames) (found : List Fault) (ended : Bool) → ended ≡ false → found ≡ [] → GathersFaults vs is names found ended → HaveInstances vs is
sound_gathered vs is names found true e none h = absurd (cc)
sound_gathered vs is names [] false e none h = h
sound_gathered vs is names (f ∷ found) false e none h = absurd (cc)

gathers_faulty : (vs : List Value) (is : List Instance) (names : InstanceNames) (found : List Fault) (ended : Bool) → ended ≡ false → found ≢ [] → HaveFaults vs names found → GathersFaults vs is names found ended
gathers_faulty vs is names found true e some h = absurd (cc)
gathers_faulty vs is names [] false e some h = absurd (some refl)
gathers_faulty vs is names (f ∷ found) false e some h = h

gathers_sound : (vs : List Value) (is : List Instance) (names : InstanceNames) (found : List Fault) (ended : Bool) → ended ≡ false → found ≡ [] → HaveInstances vs is → GathersFaults vs is names found ended
gathers_sound vs is names found true e none h = absurd (cc)
gathers_sound vs is names [] false e none h = h
gathers_sound vs is names (f ∷ found) false e none h = absurd (cc)

-- whole values and their faults
record Carried (vs : List Value) (found : List Fault) : Type 0 where
  wholes : List Whole
  are : vs ≡ map whole wholes
  faults : AreCarriedFaults wholes found

carried_so_far : (vs : List Value) (is : List Instance) (names : InstanceNames) (found : List Fault) (ended : Bool) → ended ≡ false → GathersFaults vs is names found ended → Carried vs found
carried_so_far vs is names found true e h = absurd (cc)
carried_so_far vs is names [] false e h = record { wholes = h.wholes; are = h.are; faults = none_carried [] h.wholes h.faultless }
carried_so_far vs is names (f ∷ found) false e h = record { wholes = h.wholes; are = h.are; faults = h.faults }

-- a grammar fault
grammar_more : (vs : List Value) (f : Fault) (is any : List Instance) (names after : InstanceNames) (found more : List Fault) (ended : Bool) → ended ≡ false → GathersFaults vs is names found ended → more ≡ found ++ f ∷ []
    → GathersFaults (vs ++ grammar f ∷ []) any after more true
grammar_more vs f is any names after found more ended e h more_is =
    let c = carried_so_far vs is names found ended e h in record {
      wholes = c.wholes;
      fault = f;
      later = [];
      earlier = found;
      are = ap (λ l. l ++ grammar f ∷ []) c.are;
      faults = c.faults;
      found_are = more_is;
    }

-- after a grammar fault nothing is looked at
ended_more : (vs more : List Value) (is : List Instance) (names : InstanceNames) (found : List Fault) (ended : Bool) → ended ≡ true → GathersFaults vs is names found ended → GathersFaults (vs ++ more) is names found ended
ended_more vs more is names [] false e h = absurd (cc)
ended_more vs more is names (f ∷ found) false e h = absurd (cc)
ended_more vs more is names found true e h = record {
  wholes = h.wholes;
  fault = h.fault;
  later = h.later ++ more;
  earlier = h.earlier;
  are = ap (λ l. l ++ more) h.are ∙ append_assoc (map whole h.wholes) (grammar h.fault ∷ h.later) more;
  faults = h.faults;
  found_are = h.found_are;
}

ended_some : (vs : List Value) (is : List Instance) (names : InstanceNames) (found : List Fault) (ended : Bool) → ended ≡ true → GathersFaults vs is names found ended → found ≢ []
ended_some vs is names [] false e h = absurd (cc)
ended_some vs is names (f ∷ found) false e h = absurd (cc)
ended_some vs is names found true e h = λ none. some_behind h.earlier h.fault (sym h.found_are ∙ none)

-- All pieces are gathered.

pub ended_with : (file : List ℕ) (end : ℕ) (vs : List Value) (is : List Instance) (names : InstanceNames) (found : List Fault) (ended : Bool) → ended ≡ true → GathersFaults vs is names found ended → AreFaultsOfValues file end vs found
ended_with file end vs is names [] false e h = absurd (cc)
ended_with file end vs is names (f ∷ found) false e h = absurd (cc)
ended_with file end vs is names found true e h = subst (AreFaultsOfValues file end vs) (sym h.found_are) (by.up_to_value h.fault h.later h.are h.faults)

pub tail_with : (file : List ℕ) (end : ℕ) (vs : List Value) (is : List Instance) (names : InstanceNames) (found more : List Fault) (f : Fault) (ended : Bool) → ended ≡ false → GathersFaults vs is names found ended → HasFault tails file end f → more ≡ found ++ f ∷ []
    → AreFaultsOfValues file end vs more
tail_with file end vs is names found more f ended e h t more_is =
    let c = carried_so_far vs is names found ended e h in
    subst (AreFaultsOfValues file end vs) (sym more_is) (by.up_to_tail c.are c.faults t)

pub whole_with : (file : List ℕ) (end : ℕ) (vs : List Value) (is : List Instance) (names : InstanceNames) (found : List Fault) (ended : Bool) → ended ≡ false → GathersFaults vs is names found ended → HasTail file end → AreFaultsOfValues file end vs found
whole_with file end vs is names found ended e h t =
    let c = carried_so_far vs is names found ended e h in by.of_wholes c.are c.faults t

-- where none is found, there was none
pub none_found : (vs : List Value) (is : List Instance) (names : InstanceNames) (found : List Fault) (ended : Bool) → found ≡ [] → GathersFaults vs is names found ended → HaveInstances vs is
none_found vs is names found true none h = absurd (some_behind h.earlier h.fault (sym h.found_are ∙ none))
none_found vs is names [] false none h = h
none_found vs is names (f ∷ found) false none h = absurd (cc)

pub has_tail : (file : List ℕ) (end : ℕ) (vs : List Value) (fs : List Fault) → AreFaultsOfValues file end vs fs → fs ≡ [] → HasTail file end
has_tail file end vs _ (by.up_to_value f later {fs = gs} e carried) none = absurd (some_behind gs f none)
has_tail file end vs _ (by.up_to_tail {f} {fs = gs} e carried t) none = absurd (some_behind gs f none)
has_tail file end vs fs (by.of_wholes e carried t) none = t

-- What fits a schema.

pub fits_sound : (found : List Fault) (g : Gathering) (ls : List OutlineList) → found ≡ [] → ((s : Schema) → All (AreListed s) ls → AreOutlined s g.outline) → FitsWith found g ls
fits_sound [] g ls none h = h
fits_sound (f ∷ found) g ls none h = absurd (cc)

fits_faulty : (found : List Fault) (g : Gathering) (ls : List OutlineList) → found ≢ [] → FitsWith found g ls
fits_faulty [] g ls some = absurd (some refl)
fits_faulty (f ∷ found) g ls some = tt

pub fitting : (found : List Fault) (g : Gathering) (ls : List OutlineList) → found ≡ [] → FitsWith found g ls → (s : Schema) → All (AreListed s) ls → AreOutlined s g.outline
fitting [] g ls none h = h
fitting (f ∷ found) g ls none h = absurd (cc)

module _ {X : Type 0} (P : X → Type 0) where
  all_front : (xs ys : List X) → All P (xs ++ ys) → All P xs
  all_front [] ys h = All-nil P
  all_front (x ∷ xs) ys h = All-cons P x xs (All-head P x (xs ++ ys) h) (all_front xs ys (All-tail P x (xs ++ ys) h))

  all_last : (xs : List X) (x : X) → All P (xs ++ x ∷ []) → P x
  all_last [] x h = All-head P x [] h
  all_last (y ∷ xs) x h = all_last xs x (All-tail P y (xs ++ x ∷ []) h)

-- Instances joined.

-- those of a list that have names of their own, after others without a fault
sound_list : (vs : List Value) (is js : List RawInstance) → HaveInstances vs (plain_instances is) → HaveOwnNames (is ++ js) → HaveInstances (vs ++ map sound_value js) (plain_instances (is ++ js))
sound_list vs is [] h own = subst (λ l. HaveInstances l (plain_instances (is ++ []))) (sym (append-nil vs)) (subst (λ l. HaveInstances vs (plain_instances l)) (sym (append-nil is)) h)
sound_list vs is (j ∷ js) h own =
    let w : Whole = record { instance = plain_instance j; own = None } in
    let alone : IsCarriedFault (plain_instances is) w None = fault.alone (is_not_repeated is j (is_new_behind is j js own)) refl in
    let parts : (is ++ j ∷ []) ++ js ≡ is ++ j ∷ js = append_assoc is (j ∷ []) js in
    let one = sound_more vs (plain_instances is) (plain_instances (is ++ j ∷ [])) w h alone (map-append plain_instance is (j ∷ [])) in
    let all = sound_list (vs ++ whole w ∷ []) (is ++ j ∷ []) js one (subst HaveOwnNames (sym parts) own) in
    subst (λ l. HaveInstances l (plain_instances (is ++ j ∷ js))) (append_assoc vs (whole w ∷ []) (map sound_value js))
    (subst (λ l. HaveInstances ((vs ++ whole w ∷ []) ++ map sound_value js) (plain_instances l)) parts all)

so_far : (g : Gathering) (vs : List Value) (ls : List OutlineList) → g.ended ≡ false → g.faults.items ≡ [] → HasGathered g vs ls → HaveInstances vs (plain_instances (outlined_instances g.outline))
so_far g vs ls going none prior = sound_gathered vs (plain_instances (outlined_instances g.outline)) g.names g.faults.items g.ended going none prior.faults

-- a list was joined
pub gathered_joined : (g h : Gathering) (vs : List Value) (ls : List OutlineList) (list : OutlineList) → g.ended ≡ false → g.faults.items ≡ [] → h.ended ≡ g.ended → h.faults ≡ g.faults → HasGathered g vs ls → HaveOwnNames (outlined_instances h.outline) → Extends g.outline list (extended.Whole h.outline)
    → HasGathered h (vs ++ map sound_value (listed_instances list)) (ls ++ list ∷ [])
gathered_joined g h vs ls list going none ended faults prior own extends =
    let old = outlined_instances g.outline in
    let more = listed_instances list in
    let empty : h.faults.items ≡ [] = ap (λ f. f.items) faults ∙ none in
    let have = sound_list vs old more (so_far g vs ls going none prior) (subst HaveOwnNames extends.0 own) in record {
      faults = gathers_sound (vs ++ map sound_value more) (plain_instances (outlined_instances h.outline)) h.names h.faults.items h.ended (ended ∙ going) empty
          (subst (λ l. HaveInstances (vs ++ map sound_value more) (plain_instances l)) (sym extends.0) have);
      fits = fits_sound h.faults.items h (ls ++ list ∷ []) empty
          (λ s all. extends.1 s (fitting g.faults.items g ls none prior.fits s (all_front (AreListed s) ls (list ∷ []) all)) (all_last (AreListed s) ls list all));
    }

-- those before the first repeated name have no fault
pub faults_before : (g : Gathering) (vs : List Value) (ls : List OutlineList) (js : List RawInstance) (names : InstanceNames) (place : ℕ) → g.ended ≡ false → g.faults.items ≡ [] → HasGathered g vs ls → IsFirstRepeated (outlined_instances g.outline) js names place
    → HaveFaults (vs ++ map sound_value (take place js)) names []
faults_before g vs ls js names place going none prior first =
    let before = outlined_instances g.outline ++ take place js in
    faults_from (vs ++ map sound_value (take place js)) (plain_instances before) names
    (sound_list vs (outlined_instances g.outline) (take place js) (so_far g vs ls going none prior) first.own_names) (names_are names before first.names_are)

-- Faults noted.

-- the values have faults, and these and the names were noted
gathered_faulty : (g : Gathering) (vs : List Value) (ls : List OutlineList) → g.ended ≡ false → g.faults.items ≢ [] → HaveFaults vs g.names g.faults.items → HasGathered g vs ls
gathered_faulty g vs ls going some h = record {
  faults = gathers_faulty vs (plain_instances (outlined_instances g.outline)) g.names g.faults.items g.ended going some h;
  fits = fits_faulty g.faults.items g ls some;
}

-- the same, and that there is one
pub noted_gathered : (g : Gathering) (vs : List Value) (ls : List OutlineList) → g.ended ≡ false → g.faults.items ≢ [] → HaveFaults vs g.names g.faults.items → HasGathered g vs ls × (g.faults.items ≢ [])
noted_gathered g vs ls going some h = (gathered_faulty g vs ls going some h, some)

-- after a fault no outline is kept
pub gathered_with : (g : Gathering) (vs : List Value) (ls more : List OutlineList) → g.faults.items ≢ [] → HasGathered g vs ls → HasGathered g vs more
gathered_with g vs ls more some h = record { faults = h.faults; fits = fits_faulty g.faults.items g more some }

-- the first fault is that an instance has a name that is there
pub gathered_again : (g : Gathering) (vs : List Value) (ls : List OutlineList) (i : RawInstance) → g.ended ≡ false → HaveFaults vs g.names [] → IsAmong g.names i.name → g.faults.items ≡ record { kind = kind.DuplicateName; at = i.at } ∷ [] → HasGathered g (vs ++ sound_value i ∷ []) ls
gathered_again g vs ls i going h again items =
    let w : Whole = record { instance = plain_instance i; own = None } in
    let noted = noted_some vs w kind.DuplicateName g.names g.names [] h (fault.repeated (h.names_are.only i.name again)) (names_repeated g.names (instances_in h.wholes) w.instance h.names_are again) in
    let some : g.faults.items ≢ [] = λ e. cc in
    gathered_faulty g (vs ++ sound_value i ∷ []) ls going some (subst (HaveFaults (vs ++ sound_value i ∷ []) g.names) (sym items) noted)

-- the instance at a place of a list, and those after it
pub record Parted (is : List RawInstance) (place : ℕ) : Type 0 where
  pub here : RawInstance
  pub later : List RawInstance
  pub are : is ≡ take place is ++ here ∷ later
  pub stands : get_or is place here ≡ here
  pub from : drop place is ≡ here ∷ later

parted : (is : List RawInstance) (place : ℕ) → place < length is → Parted is place
parted [] place less = absurd (omega (arith, less))
parted (x ∷ is) zero less = record { here = x; later = is; are = refl; stands = refl; from = refl }
parted (x ∷ is) (suc place) less =
    let r = parted is place (omega (arith, less)) in record { here = r.here; later = r.later; are = ap (λ l. x ∷ l) r.are; stands = r.stands; from = r.from }

-- the same of names
pub parted_names : (names : List PlacedName) (is : List RawInstance) (place : ℕ) → names ≡ map placed_name is → place < length names → Parted is place
parted_names names is place e less = parted is place (omega (arith, less, ap length e, length-map is placed_name))

pub names_from : (names back : List PlacedName) (is : List RawInstance) (place : ℕ) → names ≡ map placed_name is → back ≡ drop place names → (p : Parted is place) → back ≡ placed_name p.here ∷ map placed_name p.later
names_from names back is place e back_is p = back_is ∙ (ap (λ l. drop place l) e ∙ (drop-map placed_name place is ∙ ap (λ l. map placed_name l) p.from))

pub names_behind : (back later : List PlacedName) (first : PlacedName) → back ≡ first ∷ later → take (length back - 1) (drop 1 back) ≡ later
names_behind back later first e = take_rest back 1 ∙ ap (λ l. drop 1 l) e

pub parted_values : (vs : List Value) (is : List RawInstance) (place : ℕ) (p : Parted is place) → ((vs ++ map sound_value (take place is)) ++ sound_value p.here ∷ []) ++ map sound_value p.later ≡ vs ++ map sound_value is
parted_values vs is place p =
    append_assoc (vs ++ map sound_value (take place is)) (sound_value p.here ∷ []) (map sound_value p.later)
    ∙ (append_assoc vs (map sound_value (take place is)) (sound_value p.here ∷ map sound_value p.later)
    ∙ ap (λ l. vs ++ l) (sym (map-append sound_value (take place is) (p.here ∷ p.later)) ∙ ap (λ l. map sound_value l) (sym p.are)))

-- one more of a list of instances, by its name

pub name_there : (names : List PlacedName) (is : List RawInstance) (k : ℕ) (d : PlacedName) → names ≡ map placed_name is → (p : Parted is k) → k < length names → placed_name p.here ≡ get_or names k d
name_there names is k d e p less =
    let within : k < length is = omega (arith, less, ap length e, length-map is placed_name) in
    ap placed_name (sym p.stands) ∙ (sym (get_or-map placed_name is k p.here d within) ∙ ap (λ l. get_or l k d) (sym e))

pub sound_next : (vs : List Value) (is : List RawInstance) (k : ℕ) (p : Parted is k) → k < length is → (vs ++ map sound_value (take k is)) ++ sound_value p.here ∷ [] ≡ vs ++ map sound_value (take (k + 1) is)
sound_next vs is k p less =
    append_assoc vs (map sound_value (take k is)) (sound_value p.here ∷ [])
    ∙ ap (λ l. vs ++ l) (ap (λ i. map sound_value (take k is) ++ sound_value i ∷ []) (sym p.stands) ∙ sym (map_more sound_value is k p.here less))

-- where nothing has a fault, one of the instance is told
pub told_fault : (g : Gathering) (w : Whole) (told : Option FaultKind) → HasFaultBehind g w → (w.own ≢ None → told ≢ None) → g.faults.items ≢ [] ⊎ (told ≢ None)
told_fault g w told behind own = elim behind [ inl some ↦ inl some | inr some ↦ inr (own some) ]

-- a grammar fault was gathered
pub gathered_grammar : (g h : Gathering) (vs : List Value) (ls : List OutlineList) (f : Fault) → g.ended ≡ false → h.ended ≡ true → h.faults.items ≡ g.faults.items ++ f ∷ [] → HasGathered g vs ls → HasGathered h (vs ++ grammar f ∷ []) ls × (h.faults.items ≢ [])
gathered_grammar g h vs ls f going ended more prior =
    let some : h.faults.items ≢ [] = λ none. some_behind g.faults.items f (sym more ∙ none) in
    let any = plain_instances (outlined_instances h.outline) in
    let all = grammar_more vs f (plain_instances (outlined_instances g.outline)) any g.names h.names g.faults.items h.faults.items g.ended going prior.faults more in (
      record {
        faults = subst (λ b. GathersFaults (vs ++ grammar f ∷ []) any h.names h.faults.items b) (sym ended) all;
        fits = fits_faulty h.faults.items h ls some;
      },
      some,
    )

-- after a grammar fault nothing is looked at
pub gathered_ended : (g : Gathering) (vs more : List Value) (ls others : List OutlineList) → g.ended ≡ true → HasGathered g vs ls → HasGathered g (vs ++ more) others × (g.faults.items ≢ [])
gathered_ended g vs more ls others ended prior =
    let is = plain_instances (outlined_instances g.outline) in
    let some = ended_some vs is g.names g.faults.items g.ended ended prior.faults in (
      record { faults = ended_more vs more is g.names g.faults.items g.ended ended prior.faults; fits = fits_faulty g.faults.items g others some },
      some,
    )

-- Lists gathered.

-- a list of pieces after others
pub gathered_list : (g : Gathering) (outs : List CheckedList) (out : CheckedList) → HasGathered g (values_of outs ++ values_in out) (outlines_of outs ++ out.sound ∷ []) → IsGathered g (outs ++ out ∷ [])
gathered_list g outs out h =
    let values : values_of (outs ++ out ∷ []) ≡ values_of outs ++ values_in out = flat_map-append values_in outs (out ∷ []) ∙ ap (λ l. values_of outs ++ l) (append-nil (values_in out)) in
    let outlines : outlines_of (outs ++ out ∷ []) ≡ outlines_of outs ++ out.sound ∷ [] = map-append (λ (c : CheckedList). c.sound) outs (out ∷ []) in
    subst (λ vs. HasGathered g vs (outlines_of (outs ++ out ∷ []))) (sym values) (subst (HasGathered g (values_of outs ++ values_in out)) (sym outlines) h)

pub on_ok : {E : Type 0} {T : Type 0} (r : Result T E) (P Q : Type 0) → (P → Q) → OnOk r P → OnOk r Q
on_ok (Ok x) P Q f h = f h
on_ok (Err e) P Q f h = h

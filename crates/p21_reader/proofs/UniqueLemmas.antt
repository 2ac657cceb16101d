-- A file has at most one reading.
use Rattle.std.proofs.Common.{◌≡◌, ℕ, List, [], ◌∷◌, ◌++◌, Option, Some, None, Ok, Err, refl, sym, ap, subst, ◌∙◌, append_assoc}
use Rattle.std.proofs.lemmas.List.Elements.{All-head, All-tail}
use Rattle.p21_text.specs.Tokens.{Placed, TokensUpTo}
use Rattle.p21_text.specs.Laws.{HasOneListAtMost}
use Rattle.p21_express.specs.Schema.{Schema}
use Rattle.p21_tree.specs.declared.faults.Fault.{Fault}
use Rattle.p21_tree.specs.declared.faults.FaultKind.{FaultKind}
use Rattle.p21_tree.specs.Sentence.{Instance, Opening, File, IsFile, deepest}
use Rattle.p21_tree.specs.Fault.{files}
use Rattle.p21_tree.specs.Laws.{HasOneFaultAtMost, FaultsAreOfTokens, FaultOf, SameFault}
use Rattle.p21_tree.specs.Texts.{fault_kind, IsFileText, HasFault, HasPrefaceFault}
use Rattle.p21_check.specs.Laws.{HasOneHeaderFault, HasOneLocalFault, HasOneReferenceFault}
use Rattle.p21_check.specs.Header.{IsHeaderFault}
use Rattle.p21_check.specs.References.{IsReferenceFault, named_in}
use Rattle.p21_reader.specs.GrammarOutcome.{FileBeginsWith, FileStopsBehind}
use Rattle.p21_reader.specs.InstanceFault.{IsInstanceFault, HaveNoFault}
use Rattle.p21_reader.specs.InstanceFault as own
use Rattle.p21_reader.specs.LocalFault.{IsOpeningFault, IsLocalFaultOfFile, HasNoLocalFault}
use Rattle.p21_reader.specs.LocalFault as fault
use Rattle.p21_refs.specs.FirstReferenceFault.{AreAnswered, IsFirstReferenceFault}
use Rattle.p21_reader.specs.Reading.{IsReading}
use Rattle.p21_reader.specs.Reading as reading
use Rattle.p21_reader.specs.Laws.{HasOneReadingAtMost}
use Rattle.p21_reader.proofs.ReadLemmas.{begins_opening}
use Rattle.p21_reader.proofs.FrontLemmas.{Fronts, shorter, longer, fronts, next_first, TreeLaws, Goes, within, beyond, beginnings, HasAll, all_of_file, all_of_stop, no_preface}

-- the laws that a reading stands on
pub record Laws : Type 0 where
  pub lists : (text : List ℕ) → (at : ℕ) → HasOneListAtMost text at
  pub sentences : TreeLaws
  pub faults : HasOneFaultAtMost files
  pub of_tokens : FaultsAreOfTokens files
  pub header : (s : Schema) → (o : Opening) → HasOneHeaderFault s o
  pub alone : (s : Schema) → (i : Instance) → HasOneLocalFault s i
  pub references : (s : Schema) → (named : ℕ → Option Instance) → (i : Instance) → HasOneReferenceFault s named i

-- Two places of one list: the same one, or one of them stands before the other.

data Places (a : List Instance) (x : Instance) (b : List Instance) (y : Instance) : Type 0 where
  same : a ≡ b → x ≡ y → Places a x b y
  before : (m : List Instance) → b ≡ a ++ x ∷ m → Places a x b y
  behind : (m : List Instance) → a ≡ b ++ y ∷ m → Places a x b y

places_cons : (u v : Instance) (a : List Instance) (x : Instance) (b : List Instance) (y : Instance) → u ≡ v → Places a x b y → Places (u ∷ a) x (v ∷ b) y
places_cons u v a x b y e (same f g) = same (ap (λ z. u ∷ z) f ∙ ap (λ z. z ∷ b) e) g
places_cons u v a x b y e (before m f) = before m (ap (λ z. v ∷ z) f ∙ ap (λ z. z ∷ (a ++ x ∷ m)) (sym e))
places_cons u v a x b y e (behind m f) = behind m (ap (λ z. u ∷ z) f ∙ ap (λ z. z ∷ (b ++ y ∷ m)) e)

places : (a : List Instance) (x : Instance) (m : List Instance) (b : List Instance) (y : Instance) (n : List Instance) → a ++ x ∷ m ≡ b ++ y ∷ n → Places a x b y
places [] x m [] y n e = same refl (cc)
places [] x m (v ∷ b) y n e = before b (let f : x ≡ v = cc in ap (λ z. z ∷ b) (sym f))
places (u ∷ a) x m [] y n e = behind a (let f : u ≡ y = cc in ap (λ z. z ∷ a) f)
places (u ∷ a) x m (v ∷ b) y n e =
    let f : u ≡ v = cc in
    let g : a ++ x ∷ m ≡ b ++ y ∷ n = cc in
    places_cons u v a x b y f (places a x m b y n g)

-- Two answers.

fault_is : (f g : Fault) → f.kind ≡ g.kind → f.at ≡ g.at → f ≡ g
fault_is f g e d = ap (λ k. record { kind = k; at = f.at }) e ∙ ap (λ a. record { kind = g.kind; at = a }) d

pub some_apart : (k : FaultKind) → Some k ≡ None → ⊥
some_apart k e = cc

pub some_same : (j k : FaultKind) → Some j ≡ Some k → j ≡ k
some_same j k e = cc

module _ (laws : Laws) where
  -- The fault of an instance among others.

  pub instance_same : (s : Schema) (earlier : List Instance) (i : Instance) (a b : Option FaultKind) → IsInstanceFault s earlier i a → IsInstanceFault s earlier i b → a ≡ b
  instance_same s earlier i a b (own.repeated r) (own.repeated q) = refl
  instance_same s earlier i a b (own.repeated r) (own.alone n h) = absurd (n r)
  instance_same s earlier i a b (own.alone n h) (own.repeated r) = absurd (n r)
  instance_same s earlier i a b (own.alone n h) (own.alone m k) = laws.alone s i a b h k

  -- a faulty instance stands among no faultless ones
  among_faultless : (s : Schema) (is earlier later : List Instance) (i : Instance) (k : FaultKind) → HaveNoFault s is → is ≡ earlier ++ i ∷ later → IsInstanceFault s earlier i (Some k) → ⊥
  among_faultless s is earlier later i k h e f = some_apart k (instance_same s earlier i (Some k) None f (h earlier later i e))

  -- The grammar fault of a file.

  same_fault_in : (file : List ℕ) (f g : Fault) (h : HasFault files file 0 f) (k : HasFault files file 0 g) (m : List Placed) → k.before ≡ h.before ++ m → TokensUpTo file h.place m k.place → f ≡ g
  same_fault_in file f g h k m e r =
      let next = next_first laws.sentences.firsts file h.place k.place m h.token k.token r h.next k.next in
      let all : List Placed = k.before ++ k.token ∷ [] in
      let parts : all ≡ h.before ++ h.token ∷ next.0 = ap (λ x. x ++ k.token ∷ []) e ∙ (append_assoc h.before m (k.token ∷ []) ∙ ap (λ x. h.before ++ x) next.1) in
      let here : FaultOf files all = record { before = h.before; token = h.token; behind = next.0; kind = h.kind; at = f.at; parts = parts; is_fault = h.is_fault } in
      let there : FaultOf files all = record { before = k.before; token = k.token; behind = []; kind = k.kind; at = g.at; parts = refl; is_fault = k.is_fault } in
      let one : SameFault files all here there = (laws.faults all).1 here there in
      fault_is f g (h.kind_is ∙ (ap fault_kind one.2 ∙ sym k.kind_is)) one.3

  pub grammar_same : (file : List ℕ) (f g : Fault) → HasFault files file 0 f → HasFault files file 0 g → f ≡ g
  grammar_same file f g h k = by_front (fronts laws.sentences.firsts file 0 h.place k.place h.before k.before h.tokens k.tokens) where
    by_front : Fronts file h.before k.before h.place k.place → f ≡ g
    by_front (shorter m e r) = same_fault_in file f g h k m e r
    by_front (longer m e r) = sym (same_fault_in file g f k h m e r)

  pub not_whole : (file : List ℕ) (o : Opening) (is : List Instance) (f : Fault) → IsFileText file o is → HasFault files file 0 f → ⊥
  not_whole file o is f w h = (laws.faults w.0).0 (record { opening = o; instances = is }, w.2) (laws.of_tokens file 0 w.0 f w.1 h).0

  -- Faults of different parts of a file exclude each other.

  header_apart : (s : Schema) (file : List ℕ) (o u : Opening) (is js : List Instance) (p q : ℕ) (k : FaultKind) → FileBeginsWith file o is p → IsHeaderFault s o (Some k) → FileBeginsWith file u js q → IsHeaderFault s u None → ⊥
  header_apart s file o u is js p q k b h d g =
      let openings : o ≡ u = (beginnings laws.sentences file o u is js p q b d).0 in
      some_apart k (laws.header s u (Some k) None (subst (λ x. IsHeaderFault s x (Some k)) openings h) g)

  -- of all whole instances one with a fault is one
  instance_apart : (s : Schema) (file : List ℕ) (o u : Opening) (earlier is : List Instance) (i : Instance) (p : ℕ) (k : FaultKind) → FileBeginsWith file o (earlier ++ i ∷ []) p → IsInstanceFault s earlier i (Some k) → HasAll file u is → HaveNoFault s is → ⊥
  instance_apart s file o u earlier is i p k b f all h = by_end (beginnings laws.sentences file o u (earlier ++ i ∷ []) is p all.end b all.begins).1 where
    by_end : Goes file all.end (earlier ++ i ∷ []) is → ⊥
    by_end (within m e) = among_faultless s is earlier m i k h (e ∙ append_assoc earlier (i ∷ []) m) f
    by_end (beyond j m e at) = all.no_more j at

  instance_fault_same : (s : Schema) (earlier front : List Instance) (i j : Instance) (x y : FaultKind) → HaveNoFault s earlier → IsInstanceFault s earlier i (Some x) → HaveNoFault s front → IsInstanceFault s front j (Some y) → Places earlier i front j → (x ≡ y) × (i.at ≡ j.at)
  instance_fault_same s earlier front i j x y h f g k (same d e) =
      let moved : IsInstanceFault s front j (Some x) = subst (λ z. IsInstanceFault s front z (Some x)) e (subst (λ z. IsInstanceFault s z i (Some x)) d f) in
      (some_same x y (instance_same s front j (Some x) (Some y) moved k), ap (λ z. z.at) e)
  instance_fault_same s earlier front i j x y h f g k (before m e) = absurd (among_faultless s front earlier m i x g e f)
  instance_fault_same s earlier front i j x y h f g k (behind m e) = absurd (among_faultless s earlier front m j y h e k)

  -- the first faulty instance of two beginnings of a file is one
  first_faulty : (s : Schema) (file : List ℕ) (o u : Opening) (earlier front : List Instance) (i j : Instance) (p q : ℕ) (x y : FaultKind) → FileBeginsWith file o (earlier ++ i ∷ []) p → HaveNoFault s earlier → IsInstanceFault s earlier i (Some x) → FileBeginsWith file u (front ++ j ∷ []) q → HaveNoFault s front → IsInstanceFault s front j (Some y) → (x ≡ y) × (i.at ≡ j.at)
  first_faulty s file o u earlier front i j p q x y b h f d g k = by_end (beginnings laws.sentences file o u (earlier ++ i ∷ []) (front ++ j ∷ []) p q b d).1 where
    by_end : Goes file q (earlier ++ i ∷ []) (front ++ j ∷ []) → (x ≡ y) × (i.at ≡ j.at)
    by_end (within m e) = instance_fault_same s earlier front i j x y h f g k (places earlier i m front j [] (sym (e ∙ append_assoc earlier (i ∷ []) m)))
    by_end (beyond l m e at) = instance_fault_same s earlier front i j x y h f g k (places earlier i [] front j (l ∷ m) (e ∙ append_assoc front (j ∷ []) (l ∷ m)))

  -- The local fault of a file.

  preface_grammar : (file : List ℕ) (f : Fault) → HasPrefaceFault file f → HasFault files file 0 f
  preface_grammar file f h = record { before = h.before; place = h.place; token = h.token; kind = h.kind; tokens = h.tokens; next = h.next; is_fault = h.of_file; kind_is = h.kind_is }

  pub stop_grammar : (file : List ℕ) (o : Opening) (is : List Instance) (f : Fault) → FileStopsBehind file o is f → HasFault files file 0 f
  stop_grammar file o is f h = record { before = h.opening ++ (h.body ++ h.front); place = h.place; token = h.token; kind = h.kind; tokens = h.tokens; next = h.next; is_fault = h.stops.is_fault; kind_is = h.kind_is }

  -- a file with a fault before its instances begins with no preface whose header has none
  pub opening_apart : (s : Schema) (file : List ℕ) (f : Fault) (o : Opening) (is : List Instance) (place : ℕ) → IsOpeningFault s file f → FileBeginsWith file o is place → IsHeaderFault s o None → ⊥
  opening_apart s file f o is place (fault.in_preface h) b x = no_preface laws.sentences.firsts file f o is place h b
  opening_apart s file f o is place (fault.in_header {o = u} {kind} d y) b x = header_apart s file u o [] is u.data_at place kind (begins_opening file u d) y b x

  pub opening_same : (s : Schema) (file : List ℕ) (f g : Fault) → IsOpeningFault s file f → IsOpeningFault s file g → f ≡ g
  opening_same s file f g (fault.in_preface h) (fault.in_preface k) = grammar_same file f g (preface_grammar file f h) (preface_grammar file g k)
  opening_same s file f g (fault.in_preface h) (fault.in_header {o = u} d y) = absurd (no_preface laws.sentences.firsts file f u [] u.data_at h (begins_opening file u d))
  opening_same s file f g (fault.in_header {o} b x) (fault.in_preface k) = absurd (no_preface laws.sentences.firsts file g o [] o.data_at k (begins_opening file o b))
  opening_same s file f g (fault.in_header {o} {kind = m} b x) (fault.in_header {o = u} {kind = n} d y) =
      let openings : o ≡ u = (beginnings laws.sentences file o u [] [] o.data_at u.data_at (begins_opening file o b) (begins_opening file u d)).0 in
      let kinds : m ≡ n = some_same m n (laws.header s u (Some m) (Some n) (subst (λ z. IsHeaderFault s z (Some m)) openings x) y) in
      fault_is f g kinds (ap (λ z. z.header_at) openings)

  local_same : (s : Schema) (file : List ℕ) (f g : Fault) → IsLocalFaultOfFile s file f → IsLocalFaultOfFile s file g → f ≡ g
  local_same s file f g (fault.in_opening h) (fault.in_opening k) = opening_same s file f g h k
  local_same s file f g (fault.in_opening h) (fault.in_instance {o = u} {earlier = js} {i = j} {place = q} d y ys k) = absurd (opening_apart s file f u (js ++ j ∷ []) q h d y)
  local_same s file f g (fault.in_opening h) (fault.behind_instances {o = u} {is = js} d y ys) = (let all = all_of_stop laws.sentences.firsts file u js g d in absurd (opening_apart s file f u js all.end h all.begins y))
  local_same s file f g (fault.in_instance {o} {earlier = is} {i} {place = p} b x xs h) (fault.in_opening k) = absurd (opening_apart s file g o (is ++ i ∷ []) p k b x)
  local_same s file f g (fault.in_instance {o} {earlier = is} {i} {place = p} {kind = m} b x xs h) (fault.in_instance {o = u} {earlier = js} {i = j} {place = q} {kind = n} d y ys k) =
      let one = first_faulty s file o u is js i j p q m n b xs h d ys k in
      fault_is f g one.0 one.1
  local_same s file f g (fault.in_instance {o} {earlier = is} {i} {place = p} {kind = m} b x xs h) (fault.behind_instances {o = u} {is = js} d y ys) = absurd (instance_apart s file o u is js i p m b h (all_of_stop laws.sentences.firsts file u js g d) ys)
  local_same s file f g (fault.behind_instances {o} {is} b x xs) (fault.in_opening k) = (let all = all_of_stop laws.sentences.firsts file o is f b in absurd (opening_apart s file g o is all.end k all.begins x))
  local_same s file f g (fault.behind_instances {o} {is} b x xs) (fault.in_instance {o = u} {earlier = js} {i = j} {place = q} {kind = n} d y ys k) = absurd (instance_apart s file u o js is j q n d k (all_of_stop laws.sentences.firsts file o is f b) xs)
  local_same s file f g (fault.behind_instances {o} {is} b x xs) (fault.behind_instances {o = u} {is = js} d y ys) = grammar_same file f g (stop_grammar file o is f b) (stop_grammar file u js g d)

  -- a file with a local fault is no file without one
  pub local_apart : (s : Schema) (file : List ℕ) (is : List Instance) (f : Fault) → HasNoLocalFault s file is → IsLocalFaultOfFile s file f → ⊥
  local_apart s file is f w (fault.in_opening h) = (let all = all_of_file laws.sentences.firsts file w.opening is w.is_file in opening_apart s file f w.opening is all.end h all.begins w.header)
  local_apart s file is f w (fault.in_instance {o} {earlier} {i} {place} {kind} b x xs h) = instance_apart s file o w.opening earlier is i place kind b h (all_of_file laws.sentences.firsts file w.opening is w.is_file) w.faultless
  local_apart s file is f w (fault.behind_instances {o} {is = js} b x xs) = not_whole file w.opening is f w.is_file (stop_grammar file o js f b)

  -- The instances of a file, and the first fault of their references.

  pub instances_same : (s : Schema) (file : List ℕ) (is js : List Instance) → HasNoLocalFault s file is → HasNoLocalFault s file js → is ≡ js
  instances_same s file is js h k =
      let one : h.is_file.0 ≡ k.is_file.0 = laws.lists file 0 h.is_file.0 k.is_file.0 h.is_file.1 k.is_file.1 in
      let left : File = record { opening = h.opening; instances = is } in
      let right : File = record { opening = k.opening; instances = js } in
      ap (λ z. z.instances) ((laws.sentences.trees k.is_file.0).0 left right (subst (λ z. IsFile deepest z left) one h.is_file.2) k.is_file.2)

  answered_at : (s : Schema) (all earlier : List Instance) (i : Instance) (later : List Instance) → AreAnswered s all (earlier ++ i ∷ later) → IsReferenceFault s (named_in all) i None
  answered_at s all [] i later h = All-head (λ x. IsReferenceFault s (named_in all) x None) i later h
  answered_at s all (x ∷ earlier) i later h = answered_at s all earlier i later (All-tail (λ x. IsReferenceFault s (named_in all) x None) x (earlier ++ i ∷ later) h)

  among_answered : (s : Schema) (all is earlier later : List Instance) (i : Instance) (k : FaultKind) → AreAnswered s all is → is ≡ earlier ++ i ∷ later → IsReferenceFault s (named_in all) i (Some k) → ⊥
  among_answered s all is earlier later i k h e f = some_apart k (laws.references s (named_in all) i (Some k) None f (answered_at s all earlier i later (subst (λ x. AreAnswered s all x) e h)))

  reference_same : (s : Schema) (all : List Instance) (f g : Fault) → IsFirstReferenceFault s all f → IsFirstReferenceFault s all g → f ≡ g
  reference_same s all f g h k = by_place (places h.earlier h.instance h.later k.earlier k.instance k.later (sym h.parts ∙ k.parts)) where
    by_place : Places h.earlier h.instance k.earlier k.instance → f ≡ g
    by_place (same d e) =
        let moved : IsReferenceFault s (named_in all) k.instance (Some f.kind) = subst (λ x. IsReferenceFault s (named_in all) x (Some f.kind)) e h.is_fault in
        fault_is f g (some_same f.kind g.kind (laws.references s (named_in all) k.instance (Some f.kind) (Some g.kind) moved k.is_fault)) (h.place ∙ (ap (λ x. x.at) e ∙ sym k.place))
    by_place (before m e) = absurd (among_answered s all k.earlier h.earlier m h.instance f.kind k.answered e h.is_fault)
    by_place (behind m e) = absurd (among_answered s all h.earlier k.earlier m k.instance g.kind h.answered e k.is_fault)

  reference_apart : (s : Schema) (is js : List Instance) (f : Fault) → is ≡ js → IsFirstReferenceFault s is f → AreAnswered s js js → ⊥
  reference_apart s is js f e h k =
      let r : IsFirstReferenceFault s js f = subst (λ x. IsFirstReferenceFault s x f) e h in
      among_answered s js js r.earlier r.later r.instance f.kind k r.parts r.is_fault

  pub reading_once : (s : Schema) (file : List ℕ) → HasOneReadingAtMost s file
  reading_once s file a b (reading.local {f} h) (reading.local {f = g} k) = ap Err (local_same s file f g h k)
  reading_once s file a b (reading.local {f} h) (reading.reference {is} {f = g} w k) = absurd (local_apart s file is f w h)
  reading_once s file a b (reading.local {f} h) (reading.read {is} w k) = absurd (local_apart s file is f w h)
  reading_once s file a b (reading.reference {is} {f} w h) (reading.local {f = g} k) = absurd (local_apart s file is g w k)
  reading_once s file a b (reading.reference {is} {f} w h) (reading.reference {is = js} {f = g} v k) =
      ap Err (reference_same s js f g (subst (λ x. IsFirstReferenceFault s x f) (instances_same s file is js w v) h) k)
  reading_once s file a b (reading.reference {is} {f} w h) (reading.read {is = js} v k) = absurd (reference_apart s is js f (instances_same s file is js w v) h k)
  reading_once s file a b (reading.read {is} w h) (reading.local {f = g} k) = absurd (local_apart s file is g w k)
  reading_once s file a b (reading.read {is} w h) (reading.reference {is = js} {f = g} v k) = absurd (reference_apart s js is g (instances_same s file js is v w) k h)
  reading_once s file a b (reading.read {is} w h) (reading.read {is = js} v k) = ap Ok (instances_same s file is js w v)

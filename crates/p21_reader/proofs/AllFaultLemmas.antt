-- All faults of a file begin with the fault of its reading.
use Rattle.std.proofs.Common.{◌≡◌, ℕ, List, [], ◌∷◌, ◌++◌, Some, None, Ok, Err, refl, sym, ap, subst, ◌∙◌, append_assoc, append-nil}
use Rattle.std.specs.Prelude.{Result}
use Rattle.std.proofs.lemmas.List.Elements.{All-nil, All-cons}
use Rattle.p21_text.specs.Tokens.{Placed}
use Rattle.p21_express.specs.Schema.{Schema}
use Rattle.p21_tree.specs.declared.faults.Fault.{Fault}
use Rattle.p21_tree.specs.Sentence.{Instance, Opening, IsInstances, deepest}
use Rattle.p21_tree.specs.Sentence as sentence
use Rattle.p21_check.specs.Header.{IsHeaderFault}
use Rattle.p21_check.specs.References.{IsReferenceFault, named_in}
use Rattle.p21_refs.specs.FirstReferenceFault.{AreAnswered, IsFirstReferenceFault}
use Rattle.p21_refs.specs.AllReferenceFaults.{AreReferenceFaults}
use Rattle.p21_refs.specs.AllReferenceFaults as reference
use Rattle.p21_reader.specs.GrammarOutcome.{FileBeginsWith, FileStopsBehind}
use Rattle.p21_reader.specs.InstanceFault.{IsInstanceFault, HaveNoFault}
use Rattle.p21_reader.specs.LocalFault.{IsLocalFaultOfFile, HasNoLocalFault}
use Rattle.p21_reader.specs.LocalFault as local
use Rattle.p21_reader.specs.Reading.{IsReading}
use Rattle.p21_reader.specs.Reading as reading
use Rattle.p21_reader.specs.AllFaults.{AreFaultsOf, AreInstanceFaults, AreAllFaults}
use Rattle.p21_reader.specs.AllFaults as faults
use Rattle.p21_reader.specs.Laws.{HasOneReadingAtMost}
use Rattle.p21_reader.specs.AllLaws.{BeginAReading, BeginWithAnswer, AllFaultsBeginWithReading, AllFaultsGiveReading}
use Rattle.p21_reader.proofs.FrontLemmas.{OneFirst, up_to_split, all_of_file}

-- References.

pub none_answered : (s : Schema) (all is : List Instance) (fs : List Fault) → AreReferenceFaults s all is fs → fs ≡ [] → AreAnswered s all is
none_answered s all _ _ reference.none e = All-nil (λ i. IsReferenceFault s (named_in all) i None)
none_answered s all _ fs (reference.answered {i} {is} h rest) e = All-cons (λ x. IsReferenceFault s (named_in all) x None) i is h (none_answered s all is fs rest e)
none_answered s all _ _ (reference.faulty h rest) e = absurd (cc)

-- the first instance at fault, and what stands before it
record FirstReference (s : Schema) (all is : List Instance) (f : Fault) : Type 0 where
  earlier : List Instance
  later : List Instance
  instance : Instance
  parts : is ≡ earlier ++ instance ∷ later
  answered : AreAnswered s all earlier
  is_fault : IsReferenceFault s (named_in all) instance (Some f.kind)
  place : f.at ≡ instance.at

first_reference : (s : Schema) (all is : List Instance) (fs rest : List Fault) (f : Fault) → AreReferenceFaults s all is fs → fs ≡ f ∷ rest → FirstReference s all is f
first_reference s all _ _ rest f reference.none e = absurd (cc)
first_reference s all _ fs rest f (reference.answered {i} {is} h others) e =
    let r = first_reference s all is fs rest f others e in record {
      earlier = i ∷ r.earlier;
      later = r.later;
      instance = r.instance;
      parts = ap (λ l. i ∷ l) r.parts;
      answered = All-cons (λ x. IsReferenceFault s (named_in all) x None) i r.earlier h r.answered;
      is_fault = r.is_fault;
      place = r.place;
    }
first_reference s all _ _ rest f (reference.faulty {i} {is} {fs} {kind} h others) e =
    let made : Fault = record { kind = kind; at = i.at } in
    let same : made ≡ f = cc in record {
      earlier = [];
      later = is;
      instance = i;
      parts = refl;
      answered = All-nil (λ x. IsReferenceFault s (named_in all) x None);
      is_fault = subst (λ k. IsReferenceFault s (named_in all) i (Some k)) (ap (λ x. x.kind) same) h;
      place = ap (λ x. x.at) (sym same);
    }

first_reference_fault : (s : Schema) (is : List Instance) (f : Fault) (rest : List Fault) → AreReferenceFaults s is is (f ∷ rest) → IsFirstReferenceFault s is f
first_reference_fault s is f rest h =
    let r = first_reference s is is (f ∷ rest) rest f h refl in
    record { earlier = r.earlier; later = r.later; instance = r.instance; parts = r.parts; answered = r.answered; is_fault = r.is_fault; place = r.place }

-- Instances by themselves.

none_faulty : (s : Schema) (earlier is : List Instance) (fs : List Fault) → AreFaultsOf (λ i. i) (IsInstanceFault s) earlier is fs → fs ≡ [] → (a later : List Instance) (i : Instance) → is ≡ a ++ i ∷ later → IsInstanceFault s (earlier ++ a) i None
none_faulty s earlier _ _ faults.none e [] later i p = absurd (cc)
none_faulty s earlier _ _ faults.none e (y ∷ a) later i p = absurd (cc)
none_faulty s earlier _ fs (faults.faultless {x} {xs} h rest) e [] later i p =
    let same : x ≡ i = cc in
    subst (λ l. IsInstanceFault s l i None) (sym (append-nil earlier)) (subst (λ y. IsInstanceFault s earlier y None) same h)
none_faulty s earlier _ fs (faults.faultless {x} {xs} h rest) e (y ∷ a) later i p =
    let same : x ≡ y = cc in
    let others : xs ≡ a ++ i ∷ later = cc in
    let behind : (earlier ++ x ∷ []) ++ a ≡ earlier ++ y ∷ a = append_assoc earlier (x ∷ []) a ∙ ap (λ z. earlier ++ z ∷ a) same in
    subst (λ l. IsInstanceFault s l i None) behind (none_faulty s (earlier ++ x ∷ []) xs fs rest e a later i others)
none_faulty s earlier _ _ (faults.faulty h rest) e a later i p = absurd (cc)

pub have_none : (s : Schema) (is : List Instance) (fs : List Fault) → AreInstanceFaults s is fs → fs ≡ [] → HaveNoFault s is
have_none s is fs h e earlier later i p = none_faulty s [] is fs h e earlier later i p

-- the first faulty instance, and what stands before it
record FirstFaulty (s : Schema) (before is : List Instance) (f : Fault) : Type 0 where
  earlier : List Instance
  later : List Instance
  instance : Instance
  parts : is ≡ earlier ++ instance ∷ later
  faultless : AreFaultsOf (λ i. i) (IsInstanceFault s) before earlier []
  is_fault : IsInstanceFault s (before ++ earlier) instance (Some f.kind)
  place : f.at ≡ instance.at

first_faulty : (s : Schema) (before is : List Instance) (fs rest : List Fault) (f : Fault) → AreFaultsOf (λ i. i) (IsInstanceFault s) before is fs → fs ≡ f ∷ rest → FirstFaulty s before is f
first_faulty s before _ _ rest f faults.none e = absurd (cc)
first_faulty s before _ fs rest f (faults.faultless {x} {xs} h others) e =
    let r = first_faulty s (before ++ x ∷ []) xs fs rest f others e in record {
      earlier = x ∷ r.earlier;
      later = r.later;
      instance = r.instance;
      parts = ap (λ l. x ∷ l) r.parts;
      faultless = faults.faultless h r.faultless;
      is_fault = subst (λ l. IsInstanceFault s l r.instance (Some f.kind)) (append_assoc before (x ∷ []) r.earlier) r.is_fault;
      place = r.place;
    }
first_faulty s before _ _ rest f (faults.faulty {x} {xs} {fs} {kind} h others) e =
    let made : Fault = record { kind = kind; at = x.at } in
    let same : made ≡ f = cc in record {
      earlier = [];
      later = xs;
      instance = x;
      parts = refl;
      faultless = faults.none;
      is_fault = subst (λ k. IsInstanceFault s (before ++ []) x (Some k)) (ap (λ y. y.kind) same) (subst (λ l. IsInstanceFault s l x (Some kind)) (sym (append-nil before)) h);
      place = ap (λ y. y.at) (sym same);
    }

-- The front of a file.

-- the tokens of some instances, and of those after them
instances_split : (body : List Placed) (is a b : List Instance) → IsInstances deepest body is → is ≡ a ++ b → (front : List Placed) × (behind : List Placed) × (body ≡ front ++ behind) × IsInstances deepest front a
instances_split body is [] b h e = ([], body, refl, sentence.none)
instances_split body is (i ∷ a) b sentence.none e = absurd (cc)
instances_split _ _ (i ∷ a) b (sentence.more us {rest} {i = j} {is = others} x xs) e =
    let same : j ≡ i = cc in
    let behind : others ≡ a ++ b = cc in
    let s = instances_split rest others a b xs behind in (
      us ++ s.0,
      s.1,
      ap (λ l. us ++ l) s.2 ∙ sym (append_assoc us s.0 s.1),
      subst (λ y. IsInstances deepest (us ++ s.0) (y ∷ a)) same (sentence.more us x s.3),
    )

begins_front : (file : List ℕ) (o : Opening) (is a b : List Instance) (place : ℕ) → FileBeginsWith file o is place → is ≡ a ++ b → (end : ℕ) × FileBeginsWith file o a end
begins_front file o is a b place h e =
    let s = instances_split h.body is a b h.are_instances e in
    let parts : h.opening ++ h.body ≡ (h.opening ++ s.0) ++ s.1 = ap (λ l. h.opening ++ l) s.2 ∙ sym (append_assoc h.opening s.0 s.1) in
    let t = up_to_split file 0 place (h.opening ++ s.0) s.1 (h.opening ++ h.body) h.tokens parts in
    (t.0, record { opening = h.opening; body = s.0; tokens = t.1; is_opening = h.is_opening; are_instances = s.3 })

begins_stop : (file : List ℕ) (o : Opening) (is : List Instance) (f : Fault) → FileStopsBehind file o is f → (place : ℕ) × FileBeginsWith file o is place
begins_stop file o is f h =
    let parts : h.opening ++ (h.body ++ h.front) ≡ (h.opening ++ h.body) ++ h.front = sym (append_assoc h.opening h.body h.front) in
    let t = up_to_split file 0 h.place (h.opening ++ h.body) h.front (h.opening ++ (h.body ++ h.front)) h.tokens parts in
    (t.0, record { opening = h.opening; body = h.body; tokens = t.1; is_opening = h.is_opening; are_instances = h.are_instances })

-- the first faulty instance of a file gives its local fault
pub local_first : (s : Schema) (file : List ℕ) (o : Opening) (is : List Instance) (place : ℕ) (f : Fault) (rest : List Fault) → FileBeginsWith file o is place → IsHeaderFault s o None → AreInstanceFaults s is (f ∷ rest) → IsLocalFaultOfFile s file f
local_first s file o is place f rest begins header h =
    let r = first_faulty s [] is (f ∷ rest) rest f h refl in
    let parts : is ≡ (r.earlier ++ r.instance ∷ []) ++ r.later = r.parts ∙ sym (append_assoc r.earlier (r.instance ∷ []) r.later) in
    let front = begins_front file o is (r.earlier ++ r.instance ∷ []) r.later place begins parts in
    let own : IsLocalFaultOfFile s file (record { kind = f.kind; at = r.instance.at }) = local.in_instance front.1 header (have_none s r.earlier [] r.faultless refl) r.is_fault in
    subst (λ a. IsLocalFaultOfFile s file (record { kind = f.kind; at = a })) (sym r.place) own

-- The law.

told_grammar : (s : Schema) (file : List ℕ) (o : Opening) (is : List Instance) (fs : List Fault) (f : Fault) → FileStopsBehind file o is f → IsHeaderFault s o None → AreInstanceFaults s is fs → BeginAReading s file (fs ++ f ∷ [])
told_grammar s file o is [] f stops header h = record { answer = Err f; is_reading = reading.local (local.behind_instances stops header (have_none s is [] h refl)); begins = refl }
told_grammar s file o is (g ∷ fs) f stops header h =
    let b = begins_stop file o is f stops in
    record { answer = Err g; is_reading = reading.local (local_first s file o is b.0 g fs b.1 header h); begins = refl }

told_references : (s : Schema) (file : List ℕ) (is : List Instance) (fs : List Fault) → HasNoLocalFault s file is → AreReferenceFaults s is is fs → BeginAReading s file fs
told_references s file is [] w h = record { answer = Ok is; is_reading = reading.read w (none_answered s is is [] h refl); begins = tt }
told_references s file is (f ∷ fs) w h = record { answer = Err f; is_reading = reading.reference w (first_reference_fault s is f fs h); begins = refl }

pub told : OneFirst → (s : Schema) (file : List ℕ) → AllFaultsGiveReading s file
told one s file _ (faults.before_instances {f} h) = record { answer = Err f; is_reading = reading.local (local.in_opening h); begins = refl }
told one s file _ (faults.up_to_grammar {o} {is} {fs} {f} stops header h) = told_grammar s file o is fs f stops header h
told one s file _ (faults.of_instances {o} {is} {f} {fs} whole header h) =
    let all = all_of_file one file o is whole in
    record { answer = Err f; is_reading = reading.local (local_first s file o is all.end f fs all.begins header h); begins = refl }
told one s file fs (faults.of_references {is} w h) = told_references s file is fs w h

pub begin_with_reading : OneFirst → (s : Schema) (file : List ℕ) → HasOneReadingAtMost s file → AllFaultsBeginWithReading s file
begin_with_reading first s file one fs answer h is_reading =
    let t = told first s file fs h in
    subst (BeginWithAnswer fs) (one t.answer answer t.is_reading is_reading) t.begins

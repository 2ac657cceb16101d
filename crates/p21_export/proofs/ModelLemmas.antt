-- The instances of a file that was read name entities, and lines that are written part by part.
use Rattle.std.proofs.Common.{◌≡◌, ◌⊎◌, ℕ, Bool, true, false, List, [], ◌∷◌, ◌++◌, Result, Ok, Err, Option, None, inl, inr, ◌+◌, ◌≤◌, length, take, drop, map, refl, sym, ap, subst, ◌∙◌, ⊎_elim, ◌*◌, arith}
use Rattle.std.specs.Prelude.{IfErr, OnOk}
use Rattle.std.specs.List.{AllByRecursion}
use Rattle.std.specs.Fork.{slice_chunk}
use Rattle.std.specs.Str.{bytes_eq}
use Rattle.std.proofs.lemmas.Bool.{false≢true}
use Rattle.std.specs.Io.KnownBytes.{Appends}
use Rattle.std.proofs.KnownBytes.{Appends-nil, Appends-trans}
use Rattle.std.proofs.lemmas.List.{append_assoc, append-nil, drop-drop, drop_all, map-append, take-append-drop}
use Rattle.std.proofs.lemmas.Slice.Eq.{bytes_eq-Decides}
use Rattle.p21_express.specs.Schema.{Schema, Entity}
use Rattle.p21_express.specs.WellFormed.{IsIn, IsEntity}
use Rattle.p21_tree.specs.Grammar.{Entry}
use Rattle.p21_tree.specs.declared.instances.RawInstance.{RawInstance}
use Rattle.p21_tree.specs.Sentence.{Instance}
use Rattle.p21_tree.specs.declared.faults.Fault.{Fault}
use Rattle.p21_reader.specs.Laws.{HasOneReadingAtMost}
use Rattle.p21_reader.specs.LocalFault.{IsLocalFaultOfFile, IsOpeningFault}
use Rattle.p21_tree.specs.Views.{plain_instance}
use Rattle.p21_tree.specs.declared.faults.FaultKind.TheVariants as kind
use Rattle.p21_reader.specs.InstanceFault.{HaveNoFault, IsInstanceFault}
use Rattle.p21_reader.specs.InstanceFault as fault
use Rattle.p21_reader.specs.Reading.{IsReading}
use Rattle.p21_reader.specs.Reading as reading
use Rattle.p21_json.specs.Instances.{AreKnown}
use Rattle.p21_json.specs.Lines.{AreLines}
use Rattle.p21_json.specs.Lines as lines
use Rattle.p21_run.specs.Due.{most_calls}
use Rattle.p21_run.specs.Run.{Change, IsTold}
use Rattle.p21_run.specs.declared.outcome.Outcome.{Outcome}
use Rattle.p21_run.specs.declared.input.InputError.{InputError}
use Rattle.p21_run.specs.declared.input.InputError.TheVariants as error
use Rattle.p21_export.specs.Export.{HasLongLines, IsLeft, IsLong}

by_test : (b : Bool) (n m : List ℕ) → bytes_eq n m ≡ b → (n ≡ m) ⊎ ¬ (n ≡ m)
by_test true n m e = inl ((bytes_eq-Decides n m).0 e)
by_test false n m e = inr (λ q. false≢true (sym e ∙ (bytes_eq-Decides n m).1 q))

decided : (ns : List (List ℕ)) (n : List ℕ) → IsIn ns n ⊎ ¬ (IsIn ns n)
decided [] n = inr (λ h. h)
decided (m ∷ ns) n =
    ⊎_elim
    (λ (same : m ≡ n). inl (inl same))
    (λ (other : ¬ (m ≡ n)). ⊎_elim (λ (h : IsIn ns n). inl (inr h)) (λ (no : ¬ (IsIn ns n)). inr (λ h. ⊎_elim other no h)) (decided ns n))
    (by_test (bytes_eq m n) m n refl)

is_there : (ns : List (List ℕ)) (n : List ℕ) → ¬ (¬ (IsIn ns n)) → IsIn ns n
is_there ns n h = ⊎_elim (λ (there : IsIn ns n). there) (λ (no : ¬ (IsIn ns n)). absurd (h no)) (decided ns n)

all_known : (s : Schema) (es : List Entry) → ((k : List ℕ) → IsIn (map (λ (e : Entry). e.keyword) es) k → IsEntity s k) → AreKnown s es
all_known s [] h = tt
all_known s (e ∷ es) h = (h e.keyword (inl refl), all_known s es (λ k i. h k (inr i)))

known_alone : (s : Schema) (earlier : List Instance) (i : Instance) → IsInstanceFault s earlier i None → AreKnown s i.records
known_alone s earlier i (fault.alone n own) =
    all_known s i.records (λ k h. is_there (map (λ (e : Entity). e.name) s.entities) k (λ no. own kind.UnknownEntity (record { keyword = k; written = h; unknown = no })))

known_from : (s : Schema) (all earlier later : List Instance) → all ≡ earlier ++ later → HaveNoFault s all → AllByRecursion (λ i. AreKnown s i.records) later
known_from s all earlier [] e h = tt
known_from s all earlier (i ∷ later) e h =
    (known_alone s earlier i (h earlier later i e), known_from s all (earlier ++ i ∷ []) later (e ∙ sym (append_assoc earlier (i ∷ []) later)) h)

-- the records of a file that was read name entities
pub known_read : (s : Schema) (file : List ℕ) (is : List Instance) → IsReading s file (Ok is) → AllByRecursion (λ i. AreKnown s i.records) is
known_read s file is (reading.read local answered) = known_from s is [] is refl local.faultless

-- lines, and lines after them
pub lines_then : (s : Schema) (is js : List Instance) (text more : List ℕ) → AreLines s is text → AreLines s js more → AreLines s (is ++ js) (text ++ more)
lines_then s [] js [] more lines.none k = k
lines_then s [] js (_ ∷ _) more h k = elim h [ ]
lines_then s (i ∷ is) js text more (lines.more {lines = rest} line l ls e) k =
    lines.more line l (lines_then s is js rest more ls k) (ap (λ (bs : List ℕ). bs ++ more) e ∙ append_assoc line rest more)

-- of some instances those before `left` were written, a line each
pub record WrittenUpTo (s : Schema) (start now : Option (List ℕ)) (all left : List Instance) : Type 0 where
  pub done : List Instance
  pub text : List ℕ
  pub parts : all ≡ done ++ left
  pub are : AreLines s done text
  pub taken : Appends start now text
  pub known : AllByRecursion (λ i. AreKnown s i.records) left

pub written_none : (s : Schema) (start : Option (List ℕ)) (all : List Instance) → AllByRecursion (λ i. AreKnown s i.records) all → WrittenUpTo s start start all all
written_none s start all h = record { done = []; text = []; parts = refl; are = lines.none; taken = Appends-nil start; known = h }

all_front : (P : Instance → Type 0) (is js : List Instance) → AllByRecursion P (is ++ js) → AllByRecursion P is
all_front P [] js h = tt
all_front P (i ∷ is) js h = (h.0, all_front P is js h.1)

all_back : (P : Instance → Type 0) (is js : List Instance) → AllByRecursion P (is ++ js) → AllByRecursion P js
all_back P [] js h = h
all_back P (i ∷ is) js h = all_back P is js h.1

split : (is : List RawInstance) (n : ℕ) → map plain_instance is ≡ map plain_instance (take n is) ++ map plain_instance (drop n is)
split is n = ap (map plain_instance) (sym (take-append-drop n is)) ∙ map-append plain_instance (take n is) (drop n is)

pub known_front : (s : Schema) (is : List RawInstance) (n : ℕ) → AllByRecursion (λ i. AreKnown s i.records) (map plain_instance is) → AllByRecursion (λ i. AreKnown s i.records) (map plain_instance (take n is))
known_front s is n h = all_front (λ i. AreKnown s i.records) (map plain_instance (take n is)) (map plain_instance (drop n is)) (subst (AllByRecursion (λ i. AreKnown s i.records)) (split is n) h)

pub written_more : (s : Schema) (a b c : Option (List ℕ)) (all : List Instance) (is : List RawInstance) (n : ℕ) (text : List ℕ) → WrittenUpTo s a b all (map plain_instance is) → AreLines s (map plain_instance (take n is)) text → Appends b c text → WrittenUpTo s a c all (map plain_instance (drop n is))
written_more s a b c all is n text w ls t = record {
  done = w.done ++ map plain_instance (take n is);
  text = w.text ++ text;
  parts = w.parts ∙ ap (λ l. w.done ++ l) (split is n) ∙ sym (append_assoc w.done (map plain_instance (take n is)) (map plain_instance (drop n is)));
  are = lines_then s w.done (map plain_instance (take n is)) w.text text w.are ls;
  taken = Appends-trans a b c w.text text w.taken t;
  known = all_back (λ i. AreKnown s i.records) (map plain_instance (take n is)) (map plain_instance (drop n is)) (subst (AllByRecursion (λ i. AreKnown s i.records)) (split is n) w.known);
}

-- the same by the places of the instances
pub written_at : (s : Schema) (a b c : Option (List ℕ)) (is part : List RawInstance) (start : ℕ) (text : List ℕ) → WrittenUpTo s a b (map plain_instance is) (map plain_instance (drop start is)) → part ≡ take (length part) (drop start is) → AreLines s (map plain_instance part) text → Appends b c text
    → WrittenUpTo s a c (map plain_instance is) (map plain_instance (drop (start + length part) is))
written_at s a b c is part start text w e ls t =
    let ls' = subst (λ (l : List RawInstance). AreLines s (map plain_instance l) text) e ls in
    subst (λ (l : List RawInstance). WrittenUpTo s a c (map plain_instance is) (map plain_instance l)) (drop-drop (length part) start is) (written_more s a b c (map plain_instance is) (drop start is) (length part) text w ls' t)

pub known_part : (s : Schema) (a b : Option (List ℕ)) (is part : List RawInstance) (start : ℕ) → WrittenUpTo s a b (map plain_instance is) (map plain_instance (drop start is)) → part ≡ take (length part) (drop start is) → AllByRecursion (λ i. AreKnown s i.records) (map plain_instance part)
known_part s a b is part start w e = subst (λ (l : List RawInstance). AllByRecursion (λ i. AreKnown s i.records) (map plain_instance l)) (sym e) (known_front s (drop start is) (length part) w.known)

pub written_all : (s : Schema) (a b : Option (List ℕ)) (is : List RawInstance) (start : ℕ) → WrittenUpTo s a b (map plain_instance is) (map plain_instance (drop start is)) → length is ≤ start → (text : List ℕ) × (AreLines s (map plain_instance is) text × Appends a b text)
written_all s a b is start w h =
    let same : map plain_instance is ≡ w.done = w.parts ∙ ap (λ (l : List RawInstance). w.done ++ map plain_instance l) (drop_all start is h) ∙ append-nil w.done in
    (w.text, (subst (λ l. AreLines s l w.text) (sym same) w.are, w.taken))

-- the instances of a part name entities
pub known_chunk : (s : Schema) (is : List RawInstance) (size n : ℕ) → AllByRecursion (λ i. AreKnown s i.records) (map plain_instance is) → AllByRecursion (λ i. AreKnown s i.records) (map plain_instance (slice_chunk is size n))
known_chunk s is size n h =
    known_front s (drop (n * size) is) size (all_back (λ i. AreKnown s i.records) (map plain_instance (take (n * size) is)) (map plain_instance (drop (n * size) is)) (subst (AllByRecursion (λ i. AreKnown s i.records)) (split is (n * size)) h))

-- of some instances the first parts were written
pub chunks_none : (s : Schema) (start : Option (List ℕ)) (is : List RawInstance) (size : ℕ) → AllByRecursion (λ i. AreKnown s i.records) (map plain_instance is) → WrittenUpTo s start start (map plain_instance is) (map plain_instance (drop (0 * size) is))
chunks_none s start is size h =
    let none : 0 ≡ 0 * size = omega arith in
    subst (λ (n : ℕ). WrittenUpTo s start start (map plain_instance is) (map plain_instance (drop n is))) none (written_none s start (map plain_instance is) h)

-- and one part further
pub chunks_more : (s : Schema) (a b c : Option (List ℕ)) (is : List RawInstance) (size i : ℕ) (text : List ℕ) → WrittenUpTo s a b (map plain_instance is) (map plain_instance (drop (i * size) is)) → AreLines s (map plain_instance (slice_chunk is size i)) text → Appends b c text
    → WrittenUpTo s a c (map plain_instance is) (map plain_instance (drop ((i + 1) * size) is))
chunks_more s a b c is size i text w ls t =
    let next : i * size + size ≡ (i + 1) * size = omega arith in
    subst (λ (l : List RawInstance). WrittenUpTo s a c (map plain_instance is) (map plain_instance l)) (drop-drop size (i * size) is ∙ ap (λ (n : ℕ). drop n is) next) (written_more s a b c (map plain_instance is) (drop (i * size) is) size text w ls t)

-- ---- lines that are long

whole_assoc : (a b c d e : List Instance) → a ++ ((b ++ (c ++ d)) ++ e) ≡ (a ++ b) ++ (c ++ (d ++ e))
whole_assoc a b c d e = simp append_assoc

-- lines of some instances that are long
pub long_whole : (s : Schema) (is : List Instance) (text : List ℕ) → AreLines s is text → most_calls ≤ length text → HasLongLines s is
long_whole s is text are long = record { before = []; part = is; behind = []; parts = sym (append-nil is); lines = text; are_lines = are; long = long }

-- long lines of a part are ones of the whole
pub long_part : (s : Schema) (is : List RawInstance) (start len : ℕ) → HasLongLines s (map plain_instance (take len (drop start is))) → HasLongLines s (map plain_instance is)
long_part s is start len h =
    let front = map plain_instance (take start is) in
    let back = map plain_instance (drop len (drop start is)) in
    record {
      before = front ++ h.before;
      part = h.part;
      behind = h.behind ++ back;
      parts = split is start ∙ ap (λ (l : List Instance). front ++ l) (split (drop start is) len ∙ ap (λ (l : List Instance). l ++ back) h.parts) ∙ whole_assoc front h.before h.part h.behind back;
      lines = h.lines;
      are_lines = h.are_lines;
      long = h.long;
    }

pub long_chunk : (s : Schema) (is : List RawInstance) (size n : ℕ) (text : List ℕ) → AreLines s (map plain_instance (slice_chunk is size n)) text → most_calls ≤ length text → HasLongLines s (map plain_instance is)
long_chunk s is size n text are long = long_part s is (n * size) size (long_whole s (map plain_instance (slice_chunk is size n)) text are long)

-- ---- what stands before the instances

pub ok_both : {T E : Type 0} (A B : Type 0) (r : Result T E) → OnOk r A → OnOk r B → OnOk r (A × B)
ok_both A B (Ok x) a b = (a, b)
ok_both A B (Err e) a b = tt

abbrev failure : {T E : Type 0} → Result T E → E → E
failure (Ok x) other = other
failure (Err e) other = e

-- the writer is left so where a call of the last writer's fails
pub left_of : {T K : Type 0} (failed marked : K → Bool) (s : Schema) (file : List ℕ) (old mid new : K) (r : Result T InputError) → failed mid ≡ failed old → (failed mid ≡ false → failed new ≡ true → r ≡ Err error.Device) → IfErr r (λ e. e ≡ error.Device → marked new ≡ false → IsLong s file) → IfErr r (IsLeft failed marked s file old new)
left_of failed marked s file old mid new (Ok x) same fails why = tt
left_of failed marked s file old mid new (Err e) same fails why = record { failing = λ was is. ap (λ r. failure r e) (fails (same ∙ was) is); why = why }

pub on_err : {T E : Type 0} {P Q : E → Type 0} (r : Result T E) → ((e : E) → P e → Q e) → IfErr r P → IfErr r Q
on_err (Ok x) f holds = holds
on_err (Err e) f holds = f e holds

ok_err : {T E : Type 0} {x : T} {e : E} → ◌≡◌ {A = Result T E} (Ok x) (Err e) → ⊥
ok_err e = cc

-- a file with a model has no fault before its instances
pub no_opening_fault : (s : Schema) (file : List ℕ) (is : List Instance) (f : Fault) → HasOneReadingAtMost s file → IsReading s file (Ok is) → IsOpeningFault s file f → ⊥
no_opening_fault s file is f one whole bad = ok_err (one (Ok is) (Err f) whole (reading.local (IsLocalFaultOfFile.in_opening bad)))

-- what is told of a text is told of an equal one
pub told_of : {K : Type 0} {out : Change K} {a b : List ℕ} {due o : Outcome} → a ≡ b → IsTold out a due o → IsTold out b due o
told_of {K} {out} {a} {b} {due} {o} e told = subst (λ x. IsTold out x due o) e told

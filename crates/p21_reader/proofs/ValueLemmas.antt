-- What the values of pieces say of a file.
use Rattle.std.proofs.Common.{◌≡◌, ℕ, ◌+◌, List, [], ◌∷◌, ◌++◌, Option, Some, None, Ok, Err, map, refl, sym, subst, ◌∙◌, append_assoc, append-nil}
use Rattle.std.specs.Prelude.{Result}
use Rattle.std.specs.List.{AllZip}
use Rattle.std.proofs.lemmas.List.{map-append}
use Rattle.p21_express.specs.Schema.{Schema}
use Rattle.p21_tree.specs.declared.faults.Fault.{Fault}
use Rattle.p21_tree.specs.declared.faults.FaultKind.{FaultKind}
use Rattle.p21_tree.specs.declared.pieces.Piece.{Piece}
use Rattle.p21_tree.specs.Sentence.{Instance, Opening}
use Rattle.p21_cut.specs.Pieces.{IsNext, PiecesAre}
use Rattle.p21_cut.specs.Pieces as cut
use Rattle.p21_cut.specs.Cutter.{plain_piece}
use Rattle.p21_check.specs.Header.{IsHeaderFault}
use Rattle.p21_check.specs.LocalFault.{IsLocalFault}
use Rattle.p21_reader.specs.InstanceFault.{IsFaultAmong, IsInstanceFault}
use Rattle.p21_reader.specs.InstanceFault as fault
use Rattle.p21_reader.specs.declared.stop.Stop.{Stop}
use Rattle.p21_reader.specs.declared.stop.Stop.TheVariants as stop
use Rattle.p21_reader.specs.GrammarOutcome.{FileStopsBehind}
use Rattle.p21_reader.specs.LocalFault.{IsLocalFaultOfFile}
use Rattle.p21_reader.specs.LocalFault as local
use Rattle.p21_reader.specs.Reading.{IsReading}
use Rattle.p21_reader.specs.Reading as reading
use Rattle.p21_reader.specs.Steps.{AddsValue, EndsBehind, IsReadUpTo, OnFault}
use Rattle.p21_reader.specs.Values.{Whole, Value, grammar, whole, IsJudged, instances_in, IsCarriedFault, CarryNoFault, IsValueFault, HaveInstances, IsAnswerTo}
use Rattle.p21_reader.specs.Values as values
use Rattle.p21_reader.specs.declared.judged.Judged.{Judged}
use Rattle.p21_reader.specs.Judged.{value_of}
use Rattle.p21_reader.specs.PiecesOf as pieces
use Rattle.p21_reader.specs.ReadingBy as by
use Rattle.p21_reader.specs.Laws.{LocalReadingIsReading, ValuesGiveReading}
use Rattle.p21_reader.proofs.ReadLemmas.{PartLaws, begins_opening, begins_on, none_faultless, piece_stops, read_on, file_read, tail_fault}

-- by what an instance has by itself in truth
pub carried : (s : Schema) (earlier : List Instance) (w : Whole) (k : Option FaultKind) → IsLocalFault s w.instance w.own → IsCarriedFault earlier w k → IsInstanceFault s earlier w.instance k
carried s earlier w k own (fault.repeated r) = fault.repeated r
carried s earlier w k own (fault.alone n e) = fault.alone n (subst (IsLocalFault s w.instance) (sym e) own)

-- a value's fault is the file's, where the file is read up to its piece
pub value_fault : PartLaws → (s : Schema) (file : List ℕ) (o : Opening) (is : List Instance) (place number next : ℕ) (p : Piece) (v : Value) (f : Fault) → IsReadUpTo s file o is place → IsHeaderFault s o None → IsNext file place number (plain_piece p) next
    → IsJudged s p v → IsValueFault is v f → IsLocalFaultOfFile s file f
value_fault laws s file o is place number next p (grammar g) f r x n h e = local.behind_instances (subst (FileStopsBehind file o is) (sym e) (piece_stops laws file o is place number next p g r.begins n h)) x r.faultless
value_fault laws s file o is place number next p (whole w) f r x n h k =
    let own : IsLocalFaultOfFile s file (record { kind = f.kind; at = w.instance.at }) = local.in_instance (begins_on laws file o is place number next p w.instance r.begins n h.0) x r.faultless (carried s is w (Some f.kind) h.1 k.0) in
    subst (λ a. IsLocalFaultOfFile s file (record { kind = f.kind; at = a })) (sym k.1) own

-- what a reading knows after one value more
pub value_read : PartLaws → (s : Schema) (file : List ℕ) (o : Opening) (old new : List Instance) (place number next : ℕ) (p : Piece) (v : Value) → IsReadUpTo s file o old place → IsNext file place number (plain_piece p) next → IsJudged s p v → AddsValue old v (Ok tt) new → IsReadUpTo s file o new next
value_read laws s file o old new place number next p v r n h a =
    let w : Whole = a.0 in
    let own : IsJudged s p (whole w) = subst (IsJudged s p) a.1 h in
    subst (λ l. IsReadUpTo s file o l next) (sym a.3) (read_on laws s file o old place number next p w.instance r n own.0 (carried s old w None own.1 a.2))

-- what a value that was not joined says of the file
pub value_stops : PartLaws → (s : Schema) (file : List ℕ) (o : Opening) (old new : List Instance) (place number next : ℕ) (p : Piece) (v : Value) (e : Stop) → IsReadUpTo s file o old place → IsHeaderFault s o None → IsNext file place number (plain_piece p) next
    → IsJudged s p v → AddsValue old v (Err e) new → OnFault e (IsLocalFaultOfFile s file)
value_stops laws s file o old new place number next p v (stop.Fault f) r x n h a = value_fault laws s file o old place number next p v f r x n h a
value_stops laws s file o old new place number next p v stop.Memory r x n h a = tt

-- A file is read up to a place, and from there on these are its pieces and their values.
record Left (s : Schema) (file : List ℕ) (o : Opening) (end : ℕ) (is : List Instance) (rest : List Value) : Type 0 where
  place : ℕ
  number : ℕ
  pieces : List Piece
  read : IsReadUpTo s file o is place
  are : PiecesAre file place number (map plain_piece pieces) end
  judged : AllZip (IsJudged s) pieces rest

-- the first of them, and what is left after it
pub record Next (s : Schema) (file : List ℕ) (end place number : ℕ) (v : Value) (rest : List Value) : Type 0 where
  pub piece : Piece
  pub next : ℕ
  pub pieces : List Piece
  pub is_next : IsNext file place number (plain_piece piece) next
  pub own : IsJudged s piece v
  pub are : PiecesAre file next (number + 1) (map plain_piece pieces) end
  pub judged : AllZip (IsJudged s) pieces rest

pub next_of : (s : Schema) (file : List ℕ) (end place number : ℕ) (v : Value) (rest : List Value) (ps : List Piece) → PiecesAre file place number (map plain_piece ps) end → AllZip (IsJudged s) ps (v ∷ rest) → Next s file end place number v rest
next_of s file end place number v rest [] are judged = absurd judged
next_of s file end place number v rest (p ∷ ps) (cut.piece {next = after} n others) judged = record { piece = p; next = after; pieces = ps; is_next = n; own = judged.0; are = others; judged = judged.1 }

left_behind : PartLaws → (s : Schema) (file : List ℕ) (o : Opening) (end : ℕ) (earlier ws : List Whole) (rest : List Value) → CarryNoFault (earlier ++ ws) → Left s file o end (instances_in earlier) (map whole ws ++ rest) → Left s file o end (instances_in (earlier ++ ws)) rest
left_behind laws s file o end earlier [] rest clean h = subst (λ l. Left s file o end (instances_in l) rest) (sym (append-nil earlier)) h
left_behind laws s file o end earlier (w ∷ ws) rest clean h =
    let n = next_of s file end h.place h.number (whole w) (map whole ws ++ rest) h.pieces h.are h.judged in
    let own : IsInstanceFault s (instances_in earlier) w.instance None = carried s (instances_in earlier) w None n.own.1 (clean earlier ws w refl) in
    let read : IsReadUpTo s file o (instances_in earlier ++ w.instance ∷ []) n.next = read_on laws s file o (instances_in earlier) h.place h.number n.next n.piece w.instance h.read n.is_next n.own.0 own in
    let more : instances_in earlier ++ w.instance ∷ [] ≡ instances_in (earlier ++ w ∷ []) = sym (map-append (λ (x : Whole). x.instance) earlier (w ∷ [])) in
    let same : (earlier ++ w ∷ []) ++ ws ≡ earlier ++ w ∷ ws = append_assoc earlier (w ∷ []) ws in
    let behind : Left s file o end (instances_in (earlier ++ w ∷ [])) (map whole ws ++ rest) = record { place = n.next; number = h.number + 1; pieces = n.pieces; read = subst (λ l. IsReadUpTo s file o l n.next) more read; are = n.are; judged = n.judged } in
    subst (λ l. Left s file o end (instances_in l) rest) same (left_behind laws s file o end (earlier ++ w ∷ []) ws rest (subst CarryNoFault (sym same) clean) behind)

-- all pieces are read
ended : (s : Schema) (file : List ℕ) (o : Opening) (end place number : ℕ) (is : List Instance) (ps : List Piece) → IsReadUpTo s file o is place → PiecesAre file place number (map plain_piece ps) end → AllZip (IsJudged s) ps [] → EndsBehind s file o is end
ended s file o end place number is [] read are judged = (place, number, read, are)
ended s file o end place number is (p ∷ ps) read are judged = absurd judged

pub values_read : PartLaws → (s : Schema) (file : List ℕ) → ValuesGiveReading s file
values_read laws s file o ps end vs answer begins header are judged h = by_answer answer h where
  left : (ws : List Whole) (rest : List Value) → CarryNoFault ws → vs ≡ map whole ws ++ rest → Left s file o end (instances_in ws) rest
  left ws rest clean e =
      left_behind laws s file o end [] ws rest clean (record { place = o.data_at; number = 0; pieces = ps; read = record { begins = begins_opening file o begins; faultless = none_faultless s }; are = are; judged = subst (AllZip (IsJudged s) ps) e judged })

  whole_end : (is : List Instance) → HaveInstances vs is → EndsBehind s file o is end
  whole_end is v =
      let l = left v.wholes [] v.faultless (v.are ∙ sym (append-nil (map whole v.wholes))) in
      subst (λ x. EndsBehind s file o x end) (sym v.instances) (ended s file o end l.place l.number (instances_in v.wholes) l.pieces l.read l.are l.judged)

  by_answer : (a : Result (List Instance) Fault) → IsAnswerTo s file end vs a → IsReading s file a
  by_answer _ (values.value {f} v) =
      let l = left v.earlier (v.value ∷ v.later) v.faultless v.parts in
      let n = next_of s file end l.place l.number v.value v.later l.pieces l.are l.judged in
      reading.local (value_fault laws s file o (instances_in v.earlier) l.place l.number n.next n.piece v.value f l.read header n.is_next n.own v.is_fault)
  by_answer _ (values.tail {is} {f} v t) = reading.local (tail_fault laws s file o is end f (whole_end is v) header t)
  by_answer _ (values.reference {is} {f} v t r) = reading.reference (file_read laws s file o is end (whole_end is v) header t) r
  by_answer _ (values.read {is} v t r) = reading.read (file_read laws s file o is end (whole_end is v) header t) r

judged_values : (s : Schema) (ps : List Piece) (js : List Judged) → AllZip (λ p j. IsJudged s p (value_of j)) ps js → AllZip (IsJudged s) ps (map value_of js)
judged_values s [] [] h = tt
judged_values s [] (j ∷ js) h = absurd h
judged_values s (p ∷ ps) [] h = absurd h
judged_values s (p ∷ ps) (j ∷ js) h = (h.0, judged_values s ps js h.1)

pub local_reading : PartLaws → (s : Schema) (file : List ℕ) → LocalReadingIsReading s file
local_reading laws s file _ _ (by.before_instances {f} h) = (reading.local (local.in_opening h), pieces.none h)
local_reading laws s file ps answer (by.by_pieces {o} {end} js begins header are said h) =
    (values_read laws s file o ps end (map value_of js) answer begins header are (judged_values s ps js said) h, pieces.behind_preface begins header are)

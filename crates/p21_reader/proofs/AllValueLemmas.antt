-- What the values of pieces say of all faults of a file.
use Rattle.std.proofs.Common.{◌≡◌, ◌≢◌, ℕ, ◌+◌, List, [], ◌∷◌, ◌++◌, Option, Some, None, map, refl, sym, subst, ◌∙◌, append_assoc, append-nil}
use Rattle.std.specs.Prelude.{Result}
use Rattle.std.specs.List.{AllZip}
use Rattle.std.proofs.lemmas.List.{map-append}
use Rattle.p21_express.specs.Schema.{Schema}
use Rattle.p21_tree.specs.declared.faults.Fault.{Fault}
use Rattle.p21_tree.specs.declared.faults.FaultKind.{FaultKind}
use Rattle.p21_tree.specs.declared.pieces.Piece.{Piece}
use Rattle.p21_tree.specs.Sentence.{Instance, Opening}
use Rattle.p21_tree.specs.Texts.{IsFileText, HasTail}
use Rattle.p21_cut.specs.Pieces.{PiecesAre}
use Rattle.p21_cut.specs.Cutter.{plain_piece}
use Rattle.p21_check.specs.Header.{IsHeaderFault}
use Rattle.p21_reader.specs.GrammarOutcome.{FileBeginsWith}
use Rattle.p21_reader.specs.InstanceFault.{IsInstanceFault}
use Rattle.p21_reader.specs.LocalFault.{HasNoLocalFault}
use Rattle.p21_reader.specs.Reading as reading
use Rattle.p21_reader.specs.Values.{Whole, Value, grammar, whole, IsJudged, instances_in, IsCarriedFault, CarryNoFault, HaveInstances}
use Rattle.p21_reader.specs.AllFaults.{AreFaultsOf, AreInstanceFaults, AreAllFaults, IsReadingWithAll}
use Rattle.p21_reader.specs.AllFaults as faults
use Rattle.p21_reader.specs.AllByValues.{AreCarriedFaults, AreFaultsOfValues, IsAllAnswerTo}
use Rattle.p21_reader.specs.AllByValues as by
use Rattle.p21_reader.specs.AllLaws.{ValuesGiveAllFaults}
use Rattle.p21_reader.proofs.ReadLemmas.{PartLaws, begins_opening, begins_on, piece_stops, tail_whole, tail_stops}
use Rattle.p21_reader.proofs.ValueLemmas.{next_of, carried}
use Rattle.p21_reader.proofs.AllFaultLemmas.{have_none, none_answered}

-- A file begins with instances, faulty or not, and from there on these are its pieces and their values.
record Left (s : Schema) (file : List ℕ) (o : Opening) (end : ℕ) (is : List Instance) (rest : List Value) : Type 0 where
  place : ℕ
  number : ℕ
  pieces : List Piece
  begins : FileBeginsWith file o is place
  are : PiecesAre file place number (map plain_piece pieces) end
  judged : AllZip (IsJudged s) pieces rest

-- what is left after a whole value
left_one : PartLaws → (s : Schema) (file : List ℕ) (o : Opening) (end : ℕ) (is : List Instance) (w : Whole) (rest : List Value) → Left s file o end is (whole w ∷ rest) → Left s file o end (is ++ w.instance ∷ []) rest
left_one laws s file o end is w rest h =
    let n = next_of s file end h.place h.number (whole w) rest h.pieces h.are h.judged in
    record { place = n.next; number = h.number + 1; pieces = n.pieces; begins = begins_on laws file o is h.place h.number n.next n.piece w.instance h.begins n.is_next n.own.0; are = n.are; judged = n.judged }

-- what the first of them has by itself
own_one : (s : Schema) (file : List ℕ) (o : Opening) (end : ℕ) (is : List Instance) (w : Whole) (rest : List Value) (k : Option FaultKind) → Left s file o end is (whole w ∷ rest) → IsCarriedFault is w k → IsInstanceFault s is w.instance k
own_one s file o end is w rest k h own =
    let n = next_of s file end h.place h.number (whole w) rest h.pieces h.are h.judged in
    carried s is w k n.own.1 own

-- after whole values, and the faults of their instances
record Behind (s : Schema) (file : List ℕ) (o : Opening) (end : ℕ) (earlier : List Instance) (ws : List Whole) (rest : List Value) (fs : List Fault) : Type 0 where
  left : Left s file o end (earlier ++ instances_in ws) rest
  are : AreFaultsOf (λ i. i) (IsInstanceFault s) earlier (instances_in ws) fs

left_behind : PartLaws → (s : Schema) (file : List ℕ) (o : Opening) (end : ℕ) (earlier : List Instance) (ws : List Whole) (rest : List Value) (fs : List Fault) → AreFaultsOf (λ w. w.instance) IsCarriedFault earlier ws fs
    → Left s file o end earlier (map whole ws ++ rest) → Behind s file o end earlier ws rest fs
left_behind laws s file o end earlier _ rest _ faults.none h = record { left = subst (λ l. Left s file o end l rest) (sym (append-nil earlier)) h; are = faults.none }
left_behind laws s file o end earlier _ rest fs (faults.faultless {x} {xs} own others) h =
    let b = left_behind laws s file o end (earlier ++ x.instance ∷ []) xs rest fs others (left_one laws s file o end earlier x (map whole xs ++ rest) h) in record {
      left = subst (λ l. Left s file o end l rest) (append_assoc earlier (x.instance ∷ []) (instances_in xs)) b.left;
      are = faults.faultless (own_one s file o end earlier x (map whole xs ++ rest) None h own) b.are;
    }
left_behind laws s file o end earlier _ rest _ (faults.faulty {x} {xs} {fs} {kind} own others) h =
    let b = left_behind laws s file o end (earlier ++ x.instance ∷ []) xs rest fs others (left_one laws s file o end earlier x (map whole xs ++ rest) h) in record {
      left = subst (λ l. Left s file o end l rest) (append_assoc earlier (x.instance ∷ []) (instances_in xs)) b.left;
      are = faults.faulty (own_one s file o end earlier x (map whole xs ++ rest) (Some kind) h own) b.are;
    }

-- all pieces are read
ended : (s : Schema) (file : List ℕ) (end place number : ℕ) (ps : List Piece) → PiecesAre file place number (map plain_piece ps) end → AllZip (IsJudged s) ps [] → PiecesAre file place number [] end
ended s file end place number [] are judged = are
ended s file end place number (p ∷ ps) are judged = absurd judged

-- whole values of which none has a fault
none_carried : (before ws : List Whole) → CarryNoFault (before ++ ws) → AreFaultsOf (λ (w : Whole). w.instance) IsCarriedFault (instances_in before) ws []
none_carried before [] clean = faults.none
none_carried before (w ∷ ws) clean =
    let parts : (before ++ w ∷ []) ++ ws ≡ before ++ w ∷ ws = append_assoc before (w ∷ []) ws in
    let more : instances_in (before ++ w ∷ []) ≡ instances_in before ++ w.instance ∷ [] = map-append (λ (x : Whole). x.instance) before (w ∷ []) in
    let rest = none_carried (before ++ w ∷ []) ws (subst CarryNoFault (sym parts) clean) in
    faults.faultless (clean before ws w refl) (subst (λ l. AreFaultsOf (λ (x : Whole). x.instance) IsCarriedFault l ws []) more rest)

pub carry_none : (ws : List Whole) → CarryNoFault ws → AreCarriedFaults ws []
carry_none ws clean = none_carried [] ws clean

module _ (laws : PartLaws) (s : Schema) (file : List ℕ) (o : Opening) (ps : List Piece) (end : ℕ) (vs : List Value) where
  -- the pieces of the file and their values
  record Given : Type 0 where
    begins : FileBeginsWith file o [] o.data_at
    header : IsHeaderFault s o None
    are : PiecesAre file o.data_at 0 (map plain_piece ps) end
    judged : AllZip (IsJudged s) ps vs

  left_of : Given → (ws : List Whole) (rest : List Value) (gs : List Fault) → AreCarriedFaults ws gs → vs ≡ map whole ws ++ rest → Behind s file o end [] ws rest gs
  left_of given ws rest gs carried e =
      left_behind laws s file o end [] ws rest gs carried (record { place = o.data_at; number = 0; pieces = ps; begins = given.begins; are = given.are; judged = subst (AllZip (IsJudged s) ps) e given.judged })

  whole_of : Given → (ws : List Whole) (gs : List Fault) → AreCarriedFaults ws gs → vs ≡ map whole ws → HasTail file end → IsFileText file o (instances_in ws) × AreInstanceFaults s (instances_in ws) gs
  whole_of given ws gs carried e t =
      let b = left_of given ws [] gs carried (e ∙ sym (append-nil (map whole ws))) in
      let l = b.left in
      (tail_whole laws file o (instances_in ws) l.place l.number end l.begins (ended s file end l.place l.number l.pieces l.are l.judged) t, b.are)

  some_of_whole : Given → (is : List Instance) (gs : List Fault) → IsFileText file o is × AreInstanceFaults s is gs → gs ≢ [] → AreAllFaults s file gs
  some_of_whole given is [] h some = absurd (some refl)
  some_of_whole given is (g ∷ gs) h some = faults.of_instances h.0 given.header h.1

  by_values : Given → (gs : List Fault) → AreFaultsOfValues file end vs gs → gs ≢ [] → AreAllFaults s file gs
  by_values given _ (by.up_to_value f later {ws} {fs = gs} e carried) some =
      let b = left_of given ws (grammar f ∷ later) gs carried e in
      let l = b.left in
      let n = next_of s file end l.place l.number (grammar f) later l.pieces l.are l.judged in
      faults.up_to_grammar (piece_stops laws file o (instances_in ws) l.place l.number n.next n.piece f l.begins n.is_next n.own) given.header b.are
  by_values given _ (by.up_to_tail {ws} {f} {fs = gs} e carried t) some =
      let b = left_of given ws [] gs carried (e ∙ sym (append-nil (map whole ws))) in
      let l = b.left in
      faults.up_to_grammar (tail_stops laws file o (instances_in ws) l.place l.number end f l.begins (ended s file end l.place l.number l.pieces l.are l.judged) t) given.header b.are
  by_values given gs (by.of_wholes {ws} e carried t) some = some_of_whole given (instances_in ws) gs (whole_of given ws gs carried e t) some

  no_local : Given → (is : List Instance) → HaveInstances vs is → HasTail file end → HasNoLocalFault s file is
  no_local given is v t =
      let h = whole_of given v.wholes [] (carry_none v.wholes v.faultless) v.are t in
      subst (HasNoLocalFault s file) (sym v.instances) (record { opening = o; is_file = h.0; header = given.header; faultless = have_none s (instances_in v.wholes) [] h.1 refl })

  by_answer : Given → (answer : Result (List Instance) (List Fault)) → IsAllAnswerTo s file end vs answer → IsReadingWithAll s file answer
  by_answer given _ (by.values {fs} h some) = (by_values given fs h some, some)
  by_answer given _ (by.references {is} {fs} v t h some) = (faults.of_references (no_local given is v t) h, some)
  by_answer given _ (by.read {is} v t h) = let none = no_local given is v t in (faults.of_references none h, reading.read none (none_answered s is is [] h refl))

pub values_give_all : PartLaws → (s : Schema) (file : List ℕ) → ValuesGiveAllFaults s file
values_give_all laws s file o ps end vs answer begins header are judged h =
    by_answer laws s file o ps end vs (record { begins = begins_opening file o begins; header = header; are = are; judged = judged }) answer h

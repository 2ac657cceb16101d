-- Lemmas on what the workers of lanes say of the pieces of a file.
use Rattle.std.proofs.Common.{◌≡◌, ℕ, List, [], ◌∷◌, ◌++◌, Option, None, Result, Ok, Err, IfOk, map, refl, sym, ap, subst, ◌∙◌, append_assoc}
use Rattle.std.specs.List.{AllZip}
use Rattle.std.proofs.lemmas.List.Elements.{All-nil, All-cons}
use Rattle.p21_express.specs.Schema.{Schema}
use Rattle.p21_schema.specs.declared.ids.EntityId.{EntityId}
use Rattle.p21_tree.specs.declared.faults.Fault.{Fault}
use Rattle.p21_tree.specs.declared.faults.FaultKind.{FaultKind}
use Rattle.p21_tree.specs.declared.pieces.Piece.{Piece}
use Rattle.p21_tree.specs.Sentence.{Instance}
use Rattle.p21_tree.specs.Views.{plain_instance}
use Rattle.p21_cut.specs.Cutter.{plain_piece}
use Rattle.p21_check.specs.EntityOf.{AreSimpleEntities, IsSimpleEntity}
use Rattle.p21_check.specs.LocalFault.{IsLocalFault}
use Rattle.p21_refs.specs.FirstReferenceFault.{AreSound}
use Rattle.p21_reader.specs.declared.judged.Judged.{Judged}
use Rattle.p21_reader.specs.declared.judged.Judged.TheVariants as judged
use Rattle.p21_reader.specs.declared.judged.Judgement.{Judgement}
use Rattle.p21_reader.specs.InstanceFault.{IsFaultAmong, repeated, alone}
use Rattle.p21_reader.specs.Judged.{HasOwnEntity, value_of, values_of, entities_of}
use Rattle.p21_reader.specs.declared.reading.Reading.{Reading}
use Rattle.p21_reader.specs.declared.reading.ReadError.{ReadError}
use Rattle.p21_reader.specs.declared.stop.Stop.{Stop}
use Rattle.p21_reader.specs.declared.stop.Stop.TheVariants as stop
use Rattle.p21_reader.specs.Answer.{plain_answer}
use Rattle.p21_reader.specs.Lanes.{AnswersReturned, IsStated, FindsEachFault, IsReadBy, JudgesLocally, PiecesAreDealt, SaysLocally}
use Rattle.p21_reader.specs.Lanes as dealing
use Rattle.p21_reader.specs.Laws.{LocalReadingIsReading}
use Rattle.p21_reader.specs.LocalFault.{IsOpeningFault}
use Rattle.p21_reader.specs.Reading.{IsReading}
use Rattle.p21_reader.specs.PiecesOf.{ArePiecesOf}
use Rattle.p21_reader.specs.PiecesOf as pieces
use Rattle.p21_reader.specs.ReadingBy.{IsReadingBy, before_instances, by_pieces}
use Rattle.p21_reader.specs.Steps.{OnFault}
use Rattle.p21_reader.specs.Stopped.{IsStopped}
use Rattle.p21_reader.specs.Values.{Whole, whole, instances_in, CarryNoFault, HaveInstances}

-- the whole instances are said to have no fault by themselves
abbrev OwnNone : List Whole → Type 0
OwnNone [] = Unit {0}
OwnNone (w ∷ ws) = (w.own ≡ None) × OwnNone ws

own_none : (earlier : List Instance) (w : Whole) (fault : Option FaultKind) → IsFaultAmong (λ own. own ≡ w.own) earlier w.instance fault → fault ≡ None → w.own ≡ None
own_none earlier w fault (repeated again) none = cc
own_none earlier w fault (alone new own) none = sym own ∙ none

own_none_from : (before ws : List Whole) → CarryNoFault (before ++ ws) → OwnNone ws
own_none_from before [] faultless = tt
own_none_from before (w ∷ ws) faultless =
    let here = own_none (instances_in before) w None (faultless before ws w refl) refl in
    let parts : (before ++ w ∷ []) ++ ws ≡ before ++ w ∷ ws = append_assoc before (w ∷ []) ws in
    let rest : CarryNoFault ((before ++ w ∷ []) ++ ws) = subst (λ (vs : List Whole). CarryNoFault vs) (sym parts) faultless in
    (here, own_none_from (before ++ w ∷ []) ws rest)

sound_one : (judges : Piece → Judged → Type 0) (s : Schema) (p : Piece) (v : Judged) (w : Whole) → FindsEachFault judges s → judges p v → value_of v ≡ whole w → w.own ≡ None → IsLocalFault s w.instance None
sound_one judges s p (judged.Grammar f) w finds says is none = cc
sound_one judges s p (judged.Whole i own) w finds says is none =
    let no_fault : own ≡ None = cc in
    let found = finds p i (subst (λ (o : Option FaultKind). judges p (judged.Whole i o)) no_fault says) in
    let same : plain_instance i ≡ w.instance = cc in
    subst (λ (j : Instance). IsLocalFault s j None) same found

sound_from : (judges : Piece → Judged → Type 0) (s : Schema) (ps : List Piece) (js : List Judgement) (ws : List Whole) → FindsEachFault judges s → AllZip (IsStated judges s) ps js → values_of js ≡ map whole ws → OwnNone ws → AreSound s (instances_in ws)
sound_from judges s ps js [] finds stated are none = All-nil (λ i. IsLocalFault s i None)
sound_from judges s [] [] (w ∷ ws) finds stated are none = cc
sound_from judges s [] (j ∷ js) (w ∷ ws) finds stated are none = absurd stated
sound_from judges s (p ∷ ps) [] (w ∷ ws) finds stated are none = absurd stated
sound_from judges s (p ∷ ps) (j ∷ js) (w ∷ ws) finds stated are none =
    let first : value_of j.judged ≡ whole w = cc in
    let rest : values_of js ≡ map whole ws = cc in
    All-cons (λ i. IsLocalFault s i None) w.instance (instances_in ws) (sound_one judges s p j.judged w finds stated.0.0 first none.0) (sound_from judges s ps js ws finds stated.1 rest none.1)

entity_one : (s : Schema) (v : Judged) (own : Option EntityId) (w : Whole) → HasOwnEntity s (record { judged = v; entity = own }) → value_of v ≡ whole w → IsSimpleEntity s w.instance own
entity_one s (judged.Grammar f) own w has is = cc
entity_one s (judged.Whole i fault) own w has is =
    let same : plain_instance i ≡ w.instance = cc in
    subst (λ (j : Instance). IsSimpleEntity s j own) same has

entities_from : (judges : Piece → Judged → Type 0) (s : Schema) (ps : List Piece) (js : List Judgement) (ws : List Whole) → AllZip (IsStated judges s) ps js → values_of js ≡ map whole ws → AreSimpleEntities s (instances_in ws) (entities_of js)
entities_from judges s ps [] [] stated are = tt
entities_from judges s ps [] (w ∷ ws) stated are = cc
entities_from judges s [] (j ∷ js) ws stated are = absurd stated
entities_from judges s (p ∷ ps) (j ∷ js) [] stated are = cc
entities_from judges s (p ∷ ps) (j ∷ js) (w ∷ ws) stated are =
    let first : value_of j.judged ≡ whole w = cc in
    let rest : values_of js ≡ map whole ws = cc in
    (entity_one s j.judged j.entity w stated.0.1 first, entities_from judges s ps js ws stated.1 rest)

-- instances whose pieces are judged to have no fault have none by themselves
pub sound_instances : (judges : Piece → Judged → Type 0) (s : Schema) (ps : List Piece) (js : List Judgement) (is : List Instance) → FindsEachFault judges s → AllZip (IsStated judges s) ps js → HaveInstances (values_of js) is → AreSound s is
sound_instances judges s ps js is finds stated have =
    rw have.instances (sound_from judges s ps js have.wholes finds stated have.are (own_none_from [] have.wholes have.faultless))

-- the entities beside them are theirs
pub own_entities : (judges : Piece → Judged → Type 0) (s : Schema) (ps : List Piece) (js : List Judgement) (is : List Instance) → AllZip (IsStated judges s) ps js → HaveInstances (values_of js) is → AreSimpleEntities s is (entities_of js)
own_entities judges s ps js is stated have = rw have.instances (entities_from judges s ps js have.wholes stated have.are)

-- what the judges said of the pieces, without the entities
pub judged_only : (judges : Piece → Judged → Type 0) (s : Schema) (ps : List Piece) (js : List Judgement) → AllZip (IsStated judges s) ps js → AllZip judges ps (map (λ j. j.judged) js)
judged_only judges s [] [] stated = tt
judged_only judges s [] (j ∷ js) stated = absurd stated
judged_only judges s (p ∷ ps) [] stated = absurd stated
judged_only judges s (p ∷ ps) (j ∷ js) stated = (stated.0.0, judged_only judges s ps js stated.1)

-- the values of these are the same
pub values_only : (js : List Judgement) → map value_of (map (λ j. j.judged) js) ≡ values_of js
values_only [] = refl
values_only (j ∷ js) = ap (λ vs. value_of j.judged ∷ vs) (values_only js)

-- a reading that stopped before the instances is one by lanes
pub stopped_before : (judges : Piece → Judged → Type 0) (s : Schema) (file : List ℕ) (lanes : ℕ) (e : Stop) (r : Result Reading ReadError) → OnFault e (IsOpeningFault s file) → IfOk r (IsStopped e) → IfOk r (IsReadBy judges s file lanes)
stopped_before judges s file lanes e (Err x) fault stopped = tt
stopped_before judges s file lanes (stop.Fault f) (Ok r) fault stopped =
    let Answered : Result (List Instance) Fault → Type 0 = λ answer. IsReadingBy s file judges [] answer in
    record { pieces = []; answer = subst Answered (sym (ap plain_answer stopped.0)) (before_instances fault); dealt = dealing.none fault stopped.2 stopped.1 }
stopped_before judges s file lanes stop.Memory (Ok r) fault stopped = absurd stopped

-- nothing was returned to a reading that stopped before the instances
pub stopped_returned : (judges : Piece → Judged → Type 0) (s : Schema) (file : List ℕ) (lanes : ℕ) (e : Stop) (r : Result Reading ReadError) → OnFault e (IsOpeningFault s file) → IfOk r (IsStopped e) → IfOk r (AnswersReturned judges s file lanes)
stopped_returned judges s file lanes e (Err x) fault stopped = tt
stopped_returned judges s file lanes (stop.Fault f) (Ok r) fault stopped = dealing.nothing fault stopped.3
stopped_returned judges s file lanes stop.Memory (Ok r) fault stopped = absurd stopped

-- the pieces of a reading by what is said of them are those of the file
pub pieces_of : (judges : Piece → Judged → Type 0) (s : Schema) (file : List ℕ) (ps : List Piece) (answer : Result (List Instance) Fault) → IsReadingBy s file judges ps answer → ArePiecesOf s file (map plain_piece ps)
pieces_of judges s file _ _ (before_instances f) = pieces.none f
pieces_of judges s file ps _ (by_pieces js begins header cut said answer) = pieces.behind_preface begins header cut

-- the pieces of the file were dealt
pub pieces_by : (judges : Piece → Judged → Type 0) (s : Schema) (file : List ℕ) (lanes : ℕ) (r : Result Reading ReadError) → IfOk r (IsReadBy judges s file lanes) → IfOk r (λ reading. PiecesAreDealt s file lanes reading.dealt.items reading.receipts.items)
pieces_by judges s file lanes (Err e) by = tt
pieces_by judges s file lanes (Ok r) by = record { pieces = by.pieces; of_file = pieces_of judges s file by.pieces (plain_answer r.answer) by.answer; as_dealt = by.dealt }

-- a judge that says what pieces are by themselves says so of each
said_locally : (judges : Piece → Judged → Type 0) (s : Schema) (ps : List Piece) (js : List Judged) → SaysLocally judges s → AllZip judges ps js → AllZip (JudgesLocally s) ps js
said_locally judges s [] [] local said = tt
said_locally judges s [] (j ∷ js) local said = absurd said
said_locally judges s (p ∷ ps) [] local said = absurd said
said_locally judges s (p ∷ ps) (j ∷ js) local said = (local p j said.0, said_locally judges s ps js local said.1)

pub local_by : (judges : Piece → Judged → Type 0) (s : Schema) (file : List ℕ) (ps : List Piece) (answer : Result (List Instance) Fault) → SaysLocally judges s → IsReadingBy s file judges ps answer → IsReadingBy s file (JudgesLocally s) ps answer
local_by judges s file _ _ local (before_instances f) = before_instances f
local_by judges s file ps _ local (by_pieces js begins header cut said answer) = by_pieces js begins header cut (said_locally judges s ps js local said) answer

-- a reading by lanes that judge against the schema is the reading of the file
pub reading_by : (judges : Piece → Judged → Type 0) (s : Schema) (file : List ℕ) (lanes : ℕ) (r : Result Reading ReadError) → LocalReadingIsReading s file → SaysLocally judges s → IfOk r (IsReadBy judges s file lanes) → IfOk r (λ reading. IsReading s file (plain_answer reading.answer))
reading_by judges s file lanes (Err e) law local by = tt
reading_by judges s file lanes (Ok r) law local by = (law by.pieces (plain_answer r.answer) (local_by judges s file by.pieces (plain_answer r.answer) local by.answer)).0

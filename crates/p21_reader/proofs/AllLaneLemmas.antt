-- Lemmas on a reading by lanes with all faults.
use Rattle.std.proofs.Common.{◌≡◌, ℕ, List, [], ◌∷◌, Result, Ok, Err, IfOk, sym, subst}
use Rattle.std.specs.List.{AllZip}
use Rattle.p21_express.specs.Schema.{Schema}
use Rattle.p21_tree.specs.declared.faults.Fault.{Fault}
use Rattle.p21_tree.specs.declared.pieces.Piece.{Piece}
use Rattle.p21_tree.specs.Sentence.{Instance}
use Rattle.p21_reader.specs.declared.all_faults.AllFaults.{AllFaults}
use Rattle.p21_reader.specs.declared.judged.Judgement.{Judgement}
use Rattle.p21_reader.specs.declared.reading.ReadError.{ReadError}
use Rattle.p21_reader.specs.declared.stop.Stop.{Stop}
use Rattle.p21_reader.specs.declared.stop.Stop.TheVariants as stop
use Rattle.p21_reader.specs.AllAnswer.{AllAnswerReturned, IsStoppedWithAll, plain_all}
use Rattle.p21_reader.specs.AllFaults.{IsReadingWithAll}
use Rattle.p21_reader.specs.AllFaults as faults
use Rattle.p21_reader.specs.Judged.{value_of, values_of}
use Rattle.p21_reader.specs.Lanes.{IsStated, PiecesAreDealt}
use Rattle.p21_reader.specs.Lanes as dealing
use Rattle.p21_reader.specs.LocalFault.{IsOpeningFault}
use Rattle.p21_reader.specs.PiecesOf as pieces
use Rattle.p21_reader.specs.Steps.{OnFault}
use Rattle.p21_reader.specs.Values.{IsJudged}

alone : (s : Schema) (file : List ℕ) (f : Fault) (answer : Result (List Instance) (List Fault)) → IsOpeningFault s file f → answer ≡ Err (f ∷ []) → IsReadingWithAll s file answer
alone s file f answer h e = subst (IsReadingWithAll s file) (sym e) (faults.before_instances h, λ none. cc)

-- what stopped before the instances is the one fault of the file
pub stopped_answer : (s : Schema) (file : List ℕ) (e : Stop) (r : Result AllFaults ReadError) → OnFault e (IsOpeningFault s file) → IfOk r (IsStoppedWithAll e) → IfOk r (λ all. IsReadingWithAll s file (plain_all all.answer))
stopped_answer s file e (Err x) fault stopped = tt
stopped_answer s file (stop.Fault f) (Ok r) fault stopped = alone s file f (plain_all r.answer) fault stopped.0
stopped_answer s file stop.Memory (Ok r) fault stopped = absurd stopped

pub stopped_pieces : (s : Schema) (file : List ℕ) (lanes : ℕ) (e : Stop) (r : Result AllFaults ReadError) → OnFault e (IsOpeningFault s file) → IfOk r (IsStoppedWithAll e) → IfOk r (λ all. PiecesAreDealt s file lanes all.dealt.items all.receipts.items)
stopped_pieces s file lanes e (Err x) fault stopped = tt
stopped_pieces s file lanes (stop.Fault f) (Ok r) fault stopped = record { pieces = []; of_file = pieces.none fault; as_dealt = dealing.none fault stopped.2 stopped.1 }
stopped_pieces s file lanes stop.Memory (Ok r) fault stopped = absurd stopped

pub stopped_all_returned : (s : Schema) (file : List ℕ) (lanes : ℕ) (e : Stop) (r : Result AllFaults ReadError) → OnFault e (IsOpeningFault s file) → IfOk r (IsStoppedWithAll e) → IfOk r (AllAnswerReturned s file lanes)
stopped_all_returned s file lanes e (Err x) fault stopped = tt
stopped_all_returned s file lanes (stop.Fault f) (Ok r) fault stopped = dealing.nothing fault stopped.3
stopped_all_returned s file lanes stop.Memory (Ok r) fault stopped = absurd stopped

-- what was stated of the pieces is what they are by themselves
pub judged_stated : (s : Schema) (ps : List Piece) (js : List Judgement) → AllZip (IsStated (λ p j. IsJudged s p (value_of j)) s) ps js → AllZip (IsJudged s) ps (values_of js)
judged_stated s [] [] h = tt
judged_stated s [] (j ∷ js) h = absurd h
judged_stated s (p ∷ ps) [] h = absurd h
judged_stated s (p ∷ ps) (j ∷ js) h = (h.0.0, judged_stated s ps js h.1)

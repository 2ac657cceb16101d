-- What a check of a file tells.
use Rattle.std.proofs.Common.{◌≡◌, ◌≢◌, ◌∷◌, [], get_or, ℕ, List, Result, Ok, Err, IfOk, refl, sym, ap, ◌∙◌}
use Rattle.std.proofs.lemmas.List.Elements.{All-nil}
use Rattle.p21_express.specs.Schema.{Schema}
use Rattle.p21_tree.specs.declared.faults.Fault.{Fault}
use Rattle.p21_tree.specs.Sentence.{Instance}
use Rattle.p21_reader.specs.AllFaults.{IsReadingWithAll}
use Rattle.p21_reader.specs.AllFaults as faults
use Rattle.p21_reader.specs.AllLaws.{AllFaultsGiveReading, BeginWithAnswer}
use Rattle.p21_checker.specs.Lists.{FitsWindow, PiecesAreDealt}
use Rattle.p21_checker.specs.Lists as dealing
use Rattle.p21_reader.specs.LocalFault.{IsOpeningFault}
use Rattle.p21_reader.specs.PiecesOf as pieces
use Rattle.p21_reader.specs.Reading.{IsReading}
use Rattle.p21_reader.specs.Steps.{OnFault}
use Rattle.p21_reader.specs.declared.stop.Stop.{Stop}
use Rattle.p21_reader.specs.declared.stop.Stop.TheVariants as stop
use Rattle.p21_checker.specs.Answers.{AllReturned, AnswersTo, FirstReturned, HaveReturned, IsStopped, TellsReading, TellsReadingWithAll}
use Rattle.p21_checker.specs.Counts.{HasFaults, IsFirstOf, counts, first, Tells, TellsAll, TellsFirst}
use Rattle.p21_checker.specs.declared.checked_list.CheckedList.{CheckedList}
use Rattle.p21_checker.specs.declared.lists.PieceList.{PieceList}
use Rattle.p21_checker.specs.declared.counts.Counts.{Counts}
use Rattle.p21_crew.specs.declared.returned.Returned.{Returned}
use Rattle.p21_lanes.specs.declared.receipt.Receipt.{Receipt}
use Rattle.std.specs.declared.vec.Vec.{Vec}
use Rattle.p21_checker.specs.Answers as answers
use Rattle.p21_checker.specs.declared.check.CheckError.{CheckError}
use Rattle.p21_checker.specs.declared.check.FaultCheck.{FaultCheck}

-- What stopped before the instances is the one fault of the file.

pub stopped_pieces : (s : Schema) (file : List ℕ) (lanes capacity : ℕ) (e : Stop) (r : Result FaultCheck CheckError) → OnFault e (IsOpeningFault s file) → IfOk r (IsStopped e) → IfOk r (λ all. PiecesAreDealt s file lanes capacity all.dealt.items all.receipts.items)
stopped_pieces s file lanes capacity e (Err x) fault stopped = tt
stopped_pieces s file lanes capacity (stop.Fault f) (Ok r) fault stopped = record { lists = []; of_file = pieces.none fault; window = All-nil (FitsWindow capacity); as_dealt = dealing.none fault stopped.2 stopped.1 }
stopped_pieces s file lanes capacity stop.Memory (Ok r) fault stopped = absurd stopped

pub stopped_returned : (states : PieceList → CheckedList → Type 0) (s : Schema) (file : List ℕ) (lanes : ℕ) (e : Stop) (r : Result FaultCheck CheckError) → OnFault e (IsOpeningFault s file) → IfOk r (IsStopped e) → IfOk r (AllReturned states s file lanes)
stopped_returned states s file lanes e (Err x) fault stopped = tt
stopped_returned states s file lanes (stop.Fault f) (Ok r) fault stopped = answers.nothing fault stopped.3
stopped_returned states s file lanes stop.Memory (Ok r) fault stopped = absurd stopped

pub stopped_answer : (s : Schema) (file : List ℕ) (e : Stop) (r : Result FaultCheck CheckError) → OnFault e (IsOpeningFault s file) → IfOk r (IsStopped e) → IfOk r (TellsReadingWithAll s file)
stopped_answer s file e (Err x) fault stopped = tt
stopped_answer s file (stop.Fault f) (Ok r) fault stopped = record { full = Err (f ∷ []); is_reading = (faults.before_instances fault, λ none. cc); told = stopped.0 }
stopped_answer s file stop.Memory (Ok r) fault stopped = absurd stopped

-- Of all faults the first.

first_told : {A : Type 0} (all : Result Counts (Vec Fault A)) (one : Result Counts Fault) (full : Result (List Instance) (List Fault)) → IsFirstOf all one → TellsAll all full → TellsFirst one full
first_told _ _ (Ok is) counts told = told
first_told _ _ (Err fs) counts told = absurd told
first_told _ _ (Ok is) (first e) told = absurd told
first_told _ _ (Err []) (first {f} {rest} e) told = absurd (none f rest (sym e ∙ told)) where
  none : (g : Fault) (gs : List Fault) → g ∷ gs ≡ [] → ⊥
  none g gs h = cc
first_told _ _ (Err (g ∷ gs)) (first {f} {rest} e) told = head (sym e ∙ told) where
  head : f ∷ rest ≡ g ∷ gs → f ≡ g
  head h = cc

pub first_returned : {A : Type 0} (states : PieceList → CheckedList → Type 0) (s : Schema) (file : List ℕ) (lanes : ℕ) (all : Result Counts (Vec Fault A)) (one : Result Counts Fault) (dealt : List ℕ) (receipts : List (Receipt PieceList)) (returned : List (Receipt (Returned CheckedList))) → IsFirstOf all one
    → HaveReturned states (AnswersTo (TellsAll all) s file) s file lanes dealt receipts returned → HaveReturned states (AnswersTo (TellsFirst one) s file) s file lanes dealt receipts returned
first_returned states s file lanes all one dealt receipts returned firsts (answers.nothing fault none) = answers.nothing fault none
first_returned states s file lanes all one dealt receipts returned firsts (answers.results lists outs begins header cut run answer) =
    answers.results lists outs begins header cut run (record { full = answer.full; is_answer = answer.is_answer; told = first_told all one answer.full firsts answer.told })

reading_told : (s : Schema) (file : List ℕ) (one : Result Counts Fault) (full : Result (List Instance) (List Fault)) → AllFaultsGiveReading s file → IsReadingWithAll s file full → TellsFirst one full → (answer : Result (List Instance) Fault) × IsReading s file answer × Tells one answer
reading_told s file (Ok c) (Ok is) gives is_reading told = (Ok is, is_reading.1, told)
reading_told s file (Ok c) (Err fs) gives is_reading told = absurd told
reading_told s file (Err f) (Ok is) gives is_reading told = absurd told
reading_told s file (Err f) (Err []) gives is_reading told = absurd told
reading_told s file (Err f) (Err (g ∷ gs)) gives is_reading told = let b = gives (g ∷ gs) is_reading.0 in by_answer b.answer b.is_reading b.begins where
  by_answer : (answer : Result (List Instance) Fault) → IsReading s file answer → BeginWithAnswer (g ∷ gs) answer → (a : Result (List Instance) Fault) × IsReading s file a × Tells (Err f) a
  by_answer (Ok is) read begins = absurd begins
  by_answer (Err h) read begins = (Err h, read, told ∙ sym begins)

pub first_answer : {A : Type 0} (s : Schema) (file : List ℕ) (all : Result Counts (Vec Fault A)) (one : Result Counts Fault) (full : Result (List Instance) (List Fault)) → AllFaultsGiveReading s file → IsReadingWithAll s file full → TellsAll all full → IsFirstOf all one
    → (answer : Result (List Instance) Fault) × IsReading s file answer × Tells one answer
first_answer s file all one full gives is_reading told firsts = reading_told s file one full gives is_reading (first_told all one full firsts told)

pub has_faults : {A : Type 0} (s : Schema) (file : List ℕ) (all : Result Counts (Vec Fault A)) (full : Result (List Instance) (List Fault)) → IsReadingWithAll s file full → TellsAll all full → HasFaults all
has_faults s file (Ok c) full is_reading told = tt
has_faults s file (Err fs) (Ok is) is_reading told = absurd told
has_faults s file (Err fs) (Err gs) is_reading told = λ none. is_reading.1 (sym told ∙ none)

pub first_is : {A : Type 0} (fs : Vec Fault A) (f d : Fault) → fs.items ≢ [] → f ≡ get_or fs.items 0 d → IsFirstOf (Err fs) (Err f)
first_is fs f d some e = by_items fs.items refl where
  by_items : (l : List Fault) → fs.items ≡ l → IsFirstOf (Err fs) (Err f)
  by_items [] none = absurd (some none)
  by_items (g ∷ rest) are =
      let same : f ≡ g = e ∙ ap (λ l. get_or l 0 d) are in
      first {rest = rest} (are ∙ ap (λ x. x ∷ rest) (sym same))

-- Instances that are read again from their file.
use Rattle.std.proofs.Common.{◌≡◌, ℕ, zero, suc, ◌+◌, ◌<◌, Bool, true, false, List, [], ◌∷◌, ◌++◌, None, map, length, drop, get_or, refl, sym, ap, subst, ◌∙◌, append_assoc, arith}
use Rattle.std.specs.Prelude.{◌||◌, All}
use Rattle.std.specs.List.{list_any}
use Rattle.std.proofs.lemmas.List.Elements.{All-head, All-tail}
use Rattle.std.specs.List.{AllZip}
use Rattle.p21_text.specs.Laws.{HasOneListAtMost}
use Rattle.p21_express.specs.Schema.{Schema}
use Rattle.p21_tree.specs.declared.faults.Fault.{Fault}
use Rattle.p21_tree.specs.declared.pieces.Piece.{Piece}
use Rattle.p21_tree.specs.Fault.{pieces}
use Rattle.p21_tree.specs.Laws.{HasOneFaultAtMost, HasOneTree, PieceFaultsAreOfTokens}
use Rattle.p21_tree.specs.Sentence.{Instance, IsPiece, deepest}
use Rattle.p21_tree.specs.Texts.{HasPieceFault, shifted}
use Rattle.p21_cut.specs.Cutter.{plain_piece}
use Rattle.p21_cut.specs.Laws.{HasOneNextAtMost}
use Rattle.p21_cut.specs.Pieces.{IsNext, PiecesAre, piece, tail}
use Rattle.p21_cut.specs.Pieces as cut
use Rattle.p21_outline.specs.Faultiness.{IsFaultiness}
use Rattle.p21_refs.specs.AllReferenceFaults.{AreReferenceFaults}
use Rattle.p21_refs.specs.AllReferenceFaults as reference
use Rattle.p21_check.specs.LocalFault.{IsLocalFault}
use Rattle.p21_reader.specs.Values.{Value, Whole, whole, instances_in, HaveInstances}
use Rattle.p21_checker.specs.Again.{AreTexts, IsFaultOf, IsTextOf}
use Rattle.p21_checker.specs.Checked.{IsOfText}

-- a text has one instance
pub one_instance : ((text : List ℕ) (at : ℕ) → HasOneListAtMost text at) → HasOneTree → (p : cut.Piece) (i j : Instance) → IsTextOf p i → IsTextOf p j → i ≡ j
one_instance lists trees p i j h k =
    let same : h.0 ≡ k.0 = lists p.bytes 0 h.0 k.0 h.1 k.1 in
    (trees (shifted p.at k.0)).2 i j (subst (λ ts. IsPiece deepest (shifted p.at ts) i) same h.2) k.2

-- and no grammar fault
pub no_fault : HasOneFaultAtMost pieces → PieceFaultsAreOfTokens → (p : Piece) (i : Instance) (f : Fault) → IsTextOf (plain_piece p) i → HasPieceFault p f → ⊥
no_fault once of_tokens p i f h k = (once (shifted p.at h.0)).0 (i, h.2) (of_tokens p h.0 f h.1 k).0

-- what comes next is the text of the next instance
pub next_text : (file : List ℕ) (at number next : ℕ) (p : cut.Piece) (i : Instance) (is : List Instance) → HasOneNextAtMost file at → AreTexts file at number (i ∷ is) → IsNext file at number p next → IsTextOf p i × AreTexts file next (number + 1) is
next_text file at number next p i is once h one = by_pieces h.pieces h.are h.texts where
  by_pieces : (ps : List cut.Piece) → PiecesAre file at number ps h.tail → AllZip IsTextOf ps (i ∷ is) → IsTextOf p i × AreTexts file next (number + 1) is
  by_pieces [] are texts = absurd texts
  by_pieces (q ∷ qs) (piece {next = m} {p = _} {others = _} first rest) texts =
      let same = (once number p next one).0 q m first in (
        subst (λ x. IsTextOf x i) (sym same.0) texts.0,
        record { pieces = qs; tail = h.tail; are = subst (λ k. PiecesAre file k (number + 1) qs h.tail) (sym same.1) rest; texts = texts.1 },
      )

-- and there is one
pub no_tail : (file : List ℕ) (at number end : ℕ) (i : Instance) (is : List Instance) → HasOneNextAtMost file at → AreTexts file at number (i ∷ is) → PiecesAre file at number [] end → ⊥
no_tail file at number end i is once h stops = by_pieces h.pieces h.are h.texts where
  by_pieces : (ps : List cut.Piece) → PiecesAre file at number ps h.tail → AllZip IsTextOf ps (i ∷ is) → ⊥
  by_pieces [] are texts = absurd texts
  by_pieces (q ∷ qs) (piece {next = m} {p = _} {others = _} first rest) texts = (once number q m first).1 end stops

-- what stands at a place of two lists
pub at_place : {X : Type 0} (P : X → Bool → Type 0) (i : ℕ) (xs : List X) (ys : List Bool) (d : Bool) → AllZip P xs ys → i < length ys → (x : X) × (drop i xs ≡ x ∷ drop (i + 1) xs) × P x (get_or ys i d)
at_place P i [] [] d h less = absurd (omega (arith, less))
at_place P i [] (y ∷ ys) d h less = absurd h
at_place P i (x ∷ xs) [] d h less = absurd h
at_place P zero (x ∷ xs) (y ∷ ys) d h less = (x, refl, h.0)
at_place P (suc i) (x ∷ xs) (y ∷ ys) d h less =
    let r = at_place P i xs ys d h.1 (omega (arith, less)) in
    let e : suc i + 1 ≡ suc (i + 1) = omega arith in
    (r.0, r.1 ∙ ap (λ k. r.0 ∷ drop k (x ∷ xs)) (sym e), r.2)

pub zip_length : {X : Type 0} (P : X → Bool → Type 0) (xs : List X) (ys : List Bool) → AllZip P xs ys → length xs ≡ length ys
zip_length P [] [] h = refl
zip_length P [] (y ∷ ys) h = absurd h
zip_length P (x ∷ xs) [] h = absurd h
zip_length P (x ∷ xs) (y ∷ ys) h = ap suc (zip_length P xs ys h.1)

-- one fault more, or none
pub fault_more : (s : Schema) (all : List Instance) (i : Instance) (is : List Instance) (found more fs : List Fault) (f : Fault) → IsFaultOf s all i f → more ≡ found ++ f ∷ [] → AreReferenceFaults s all is fs
    → ((gs : List Fault) → AreReferenceFaults s all (i ∷ is) gs → AreReferenceFaults s all all (found ++ gs)) → AreReferenceFaults s all all (more ++ fs)
fault_more s all i is found more fs f own more_is rest goes =
    let placed : record { kind = f.kind; at = i.at } ≡ f = ap (λ a. record { kind = f.kind; at = a }) (sym own.1) in
    let first : AreReferenceFaults s all (i ∷ is) (f ∷ fs) = subst (λ g. AreReferenceFaults s all (i ∷ is) (g ∷ fs)) placed (reference.faulty own.0 rest) in
    subst (AreReferenceFaults s all all) (sym (ap (λ l. l ++ fs) more_is ∙ append_assoc found (f ∷ []) fs)) (goes (f ∷ fs) first)

-- an instance at a place has no fault by itself
pub sound_at : (s : Schema) (all : List Instance) (i : ℕ) (x : Instance) (rest : List Instance) → drop i all ≡ x ∷ rest → All (λ j. IsLocalFault s j None) all → IsLocalFault s x None
sound_at s [] i x rest e h = absurd (none i e) where
  none : (k : ℕ) → drop k [] ≡ x ∷ rest → ⊥
  none zero f = cc
  none (suc k) f = cc
sound_at s (y ∷ all) zero x rest e h = let same : y ≡ x = cc in subst (λ j. IsLocalFault s j None) same (All-head (λ j. IsLocalFault s j None) y all h)
sound_at s (y ∷ all) (suc i) x rest e h = sound_at s all i x rest e (All-tail (λ j. IsLocalFault s j None) y all h)

-- where no instance is at fault, there are no faults
none_faulty : (s : Schema) (all is : List Instance) (faulty : List Bool) (is_true : Bool → Bool) → is_true true ≡ true → AllZip (IsFaultiness s all) is faulty → list_any is_true faulty ≡ false → AreReferenceFaults s all is []
none_faulty s all [] [] is_true e h none = reference.none
none_faulty s all [] (b ∷ faulty) is_true e h none = absurd h
none_faulty s all (i ∷ is) [] is_true e h none = absurd h
none_faulty s all (i ∷ is) (true ∷ faulty) is_true e h none = absurd (let f : true ≡ false = sym (ap (λ b. b || list_any is_true faulty) e) ∙ none in cc)
none_faulty s all (i ∷ is) (false ∷ faulty) is_true e h none = reference.answered h.0 (none_faulty s all is faulty is_true e h.1 (behind (is_true false) (list_any is_true faulty) none)) where
  behind : (a b : Bool) → (a || b) ≡ false → b ≡ false
  behind true b f = absurd (cc)
  behind false b f = f

pub none_told : (is_true : Bool → Bool) (s : Schema) (all : List Instance) (faulty slice : List Bool) (told : Bool) → told ≡ list_any is_true slice → slice ≡ faulty → told ≡ false → is_true true ≡ true → AllZip (IsFaultiness s all) all faulty → AreReferenceFaults s all all []
none_told is_true s all faulty slice told value same off e h = none_faulty s all all faulty is_true e h (subst (λ l. list_any is_true l ≡ false) same (sym value ∙ off))

-- The instances of the pieces of a file, as they were checked.

text_of : (p : Piece) (v : Value) (w : Whole) → IsOfText p v → v ≡ whole w → IsTextOf (plain_piece p) w.instance
text_of p v w told is = subst (IsOfText p) is told

texts_from : (ps : List Piece) (vs : List Value) (ws : List Whole) → AllZip IsOfText ps vs → vs ≡ map whole ws → AllZip IsTextOf (map plain_piece ps) (instances_in ws)
texts_from [] [] [] told are = tt
texts_from [] [] (w ∷ ws) told are = cc
texts_from [] (v ∷ vs) ws told are = absurd told
texts_from (p ∷ ps) [] ws told are = absurd told
texts_from (p ∷ ps) (v ∷ vs) [] told are = cc
texts_from (p ∷ ps) (v ∷ vs) (w ∷ ws) told are =
    let first : v ≡ whole w = cc in
    let rest : vs ≡ map whole ws = cc in
    (text_of p v w told.0 first, texts_from ps vs ws told.1 rest)

pub texts_of : (file : List ℕ) (at end : ℕ) (ps : List Piece) (vs : List Value) (is : List Instance) → AllZip IsOfText ps vs → HaveInstances vs is → PiecesAre file at 0 (map plain_piece ps) end → AreTexts file at 0 is
texts_of file at end ps vs is told have cut = record { pieces = map plain_piece ps; tail = end; are = cut; texts = rw have.instances (texts_from ps vs have.wholes told have.are) }

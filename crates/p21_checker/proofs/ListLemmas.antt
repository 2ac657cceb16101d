-- Lists of pieces, and what is said of them.
use Rattle.std.proofs.Common.{◌≡◌, ◌<◌, ◌≤◌, ◌+◌, ◌*◌, ◌/◌, ◌==◌, inl, inr, ℕ, suc, true, false, List, [], ◌∷◌, ◌++◌, length, map, replicate, refl, sym, ap, subst, ◌∙◌, arith}
use Rattle.std.specs.Prelude.{All, OnOk, Ok, Err, Result, max, if◌then◌else◌}
use Rattle.std.specs.List.{AllZip}
use Rattle.std.proofs.lemmas.Bool.{cases_Bool, cases_lt}
use Rattle.std.proofs.Math.Nat.{le_refl, le_trans, mul-le-mul_left, mul-one}
use Rattle.std.proofs.lemmas.List.{append-nil, length-append, length-replicate, map-append}
use Rattle.std.proofs.lemmas.List.Elements.{All-append, All-cons, All-head, All-nil, All-replicate, All-tail, All-weaker}
use Rattle.p21_express.specs.Schema.{Schema}
use Rattle.p21_tree.specs.declared.instances.RawInstance.{RawInstance}
use Rattle.p21_tree.specs.declared.pieces.Piece.{Piece}
use Rattle.p21_lanes.specs.declared.receipt.Receipt.{Receipt}
use Rattle.p21_lanes.specs.Receipt.{passed}
use Rattle.p21_desk.specs.Dealing.{share}
use Rattle.p21_crew.specs.declared.returned.Returned.{Returned}
use Rattle.p21_crew.specs.Each.{EachAt}
use Rattle.p21_crew.specs.Run.{IsRun}
use Rattle.p21_outline.specs.OutlineList.{AreListed, listed_instances}
use Rattle.p21_reader.specs.Values.{Value, grammar, whole, IsJudged}
use Rattle.p21_checker.specs.Checked.{Adds, AreStated, IsEmpty, IsOfText, IsOfTexts, IsStated, StatesTexts, outlines_of, sound_value, value_of, values_in, values_of}
use Rattle.p21_checker.specs.Lists.{AreDealt, FitsWindow, HasAtMost, lanes_of, lists_out, pieces_in, pieces_of}
use Rattle.p21_checker.specs.declared.checked.Checked.{Checked}
use Rattle.p21_checker.specs.declared.checked_list.CheckedList.{CheckedList}
use Rattle.p21_checker.specs.declared.lists.PieceList.{PieceList}

module _ {X Y : Type 0} (P : X → Y → Type 0) where
  -- two pairs of lists, one after the other
  pub zip_append : (xs : List X) (ys : List Y) (us : List X) (vs : List Y) → AllZip P xs ys → AllZip P us vs → AllZip P (xs ++ us) (ys ++ vs)
  zip_append [] [] us vs h k = k
  zip_append [] (y ∷ ys) us vs h k = absurd h
  zip_append (x ∷ xs) [] us vs h k = absurd h
  zip_append (x ∷ xs) (y ∷ ys) us vs h k = (h.0, zip_append xs ys us vs h.1 k)

  -- a fact of pairs that follows from another
  pub zip_weaker : (Q : X → Y → Type 0) → ((x : X) (y : Y) → P x y → Q x y) → (xs : List X) (ys : List Y) → AllZip P xs ys → AllZip Q xs ys
  zip_weaker Q f [] [] h = tt
  zip_weaker Q f [] (y ∷ ys) h = absurd h
  zip_weaker Q f (x ∷ xs) [] h = absurd h
  zip_weaker Q f (x ∷ xs) (y ∷ ys) h = (f x y h.0, zip_weaker Q f xs ys h.1)

-- ---- lists that fit the window

pub fit_window : (capacity most : ℕ) (ls : List PieceList) → lists_out capacity * (most + 1) ≤ capacity → All (HasAtMost most) ls → All (FitsWindow capacity) ls
fit_window capacity most ls window h = All-weaker (HasAtMost most) (FitsWindow capacity) one ls h where
  one : (l : PieceList) → HasAtMost most l → FitsWindow capacity l
  one l few = let less : length (pieces_of l) ≤ most + 1 = omega (arith, few) in le_trans (mul-le-mul_left (lists_out capacity) less) window

-- a quarter of the capacity
pub within_window : (capacity most : ℕ) → most ≡ max (capacity / 4) 1 → lists_out capacity * most ≤ capacity
within_window capacity most is = elim (cases_lt capacity 4) [
  | inl small ↦
      let one : most ≡ 1 = omega (arith, small, is) in
      let few : lists_out capacity ≡ capacity = omega (arith, small) in
      subst (λ n. n ≤ capacity) (sym (ap (λ n. n * most) few ∙ (ap (λ n. capacity * n) one ∙ mul-one capacity))) (le_refl capacity)
  | inr large ↦
      let many : lists_out capacity ≡ 4 = omega (arith, large) in
      let whole : 4 * most ≤ capacity = omega (arith, large, is) in
      subst (λ n. n * most ≤ capacity) (sym many) whole
]

-- ---- what is said of the pieces of lists

of_text : (s : Schema) (p : Piece) (v : Value) → IsJudged s p v → IsOfText p v
of_text s p (grammar f) h = tt
of_text s p (whole w) h = h.0

-- what pieces are by themselves is of their texts
pub stated_texts : (s : Schema) → StatesTexts (IsStated s) s
stated_texts s l c h = record { texts = zip_weaker (IsJudged s) IsOfText (of_text s) (pieces_of l) (values_in c) h.judged; kept = h.kept }

pub judged_all : (s : Schema) (ls : List PieceList) (cs : List CheckedList) → AllZip (IsStated s) ls cs → AllZip (IsJudged s) (pieces_in ls) (values_of cs)
judged_all s [] [] stated = tt
judged_all s [] (c ∷ cs) stated = absurd stated
judged_all s (l ∷ ls) [] stated = absurd stated
judged_all s (l ∷ ls) (c ∷ cs) stated = zip_append (IsJudged s) (pieces_of l) (values_in c) (pieces_in ls) (values_of cs) stated.0.judged (judged_all s ls cs stated.1)

pub texts_all : (s : Schema) (ls : List PieceList) (cs : List CheckedList) → AllZip (IsOfTexts s) ls cs → AllZip IsOfText (pieces_in ls) (values_of cs)
texts_all s [] [] stated = tt
texts_all s [] (c ∷ cs) stated = absurd stated
texts_all s (l ∷ ls) [] stated = absurd stated
texts_all s (l ∷ ls) (c ∷ cs) stated = zip_append IsOfText (pieces_of l) (values_in c) (pieces_in ls) (values_of cs) stated.0.texts (texts_all s ls cs stated.1)

pub kept_all : (s : Schema) (ls : List PieceList) (cs : List CheckedList) → AllZip (IsOfTexts s) ls cs → All (AreListed s) (outlines_of cs)
kept_all s [] [] stated = All-nil (AreListed s)
kept_all s [] (c ∷ cs) stated = absurd stated
kept_all s (l ∷ ls) [] stated = absurd stated
kept_all s (l ∷ ls) (c ∷ cs) stated = All-cons (AreListed s) c.sound (outlines_of cs) stated.0.kept (kept_all s ls cs stated.1)

-- ---- the lane of each piece

module _ {X : Type 0} where
  -- of elements that were dealt to one lane, and others after them: to that lane
  share_own : (lane own : ℕ) (dealt : List ℕ) (xs ys : List X) → (own == lane) ≡ true → share (replicate (length xs) own ++ dealt) lane (xs ++ ys) ≡ xs ++ share dealt lane ys
  share_own lane own dealt [] ys e = refl
  share_own lane own dealt (x ∷ xs) ys e = ap (λ b. if b then x ∷ share (replicate (length xs) own ++ dealt) lane (xs ++ ys) else share (replicate (length xs) own ++ dealt) lane (xs ++ ys)) e ∙ ap (λ l. x ∷ l) (share_own lane own dealt xs ys e)

  -- to another
  share_other : (lane own : ℕ) (dealt : List ℕ) (xs ys : List X) → (own == lane) ≡ false → share (replicate (length xs) own ++ dealt) lane (xs ++ ys) ≡ share dealt lane ys
  share_other lane own dealt [] ys e = refl
  share_other lane own dealt (x ∷ xs) ys e = ap (λ b. if b then x ∷ share (replicate (length xs) own ++ dealt) lane (xs ++ ys) else share (replicate (length xs) own ++ dealt) lane (xs ++ ys)) e ∙ share_other lane own dealt xs ys e

-- the pieces of the share of a lane are its share of the pieces
pub share_in : (lane : ℕ) (dealt : List ℕ) (ls : List PieceList) → pieces_in (share dealt lane ls) ≡ share (lanes_of dealt ls) lane (pieces_in ls)
share_in lane [] ls = refl
share_in lane (own ∷ dealt) [] = refl
share_in lane (own ∷ dealt) (l ∷ ls) = elim (cases_Bool (own == lane)) [
  | inl e ↦
      ap (λ b. pieces_in (if b then l ∷ share dealt lane ls else share dealt lane ls)) e
      ∙ (ap (λ ps. pieces_of l ++ ps) (share_in lane dealt ls) ∙ sym (share_own lane own (lanes_of dealt ls) (pieces_of l) (pieces_in ls) e))
  | inr e ↦
      ap (λ b. pieces_in (if b then l ∷ share dealt lane ls else share dealt lane ls)) e
      ∙ (share_in lane dealt ls ∙ sym (share_other lane own (lanes_of dealt ls) (pieces_of l) (pieces_in ls) e))
]

one_each : (dealt : List ℕ) (ls : List PieceList) → length dealt ≡ length ls → length (lanes_of dealt ls) ≡ length (pieces_in ls)
one_each [] [] h = refl
one_each [] (l ∷ ls) h = absurd (omega (arith, h))
one_each (lane ∷ dealt) [] h = absurd (omega (arith, h))
one_each (lane ∷ dealt) (l ∷ ls) h =
    let more = one_each dealt ls (omega (arith, h)) in
    let front = length-replicate (length (pieces_of l)) lane in
    let lanes = length-append (replicate (length (pieces_of l)) lane) (lanes_of dealt ls) in
    let pieces = length-append (pieces_of l) (pieces_in ls) in
    omega (arith, more, front, lanes, pieces)

of_lanes : (P : ℕ → Type 0) (dealt : List ℕ) (ls : List PieceList) → All P dealt → All P (lanes_of dealt ls)
of_lanes P [] ls h = All-nil P
of_lanes P (lane ∷ dealt) [] h = All-nil P
of_lanes P (lane ∷ dealt) (l ∷ ls) h = All-append P (replicate (length (pieces_of l)) lane) (lanes_of dealt ls) (All-replicate P (length (pieces_of l)) lane (All-head P lane dealt h)) (of_lanes P dealt ls (All-tail P lane dealt h))

shares_in : (dealt : List ℕ) (ls : List PieceList) (from : ℕ) (receipts : List (Receipt PieceList)) → EachAt (λ lane receipt. passed receipt ≡ share dealt lane ls) from receipts
    → EachAt (λ lane receipt. pieces_in (passed receipt) ≡ share (lanes_of dealt ls) lane (pieces_in ls)) from receipts
shares_in dealt ls from [] h = tt
shares_in dealt ls from (r ∷ receipts) h = (ap pieces_in h.0 ∙ share_in from dealt ls, shares_in dealt ls (suc from) receipts h.1)

-- lists that were dealt each to one lane
pub pieces_dealt : (states : PieceList → CheckedList → Type 0) (lanes : ℕ) (ls : List PieceList) (cs : List CheckedList) (dealt : List ℕ) (receipts : List (Receipt PieceList)) (returned : List (Receipt (Returned CheckedList))) → IsRun states lanes ls cs dealt receipts returned
    → AreDealt lanes ls dealt receipts
pieces_dealt states lanes ls cs dealt receipts returned run = record {
  dealing = run.dealing;
  pieces_dealing = record { one_each = one_each dealt ls run.dealing.one_each; of_lanes = of_lanes (λ lane. lane < lanes) dealt ls run.dealing.of_lanes };
  one_each = run.receipts_each;
  shares = run.shares;
  pieces_shares = shares_in dealt ls 0 receipts run.shares;
  ended = run.ended;
}

-- ---- one piece more

pub nothing_stated : (s : Schema) (c : CheckedList) → IsEmpty c → AreStated s [] c
nothing_stated s c h = record { judged = subst (AllZip (IsJudged s) []) (sym h.values) tt; kept = h.kept s }

pub stated_more : (s : Schema) (ps : List Piece) (p : Piece) (v : Value) (old new : CheckedList) → IsJudged s p v → Adds s old v new → AreStated s ps old → AreStated s (ps ++ p ∷ []) new
stated_more s ps p v old new judged adds h = record {
  judged = subst (AllZip (IsJudged s) (ps ++ p ∷ [])) (sym adds.values) (zip_append (IsJudged s) ps (values_in old) (p ∷ []) (v ∷ []) h.judged (judged, tt));
  kept = adds.kept h.kept;
}

-- an instance after others that have no fault by themselves
pub adds_sound : (s : Schema) (old new : CheckedList) (i : RawInstance) → new.rest.items ≡ old.rest.items → old.rest.items ≡ [] → listed_instances new.sound ≡ listed_instances old.sound ++ i ∷ [] → (AreListed s old.sound → AreListed s new.sound)
    → Adds s old (sound_value i) new
adds_sound s old new i same none listed kept =
    let before = map sound_value (listed_instances old.sound) in
    let now : values_in new ≡ before ++ sound_value i ∷ [] =
    ap (λ (rest : List Checked). map sound_value (listed_instances new.sound) ++ map value_of rest) (same ∙ none)
    ∙ (append-nil (map sound_value (listed_instances new.sound)) ∙ (ap (map sound_value) listed ∙ map-append sound_value (listed_instances old.sound) (i ∷ []))) in
    let was : values_in old ≡ before = ap (λ (rest : List Checked). before ++ map value_of rest) none ∙ append-nil before in
    record { values = now ∙ ap (λ vs. vs ++ sound_value i ∷ []) (sym was); kept = kept }

pub on_both : {E : Type 0} {T : Type 0} (r : Result T E) (P Q R : Type 0) → (P → Q → R) → OnOk r P → OnOk r Q → OnOk r R
on_both (Ok x) P Q R f h k = f h k
on_both (Err e) P Q R f h k = h

-- LIKE, from the end of a text on.
use Rattle.std.proofs.Common.{◌≡◌, ℕ, ◌+◌, ◌-◌, ◌<◌, ◌≤◌, List, [], ◌∷◌, ◌++◌, length, drop, get_or, replicate, suc, refl, ap, subst, sym, ◌∙◌, arith, Bool, true, false, inl, inr, slice_index_or, append_assoc, add-one, zero, Option, option_to_list}
use Rattle.std.proofs.Math.Seq.{drop-cons, drop-length, get_or-append_seam}
use Rattle.std.proofs.Math.ListN.{get_or-append}
use Rattle.std.proofs.lemmas.List.{get_or-replicate}
use Rattle.std.proofs.lemmas.Grind.{common_steps}
use Rattle.std.proofs.lemmas.Bool.{cases_lt}
use Rattle.p21_values.specs.Pattern.{IsRow, emitted, end_of, ends_of, leads_of, mark_then, marks_of, matches, next_of, nothing_left}
use Rattle.p21_values.specs.declared.pattern.Reading.{Reading}
use Rattle.p21_values.specs.declared.pattern.Mark.{Mark}
use Rattle.p21_values.specs.declared.pattern.Mark.TheVariants as mark

-- a mark at the empty text, and at a longer one
mark_end : (m : Mark) (rest : List ℕ → Bool) → mark_then m rest [] ≡ ends_of m (rest [])
mark_end mark.Run rest = refl
mark_end mark.Word rest = refl
mark_end _ rest = refl

mark_leads : (m : Mark) (rest : List ℕ → Bool) (c : ℕ) (cs : List ℕ) → mark_then m rest (c ∷ cs) ≡ leads_of m c (rest cs) (rest (c ∷ cs)) (mark_then m rest cs)
mark_leads mark.Run rest c cs = refl
mark_leads mark.Word rest c cs = refl
mark_leads _ rest c cs = refl

-- the shortest end of a list, and one that is longer by one
end_none : (t : List ℕ) → end_of t 0 ≡ []
end_none t = let e : length t - 0 ≡ length t = omega arith in ap (λ n. drop n t) e ∙ drop-length t

pub end_longer : {A : Type 0} (t : List A) (k : ℕ) (c d : A) → k < length t → c ≡ get_or t (length t - 1 - k) d → drop (length t - (k + 1)) t ≡ c ∷ drop (length t - k) t
end_longer t k c d lt is =
    let place : length t - (k + 1) ≡ length t - 1 - k = omega arith in
    let next : suc (length t - 1 - k) ≡ length t - k = omega arith in
    let inside : length t - 1 - k < length t = omega arith in
    ap (λ n. drop n t) place ∙ drop-cons t (length t - 1 - k) d inside ∙ ap (λ x. x ∷ drop (suc (length t - 1 - k)) t) (sym is) ∙ ap (λ n. c ∷ drop n t) next

-- the first of a row, and the next
pub row_first : (m : Mark) (ms : List Mark) (t : List ℕ) (row : List Bool) (b : Bool) → IsRow ms t row → b ≡ ends_of m (get_or row 0 false) → (j : ℕ) → j ≤ 0 → slice_index_or (b ∷ []) j false ≡ matches (m ∷ ms) (end_of t j)
row_first m ms t row b is e j le =
    let z : j ≡ 0 = omega arith in
    ap (λ n. slice_index_or (b ∷ []) n false) z
    ∙ e
    ∙ ap (ends_of m) (is.1 0 (omega arith) ∙ ap (matches ms) (end_none t))
    ∙ sym (mark_end m (matches ms))
    ∙ ap (matches (m ∷ ms)) (sym (end_none t))
    ∙ ap (λ n. matches (m ∷ ms) (end_of t n)) (sym z)

pub row_next : (m : Mark) (ms : List Mark) (t : List ℕ) (row made : List Bool) (k c : ℕ) (b : Bool) → k < length t → c ≡ get_or t (length t - 1 - k) 0 → IsRow ms t row → length made ≡ k + 1 → b ≡ leads_of m c (get_or row k false) (get_or row (k + 1) false) (get_or made k false) → ((j : ℕ) → j ≤ k → slice_index_or made j false ≡ matches (m ∷ ms) (end_of t j)) → (j : ℕ) → j ≤ k + 1 → slice_index_or (made ++ b ∷ []) j false ≡ matches (m ∷ ms) (end_of t j)
row_next m ms t row made k c b lt is rows len e old j le =
    elim (cases_lt k j) [
      | inl above ↦
          (let here : j ≡ length made = omega (arith, len) in
          let at : j ≡ k + 1 = omega arith in
          let tail = end_longer t k c 0 lt is in
          ap (λ n. slice_index_or (made ++ b ∷ []) n false) here
          ∙ get_or-append_seam made b [] false
          ∙ e
          ∙ ap (λ x. leads_of m c x (get_or row (k + 1) false) (get_or made k false)) (rows.1 k (omega arith))
          ∙ ap (λ x. leads_of m c (matches ms (end_of t k)) x (get_or made k false)) (rows.1 (k + 1) (omega arith) ∙ ap (matches ms) tail)
          ∙ ap (λ x. leads_of m c (matches ms (end_of t k)) (matches ms (c ∷ end_of t k)) x) (old k (omega arith))
          ∙ sym (mark_leads m (matches ms) c (end_of t k))
          ∙ ap (matches (m ∷ ms)) (sym tail)
          ∙ ap (λ n. matches (m ∷ ms) (end_of t n)) (sym at))
      | inr below ↦ (let inside : j < length made = omega (arith, len) in get_or-append made (b ∷ []) false j inside ∙ old j below)
    ]

-- one more character of a pattern
pub marks_step : (all made made_ : List Mark) (r r' : Reading) (m : Option Mark) (p : List ℕ) (at c : ℕ) → at < length p → c ≡ get_or p at 0 → m ≡ emitted r c → r' ≡ next_of r c → made_ ≡ made ++ option_to_list m → all ≡ made ++ marks_of r (drop at p) → all ≡ made_ ++ marks_of r' (drop (at + 1) p)
marks_step all made made_ r r' m p at c lt is e n grown so_far =
    let rest : drop at p ≡ c ∷ drop (at + 1) p = rw add-one (drop-cons p at 0 lt ∙ ap (λ x. x ∷ drop (suc at) p) (sym is)) in
    so_far
    ∙ ap (λ t. made ++ marks_of r t) rest
    ∙ sym (append_assoc made (option_to_list (emitted r c)) (marks_of (next_of r c) (drop (at + 1) p)))
    ∙ ap (λ x. (made ++ option_to_list x) ++ marks_of (next_of r c) (drop (at + 1) p)) (sym e)
    ∙ ap (λ l. l ++ marks_of (next_of r c) (drop (at + 1) p)) (sym grown)
    ∙ ap (λ x. made_ ++ marks_of x (drop (at + 1) p)) (sym n)

-- the row of no marks
none_left : (t : List ℕ) (k n : ℕ) → k ≤ length t → length t ≡ n → get_or (true ∷ replicate n false) k false ≡ matches [] (end_of t k)
none_left t zero n le len = ap nothing_left (sym (end_none t))
none_left t (suc k) n le len =
    let lt : k < length t = omega arith in
    let longer = end_longer t k (get_or t (length t - 1 - k) 0) 0 lt refl in
    let e : length t - suc k ≡ length t - (k + 1) = omega arith in
    get_or-replicate n k false false (omega arith) ∙ sym (ap (λ m. nothing_left (drop m t)) e ∙ ap nothing_left longer)

pub row_of_none : (t : List ℕ) (n : ℕ) (row : List Bool) → row ≡ true ∷ replicate n false → length t ≡ n → IsRow [] t row
row_of_none t n row is len =
    let long : length row ≡ length t + 1 = grind (arith, common_steps, is, len) in
    (long, λ k le. ap (λ r. slice_index_or r k false) is ∙ none_left t k n le len)

-- one more mark
pub row_more : (t : List ℕ) (marks : List Mark) (done : ℕ) (m : Mark) (made : List Bool) → done < length marks → drop (length marks - (done + 1)) marks ≡ m ∷ drop (length marks - done) marks → IsRow (m ∷ drop (length marks - done) marks) t made → IsRow (drop (length marks - (done + 1)) marks) t made
row_more t marks done m made lt e h = subst (λ ms. IsRow ms t made) (sym e) h

-- the whole text
pub row_whole : (t : List ℕ) (marks : List Mark) (done : ℕ) (row : List Bool) → length marks ≤ done → IsRow (drop (length marks - done) marks) t row → get_or row (length t) false ≡ matches marks t
row_whole t marks done row le h =
    let none : length marks - done ≡ 0 = omega arith in
    let whole : length t - length t ≡ 0 = omega arith in
    h.1 (length t) (omega arith) ∙ ap (λ n. matches (drop n marks) (end_of t (length t))) none ∙ ap (λ n. matches marks (drop n t)) whole

-- Words of tables of bits.
use Rattle.std.proofs.Common.{◌≡◌, ℕ, suc, ◌+◌, ◌*◌, ◌/◌, ◌%◌, ◌^◌, ◌<◌, ◌≤◌, ◌↔◌, ◌⊎◌, length, get_or, set, sym, ap, ◌∙◌, subst, inl, inr, ⊎_elim, arith}
use Rattle.std.specs.Int.{bit_at, trailing_zeros, w64}
use Rattle.std.specs.Int.Bits.{bit_and, bit_or}
use Rattle.std.proofs.Math.Nat.{mul-le-mul_right}
use Rattle.std.proofs.lemmas.Bool.{cases_lt, cases_eq}
use Rattle.std.proofs.lemmas.List.{get_or-set_same, get_or-set_other}
use Rattle.std.proofs.lemmas.Nat.{div-mul-add, and_le_l}
use Rattle.std.proofs.lemmas.Nat.Bits.{bit_at_and, bit_at_or, bit_at-lt, bit_at-zero, bit_at_set_same, bit_at_set_other, bit_at-trailing_zeros}
use Rattle.p21_graph.specs.declared.bits.Bits.{Bits}
use Rattle.p21_graph.specs.Bits.{Holds, IsLike, word_at}

pub like_more : (first old new : Bits) → IsLike first old → IsLike old new → IsLike first new
like_more first old new a b = record { rows = b.rows ∙ a.rows; columns = b.columns ∙ a.columns; width = b.width ∙ a.width }

-- a bit of one or of the other of two words
pub in_either_word : (one other k : ℕ) → (bit_at (bit_or one other) k ≡ 1) ↔ ((bit_at one k ≡ 1) ⊎ (bit_at other k ≡ 1))
in_either_word one other k =
    let bits = bit_at_or one other k in
    let first = bit_at-lt one k in
    let second = bit_at-lt other k in (
      λ h. ⊎_elim (λ (none : bit_at one k < 1). inr (omega arith)) (λ (some : 1 ≤ bit_at one k). inl (omega arith)) (cases_lt (bit_at one k) 1),
      λ s. ⊎_elim (λ (h : bit_at one k ≡ 1). omega arith) (λ (h : bit_at other k ≡ 1). omega arith) s,
    )

-- words of rows at one place of the table are one
one_word : (width r p row place : ℕ) → p < width → place < width → r * width + p ≡ row * width + place → (r ≡ row) × (p ≡ place)
one_word width r p row place a b e =
    let rows : r ≡ row = sym (div-mul-add r width p a) ∙ ap (λ u. u / width) e ∙ div-mul-add row width place b in
    let before : r * width ≡ row * width = ap (λ u. u * width) rows in
    (rows, omega arith)

-- a word of a row stands in the table
pub word_within : (t : Bits) (row place : ℕ) → row < t.rows → place < t.width → row * t.width + place < length t.words.items
word_within t row place below inside =
    let before : suc row * t.width ≤ t.rows * t.width = mul-le-mul_right t.width below in
    let more : suc row * t.width ≡ row * t.width + t.width = omega arith in
    omega (arith, t.rows_fit)

-- the bits of a word are set in a word of a row
pub holds_more : (old new : Bits) (row place word : ℕ) → new.width ≡ old.width → place < old.width → row * old.width + place < length old.words.items → new.words.items ≡ set old.words.items (row * old.width + place) (bit_or (word_at old row place) word)
    → (r c : ℕ) → Holds new r c ↔ (Holds old r c ⊎ ((r ≡ row) × ((c / 64 ≡ place) × (bit_at word (c % 64) ≡ 1))))
holds_more old new row place word width inside within words r c =
    let at = row * old.width + place in
    let is : word_at new r (c / 64) ≡ get_or (set old.words.items at (bit_or (word_at old row place) word)) (r * old.width + c / 64) 0 = ap (λ u. get_or new.words.items (r * u + c / 64) 0) width ∙ ap (λ u. get_or u (r * old.width + c / 64) 0) words in
    ⊎_elim
    (λ (e : r * old.width + c / 64 ≡ at).
    let set_here : word_at new r (c / 64) ≡ bit_or (word_at old row place) word = is ∙ ap (λ u. get_or (set old.words.items at (bit_or (word_at old row place) word)) u 0) e ∙ get_or-set_same old.words.items at (bit_or (word_at old row place) word) 0 within in
    let old_here : word_at old r (c / 64) ≡ word_at old row place = ap (λ u. get_or old.words.items u 0) e in
    let either = in_either_word (word_at old row place) word (c % 64) in (
      λ (h : Holds new r c).
          let fits : c / 64 < old.width = subst (λ u. c / 64 < u) width h.within in
          let one = one_word old.width r (c / 64) row place fits inside e in
          ⊎_elim
          (λ (o : bit_at (word_at old row place) (c % 64) ≡ 1). inl (record { within = fits; set = subst (λ u. bit_at u (c % 64) ≡ 1) (sym old_here) o }))
          (λ (w : bit_at word (c % 64) ≡ 1). inr (one.0, (one.1, w)))
          (either.0 (subst (λ u. bit_at u (c % 64) ≡ 1) set_here h.set)),
      λ s. ⊎_elim
          (λ (o : Holds old r c). record { within = subst (λ u. c / 64 < u) (sym width) o.within; set = subst (λ u. bit_at u (c % 64) ≡ 1) (sym set_here) (either.1 (inl (subst (λ u. bit_at u (c % 64) ≡ 1) old_here o.set))) })
          (λ (w : (r ≡ row) × ((c / 64 ≡ place) × (bit_at word (c % 64) ≡ 1))). record { within = subst (λ u. u < new.width) (sym w.1.0) (subst (λ u. place < u) (sym width) inside); set = subst (λ u. bit_at u (c % 64) ≡ 1) (sym set_here) (either.1 (inr w.1.1)) })
          s,
    ))
    (λ (ne : (r * old.width + c / 64 ≡ at) → ⊥).
    let same : word_at new r (c / 64) ≡ word_at old r (c / 64) = is ∙ get_or-set_other old.words.items at (r * old.width + c / 64) (bit_or (word_at old row place) word) 0 ne in (
      λ (h : Holds new r c). inl (record { within = subst (λ u. c / 64 < u) width h.within; set = subst (λ u. bit_at u (c % 64) ≡ 1) same h.set }),
      λ s. ⊎_elim
          (λ (o : Holds old r c). record { within = subst (λ u. c / 64 < u) (sym width) o.within; set = subst (λ u. bit_at u (c % 64) ≡ 1) (sym same) o.set })
          (λ (w : (r ≡ row) × ((c / 64 ≡ place) × (bit_at word (c % 64) ≡ 1))). absurd (ne (let a = w.0 in let b = w.1.0 in let f : r * old.width ≡ row * old.width = ap (λ u. u * old.width) a in omega arith)))
          s,
    ))
    (cases_eq (r * old.width + c / 64) at)

-- ---- the word of one column

one_bit : (k i : ℕ) → k < 64 → (bit_at (1 * 2 ^ k % 2 ^ 64) i ≡ 1) ↔ (i ≡ k)
one_bit k i less =
    let power = 1 * 2 ^ k % 2 ^ 64 in
    let alone : (j : ℕ) → bit_at (bit_or 0 power) j ≡ bit_at power j = λ j. let o = bit_at_or 0 power j in let z = bit_at-zero j in omega arith in
    ⊎_elim
    (λ (e : i ≡ k). (λ _. e, λ _. ap (λ u. bit_at power u) e ∙ sym (alone k) ∙ bit_at_set_same w64 0 k less))
    (λ (ne : (i ≡ k) → ⊥). (λ h. let none = sym (alone i) ∙ bit_at_set_other w64 0 k less i ne ∙ bit_at-zero i in omega (arith, h), λ e. absurd (ne e)))
    (cases_eq i k)

pub one_column : (c column : ℕ) → ((c / 64 ≡ column / 64) × (bit_at (1 * 2 ^ (column % 64) % 2 ^ 64) (c % 64) ≡ 1)) ↔ (c ≡ column)
one_column c column =
    let bit = one_bit (column % 64) (c % 64) (omega arith) in (
      λ h. let word = h.0 in let place = bit.0 h.1 in omega arith,
      λ e. (ap (λ u. u / 64) e, bit.1 (ap (λ u. u % 64) e)),
    )

-- ---- a column of two rows

module _ (one other : Bits) (row other_row place a b : ℕ) (first : a ≡ word_at one row place) (second : b ≡ word_at other other_row place) where
  -- words with a bit in common hold a column in common
  pub common_column : place < one.width → place < other.width → a < 2 ^ 64 → ¬ (bit_and a b ≡ 0) → (c : ℕ) × (Holds one row c × Holds other other_row c)
  common_column inside inside' bound some =
      let bit = bit_at-trailing_zeros w64 (bit_and a b) (omega arith) (let l = and_le_l a b in omega (arith, l)) in
      let k = trailing_zeros w64 (bit_and a b) in
      let word : (place * 64 + k) / 64 ≡ place = omega arith in
      let rest : (place * 64 + k) % 64 ≡ k = omega arith in
      let bits = bit_at_and a b k in
      let most = bit_at-lt a k in
      let most' = bit_at-lt b k in (
        place * 64 + k,
        (
          record { within = rw word inside; set = rw (word, rest, ← first) (omega (arith, bits, bit)) },
          record { within = rw word inside'; set = rw (word, rest, ← second) (omega (arith, bits, bit)) },
        ),
      )

  -- words without one hold none
  pub no_common_column : (c : ℕ) → bit_and a b ≡ 0 → c / 64 ≡ place → Holds one row c → ¬ (Holds other other_row c)
  no_common_column c none at h h' =
      let bits = bit_at_and a b (c % 64) in
      let zero : bit_at (bit_and a b) (c % 64) ≡ 0 = ap (λ u. bit_at u (c % 64)) none ∙ bit_at-zero (c % 64) in
      let here : bit_at a (c % 64) ≡ 1 = rw (first, ← at) h.set in
      let there : bit_at b (c % 64) ≡ 1 = rw (second, ← at) h'.set in
      omega arith

-- ---- a row into another

-- one word more of a row, where those before it have what the same words of another row had
pub row_more : (first old new : Bits) (row from place word : ℕ) → word ≡ word_at old from place → place < old.width
    → ((r c : ℕ) → Holds old r c ↔ (Holds first r c ⊎ ((r ≡ row) × ((c / 64 < place) × Holds first from c))))
    → ((r c : ℕ) → Holds new r c ↔ (Holds old r c ⊎ ((r ≡ row) × ((c / 64 ≡ place) × (bit_at word (c % 64) ≡ 1)))))
    → (r c : ℕ) → Holds new r c ↔ (Holds first r c ⊎ ((r ≡ row) × ((c / 64 < place + 1) × Holds first from c)))
row_more first old new row from place word is inside so_far more r c = (
  λ h. ⊎_elim
      (λ (o : Holds old r c). ⊎_elim (λ (f : Holds first r c). inl f) (λ (p : (r ≡ row) × ((c / 64 < place) × Holds first from c)). inr (p.0, (let l = p.1.0 in omega arith, p.1.1))) ((so_far r c).0 o))
      (λ (w : (r ≡ row) × ((c / 64 ≡ place) × (bit_at word (c % 64) ≡ 1))).
      let e = w.1.0 in
      let held : Holds old from c = record { within = omega arith; set = subst (λ u. bit_at (word_at old from u) (c % 64) ≡ 1) (sym e) (subst (λ u. bit_at u (c % 64) ≡ 1) is w.1.1) } in
      inr (w.0, (omega arith, ⊎_elim (λ (f : Holds first from c). f) (λ (p : (from ≡ row) × ((c / 64 < place) × Holds first from c)). p.1.1) ((so_far from c).0 held))))
      ((more r c).0 h),
  λ s. (more r c).1 (⊎_elim
      (λ (f : Holds first r c). inl ((so_far r c).1 (inl f)))
      (λ (p : (r ≡ row) × ((c / 64 < place + 1) × Holds first from c)).
      ⊎_elim
      (λ (e : c / 64 ≡ place). inr (p.0, (e, subst (λ u. bit_at u (c % 64) ≡ 1) (sym is) (subst (λ u. bit_at (word_at old from u) (c % 64) ≡ 1) e ((so_far from c).1 (inl p.1.1)).set))))
      (λ (ne : (c / 64 ≡ place) → ⊥). inl ((so_far r c).1 (inr (p.0, (let l = p.1.0 in omega arith, p.1.1)))))
      (cases_eq (c / 64) place))
      s),
)

-- Marks among bytes that are looked at together.
use Rattle.std.proofs.Common.{◌≡◌, ℕ, ◌+◌, ◌%◌, ◌^◌, ◌*◌, ◌<◌, ◌≤◌, inl, inr, not, Bool, true, false, ◌||◌, cond, eqb, List, [], ◌∷◌, map, length, replicate, refl, sym, ap, ap₂, subst, ◌∙◌, arith}
use Rattle.std.proofs.lemmas.Simd.{mask_l-mod, none_from_empty_mask, run_in_chunk_fails, run_in_chunk_stops, trailing_mask_l, length-chunk}
use Rattle.std.proofs.lemmas.Bool.{true≢false, cases_lt}
use Rattle.std.proofs.lemmas.List.{length-map}
use Rattle.std.proofs.lemmas.List.Sums.{prefix_len-le-length}
use Rattle.std.specs.List.{prefix_len}
use Rattle.std.specs.Simd.Lanes.{zip2, mask_l, top, chunk}
use lib.Bits.{bit_or}
use lib.Count.{count_trailing_zeros}
use Rattle.memchr.specs.Find.{Nowhere, NoneBefore, Passes, is_byte3}

-- what a lane holds after a comparison
abbrev hit : ℕ → ℕ → ℕ
hit a b = cond (eqb a b) 255 0

-- the lanes that hold one of three bytes
abbrev hits : List ℕ → ℕ → List ℕ
hits v n = zip2 bit_or (zip2 bit_or (zip2 hit v (replicate n 59)) (zip2 hit v (replicate n 39))) (zip2 hit v (replicate n 47))

-- the top bit of a lane after three comparisons
lane : (a b c : Bool) → top 7 (bit_or (bit_or (cond {A = ℕ} a 255 0) (cond {A = ℕ} b 255 0)) (cond {A = ℕ} c 255 0)) ≡ (a || b || c)
lane true true true = refl
lane true true false = refl
lane true false true = refl
lane true false false = refl
lane false true true = refl
lane false true false = refl
lane false false true = refl
lane false false false = refl

tops : (v : List ℕ) → map (top 7) (hits v (length v)) ≡ map (is_byte3 59 39 47) v
tops [] = refl
tops (x ∷ xs) = ap₂ (λ b bs. b ∷ bs) (lane (eqb x 59) (eqb x 39) (eqb x 47)) (tops xs)

-- the mask of three comparisons of sixteen bytes
pub mask_of_marks : (v : List ℕ) → length v ≡ 16 → mask_l (map (top 7) (hits v 16)) % 2 ^ 64 ≡ mask_l (map (is_byte3 59 39 47) v)
mask_of_marks v long =
    ap (λ bs. mask_l bs % 2 ^ 64) (subst (λ n. map (top 7) (hits v n) ≡ map (is_byte3 59 39 47) v) long (tops v))
    ∙ mask_l-mod (map (is_byte3 59 39 47) v) 64 (omega (arith, length-map v (is_byte3 59 39 47)))

one_fails : (b : Bool) (n l m : ℕ) → n ≤ l → cond (not b) (1 + n) 0 ≡ 1 + l → (n ≡ l → m ≡ 0) → cond b 1 0 + 2 * m ≡ 0
one_fails true n l m le e rest = absurd (omega arith)
one_fails false n l m le e rest = let z = rest (omega arith) in omega arith

-- where all bytes fail, the mask is zero
all_fail : (p : ℕ → Bool) (xs : List ℕ) → prefix_len (λ x. not (p x)) xs ≡ length xs → mask_l (map p xs) ≡ 0
all_fail p [] e = refl
all_fail p (x ∷ xs) e = one_fails (p x) _ (length xs) _ (prefix_len-le-length (λ y. not (p y)) xs) (omega arith) (all_fail p xs)

marked_short : (xs : List ℕ) → 0 < mask_l (map (is_byte3 59 39 47) xs) → prefix_len (λ x. not (is_byte3 59 39 47 x)) xs < length xs
marked_short xs some =
    elim (cases_lt (prefix_len (λ x. not (is_byte3 59 39 47 x)) xs) (length xs)) [
      | inl lt ↦ lt
      | inr ge ↦ absurd (omega (arith, all_fail (is_byte3 59 39 47) xs (omega (arith, prefix_len-le-length (λ x. not (is_byte3 59 39 47 x)) xs))))
    ]

-- the lowest bit of the mask of sixteen bytes is the first mark from there on
pub first_mark : (text : List ℕ) (at marks : ℕ) → at + 16 ≤ length text → marks ≡ mask_l (map (is_byte3 59 39 47) (chunk at 16 text)) → 0 < marks
    → Nowhere (Passes (is_byte3 59 39 47) text) 0 at
    → NoneBefore (Passes (is_byte3 59 39 47) text) 0 (length text) (at + count_trailing_zeros 64 marks) × Passes (is_byte3 59 39 47) text (at + count_trailing_zeros 64 marks)
first_mark text at marks room are some none =
    let mark = is_byte3 59 39 47 in
    let seen = chunk at 16 text in
    let long : length seen ≡ 16 = length-chunk at 16 text room in
    let found : 0 < mask_l (map mark seen) = omega (arith, are) in
    let n = count_trailing_zeros 64 marks in
    let counted : n ≡ prefix_len (λ x. not (mark x)) seen = ap (count_trailing_zeros 64) are ∙ trailing_mask_l mark 64 seen (omega (arith, long)) found in
    let short : n < 16 = omega (arith, long, counted, marked_short seen found) in
    let before : Nowhere (Passes mark text) 0 (at + n) = λ k low high passes.
    elim (cases_lt k at) [
      | inl lt ↦ none k low lt passes
      | inr ge ↦ true≢false (sym passes ∙ run_in_chunk_fails mark text at 16 n 0 room counted k ge high)
    ] in
    (record { low = omega arith; high = omega (arith, short); before = before }, run_in_chunk_stops mark text at 16 n 0 room counted short)

-- no mark stands among sixteen bytes whose mask is zero
pub no_mark : (text : List ℕ) (at : ℕ) → at + 16 ≤ length text → mask_l (map (is_byte3 59 39 47) (chunk at 16 text)) ≡ 0
    → Nowhere (Passes (is_byte3 59 39 47) text) 0 at → Nowhere (Passes (is_byte3 59 39 47) text) 0 (at + 16)
no_mark text at room empty none k low high passes =
    elim (cases_lt k at) [
      | inl lt ↦ none k low lt passes
      | inr ge ↦ true≢false (sym passes ∙ none_from_empty_mask (is_byte3 59 39 47) text at 16 0 room empty k ge high)
    ]

-- Where a byte stands, by where one before it does.
use Rattle.std.proofs.Common.{◌≡◌, ◌+◌, ◌-◌, ◌≤◌, ◌<◌, ◌++◌, ℕ, List, drop, length, length-append, length-drop, map, slice_index, sym, ap, ◌∙◌, arith, inl, inr, ⊎_elim}
use Rattle.std.proofs.lemmas.Bool.{cases_lt, eqb-true}
use Rattle.std.proofs.lemmas.List.{map-append, get_or_append_left, get_or-append-add, drop-append-le}
use Rattle.std.proofs.Math.Seq.{drop-append-add}
use Rattle.memchr.specs.Find.{is_byte, Passes, Nowhere, NoneAfter}
use Rattle.memchr.proofs.lemmas.PlaceLemmas.{places_between-none}
use Rattle.bstr.specs.Utf8.{lossy_chars, or_replacement, pieces, Decoded}
use Rattle.bstr.proofs.lemmas.PieceLemmas.{pieces-append, StartsClean}
use Rattle.bstr.proofs.lemmas.LengthLemmas.{length-lossy_chars}
use Rattle.p21_printed.specs.Places.{line_ends, IsLineStart, column_of}

-- characters are counted part by part, where the second part begins with none that goes on
chars_of_two : (s t : List ℕ) → StartsClean t → length (lossy_chars (s ++ t)) ≡ length (lossy_chars s) + length (lossy_chars t)
chars_of_two s t clean =
    ap length (ap (map (λ (p : Decoded). or_replacement p.char)) (pieces-append (length s) s t (omega arith) clean) ∙ map-append (λ (p : Decoded). or_replacement p.char) (pieces s) (pieces t))
    ∙ length-append (lossy_chars s) (lossy_chars t)

pub column_in_line : (s t : List ℕ) (start : ℕ) → start ≤ length s → StartsClean t → column_of (s ++ t) start ≡ column_of s start + length (lossy_chars t)
column_in_line s t start le clean =
    let split = ap (λ l. length (lossy_chars l)) (drop-append-le start s t le) ∙ chars_of_two (drop start s) t clean in
    omega arith

pub column_behind : (s t : List ℕ) (e : ℕ) → column_of (s ++ t) (length s + e + 1) ≡ length (lossy_chars (drop (e + 1) t)) + 1
column_behind s t e =
    let same : length s + e + 1 ≡ length s + (e + 1) = omega arith in
    ap (λ n. length (lossy_chars (drop n (s ++ t))) + 1) same ∙ ap (λ l. length (lossy_chars l) + 1) (drop-append-add s t (e + 1))

pub column_bound : (s : List ℕ) (start : ℕ) → column_of s start ≤ length s + 1
column_bound s start =
    let chars = length-lossy_chars (drop start s) in
    let rest = length-drop start s in
    omega arith

pub no_line_ends : (t : List ℕ) → Nowhere (Passes (is_byte 10) t) 0 (length t) → line_ends t ≡ 0
no_line_ends t none = ap length (places_between-none (is_byte 10) t 0 (length t) (omega arith) none)

-- what stands at a place of two parts
in_first : (s t : List ℕ) (k : ℕ) → k < length s → slice_index (s ++ t) k ≡ slice_index s k
in_first s t k lt = get_or_append_left s t 0 k lt

in_second : (s t : List ℕ) (k : ℕ) → length s ≤ k → slice_index (s ++ t) k ≡ slice_index t (k - length s)
in_second s t k le =
    let same : k ≡ length s + (k - length s) = omega arith in
    ap (slice_index (s ++ t)) same ∙ get_or-append-add s t (k - length s) 0

pub line_goes_on : (s t : List ℕ) (start : ℕ) → IsLineStart s start → Nowhere (Passes (is_byte 10) t) 0 (length t) → IsLineStart (s ++ t) start
line_goes_on s t start h none =
    let long = length-append s t in
    let within = h.within in
    record {
      within = omega arith;
      clean = λ k low high is. ⊎_elim
          (λ lt. h.clean k low lt (sym (in_first s t k lt) ∙ is))
          (λ le. none (k - length s) (omega arith) (omega arith) (ap (is_byte 10) (sym (in_second s t k le) ∙ is)))
          (cases_lt k (length s));
      begins = ⊎_elim (λ z. inl z)
          (λ at. ⊎_elim (λ z. inl (omega arith)) (λ pos. inr (in_first s t (start - 1) (omega arith) ∙ at)) (cases_lt start 1))
          h.begins;
    }

pub line_begins : (s t : List ℕ) (e : ℕ) → NoneAfter (Passes (is_byte 10) t) 0 (length t) e → Passes (is_byte 10) t e → IsLineStart (s ++ t) (length s + e + 1)
line_begins s t e h is =
    let long = length-append s t in
    let high = h.high in
    let last : slice_index (s ++ t) (length s + e + 1 - 1) ≡ 10 =
    let same : length s + e + 1 - 1 ≡ length s + e = omega arith in
    ap (slice_index (s ++ t)) same ∙ get_or-append-add s t e 0 ∙ eqb-true (slice_index t e) 10 is in
    record {
      within = omega arith;
      clean = λ k low up is10. h.after (k - length s) (omega arith) (omega arith) (ap (is_byte 10) (sym (in_second s t k (omega arith)) ∙ is10));
      begins = inr last;
    }

-- The line ends of a text are counted byte by byte, and part by part.
use Rattle.std.proofs.Common.{◌≡◌, ◌+◌, ◌≤◌, ◌<◌, ◌++◌, ℕ, zero, suc, List, take, length, get_or, sym, ap, ◌∙◌, add-one, arith, inl, inr}
use Rattle.std.specs.Prelude.{count_by}
use Rattle.std.proofs.lemmas.Bool.{cases_Bool}
use Rattle.std.proofs.lemmas.List.{take_all}
use Rattle.std.proofs.lemmas.List.Sums.{sum_by-append, count_by-le-length, count_by_more_yes, count_by_more_no}
use Rattle.memchr.specs.Find.{is_byte, places_between}
use Rattle.memchr.proofs.lemmas.PlaceLemmas.{places_between-none, length-places_between-hit, length-places_between-miss}
use Rattle.p21_printed.specs.Places.{line_ends}

-- those among the first bytes
line_ends_before : (t : List ℕ) (n : ℕ) → n ≤ length t → length (places_between (is_byte 10) t 0 n) ≡ count_by (is_byte 10) (take n t)
line_ends_before t zero h = ap length (places_between-none (is_byte 10) t 0 0 (omega arith) (λ k low high. absurd (omega arith)))
line_ends_before t (suc n) h =
    let within : n < length t = omega arith in
    let before = line_ends_before t n (omega arith) in
    let next : length (places_between (is_byte 10) t 0 (n + 1)) ≡ count_by (is_byte 10) (take (n + 1) t) =
    elim (cases_Bool (is_byte 10 (get_or t n 0))) [
      | inl is ↦ length-places_between-hit (is_byte 10) t 0 n (omega arith) is ∙ ap (λ k. k + 1) before ∙ sym (count_by_more_yes (is_byte 10) t n 0 within is)
      | inr not ↦ length-places_between-miss (is_byte 10) t 0 n (omega arith) (λ is. cc) ∙ before ∙ sym (count_by_more_no (is_byte 10) t n 0 within not)
    ] in
    rw add-one at next

pub line_ends_counted : (t : List ℕ) → line_ends t ≡ count_by (is_byte 10) t
line_ends_counted t =
    let whole : take (length t) t ≡ t = take_all (length t) t (omega arith) in
    line_ends_before t (length t) (omega arith) ∙ ap (count_by (is_byte 10)) whole

pub line_ends_of_two : (s t : List ℕ) → line_ends (s ++ t) ≡ line_ends s + line_ends t
line_ends_of_two s t = simp line_ends_counted (sum_by-append _ s t)

pub line_ends_at_most : (t : List ℕ) → line_ends t ≤ length t
line_ends_at_most t = rw line_ends_counted (count_by-le-length (is_byte 10) t)

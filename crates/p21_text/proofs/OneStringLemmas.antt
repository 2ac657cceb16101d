-- Where a text begins with a string token, it begins with no other.
use Rattle.std.proofs.Common.{◌≡◌, ℕ, ◌+◌, ◌≤◌, List, [], ◌∷◌, ◌++◌, length, take, drop, refl, sym, ap, ◌∙◌, arith}
use Rattle.std.proofs.lemmas.List.{length-append, length-take-le}
use Rattle.std.specs.Coded.{le_prop}
use Rattle.p21_text.specs.Spelling.{str}
use Rattle.p21_text.specs.Laws.{HasOneString}
use Rattle.p21_text.proofs.Splits.{cut}
use Rattle.p21_text.proofs.Shapes.{shape}
use Rattle.p21_text.proofs.Groups.{StringFront, only_string}
use Rattle.p21_text.proofs.StringLemmas.{closes_once, spelled_closes}
use Rattle.p21_text.proofs.UniqueLemmas.{spelled_is, symbol_of}

-- two strings at the front of one text, by where they close
string_len : (n : ℕ) (tail front behind : List ℕ) → length front ≡ n → (s : StringFront front behind) → length s.body + 2 ≡ n
string_len n tail front behind e s = omega (arith, e, ap length s.spelled, length-append s.body (39 ∷ []))

same_len : (tail front behind front2 behind2 : List ℕ) → 39 ∷ tail ≡ front ++ behind → 39 ∷ tail ≡ front2 ++ behind2 → StringFront front behind → StringFront front2 behind2 → length front ≤ length front2
same_len tail front behind front2 behind2 e f s u =
    spelled_closes tail front behind e s (length front ≤ length front2) le_prop
    (λ c. spelled_closes tail front2 behind2 f u (length front ≤ length front2) le_prop
    (λ d. let same : length s.body ≡ length u.body = closes_once tail (length s.body) (length u.body) c d in
    omega (arith, string_len (length front) tail front behind refl s, string_len (length front2) tail front2 behind2 refl u)))

pub one_string : (text : List ℕ) → HasOneString text
one_string text n m t body h k s u =
    let tail : List ℕ = (body ++ 39 ∷ []) ++ drop m text in
    let whole : text ≡ 39 ∷ tail = cut text m ∙ ap (λ l. l ++ drop m text) u.0 in
    let e : 39 ∷ tail ≡ take n text ++ drop n text = sym whole ∙ cut text n in
    let f : 39 ∷ tail ≡ take m text ++ drop m text = sym whole ∙ cut text m in
    let front = only_string 39 tail (take n text) (drop n text) e refl (shape (take n text) (drop n text) t s) in
    let other = only_string 39 tail (take m text) (drop m text) f refl (shape (take m text) (drop m text) (str body) u) in
    let one = same_len tail (take n text) (drop n text) (take m text) (drop m text) e f front other in
    let two = same_len tail (take m text) (drop m text) (take n text) (drop n text) f e other front in
    let same : n ≡ m = omega (arith, one, two, length-take-le n text h, length-take-le m text k) in
    (same, spelled_is (take n text) (drop n text) t s ∙ ap (λ j. symbol_of (take j text)) same ∙ sym (spelled_is (take m text) (drop m text) (str body) u))

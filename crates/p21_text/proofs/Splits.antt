-- A list in two parts, and its first n elements as such a part.
use Rattle.std.proofs.Common.{◌≡◌, ℕ, ◌≤◌, List, [], ◌∷◌, ◌++◌, length, take, drop, refl, sym, arith}
use Rattle.std.proofs.lemmas.List.{take-append-drop, take_at, drop_at, length-append}

-- the first m elements and the rest
pub cut : (text : List ℕ) (m : ℕ) → text ≡ take m text ++ drop m text
cut text m = sym (take-append-drop m text)

-- a front is the first so many elements, and what is after it the rest
pub take_front : (text front behind : List ℕ) → text ≡ front ++ behind → take (length front) text ≡ front
take_front text front behind e = rw e (take_at front behind (length front) refl)

pub drop_front : (text front behind : List ℕ) → text ≡ front ++ behind → drop (length front) text ≡ behind
drop_front text front behind e = rw e (drop_at front behind (length front) refl)

pub front_fits : (text front behind : List ℕ) → text ≡ front ++ behind → length front ≤ length text
front_fits text front behind e = rw e (rw length-append (omega arith))

-- two fronts of one length are one, and so is what is after them
pub same_front : (a b c d : List ℕ) → a ++ b ≡ c ++ d → length a ≡ length c → (a ≡ c) × (b ≡ d)
same_front [] b [] d e h = (refl, e)
same_front [] b (y ∷ c) d e h = absurd (omega arith)
same_front (x ∷ a) b [] d e h = absurd (omega arith)
same_front (x ∷ a) b (y ∷ c) d e h =
    let head : x ≡ y = cc in
    let tails : a ++ b ≡ c ++ d = cc in
    let same : (a ≡ c) × (b ≡ d) = same_front a b c d tails (omega arith) in
    let first : a ≡ c = same.0 in
    (cc, same.1)

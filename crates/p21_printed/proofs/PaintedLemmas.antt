-- Painted texts, piece by piece.
use Rattle.std.proofs.Common.{◌≡◌, ◌++◌, ℕ, List, [], cond, refl, sym, subst, is_ok}
use Rattle.std.specs.Prelude.{Result, Ok, Err, OnOk}
use Rattle.p21_printed.specs.Painted.{IsSequence, IsPainted, IsPaintedUpTo, nothing, more, sequence}

-- more of the text
pub with_bytes : {X E : Type 0} (r : Result X E) (t p u q : List ℕ) → IsPainted t p → q ≡ cond (is_ok r) (p ++ u) p → OnOk r (IsPainted (t ++ u) q)
with_bytes (Ok x) t p u q painted is = subst (IsPainted (t ++ u)) (sym is) (more u painted)
with_bytes (Err e) t p u q painted is = tt

-- an escape sequence
pub with_sequence : {X E : Type 0} (r : Result X E) (t p s q : List ℕ) → IsPainted t p → IsSequence s → q ≡ cond (is_ok r) (p ++ s) p → OnOk r (IsPainted t q)
with_sequence (Ok x) t p s q painted is_sequence is = subst (IsPainted t) (sym is) (sequence painted is_sequence)
with_sequence (Err e) t p s q painted is_sequence is = tt

-- nothing is painted of a text so far
pub at_first : (whole p : List ℕ) → p ≡ [] → IsPaintedUpTo whole p whole
at_first whole p is = ([], subst (IsPainted []) (sym is) nothing, refl)

-- what is left is painted too
pub at_last : (whole p rest q : List ℕ) → IsPaintedUpTo whole p rest → ((t : List ℕ) → IsPainted t p → IsPainted (t ++ rest) q) → IsPainted whole q
at_last whole p rest q (t, painted, is) after = subst (λ x. IsPainted x q) (sym is) (after t painted)

-- What some calls of `read` gave is what there was to read.
use Rattle.std.proofs.Common.{◌≡◌, ℕ, ◌+◌, ◌<◌, ◌≤◌, Bool, true, false, ◌||◌, Some, None, arith, length-append, List, [], ◌++◌, Option, Result, Ok, Err, length, take, refl, sym, ap, subst, ◌∙◌, append-nil}
use Rattle.std.specs.Prelude.{IfSome}
use Rattle.std.specs.Io.KnownBytes.{ReadConsumes, Consumes, IsAtEnd}
use Rattle.std.proofs.lemmas.Bool.{false≢true}
use Rattle.std.proofs.KnownBytes.{Consumes-all, Consumes-trans, Consumes-kept}

-- what was consumed is no longer than all that there was
pub at_least : (a c : Option (List ℕ)) (bytes : List ℕ) (most : ℕ) → Consumes a c bytes → most ≤ length bytes → IfSome a (λ all. most ≤ length all)
at_least None c bytes most consumed le = tt
at_least (Some all) None bytes most consumed le = absurd consumed
at_least (Some all) (Some left) bytes most consumed le = omega (arith, le, ap length consumed, length-append bytes left)

abbrev failure : {T E : Type 0} → Result T E → E → E
failure (Ok x) other = other
failure (Err e) other = e

pub same_err : {T E : Type 0} (a b : E) → ◌≡◌ {A = Result T E} (Err a) (Err b) → a ≡ b
same_err a b e = ap (λ r. failure r a) e

-- a mark that is not there was not there before
pub unmarked : (old new fault : Bool) → new ≡ (old || fault) → new ≡ false → (old ≡ false) × (fault ≡ false)
unmarked false new fault is unset = (refl, sym is ∙ unset)
unmarked true new fault is unset = absurd (false≢true (sym unset ∙ is))

-- a call that did not fail leaves the mark of failure as it was
pub unfailed : (first old new failure : Bool) → old ≡ first → new ≡ (old || failure) → failure ≡ false → new ≡ first
unfailed first false new failure same is none = is ∙ none ∙ same
unfailed first true new failure same is none = is ∙ same

-- a mark of failure that stayed was not set
pub never_failed : {P : Type 0} (old new : Bool) → new ≡ old → old ≡ false → new ≡ true → P
never_failed old new same was is = absurd (false≢true (sym was ∙ sym same ∙ is))

module _ {E : Type 0} where
  -- a read of nothing into some room is at the end
  pub read_stops : (b c : Option (List ℕ)) (r : Result ℕ E) (n : ℕ) (buf : List ℕ) → ReadConsumes b c r buf → r ≡ Ok n → n ≡ 0 → 0 < length buf → IsAtEnd c
  read_stops b c r n buf read e zero some = (subst (λ x. ReadConsumes b c x buf) e read).1 zero some

  pub read_end : (a b c : Option (List ℕ)) (r : Result ℕ E) (n : ℕ) (buf bytes : List ℕ) → Consumes a b bytes → ReadConsumes b c r buf → r ≡ Ok n → n ≡ 0 → 0 < length buf → IfSome a (λ all. bytes ≡ all)
  read_end a b c r n buf bytes before read e zero some =
      let now = subst (λ x. ReadConsumes b c x buf) e read in
      let first : take n buf ≡ [] = ap (λ k. take k buf) zero in
      let all : Consumes a c (bytes ++ take n buf) = Consumes-trans a b c bytes (take n buf) before now.0 in
      let none : bytes ≡ bytes ++ take n buf = sym (ap (λ l. bytes ++ l) first ∙ append-nil bytes) in
      Consumes-all a c (bytes ++ take n buf) [] bytes all (now.1 zero some) none

  pub read_more : (a b c : Option (List ℕ)) (r : Result ℕ E) (n : ℕ) (buf bytes : List ℕ) → Consumes a b bytes → ReadConsumes b c r buf → r ≡ Ok n → Consumes a c (bytes ++ take n buf)
  read_more a b c r n buf bytes before read e = Consumes-trans a b c bytes (take n buf) before (subst (λ x. ReadConsumes b c x buf) e read).0

  pub read_again : (a b c : Option (List ℕ)) (r : Result ℕ E) (e : E) (buf bytes : List ℕ) → Consumes a b bytes → ReadConsumes b c r buf → r ≡ Err e → Consumes a c bytes
  read_again a b c r e buf bytes before read f = Consumes-kept a b c bytes before (subst (λ x. ReadConsumes b c x buf) f read)

  pub read_past : (a b c : Option (List ℕ)) (r : Result ℕ E) (n most : ℕ) (buf bytes : List ℕ) → Consumes a b bytes → ReadConsumes b c r buf → r ≡ Ok n → most < length bytes + length (take n buf) → IfSome a (λ all. most ≤ length all)
  read_past a b c r n most buf bytes before read e past =
      at_least a c (bytes ++ take n buf) most (read_more a b c r n buf bytes before read e) (omega (arith, past, length-append bytes (take n buf)))

-- A text of characters that may be printed, and one more.
use Rattle.std.proofs.Common.{◌≡◌, ◌++◌, ℕ, List, Bool, true, false, cond, sym, subst}
use Rattle.std.specs.Prelude.{Result, Ok, Err, OnOk, encode_utf8}
use Rattle.p21_printed.specs.Printed.{IsPrinted, IsPrintable, more}

-- a push leaves such a text such, whether there was memory or none
pub pushed : (b : Bool) (old new : List ℕ) (c : ℕ) → IsPrinted old → IsPrintable c → new ≡ cond b (old ++ encode_utf8 c) old → IsPrinted new
pushed true old new c printed may is = more c printed may is
pushed false old new c printed may is = subst IsPrinted (sym is) printed

-- what holds in any case holds of a success
pub on_ok : {T E : Type 0} {P : Type 0} (r : Result T E) → P → OnOk r P
on_ok (Ok x) p = p
on_ok (Err e) p = tt

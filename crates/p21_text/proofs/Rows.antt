-- Worked examples of the definitions.
use Rattle.std.proofs.Common.{◌≡◌, ℕ, zero, suc, [], refl, inl, inr, arith, codes}
use Rattle.memchr.specs.Find.{OccursAt}
use Rattle.p21_text.specs.Separators.{IsComment, IsSeparators}
use Rattle.p21_text.specs.Separators as separators
use Rattle.p21_text.specs.Items as items
use Rattle.p21_text.specs.Spelling.{Spells, IsInt, IsReal, bits_of}
use Rattle.p21_text.specs.Spelling as token

-- `x*/` holds its `*/` at place 1 alone
once_row : (k : ℕ) → OccursAt (codes "x*/") (codes "*/") k → k ≡ 1
once_row zero o = (let first = o.reads 0 (omega arith) in absurd (omega arith))
once_row (suc zero) o = refl
once_row (suc (suc k)) o = (let fits = o.fits in absurd (omega arith))

comment_row : IsComment (codes "/*x*/")
comment_row = record { body = codes "x"; spelled = refl; once = once_row }

separators_row : IsSeparators (codes " /*x*/")
separators_row = separators.white (inr refl) (separators.comment {rest = []} refl comment_row separators.none)

-- `5` and `1`
five_row : IsInt (codes "5")
five_row = record { sign = []; digits = codes "5"; spelled = refl; is_sign = inl refl; are_digits = ((omega arith, omega arith), tt) }

one_row : IsInt (codes "1")
one_row = record { sign = []; digits = codes "1"; spelled = refl; is_sign = inl refl; are_digits = ((omega arith, omega arith), tt) }

real_row : Spells (codes "1.E5") [] (token.real (codes "1.E5"))
real_row = (refl, record { whole = codes "1"; fraction = []; exponent = codes "E5"; spelled = refl; is_whole = one_row; is_fraction = tt; is_exponent = (refl, five_row) })

-- leading zeros count for nothing, and the number may be the greatest of 64 bits
name_row : Spells (codes "#007") (codes ";") (token.name 7)
name_row = (codes "007", refl, ((omega arith, omega arith), ((omega arith, omega arith), ((omega arith, omega arith), tt))), refl, omega arith, λ h. omega arith)

enumeration_row : Spells (codes ".T.") (codes ".") (token.enumeration (codes "T"))
enumeration_row = (refl, (inl (omega arith, omega arith), tt))

binary_row : Spells (codes "\"23B\"") [] (token.binary (codes "23B"))
binary_row = (refl, (omega arith, omega arith, ((3, items.digit refl (omega arith)), ((11, items.upper refl (omega arith) (omega arith)), tt))))

bits_row : bits_of (codes "23B") ≡ 6
bits_row = refl

no_bits_row : bits_of (codes "0") ≡ 0
no_bits_row = refl

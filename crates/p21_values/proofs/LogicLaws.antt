-- Laws of the logic with three values.
use Rattle.std.proofs.Common.{◌≡◌, refl}
use Rattle.p21_values.specs.Logic.{and_of, not_of, or_of, xor_of}
use Rattle.p21_values.specs.declared.truth.Truth.{Truth}
use Rattle.p21_values.specs.declared.truth.Truth.TheVariants.{False, Unknown, True}

-- the order of the operands plays no part
pub and_commutes : (a b : Truth) → and_of a b ≡ and_of b a
and_commutes False False = refl
and_commutes False Unknown = refl
and_commutes False True = refl
and_commutes Unknown False = refl
and_commutes Unknown Unknown = refl
and_commutes Unknown True = refl
and_commutes True False = refl
and_commutes True Unknown = refl
and_commutes True True = refl

pub or_commutes : (a b : Truth) → or_of a b ≡ or_of b a
or_commutes False False = refl
or_commutes False Unknown = refl
or_commutes False True = refl
or_commutes Unknown False = refl
or_commutes Unknown Unknown = refl
or_commutes Unknown True = refl
or_commutes True False = refl
or_commutes True Unknown = refl
or_commutes True True = refl

pub xor_commutes : (a b : Truth) → xor_of a b ≡ xor_of b a
xor_commutes False False = refl
xor_commutes False Unknown = refl
xor_commutes False True = refl
xor_commutes Unknown False = refl
xor_commutes Unknown Unknown = refl
xor_commutes Unknown True = refl
xor_commutes True False = refl
xor_commutes True Unknown = refl
xor_commutes True True = refl

-- NOT of NOT, of AND and of OR
pub not_twice : (a : Truth) → not_of (not_of a) ≡ a
not_twice False = refl
not_twice Unknown = refl
not_twice True = refl

pub not_and : (a b : Truth) → not_of (and_of a b) ≡ or_of (not_of a) (not_of b)
not_and False b = refl
not_and Unknown False = refl
not_and Unknown Unknown = refl
not_and Unknown True = refl
not_and True b = refl

pub not_or : (a b : Truth) → not_of (or_of a b) ≡ and_of (not_of a) (not_of b)
not_or False b = refl
not_or Unknown False = refl
not_or Unknown Unknown = refl
not_or Unknown True = refl
not_or True b = refl

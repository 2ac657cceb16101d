-- A number that comes as its eight bytes, the lowest first.
use Rattle.std.proofs.Common.{ℕ, ◌≡◌, ◌<◌, ◌+◌, ◌*◌, ◌/◌, ◌%◌, ◌^◌, fold, arith}
use Rattle.std.specs.Hash.{le_bytes}
use Rattle.p21_hash.specs.InstanceNames.{shifted}

-- eight bytes leave nothing of the number before
pub all_shifted : (old name : ℕ) → name < 2 ^ 64 → fold shifted old (le_bytes 8 name) ≡ name
unfolding le_bytes
all_shifted old name fits =
    let two = shifted (shifted old (name % 256)) (name / 2 ^ 8 % 256) in
    let e2 : two ≡ old % 2 ^ 64 / 2 ^ 16 + name % 2 ^ 16 * 2 ^ 48 = omega arith in
    let four = shifted (shifted two (name / 2 ^ 16 % 256)) (name / 2 ^ 24 % 256) in
    let e4 : four ≡ old % 2 ^ 64 / 2 ^ 32 + name % 2 ^ 32 * 2 ^ 32 = omega arith in
    let six = shifted (shifted four (name / 2 ^ 32 % 256)) (name / 2 ^ 40 % 256) in
    let e6 : six ≡ old % 2 ^ 64 / 2 ^ 48 + name % 2 ^ 48 * 2 ^ 16 = omega arith in
    omega arith

-- What is derived of a key.
use Rattle.std.specs.Prelude.{ℕ, ◌+◌, ◌*◌, ◌/◌, ◌%◌, ◌^◌, bit_or, bit_xor}
use Rattle.p21_hash.specs.declared.key.HashKey.{HashKey}
use Rattle.p21_hash.specs.declared.instance_names.InstanceNameHashing.{InstanceNameHashing}
use Rattle.p21_hash.specs.declared.keywords.KeywordHashing.{KeywordHashing}

-- a number with its bits from this one on laid over its lowest, and multiplied
abbrev pub mixed : ℕ → ℕ → ℕ → ℕ
mixed bits multiplier n = (bit_xor n (n / 2 ^ bits) * multiplier) % 2 ^ 64

-- the number at a place of the generator SplitMix64 that begins with the key
abbrev pub number_of : HashKey → ℕ → ℕ
number_of key place =
    let twice = mixed 27 0x94d0_49bb_1331_11eb (mixed 30 0xbf58_476d_1ce4_e5b9 ((key.seed + (place * 0x9e37_79b9_7f4a_7c15) % 2 ^ 64) % 2 ^ 64)) in
    bit_xor twice (twice / 2 ^ 31)

-- the multiplier of stretches, made odd
-- The numbers of a key are those of the generator SplitMix64 that begins with it.
abbrev pub instance_names_of : HashKey → InstanceNameHashing
instance_names_of key = record { stretch_multiplier = bit_or (number_of key 1) 1 }

-- the point, made odd and below 2^58, and the multiplier of values, made odd
abbrev pub keywords_of : HashKey → KeywordHashing
keywords_of key = record { point = bit_or (number_of key 2 / 2 ^ 6) 1; spread_multiplier = bit_or (number_of key 3) 1 }

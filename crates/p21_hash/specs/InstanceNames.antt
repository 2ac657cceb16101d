-- How instance names are hashed.
use Rattle.std.specs.Prelude.{ℕ, ◌+◌, ◌*◌, ◌/◌, ◌%◌, ◌^◌, List, fold}
use Rattle.p21_hash.specs.declared.instance_names.InstanceNameHasher.{InstanceNameHasher}

-- a number of eight bytes, without its lowest and with a byte more at the high end
abbrev pub shifted : ℕ → ℕ → ℕ
shifted name byte = name % 2 ^ 64 / 2 ^ 8 + byte * 2 ^ 56

-- the eight bytes that came last, the lowest first
abbrev pub written : InstanceNameHasher → List ℕ → InstanceNameHasher
written h bytes = record h { name = fold shifted h.name bytes }

-- odd, and its products with numbers in a row lie well apart
abbrev pub block_multiplier : ℕ
block_multiplier = 0xd134_2543_de82_ef95

-- where the 64 places of a block of 256 names begin: by a multiplication of its place in the stretch of 2^26 names, and one of the stretch
abbrev pub begin : InstanceNameHasher → ℕ
begin h = ((h.name / 256 % 0x4_0000 * block_multiplier) % 2 ^ 64 + (h.name / 0x400_0000 * h.stretch_multiplier) % 2 ^ 64) % 2 ^ 64 / 0x10_0000_0000

-- four names in a row on each of these places
abbrev pub place : InstanceNameHasher → ℕ
place h = (begin h + h.name % 256 / 4) % 2 ^ 64

-- the place in the lowest bits, and which of the 256 names in the highest eight
abbrev pub place_in_table : InstanceNameHasher → ℕ
place_in_table h = (place h + (h.name % 256 * 0x100_0000_0000_0000) % 2 ^ 64) % 2 ^ 64

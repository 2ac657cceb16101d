-- Worked examples: names in a row and apart, a name by its bytes, the numbers of a key, and keywords.
use Rattle.std.proofs.Common.{ℕ, ◌≡◌, ◌<◌, ◌+◌, ◌*◌, ◌/◌, ◌%◌, ◌^◌, ◌⊎◌, List, [], ◌∷◌, fold, map, refl, ap, inl, inr, ⊎_elim, ◌∙◌, arith}
use Rattle.std.specs.Prelude.{codes}
use Rattle.std.proofs.lemmas.Bool.{cases_eq}
use Rattle.p21_hash.specs.InstanceNames.{written, block_multiplier, place, place_in_table}
use Rattle.p21_hash.specs.Keys.{instance_names_of, keywords_of, number_of}
use Rattle.p21_hash.specs.Keywords.{added, spread}
use Rattle.p21_hash.specs.declared.instance_names.InstanceNameHasher.{InstanceNameHasher}
use Rattle.p21_hash.specs.declared.key.HashKey.{HashKey}
use Rattle.p21_hash.specs.declared.keywords.KeywordHasher.{KeywordHasher}

-- the key that is always the same
abbrev fixed : HashKey
fixed = record { seed = 0 }

-- the first three numbers of SplitMix64 after 0, as they are published
first_number : number_of fixed 1 ≡ 0xe220_a839_7b1d_cdaf
first_number = refl

second_number : number_of fixed 2 ≡ 0x6e78_9e6a_a1b9_65f4
second_number = refl

third_number : number_of fixed 3 ≡ 0x06c4_5d18_8009_454f
third_number = refl

abbrev named : ℕ → InstanceNameHasher
named n = record { stretch_multiplier = (instance_names_of fixed).stretch_multiplier; name = n }

-- four names share a place, and the next four the next one
fourth_name : place (named 3) ≡ 0
fourth_name = refl

fifth_name : place (named 4) ≡ 1
fifth_name = refl

last_of_the_block : place (named 255) ≡ 63
last_of_the_block = refl

-- the next block of 256 names begins elsewhere
next_block : place (named 256) ≡ 0xd13_4254
next_block = refl

-- and where the next stretch begins hangs on the key
next_stretch : place (named 0x400_0000) ≡ 0xe22_0a83
next_stretch = refl

-- the highest eight bits tell the names of a place apart
on_one_place : place_in_table (named 256) ≡ 0xd13_4254
on_one_place = refl

told_apart : place_in_table (named 259) ≡ 0x300_0000_0d13_4254
told_apart = refl

-- of two names in a row in one block, the second has the place of the first, or the next one
in_a_row : (n : ℕ) → n % 256 < 255 → (place (named (n + 1)) ≡ place (named n)) ⊎ (place (named (n + 1)) ≡ (place (named n) + 1) % 2 ^ 64)
in_a_row n inside =
    let block : (n + 1) / 256 ≡ n / 256 = omega arith in
    let stretch : (n + 1) / 0x400_0000 ≡ n / 0x400_0000 = omega arith in
    let begins : ℕ → ℕ → ℕ = λ b s. ((b % 0x4_0000 * block_multiplier) % 2 ^ 64 + (s * (instance_names_of fixed).stretch_multiplier) % 2 ^ 64) % 2 ^ 64 / 0x10_0000_0000 in
    ⊎_elim
    (λ (last : n % 4 ≡ 3). inr (ap (λ b. (begins b ((n + 1) / 0x400_0000) + (n + 1) % 256 / 4) % 2 ^ 64) block ∙ (ap (λ s. (begins (n / 256) s + (n + 1) % 256 / 4) % 2 ^ 64) stretch ∙ omega arith)))
    (λ (more : (n % 4 ≡ 3) → ⊥). inl (ap (λ b. (begins b ((n + 1) / 0x400_0000) + (n + 1) % 256 / 4) % 2 ^ 64) block ∙ (ap (λ s. (begins (n / 256) s + (n + 1) % 256 / 4) % 2 ^ 64) stretch ∙ omega arith)))
    (cases_eq (n % 4) 3)

-- a name that comes as its bytes, the lowest first
by_bytes : written (named 0) (0x39 ∷ 0x30 ∷ 0 ∷ 0 ∷ 0 ∷ 0 ∷ 0 ∷ 0 ∷ []) ≡ named 0x3039
by_bytes = refl

abbrev unwritten : KeywordHasher
unwritten = record { point = (keywords_of fixed).point; spread_multiplier = (keywords_of fixed).spread_multiplier; sum = 0; word = 1 }

abbrev hash : List ℕ → ℕ
hash bytes = spread (fold added unwritten (map (λ byte. byte ∷ []) bytes))

-- the order of the bytes counts
door : hash (codes "DOOR") ≡ 0x803b_9ff0
door = refl

rood : hash (codes "ROOD") ≡ 0x787f_0a63
rood = refl

-- a keyword of two words and three bytes
cartesian_point : hash (codes "IFCCARTESIANPOINT") ≡ 0x2bdf_2c40
cartesian_point = refl

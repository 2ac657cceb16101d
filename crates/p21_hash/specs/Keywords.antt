-- How keywords are hashed.
use Rattle.std.specs.Prelude.{ℕ, ◌+◌, ◌*◌, ◌/◌, ◌%◌, ◌^◌, nat_le, if◌then◌else◌, List, [], ◌∷◌}
use Rattle.p21_hash.specs.declared.keywords.KeywordHasher.{KeywordHasher}

-- the value of a polynomial with one coefficient more, at a point: two numbers of which 2^61 of the one are the other leave the same
-- modulo 2^61 - 1
abbrev pub with_word : ℕ → ℕ → ℕ → ℕ
with_word sum word point =
    let product = (sum + word) % 2 ^ 64 * point in
    (product % 2 ^ 61 + product / 2 ^ 61 % 2 ^ 64) % 2 ^ 64

-- a word with one byte more; a word of seven bytes is a coefficient more, and the next one begins
abbrev pub with_byte : KeywordHasher → ℕ → KeywordHasher
with_byte h byte =
    let word = ((h.word * 256) % 2 ^ 64 + byte) % 2 ^ 64 in
    if nat_le 0x100_0000_0000_0000 word
    then (record h { sum = with_word h.sum word h.point; word = 1 })
    else (record h { word = word })

-- the byte of a piece that is one byte long; a longer piece adds nothing
abbrev pub added : KeywordHasher → List ℕ → KeywordHasher
added h (byte ∷ []) = with_byte h byte
added h _ = h

-- the value of all words, spread
abbrev pub spread : KeywordHasher → ℕ
spread h = ((h.sum + h.word) % 2 ^ 64 * h.spread_multiplier) % 2 ^ 64 / 0x1_0000_0000

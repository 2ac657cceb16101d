-- The words before others, seen as plain words.
use Rattle.std.proofs.Common.{◌≡◌, ◌-◌, ◌<◌, List, length, take, refl, arith}
use Rattle.std.proofs.lemmas.List.{length-map, take-map}
use Rattle.p21_express.specs.declared.word.Word.{Word}
use Rattle.p21_express.specs.Reader.{word_of, words_of}

pub before_same : (ws rest : List Word) → take (length (words_of ws) - length (words_of rest) - 1) (words_of ws) ≡ words_of (take (length ws - length rest - 1) ws)
before_same ws rest = rw (length-map ws word_of, length-map rest word_of, take-map word_of (length ws - length rest - 1) ws) refl

pub shorter : (a b : List Word) → length (words_of a) < length (words_of b) → length a < length b
shorter a b h = omega (arith, length-map a word_of, length-map b word_of)

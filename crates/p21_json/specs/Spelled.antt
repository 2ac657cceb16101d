-- Names as texts.
use Rattle.std.specs.Prelude.{◌≡◌, ℕ, List, map}
use Rattle.std.specs.Str.{encode_utf8_all}
use Rattle.std.specs.Char.{to_ascii_lowercase}

-- bytes as a text: each byte is a character. What has ASCII alone, as names have, is as it is.
abbrev pub text_of : List ℕ → List ℕ
text_of bytes = encode_utf8_all bytes

-- the text is the name but for the case of letters
pub record IsSpelled (text name : List ℕ) : Type 0 where
  pub bytes : List ℕ
  pub same : map to_ascii_lowercase bytes ≡ map to_ascii_lowercase name
  pub spelled : text ≡ text_of bytes

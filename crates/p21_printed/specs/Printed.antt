-- What may be printed.
use Rattle.std.specs.Prelude.{◌≡◌, ℕ, false, ◌⊎◌, List, [], ◌++◌, encode_utf8}
use Rattle.std.specs.Char.{is_control}

-- a line end, or a character that is none of control
abbrev pub IsPrintable : ℕ → Type 0
IsPrintable c = (c ≡ 10) ⊎ (is_control c ≡ false)

-- a text of such characters, one after the other
pub data IsPrinted : List ℕ → Type 0 where
  nothing : {t : List ℕ} → t ≡ [] → IsPrinted t
  more : {t u : List ℕ} (c : ℕ) → IsPrinted t → IsPrintable c → u ≡ t ++ encode_utf8 c → IsPrinted u

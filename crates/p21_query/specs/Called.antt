-- Names but for the case of their letters.
use Rattle.std.specs.Prelude.{◌≡◌, ℕ, List, map}
use Rattle.std.specs.Char.{to_ascii_lowercase}
use Rattle.p21_json.specs.Spelled.{IsSpelled}

abbrev pub IsSameName : List ℕ → List ℕ → Type 0
IsSameName a b = map to_ascii_lowercase a ≡ map to_ascii_lowercase b

-- the key, as it is spelled, is the name
abbrev pub IsCalled : List ℕ → List ℕ → Type 0
IsCalled name key = (text : List ℕ) × (IsSpelled text key × IsSameName text name)

-- it is another one
abbrev pub IsNotCalled : List ℕ → List ℕ → Type 0
IsNotCalled name key = (text : List ℕ) × (IsSpelled text key × ¬ (IsSameName text name))

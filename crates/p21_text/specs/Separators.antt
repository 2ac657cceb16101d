-- White bytes and comments, which stand between tokens.
use Rattle.std.specs.Prelude.{◌≡◌, ℕ, ◌≤◌, ◌⊎◌, List, [], ◌∷◌, ◌++◌, length}
use Rattle.memchr.specs.Find.{OccursAt}

-- tab, line feed, vertical tab, form feed, carriage return, space
abbrev pub IsWhite : ℕ → Type 0
IsWhite b = ((9 ≤ b) × (b ≤ 13)) ⊎ (b ≡ 32)

-- `/*`, a body and `*/`; after the `/*` the pair `*/` stands at the end alone
pub record IsComment (text : List ℕ) : Type 0 where
  pub body : List ℕ
  pub spelled : text ≡ 47 ∷ 42 ∷ (body ++ 42 ∷ 47 ∷ [])
  pub once : (k : ℕ) → OccursAt (body ++ 42 ∷ 47 ∷ []) (42 ∷ 47 ∷ []) k → k ≡ length body

-- white bytes and comments, one after the other
pub data IsSeparators : List ℕ → Type 0 where
  none : IsSeparators []
  white : {b : ℕ} {rest : List ℕ} → IsWhite b → IsSeparators rest → IsSeparators (b ∷ rest)
  comment : {text front rest : List ℕ} → text ≡ front ++ rest → IsComment front → IsSeparators rest → IsSeparators text

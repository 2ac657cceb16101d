-- Which spellings a first byte leaves.
use Rattle.std.proofs.Common.{◌≡◌, ◌≢◌, ℕ, ◌^◌, ◌<◌, ◌⊎◌, List, [], ◌∷◌, ◌++◌, length, sym, ap, ◌∙◌, subst, arith}
use Rattle.p21_text.specs.Items.{IsBody}
use Rattle.p21_text.specs.Spelling.{IsUpper, IsDigit, IsName, IsDigits, IsInt, IsReal, IsBinary, NotBefore, decimal_from}
use Rattle.p21_text.specs.Runs.{IsNumberByte, FirstIs}
use Rattle.p21_text.proofs.Shapes.{IsSingle, Shape, word, number, single, name, string, enumeration, binary, user, IsWord}

-- what holds of the first byte of a front holds of the text's
first_is : (P : ℕ → Type 0) (b : ℕ) (tail front behind : List ℕ) → b ∷ tail ≡ front ++ behind → FirstIs P front → P b
first_is P b tail [] behind e h = absurd h
first_is P b tail (x ∷ front) behind e h = let same : b ≡ x = cc in subst P (sym same) h

head_is : (b c : ℕ) (tail rest front behind : List ℕ) → b ∷ tail ≡ front ++ behind → front ≡ c ∷ rest → b ≡ c
head_is b c tail rest front behind e f = let whole : b ∷ tail ≡ c ∷ (rest ++ behind) = e ∙ ap (λ t. t ++ behind) f in cc

pub tail_is : (b c : ℕ) (tail rest front behind : List ℕ) → b ∷ tail ≡ front ++ behind → front ≡ c ∷ rest → tail ≡ rest ++ behind
tail_is b c tail rest front behind e f = let whole : b ∷ tail ≡ c ∷ (rest ++ behind) = e ∙ ap (λ t. t ++ behind) f in cc

-- what `#` begins
pub record NameFront (front behind : List ℕ) : Type 0 where
  pub digits : List ℕ
  pub spelled : front ≡ 35 ∷ digits
  pub are_digits : IsDigits digits
  pub fits : decimal_from 0 digits < 2 ^ 64
  pub stops : NotBefore IsDigit behind

-- what an apostrophe begins
pub record StringFront (front behind : List ℕ) : Type 0 where
  pub body : List ℕ
  pub spelled : front ≡ 39 ∷ (body ++ 39 ∷ [])
  pub is_body : IsBody body
  pub stops : NotBefore (λ b. b ≡ 39) behind

-- no token begins with the byte
abbrev pub BeginsNothing : ℕ → Type 0
BeginsNothing b = ¬ (IsUpper b) × ¬ (IsNumberByte b) × ¬ (IsSingle b) × (b ≢ 35) × (b ≢ 39) × (b ≢ 46) × (b ≢ 34) × (b ≢ 33)

-- The first byte leaves one kind of spelling.
module _ (b : ℕ) (tail front behind : List ℕ) (e : b ∷ tail ≡ front ++ behind) where
  pub only_word : IsUpper b → Shape front behind → IsWord front
  only_word u (word h w) = w
  only_word u (number h n) = let k = first_is IsNumberByte b tail front behind e h in absurd (omega arith)
  only_word u (single c f s) = let k = head_is b c tail [] front behind e f in absurd (omega arith)
  only_word u (name ds f h v l) = let k = head_is b 35 tail ds front behind e f in absurd (omega arith)
  only_word u (string s f h l) = let k = head_is b 39 tail (s ++ 39 ∷ []) front behind e f in absurd (omega arith)
  only_word u (enumeration n f h) = let k = head_is b 46 tail (n ++ 46 ∷ []) front behind e f in absurd (omega arith)
  only_word u (binary s f h) = let k = head_is b 34 tail (s ++ 34 ∷ []) front behind e f in absurd (omega arith)
  only_word u (user n f h) = let k = head_is b 33 tail n front behind e f in absurd (omega arith)

  pub only_number : IsNumberByte b → Shape front behind → IsInt front ⊎ IsReal front
  only_number u (word h w) = let k = first_is IsUpper b tail front behind e h in absurd (omega arith)
  only_number u (number h n) = n
  only_number u (single c f s) = let k = head_is b c tail [] front behind e f in absurd (omega arith)
  only_number u (name ds f h v l) = let k = head_is b 35 tail ds front behind e f in absurd (omega arith)
  only_number u (string s f h l) = let k = head_is b 39 tail (s ++ 39 ∷ []) front behind e f in absurd (omega arith)
  only_number u (enumeration n f h) = let k = head_is b 46 tail (n ++ 46 ∷ []) front behind e f in absurd (omega arith)
  only_number u (binary s f h) = let k = head_is b 34 tail (s ++ 34 ∷ []) front behind e f in absurd (omega arith)
  only_number u (user n f h) = let k = head_is b 33 tail n front behind e f in absurd (omega arith)

  pub only_single : IsSingle b → Shape front behind → length front ≡ 1
  only_single u (word h w) = let k = first_is IsUpper b tail front behind e h in absurd (omega arith)
  only_single u (number h n) = let k = first_is IsNumberByte b tail front behind e h in absurd (omega arith)
  only_single u (single c f s) = ap length f
  only_single u (name ds f h v l) = let k = head_is b 35 tail ds front behind e f in absurd (omega arith)
  only_single u (string s f h l) = let k = head_is b 39 tail (s ++ 39 ∷ []) front behind e f in absurd (omega arith)
  only_single u (enumeration n f h) = let k = head_is b 46 tail (n ++ 46 ∷ []) front behind e f in absurd (omega arith)
  only_single u (binary s f h) = let k = head_is b 34 tail (s ++ 34 ∷ []) front behind e f in absurd (omega arith)
  only_single u (user n f h) = let k = head_is b 33 tail n front behind e f in absurd (omega arith)

  pub only_name : b ≡ 35 → Shape front behind → NameFront front behind
  only_name u (word h w) = let k = first_is IsUpper b tail front behind e h in absurd (omega arith)
  only_name u (number h n) = let k = first_is IsNumberByte b tail front behind e h in absurd (omega arith)
  only_name u (single c f s) = let k = head_is b c tail [] front behind e f in absurd (omega arith)
  only_name u (name ds f h v l) = record { digits = ds; spelled = f; are_digits = h; fits = v; stops = l }
  only_name u (string s f h l) = let k = head_is b 39 tail (s ++ 39 ∷ []) front behind e f in absurd (omega arith)
  only_name u (enumeration n f h) = let k = head_is b 46 tail (n ++ 46 ∷ []) front behind e f in absurd (omega arith)
  only_name u (binary s f h) = let k = head_is b 34 tail (s ++ 34 ∷ []) front behind e f in absurd (omega arith)
  only_name u (user n f h) = let k = head_is b 33 tail n front behind e f in absurd (omega arith)

  pub only_enumeration : b ≡ 46 → Shape front behind → (n : List ℕ) × (front ≡ 46 ∷ (n ++ 46 ∷ [])) × IsName n
  only_enumeration u (word h w) = let k = first_is IsUpper b tail front behind e h in absurd (omega arith)
  only_enumeration u (number h n) = let k = first_is IsNumberByte b tail front behind e h in absurd (omega arith)
  only_enumeration u (single c f s) = let k = head_is b c tail [] front behind e f in absurd (omega arith)
  only_enumeration u (name ds f h v l) = let k = head_is b 35 tail ds front behind e f in absurd (omega arith)
  only_enumeration u (string s f h l) = let k = head_is b 39 tail (s ++ 39 ∷ []) front behind e f in absurd (omega arith)
  only_enumeration u (enumeration n f h) = (n, f, h)
  only_enumeration u (binary s f h) = let k = head_is b 34 tail (s ++ 34 ∷ []) front behind e f in absurd (omega arith)
  only_enumeration u (user n f h) = let k = head_is b 33 tail n front behind e f in absurd (omega arith)

  pub only_binary : b ≡ 34 → Shape front behind → (s : List ℕ) × (front ≡ 34 ∷ (s ++ 34 ∷ [])) × IsBinary s
  only_binary u (word h w) = let k = first_is IsUpper b tail front behind e h in absurd (omega arith)
  only_binary u (number h n) = let k = first_is IsNumberByte b tail front behind e h in absurd (omega arith)
  only_binary u (single c f s) = let k = head_is b c tail [] front behind e f in absurd (omega arith)
  only_binary u (name ds f h v l) = let k = head_is b 35 tail ds front behind e f in absurd (omega arith)
  only_binary u (string s f h l) = let k = head_is b 39 tail (s ++ 39 ∷ []) front behind e f in absurd (omega arith)
  only_binary u (enumeration n f h) = let k = head_is b 46 tail (n ++ 46 ∷ []) front behind e f in absurd (omega arith)
  only_binary u (binary s f h) = (s, f, h)
  only_binary u (user n f h) = let k = head_is b 33 tail n front behind e f in absurd (omega arith)

  pub only_string : b ≡ 39 → Shape front behind → StringFront front behind
  only_string u (word h w) = let k = first_is IsUpper b tail front behind e h in absurd (omega arith)
  only_string u (number h n) = let k = first_is IsNumberByte b tail front behind e h in absurd (omega arith)
  only_string u (single c f s) = let k = head_is b c tail [] front behind e f in absurd (omega arith)
  only_string u (name ds f h v l) = let k = head_is b 35 tail ds front behind e f in absurd (omega arith)
  only_string u (string s f h l) = record { body = s; spelled = f; is_body = h; stops = l }
  only_string u (enumeration n f h) = let k = head_is b 46 tail (n ++ 46 ∷ []) front behind e f in absurd (omega arith)
  only_string u (binary s f h) = let k = head_is b 34 tail (s ++ 34 ∷ []) front behind e f in absurd (omega arith)
  only_string u (user n f h) = let k = head_is b 33 tail n front behind e f in absurd (omega arith)

  pub only_user : b ≡ 33 → Shape front behind → (n : List ℕ) × (front ≡ 33 ∷ n) × IsName n
  only_user u (word h w) = let k = first_is IsUpper b tail front behind e h in absurd (omega arith)
  only_user u (number h n) = let k = first_is IsNumberByte b tail front behind e h in absurd (omega arith)
  only_user u (single c f s) = let k = head_is b c tail [] front behind e f in absurd (omega arith)
  only_user u (name ds f h v l) = let k = head_is b 35 tail ds front behind e f in absurd (omega arith)
  only_user u (string s f h l) = let k = head_is b 39 tail (s ++ 39 ∷ []) front behind e f in absurd (omega arith)
  only_user u (enumeration n f h) = let k = head_is b 46 tail (n ++ 46 ∷ []) front behind e f in absurd (omega arith)
  only_user u (binary s f h) = let k = head_is b 34 tail (s ++ 34 ∷ []) front behind e f in absurd (omega arith)
  only_user u (user n f h) = (n, f, h)

  pub only_nothing : BeginsNothing b → Shape front behind → ⊥
  only_nothing u (word h w) = u.0 (first_is IsUpper b tail front behind e h)
  only_nothing u (number h n) = u.1 (first_is IsNumberByte b tail front behind e h)
  only_nothing u (single c f s) = u.2 (subst IsSingle (sym (head_is b c tail [] front behind e f)) s)
  only_nothing u (name ds f h v l) = u.3 (head_is b 35 tail ds front behind e f)
  only_nothing u (string s f h l) = u.4 (head_is b 39 tail (s ++ 39 ∷ []) front behind e f)
  only_nothing u (enumeration n f h) = u.5 (head_is b 46 tail (n ++ 46 ∷ []) front behind e f)
  only_nothing u (binary s f h) = u.6 (head_is b 34 tail (s ++ 34 ∷ []) front behind e f)
  only_nothing u (user n f h) = u.7 (head_is b 33 tail n front behind e f)

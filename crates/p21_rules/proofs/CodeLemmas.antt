-- Different values are written by different bytes.
use Rattle.std.proofs.Common.{◌≡◌, ◌<◌, ◌+◌, ◌/◌, ◌%◌, ◌^◌, ℕ, true, false, List, [], ◌∷◌, ◌++◌, cond, refl, sym, ap, ◌∙◌, ⊎_elim, append_assoc, arith}
use Rattle.std.specs.Prelude.{nat_lt}
use Rattle.std.proofs.lemmas.List.{append-nil}
use Rattle.std.proofs.lemmas.Bool.{cases_Bool, ltb-true}
use Rattle.p21_rules.specs.Code.{triple, number_code, scalar_code, bytes_code, value_code, elements_code, values_code, key_code}
use Rattle.p21_rules.specs.Value.{Value, Values, number, text, spelled, item, instance, binary, list, bag, typed, nil, cons}

triple_once : (m n : ℕ) → m / 65536 ≡ n / 65536 → m / 256 % 256 ≡ n / 256 % 256 → m % 256 ≡ n % 256 → m ≡ n
triple_once m n high mid low = omega arith

triple_split : (m n : ℕ) (a b : List ℕ) → triple m ++ a ≡ triple n ++ b → (m ≡ n) × (a ≡ b)
triple_split m n a b e =
    let high : m / 65536 ≡ n / 65536 = cc in
    let mid : m / 256 % 256 ≡ n / 256 % 256 = cc in
    let low : m % 256 ≡ n % 256 = cc in
    let rest : a ≡ b = cc in
    (triple_once m n high mid low, rest)

number_once : (m n : ℕ) → m / 2 ^ 48 ≡ n / 2 ^ 48 → m / 2 ^ 24 % 2 ^ 24 ≡ n / 2 ^ 24 % 2 ^ 24 → m % 2 ^ 24 ≡ n % 2 ^ 24 → m ≡ n
number_once m n high mid low = omega arith

number_split : (m n : ℕ) (a b : List ℕ) → number_code m ++ a ≡ number_code n ++ b → (m ≡ n) × (a ≡ b)
number_split m n a b e =
    let first = triple_split (m / 2 ^ 48) (n / 2 ^ 48) (triple (m / 2 ^ 24 % 2 ^ 24) ++ (triple (m % 2 ^ 24) ++ a)) (triple (n / 2 ^ 24 % 2 ^ 24) ++ (triple (n % 2 ^ 24) ++ b)) e in
    let second = triple_split (m / 2 ^ 24 % 2 ^ 24) (n / 2 ^ 24 % 2 ^ 24) (triple (m % 2 ^ 24) ++ a) (triple (n % 2 ^ 24) ++ b) first.1 in
    let third = triple_split (m % 2 ^ 24) (n % 2 ^ 24) a b second.1 in
    (number_once m n first.0 second.0 third.0, third.1)

-- the two forms of a character
scalar_low : (c : ℕ) → nat_lt c 128 ≡ true → (c < 128) × (scalar_code c ≡ (c + 1) ∷ [])
unfolding scalar_code
scalar_low c h = (ltb-true c 128 h, ap (λ b. cond b ((c + 1) ∷ []) (200 ∷ triple c)) h)

scalar_high : (c : ℕ) → nat_lt c 128 ≡ false → scalar_code c ≡ 200 ∷ triple c
unfolding scalar_code
scalar_high c h = ap (λ b. cond b ((c + 1) ∷ []) (200 ∷ triple c)) h

scalar_split : (c d : ℕ) (a b : List ℕ) → scalar_code c ++ a ≡ scalar_code d ++ b → (c ≡ d) × (a ≡ b)
scalar_split c d a b e =
    ⊎_elim
    (λ (h : nat_lt c 128 ≡ true). let p = scalar_low c h in
    ⊎_elim
    (λ (k : nat_lt d 128 ≡ true). let q = scalar_low d k in low p.1 q.1 e)
    (λ (k : nat_lt d 128 ≡ false). absurd (mixed c d a b p.0 p.1 (scalar_high d k) e))
    (cases_Bool (nat_lt d 128)))
    (λ (h : nat_lt c 128 ≡ false). let p = scalar_high c h in
    ⊎_elim
    (λ (k : nat_lt d 128 ≡ true). let q = scalar_low d k in absurd (mixed d c b a q.0 q.1 p (sym e)))
    (λ (k : nat_lt d 128 ≡ false). high p (scalar_high d k) e)
    (cases_Bool (nat_lt d 128)))
    (cases_Bool (nat_lt c 128))
  where
    low : scalar_code c ≡ (c + 1) ∷ [] → scalar_code d ≡ (d + 1) ∷ [] → scalar_code c ++ a ≡ scalar_code d ++ b → (c ≡ d) × (a ≡ b)
    low p q e =
        let both : (c + 1) ∷ a ≡ (d + 1) ∷ b = sym (ap (λ l. l ++ a) p) ∙ e ∙ ap (λ l. l ++ b) q in
        let one : c + 1 ≡ d + 1 = cc in
        let rest : a ≡ b = cc in
        (omega arith, rest)

    high : scalar_code c ≡ 200 ∷ triple c → scalar_code d ≡ 200 ∷ triple d → scalar_code c ++ a ≡ scalar_code d ++ b → (c ≡ d) × (a ≡ b)
    high p q e =
        let both : 200 ∷ (triple c ++ a) ≡ 200 ∷ (triple d ++ b) = sym (ap (λ l. l ++ a) p) ∙ e ∙ ap (λ l. l ++ b) q in
        let rest : triple c ++ a ≡ triple d ++ b = cc in
        triple_split c d a b rest

    mixed : (c d : ℕ) (a b : List ℕ) → c < 128 → scalar_code c ≡ (c + 1) ∷ [] → scalar_code d ≡ 200 ∷ triple d → scalar_code c ++ a ≡ scalar_code d ++ b → ⊥
    mixed c d a b less p q e =
        let both : (c + 1) ∷ a ≡ 200 ∷ (triple d ++ b) = sym (ap (λ l. l ++ a) p) ∙ e ∙ ap (λ l. l ++ b) q in
        let one : c + 1 ≡ 200 = cc in
        omega arith

-- a byte begins as no end
scalar_first : (c : ℕ) (a b : List ℕ) → scalar_code c ++ a ≡ 0 ∷ b → ⊥
scalar_first c a b e =
    ⊎_elim
    (λ (h : nat_lt c 128 ≡ true).
    let p = scalar_low c h in
    let both : (c + 1) ∷ a ≡ 0 ∷ b = sym (ap (λ l. l ++ a) p.1) ∙ e in
    let one : c + 1 ≡ 0 = cc in
    omega arith)
    (λ (h : nat_lt c 128 ≡ false).
    let both : 200 ∷ (triple c ++ a) ≡ 0 ∷ b = sym (ap (λ l. l ++ a) (scalar_high c h)) ∙ e in
    let one : ◌≡◌ {A = ℕ} 200 0 = cc in
    omega arith)
    (cases_Bool (nat_lt c 128))

bytes_split : (xs ys : List ℕ) (a b : List ℕ) → bytes_code xs ++ a ≡ bytes_code ys ++ b → (xs ≡ ys) × (a ≡ b)
bytes_split [] [] a b e = let rest : a ≡ b = cc in (refl, rest)
bytes_split [] (y ∷ ys) a b e = absurd (scalar_first y (bytes_code ys ++ b) a (sym (append_assoc (scalar_code y) (bytes_code ys) b) ∙ sym e))
bytes_split (x ∷ xs) [] a b e = absurd (scalar_first x (bytes_code xs ++ a) b (sym (append_assoc (scalar_code x) (bytes_code xs) a) ∙ e))
bytes_split (x ∷ xs) (y ∷ ys) a b e =
    let first = scalar_split x y (bytes_code xs ++ a) (bytes_code ys ++ b) (sym (append_assoc (scalar_code x) (bytes_code xs) a) ∙ e ∙ append_assoc (scalar_code y) (bytes_code ys) b) in
    let rest = bytes_split xs ys a b first.1 in
    (ap (λ u. u ∷ xs) first.0 ∙ ap (λ l. y ∷ l) rest.0, rest.1)

behind_tag : (t u : ℕ) (a b : List ℕ) → t ∷ a ≡ u ∷ b → a ≡ b
behind_tag t u a b e = cc

-- no value begins as the end of a list
no_end : (v : Value) (a b : List ℕ) → value_code v ++ a ≡ 0 ∷ b → ⊥
no_end (number s h l) a b e = let one : ◌≡◌ {A = ℕ} 1 0 = cc in omega (arith, one)
no_end (text s) a b e = let one : ◌≡◌ {A = ℕ} 2 0 = cc in omega (arith, one)
no_end (item s) a b e = let one : ◌≡◌ {A = ℕ} 3 0 = cc in omega (arith, one)
no_end (instance n) a b e = let one : ◌≡◌ {A = ℕ} 4 0 = cc in omega (arith, one)
no_end (typed k v) a b e = let one : ◌≡◌ {A = ℕ} 5 0 = cc in omega (arith, one)
no_end (binary s) a b e = let one : ◌≡◌ {A = ℕ} 6 0 = cc in omega (arith, one)
no_end (list vs) a b e = let one : ◌≡◌ {A = ℕ} 7 0 = cc in omega (arith, one)
no_end (bag vs) a b e = let one : ◌≡◌ {A = ℕ} 8 0 = cc in omega (arith, one)
no_end (spelled s) a b e = let one : ◌≡◌ {A = ℕ} 9 0 = cc in omega (arith, one)

mutual
  value_split : (v w : Value) (a b : List ℕ) → value_code v ++ a ≡ value_code w ++ b → (v ≡ w) × (a ≡ b)
  value_split (number s h l) (number t i k) a b e =
      let behind = behind_tag 1 1 ((bytes_code s ++ (number_code h ++ number_code l)) ++ a) ((bytes_code t ++ (number_code i ++ number_code k)) ++ b) e in
      let digits = bytes_split s t ((number_code h ++ number_code l) ++ a) ((number_code i ++ number_code k) ++ b) (sym (append_assoc (bytes_code s) (number_code h ++ number_code l) a) ∙ behind ∙ append_assoc (bytes_code t) (number_code i ++ number_code k) b) in
      let up = number_split h i (number_code l ++ a) (number_code k ++ b) (sym (append_assoc (number_code h) (number_code l) a) ∙ digits.1 ∙ append_assoc (number_code i) (number_code k) b) in
      let down = number_split l k a b up.1 in
      (ap (λ u. number u h l) digits.0 ∙ ap (λ u. number t u l) up.0 ∙ ap (number t i) down.0, down.1)
  value_split (text s) (text t) a b e = let r = bytes_split s t a b (behind_tag 2 2 (bytes_code s ++ a) (bytes_code t ++ b) e) in (ap text r.0, r.1)
  value_split (spelled s) (spelled t) a b e = let r = bytes_split s t a b (behind_tag 9 9 (bytes_code s ++ a) (bytes_code t ++ b) e) in (ap spelled r.0, r.1)
  value_split (item s) (item t) a b e = let r = bytes_split s t a b (behind_tag 3 3 (bytes_code s ++ a) (bytes_code t ++ b) e) in (ap item r.0, r.1)
  value_split (instance m) (instance n) a b e = let r = number_split m n a b (behind_tag 4 4 (number_code m ++ a) (number_code n ++ b) e) in (ap instance r.0, r.1)
  value_split (binary s) (binary t) a b e = let r = bytes_split s t a b (behind_tag 6 6 (bytes_code s ++ a) (bytes_code t ++ b) e) in (ap binary r.0, r.1)
  value_split (typed k v) (typed l w) a b e =
      let behind = behind_tag 5 5 ((bytes_code k ++ value_code v) ++ a) ((bytes_code l ++ value_code w) ++ b) e in
      let first = bytes_split k l (value_code v ++ a) (value_code w ++ b) (sym (append_assoc (bytes_code k) (value_code v) a) ∙ behind ∙ append_assoc (bytes_code l) (value_code w) b) in
      let rest = value_split v w a b first.1 in
      (ap (λ u. typed u v) first.0 ∙ ap (typed l) rest.0, rest.1)
  value_split (list vs) (list ws) a b e = let r = elements_split vs ws a b (behind_tag 7 7 (elements_code vs ++ a) (elements_code ws ++ b) e) in (ap list r.0, r.1)
  value_split (bag vs) (bag ws) a b e = let r = elements_split vs ws a b (behind_tag 8 8 (elements_code vs ++ a) (elements_code ws ++ b) e) in (ap bag r.0, r.1)
  value_split (number s h l) w a b e = cc
  value_split (text s) w a b e = cc
  value_split (item s) w a b e = cc
  value_split (instance m) w a b e = cc
  value_split (binary s) w a b e = cc
  value_split (list vs) w a b e = cc
  value_split (bag vs) w a b e = cc
  value_split (spelled s) w a b e = cc
  value_split (typed k v) w a b e = cc

  elements_split : (vs ws : Values) (a b : List ℕ) → elements_code vs ++ a ≡ elements_code ws ++ b → (vs ≡ ws) × (a ≡ b)
  elements_split nil nil a b e = let rest : a ≡ b = cc in (refl, rest)
  elements_split nil (cons w ws) a b e = absurd (no_end w (elements_code ws ++ b) a (sym (append_assoc (value_code w) (elements_code ws) b) ∙ sym e))
  elements_split (cons v vs) nil a b e = absurd (no_end v (elements_code vs ++ a) b (sym (append_assoc (value_code v) (elements_code vs) a) ∙ e))
  elements_split (cons v vs) (cons w ws) a b e =
      let first = value_split v w (elements_code vs ++ a) (elements_code ws ++ b) (sym (append_assoc (value_code v) (elements_code vs) a) ∙ e ∙ append_assoc (value_code w) (elements_code ws) b) in
      let rest = elements_split vs ws a b first.1 in
      (ap (λ u. cons u vs) first.0 ∙ ap (cons w) rest.0, rest.1)

some : (v : Value) (a : List ℕ) → value_code v ++ a ≡ [] → ⊥
some (number s h l) a e = cc
some (text s) a e = cc
some (item s) a e = cc
some (instance n) a e = cc
some (binary s) a e = cc
some (list vs) a e = cc
some (bag vs) a e = cc
some (spelled s) a e = cc
some (typed k v) a e = cc

pub code_once : (v w : Value) → value_code v ≡ value_code w → v ≡ w
code_once v w e = (value_split v w [] [] (append-nil (value_code v) ∙ e ∙ sym (append-nil (value_code w)))).0

values_once : (vs ws : List Value) → values_code vs ≡ values_code ws → vs ≡ ws
values_once [] [] e = refl
values_once [] (w ∷ ws) e = absurd (some w (values_code ws) (sym e))
values_once (v ∷ vs) [] e = absurd (some v (values_code vs) e)
values_once (v ∷ vs) (w ∷ ws) e =
    let r = value_split v w (values_code vs) (values_code ws) e in
    ap (λ u. u ∷ vs) r.0 ∙ ap (λ l. w ∷ l) (values_once vs ws r.1)

-- a key is of one rule and one list of values
pub key_once : (j k : ℕ) (vs ws : List Value) → key_code j vs ≡ key_code k ws → (j ≡ k) × (vs ≡ ws)
key_once j k vs ws e = let r = number_split j k (values_code vs) (values_code ws) e in (r.0, values_once vs ws r.1)

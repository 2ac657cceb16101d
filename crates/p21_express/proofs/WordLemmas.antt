-- Single words: what tests on them and reading them say.
use Rattle.std.proofs.Common.{◌≡◌, ℕ, Bool, true, false, cond, List, [], ◌∷◌, Option, Some, None, refl, ap, eqb}
use Rattle.std.specs.Str.{bytes_eq}
use Rattle.std.proofs.lemmas.Slice.Eq.{bytes_eq-Decides}
use Rattle.std.proofs.lemmas.Bool.Decides.{Decides-eqb}
use Rattle.p21_express.specs.Word.{Word, name, integer, string, symbol, is_name, is_symbol}
use Rattle.p21_express.specs.Reader.{◌>>=◌, name_at, word_at, symbol_at}

pub bind_some : {A B : Type 0} (r : Option A) (f : A → Option B) (y : B) → (r >>= f) ≡ Some y → (x : A) × (r ≡ Some x) × (f x ≡ Some y)
bind_some None f y e = absurd cc
bind_some (Some x) f y e = (x, refl, e)

pub some_is : {A : Type 0} (x y : A) → Some x ≡ Some y → x ≡ y
some_is x y e = cc

pub guard_some : {A : Type 0} (b : Bool) (x y : A) → cond b (Some x) None ≡ Some y → (b ≡ true) × (x ≡ y)
guard_some true x y e = (refl, cc)
guard_some false x y e = absurd cc

pub symbol_true : (c : ℕ) (w : Word) → is_symbol c w ≡ true → w ≡ symbol c
symbol_true c (name n) e = absurd cc
symbol_true c (integer v) e = absurd cc
symbol_true c string e = absurd cc
symbol_true c (symbol b) e = ap symbol ((Decides-eqb b c).0 e)

pub name_true : (n : List ℕ) (w : Word) → is_name n w ≡ true → w ≡ name n
name_true n (name m) e = ap name ((bytes_eq-Decides m n).0 e)
name_true n (integer v) e = absurd cc
name_true n string e = absurd cc
name_true n (symbol b) e = absurd cc

pub same_name : (n : List ℕ) → bytes_eq n n ≡ true
same_name n = (bytes_eq-Decides n n).1 refl

pub same_symbol : (c : ℕ) → eqb c c ≡ true
same_symbol c = (Decides-eqb c c).1 refl

pub symbol_sound : (c : ℕ) (ws rest : List Word) → symbol_at c ws ≡ Some rest → ws ≡ symbol c ∷ rest
symbol_sound c [] rest h = absurd cc
symbol_sound c (w ∷ ws) rest h =
    let g = guard_some (is_symbol c w) ws rest h in
    rw (symbol_true c w g.0, g.1) refl

pub word_sound : (n : List ℕ) (ws rest : List Word) → word_at n ws ≡ Some rest → ws ≡ name n ∷ rest
word_sound n [] rest h = absurd cc
word_sound n (w ∷ ws) rest h =
    let g = guard_some (is_name n w) ws rest h in
    rw (name_true n w g.0, g.1) refl

pub name_sound : (ws : List Word) (x : List ℕ × List Word) → name_at ws ≡ Some x → ws ≡ name x.0 ∷ x.1
name_sound [] x h = absurd cc
name_sound (name n ∷ ws) x h =
    let e : (n, ws) ≡ x = cc in
    ap (λ (y : List ℕ × List Word). name y.0 ∷ y.1) e
name_sound (integer v ∷ ws) x h = absurd cc
name_sound (string ∷ ws) x h = absurd cc
name_sound (symbol b ∷ ws) x h = absurd cc

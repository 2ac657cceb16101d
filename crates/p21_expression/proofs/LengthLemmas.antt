-- Reading leaves fewer words than there were.
use Rattle.std.proofs.Common.{◌≡◌, ℕ, zero, suc, ◌<◌, ◌≤◌, Bool, true, false, cond, List, [], ◌∷◌, length, Option, Some, None, refl, sym, arith}
use Rattle.std.proofs.lemmas.List.{length-map}
use Rattle.p21_express.specs.declared.word.Word as source
use Rattle.p21_express.specs.Word.{Word, name, integer, string, symbol, is_symbol}
use Rattle.p21_express.specs.Reader.{◌>>=◌, word_of, words_of, name_at, symbol_at, many_by, many}

-- What is read leaves fewer than `n` words.
pub record Leaves {A : Type 0} (left : A → List Word) (n : ℕ) (read : Option A) : Type 0 where
  pub fewer : (x : A) → read ≡ Some x → length (left x) < n

-- Behind each thing that is read there are fewer words.
pub record Shrinks {X : Type 0} (item : List Word → Option (X × List Word)) : Type 0 where
  pub leaves : (n : ℕ) (ws : List Word) → length ws ≤ n → Leaves (λ x. x.1) n (item ws)

pub less : {X : Type 0} {item : List Word → Option (X × List Word)} {x : X} → Shrinks item → (ws mid : List Word) → item ws ≡ Some (x, mid) → length mid < length ws
less {x = x} s ws mid h = (s.leaves (length ws) ws (omega arith)).fewer (x, mid) h

pub shorter : {X : Type 0} {item : List Word → Option (X × List Word)} {x : X} → Shrinks item → (ws mid : List source.Word) → item (words_of ws) ≡ Some (x, words_of mid) → length mid < length ws
shorter s ws mid h = let k = less s (words_of ws) (words_of mid) h in omega (arith, length-map ws word_of, length-map mid word_of, k)

pub leaves_none : {A : Type 0} {left : A → List Word} {n : ℕ} → Leaves left n None
leaves_none = record { fewer = λ x h. absurd cc }

pub leaves_some : {A : Type 0} {left : A → List Word} {n : ℕ} (x : A) → length (left x) < n → Leaves left n (Some x)
leaves_some {left = left} {n} x h = record { fewer = λ y e. let k : x ≡ y = cc in rw (sym k) h }

pub then : {A B : Type 0} {first : A → List Word} {second : B → List Word} {m n : ℕ} (read : Option A) (f : A → Option B) → Leaves first m read → ((x : A) → length (first x) < m → Leaves second n (f x)) → Leaves second n (read >>= f)
then None f l more = leaves_none
then (Some x) f l more = more x (l.fewer x refl)

pub either : {A : Type 0} {left : A → List Word} {n : ℕ} (b : Bool) (x y : Option A) → Leaves left n x → Leaves left n y → Leaves left n (cond b x y)
either true x y l m = l
either false x y l m = m

pub name_leaves : (n : ℕ) (ws : List Word) → length ws ≤ n → Leaves (λ x. x.1) n (name_at ws)
name_leaves n [] h = leaves_none
name_leaves n (name m ∷ ws) h = leaves_some (m, ws) (omega arith)
name_leaves n (integer v ∷ ws) h = leaves_none
name_leaves n (string ∷ ws) h = leaves_none
name_leaves n (symbol b ∷ ws) h = leaves_none

pub symbol_leaves : (c n : ℕ) (ws : List Word) → length ws ≤ n → Leaves (λ r. r) n (symbol_at c ws)
symbol_leaves c n [] h = leaves_none
symbol_leaves c n (w ∷ ws) h = either (is_symbol c w) (Some ws) None (leaves_some ws (omega arith)) leaves_none

-- ---- many

many_step : {X : Type 0} (n : ℕ) (b : Bool) (ws : List Word) (first : Option (X × List Word)) (again : List Word → Option (List X × List Word)) → length ws < n → Leaves (λ x. x.1) n first → ((vs : List Word) → length vs < n → Leaves (λ x. x.1) n (again vs)) → Leaves (λ x. x.1) n (many_by b ws first again)
many_step n true ws first again h one more = leaves_some ([], ws) h
many_step n false ws first again h one more = then first _ one (λ x k. then (again x.1) _ (more x.1 k) (λ xs l. leaves_some (x.0 ∷ xs.0, xs.1) l))

pub many_leaves : {X : Type 0} (stops : List Word → Bool) (item : List Word → Option (X × List Word)) → Shrinks item → (n k : ℕ) (ws : List Word) → length ws < n → Leaves (λ x. x.1) n (many stops item k ws)
unfolding many
many_leaves stops item s n zero ws h = leaves_none
many_leaves stops item s n (suc k) ws h = many_step n (stops ws) ws (item ws) (many stops item k) h (s.leaves n ws (omega arith)) (λ vs l. many_leaves stops item s n k vs l)

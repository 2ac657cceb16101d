-- Reading many things one after the other, as a loop does.
use Rattle.std.proofs.Common.{◌≡◌, ℕ, zero, suc, ◌<◌, ◌≤◌, Bool, true, false, List, [], ◌∷◌, length, Option, Some, None, refl, sym, ◌∙◌, arith}
use Rattle.p21_express.specs.Word.{Word}
use Rattle.p21_expression.proofs.LengthLemmas.{Shrinks, less}
use Rattle.p21_express.specs.declared.refusal.Refusal.{Refusal}
use Rattle.p21_express.specs.declared.refusal.Refusal.TheVariants as refusal
use Rattle.p21_express.specs.Reader.{◌>>=◌, Fails, many}

-- The rest is read still, and what `finish` makes of what it gives is the whole.
pub record Going {X Y : Type 0} (stops : List Word → Bool) (item : List Word → Option (X × List Word)) (finish : List X → List Word → Option Y) (rest : List Word) (whole : Option Y) : Type 0 where
  pub fuel : ℕ
  pub enough : length rest ≤ fuel
  pub same : (many stops item (suc fuel) rest >>= λ xs. finish xs.0 xs.1) ≡ whole

regroup : {X Y : Type 0} (finish next : List X → List Word → Option Y) (x : X) (read : Option (List X × List Word)) → ((xs : List X) (r : List Word) → finish (x ∷ xs) r ≡ next xs r) → (◌>>=◌ {A = List X × List Word} (read >>= λ xs. Some (x ∷ xs.0, xs.1)) (λ xs. finish xs.0 xs.1)) ≡ (read >>= λ xs. next xs.0 xs.1)
regroup finish next x None e = refl
regroup finish next x (Some xs) e = e xs.0 xs.1

more : {X Y : Type 0} (stops : List Word → Bool) (item : List Word → Option (X × List Word)) (finish next : List X → List Word → Option Y) (rest mid : List Word) (x : X) (whole : Option Y) (fuel : ℕ) → length rest ≤ fuel → length mid < length rest → stops rest ≡ false → item rest ≡ Some (x, mid) → ((xs : List X) (r : List Word) → finish (x ∷ xs) r ≡ next xs r) → (many stops item (suc fuel) rest >>= λ xs. finish xs.0 xs.1) ≡ whole → Going stops item next mid whole
unfolding many
more stops item finish next rest mid x whole zero enough shorter go read e same = absurd (omega arith)
more {X} {Y} stops item finish next rest mid x whole (suc n) enough shorter go read e same =
    let one : (many stops item (suc (suc n)) rest >>= λ xs. finish xs.0 xs.1) ≡ (many stops item (suc n) mid >>= λ xs. next xs.0 xs.1) = rw (go, read) (regroup finish next x (many stops item (suc n) mid) e) in
    record { fuel = n; enough = omega arith; same = sym one ∙ same }

module _ {X Y : Type 0} {stops : List Word → Bool} {item : List Word → Option (X × List Word)} {finish : List X → List Word → Option Y} {rest : List Word} {whole : Option Y} where
  pub goes_on : {next : List X → List Word → Option Y} {mid : List Word} {x : X} → Shrinks item → Going stops item finish rest whole → stops rest ≡ false → item rest ≡ Some (x, mid) → ((xs : List X) (r : List Word) → finish (x ∷ xs) r ≡ next xs r) → Going stops item next mid whole
  goes_on {next} {mid} {x} s g go read e = more stops item finish next rest mid x whole g.fuel g.enough (less s rest mid read) go read e g.same

  pub fails : (e : Refusal) → Going stops item finish rest whole → stops rest ≡ false → Fails e (item rest) → Fails e whole
  unfolding many
  fails refusal.Memory g go read = tt
  fails (refusal.Refused k n) g go read =
      let one : (many stops item (suc g.fuel) rest >>= λ xs. finish xs.0 xs.1) ≡ None = rw (go, read) refl in
      sym g.same ∙ one

  pub is_done : Going stops item finish rest whole → stops rest ≡ true → whole ≡ finish [] rest
  unfolding many
  is_done g go =
      let one : (many stops item (suc g.fuel) rest >>= λ xs. finish xs.0 xs.1) ≡ finish [] rest = rw go refl in
      sym g.same ∙ one

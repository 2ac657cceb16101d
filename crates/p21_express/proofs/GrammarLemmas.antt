-- Names, entities, types and the schema: what is read is in the grammar, and what is in the grammar is read.
use Rattle.std.proofs.Common.{◌≡◌, ℕ, zero, suc, ◌<◌, ◌≤◌, Bool, true, false, cond, List, ◌∷◌, length, Option, Some, None, refl, ap, subst, ◌∙◌, arith}
use Rattle.std.specs.Prelude.{codes}
use Rattle.std.specs.Str.{bytes_eq}
use Rattle.std.proofs.lemmas.Slice.Eq.{bytes_eq-Decides}
use Rattle.p21_express.specs.Word.{Word, name, symbol, begins_name, begins_symbol}
use Rattle.p21_express.specs.Grammar.{Many, none, more, NextName, NamesAre, Naming, NamingIs, NextNaming, made, new, again}
use Rattle.p21_express.specs.Reader.{many_by, many, many_at, next_name, names_inside, names_at, again_at, naming_at, next_naming}
use Rattle.p21_express.proofs.WordLemmas.{bind_some, some_is, symbol_sound, name_sound}

-- ---- many

module _ {X : Type 0} (stops : List Word → Bool) (item : List Word → Option (X × List Word)) (Item : List Word → X → List Word → Type 0) where
  many_step : (ws : List Word) (others : List Word → Option (List X × List Word)) (x : List X × List Word) (b : Bool) → stops ws ≡ b → ((vs : List Word) (y : X × List Word) → item vs ≡ Some y → Item vs y.0 y.1) → ((vs : List Word) (y : List X × List Word) → others vs ≡ Some y → Many stops Item vs y.0 y.1) → many_by b ws (item ws) others ≡ Some x → Many stops Item ws x.0 x.1
  many_step ws others x true s one all h = subst (λ (y : List X × List Word). Many stops Item ws y.0 y.1) (some_is _ _ h) (none s)
  many_step ws others x false s one all h =
      let p = bind_some _ _ _ h in
      let q = bind_some _ _ _ p.2 in
      subst (λ (y : List X × List Word). Many stops Item ws y.0 y.1) (some_is _ _ q.2) (more s (one ws p.0 p.1) (all p.0.1 q.0 q.1))

  pub many_sound : ((vs : List Word) (y : X × List Word) → item vs ≡ Some y → Item vs y.0 y.1) → (n : ℕ) (ws : List Word) (x : List X × List Word) → many stops item n ws ≡ Some x → Many stops Item ws x.0 x.1
  unfolding many
  many_sound one zero ws x h = absurd cc
  many_sound one (suc n) ws x h = many_step ws (many stops item n) x (stops ws) refl one (many_sound one n) h

  many_again : ((vs rest : List Word) (y : X) → Item vs y rest → item vs ≡ Some (y, rest)) → ((vs rest : List Word) (y : X) → Item vs y rest → length rest < length vs) → {ws rest : List Word} {xs : List X} → Many stops Item ws xs rest → (n : ℕ) → length ws < n → many stops item n ws ≡ Some (xs, rest)
  unfolding many
  many_again one shorter (none s) zero lt = absurd (omega arith)
  many_again one shorter (none s) (suc n) lt = rw s refl
  many_again one shorter (more s i m) zero lt = absurd (omega arith)
  many_again one shorter (more s i m) (suc n) lt = let less = shorter _ _ _ i in rw (s, one _ _ _ i, many_again one shorter m n (omega arith)) refl

  pub many_complete : ((vs rest : List Word) (y : X) → Item vs y rest → item vs ≡ Some (y, rest)) → ((vs rest : List Word) (y : X) → Item vs y rest → length rest < length vs) → {ws rest : List Word} {xs : List X} → Many stops Item ws xs rest → many_at stops item ws ≡ Some (xs, rest)
  many_complete one shorter {ws = ws} m = many_again one shorter m (suc (length ws)) (omega arith)

  pub many_shorter : ((vs rest : List Word) (y : X) → Item vs y rest → length rest < length vs) → {ws rest : List Word} {xs : List X} → Many stops Item ws xs rest → length rest ≤ length ws
  many_shorter shorter (none s) = omega arith
  many_shorter shorter (more s i m) = let h = shorter _ _ _ i in let k = many_shorter shorter m in omega arith

-- ---- lists of names

pub next_name_sound : (ws : List Word) (x : List ℕ × List Word) → next_name ws ≡ Some x → NextName ws x.0 x.1
unfolding next_name
next_name_sound ws x h =
    let p = bind_some _ _ _ h in
    rw (symbol_sound 44 ws p.0 p.1, name_sound p.0 x p.2) made

pub next_name_complete : (ws rest : List Word) (n : List ℕ) → NextName ws n rest → next_name ws ≡ Some (n, rest)
unfolding next_name
next_name_complete ws rest n made = refl

pub next_name_shorter : (ws rest : List Word) (n : List ℕ) → NextName ws n rest → length rest < length ws
next_name_shorter ws rest n made = omega arith

pub names_sound : (ws : List Word) (x : List (List ℕ) × List Word) → names_at ws ≡ Some x → NamesAre ws x.0 x.1
unfolding names_at names_inside
names_sound ws x h =
    let p = bind_some _ _ _ h in
    let q = bind_some _ _ _ p.2 in
    let r = bind_some _ _ _ q.2 in
    let s = bind_some _ _ _ r.2 in
    let m : Many (begins_symbol 41) NextName q.0.1 r.0.0 (symbol 41 ∷ s.0) = subst (λ (v : List Word). Many (begins_symbol 41) NextName q.0.1 r.0.0 v) (symbol_sound 41 r.0.1 s.0 s.1) (many_sound (begins_symbol 41) next_name NextName next_name_sound (suc (length q.0.1)) q.0.1 r.0 r.1) in
    rw (symbol_sound 40 ws p.0 p.1, name_sound p.0 q.0 q.1) (subst (λ (y : List (List ℕ) × List Word). NamesAre (symbol 40 ∷ name q.0.0 ∷ q.0.1) y.0 y.1) (some_is _ _ s.2) (made m))

pub names_complete : {ws rest : List Word} {ns : List (List ℕ)} → NamesAre ws ns rest → names_at ws ≡ Some (ns, rest)
unfolding names_at names_inside
names_complete (made m) = rw (many_complete (begins_symbol 41) next_name NextName next_name_complete next_name_shorter m) refl

pub names_shorter : {ws rest : List Word} {ns : List (List ℕ)} → NamesAre ws ns rest → length rest < length ws
names_shorter (made m) = let h = many_shorter (begins_symbol 41) next_name NextName next_name_shorter m in omega arith

-- ---- names of attributes

again_step : (ws : List Word) (e m : List ℕ) (rest : List Word) (x : Naming × List Word) (b : Bool) → ws ≡ symbol 92 ∷ name e ∷ symbol 46 ∷ name m ∷ rest → begins_name (codes "RENAMED") rest ≡ b → cond b None (Some (record { name = m; of = Some e }, rest)) ≡ Some x → NamingIs (name (codes "SELF") ∷ ws) x.0 x.1
again_step ws e m rest x true w r h = absurd cc
again_step ws e m rest x false w r h = rw w (subst (λ (y : Naming × List Word). NamingIs (name (codes "SELF") ∷ symbol 92 ∷ name e ∷ symbol 46 ∷ name m ∷ rest) y.0 y.1) (some_is _ _ h) (again r))

again_sound : (ws : List Word) (x : Naming × List Word) → again_at ws ≡ Some x → NamingIs (name (codes "SELF") ∷ ws) x.0 x.1
unfolding again_at
again_sound ws x h =
    let p = bind_some _ _ _ h in
    let q = bind_some _ _ _ p.2 in
    let r = bind_some _ _ _ q.2 in
    let s = bind_some _ _ _ r.2 in
    let w : ws ≡ symbol 92 ∷ name q.0.0 ∷ symbol 46 ∷ name s.0.0 ∷ s.0.1 = symbol_sound 92 ws p.0 p.1 ∙ ap (λ (v : List Word). symbol 92 ∷ v) (name_sound p.0 q.0 q.1 ∙ ap (λ (v : List Word). name q.0.0 ∷ v) (symbol_sound 46 q.0.1 r.0 r.1 ∙ ap (λ (v : List Word). symbol 46 ∷ v) (name_sound r.0 s.0 s.1))) in
    again_step ws q.0.0 s.0.0 s.0.1 x (begins_name (codes "RENAMED") s.0.1) w refl s.2

naming_step : (n : List ℕ) (ws : List Word) (x : Naming × List Word) (b : Bool) → bytes_eq n (codes "SELF") ≡ b → cond b (again_at ws) (Some (record { name = n; of = None }, ws)) ≡ Some x → NamingIs (name n ∷ ws) x.0 x.1
naming_step n ws x true e h = rw ((bytes_eq-Decides n (codes "SELF")).0 e) (again_sound ws x h)
naming_step n ws x false e h = subst (λ (y : Naming × List Word). NamingIs (name n ∷ ws) y.0 y.1) (some_is _ _ h) (new e)

pub naming_sound : (ws : List Word) (x : Naming × List Word) → naming_at ws ≡ Some x → NamingIs ws x.0 x.1
unfolding naming_at
naming_sound ws x h =
    let p = bind_some _ _ _ h in
    rw (name_sound ws p.0 p.1) (naming_step p.0.0 p.0.1 x (bytes_eq p.0.0 (codes "SELF")) refl p.2)

pub naming_complete : {ws rest : List Word} {x : Naming} → NamingIs ws x rest → naming_at ws ≡ Some (x, rest)
unfolding naming_at again_at
naming_complete (new e) = rw e refl
naming_complete (again e) = rw e refl

pub naming_shorter : {ws rest : List Word} {x : Naming} → NamingIs ws x rest → length rest < length ws
naming_shorter (new e) = omega arith
naming_shorter (again e) = omega arith

pub next_naming_sound : (ws : List Word) (x : Naming × List Word) → next_naming ws ≡ Some x → NextNaming ws x.0 x.1
unfolding next_naming
next_naming_sound ws x h =
    let p = bind_some _ _ _ h in
    rw (symbol_sound 44 ws p.0 p.1) (made (naming_sound p.0 x p.2))

pub next_naming_complete : (ws rest : List Word) (x : Naming) → NextNaming ws x rest → next_naming ws ≡ Some (x, rest)
unfolding next_naming
next_naming_complete ws rest x (made n) = naming_complete n

pub next_naming_shorter : (ws rest : List Word) (x : Naming) → NextNaming ws x rest → length rest < length ws
next_naming_shorter ws rest x (made n) = let h = naming_shorter n in omega arith

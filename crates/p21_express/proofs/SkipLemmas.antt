-- Words that are skipped: what is read is in the grammar, and what is in the grammar is read.
use Rattle.std.proofs.Common.{◌≡◌, ℕ, zero, suc, ◌-◌, ◌<◌, Bool, true, false, List, [], ◌∷◌, ◌++◌, length, take, Option, Some, refl, sym, ap, subst, ◌∙◌, arith, ◌||◌}
use Rattle.std.proofs.Math.Seq.{take-append_seam}
use Rattle.std.proofs.lemmas.List.{length-append}
use Rattle.p21_express.specs.Word.{Word, symbol, is_name, is_symbol, is_opening, is_closing}
use Rattle.p21_express.specs.Grammar.{UpTo, Ends, stops, opens, closes, outside, inside, ends, passes, is_again}
use Rattle.p21_express.specs.Reader.{stop_by, behind_stop, up_to, ends_by, ends_at}
use Rattle.p21_express.proofs.WordLemmas.{bind_some, some_is, symbol_true, name_true, same_name, same_symbol}

or_cases : (a b : Bool) (P : Type 0) → (a || b) ≡ true → (a ≡ true → P) → (b ≡ true → P) → P
or_cases true b P e f g = f refl
or_cases false b P e f g = g e

closing_not : (w : Word) → is_closing w ≡ true → is_opening w ≡ false
closing_not w e = or_cases (is_symbol 41 w) (is_symbol 93 w) (is_opening w ≡ false) e (λ h. rw (symbol_true 41 w h) refl) (λ h. rw (symbol_true 93 w h) refl)

-- ---- up to a stop

pub upto_complete : {stop depth : ℕ} {ws tokens rest : List Word} → is_opening (symbol stop) ≡ false → UpTo stop depth ws tokens rest → behind_stop stop depth ws ≡ Some rest
unfolding behind_stop
upto_complete {stop} o stops = rw (o, same_symbol stop) refl
upto_complete o (opens op u) = rw op (upto_complete o u)
upto_complete o (closes {w = w} cl u) = rw (closing_not w cl, cl) (upto_complete o u)
upto_complete o (outside op cl s u) = rw (op, s, cl) (upto_complete o u)
upto_complete o (inside op cl u) = rw (op, cl) (upto_complete o u)

pub upto_parts : {stop depth : ℕ} {ws tokens rest : List Word} → UpTo stop depth ws tokens rest → ws ≡ tokens ++ symbol stop ∷ rest
upto_parts stops = refl
upto_parts (opens {w = w} op u) = ap (λ (vs : List Word). w ∷ vs) (upto_parts u)
upto_parts (closes {w = w} cl u) = ap (λ (vs : List Word). w ∷ vs) (upto_parts u)
upto_parts (outside {w = w} op cl s u) = ap (λ (vs : List Word). w ∷ vs) (upto_parts u)
upto_parts (inside {w = w} op cl u) = ap (λ (vs : List Word). w ∷ vs) (upto_parts u)

pub upto_shorter : {stop depth : ℕ} {ws tokens rest : List Word} → UpTo stop depth ws tokens rest → length rest < length ws
upto_shorter stops = omega arith
upto_shorter (opens op u) = let h = upto_shorter u in omega arith
upto_shorter (closes cl u) = let h = upto_shorter u in omega arith
upto_shorter (outside op cl s u) = let h = upto_shorter u in omega arith
upto_shorter (inside op cl u) = let h = upto_shorter u in omega arith

abbrev Found : ℕ → ℕ → List Word → List Word → Type 0
Found stop depth ws rest = (tokens : List Word) × UpTo stop depth ws tokens rest

upto_step : (stop depth : ℕ) (w : Word) (ws rest : List Word) (o s c : Bool) → is_opening w ≡ o → is_symbol stop w ≡ s → is_closing w ≡ c → ((k : ℕ) → behind_stop stop k ws ≡ Some rest → Found stop k ws rest) → stop_by o depth s c ws (λ k. behind_stop stop k ws) ≡ Some rest → Found stop depth (w ∷ ws) rest
upto_step stop depth w ws rest true s c eo es ec again h = let u = again (suc depth) h in (w ∷ u.0, opens eo u.1)
upto_step stop zero w ws rest false true c eo es ec again h = rw (symbol_true stop w es, some_is ws rest h) ([], stops)
upto_step stop zero w ws rest false false true eo es ec again h = absurd cc
upto_step stop zero w ws rest false false false eo es ec again h = let u = again 0 h in (w ∷ u.0, outside eo ec es u.1)
upto_step stop (suc depth) w ws rest false s true eo es ec again h = let u = again depth h in (w ∷ u.0, closes ec u.1)
upto_step stop (suc depth) w ws rest false s false eo es ec again h = let u = again (suc depth) h in (w ∷ u.0, inside eo ec u.1)

pub behind_sound : (stop depth : ℕ) (ws rest : List Word) → behind_stop stop depth ws ≡ Some rest → (tokens : List Word) × UpTo stop depth ws tokens rest
unfolding behind_stop
behind_sound stop depth [] rest h = absurd cc
behind_sound stop depth (w ∷ ws) rest h = upto_step stop depth w ws rest (is_opening w) (is_symbol stop w) (is_closing w) refl refl refl (λ k. behind_sound stop k ws rest) h

front_of : (ws tokens rest : List Word) (w : Word) → ws ≡ tokens ++ w ∷ rest → take (length ws - length rest - 1) ws ≡ tokens
front_of ws tokens rest w e =
    let n : length (tokens ++ w ∷ rest) - length rest - 1 ≡ length tokens = omega (arith, length-append tokens (w ∷ rest)) in
    rw (e, n) (take-append_seam tokens (w ∷ rest))

pub up_to_sound : (stop : ℕ) (ws : List Word) (x : List Word × List Word) → up_to stop ws ≡ Some x → UpTo stop 0 ws x.0 x.1
unfolding up_to
up_to_sound stop ws x h =
    let p = bind_some _ _ _ h in
    let u = behind_sound stop 0 ws p.0 p.1 in
    let e : (take (length ws - length p.0 - 1) ws, p.0) ≡ x = some_is _ _ p.2 in
    let t : (u.0, p.0) ≡ x = ap (λ (ts : List Word). (ts, p.0)) (sym (front_of ws u.0 p.0 (symbol stop) (upto_parts u.1))) ∙ e in
    subst (λ (y : List Word × List Word). UpTo stop 0 ws y.0 y.1) t u.1

pub up_to_complete : {stop : ℕ} {ws tokens rest : List Word} → is_opening (symbol stop) ≡ false → UpTo stop 0 ws tokens rest → up_to stop ws ≡ Some (tokens, rest)
unfolding up_to
up_to_complete {stop} {ws} {tokens} {rest} o u = rw (upto_complete o u, front_of ws tokens rest (symbol stop) (upto_parts u)) refl

-- ---- up to an END word

pub ends_complete : {again : Option (List ℕ)} {last : List ℕ} {depth : ℕ} {ws rest : List Word} → Ends again last depth ws rest → ends_at again last depth ws ≡ Some rest
unfolding ends_at
ends_complete {last = last} ends = rw (same_name last) refl
ends_complete {last = last} (closes e) = rw (same_name last) (ends_complete e)
ends_complete (opens n o e) = rw (n, o) (ends_complete e)
ends_complete (passes n o e) = rw (n, o) (ends_complete e)

pub ends_shorter : {again : Option (List ℕ)} {last : List ℕ} {depth : ℕ} {ws rest : List Word} → Ends again last depth ws rest → length rest < length ws
ends_shorter ends = omega arith
ends_shorter (closes e) = let h = ends_shorter e in omega arith
ends_shorter (opens n o e) = let h = ends_shorter e in omega arith
ends_shorter (passes n o e) = let h = ends_shorter e in omega arith

ends_step : (again : Option (List ℕ)) (last : List ℕ) (depth : ℕ) (w : Word) (ws rest : List Word) (b o : Bool) → is_name last w ≡ b → is_again again w ≡ o → ((k : ℕ) → ends_at again last k ws ≡ Some rest → Ends again last k ws rest) → ends_by b o depth ws (λ k. ends_at again last k ws) ≡ Some rest → Ends again last depth (w ∷ ws) rest
ends_step again last zero w ws rest true o eb eo more h = rw (name_true last w eb, some_is ws rest h) ends
ends_step again last (suc depth) w ws rest true o eb eo more h = rw (name_true last w eb) (closes (more depth h))
ends_step again last depth w ws rest false true eb eo more h = opens eb eo (more (suc depth) h)
ends_step again last depth w ws rest false false eb eo more h = passes eb eo (more depth h)

pub ends_sound : (again : Option (List ℕ)) (last : List ℕ) (depth : ℕ) (ws rest : List Word) → ends_at again last depth ws ≡ Some rest → Ends again last depth ws rest
unfolding ends_at
ends_sound again last depth [] rest h = absurd cc
ends_sound again last depth (w ∷ ws) rest h = ends_step again last depth w ws rest (is_name last w) (is_again again w) refl refl (λ k. ends_sound again last k ws rest) h

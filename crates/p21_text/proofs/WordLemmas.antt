-- The longest word, user-defined keyword and enumeration at the front of a text.
use Rattle.std.proofs.Common.{◌≡◌, ℕ, zero, suc, one-add, ◌+◌, ◌<◌, ◌≤◌, inl, inr, List, [], ◌∷◌, ◌++◌, length, get_or, take, drop, refl, sym, ap, ◌∙◌, arith, append_assoc}
use Rattle.std.specs.List.{AllByRecursion}
use Rattle.std.proofs.lemmas.List.{length-append, take_more}
use Rattle.p21_text.specs.Spelling.{IsUpper, IsDigit, IsName, NotBefore}
use Rattle.p21_text.specs.Spelling as token
use Rattle.p21_text.specs.Tokens.{Front}
use Rattle.p21_text.specs.Runs.{IsRun, IsNameByte, FirstIs}
use Rattle.p21_text.proofs.Splits.{take_front, drop_front, front_fits}
use Rattle.p21_text.proofs.RunLemmas.{run_longest, run_exact}
use Rattle.p21_text.proofs.Shapes.{Shape, IsWord, iso_word, end_iso_word, front_by, none_by, first_front}
use Rattle.p21_text.proofs.Groups.{only_word, only_enumeration, only_user, tail_is}

name_all : (s : List ℕ) → IsName s → AllByRecursion IsNameByte s
name_all [] h = absurd h
name_all (b ∷ s) h = (inl h.0, h.1)

name_first : (s : List ℕ) → IsName s → FirstIs IsUpper s
name_first [] h = h
name_first (b ∷ s) h = h.0

-- the run of letters and digits after a first Upper is a name
pub name_of : (text : List ℕ) (n : ℕ) → FirstIs IsUpper text → IsRun IsNameByte text n → IsName (take n text)
name_of [] n f r = absurd f
name_of (b ∷ text) zero f r = absurd (r.stops (inl f))
name_of (b ∷ text) (suc n) f r = (f, r.each.1)

by_first : (text front behind : List ℕ) → FirstIs IsUpper text → text ≡ front ++ behind → Shape front behind → IsWord front
by_first [] front behind f e s = absurd f
by_first (b ∷ tail) front behind f e s = only_word b tail front behind e f s

-- the name run of both words ends at their first dash
iso_run : (text behind : List ℕ) (n : ℕ) → text ≡ iso_word ++ behind → IsRun IsNameByte text n → n ≡ 3
iso_run text behind n e r = sym (run_exact IsNameByte text n r (73 ∷ 83 ∷ 79 ∷ []) (45 ∷ 49 ∷ 48 ∷ 51 ∷ 48 ∷ 51 ∷ 45 ∷ 50 ∷ 49 ∷ behind) e (inl (inl (omega arith)), (inl (inl (omega arith)), (inl (inl (omega arith)), tt))) (λ h. omega arith))

end_iso_run : (text behind : List ℕ) (n : ℕ) → text ≡ end_iso_word ++ behind → IsRun IsNameByte text n → n ≡ 3
end_iso_run text behind n e r = sym (run_exact IsNameByte text n r (69 ∷ 78 ∷ 68 ∷ []) (45 ∷ 73 ∷ 83 ∷ 79 ∷ 45 ∷ 49 ∷ 48 ∷ 51 ∷ 48 ∷ 51 ∷ 45 ∷ 50 ∷ 49 ∷ behind) e (inl (inl (omega arith)), (inl (inl (omega arith)), (inl (inl (omega arith)), tt))) (λ h. omega arith))

-- the text goes on with a dash after its name
pub record Dash (text : List ℕ) (n : ℕ) : Type 0 where
  pub inside : n < length text
  pub dash : get_or text n 0 ≡ 45

iso_dash : (text behind : List ℕ) (n : ℕ) → text ≡ iso_word ++ behind → IsRun IsNameByte text n → Dash text n
iso_dash text behind n e r = rw (iso_run text behind n e r, e) (record { inside = omega arith; dash = refl })

end_iso_dash : (text behind : List ℕ) (n : ℕ) → text ≡ end_iso_word ++ behind → IsRun IsNameByte text n → Dash text n
end_iso_dash text behind n e r = rw (end_iso_run text behind n e r, e) (record { inside = omega arith; dash = refl })

module _ (text : List ℕ) (n : ℕ) (f : FirstIs IsUpper text) (r : IsRun IsNameByte text n) where
  -- a keyword, where neither of the two words begins
  pub keyword : ((behind : List ℕ) → text ≡ iso_word ++ behind → ⊥) → ((behind : List ℕ) → text ≡ end_iso_word ++ behind → ⊥) → Front text n (token.keyword (take n text))
  keyword no_iso no_end_iso =
      front_by text n (token.keyword (take n text)) r.fits (refl, name_of text n f r) (λ front behind e s. by_kind front behind e (by_first text front behind f e s)) where
        by_kind : (front behind : List ℕ) → text ≡ front ++ behind → IsWord front → length front ≤ n
        by_kind front behind e (inl h) = run_longest IsNameByte text n r front behind e (name_all front h)
        by_kind front behind e (inr (inl h)) = absurd (no_iso behind (e ∙ ap (λ t. t ++ behind) h))
        by_kind front behind e (inr (inr h)) = absurd (no_end_iso behind (e ∙ ap (λ t. t ++ behind) h))

  -- both words have a dash after their first three letters
  pub no_dash : (Dash text n → ⊥) → Front text n (token.keyword (take n text))
  no_dash none = keyword (λ behind e. none (iso_dash text behind n e r)) (λ behind e. none (end_iso_dash text behind n e r))

  pub iso : (behind : List ℕ) → text ≡ iso_word ++ behind → Front text 12 token.iso
  iso behind e = front_by text 12 token.iso (front_fits text iso_word behind e) (take_front text iso_word behind e) (λ front after g s. by_kind front after g (by_first text front after f g s)) where
    by_kind : (front after : List ℕ) → text ≡ front ++ after → IsWord front → length front ≤ 12
    by_kind front after g (inl h) = (let short = run_longest IsNameByte text n r front after g (name_all front h) in omega (arith, iso_run text behind n e r))
    by_kind front after g (inr (inl h)) = (let long = ap length h in omega arith)
    by_kind front after g (inr (inr h)) = (let first : ◌≡◌ {A = ℕ} 73 69 = ap (λ t. get_or t 0 0) (sym e ∙ g ∙ ap (λ t. t ++ after) h) in absurd (omega arith))

  pub end_iso : (behind : List ℕ) → text ≡ end_iso_word ++ behind → Front text 16 token.end_iso
  end_iso behind e = front_by text 16 token.end_iso (front_fits text end_iso_word behind e) (take_front text end_iso_word behind e) (λ front after g s. by_kind front after g (by_first text front after f g s)) where
    by_kind : (front after : List ℕ) → text ≡ front ++ after → IsWord front → length front ≤ 16
    by_kind front after g (inl h) = (let short = run_longest IsNameByte text n r front after g (name_all front h) in omega (arith, end_iso_run text behind n e r))
    by_kind front after g (inr (inl h)) = (let long = ap length h in omega arith)
    by_kind front after g (inr (inr h)) = (let long = ap length h in omega arith)

-- `!` and a name
pub user_front : (text tail : List ℕ) (n : ℕ) → text ≡ 33 ∷ tail → FirstIs IsUpper tail → IsRun IsNameByte tail n → Front text (1 + n) (token.user_keyword (take (1 + n) text))
user_front text tail n e f r =
    rw (e, one-add) (front_by (33 ∷ tail) (suc n) (token.user_keyword (33 ∷ take n tail)) (let fits = r.fits in omega arith) (refl, take n tail, refl, name_of tail n f r) longest) where
      longest : (front behind : List ℕ) → 33 ∷ tail ≡ front ++ behind → Shape front behind → length front ≤ suc n
      longest front behind g s =
          let u = only_user 33 tail front behind g refl s in
          let rest : tail ≡ u.0 ++ behind = tail_is 33 33 tail u.0 front behind g u.1 in
          let short : length u.0 ≤ n = run_longest IsNameByte tail n r u.0 behind rest (name_all u.0 u.2) in
          omega (arith, ap length u.1)

pub user_none : (text tail : List ℕ) → text ≡ 33 ∷ tail → (FirstIs IsUpper tail → ⊥) → Front text 0 token.bad
user_none text tail e none = rw e (none_by (33 ∷ tail) (λ h. cc) none_here) where
  none_here : (front behind : List ℕ) → 33 ∷ tail ≡ front ++ behind → Shape front behind → ⊥
  none_here front behind g s =
      let u = only_user 33 tail front behind g refl s in
      none (first_front IsUpper tail u.0 behind (tail_is 33 33 tail u.0 front behind g u.1) (name_first u.0 u.2))

-- what an enumeration says of the bytes after its first point
enumeration_parts : (tail front behind : List ℕ) → 46 ∷ tail ≡ front ++ behind → Shape front behind → (n : List ℕ) × (tail ≡ n ++ (46 ∷ behind)) × IsName n × (length front ≡ 1 + length n + 1)
enumeration_parts tail front behind g s =
    let u = only_enumeration 46 tail front behind g refl s in
    let rest : tail ≡ (u.0 ++ 46 ∷ []) ++ behind = tail_is 46 46 tail (u.0 ++ 46 ∷ []) front behind g u.1 in
    (u.0, rest ∙ append_assoc u.0 (46 ∷ []) behind, u.2, omega (arith, ap length u.1, length-append u.0 (46 ∷ [])))

pub enumeration_front : (tail : List ℕ) (n : ℕ) → FirstIs IsUpper tail → IsRun IsNameByte tail n → n < length tail → get_or tail n 0 ≡ 46 → Front (46 ∷ tail) (1 + n + 1) (token.enumeration (take n tail))
enumeration_front tail n f r h point = front_by (46 ∷ tail) (1 + n + 1) (token.enumeration (take n tail)) (omega arith) (spelled, name_of tail n f r) longest where
  spelled : take (1 + n + 1) (46 ∷ tail) ≡ 46 ∷ (take n tail ++ 46 ∷ [])
  spelled =
      let one : 1 + n + 1 ≡ suc (n + 1) = omega arith in
      rw one (ap (λ t. 46 ∷ t) (take_more tail n 0 h ∙ ap (λ b. take n tail ++ b ∷ []) point))

  longest : (front behind : List ℕ) → 46 ∷ tail ≡ front ++ behind → Shape front behind → length front ≤ 1 + n + 1
  longest front behind g s =
      let u = enumeration_parts tail front behind g s in
      let short : length u.0 ≤ n = run_longest IsNameByte tail n r u.0 (46 ∷ behind) u.1 (name_all u.0 u.2) in
      omega (arith, u.3)

pub enumeration_none : (tail : List ℕ) → (FirstIs IsUpper tail → ⊥) → Front (46 ∷ tail) 0 token.bad
enumeration_none tail none = none_by (46 ∷ tail) (λ h. cc) none_here where
  none_here : (front behind : List ℕ) → 46 ∷ tail ≡ front ++ behind → Shape front behind → ⊥
  none_here front behind g s =
      let u = enumeration_parts tail front behind g s in
      none (first_front IsUpper tail u.0 (46 ∷ behind) u.1 (name_first u.0 u.2))

pub enumeration_open : (tail : List ℕ) (n : ℕ) → IsRun IsNameByte tail n → NotBefore (λ b. b ≡ 46) (drop n tail) → Front (46 ∷ tail) 0 token.bad
enumeration_open tail n r no_point = none_by (46 ∷ tail) (λ h. cc) none_here where
  none_here : (front behind : List ℕ) → 46 ∷ tail ≡ front ++ behind → Shape front behind → ⊥
  none_here front behind g s =
      let u = enumeration_parts tail front behind g s in
      let exact : length u.0 ≡ n = run_exact IsNameByte tail n r u.0 (46 ∷ behind) u.1 (name_all u.0 u.2) (λ k. omega arith) in
      let rest : drop n tail ≡ 46 ∷ behind = ap (λ k. drop k tail) (sym exact) ∙ drop_front tail u.0 (46 ∷ behind) u.1 in
      (rw rest at no_point) refl

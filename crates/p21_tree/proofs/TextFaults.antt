-- A fault that is found in a text is the fault of its list of tokens.
use Rattle.std.proofs.Common.{◌≡◌, ℕ, List, [], ◌∷◌, ◌++◌, refl, ap, subst, ◌∙◌}
use Rattle.p21_text.specs.Tokens.{Placed, First, IsLast, Tokens, TokensUpTo}
use Rattle.p21_text.specs.Tokens as text
use Rattle.p21_text.specs.Laws.{HasOneFirstAtMost}
use Rattle.p21_tree.specs.Languages.{Language}
use Rattle.p21_tree.specs.Texts.{shift, shifted}
use Rattle.p21_tree.specs.Laws.{FaultsAreOfTokens, PieceFaultsAreOfTokens, PrefaceFaultsAreOfTokens}
use Rattle.p21_tree.proofs.ProgressLemmas.{shifted_append}

-- no place of a text has two first tokens
abbrev pub OneFirst : Type 0
OneFirst = (text : List ℕ) (at : ℕ) → HasOneFirstAtMost text at

-- what stands after the first tokens of a list
pub behind_front : OneFirst → {bytes : List ℕ} {at place : ℕ} {before : List Placed} → TokensUpTo bytes at before place → (t : Placed) → First bytes place t → (ts : List Placed) → Tokens bytes at ts → (behind : List Placed) × (ts ≡ before ++ t ∷ behind)
behind_front one {bytes} (text.none {at}) t n _ (text.last {t = u} f l) = ([], ap (λ x. x ∷ []) (one bytes at u t f n))
behind_front one {bytes} (text.none {at}) t n _ (text.more {t = u} {ts = us} f l r) = (us, ap (λ x. x ∷ us) (one bytes at u t f n))
behind_front one {bytes} (text.more {at} {t = v} f m r) t n _ (text.last {t = u} g l) = absurd (m (subst (λ x. IsLast x.token) (one bytes at u v g f) l))
behind_front one {bytes} (text.more {at} {t = v} {ts = vs} f m r) t n _ (text.more {t = u} {ts = us} g l s) =
    let e : u ≡ v = one bytes at u v g f in
    let h : (behind : List Placed) × (us ≡ vs ++ t ∷ behind) = behind_front one r t n us (subst (λ x. Tokens bytes x.after us) e s) in
    (h.0, ap (λ x. x ∷ us) e ∙ ap (λ x. v ∷ x) h.1)

pub text_faults : OneFirst → (L : Language) → FaultsAreOfTokens L
text_faults one L bytes at ts f i h =
    let b : (behind : List Placed) × (ts ≡ h.before ++ h.token ∷ behind) = behind_front one h.tokens h.token h.next ts i in
    (record { before = h.before; token = h.token; behind = b.0; kind = h.kind; at = f.at; parts = b.1; is_fault = h.is_fault }, refl, h.kind_is)

pub preface_faults : OneFirst → PrefaceFaultsAreOfTokens
preface_faults one bytes ts f i h =
    let b : (behind : List Placed) × (ts ≡ h.before ++ h.token ∷ behind) = behind_front one h.tokens h.token h.next ts i in
    (record { before = h.before; token = h.token; behind = b.0; kind = h.kind; at = f.at; parts = b.1; is_fault = h.of_file }, refl, h.kind_is)

pub piece_faults : OneFirst → PieceFaultsAreOfTokens
piece_faults one piece ts f i h =
    let b : (behind : List Placed) × (ts ≡ h.before ++ h.token ∷ behind) = behind_front one h.tokens h.token h.next ts i in
    (record { before = shifted piece.at h.before; token = shift piece.at h.token; behind = shifted piece.at b.0; kind = h.kind; at = f.at; parts = ap (shifted piece.at) b.1 ∙ shifted_append piece.at h.before (h.token ∷ b.0); is_fault = h.is_fault }, refl, h.kind_is)

-- A list of tokens has one fault at most.
use Rattle.std.proofs.Common.{◌≡◌, ℕ, List, [], ◌∷◌, ◌++◌, refl, sym, ap, subst, ◌∙◌, append_assoc}
use Rattle.p21_text.specs.Spelling as token
use Rattle.p21_text.specs.Tokens.{Placed}
use Rattle.p21_tree.specs.Fault.{Begins, Kind, bad_token, unexpected, truncated, too_deep, OnlyTooDeep, IsKind, IsFault}
use Rattle.p21_tree.specs.Fault as fault
use Rattle.p21_tree.specs.Sentence.{deepest}
use Rattle.p21_tree.specs.Languages.{Language}
use Rattle.p21_tree.specs.Laws.{FaultOf, SameFault, HasOneFaultAtMost}

pub begins_less : (L : Language) (l : ℕ) (a b : List Placed) → Begins L l (a ++ b) → Begins L l a
begins_less L l a b h = record { rest = b ++ h.rest; sentence = subst (λ x. L l x) (append_assoc a b h.rest) h.sentence }

-- where two fronts of one list meet
pub data Meets (a : List Placed) (t : Placed) (b : List Placed) (u : Placed) : Type 0 where
  same : a ≡ b → t ≡ u → Meets a t b u
  shorter : (m : List Placed) → b ≡ (a ++ t ∷ []) ++ m → Meets a t b u
  longer : (m : List Placed) → a ≡ (b ++ u ∷ []) ++ m → Meets a t b u

pub meets_cons : (v w : Placed) (a : List Placed) (t : Placed) (b : List Placed) (u : Placed) → v ≡ w → Meets a t b u → Meets (v ∷ a) t (w ∷ b) u
meets_cons v w a t b u e (same p q) = same (ap (λ x. v ∷ x) p ∙ ap (λ x. x ∷ b) e) q
meets_cons v w a t b u e (shorter m p) = shorter m (ap (λ x. w ∷ x) p ∙ ap (λ x. x ∷ ((a ++ t ∷ []) ++ m)) (sym e))
meets_cons v w a t b u e (longer m p) = longer m (ap (λ x. v ∷ x) p ∙ ap (λ x. x ∷ ((b ++ u ∷ []) ++ m)) e)

pub meets : (a : List Placed) (t : Placed) (x : List Placed) (b : List Placed) (u : Placed) (y : List Placed) → a ++ t ∷ x ≡ b ++ u ∷ y → Meets a t b u
meets [] t x [] u y e = same refl (cc)
meets [] t x (w ∷ b) u y e = shorter b (let f : t ≡ w = cc in ap (λ z. z ∷ b) (sym f))
meets (v ∷ a) t x [] u y e = longer a (let f : u ≡ v = cc in ap (λ z. z ∷ a) (sym f))
meets (v ∷ a) t x (w ∷ b) u y e =
    let f : v ≡ w = cc in
    let g : a ++ t ∷ x ≡ b ++ u ∷ y = cc in
    meets_cons v w a t b u f (meets a t x b u y g)

pub kinds_agree : (L : Language) (b : List Placed) (t : Placed) (j k : Kind) → IsKind L b t j → IsKind L b t k → j ≡ k
kinds_agree L b t j k (fault.bad p) (fault.bad q) = refl
kinds_agree L b t j k (fault.bad p) (fault.end q) = let e : token.bad ≡ token.end = sym p ∙ q in cc
kinds_agree L b t j k (fault.bad p) (fault.deep q) = let e : token.bad ≡ token.lparen = sym p ∙ q.opens in cc
kinds_agree L b t j k (fault.bad p) (fault.other q r s) = absurd (q p)
kinds_agree L b t j k (fault.end p) (fault.bad q) = let e : token.end ≡ token.bad = sym p ∙ q in cc
kinds_agree L b t j k (fault.end p) (fault.end q) = refl
kinds_agree L b t j k (fault.end p) (fault.deep q) = let e : token.end ≡ token.lparen = sym p ∙ q.opens in cc
kinds_agree L b t j k (fault.end p) (fault.other q r s) = absurd (r p)
kinds_agree L b t j k (fault.deep p) (fault.bad q) = let e : token.lparen ≡ token.bad = sym p.opens ∙ q in cc
kinds_agree L b t j k (fault.deep p) (fault.end q) = let e : token.lparen ≡ token.end = sym p.opens ∙ q in cc
kinds_agree L b t j k (fault.deep p) (fault.deep q) = refl
kinds_agree L b t j k (fault.deep p) (fault.other q r s) = absurd (s p)
kinds_agree L b t j k (fault.other p r s) (fault.bad q) = absurd (p q)
kinds_agree L b t j k (fault.other p r s) (fault.end q) = absurd (r q)
kinds_agree L b t j k (fault.other p r s) (fault.deep q) = absurd (s q)
kinds_agree L b t j k (fault.other p r s) (fault.other u v w) = refl

pub no_fault : (L : Language) (ts : List Placed) → L deepest ts → FaultOf L ts → ⊥
no_fault L ts h f = f.is_fault.stops (record { rest = f.behind; sentence = subst (λ x. L deepest x) (f.parts ∙ sym (append_assoc f.before (f.token ∷ []) f.behind)) h })

pub same_fault_by : (L : Language) (ts : List Placed) (f g : FaultOf L ts) → Meets f.before f.token g.before g.token → SameFault L ts f g
same_fault_by L ts f g (same p q) =
    let k : IsKind L g.before g.token f.kind = subst (λ x. IsKind L g.before x f.kind) q (subst (λ x. IsKind L x f.token f.kind) p f.is_fault.is_kind) in
    (p, q, kinds_agree L g.before g.token f.kind g.kind k g.is_fault.is_kind, f.is_fault.place ∙ (ap (λ x. x.start) q ∙ sym g.is_fault.place))
same_fault_by L ts f g (shorter m p) = absurd (f.is_fault.stops (begins_less L deepest (f.before ++ f.token ∷ []) m (subst (λ x. Begins L deepest x) p g.is_fault.goes)))
same_fault_by L ts f g (longer m p) = absurd (g.is_fault.stops (begins_less L deepest (g.before ++ g.token ∷ []) m (subst (λ x. Begins L deepest x) p f.is_fault.goes)))

pub one_fault_at_most : (L : Language) → HasOneFaultAtMost L
one_fault_at_most L ts = (no_fault L ts, λ f g. same_fault_by L ts f g (meets f.before f.token f.behind g.before g.token g.behind (sym f.parts ∙ g.parts)))

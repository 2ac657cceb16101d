-- What is added in steps.
use Rattle.std.proofs.Common.{◌≡◌, ℕ, List, [], ◌∷◌, ◌++◌, refl, sym, ap, subst, ◌∙◌, Result, Ok, OnOk}
use Rattle.std.specs.List.{AllZip}
use Rattle.std.proofs.lemmas.List.{append_assoc, append-nil}
use Rattle.std.proofs.lemmas.Result.{on_ok_weaker}
use Rattle.json.specs.Token.{Token}
use Rattle.json.specs.Written.{Written, Writes}
use Rattle.p21_express.specs.Schema.{Schema}
use Rattle.p21_json.specs.Where.{Where, IsLogicalAt}
use Rattle.p21_json.specs.Parts.{Part, exactly, item, logical_token, IsTokenOf}
use Rattle.p21_json.specs.Written.{Adds}

zip_append : {A B : Type 0} (R : A → B → Type 0) (ps qs : List A) (ts us : List B) → AllZip R ps ts → AllZip R qs us → AllZip R (ps ++ qs) (ts ++ us)
zip_append R [] qs [] us h k = k
zip_append R [] qs (t ∷ ts) us h k = absurd h
zip_append R (p ∷ ps) qs [] us h k = absurd h
zip_append R (p ∷ ps) qs (t ∷ ts) us h k = (h.0, zip_append R ps qs ts us h.1 k)

-- nothing is added
pub adds_none : (s : Schema) (a : Written) → Adds s a a []
adds_none s a = record { tokens = []; are = tt; added = sym (append-nil a.tokens); before = refl }

-- a token of a part is added
pub adds_one : {s : Schema} {a b : Written} (p : Part) (t : Token) → IsTokenOf s p t → b.tokens ≡ a.tokens ++ t ∷ [] → b.before ≡ a.before → Adds s a b (p ∷ [])
adds_one p t h e f = record { tokens = t ∷ []; are = (h, tt); added = e; before = f }

-- what a writer wrote is a token of this part
pub adds_ok : {E : Type 0} {x : Unit {0}} {a b : Written} {t : Token} (s : Schema) (p : Part) → Writes {E = E} (Ok x) a b t → IsTokenOf s p t → Adds s a b (p ∷ [])
adds_ok {t = t} s p w h = adds_one p t h w.ok w.room.0

-- parts and then others are added
pub adds_then : {s : Schema} {a b c : Written} {p q : List Part} → Adds s a b p → Adds s b c q → Adds s a c (p ++ q)
adds_then {s} {a} {b} {c} {p} {q} f g = record {
  tokens = f.tokens ++ g.tokens;
  are = zip_append (IsTokenOf s) p q f.tokens g.tokens f.are g.are;
  added = g.added ∙ ap (λ ts. ts ++ g.tokens) f.added ∙ append_assoc a.tokens f.tokens g.tokens;
  before = g.before ∙ f.before;
}

zip_one : {A B : Type 0} (R : A → B → Type 0) (p q : A) (ts : List B) → ((u : B) → R p u → R q u) → AllZip R (p ∷ []) ts → AllZip R (q ∷ []) ts
zip_one R p q [] f h = absurd h
zip_one R p q (t ∷ []) f h = (f t h.0, tt)
zip_one R p q (t ∷ u ∷ ts) f h = absurd h.1

-- a part whose token is another's
adds_as : {s : Schema} {a b : Written} (p q : Part) → ((u : Token) → IsTokenOf s p u → IsTokenOf s q u) → Adds s a b (p ∷ []) → Adds s a b (q ∷ [])
adds_as {s} p q f h = record { tokens = h.tokens; are = zip_one (IsTokenOf s) p q h.tokens f h.are; added = h.added; before = h.before }

-- the item of an enumeration is a value of BOOLEAN or LOGICAL there
pub adds_logical : {s : Schema} {a b : Written} (w : Where) (v : List ℕ) → IsLogicalAt s w → Adds s a b (exactly (logical_token v) ∷ []) → Adds s a b (item w v ∷ [])
adds_logical w v h = adds_as (exactly (logical_token v)) (item w v) (λ u e. record { first_if = λ _. e; else_second = λ no. absurd (no h) })

-- of some parts those before `left` were added
pub record Underway (s : Schema) (start now : Written) (all left : List Part) : Type 0 where
  pub done : List Part
  pub parts : all ≡ done ++ left
  pub adds : Adds s start now done

pub further : {s : Schema} {a b c : Written} {all left p rest : List Part} → Underway s a b all left → left ≡ p ++ rest → Adds s b c p → Underway s a c all rest
further {s} {a} {b} {c} {all} {left} {p} {rest} u e f = record {
  done = u.done ++ p;
  parts = u.parts ∙ ap (λ ps. u.done ++ ps) e ∙ sym (append_assoc u.done p rest);
  adds = adds_then u.adds f;
}

pub ended : {s : Schema} {a b : Written} {all left : List Part} → Underway s a b all left → left ≡ [] → Adds s a b all
ended {s} {a} {b} {all} {left} u e = subst (Adds s a b) (sym (u.parts ∙ ap (λ ps. u.done ++ ps) e ∙ append-nil u.done)) u.adds

-- and then a writer is asked to write a token of this part
pub adds_last : {E : Type 0} {a b c : Written} {t : Token} {ps : List Part} (s : Schema) (p : Part) (r : Result (Unit {0}) E) → Writes r b c t → IsTokenOf s p t → Adds s a b ps → OnOk r (Adds s a c (ps ++ p ∷ []))
adds_last {a = a} {b = b} {c = c} {t = t} s p r w h f = on_ok_weaker r (λ (e : c.tokens ≡ b.tokens ++ t ∷ []). adds_then f (adds_one p t h e w.room.0)) w.ok

-- a writer is asked to write a token of this part
pub adds_only : {E : Type 0} {b c : Written} {t : Token} (s : Schema) (p : Part) (r : Result (Unit {0}) E) → Writes r b c t → IsTokenOf s p t → OnOk r (Adds s b c (p ∷ []))
adds_only {b = b} {c = c} {t = t} s p r w h = on_ok_weaker r (λ (e : c.tokens ≡ b.tokens ++ t ∷ []). adds_one p t h e w.room.0) w.ok

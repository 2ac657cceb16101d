-- The keys of attributes by their places.
use Rattle.std.proofs.Common.{◌≡◌, ◌<◌, ℕ, zero, suc, List, [], ◌∷◌, ◌++◌, Some, length, map, take, refl, ap, sym, ◌∙◌, append_assoc, arith}
use Rattle.std.specs.Prelude.{slice_get}
use Rattle.std.specs.Char.{to_ascii_lowercase}
use Rattle.std.proofs.lemmas.Str.{encodes-append, encodes-IsAscii}
use Rattle.std.proofs.lemmas.Str.Ascii.{IsAscii-cons, IsAscii-nil}
use Rattle.std.proofs.lemmas.List.{append-nil, map-append}
use Rattle.p21_json.specs.Spelled.{IsSpelled, text_of}
use Rattle.p21_express.specs.WellFormed.{Origin}
use Rattle.std.specs.Prelude.{Bool, true, if◌then◌else◌}
use Rattle.p21_json.specs.Keys.{full_name, has_name, key_of, keys_behind}

pub key_at : (before os : List Origin) (p : ℕ) (o : Origin) → slice_get os p ≡ Some o → slice_get (keys_behind before os) p ≡ Some (key_of (before ++ take p os) o)
key_at before [] p o h = cc
key_at before (x ∷ os) zero o h =
    let same : x ≡ o = cc in ap (λ (y : Origin). Some (key_of before y)) same ∙ ap (λ (l : List Origin). Some (key_of l o)) (sym (append-nil before))
key_at before (x ∷ os) (suc p) o h = key_at (before ++ x ∷ []) os p o h ∙ ap (λ (l : List Origin). Some (key_of l o)) (append_assoc before (x ∷ []) (take p os))

pub keys_length : (before os : List Origin) → length (keys_behind before os) ≡ length os
keys_length before [] = omega arith
keys_length before (o ∷ os) = omega (arith, keys_length (before ++ o ∷ []) os)

-- what stands at a place that is there
pub there : (os : List Origin) (q : ℕ) → q < length os → (p : Origin) × (slice_get os q ≡ Some p)
there [] q l = absurd (omega arith)
there (o ∷ os) zero l = (o, refl)
there (o ∷ os) (suc q) l = there os q (omega arith)

-- the texts of two names with a point between them are that of the names so joined
pub spelled_full : (a b text n m : List ℕ) → IsSpelled a n → IsSpelled b m → text ≡ a ++ 46 ∷ b → IsSpelled text (n ++ 46 ∷ m)
spelled_full a b text n m p q e = record {
  bytes = p.bytes ++ 46 ∷ q.bytes;
  same =
      map-append to_ascii_lowercase p.bytes (46 ∷ q.bytes) ∙ ap (λ (l : List ℕ). l ++ map to_ascii_lowercase (46 ∷ q.bytes)) p.same ∙ ap (λ (l : List ℕ). map to_ascii_lowercase n ++ to_ascii_lowercase 46 ∷ l) q.same
      ∙ sym (map-append to_ascii_lowercase n (46 ∷ m));
  spelled =
      e ∙ ap (λ (l : List ℕ). l ++ 46 ∷ b) p.spelled ∙ ap (λ (l : List ℕ). text_of p.bytes ++ 46 ∷ l) q.spelled
      ∙ sym (encodes-append p.bytes (46 ∷ q.bytes) ∙ ap (λ (l : List ℕ). text_of p.bytes ++ l) (encodes-append (46 ∷ []) q.bytes ∙ ap (λ (l : List ℕ). l ++ text_of q.bytes) (encodes-IsAscii (46 ∷ []) (IsAscii-cons 46 [] (omega arith) IsAscii-nil))));
}

-- the key of an attribute after one of its name
pub key_full : (before : List Origin) (o : Origin) → has_name before o.name ≡ true → key_of before o ≡ full_name o
key_full before o h = ap (λ (b : Bool). if b then full_name o else o.name) h

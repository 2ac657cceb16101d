use Rattle.std.proofs.Common.{◌≡◌, ◌++◌, ◌∷◌, ◌∙◌, [], List, ℕ, Result, Ok, Err, OnOk, ap, append_assoc, arith, string_bytes, subst, sym}
use Rattle.std.proofs.Math.Utf8.{encode}
use Rattle.std.proofs.lemmas.List.{append-nil}
use Rattle.std.proofs.lemmas.Str.{encodes-IsAscii}
use Rattle.std.proofs.lemmas.Str.Ascii.{IsAscii-cons, IsAscii-nil}
use Rattle.std.specs.Prelude.{if◌then◌else◌}
use Rattle.std.specs.Result.{is_ok}
use Rattle.p21_schema.specs.Row.{attribute_at}
use Rattle.p21_json.specs.Spelled.{IsSpelled}
use Rattle.p21_json.proofs.TermLemmas.{spelled_full}
use Rattle.p21_json.proofs.terms.Terms.write_full_name.Goals as goal

when_ok : {E P : Type 0} (r : Result (Unit {0}) E) (a b c : List ℕ) → a ≡ (if is_ok r then b else c) → (a ≡ b → P) → OnOk r P
when_ok (Ok x) a b c e f = f e
when_ok (Err x) a b c e f = tt

point : encode 46 ≡ 46 ∷ []
point = sym (append-nil (encode 46)) ∙ encodes-IsAscii (46 ∷ []) (IsAscii-cons 46 [] (omega arith) IsAscii-nil)

pub returns : goal.returns
returns c =
    let o = attribute_at c.args.self.now c.args.attribute in
    let entity = c.entity.result.now in
    let name = c.attribute.result.now in
    let of = subst (IsSpelled entity) c.declaring.ensures.declares c.entity.ensures in
    when_ok c.push_str-2.result (string_bytes c.push_str-2.new.self) _ _ c.push_str-2.ensures.bytes
    (λ e.
    let front = c.in_ok-push.ensures.bytes ∙ ap (λ (l : List ℕ). string_bytes c.push_str.new.self ++ l) point ∙ ap (λ (l : List ℕ). l ++ 46 ∷ []) (c.in_ok-push_str.ensures.bytes ∙ ap (λ (l : List ℕ). l ++ entity) c.clear.ensures.bytes) in
    spelled_full entity name (string_bytes c.push_str-2.new.self) o.entity o.name of c.attribute.ensures (e ∙ ap (λ (l : List ℕ). l ++ name) front ∙ append_assoc entity (46 ∷ []) name))

use Rattle.std.proofs.Common.{◌≡◌, ◌≤◌, ℕ, List, length, slice_index, false, sym, subst, ◌∙◌, ap, refl}
use Rattle.p21_text.specs.ItemShapes.{shape, plain_byte, special_shape}
use Rattle.p21_text.proofs.StringLemmas.{bytes_of, shape_fits}
use Rattle.p21_text.proofs.shape.item_len.Goals as goal

special_fits : (text : List ℕ) (b n : ℕ) → b ≡ slice_index text 0 → plain_byte b ≡ false → n ≡ special_shape b text → shape text ≤ length text → n ≤ length text
special_fits text b n e plain f fits =
    let first : plain_byte (slice_index text 0) ≡ false = ap plain_byte (sym e) ∙ plain in
    let same : shape text ≡ special_shape (slice_index text 0) text = rw first refl in
    let whole : n ≡ shape text = f ∙ ap (λ v. special_shape v text) e ∙ sym same in
    subst (λ k. k ≤ length text) (sym whole) fits

pub returns-else-is_plain-clause-within : goal.returns-else-is_plain-clause-within
returns-else-is_plain-clause-within c =
    special_fits c.args.text.now c.byte_at-first.result c.special_len.result c.byte_at-first.ensures (sym c.is_plain.ensures ∙ c.if-is_plain.false) c.special_len.ensures (shape_fits c.args.text.now (bytes_of c.args.text.now c.type_inv.text))

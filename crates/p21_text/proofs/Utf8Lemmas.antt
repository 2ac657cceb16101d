-- A character above 127 in UTF-8: its bytes are above 127, so it begins in a string's body exactly where it
-- begins in the text with the closing apostrophe after the body.
use Rattle.std.proofs.Common.{◌≡◌, ◌≢◌, ℕ, ◌≤◌, ⊎_elim, false, List, [], ◌∷◌, ◌++◌, length, take, drop, slice_index, get_or, Option, Some, None, refl, sym, ap, ◌∙◌, arith, length-append, append_assoc, le-ltb, lt-ltb}
use Rattle.std.specs.Char.{encode_utf8}
use Rattle.std.specs.List.{AllByRecursion}
use Rattle.std.specs.Option.{is_some}
use Rattle.std.proofs.lemmas.Str.{encode_ascii}
use Rattle.std.proofs.lemmas.Bool.{cases_lt}
use Rattle.std.proofs.lemmas.List.{take_at, take-append-drop}
use Rattle.bstr.specs.Utf8.{decoded, good}
use Rattle.bstr.proofs.lemmas.EncodeLemmas.{decoded-encode}
use Rattle.bstr.proofs.lemmas.SoundLemmas.{SpellsChar-decoded}
use Rattle.p21_text.specs.Items.{IsUtf8Of, BeginsUtf8}

abbrev pub AllHigh : List ℕ → Type 0
AllHigh bs = AllByRecursion (λ b. 128 ≤ b) bs

pub encode_high : (c : ℕ) → 128 ≤ c → AllHigh (encode_utf8 c)
unfolding encode_utf8
encode_high c above =
    ⊎_elim
    (λ two. rw (le-ltb c 128 above, lt-ltb c 2048 two) (omega arith, (omega arith, tt)))
    (λ more.
    ⊎_elim
    (λ three. rw (le-ltb c 128 above, le-ltb c 2048 more, lt-ltb c 65536 three) (omega arith, (omega arith, (omega arith, tt))))
    (λ most.
    rw (le-ltb c 128 above, le-ltb c 2048 more, le-ltb c 65536 most) (omega arith, (omega arith, (omega arith, (omega arith, tt)))))
    (cases_lt c 65536))
    (cases_lt c 2048)

-- a list of bytes above 127 that begins `body ++ 39 ∷ more` begins `body`
high_within : (front body rest more : List ℕ) → AllHigh front → body ++ 39 ∷ more ≡ front ++ rest → (left : List ℕ) × (body ≡ front ++ left)
high_within [] body rest more h e = (body, refl)
high_within (b ∷ front) [] rest more h e = let first : 39 ≡ b = ap (λ l. get_or l 0 0) e in absurd (omega (arith, h.0))
high_within (b ∷ front) (a ∷ body) rest more h e =
    let first : a ≡ b = ap (λ l. get_or l 0 0) e in
    let others : body ++ 39 ∷ more ≡ front ++ rest = ap (drop 1) e in
    let found = high_within front body rest more h.1 others in (found.0, cc)

-- a list of bytes above 127 is not empty and begins with such a byte
high_first : (front rest : List ℕ) → front ≢ [] → AllHigh front → 128 ≤ slice_index (front ++ rest) 0
high_first [] rest some h = absurd (some refl)
high_first (b ∷ front) rest some h = h.0

pub encode_some : (c : ℕ) → encode_utf8 c ≢ []
unfolding encode_utf8
encode_some c = ⊎_elim
    (λ one. rw (lt-ltb c 128 one) (λ e. cc))
    (λ above. ⊎_elim
    (λ two. rw (le-ltb c 128 above, lt-ltb c 2048 two) (λ e. cc))
    (λ more. ⊎_elim
    (λ three. rw (le-ltb c 128 above, le-ltb c 2048 more, lt-ltb c 65536 three) (λ e. cc))
    (λ most. rw (le-ltb c 128 above, le-ltb c 2048 more, le-ltb c 65536 most) (λ e. cc))
    (cases_lt c 65536))
    (cases_lt c 2048))
    (cases_lt c 128)

pub utf8_first : (c : ℕ) (front rest : List ℕ) → IsUtf8Of c front → 128 ≤ slice_index (front ++ rest) 0
utf8_first c front rest h =
    rw (h.spelled) (high_first (encode_utf8 c) rest (encode_some c) (encode_high c h.above))

pub utf8_decoded : (c : ℕ) (front rest : List ℕ) → IsUtf8Of c front → decoded (front ++ rest) ≡ good c (length front)
utf8_decoded c front rest h = rw (h.spelled) (decoded-encode c rest h.scalar)

-- a character begins in a body exactly where it begins with an apostrophe after the body
pub utf8_in_body : (body more : List ℕ) → BeginsUtf8 (body ++ 39 ∷ more) → BeginsUtf8 body
utf8_in_body body more b =
    let high : AllHigh b.front = rw (b.character.spelled) (encode_high b.code b.character.above) in
    let found = high_within b.front body b.rest more high b.parts in
    record { code = b.code; front = b.front; rest = found.0; character = b.character; parts = found.1 }

pub utf8_behind : (body more : List ℕ) → BeginsUtf8 body → BeginsUtf8 (body ++ more)
utf8_behind body more b =
    record {
      code = b.code;
      front = b.front;
      rest = b.rest ++ more;
      character = b.character;
      parts = ap (λ l. l ++ more) b.parts ∙ append_assoc b.front b.rest more;
    }

size_within : (text front rest : List ℕ) (size : ℕ) → text ≡ front ++ rest → length front ≡ size → size ≤ length text
size_within text front rest size e w = omega (arith, ap length e, length-append front rest)

-- a character whose UTF-8 begins with a byte above 127 is above 127
above_from : (text : List ℕ) (c size : ℕ) → 128 ≤ slice_index text 0 → text ≡ encode_utf8 c ++ drop size text → 128 ≤ c
above_from text c size above e =
    ⊎_elim
    (λ low.
    let first : slice_index text 0 ≡ c = ap (λ l. slice_index l 0) e ∙ ap (λ l. slice_index (l ++ drop size text) 0) (encode_ascii c low) in omega arith)
    (λ h. h)
    (cases_lt c 128)

-- what the decoder finds at a byte above 127 is a character in UTF-8
pub utf8_found : (text : List ℕ) (c : ℕ) → 128 ≤ slice_index text 0 → (decoded text).char ≡ Some c → IsUtf8Of c (take (decoded text).size text) × ((decoded text).size ≤ length text)
utf8_found text c above found =
    let spells = SpellsChar-decoded text c found in
    let size : ℕ = (decoded text).size in
    let front : take size text ≡ encode_utf8 c = ap (take size) spells.bytes ∙ take_at (encode_utf8 c) (drop size text) size spells.width in
    let high : 128 ≤ c = above_from text c size above spells.bytes in
    (record { scalar = spells.scalar; above = high; spelled = front }, size_within text (encode_utf8 c) (drop size text) size spells.bytes spells.width)

none_by : (text : List ℕ) → 128 ≤ slice_index text 0 → ¬ (BeginsUtf8 text) → (found : Option ℕ) → (decoded text).char ≡ found → is_some (decoded text).char ≡ false
none_by text above stops None e = ap is_some e
none_by text above stops (Some c) e =
    let here = utf8_found text c above e in
    let size : ℕ = (decoded text).size in
    absurd (stops (record { code = c; front = take size text; rest = drop size text; character = here.0; parts = sym (take-append-drop size text) }))

-- where the byte is above 127 and no character begins, the decoder finds none
pub utf8_none : (b : ℕ) (rest : List ℕ) → 128 ≤ b → ¬ (BeginsUtf8 (b ∷ rest)) → is_some (decoded (b ∷ rest)).char ≡ false
utf8_none b rest above stops = none_by (b ∷ rest) above stops (decoded (b ∷ rest)).char refl

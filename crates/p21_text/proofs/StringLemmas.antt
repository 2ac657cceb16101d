-- A string is spelled exactly where the code finds its closing apostrophe.
use Rattle.std.proofs.Common.{◌≡◌, ◌≢◌, ℕ, zero, suc, ◌+◌, ◌<◌, ◌≤◌, ◌⊎◌, inl, inr, ⊎_elim, false, List, [], ◌∷◌, ◌++◌, length, take, drop, slice_index, get_or, refl, sym, ap, subst, ◌∙◌, arith, length-append, append_assoc, nat_eq, length-take-le, length-take, Fits, w8, add-zero}
use Rattle.std.proofs.lemmas.Bool.Decides.{nat_tests}
use Rattle.std.proofs.lemmas.List.{drop_at, take-append-drop, take_more, drop-drop, get_or-drop}
use Rattle.std.specs.Coded.{le_prop}
use mathlib.Core.Logic.{∥∥₁_elim}
use Rattle.p21_text.specs.Items
use Rattle.p21_text.specs.Items.{Item, IsItem, IsItems, ItemsOf, IsBody, BeginsUtf8}
use Rattle.p21_text.specs.Spelling.{Symbol, Spells, NotBefore, IsUpper}
use Rattle.p21_text.specs.Spelling as token
use Rattle.p21_text.specs.Tokens.{Front}
use Rattle.p21_text.specs.ItemShapes.{shape}
use Rattle.p21_text.specs.Meanings.{AreBytes}
use Rattle.p21_text.specs.Values.{part_after, items_at}
use Rattle.p21_text.specs.Closing
use Rattle.p21_text.specs.Closing.{Closes, NeverCloses}
use Rattle.p21_text.proofs.Utf8Lemmas.{utf8_in_body, utf8_behind}
use Rattle.p21_text.proofs.ItemShapeLemmas.{item_shape}
use Rattle.p21_text.proofs.ValueLemmas.{item_long}
use Rattle.p21_text.proofs.FoundLemmas.{found}
use Rattle.p21_text.proofs.Shapes.{Shape, front_by, none_by}
use Rattle.p21_text.proofs.Groups.{StringFront, only_string}

pub bytes_of : (text : List ℕ) → ((k : ℕ) → Fits w8 (get_or text k 0)) → AreBytes text
bytes_of text h = λ k. let fits : Fits w8 (get_or text k 0) = h k in omega (arith, fits)

pub bytes_drop : (n : ℕ) (text : List ℕ) → AreBytes text → AreBytes (drop n text)
bytes_drop n text h = λ k. rw (get_or-drop n text k 0) (h (n + k))

-- an item of a body is one with an apostrophe after the body
item_further : (part next : ℕ) (front rest more : List ℕ) (items : List Item) → IsItem part front rest next items → IsItem part front (rest ++ 39 ∷ more) next items
item_further part next front rest more items (Items.plain p) = Items.plain p
item_further part next front rest more items Items.apostrophe = Items.apostrophe
item_further part next front rest more items Items.solidus = Items.solidus
item_further part next front rest more items (Items.control c) = Items.control c
item_further part next front rest more items (Items.utf8 h) = Items.utf8 h
item_further part next front rest more items (Items.byte {b = b} low high stops) = Items.byte low high (λ u. stops (utf8_in_body (b ∷ rest) more u))
item_further part next front rest more items (Items.choice low high e) = Items.choice low high e
item_further part next front rest more items (Items.first_part low high e) = Items.first_part low high e
item_further part next front rest more items (Items.other_part low high e) = Items.other_part low high e
item_further part next front rest more items (Items.hex h) = Items.hex h
item_further part next front rest more items (Items.hex2 e some g u) = Items.hex2 e some g u
item_further part next front rest more items (Items.hex4 e some g u) = Items.hex4 e some g u

closed_shape : (more : List ℕ) → NotBefore (λ b. b ≡ 39) more → shape (39 ∷ more) ≡ 0
closed_shape [] h = refl
closed_shape (b ∷ more) h = let other : nat_eq b 39 ≡ false = grind (arith, nat_tests) in rw other refl

-- a body that an apostrophe follows, and no second one, closes there
pub body_closes : (part : ℕ) (body more : List ℕ) (items : List Item) → NotBefore (λ b. b ≡ 39) more → IsItems part body items → Closes (body ++ 39 ∷ more) (length body)
body_closes part body more items stop Items.none = Closing.here (closed_shape more stop) refl
body_closes part body more items stop (Items.more {next = next} {front = front} {rest = rest} {first = first} {others = others} et ei i r) =
    let text : List ℕ = body ++ 39 ∷ more in
    let parts : text ≡ front ++ (rest ++ 39 ∷ more) = ap (λ l. l ++ 39 ∷ more) et ∙ append_assoc front rest (39 ∷ more) in
    let len : shape text ≡ length front = ap shape parts ∙ item_shape part next front (rest ++ 39 ∷ more) first (item_further part next front rest more first i) in
    let left : drop (shape text) text ≡ rest ++ 39 ∷ more = ap (λ n. drop n text) len ∙ ap (drop (length front)) parts ∙ drop_at front (rest ++ 39 ∷ more) (length front) refl in
    let some : 0 < shape text = rw len (item_long part next front rest first i) in
    let whole : length body ≡ shape text + length rest = ap length et ∙ length-append front rest ∙ ap (λ n. n + length rest) (sym len) in
    Closing.later some (rw left (body_closes next rest more others stop r)) whole

zero_not_two : (n : ℕ) → n ≡ 0 → n ≡ 2 → ⊥
zero_not_two n z t = omega arith

further : (n s m : ℕ) → n ≡ s + m → n + 1 ≡ s + (m + 1)
further n s m e = omega arith

zero_or : (n : ℕ) → (n ≡ 0) ⊎ (0 < n)
zero_or zero = inl refl
zero_or (suc n) = inr (omega arith)

-- after an item of one byte stands the rest of the text
pub one_same : (text : List ℕ) → shape text ≡ 1 → BeginsUtf8 (slice_index text 0 ∷ drop (shape text) text) → BeginsUtf8 text
one_same [] one b = cc
one_same (c ∷ text) one b = subst (λ n. BeginsUtf8 (c ∷ drop n (c ∷ text))) one b

take_fits : (n : ℕ) (text : List ℕ) → n ≡ length (take n text) → n ≤ length text
take_fits n text e = omega (arith, e, length-take n text)

-- a shape lies within the text
pub shape_fits : (text : List ℕ) → AreBytes text → shape text ≤ length text
shape_fits text h =
    ⊎_elim
    (λ (none : shape text ≡ 0). omega arith)
    (λ (some : 0 < shape text).
    let item = found 1 text (drop (shape text) text) (h 0) (one_same text) some in
    let len : shape text ≡ length (take (shape text) text) = ap shape (sym (take-append-drop (shape text) text)) ∙ item_shape 1 (part_after 1 text) (take (shape text) text) (drop (shape text) text) (items_at 1 text) item in
    take_fits (shape text) text len)
    (zero_or (shape text))

pub closes_once : (text : List ℕ) (n m : ℕ) → Closes text n → Closes text m → n ≡ m
closes_once text n m (Closing.here z q) (Closing.here z' q') = refl
closes_once text n m (Closing.here z q) (Closing.later s c e) = absurd (omega arith)
closes_once text n m (Closing.later s c e) (Closing.here z q) = absurd (omega arith)
closes_once text n m (Closing.later {n = a} s c e) (Closing.later {n = b} s' c' e') =
    let same : a ≡ b = closes_once (drop (shape text) text) a b c c' in cc

closes_never : (text : List ℕ) (n : ℕ) → Closes text n → NeverCloses text → ⊥
closes_never text n (Closing.here z q) (Closing.here z' q') = q' q
closes_never text n (Closing.here z q) (Closing.later s c) = absurd (omega arith)
closes_never text n (Closing.later s c e) (Closing.here z q) = absurd (omega arith)
closes_never text n (Closing.later {n = a} s c e) (Closing.later s' c') = closes_never (drop (shape text) text) a c c'

take_both : (a b : List ℕ) (n m : ℕ) → length a ≡ n → take (n + m) (a ++ b) ≡ a ++ take m b
take_both [] b n m e = rw (← e) (ap (λ k. take k b) (omega arith))
take_both (x ∷ a) b n m e =
    let count : n + m ≡ suc (length a + m) = omega arith in rw count (ap (λ l. x ∷ l) (take_both a b (length a) m refl))

take_add : (n m : ℕ) (text : List ℕ) → n ≤ length text → take (n + m) text ≡ take n text ++ take m (drop n text)
take_add n m text h =
    ap (take (n + m)) (sym (take-append-drop n text)) ∙ take_both (take n text) (drop n text) n m (length-take-le n text h)

closer_same : (text : List ℕ) (m : ℕ) → shape text ≡ 1 → BeginsUtf8 (slice_index text 0 ∷ take m (drop (shape text) text)) → BeginsUtf8 text
closer_same [] m one b = cc
closer_same (c ∷ text) m one b =
    let near : BeginsUtf8 (c ∷ take m text) = subst (λ n. BeginsUtf8 (c ∷ take m (drop n (c ∷ text)))) one b in
    subst BeginsUtf8 (ap (λ l. c ∷ l) (take-append-drop m text)) (utf8_behind (c ∷ take m text) (drop m text) near)

-- up to where a string closes stand items, whatever part is chosen
pub closes_items : (text : List ℕ) (n : ℕ) → AreBytes text → Closes text n → (part : ℕ) → (items : List Item) × IsItems part (take n text) items
closes_items text n h (Closing.here z q) part = ([], Items.none)
closes_items text n h (Closing.later {n = m} some c e) part =
    let size : ℕ = shape text in
    let behind : List ℕ = take m (drop size text) in
    let rest = closes_items (drop size text) m (bytes_drop size text h) c (part_after part text) in
    let item = found part text behind (h 0) (closer_same text m) some in
    let parts : take n text ≡ take size text ++ behind = ap (λ k. take k text) e ∙ take_add size m text (shape_fits text h) in
    (items_at part text ++ rest.0, Items.more parts refl item rest.1)

at_drop : (text : List ℕ) (n m k : ℕ) → k ≡ n + m → slice_index text k ≡ slice_index (drop n text) m
at_drop text n m k e = rw e (sym (get_or-drop n text m 0))

shape_doubled : (text : List ℕ) → slice_index text 0 ≡ 39 → slice_index text 1 ≡ 39 → shape text ≡ 2
shape_doubled text q r = rw (q, r) refl

-- where a string closes stands an apostrophe, and no second one after it
pub closes_mark : (text : List ℕ) (n : ℕ) → Closes text n → slice_index text n ≡ 39
closes_mark text n (Closing.here z q) = q
closes_mark text n (Closing.later {n = m} some c e) = at_drop text (shape text) m n e ∙ closes_mark (drop (shape text) text) m c

pub closes_single : (text : List ℕ) (n : ℕ) → Closes text n → slice_index text (n + 1) ≢ 39
closes_single text n (Closing.here z q) = λ r. zero_not_two (shape text) z (shape_doubled text q r)
closes_single text n (Closing.later {n = m} some c e) =
    λ r. closes_single (drop (shape text) text) m c (sym (at_drop text (shape text) (m + 1) (n + 1) (further n (shape text) m e)) ∙ r)

stands_within : (text : List ℕ) (n : ℕ) → slice_index text n ≡ 39 → n < length text
stands_within [] n e = absurd (omega arith)
stands_within (b ∷ text) zero e = omega arith
stands_within (b ∷ text) (suc n) e = let more = stands_within text n e in omega arith

not_behind : (text : List ℕ) (n : ℕ) → slice_index text n ≢ 39 → NotBefore (λ b. b ≡ 39) (drop n text)
not_behind [] zero h = tt
not_behind [] (suc n) h = tt
not_behind (b ∷ text) zero h = h
not_behind (b ∷ text) (suc n) h = not_behind text n h

closes_there : (text : List ℕ) (size n : ℕ) → size ≡ shape text → 0 < size → Closes (drop size text) n → Closes text (size + n)
closes_there text size n e some c =
    Closing.later (rw (← e) some) (subst (λ k. Closes (drop k text) n) e c) (ap (λ k. k + n) e)

never_there : (text : List ℕ) (size : ℕ) → size ≡ shape text → 0 < size → NeverCloses (drop size text) → NeverCloses text
never_there text size e some c = Closing.later (rw (← e) some) (subst (λ k. NeverCloses (drop k text)) e c)

-- a string is spelled only up to where it closes
pub spelled_closes : (tail front behind : List ℕ) → 39 ∷ tail ≡ front ++ behind → (s : StringFront front behind)
    → (P : Type 0) → IsProp P → (Closes tail (length s.body) → P) → P
spelled_closes tail front behind e s P prop then =
    let body : List ℕ = s.body in
    let parts : 39 ∷ tail ≡ (39 ∷ (body ++ 39 ∷ [])) ++ behind = e ∙ ap (λ l. l ++ behind) s.spelled in
    let rest : tail ≡ body ++ 39 ∷ behind = ap (drop 1) parts ∙ append_assoc body (39 ∷ []) behind in
    ∥∥₁_elim s.is_body prop (λ i. then (rw rest (body_closes 1 body behind i.0 s.stops i.1)))

pub string_front : (tail : List ℕ) (n : ℕ) → AreBytes tail → Closes tail n → Front (39 ∷ tail) (n + 2) (token.str (take n tail))
string_front tail n bytes closes =
    front_by (39 ∷ tail) (n + 2) (token.str (take n tail)) (omega (arith, within)) (spelled, body, stop) longest where
      within : n < length tail
      within = stands_within tail n (closes_mark tail n closes)

      count : n + 2 ≡ suc (n + 1)
      count = omega arith

      spelled : take (n + 2) (39 ∷ tail) ≡ 39 ∷ (take n tail ++ 39 ∷ [])
      spelled = rw count (ap (λ l. 39 ∷ l) (take_more tail n 0 within ∙ ap (λ b. take n tail ++ b ∷ []) (closes_mark tail n closes)))

      body : IsBody (take n tail)
      body = ∣ closes_items tail n bytes closes 1 ∣₁

      stop : NotBefore (λ b. b ≡ 39) (drop (n + 2) (39 ∷ tail))
      stop = rw count (not_behind tail (n + 1) (closes_single tail n closes))

      longest : (front behind : List ℕ) → 39 ∷ tail ≡ front ++ behind → Shape front behind → length front ≤ n + 2
      longest front behind e s =
          let u = only_string 39 tail front behind e refl s in
          spelled_closes tail front behind e u (length front ≤ n + 2) le_prop
          (λ c. let same : length u.body ≡ n = closes_once tail (length u.body) n c closes in omega (arith, ap length u.spelled, length-append u.body (39 ∷ [])))

pub string_none : (tail : List ℕ) → NeverCloses tail → Front (39 ∷ tail) 0 token.bad
string_none tail never = none_by (39 ∷ tail) (λ e. cc) nothing where
  nothing : (front behind : List ℕ) → 39 ∷ tail ≡ front ++ behind → Shape front behind → ⊥
  nothing front behind e s =
      let u = only_string 39 tail front behind e refl s in
      spelled_closes tail front behind e u ⊥ (λ x y. absurd x) (λ c. closes_never tail (length u.body) c never)

-- one item further
pub closes_next : (text rest : List ℕ) (at size : ℕ) → rest ≡ drop at text → size ≡ shape rest → 0 < size
    → ((n : ℕ) → Closes (drop at text) n → Closes text (at + n)) → (n : ℕ) → Closes (drop (at + size) text) n → Closes text (at + size + n)
closes_next text rest at size e f some go n c =
    let here : Closes (drop at text) (size + n) = closes_there (drop at text) size n (f ∙ ap shape e) some (rw (drop-drop size at text) c) in
    let count : at + size + n ≡ at + (size + n) = omega arith in
    rw count (go (size + n) here)

pub never_next : (text rest : List ℕ) (at size : ℕ) → rest ≡ drop at text → size ≡ shape rest → 0 < size
    → (NeverCloses (drop at text) → NeverCloses text) → NeverCloses (drop (at + size) text) → NeverCloses text
never_next text rest at size e f some go c =
    go (never_there (drop at text) size (f ∙ ap shape e) some (rw (drop-drop size at text) c))

-- where the items end
pub closes_here : (text rest : List ℕ) (at size byte : ℕ) → rest ≡ drop at text → size ≡ shape rest → size ≡ 0 → byte ≡ slice_index rest 0 → byte ≡ 39
    → ((n : ℕ) → Closes (drop at text) n → Closes text (at + n)) → Closes text at
closes_here text rest at size byte e f z g q go =
    let here : Closes (drop at text) 0 = Closing.here (ap shape (sym e) ∙ sym f ∙ z) (ap (λ l. slice_index l 0) (sym e) ∙ sym g ∙ q) in
    rw add-zero at (go 0 here)

pub never_here : (text rest : List ℕ) (at size byte : ℕ) → rest ≡ drop at text → size ≡ shape rest → size ≡ 0 → byte ≡ slice_index rest 0 → byte ≢ 39
    → (NeverCloses (drop at text) → NeverCloses text) → NeverCloses text
never_here text rest at size byte e f z g q go =
    go (Closing.here (ap shape (sym e) ∙ sym f ∙ z) (λ r. q (g ∙ ap (λ l. slice_index l 0) e ∙ r)))

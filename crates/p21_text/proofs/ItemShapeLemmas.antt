-- The item at the front of a text has the length that the code finds.
use Rattle.std.proofs.Common.{◌≡◌, ◌≢◌, ℕ, ◌+◌, ◌*◌, ◌%◌, ◌<◌, ◌≤◌, ⊎_elim, true, false, cond, ◌&&◌, List, [], ◌∷◌, ◌++◌, length, drop, slice_index, refl, ap, ◌∙◌, arith, length-append, append_assoc, lt-ltb, nat_eq, nat_lt, nat_le}
use Rattle.std.specs.List.{AllByRecursion, prefix_len, starts_with}
use Rattle.std.specs.Option.{is_some}
use Rattle.std.proofs.lemmas.Bool.Decides.{nat_tests}
use Rattle.std.proofs.lemmas.List.{drop_at}
use Rattle.bstr.specs.Utf8.{decoded}
use Rattle.p21_text.specs.Items
use Rattle.p21_text.specs.Items.{Item, IsItem, IsPlain, IsHexDigit, IsHex, IsGroups, IsUtf8Of, BeginsUtf8}
use Rattle.p21_text.specs.ItemShapes.{plain_byte, hex_byte, closing, digits_run, byte_shape, groups_shape, high_shape, special_shape, shape}
use Rattle.p21_text.proofs.Utf8Lemmas.{utf8_first, utf8_decoded, utf8_none}

pub plain_yes : (b : ℕ) → IsPlain b → plain_byte b ≡ true
plain_yes b p = grind (arith, nat_tests)

pub high_not_plain : (b : ℕ) → 128 ≤ b → plain_byte b ≡ false
high_not_plain b h = grind (arith, nat_tests)

pub hex_yes : (b v : ℕ) → IsHexDigit b v → hex_byte b ≡ true
hex_yes b v (Items.digit e l) = grind (arith, nat_tests)
hex_yes b v (Items.upper e l h) = grind (arith, nat_tests)
hex_yes b v (Items.lower e l h) = grind (arith, nat_tests)

abbrev pub AllHex : List ℕ → Type 0
AllHex bs = AllByRecursion (λ b. hex_byte b ≡ true) bs

pub all_hex_append : (a b : List ℕ) → AllHex a → AllHex b → AllHex (a ++ b)
all_hex_append [] b p q = q
all_hex_append (x ∷ a) b p q = (p.0, all_hex_append a b p.1 q)

pub hex_all : (n : ℕ) (text : List ℕ) (v : ℕ) → IsHex n text v → AllHex text × (length text ≡ n)
hex_all n text v Items.none = (tt, refl)
hex_all n text v (Items.more {n = m} {b = b} {v = last} {high = high} {digits = digits} en et front back ev) =
    let found = hex_all m digits high front in
    (rw et (all_hex_append digits (b ∷ []) found.0 (hex_yes b last back, tt)), rw et (omega (arith, length-append digits (b ∷ []), found.1, en)))

-- a run of digits that something else follows
pub run_is : (digits rest : List ℕ) (s : ℕ) → AllHex digits → hex_byte s ≡ false → prefix_len hex_byte (digits ++ s ∷ rest) ≡ length digits
run_is [] rest s h stop = rw stop refl
run_is (b ∷ digits) rest s h stop = rw (h.0, run_is digits rest s h.1 stop) (omega arith)

-- groups of n digits: all digits, and n of them for each value
pub groups_all : (n : ℕ) (text values : List ℕ) → IsGroups n text values → AllHex text × (length text ≡ length values * n)
groups_all n text values Items.none = (tt, omega arith)
groups_all n text values (Items.more {front = front} {rest = rest} {values = others} {v = v} et h g) =
    let first = hex_all n front v h in
    let more = groups_all n rest others g in
    (rw et (all_hex_append front rest first.0 more.0), rw et (omega (arith, length-append front rest, first.1, more.1)))

-- the shape of a run of r digits, with what stands after it
abbrev run_shape : ℕ → ℕ → List ℕ → ℕ
run_shape size r tail = cond (nat_lt 0 r && nat_eq (r % size) 0 && starts_with nat_eq tail closing) (8 + r) 0

run_ok : (size r : ℕ) (behind : List ℕ) → 0 < r → r % size ≡ 0 → run_shape size r (closing ++ behind) ≡ 8 + r
run_ok size r behind some whole = rw (lt-ltb 0 r some, whole) refl

-- the run that stands after `\X2\` or `\X4\`
pub run_of : (d : ℕ) (groups behind : List ℕ) → AllHex groups → digits_run (92 ∷ 88 ∷ d ∷ 92 ∷ ((groups ++ closing) ++ behind)) ≡ length groups
run_of d groups behind hex =
    ap (prefix_len hex_byte) (append_assoc groups closing behind) ∙ run_is groups (88 ∷ 48 ∷ 92 ∷ behind) 92 hex refl

groups_ok : (size d : ℕ) (groups behind : List ℕ) → 0 < length groups → length groups % size ≡ 0 → AllHex groups
    → groups_shape size (92 ∷ 88 ∷ d ∷ 92 ∷ ((groups ++ closing) ++ behind)) ≡ 8 + length groups
groups_ok size d groups behind some whole hex =
    let text : List ℕ = 92 ∷ 88 ∷ d ∷ 92 ∷ ((groups ++ closing) ++ behind) in
    let joined : (groups ++ closing) ++ behind ≡ groups ++ (closing ++ behind) = append_assoc groups closing behind in
    let run : digits_run text ≡ length groups = run_of d groups behind hex in
    let left : drop (4 + length groups) text ≡ closing ++ behind =
    ap (λ l. drop (4 + length groups) (92 ∷ 88 ∷ d ∷ 92 ∷ l)) joined ∙ drop_at (92 ∷ 88 ∷ d ∷ 92 ∷ groups) (closing ++ behind) (4 + length groups) (omega arith) in
    ap (λ r. run_shape size r (drop (4 + r) text)) run ∙ ap (run_shape size (length groups)) left ∙ run_ok size (length groups) behind some whole

-- a byte above 127
pub special_high : (b : ℕ) (text : List ℕ) → 128 ≤ b → cond (plain_byte b) 1 (special_shape b text) ≡ high_shape text
special_high b text h =
    let plain : plain_byte b ≡ false = high_not_plain b h in
    let quote : nat_eq b 39 ≡ false = grind (arith, nat_tests) in
    let solidus : nat_eq b 92 ≡ false = grind (arith, nat_tests) in
    let high : nat_le 128 b ≡ true = grind (arith, nat_tests) in
    rw (plain, quote, solidus, high) refl

two_digits : (digits behind : List ℕ) → AllHex digits → length digits ≡ 2 → byte_shape (92 ∷ 88 ∷ 92 ∷ (digits ++ behind)) ≡ 3 + length digits
two_digits [] behind h e = absurd (omega arith)
two_digits (x ∷ []) behind h e = absurd (omega arith)
two_digits (x ∷ y ∷ []) behind h e = rw (h.0, h.1.0) refl
two_digits (x ∷ y ∷ z ∷ rest) behind h e = absurd (omega arith)

pub some_length : (l : List ℕ) → l ≢ [] → 0 < length l
some_length [] some = absurd (some refl)
some_length (x ∷ l) some = omega arith

pub item_shape : (part next : ℕ) (front behind : List ℕ) (items : List Item) → IsItem part front behind next items → shape (front ++ behind) ≡ length front
item_shape part next front behind items (Items.plain {b = b} p) = rw (plain_yes b p) refl
item_shape part next front behind items Items.apostrophe = refl
item_shape part next front behind items Items.solidus = refl
item_shape part next front behind items (Items.control {b = b} c) =
    ⊎_elim (λ e. rw e refl) (λ r. ⊎_elim (λ e. rw e refl) (λ e. rw e refl) r) c
item_shape part next front behind items (Items.utf8 {c = c} h) =
    special_high (slice_index (front ++ behind) 0) (front ++ behind) (utf8_first c front behind h)
    ∙ ap (λ d. cond (is_some d.char) d.size 1) (utf8_decoded c front behind h)
item_shape part next front behind items (Items.byte {b = b} low high stops) =
    special_high b (b ∷ behind) low ∙ ap (λ s. cond s (decoded (b ∷ behind)).size 1) (utf8_none b behind low stops)
item_shape part next front behind items (Items.choice {chosen = chosen} {b = b} low high e) = grind (arith, nat_tests)
item_shape part next front behind items (Items.first_part {c = c} low high e) = grind (arith, nat_tests)
item_shape part next front behind items (Items.other_part {c = c} low high e) = grind (arith, nat_tests)
item_shape part next front behind items (Items.hex {v = v} {digits = digits} h) =
    let found = hex_all 2 digits v h in two_digits digits behind found.0 found.1 ∙ omega arith
item_shape part next front behind items (Items.hex2 {groups = groups} {values = values} e some g u) =
    let found = groups_all 4 groups values g in
    let long : 0 < length groups = some_length groups some in
    rw e (groups_ok 4 50 groups behind long (omega (arith, found.1)) found.0 ∙ omega (arith, length-append groups closing))
item_shape part next front behind items (Items.hex4 {groups = groups} {values = values} e some g u) =
    let found = groups_all 8 groups values g in
    let long : 0 < length groups = some_length groups some in
    rw e (groups_ok 8 52 groups behind long (omega (arith, found.1)) found.0 ∙ omega (arith, length-append groups closing))

-- The characters that the items of a string stand for.
use Rattle.std.specs.Prelude.{ℕ, ◌+◌, ◌-◌, ◌*◌, nat_lt, nat_le, ◌||◌, if◌then◌else◌, List, length, map, slice_index}
use Rattle.std.specs.Str.{encode_utf8_all}
use Rattle.p21_text.specs.Items.{Item, scalar, page}
use Rattle.p21_json.specs.declared.pages.TheConstants.{PAGES}

-- a code that is a character, and else U+FFFD
abbrev pub character : ℕ → ℕ
character code = if nat_lt code 0xD800 || nat_le 0xE000 code then code else 0xFFFD

-- The place of a character of ISO 8859 in the table of its parts 2 to 9, of which each has the characters 160 to 255. The part's letter is `B` to `I`.
abbrev pub page_place : ℕ → ℕ → ℕ
page_place letter n = 96 * (letter - 66) + (n - 160)

-- the character there
unfoldable pub page_char : ℕ → ℕ → ℕ
page_char letter n = if nat_lt (page_place letter n) (length PAGES) then character (slice_index PAGES (page_place letter n)) else 0xFFFD

-- the character of an item
abbrev pub char_of : Item → ℕ
char_of (scalar c) = c
char_of (page letter n) = page_char letter n

-- the text of items
-- Each item is a character: by its code, or by the table of its page of ISO 8859. What is no character is U+FFFD.
abbrev pub text_of_items : List Item → List ℕ
text_of_items items = encode_utf8_all (map char_of items)

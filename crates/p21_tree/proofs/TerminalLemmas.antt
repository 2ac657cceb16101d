-- The tokens that the grammar names, found by the code.
use Rattle.std.proofs.Common.{◌≡◌, ℕ, Bool, true, false, Option, Some, None, List, refl, ap, ◌∙◌}
use Rattle.std.specs.Str.{bytes_eq}
use Rattle.std.specs.Prelude.{if◌then◌else◌}
use Rattle.std.proofs.lemmas.Slice.Eq.{bytes_eq-Decides}
use Rattle.p21_text.specs.Spelling.{Symbol}
use Rattle.p21_text.specs.Spelling as token
use Rattle.p21_tree.specs.declared.terminals.Terminal.{Terminal}
use Rattle.p21_tree.specs.declared.terminals.Terminal.TheVariants as variants
use Rattle.p21_tree.specs.Sentence.{header_word, endsec_word, data_word}
use Rattle.p21_tree.specs.Terminals.{terminal_of, terminal_in}

-- the terminal that three tests give
abbrev pub by_tests : Bool → Bool → Bool → Option Terminal
by_tests a b c = if a then Some variants.Header else (if b then Some variants.EndSec else (if c then Some variants.Data else None))

pub tests_say : (k : List ℕ) (w : Terminal) (a b c : Bool) → bytes_eq k header_word ≡ a → bytes_eq k endsec_word ≡ b → bytes_eq k data_word ≡ c → by_tests a b c ≡ Some w → token.keyword k ≡ terminal_of w
tests_say k w true b c ea eb ec e = let f : variants.Header ≡ w = cc in ap token.keyword ((bytes_eq-Decides k header_word).0 ea) ∙ ap terminal_of f
tests_say k w false true c ea eb ec e = let f : variants.EndSec ≡ w = cc in ap token.keyword ((bytes_eq-Decides k endsec_word).0 eb) ∙ ap terminal_of f
tests_say k w false false true ea eb ec e = let f : variants.Data ≡ w = cc in ap token.keyword ((bytes_eq-Decides k data_word).0 ec) ∙ ap terminal_of f
tests_say k w false false false ea eb ec e = absurd (cc)

pub terminal_says : (s : Symbol) (w : Terminal) → terminal_in s ≡ Some w → s ≡ terminal_of w
terminal_says token.iso w e = let f : variants.Iso ≡ w = cc in ap terminal_of f
terminal_says token.end_iso w e = let f : variants.EndIso ≡ w = cc in ap terminal_of f
terminal_says (token.keyword k) w e = tests_say k w (bytes_eq k header_word) (bytes_eq k endsec_word) (bytes_eq k data_word) refl refl refl e
terminal_says token.lparen w e = let f : variants.Open ≡ w = cc in ap terminal_of f
terminal_says token.equals w e = let f : variants.Equals ≡ w = cc in ap terminal_of f
terminal_says token.semi w e = let f : variants.Semi ≡ w = cc in ap terminal_of f
terminal_says token.end w e = let f : variants.End ≡ w = cc in ap terminal_of f
terminal_says _ w e = absurd (cc)

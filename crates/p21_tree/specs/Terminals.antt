-- The tokens that the grammar names, as the code names them.
use Rattle.std.specs.Prelude.{ℕ, Option, Some, None, List, if◌then◌else◌}
use Rattle.std.specs.Str.{bytes_eq}
use Rattle.p21_text.specs.Spelling.{Symbol}
use Rattle.p21_text.specs.Spelling as token
use Rattle.p21_tree.specs.declared.terminals.Terminal.{Terminal}
use Rattle.p21_tree.specs.declared.terminals.Terminal.TheVariants as variants
use Rattle.p21_tree.specs.Sentence.{header_word, endsec_word, data_word}

-- the token
abbrev pub terminal_of : Terminal → Symbol
terminal_of variants.Iso = token.iso
terminal_of variants.EndIso = token.end_iso
terminal_of variants.Header = token.keyword header_word
terminal_of variants.EndSec = token.keyword endsec_word
terminal_of variants.Data = token.keyword data_word
terminal_of variants.Open = token.lparen
terminal_of variants.Equals = token.equals
terminal_of variants.Semi = token.semi
terminal_of variants.End = token.end

abbrev pub keyword_terminal_in : List ℕ → Option Terminal
keyword_terminal_in k = if bytes_eq k header_word then Some variants.Header else (if bytes_eq k endsec_word then Some variants.EndSec else (if bytes_eq k data_word then Some variants.Data else None))

abbrev pub terminal_in : Symbol → Option Terminal
terminal_in token.iso = Some variants.Iso
terminal_in token.end_iso = Some variants.EndIso
terminal_in (token.keyword k) = keyword_terminal_in k
terminal_in (token.user_keyword k) = None
terminal_in (token.int s) = None
terminal_in (token.real s) = None
terminal_in (token.str s) = None
terminal_in (token.name n) = None
terminal_in (token.enumeration s) = None
terminal_in (token.binary s) = None
terminal_in token.dollar = None
terminal_in token.star = None
terminal_in token.lparen = Some variants.Open
terminal_in token.rparen = None
terminal_in token.comma = None
terminal_in token.equals = Some variants.Equals
terminal_in token.semi = Some variants.Semi
terminal_in token.end = Some variants.End
terminal_in token.bad = None

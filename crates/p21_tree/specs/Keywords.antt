-- The keyword that a token is, if it is one.
use Rattle.std.specs.Prelude.{ℕ, Option, Some, None, List}
use Rattle.std.specs.Borrow.{Bor}
use Rattle.p21_text.specs.Spelling.{Symbol}
use Rattle.p21_text.specs.Spelling as token

abbrev pub keyword_in : Symbol → Option (List ℕ)
keyword_in token.iso = None
keyword_in token.end_iso = None
keyword_in (token.keyword k) = Some k
keyword_in (token.user_keyword k) = Some k
keyword_in (token.int s) = None
keyword_in (token.real s) = None
keyword_in (token.str s) = None
keyword_in (token.name n) = None
keyword_in (token.enumeration s) = None
keyword_in (token.binary s) = None
keyword_in token.dollar = None
keyword_in token.star = None
keyword_in token.lparen = None
keyword_in token.rparen = None
keyword_in token.comma = None
keyword_in token.equals = None
keyword_in token.semi = None
keyword_in token.end = None
keyword_in token.bad = None

-- what the code gives, without where it lies in memory
abbrev pub keyword_view : Option (Bor (List ℕ)) → Option (List ℕ)
keyword_view None = None
keyword_view (Some k) = Some k.now

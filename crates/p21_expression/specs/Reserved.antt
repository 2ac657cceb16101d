-- The words of the language, which are no names.
use Rattle.std.specs.Prelude.{ℕ, Bool, true, false, List, if◌then◌else◌, ◌||◌, codes}
use Rattle.std.specs.Str.{bytes_eq}

-- a word that joins operands, or stands for one
unfoldable pub is_operator_word : List ℕ → Bool
is_operator_word n =
    if bytes_eq n (codes "AND") then true else
    (if bytes_eq n (codes "ANDOR") then true else
    (if bytes_eq n (codes "DIV") then true else
    (if bytes_eq n (codes "FALSE") then true else
    (if bytes_eq n (codes "IN") then true else
    (if bytes_eq n (codes "LIKE") then true else
    (if bytes_eq n (codes "MOD") then true else
    (if bytes_eq n (codes "NOT") then true else
    (if bytes_eq n (codes "OR") then true else
    (if bytes_eq n (codes "QUERY") then true else
    (if bytes_eq n (codes "TRUE") then true else
    (if bytes_eq n (codes "UNKNOWN") then true else
    (if bytes_eq n (codes "XOR") then true else false))))))))))))

-- a word with which a statement begins
unfoldable pub is_statement_word : List ℕ → Bool
is_statement_word n =
    if bytes_eq n (codes "ALIAS") then true else
    (if bytes_eq n (codes "BEGIN") then true else
    (if bytes_eq n (codes "CASE") then true else
    (if bytes_eq n (codes "ESCAPE") then true else
    (if bytes_eq n (codes "IF") then true else
    (if bytes_eq n (codes "REPEAT") then true else
    (if bytes_eq n (codes "RETURN") then true else
    (if bytes_eq n (codes "SKIP") then true else false)))))))

-- a word that ends what another begins
unfoldable pub is_end_word : List ℕ → Bool
is_end_word n =
    if bytes_eq n (codes "END") then true else
    (if bytes_eq n (codes "END_ALIAS") then true else
    (if bytes_eq n (codes "END_CASE") then true else
    (if bytes_eq n (codes "END_CONSTANT") then true else
    (if bytes_eq n (codes "END_ENTITY") then true else
    (if bytes_eq n (codes "END_FUNCTION") then true else
    (if bytes_eq n (codes "END_IF") then true else
    (if bytes_eq n (codes "END_LOCAL") then true else
    (if bytes_eq n (codes "END_PROCEDURE") then true else
    (if bytes_eq n (codes "END_REPEAT") then true else
    (if bytes_eq n (codes "END_RULE") then true else
    (if bytes_eq n (codes "END_SCHEMA") then true else
    (if bytes_eq n (codes "END_TYPE") then true else false))))))))))))

-- a word within a statement or a declaration
unfoldable pub is_part_word : List ℕ → Bool
is_part_word n =
    if bytes_eq n (codes "BY") then true else
    (if bytes_eq n (codes "ELSE") then true else
    (if bytes_eq n (codes "FIXED") then true else
    (if bytes_eq n (codes "FOR") then true else
    (if bytes_eq n (codes "OF") then true else
    (if bytes_eq n (codes "OPTIONAL") then true else
    (if bytes_eq n (codes "OTHERWISE") then true else
    (if bytes_eq n (codes "THEN") then true else
    (if bytes_eq n (codes "TO") then true else
    (if bytes_eq n (codes "UNTIL") then true else
    (if bytes_eq n (codes "VAR") then true else
    (if bytes_eq n (codes "WHERE") then true else
    (if bytes_eq n (codes "WHILE") then true else false))))))))))))

-- a word with which a declaration or a part of one begins
unfoldable pub is_declaration_word : List ℕ → Bool
is_declaration_word n =
    if bytes_eq n (codes "CONSTANT") then true else
    (if bytes_eq n (codes "DERIVE") then true else
    (if bytes_eq n (codes "ENTITY") then true else
    (if bytes_eq n (codes "FUNCTION") then true else
    (if bytes_eq n (codes "INVERSE") then true else
    (if bytes_eq n (codes "LOCAL") then true else
    (if bytes_eq n (codes "PROCEDURE") then true else
    (if bytes_eq n (codes "RULE") then true else
    (if bytes_eq n (codes "SCHEMA") then true else
    (if bytes_eq n (codes "SUBTYPE") then true else
    (if bytes_eq n (codes "SUPERTYPE") then true else
    (if bytes_eq n (codes "TYPE") then true else
    (if bytes_eq n (codes "UNIQUE") then true else false))))))))))))

-- a word with which a type begins
unfoldable pub is_type_word : List ℕ → Bool
is_type_word n =
    if bytes_eq n (codes "AGGREGATE") then true else
    (if bytes_eq n (codes "ARRAY") then true else
    (if bytes_eq n (codes "BAG") then true else
    (if bytes_eq n (codes "BINARY") then true else
    (if bytes_eq n (codes "BOOLEAN") then true else
    (if bytes_eq n (codes "ENUMERATION") then true else
    (if bytes_eq n (codes "GENERIC") then true else
    (if bytes_eq n (codes "INTEGER") then true else
    (if bytes_eq n (codes "LIST") then true else
    (if bytes_eq n (codes "LOGICAL") then true else
    (if bytes_eq n (codes "NUMBER") then true else
    (if bytes_eq n (codes "REAL") then true else
    (if bytes_eq n (codes "SELECT") then true else
    (if bytes_eq n (codes "SET") then true else
    (if bytes_eq n (codes "STRING") then true else false))))))))))))))

-- a word of the language, and so no name; the functions, procedures and constants that the language names stand where names do
abbrev pub is_reserved : List ℕ → Bool
is_reserved n = is_operator_word n || (is_statement_word n || (is_end_word n || (is_part_word n || (is_declaration_word n || (is_type_word n)))))

-- The words that the grammar names, place by place.
use Rattle.std.specs.Prelude.{ℕ, Bool, List, if◌then◌else◌, ◌||◌, codes}
use Rattle.std.specs.Str.{bytes_eq}
use Rattle.p21_express.specs.declared.keywords.TypeWord.{TypeWord}
use Rattle.p21_express.specs.declared.keywords.TypeWord.TheVariants as types
use Rattle.p21_express.specs.declared.keywords.SimpleWord.TheVariants as simples
use Rattle.p21_express.specs.declared.keywords.AggregateWord.TheVariants as aggregates
use Rattle.p21_express.specs.declared.keywords.UnderWord.{UnderWord}
use Rattle.p21_express.specs.declared.keywords.UnderWord.TheVariants as unders
use Rattle.p21_express.specs.declared.keywords.DeclWord.{DeclWord}
use Rattle.p21_express.specs.declared.keywords.DeclWord.TheVariants as decls

-- where a type begins
unfoldable pub type_word_of : List ℕ → TypeWord
type_word_of n = if bytes_eq n (codes "INTEGER") then types.Simple simples.Integer else (if bytes_eq n (codes "NUMBER") then types.Simple simples.Number else (if bytes_eq n (codes "BOOLEAN") then types.Simple simples.Boolean else (if bytes_eq n (codes "LOGICAL") then types.Simple simples.Logical else (if bytes_eq n (codes "REAL") then types.Simple simples.Real else (if bytes_eq n (codes "STRING") then types.Simple simples.Text else (if bytes_eq n (codes "BINARY") then types.Simple simples.Binary else (if bytes_eq n (codes "ARRAY") then types.Aggregate aggregates.Array else (if bytes_eq n (codes "LIST") then types.Aggregate aggregates.List else (if bytes_eq n (codes "SET") then types.Aggregate aggregates.Set else (if bytes_eq n (codes "BAG") then types.Aggregate aggregates.Bag else types.Simple simples.Named))))))))))

-- where that which stands under a TYPE begins
unfoldable pub under_word_of : List ℕ → UnderWord
under_word_of n = if bytes_eq n (codes "ENUMERATION") then unders.Enumeration else (if bytes_eq n (codes "SELECT") then unders.Select else (if bytes_eq n (codes "EXTENSIBLE") then unders.Unsupported else (if bytes_eq n (codes "GENERIC_ENTITY") then unders.Unsupported else unders.Plain)))

-- where a declaration begins
unfoldable pub decl_word_of : List ℕ → DeclWord
decl_word_of n = if bytes_eq n (codes "ENTITY") then decls.Entity else (if bytes_eq n (codes "TYPE") then decls.Type else (if bytes_eq n (codes "FUNCTION") then decls.Function else (if bytes_eq n (codes "PROCEDURE") then decls.Procedure else (if bytes_eq n (codes "RULE") then decls.Rule else (if bytes_eq n (codes "CONSTANT") then decls.Constant else (if bytes_eq n (codes "USE") then decls.Unsupported else (if bytes_eq n (codes "REFERENCE") then decls.Unsupported else (if bytes_eq n (codes "SUBTYPE_CONSTRAINT") then decls.Unsupported else decls.Unknown))))))))

-- where the rules of an entity begin, after its attributes
unfoldable pub is_rules_word : List ℕ → Bool
is_rules_word n = bytes_eq n (codes "INVERSE") || (bytes_eq n (codes "UNIQUE") || bytes_eq n (codes "WHERE"))

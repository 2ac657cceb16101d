-- The report text of a list of instances: how many there are, and how many records of each keyword.
use Rattle.std.specs.Prelude.{◌≡◌, ℕ, ◌+◌, ◌-◌, ◌^◌, ◌<◌, ◌↔◌, map, min, List, [], ◌∷◌, ◌++◌, length, nat_eq, if◌then◌else◌, decimal, codes, Contains}
use Rattle.std.specs.List.{flat_map}
use Rattle.std.specs.List.Sorted.{IsStrictlySortedBy}
use Rattle.std.specs.Ordering.{nat_cmp}
use Rattle.std.specs.Cmp.Lexicographic.{slice_cmp, pointwise}
use Rattle.p21_tree.specs.Grammar.{Entry}
use Rattle.p21_tree.specs.Sentence.{Instance}
use Rattle.p21_check.specs.References.{names_count}

-- how many instance names are written in some records
abbrev pub record_references : List Entry → ℕ
record_references [] = 0
record_references (r ∷ rs) = names_count r.params + record_references rs

-- how many instance names are written as parameters
abbrev pub reference_count : List Instance → ℕ
reference_count [] = 0
reference_count (i ∷ is) = record_references i.records + reference_count is

-- how many instances are complex
abbrev pub complex_count : List Instance → ℕ
complex_count [] = 0
complex_count (i ∷ is) = (if i.complex then 1 else 0) + complex_count is

-- the keywords of all records, in file order
abbrev pub keywords_of : List Instance → List (List ℕ)
keywords_of [] = []
keywords_of (i ∷ is) = map (λ r. r.keyword) i.records ++ keywords_of is

-- how many of some keywords are this one
abbrev pub keyword_count : List ℕ → List (List ℕ) → ℕ
keyword_count k [] = 0
keyword_count k (other ∷ ks) = (if pointwise nat_eq other k then 1 else 0) + keyword_count k ks

-- a sum as it is written: at most 2 ^ 64 - 1
abbrev pub capped : ℕ → ℕ
capped n = min n (2 ^ 64 - 1)

-- a word, a space, a number and a line end
abbrev pub count_line : List ℕ → ℕ → List ℕ
count_line word n = word ++ 32 ∷ (decimal (capped n) ++ 10 ∷ [])

-- strictly increasing in byte order
abbrev pub AreIncreasing : List (List ℕ) → Type 0
AreIncreasing ks = IsStrictlySortedBy (slice_cmp nat_cmp) ks

-- The lines of instances, complex ones and references, and then a line for each keyword that some record has, in
-- byte order.
pub record IsCounts (is : List Instance) (text : List ℕ) : Type 0 where
  pub keywords : List (List ℕ)
  pub increasing : AreIncreasing keywords
  pub each : (k : List ℕ) → Contains keywords k ↔ (0 < keyword_count k (keywords_of is))
  pub spelled : text ≡ count_line (codes "instances") (length is) ++ (count_line (codes "complex") (complex_count is)
      ++ (count_line (codes "references") (reference_count is) ++ flat_map (λ k. count_line k (keyword_count k (keywords_of is))) keywords))

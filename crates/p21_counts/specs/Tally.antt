-- What the code keeps of the records that it has counted.
use Rattle.std.specs.Prelude.{◌≡◌, ℕ, ◌+◌, zero, suc, Bool, List, [], ◌∷◌, ◌++◌, Option, None, Some, nat_eq, if◌then◌else◌, codes, slice_get}
use Rattle.std.specs.Borrow.{Bor}
use Rattle.indexmap.specs.IndexMap.{IndexMap, get}
use Rattle.std.specs.Option.{option_map_or}
use Rattle.std.specs.Cmp.Lexicographic.{slice_cmp, pointwise}
use Rattle.std.specs.Ordering.{nat_cmp}
use Rattle.std.specs.declared.cmp.Ordering.{Ordering}
use Rattle.p21_counts.specs.Counts.{capped, count_line, complex_count, keyword_count, keywords_of, reference_count}
use Rattle.p21_counts.specs.declared.tally.Tally.{Tally}
use Rattle.p21_tree.specs.Sentence.{Instance}

-- a count that is kept: none of what was not met
abbrev pub kept : ℕ → Option ℕ
kept zero = None
kept (suc n) = Some (capped (suc n))

-- which keys are one
abbrev pub key_eq : Bor (List ℕ) → Bor (List ℕ) → Bool
key_eq a b = pointwise nat_eq a.now b.now

-- the order of the keys
abbrev pub key_cmp : Bor (List ℕ) → Bor (List ℕ) → Ordering
key_cmp a b = slice_cmp nat_cmp a.now b.now

-- the map has the count of each keyword among these
abbrev pub CountsOf : {S : Type 0} → IndexMap (Bor (List ℕ)) ℕ S → List (List ℕ) → Type 0
CountsOf m ks = (k : Bor (List ℕ)) → get key_eq m k ≡ kept (keyword_count k.now ks)

-- the map n is m, where the count of the keyword w has become c more than what m has of it, at most 2 ^ 64 - 1
abbrev pub IsRaised : {S : Type 0} → IndexMap (Bor (List ℕ)) ℕ S → Bor (List ℕ) → ℕ → IndexMap (Bor (List ℕ)) ℕ S → Type 0
IsRaised m w c n = (q : Bor (List ℕ)) → get key_eq n q ≡ (if key_eq w q then Some (capped (option_map_or (λ x. x) (get key_eq m w) 0 + c)) else get key_eq m q)

-- the keyword w stands at a place of the map
abbrev pub StandsAt : {S : Type 0} → IndexMap (Bor (List ℕ)) ℕ S → List ℕ → ℕ → Type 0
StandsAt m w place = (e : Bor (List ℕ) × ℕ) × (slice_get m.entries place ≡ Some e) × (e.0.now ≡ w)

-- what is counted of these instances
-- How many are complex, how many instance names are written as parameters, and how many records have each keyword.
pub record IsTallyOf (t : Tally) (is : List Instance) : Type 0 where
  pub complex : t.complex ≡ capped (complex_count is)
  pub references : t.references ≡ capped (reference_count is)
  pub keywords : CountsOf t.keywords (keywords_of is)

-- the lines of the keywords that are kept
abbrev pub entry_lines : List (Bor (List ℕ) × ℕ) → List ℕ
entry_lines [] = []
entry_lines (e ∷ es) = count_line e.0.now e.1 ++ entry_lines es

-- the lines of what is counted of so many instances
abbrev pub tally_lines : ℕ → Tally → List ℕ
tally_lines n t = ((count_line (codes "instances") n ++ count_line (codes "complex") t.complex) ++ count_line (codes "references") t.references) ++ entry_lines t.keywords.entries

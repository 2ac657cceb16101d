-- What stands at a path from a list of parameters on.
use Rattle.std.specs.Prelude.{◌≡◌, ◌↔◌, ℕ, zero, suc, Bool, IsTrue, List, [], ◌∷◌, Option, None, Some}
use Rattle.p21_express.specs.Schema.{Schema}
use Rattle.p21_tree.specs.Tree.{Tree, Trees, absent, derived, int, real, str, enumeration, binary, reference, items, typed, nil, cons}
use Rattle.p21_json.specs.Where.{Where, IsLogicalAt}
use Rattle.p21_json.specs.Where as where'

-- the tree at a place of a list
abbrev pub tree_at : Trees → ℕ → Option Tree
tree_at nil i = None
tree_at (cons t ts) zero = Some t
tree_at (cons t ts) (suc i) = tree_at ts i

-- what stands at the rest of a path, where this stands at its beginning: a place in the list that stands there, or 0 in the typed parameter
abbrev pub behind : Where → Option Tree → List ℕ → Option (Where × Tree)
behind w None is = None
behind w (Some t) [] = Some (w, t)
behind w (Some absent) (i ∷ is) = None
behind w (Some derived) (i ∷ is) = None
behind w (Some (int s)) (i ∷ is) = None
behind w (Some (real s)) (i ∷ is) = None
behind w (Some (str s)) (i ∷ is) = None
behind w (Some (enumeration s)) (i ∷ is) = None
behind w (Some (binary s)) (i ∷ is) = None
behind w (Some (reference n)) (i ∷ is) = None
behind w (Some (items ts)) (i ∷ is) = behind w (tree_at ts i) is
behind w (Some (typed k t)) (i ∷ is) = behind (where'.typed k) (tree_at (cons t nil) i) is

-- The first number is a place in the list. Beside the tree is said where it stands.
abbrev pub at_path : Where → Trees → List ℕ → Option (Where × Tree)
at_path w ts [] = None
at_path w ts (i ∷ is) = behind w (tree_at ts i) is

-- this is what stands there, and whether an item of an enumeration there is of BOOLEAN or LOGICAL
pub record IsFound (s : Schema) (found : Option (Where × Tree)) (t : Tree) (logical : Bool) : Type 0 where
  pub place : Where
  pub there : found ≡ Some (place, t)
  pub decides : IsTrue logical ↔ IsLogicalAt s place

-- What is there, and whether an enumeration there is of BOOLEAN or LOGICAL.
abbrev pub IsFoundAt : Schema → Where → Trees → List ℕ → Tree → Bool → Type 0
IsFoundAt s w ts path t logical = IsFound s (at_path w ts path) t logical

abbrev pub IsFoundBehind : Schema → Where → Tree → List ℕ → Tree → Bool → Type 0
IsFoundBehind s w u path t logical = IsFound s (behind w (Some u) path) t logical

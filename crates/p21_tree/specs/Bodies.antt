-- Trees whose strings and binaries hold the bodies of such tokens.
use Rattle.std.specs.Prelude.{List, All}
use Rattle.p21_tree.specs.Plain.{plain}
use Rattle.p21_tree.specs.declared.params.Param.{Param}
use mathlib.Core.HLevel.{Unit-prop, ×_prop}
use mathlib.Core.Logic.{∥∥₁_prop}
use Rattle.p21_text.specs.Items.{IsBody}
use Rattle.p21_text.specs.Spelling.{IsBinaryBody}
use Rattle.p21_tree.specs.Tree.{Tree, Trees, absent, derived, int, real, str, enumeration, binary, reference, items, typed, nil, cons}

abbrev mutual
  -- each string and binary of a tree holds the body of such a token
  pub HasBodies : Tree → Type 0
  HasBodies absent = Unit {0}
  HasBodies derived = Unit {0}
  HasBodies (int s) = Unit {0}
  HasBodies (real s) = Unit {0}
  HasBodies (str s) = IsBody s
  HasBodies (enumeration s) = Unit {0}
  HasBodies (binary s) = IsBinaryBody s
  HasBodies (reference n) = Unit {0}
  HasBodies (items ts) = HaveBodies ts
  HasBodies (typed k t) = HasBodies t

  -- the same of each tree of a list
  pub HaveBodies : Trees → Type 0
  HaveBodies nil = Unit {0}
  HaveBodies (cons t ts) = HasBodies t × HaveBodies ts

mutual
  pub HasBodies-prop : (t : Tree) → IsProp (HasBodies t)
  HasBodies-prop absent = Unit-prop
  HasBodies-prop derived = Unit-prop
  HasBodies-prop (int s) = Unit-prop
  HasBodies-prop (real s) = Unit-prop
  HasBodies-prop (str s) = ∥∥₁_prop
  HasBodies-prop (enumeration s) = Unit-prop
  HasBodies-prop (binary s) = ∥∥₁_prop
  HasBodies-prop (reference n) = Unit-prop
  HasBodies-prop (items ts) = HaveBodies-prop ts
  HasBodies-prop (typed k t) = HasBodies-prop t

  -- there is at most one proof of it
  pub HaveBodies-prop : (ts : Trees) → IsProp (HaveBodies ts)
  HaveBodies-prop nil = Unit-prop
  HaveBodies-prop (cons t ts) = ×_prop (HasBodies-prop t) (HaveBodies-prop ts)

-- each of some parameters holds such bodies
abbrev pub AllHaveBodies : List Param → Type 0
AllHaveBodies ps = All (λ p. HasBodies (plain p)) ps

-- there is at most one proof of it
pub AllHaveBodies-prop : (ps : List Param) → IsProp (AllHaveBodies ps)
AllHaveBodies-prop ps = hlevel HasBodies-prop

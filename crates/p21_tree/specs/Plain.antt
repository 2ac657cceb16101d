-- What is compared of a parameter: its vectors by their elements, its texts by their bytes.
use Rattle.std.specs.Prelude.{List, [], ◌∷◌, map}
use Rattle.p21_tree.specs.Tree.{Tree, Trees, absent, derived, int, real, str, enumeration, binary, reference, items, typed, nil, cons}
use Rattle.p21_tree.specs.declared.params.Param.{Param, fold-Param, Param-F}
use Rattle.p21_tree.specs.declared.params.Param.TheOpen as level

abbrev pub trees : List Tree → Trees
trees [] = nil
trees (t ∷ ts) = cons t (trees ts)

abbrev pub plain_level : Param-F Tree → Tree
plain_level level.Absent = absent
plain_level level.Derived = derived
plain_level (level.Int s) = int s.now
plain_level (level.Real s) = real s.now
plain_level (level.Str s) = str s.now
plain_level (level.Enumeration s) = enumeration s.now
plain_level (level.Binary s) = binary s.now
plain_level (level.Ref n) = reference n
plain_level (level.Items v) = items (trees v.items)
plain_level (level.Typed k p) = typed k.now p.value

-- a parameter
abbrev pub plain : Param → Tree
plain p = fold-Param Tree plain_level p

-- a list of parameters
abbrev pub plain_all : List Param → Trees
plain_all ps = trees (map plain ps)

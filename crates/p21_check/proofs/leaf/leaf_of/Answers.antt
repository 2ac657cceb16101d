use Rattle.p21_check.proofs.PassedLemmas.{int_leaf, real_leaf, str_leaf, name_leaf, enumeration_leaf, binary_leaf, absent_leaf, derived_leaf}
use Rattle.p21_check.proofs.leaf.leaf_of.Goals as goal

pub returns-in-Int : goal.returns-in-Int
returns-in-Int c = rw c.in-Int.is (int_leaf c.in-Int.digits)

pub returns-in-Real : goal.returns-in-Real
returns-in-Real c = rw c.in-Real.is (real_leaf c.in-Real.digits)

pub returns-in-Str : goal.returns-in-Str
returns-in-Str c = rw c.in-Str.is (str_leaf c.in-Str.body)

pub returns-in-Name : goal.returns-in-Name
returns-in-Name c = rw c.in-Name.is (name_leaf c.in-Name.name)

pub returns-in-Enumeration : goal.returns-in-Enumeration
returns-in-Enumeration c = rw c.in-Enumeration.is (enumeration_leaf c.in-Enumeration.name)

pub returns-in-Binary : goal.returns-in-Binary
returns-in-Binary c = rw c.in-Binary.is (binary_leaf c.in-Binary.digits)

pub returns-in-Dollar : goal.returns-in-Dollar
returns-in-Dollar c = rw c.in-Dollar.is absent_leaf

pub returns-in-Star : goal.returns-in-Star
returns-in-Star c = rw c.in-Star.is derived_leaf

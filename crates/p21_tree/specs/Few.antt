-- Where the elements of a short list lie.
use Rattle.std.specs.Prelude.{List}
use Rattle.p21_tree.specs.declared.few.Held.{Held}
use Rattle.p21_tree.specs.declared.few.Held.TheVariants as held

-- the elements, in order
abbrev pub elements_in : {T : Type 0} → Held T → List T
elements_in (held.Lone one) = one
elements_in (held.Listed v) = v.items

-- Which pieces have a fault by themselves.
use Rattle.std.specs.Prelude.{◌≢◌, List, [], ◌∷◌, None}
use Rattle.std.proofs.Props.{props}
use Rattle.std.specs.Coded.{Unit-prop}
use Rattle.p21_checker.specs.declared.checked.Checked.{Checked}
use Rattle.p21_checker.specs.declared.checked.Checked.TheVariants as checked

-- the piece has a fault by itself
abbrev pub HasFault : Checked → Type 0
HasFault (checked.Grammar f) = Unit {0}
HasFault (checked.Whole i) = i.own ≢ None

-- there is at most one proof of it
pub HasFault-prop : (c : Checked) → IsProp (HasFault c)
HasFault-prop (checked.Grammar f) = Unit-prop
HasFault-prop (checked.Whole i) = hlevel props

-- the first of them, if there is one, has a fault by itself
abbrev pub BeginWithFault : List Checked → Type 0
BeginWithFault [] = Unit {0}
BeginWithFault (c ∷ cs) = HasFault c

-- there is at most one proof of it
pub BeginWithFault-prop : (cs : List Checked) → IsProp (BeginWithFault cs)
BeginWithFault-prop [] = Unit-prop
BeginWithFault-prop (c ∷ cs) = HasFault-prop c

-- What a joiner has joined, and what joining one more instance does.
use Rattle.std.specs.Prelude.{◌≡◌, ◌≢◌, List, [], ◌∷◌, ◌++◌, All, Contains, Result, Ok, Err}
use Rattle.p21_tree.specs.declared.instances.RawInstance.{RawInstance}
use Rattle.p21_join.specs.declared.joiner.Joiner.{Joiner}
use Rattle.p21_join.specs.declared.joiner.JoinError.{JoinError}
use Rattle.p21_join.specs.declared.joiner.JoinError.TheVariants as error

-- the instances that were joined, in order
abbrev pub joined : Joiner → List RawInstance
joined j = j.instances.items

-- no instance of the list has the name of this one
abbrev pub IsNewIn : List RawInstance → RawInstance → Type 0
IsNewIn is i = All (λ other. other.name ≢ i.name) is

-- an instance of the list has the name of this one
abbrev pub IsNamedIn : List RawInstance → RawInstance → Type 0
IsNamedIn is i = (other : RawInstance) × Contains is other × (other.name ≡ i.name)

-- An instance with a new name goes last. It is handed back as a duplicate where its name is there, and for want of
-- memory where it is not; then the instances are as they were.
abbrev pub Joins : List RawInstance → RawInstance → Result (Unit {0}) JoinError → List RawInstance → Type 0
Joins old i (Ok u) new = IsNewIn old i × (new ≡ old ++ i ∷ [])
Joins old i (Err (error.Duplicate back)) new = IsNamedIn old i × (back ≡ i) × (new ≡ old)
Joins old i (Err (error.Memory back)) new = IsNewIn old i × (back ≡ i) × (new ≡ old)

-- What stands open in the code, as a state of the machine.
use Rattle.std.specs.Prelude.{Bool, true, false, List, [], ◌∷◌}
use Rattle.p21_tree.specs.declared.nest.Frame.{Frame}
use Rattle.p21_tree.specs.declared.nest.Frame.TheVariants as frame
use Rattle.p21_tree.specs.declared.nest.Nest.{Nest}
use Rattle.p21_tree.specs.declared.nest.Mode as source
use Rattle.p21_tree.specs.declared.nest.Mode.TheVariants as mode
use Rattle.p21_tree.specs.declared.nest.Step as source'
use Rattle.p21_tree.specs.declared.nest.Step.TheVariants as outcome
use Rattle.p21_tree.specs.declared.nest.Class as source''
use Rattle.p21_tree.specs.declared.nest.Class.TheVariants as kind
use Rattle.p21_tree.specs.Tree.{Trees}
use Rattle.p21_tree.specs.Plain.{plain, plain_all}
use Rattle.p21_tree.specs.Machine.{Class, Stack, Mode, State, Step, leaf, key, open_, close_, comma, other, base, list, typed, first, want, behind_key, after, go, closed, refused, deep}

-- one more parenthesis, in a list that stands open
abbrev pub opened : (Trees → Stack) → Frame → Trees → Stack
opened around (frame.List v) current = list current (around (plain_all v.items))
opened around (frame.Typed k) current = typed k.now (around current)

-- from the outermost in
abbrev pub opened_all : (Trees → Stack) → List Frame → Trees → Stack
opened_all around [] = around
opened_all around (f ∷ fs) = opened_all (opened around f) fs

abbrev pub stack_of : Nest → Stack
stack_of o = opened_all base o.frames.items (plain_all o.current.items)

abbrev pub mode_of : source.Mode → Mode
mode_of mode.First = first
mode_of mode.Want = want
mode_of (mode.Key k) = behind_key k.now
mode_of (mode.After p) = after (plain p)

abbrev pub state_of : Nest → source.Mode → State
state_of o m = record { mode = mode_of m; stack = stack_of o; room = o.room }

-- what a token did, as the machine says it
abbrev pub step_of : Nest → source'.Step → Step
step_of o (outcome.Go m) = go (state_of o m)
step_of o (outcome.Closed v) = closed (plain_all v)
step_of o outcome.Refused = refused
step_of o outcome.TooDeep = deep

abbrev pub class_view : source''.Class → Class
class_view (kind.Leaf p) = leaf (plain p)
class_view (kind.Key k) = key k.now
class_view kind.Open = open_
class_view kind.Close = close_
class_view kind.Comma = comma
class_view kind.Other = other

-- the innermost parenthesis is that of a typed parameter
abbrev pub is_typed : Stack → Bool
is_typed (base before) = false
is_typed (list before below) = false
is_typed (typed k below) = true

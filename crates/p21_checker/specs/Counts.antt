-- What a check tells of a file.
use Rattle.std.specs.Prelude.{◌≡◌, ◌≢◌, List, ◌∷◌, [], length, Result, Ok, Err}
use Rattle.std.specs.declared.vec.Vec.{Vec}
use Rattle.p21_tree.specs.declared.faults.Fault.{Fault}
use Rattle.p21_tree.specs.Sentence.{Instance}
use Rattle.p21_counts.specs.Tally.{IsTallyOf}
use Rattle.p21_checker.specs.declared.counts.Counts.{Counts}

-- this is counted of these instances
pub record AreCountsOf (c : Counts) (is : List Instance) : Type 0 where
  pub instances : c.instances ≡ length is
  pub tally : IsTallyOf c.tally is

-- What is told of an answer: the counts of its instances, or its fault.
abbrev pub Tells : Result Counts Fault → Result (List Instance) Fault → Type 0
Tells (Ok c) (Ok is) = AreCountsOf c is
Tells (Ok c) (Err f) = ⊥
Tells (Err f) (Ok is) = ⊥
Tells (Err f) (Err g) = f ≡ g

-- The same with all faults.
abbrev pub TellsAll : {A : Type 0} → Result Counts (Vec Fault A) → Result (List Instance) (List Fault) → Type 0
TellsAll (Ok c) (Ok is) = AreCountsOf c is
TellsAll (Ok c) (Err fs) = ⊥
TellsAll (Err fs) (Ok is) = ⊥
TellsAll (Err fs) (Err gs) = fs.items ≡ gs

-- Of an answer with all faults, the counts or the first fault.
abbrev pub TellsFirst : Result Counts Fault → Result (List Instance) (List Fault) → Type 0
TellsFirst (Ok c) (Ok is) = AreCountsOf c is
TellsFirst (Ok c) (Err fs) = ⊥
TellsFirst (Err f) (Ok is) = ⊥
TellsFirst (Err f) (Err []) = ⊥
TellsFirst (Err f) (Err (g ∷ gs)) = f ≡ g

-- where there are faults, there is one
abbrev pub HasFaults : {A : Type 0} → Result Counts (Vec Fault A) → Type 0
HasFaults (Ok c) = Unit {0}
HasFaults (Err fs) = fs.items ≢ []

-- the counts, or the first of the faults
pub data IsFirstOf {A : Type 0} : Result Counts (Vec Fault A) → Result Counts Fault → Type 0 where
  counts : {c : Counts} → IsFirstOf (Ok c) (Ok c)
  first : {fs : Vec Fault A} {f : Fault} {rest : List Fault} → fs.items ≡ f ∷ rest → IsFirstOf (Err fs) (Err f)

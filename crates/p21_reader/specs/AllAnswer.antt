-- What is compared of an answer with all faults.
use Rattle.std.specs.Prelude.{◌≡◌, ◌∷◌, [], ℕ, List, Result, Ok, Err}
use Rattle.std.specs.declared.vec.Vec.{Vec}
use Rattle.p21_express.specs.Schema.{Schema}
use Rattle.p21_tree.specs.declared.faults.Fault.{Fault}
use Rattle.p21_tree.specs.Sentence.{Instance}
use Rattle.p21_join.specs.declared.model.Model.{Model}
use Rattle.p21_join.specs.Model.{instances_of, plain_instances}
use Rattle.p21_reader.specs.AllByValues.{IsAllAnswerTo}
use Rattle.p21_reader.specs.Judged.{values_of}
use Rattle.p21_reader.specs.Lanes.{HaveReturned, JudgesLocally}
use Rattle.p21_reader.specs.declared.all_faults.AllFaults.{AllFaults}
use Rattle.p21_reader.specs.declared.stop.Stop.{Stop}
use Rattle.p21_reader.specs.declared.stop.Stop.TheVariants as stop

-- the instances, without where they lie in memory, or the faults
abbrev pub plain_all : {A : Type 0} → Result Model (Vec Fault A) → Result (List Instance) (List Fault)
plain_all (Ok model) = Ok (plain_instances (instances_of model))
plain_all (Err faults) = Err faults.items

-- the one fault at which reading stopped, with nothing dealt
abbrev pub IsStoppedWithAll : Stop → AllFaults → Type 0
IsStoppedWithAll (stop.Fault f) all = (plain_all all.answer ≡ Err (f ∷ [])) × (all.receipts.items ≡ []) × (all.dealt.items ≡ []) × (all.returned.items ≡ [])
IsStoppedWithAll stop.Memory all = ⊥

-- The answer with all faults is that to the results that the lanes returned.
abbrev pub AllAnswerReturned : Schema → List ℕ → ℕ → AllFaults → Type 0
AllAnswerReturned s file lanes all = HaveReturned (JudgesLocally s) (λ tail outs. IsAllAnswerTo s file tail (values_of outs) (plain_all all.answer)) s file lanes all.dealt.items all.receipts.items all.returned.items

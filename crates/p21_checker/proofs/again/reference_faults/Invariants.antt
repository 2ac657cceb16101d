use Rattle.std.proofs.Common.{List, ◌++◌, drop}
use Rattle.p21_tree.specs.declared.faults.Fault.{Fault}
use Rattle.p21_cut.specs.Cutter.{file_of, number_of, place_of}
use Rattle.p21_join.specs.Model.{plain_instances}
use Rattle.p21_outline.specs.Outline.{outlined_instances}
use Rattle.p21_refs.specs.AllReferenceFaults.{AreReferenceFaults}
use Rattle.p21_checker.specs.Again.{AreTexts}
use Rattle.p21_checker.proofs.again.reference_faults.Given as goal

-- the pieces that are left are the texts of the instances that are left, and the faults of these stand after those that were found
abbrev pub invariant-loop-is_faulty : goal.invariant-loop-is_faulty
invariant-loop-is_faulty g l =
    let all = plain_instances (outlined_instances l.outline) in
    AreTexts (file_of l.cutter) (place_of l.cutter) (number_of l.cutter) (drop l.is_faulty-index all)
    × ((fs : List Fault) → AreReferenceFaults l.schema all (drop l.is_faulty-index all) fs → AreReferenceFaults l.schema all all (l.faults.items ++ fs))

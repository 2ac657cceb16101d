use Rattle.std.proofs.Common.{◌≡◌, ◌≢◌, [], length, refl, rules, sym, subst, ◌∙◌}
use Rattle.std.proofs.lemmas.List.{length-map, nil_from_length}
use Rattle.p21_tree.specs.Views.{plain_instance}
use Rattle.p21_join.specs.Model.{plain_instances}
use Rattle.p21_outline.specs.Outline.{outlined_instances}
use Rattle.p21_refs.specs.AllReferenceFaults.{AreReferenceFaults}
use Rattle.p21_reader.specs.AllByValues as by
use Rattle.p21_checker.specs.Checked.{values_of}
use Rattle.p21_checker.specs.Lists.{pieces_in}
use Rattle.p21_checker.proofs.AgainLemmas.{texts_of}
use Rattle.p21_checker.proofs.ListLemmas.{kept_all, texts_all}
use Rattle.p21_checker.proofs.check.conclude.Goals as goal

pub returns-in-Err : goal.returns-in-Err
returns-in-Err g c = λ lists outs h stated cut.
    let found = rw c.in-Err.is at (c.in_ok-outline.ensures outs h) in
    record { full = _; is_answer = by.values found.0 found.1; told = refl }

pub reference_faults-requires-clause-outlined : goal.reference_faults-requires-clause-outlined
reference_faults-requires-clause-outlined g c κs within =
    let s = c.args.schema.now in
    let given = c.requires.gathered in
    let found = rw c.in-Ok.is at (c.in_ok-outline.ensures given.1 given.2) in
    found.1 s (kept_all s given.0 given.1 given.3)

pub reference_faults-requires-clause-texts : goal.reference_faults-requires-clause-texts
reference_faults-requires-clause-texts g c κs within =
    let s = c.args.schema.now in
    let given = c.requires.gathered in
    let found = rw c.in-Ok.is at (c.in_ok-outline.ensures given.1 given.2) in
    texts_of c.args.file.now c.args.at c.args.tail (pieces_in given.0) (values_of given.1) (plain_instances (outlined_instances c.in-Ok.outline)) (texts_all s given.0 given.1 given.3) found.0 given.4

pub returns-then-not-is_empty : goal.returns-then-not-is_empty
returns-then-not-is_empty g c = λ lists outs h stated cut.
    let found = rw c.in-Ok.is at (c.in_ok-outline.ensures outs h) in
    let some : c.in_ok-faults.faults.items ≢ [] = search rules in
    record { full = _; is_answer = by.references found.0 found.2 c.in_ok-faults.ensures some; told = refl }

pub tally-requires-after_bounds : goal.tally-requires-after_bounds
tally-requires-after_bounds g c κs within =
    let s = c.args.schema.now in
    let given = c.requires.gathered in
    let found = rw c.in-Ok.is at (c.in_ok-outline.ensures given.1 given.2) in
    found.1 s (kept_all s given.0 given.1 given.3)

pub returns : goal.returns
returns g c = λ lists outs h stated cut.
    let is = plain_instances (outlined_instances c.in-Ok.outline) in
    let found = rw c.in-Ok.is at (c.in_ok-outline.ensures outs h) in
    let zero : length c.in_ok-faults.faults.items ≡ 0 = search rules in
    let none = nil_from_length c.in_ok-faults.faults.items zero in
    record {
      full = _;
      is_answer = by.read found.0 found.2 (subst (AreReferenceFaults c.args.schema.now is is) none c.in_ok-faults.ensures);
      told = record { instances = c.len.ensures ∙ sym (length-map (outlined_instances c.in-Ok.outline) plain_instance); tally = c.in_ok-tally.ensures };
    }

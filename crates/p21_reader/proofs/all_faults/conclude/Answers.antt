use Rattle.std.proofs.Common.{◌≡◌, ◌≢◌, [], length, rules, sym, subst}
use Rattle.std.proofs.lemmas.List.{nil_from_length}
use Rattle.p21_tree.specs.declared.pieces.Piece.{Piece}
use Rattle.p21_check.specs.EntityOf.{AreSimpleEntities}
use Rattle.p21_join.specs.Model.{instances_of, plain_instances}
use Rattle.p21_refs.specs.AllReferenceFaults.{AreReferenceFaults}
use Rattle.p21_reader.specs.AllByValues.{values, references, read}
use Rattle.p21_reader.specs.Judged.{value_of}
use Rattle.p21_reader.specs.Values.{IsJudged}
use Rattle.p21_reader.specs.declared.judged.Judged.{Judged}
use Rattle.p21_reader.proofs.LaneLemmas.{sound_instances, own_entities}
use Rattle.p21_reader.proofs.all_faults.conclude.Goals as goal

pub returns-in-Err : goal.returns-in-Err
returns-in-Err g c = λ pieces js h stated.
    let found = c.in_ok-gathered.ensures js h in
    let k = rw c.in-Err.is at found in
    values k.0 k.1

pub reference_faults-requires-clause-sound : goal.reference_faults-requires-clause-sound
reference_faults-requires-clause-sound g c κs within =
    let s = c.args.schema.now in
    let given = c.requires.gathered in
    let found = c.in_ok-gathered.ensures given.1 given.2 in
    let k = rw c.in-Ok.is at found in
    sound_instances (λ (p : Piece) (j : Judged). IsJudged s p (value_of j)) s given.0 given.1 (plain_instances (instances_of c.in-Ok.gathered.0)) (λ p i h. h.1) given.3 k.0

pub reference_faults-requires-clause-entities : goal.reference_faults-requires-clause-entities
reference_faults-requires-clause-entities g c κs within =
    let s = c.args.schema.now in
    let is = plain_instances (instances_of c.in-Ok.gathered.0) in
    let given = c.requires.gathered in
    let found = c.in_ok-gathered.ensures given.1 given.2 in
    let k = rw c.in-Ok.is at found in
    subst (AreSimpleEntities s is) (sym k.1) (own_entities (λ (p : Piece) (j : Judged). IsJudged s p (value_of j)) s given.0 given.1 is given.3 k.0)

pub returns-then-is_empty : goal.returns-then-is_empty
returns-then-is_empty g c = λ pieces js h stated.
    let is = plain_instances (instances_of c.in-Ok.gathered.0) in
    let found = c.in_ok-gathered.ensures js h in
    let k = rw c.in-Ok.is at found in
    let zero : length c.in_ok-faults.faults.items ≡ 0 = search rules in
    let none = nil_from_length c.in_ok-faults.faults.items zero in
    read k.0 k.2 (subst (AreReferenceFaults c.args.schema.now is is) none c.in_ok-faults.ensures)

pub returns : goal.returns
returns g c = λ pieces js h stated.
    let found = c.in_ok-gathered.ensures js h in
    let k = rw c.in-Ok.is at found in
    let some : c.in_ok-faults.faults.items ≢ [] = search rules in
    references k.0 k.2 c.in_ok-faults.ensures some

use Rattle.std.proofs.Common.{◌≡◌, false, None, Some, arith, sym, ◌∙◌}
use Rattle.std.specs.Prelude.{Result, Ok, Err, MatchResult, is_err}
use Rattle.std.proofs.lemmas.List.{length-map}
use Rattle.p21_express.specs.Schema.{Schema}
use Rattle.p21_tree.specs.declared.faults.FaultKind.{FaultKind}
use Rattle.p21_tree.specs.Sentence.{Instance}
use Rattle.p21_tree.specs.Views.{plain_instance}
use Rattle.p21_check.specs.LocalFault.{IsLocalFault}
use Rattle.p21_join.specs.Model.{instances_of}
use Rattle.p21_refs.proofs.PlaceLemmas.{StandsAt, sound_more}
use Rattle.p21_refs.proofs.tests.is_sound.Goals as goal

-- an answer that is no error tells that there is no fault
no_fault : (s : Schema) (i : Instance) (answer : Result (Unit {0}) FaultKind) → MatchResult answer (λ _. IsLocalFault s i None) (λ kind. IsLocalFault s i (Some kind)) → is_err answer ≡ false → IsLocalFault s i None
no_fault s i (Ok u) h e = h
no_fault s i (Err kind) h e = absurd (cc)

pub loop-place-preserved : goal.loop-place-preserved
loop-place-preserved c =
    let m = c.args.model.now in
    let i = c.instance.result.now in
    let at : StandsAt m c.loop-place.place i = record { less = omega (arith, c.loop-place-test.true, c.len-place-end.ensures); there = c.instance.ensures } in
    sound_more c.args.schema.now m c.loop-place.place i at c.loop-place.invariant (no_fault c.args.schema.now (plain_instance i) c.check_local.result c.check_local.ensures (sym c.is_err.ensures.value ∙ c.if-is_err.false))

pub returns : goal.returns
returns c sound k d less =
    c.loop-place.invariant k d (omega (arith, less, c.loop-place-test.false, c.len-place-end.ensures, length-map (instances_of c.args.model.now) plain_instance))

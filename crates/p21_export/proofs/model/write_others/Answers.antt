use Rattle.std.proofs.Common.{◌≡◌, List, false, length, map, refl, sym, subst, ◌∙◌}
use Rattle.std.specs.Prelude.{IfErr}
use Rattle.std.proofs.lemmas.Result.{err_from_is_err_and}
use Rattle.p21_tree.specs.declared.instances.RawInstance.{RawInstance}
use Rattle.p21_run.specs.declared.input.InputError.TheVariants.{Device}
use Rattle.p21_export.specs.Export.{HasLongLines}
use Rattle.p21_tree.specs.Views.{plain_instance}
use Rattle.p21_export.proofs.ModelLemmas.{known_part, long_part, written_all, written_at, written_none}
use Rattle.p21_export.proofs.model.write_others.Goals as goal

pub loop-start-init : goal.loop-start-init
loop-start-init g c = (refl, written_none c.args.terms.now (g.K.Sink.taken c.args.out.now) (map plain_instance c.args.instances.now) c.requires)

pub write_round-requires : goal.write_round-requires
write_round-requires g c = (c.type_bounds.sync-R, known_part c.args.terms.now (g.K.Sink.taken c.args.out.now) (g.K.Sink.taken c.loop-start.out) c.args.instances.now c.round_at-round.result.now c.loop-start.start c.loop-start.invariant.1 c.round_at-round.ensures.part)

pub loop-start-preserved : goal.loop-start-preserved
loop-start-preserved g c =
    let made = c.in_ok-write_round.ensures.written in
    (c.in_ok-write_round.ensures.unfailed ∙ c.loop-start.invariant.0, written_at c.args.terms.now (g.K.Sink.taken c.args.out.now) (g.K.Sink.taken c.loop-start.out) (g.K.Sink.taken c.write_round.new.out) c.args.instances.now c.round_at-round.result.now c.loop-start.start made.0 c.loop-start.invariant.1 c.round_at-round.ensures.part made.1.0 made.1.1)

pub returns-clause-written : goal.returns-clause-written
returns-clause-written g c = written_all c.args.terms.now (g.K.Sink.taken c.args.out.now) (g.K.Sink.taken c.loop-start.out) c.args.instances.now c.loop-start.start c.loop-start.invariant.1 c.loop-start-test.false

pub returns-in_err-write_round-clause-cause : goal.returns-in_err-write_round-clause-cause
returns-in_err-write_round-clause-cause g c =
    let t = c.args.terms.now in
    let xs = c.args.instances.now in
    let round = c.round_at-round.result.now in
    let p = err_from_is_err_and c.from_residual.result c.from_residual.ensures.1 in
    subst (λ r. IfErr r (λ e. e ≡ Device → g.K.Sink.marked c.write_round.new.out ≡ false → HasLongLines t (map plain_instance xs))) (sym p.1)
    (λ d unmarked. long_part t xs c.loop-start.start (length round) (subst (λ (l : List RawInstance). HasLongLines t (map plain_instance l)) c.round_at-round.ensures.part (c.in_err-write_round.ensures.cause (sym p.2 ∙ d) unmarked)))

use Rattle.std.proofs.Common.{Err, ap, ◌≡◌, ◌++◌, ◌∙◌, List, ℕ, map, refl, subst, sym}
use Rattle.std.specs.List.{AllByRecursion}
use Rattle.std.specs.Io.KnownBytes.{Appends}
use Rattle.std.proofs.KnownBytes.{Appends-trans}
use Rattle.std.proofs.lemmas.Result.{err_from_is_err_and, on_ok_weaker}
use Rattle.std.specs.Prelude.{IfErr}
use Rattle.p21_express.specs.Schema.{Schema}
use Rattle.p21_tree.specs.Views.{plain_instance, plain_preface}
use Rattle.p21_json.specs.Header.{IsHeaderParts}
use Rattle.p21_json.specs.Instances.{AreKnown}
use Rattle.p21_json.specs.Lines.{AreLines, IsLineOf}
use Rattle.p21_export.specs.Export.{HasLongLines, IsLeft, IsLong}
use Rattle.p21_export.proofs.ModelLemmas.{known_read, left_of, ok_both, on_err}
use Rattle.p21_export.proofs.model.write_model.Goals as goal

pub write_others-requires : goal.write_others-requires
write_others-requires g c =
    let is = map plain_instance c.args.instances.now in
    (c.type_bounds.sync-R, subst (λ (t : Schema). AllByRecursion (λ i. AreKnown t i.records) is) (sym c.in_ok-terms.ensures) (known_read c.args.schema.now c.args.file.now is c.requires.read))

pub returns-clause-written : goal.returns-clause-written
returns-clause-written g c =
    let s = c.args.schema.now in
    let t = c.in_ok-terms.terms in
    let q = c.in_ok-terms.ensures in
    let is = map plain_instance c.args.instances.now in
    let o = plain_preface c.in_ok-preface.preface in
    let a = g.K.Sink.taken c.args.out.now in
    let m = g.K.Sink.taken c.write_first.new.out in
    let n = g.K.Sink.taken c.write_others.new.out in
    let first = c.in_ok-write_first.ensures.written in
    let header = subst (λ (x : Schema). IsLineOf x (IsHeaderParts o) first.0) q first.1.0 in
    on_ok_weaker c.write_others.result
    (λ (p : ((others : List ℕ) × (AreLines t is others × Appends m n others)) × (g.K.Sink.failed c.write_others.new.out ≡ g.K.Sink.failed c.write_first.new.out)). record {
      text = first.0 ++ p.0.0;
      exported = record {
        instances = is;
        read = c.requires.read;
        opening = o;
        begins = c.in_ok-preface.ensures.begins;
        first = first.0;
        is_first = header;
        others = p.0.0;
        are_others = subst (λ (x : Schema). AreLines x is p.0.0) q p.0.1.0;
        parts = refl;
      };
      written = Appends-trans a m n first.0 p.0.0 first.1.1 p.0.1.1;
      unfailed = p.1 ∙ c.in_ok-write_first.ensures.unfailed;
    })
    (ok_both _ _ c.write_others.result c.write_others.ensures.written c.write_others.ensures.unfailed)

pub returns-in_err-write_first-clause-left : goal.returns-in_err-write_first-clause-left
returns-in_err-write_first-clause-left g c =
    let q = c.in_ok-terms.ensures in
    let o = plain_preface c.in_ok-preface.preface in
    let failed = g.K.Sink.failed in
    let marked = g.K.Sink.marked in
    let s = c.args.schema.now in
    let file = c.args.file.now in
    let old = c.args.out.now in
    let new = c.write_first.new.out in
    let e = c.in_err-write_first.field-0.0 in
    let first = c.in_err-write_first.ensures in
    let p = err_from_is_err_and c.from_residual-in_err-write_first.result c.from_residual-in_err-write_first.ensures.1 in
    subst (λ r. IfErr r (IsLeft failed marked s file old new)) (sym (p.1 ∙ ap Err p.2))
    (left_of {T = Unit {0}} failed marked s file old old new (Err e) refl first.failed
    (λ d unmarked. let long = first.cause d unmarked in IsLong.header o c.in_ok-preface.ensures.begins long.0 (subst (λ (x : Schema). IsLineOf x (IsHeaderParts o) long.0) q long.1) long.2))

pub returns-clause-left : goal.returns-clause-left
returns-clause-left g c =
    let q = c.in_ok-terms.ensures in
    let is = map plain_instance c.args.instances.now in
    let others = c.write_others.ensures in
    left_of g.K.Sink.failed g.K.Sink.marked c.args.schema.now c.args.file.now c.args.out.now c.write_first.new.out c.write_others.new.out c.write_others.result c.in_ok-write_first.ensures.unfailed others.failed
    (on_err c.write_others.result (λ e why d unmarked. IsLong.instances is c.requires.read (subst (λ (x : Schema). HasLongLines x is) q (why d unmarked))) others.cause)

use Rattle.std.proofs.Common.{refl, drop, sym, ◌∙◌}
use Rattle.std.specs.Prelude.{codes}
use Rattle.std.proofs.lemmas.Slice.Eq.{bytes_eq-Decides}
use Rattle.p21_tree.specs.Views.{plain_preface}
use Rattle.p21_check.proofs.HeaderParams.{begins, first_three}
use Rattle.p21_check.proofs.header.file_schema.Goals as goal

pub returns-then-eq-3 : goal.returns-then-eq-3
returns-then-eq-3 c =
    let es = c.as_slice.result.now in
    let a = c.description-item in
    let b = c.name-item in
    let d = c.schema-item in
    begins (plain_preface c.args.preface.now) c.args.preface.now.entities.items a.result b.result d.result (drop 3 es) refl
    (sym c.as_slice.ensures.value ∙ first_three es a.result b.result d.result c.in-len3-up.len_at_least a.is b.is d.is)
    ((bytes_eq-Decides a.result.keyword.now (codes "FILE_DESCRIPTION")).0 (sym c.eq.ensures ∙ c.if-eq.true))
    ((bytes_eq-Decides b.result.keyword.now (codes "FILE_NAME")).0 (sym c.eq-then-eq.ensures ∙ c.if-eq-2.true))
    ((bytes_eq-Decides d.result.keyword.now (codes "FILE_SCHEMA")).0 (sym c.eq-then-eq-2.ensures ∙ c.if-eq-3.true))

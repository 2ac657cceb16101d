use Rattle.std.proofs.Common.{◌≡◌, List, map, refl, subst, sym, ap, ◌∙◌}
use Rattle.std.proofs.lemmas.Result.{on_ok_weaker}
use Rattle.p21_express.specs.Schema.{Schema}
use Rattle.p21_schema.specs.Place.{entity_name, IsEntityOf}
use Rattle.p21_tree.specs.Plain.{plain}
use Rattle.p21_tree.specs.Tree.{Tree}
use Rattle.p21_tree.specs.Views.{plain_instance, plain_record}
use Rattle.p21_rows.specs.declared.rows.Table.TheVariants.{Entity}
use Rattle.p21_rows.specs.Rows.{AreReferencesOf, IsRecordRow, RowsOfEach, TakesSome, list_of}
use Rattle.p21_rows.proofs.RowLemmas.{leads_then, listed}
use Rattle.p21_rows.proofs.instances.insert_record.Goals as goal

pub record_cells-requires-clause-named : goal.record_cells-requires-clause-named
record_cells-requires-clause-named g c = subst (λ (y : Schema). entity_name y c.entity_of-entity.result ≡ c.args.record.now.keyword.now) c.schema.ensures c.entity_of-entity.ensures.1

pub returns-clause-taken : goal.returns-clause-taken
returns-clause-taken g c =
    let s = c.args.terms.now in
    let i = plain_instance c.args.instance.now in
    let r = plain_record c.args.record.now in
    let e = c.entity_of-entity.result in
    let a = g.D.Rows.taken c.args.rows.now in
    let b = g.D.Rows.taken c.insert.new.self in
    let d = g.D.Rows.taken c.insert_references.new.rows in
    let known = subst (λ (y : Schema). IsEntityOf y e) c.schema.ensures c.entity_of-entity.ensures.0 in
    let named = subst (λ (y : Schema). entity_name y e ≡ r.keyword) c.schema.ensures c.entity_of-entity.ensures.1 in
    let same : map plain c.as_slice-params.result.now ≡ list_of r.params = ap (map plain) c.as_slice-params.ensures ∙ sym (listed c.args.record.now.params) in
    on_ok_weaker c.insert_references.result
    (λ (t : TakesSome b d (RowsOfEach (AreReferencesOf i.name) (map plain c.as_slice-params.result.now))).
    leads_then (IsRecordRow s i r) (RowsOfEach (AreReferencesOf i.name) (list_of r.params)) a b d (record { table = Entity e; cells = c.in_ok-cells.cells.items })
    (record { entity = e; known = known; named = named; table = refl; cells = c.in_ok-cells.ensures })
    c.in_ok-insert.ensures.taken
    (subst (λ (ts : List Tree). TakesSome b d (RowsOfEach (AreReferencesOf i.name) ts)) same t))
    c.insert_references.ensures.taken

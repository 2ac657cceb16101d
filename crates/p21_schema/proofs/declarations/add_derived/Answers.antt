use Rattle.std.proofs.Common.{◌≡◌, ◌<◌, ◌≤◌, ◌++◌, ◌∷◌, [], List, length, get_or, map, set, refl, sym, ap, subst, ◌∙◌}
use Rattle.std.proofs.lemmas.List.{length-map, length-set, take_all}
use Rattle.p21_express.specs.Schema.{Entity, Derived}
use Rattle.p21_express.specs.Plain.{plain_entity, plain_derived}
use Rattle.p21_schema.specs.DeclarationTable.{known_schema, IsDeclarationTable}
use Rattle.p21_express.specs.WellFormed.{IsIn}
use Rattle.p21_schema.specs.declared.declarations.Form.TheVariants as form
use Rattle.p21_schema.specs.Declaration.{Written, written_derived}
use Rattle.p21_graph.specs.Graph.{rows_of}
use Rattle.p21_schema.specs.Place.{no_entity}
use Rattle.p21_schema.proofs.DeclarationLemmas.{item_at, item_in, step_same, step_more}
use Rattle.p21_schema.proofs.declarations.add_derived.Goals as goal
use Rattle.p21_schema.proofs.declarations.add_derived.Goals.{in-Some+in_ok-add, in_default}

pub derived_attribute-requires-clause-derived : goal.derived_attribute-requires-clause-derived
derived_attribute-requires-clause-derived c =
    let es = c.args.known.now.declarations.now.entities.items in
    let e = c.args.entity in
    let xs = c.index.result.now.derived.items in
    let k = c.loop-derived.derived-index in
    let x = c.derived-item.result in
    let less : e < length es = rw (← (length-map es plain_entity)) c.requires.entity in
    let less' : k < length xs = rw (← c.deref-derived-items.ensures.value) c.loop-derived-test.true in
    let is : x ≡ get_or xs k x = rw (← c.deref-derived-items.ensures.value) c.derived-item.is in
    let entity : get_or (map plain_entity es) e no_entity ≡ plain_entity c.index.result.now = item_at plain_entity es e c.index.result.now no_entity less c.index.ensures in
    subst (λ (u : Entity). IsIn u.derived (plain_derived x)) (sym entity) (item_in plain_derived xs k x less' is)

pub loop-derived-preserved : goal.loop-derived-preserved
loop-derived-preserved c =
    let s = known_schema c.args.known.now in
    let formed = c.requires.known.well_formed in
    let es = c.args.known.now.declarations.now.entities.items in
    let e = c.args.entity in
    let xs = c.index.result.now.derived.items in
    let k = c.loop-derived.derived-index in
    let x = c.derived-item.result in
    let less : e < length es = rw (← (length-map es plain_entity)) c.requires.entity in
    let less' : k < length xs = rw (← c.deref-derived-items.ensures.value) c.loop-derived-test.true in
    let is : x ≡ get_or xs k x = rw (← c.deref-derived-items.ensures.value) c.derived-item.is in
    let entity : get_or (map plain_entity es) e no_entity ≡ plain_entity c.index.result.now = item_at plain_entity es e c.index.result.now no_entity less c.index.ensures in
    let all = (get_or s.entities e no_entity).derived in
    let f : Derived → Written = written_derived (get_or s.entities e no_entity).name in
    let less'' : k < length all = subst (λ (u : Entity). k < length u.derived) (sym entity) (rw (length-map xs plain_derived) less') in
    let at : get_or all k (plain_derived x) ≡ plain_derived x = ap (λ (u : Entity). get_or u.derived k (plain_derived x)) entity ∙ item_at plain_derived xs k x (plain_derived x) less' is in
    let old = rows_of c.loop-derived.lists in
    let new = rows_of c.match-derived_attribute.lists in
    let inv = c.loop-derived.invariant in
    elim c.match-derived_attribute.branch [
      | in-Some+in_ok-add w ↦
          let is_new : new ≡ set old w.in-Some.place (get_or old w.in-Some.place [] ++ record { entity = record { index = e }; form = form.Derived } ∷ []) = ap (λ (u : _). rows_of u) w.lists-is ∙ w.in_ok-add.ensures in
          record {
            count = ap length is_new ∙ length-set old w.in-Some.place _ ∙ inv.count;
            table = λ ws h. step_more s formed f all k (plain_derived x) ws old new less'' at w.in-Some.place (record { entity = record { index = e }; form = form.Derived }) w.in-Some.ensures (record { known = c.requires.entity; entity = refl; form = tt }) is_new (inv.table ws h);
          }
      | in_default w ↦
          let is_old : new ≡ old = ap (λ (u : _). rows_of u) w.lists-is in
          record {
            count = ap length is_old ∙ inv.count;
            table = λ ws h. step_same s formed f all k (plain_derived x) ws old new less'' at w.in_default.ensures is_old (inv.table ws h);
          }
    ]

pub returns-clause-table : goal.returns-clause-table
returns-clause-table c = λ ws h.
    let s = known_schema c.args.known.now in
    let es = c.args.known.now.declarations.now.entities.items in
    let e = c.args.entity in
    let xs = c.index.result.now.derived.items in
    let all = (get_or s.entities e no_entity).derived in
    let less : e < length es = rw (← (length-map es plain_entity)) c.requires.entity in
    let entity : get_or s.entities e no_entity ≡ plain_entity c.index.result.now = item_at plain_entity es e c.index.result.now no_entity less c.index.ensures in
    let past : length xs ≤ c.loop-derived.derived-index = rw (← c.deref-derived-items.ensures.value) c.loop-derived-test.false in
    let past' : length all ≤ c.loop-derived.derived-index = subst (λ (u : Entity). length u.derived ≤ c.loop-derived.derived-index) (sym entity) (rw (length-map xs plain_derived) past) in
    subst (λ (u : List Derived). IsDeclarationTable s (ws ++ map (written_derived (get_or s.entities e no_entity).name) u) (rows_of c.loop-derived.lists)) (take_all c.loop-derived.derived-index all past') (c.loop-derived.invariant.table ws h)

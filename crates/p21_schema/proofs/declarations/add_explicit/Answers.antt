use Rattle.std.proofs.Common.{◌≡◌, ◌<◌, ◌≤◌, ◌+◌, ◌++◌, ◌∷◌, [], ℕ, List, length, get_or, map, set, take, drop, refl, sym, ap, subst, ◌∙◌, arith}
use Rattle.std.proofs.lemmas.List.{length-map, length-set, length-append, take-append-drop, take_all}
use Rattle.p21_express.specs.Schema.{Entity, Attribute}
use Rattle.p21_express.specs.Plain.{plain_entity, plain_attribute}
use Rattle.p21_schema.specs.DeclarationTable.{known_schema, IsDeclarationTable}
use Rattle.p21_express.specs.WellFormed.{IsIn, Origin, new_explicit, with_new}
use Rattle.p21_schema.specs.declared.declarations.Form.TheVariants as form
use Rattle.p21_schema.specs.Declaration.{Written, written_explicit}
use Rattle.p21_graph.specs.Graph.{rows_of}
use Rattle.p21_schema.specs.Place.{no_entity}
use Rattle.p21_schema.specs.RowTable.{no_own}
use Rattle.p21_schema.proofs.RowLemmas.{new_append, new_at, new_place}
use Rattle.p21_schema.proofs.DeclarationLemmas.{item_at, item_in, own_is_at, step_same, step_more, texpr_known}
use Rattle.p21_schema.proofs.declarations.add_explicit.Goals as goal
use Rattle.p21_schema.proofs.declarations.add_explicit.Goals.{in-Some+in_ok-texpr+in_ok-add, in_default}

pub explicit_attribute-requires-clause-attribute : goal.explicit_attribute-requires-clause-attribute
explicit_attribute-requires-clause-attribute c =
    let es = c.args.known.now.declarations.now.entities.items in
    let e = c.args.entity in
    let xs = c.index.result.now.attributes.items in
    let k = c.loop-attribute.attribute-index in
    let x = c.attribute-item.result in
    let less : e < length es = rw (← (length-map es plain_entity)) c.requires.entity in
    let less' : k < length xs = rw (← c.deref-attribute-items.ensures.value) c.loop-attribute-test.true in
    let is : x ≡ get_or xs k x = rw (← c.deref-attribute-items.ensures.value) c.attribute-item.is in
    let entity : get_or (map plain_entity es) e no_entity ≡ plain_entity c.index.result.now = item_at plain_entity es e c.index.result.now no_entity less c.index.ensures in
    subst (λ (u : Entity). IsIn u.attributes (plain_attribute x)) (sym entity) (item_in plain_attribute xs k x less' is)

pub explicit_attribute-requires-clause-new : goal.explicit_attribute-requires-clause-new
explicit_attribute-requires-clause-new c = λ of.
    let s = known_schema c.args.known.now in
    let es = c.args.known.now.declarations.now.entities.items in
    let e = c.args.entity in
    let xs = c.index.result.now.attributes.items in
    let k = c.loop-attribute.attribute-index in
    let x = c.attribute-item.result in
    let less : e < length es = rw (← (length-map es plain_entity)) c.requires.entity in
    let less' : k < length xs = rw (← c.deref-attribute-items.ensures.value) c.loop-attribute-test.true in
    let is : x ≡ get_or xs k x = rw (← c.deref-attribute-items.ensures.value) c.attribute-item.is in
    let entity : get_or (map plain_entity es) e no_entity ≡ plain_entity c.index.result.now = item_at plain_entity es e c.index.result.now no_entity less c.index.ensures in
    let all = (get_or s.entities e no_entity).attributes in
    let less'' : k < length all = subst (λ (u : Entity). k < length u.attributes) (sym entity) (rw (length-map xs plain_attribute) less') in
    let at : get_or all k (plain_attribute x) ≡ plain_attribute x = ap (λ (u : Entity). get_or u.attributes k (plain_attribute x)) entity ∙ item_at plain_attribute xs k x (plain_attribute x) less' is in
    let table = c.args.known.now.own.now in
    let place = new_place all k (plain_attribute x) less'' (ap (λ (a : Attribute). a.of) at ∙ of) in
    own_is_at s table e (get_or table e no_own) x.name.items _ c.loop-attribute.new c.requires.known.own c.requires.entity refl (place.0, place.1 ∙ ap (λ (a : Attribute). a.name) at) c.loop-attribute.invariant.new

pub place_after-new-requires : goal.place_after-new-requires
place_after-new-requires c =
    let s = known_schema c.args.known.now in
    let es = c.args.known.now.declarations.now.entities.items in
    let e = c.args.entity in
    let xs = c.index.result.now.attributes.items in
    let k = c.loop-attribute.attribute-index in
    let x = c.attribute-item.result in
    let less : e < length es = rw (← (length-map es plain_entity)) c.requires.entity in
    let less' : k < length xs = rw (← c.deref-attribute-items.ensures.value) c.loop-attribute-test.true in
    let is : x ≡ get_or xs k x = rw (← c.deref-attribute-items.ensures.value) c.attribute-item.is in
    let entity : get_or (map plain_entity es) e no_entity ≡ plain_entity c.index.result.now = item_at plain_entity es e c.index.result.now no_entity less c.index.ensures in
    let all = (get_or s.entities e no_entity).attributes in
    let less'' : k < length all = subst (λ (u : Entity). k < length u.attributes) (sym entity) (rw (length-map xs plain_attribute) less') in
    let at : get_or all k (plain_attribute x) ≡ plain_attribute x = ap (λ (u : Entity). get_or u.attributes k (plain_attribute x)) entity ∙ item_at plain_attribute xs k x (plain_attribute x) less' is in
    let own = c.requires.known.own.rows e c.requires.entity in
    let more = ap length (new_at all k (plain_attribute x) less'' ∙ ap (λ (a : Attribute). new_explicit (take k all) ++ with_new a.of a.name []) at) ∙ length-append (new_explicit (take k all)) (with_new (plain_attribute x).of (plain_attribute x).name []) in
    let parts = ap length (ap new_explicit (sym (take-append-drop (k + 1) all)) ∙ new_append (take (k + 1) all) (drop (k + 1) all)) ∙ length-append (new_explicit (take (k + 1) all)) (new_explicit (drop (k + 1) all)) in
    let count = own.count ∙ ap (λ (n : ℕ). (get_or c.args.known.now.own.now e no_own).from + n) (length-map (new_explicit all) (λ n. let o : Origin = record { entity = (get_or s.entities e no_entity).name; name = n } in o)) in
    let was = c.loop-attribute.invariant.new in
    omega (arith, more, parts, count, was)

pub resolve-requires : goal.resolve-requires
resolve-requires c =
    let s = known_schema c.args.known.now in
    let es = c.args.known.now.declarations.now.entities.items in
    let e = c.args.entity in
    let xs = c.index.result.now.attributes.items in
    let k = c.loop-attribute.attribute-index in
    let x = c.attribute-item.result in
    let less : e < length es = rw (← (length-map es plain_entity)) c.requires.entity in
    let less' : k < length xs = rw (← c.deref-attribute-items.ensures.value) c.loop-attribute-test.true in
    let is : x ≡ get_or xs k x = rw (← c.deref-attribute-items.ensures.value) c.attribute-item.is in
    let entity : get_or (map plain_entity es) e no_entity ≡ plain_entity c.index.result.now = item_at plain_entity es e c.index.result.now no_entity less c.index.ensures in
    let there : IsIn (get_or (map plain_entity es) e no_entity).attributes (plain_attribute x) = subst (λ (u : Entity). IsIn u.attributes (plain_attribute x)) (sym entity) (item_in plain_attribute xs k x less' is) in
    rw (c.requires.known.entities, c.requires.known.types) (texpr_known s c.requires.known.well_formed.unknown e c.requires.entity (plain_attribute x) there)

pub loop-attribute-preserved : goal.loop-attribute-preserved
loop-attribute-preserved c =
    let s = known_schema c.args.known.now in
    let formed = c.requires.known.well_formed in
    let es = c.args.known.now.declarations.now.entities.items in
    let e = c.args.entity in
    let xs = c.index.result.now.attributes.items in
    let k = c.loop-attribute.attribute-index in
    let x = c.attribute-item.result in
    let less : e < length es = rw (← (length-map es plain_entity)) c.requires.entity in
    let less' : k < length xs = rw (← c.deref-attribute-items.ensures.value) c.loop-attribute-test.true in
    let is : x ≡ get_or xs k x = rw (← c.deref-attribute-items.ensures.value) c.attribute-item.is in
    let entity : get_or (map plain_entity es) e no_entity ≡ plain_entity c.index.result.now = item_at plain_entity es e c.index.result.now no_entity less c.index.ensures in
    let all = (get_or s.entities e no_entity).attributes in
    let f : Attribute → Written = written_explicit (get_or s.entities e no_entity).name in
    let less'' : k < length all = subst (λ (u : Entity). k < length u.attributes) (sym entity) (rw (length-map xs plain_attribute) less') in
    let at : get_or all k (plain_attribute x) ≡ plain_attribute x = ap (λ (u : Entity). get_or u.attributes k (plain_attribute x)) entity ∙ item_at plain_attribute xs k x (plain_attribute x) less' is in
    let old = rows_of c.loop-attribute.lists in
    let new = rows_of c.match-explicit_attribute.lists in
    let inv = c.loop-attribute.invariant in
    let after : c.place_after-new.result ≡ (get_or c.args.known.now.own.now e no_own).from + length (new_explicit (take (k + 1) all)) =
    let more = ap length (new_at all k (plain_attribute x) less'' ∙ ap (λ (a : Attribute). new_explicit (take k all) ++ with_new a.of a.name []) at) ∙ length-append (new_explicit (take k all)) (with_new (plain_attribute x).of (plain_attribute x).name []) in
    let was = inv.new in
    let now = c.place_after-new.ensures in
    omega (arith, more, was, now) in
    elim c.match-explicit_attribute.branch [
      | in-Some+in_ok-texpr+in_ok-add w ↦
          let is_new : new ≡ set old w.in-Some.place (get_or old w.in-Some.place [] ++ record { entity = record { index = e }; form = form.Explicit x.optional w.in_ok-texpr.texpr } ∷ []) = ap (λ (u : _). rows_of u) w.lists-is ∙ w.in_ok-add.ensures in
          record {
            new = after;
            count = ap length is_new ∙ length-set old w.in-Some.place _ ∙ inv.count;
            table = λ ws h. step_more s formed f all k (plain_attribute x) ws old new less'' at w.in-Some.place (record { entity = record { index = e }; form = form.Explicit x.optional w.in_ok-texpr.texpr }) w.in-Some.ensures (record { known = c.requires.entity; entity = refl; form = (refl, (rw (← c.requires.known.entities, ← c.requires.known.types) w.in_ok-texpr.ensures, texpr_known s formed.unknown e c.requires.entity (plain_attribute x) (subst (λ (u : Entity). IsIn u.attributes (plain_attribute x)) (sym entity) (item_in plain_attribute xs k x less' is)))) }) is_new (inv.table ws h);
          }
      | in_default w ↦
          let is_old : new ≡ old = ap (λ (u : _). rows_of u) w.lists-is in
          record {
            new = after;
            count = ap length is_old ∙ inv.count;
            table = λ ws h. step_same s formed f all k (plain_attribute x) ws old new less'' at w.in_default.ensures is_old (inv.table ws h);
          }
    ]

pub returns-clause-table : goal.returns-clause-table
returns-clause-table c = λ ws h.
    let s = known_schema c.args.known.now in
    let es = c.args.known.now.declarations.now.entities.items in
    let e = c.args.entity in
    let xs = c.index.result.now.attributes.items in
    let all = (get_or s.entities e no_entity).attributes in
    let less : e < length es = rw (← (length-map es plain_entity)) c.requires.entity in
    let entity : get_or s.entities e no_entity ≡ plain_entity c.index.result.now = item_at plain_entity es e c.index.result.now no_entity less c.index.ensures in
    let past : length xs ≤ c.loop-attribute.attribute-index = rw (← c.deref-attribute-items.ensures.value) c.loop-attribute-test.false in
    let past' : length all ≤ c.loop-attribute.attribute-index = subst (λ (u : Entity). length u.attributes ≤ c.loop-attribute.attribute-index) (sym entity) (rw (length-map xs plain_attribute) past) in
    subst (λ (u : List Attribute). IsDeclarationTable s (ws ++ map (written_explicit (get_or s.entities e no_entity).name) u) (rows_of c.loop-attribute.lists)) (take_all c.loop-attribute.attribute-index all past') (c.loop-attribute.invariant.table ws h)

use Rattle.std.proofs.Common.{◌≡◌, ◌+◌, ◌∷◌, ◌++◌, [], List, ap, sym, subst, ◌∙◌, get_or, map}
use Rattle.std.specs.Prelude.{Vec}
use Rattle.std.specs.List.{AllByRecursion}
use Rattle.std.specs.declared.alloc.Global.{Global}
use Rattle.std.proofs.lemmas.List.{take_all}
use Rattle.p21_schema.specs.Declaration.{Chosen, Declaration}
use Rattle.p21_schema.specs.Declaration as chosen
use Rattle.p21_schema.specs.Place.{IsEntityOf, entity_name}
use Rattle.p21_schema.specs.declared.ids.EntityId.{EntityId}
use Rattle.p21_rule_text.specs.Resolve.{DerivesElsewhere}
use Rattle.p21_rule_text.proofs.DeclarationLemmas.{AreFound, ended, no_declaration, none_found, one_found, one_known, resolved_at}
use Rattle.p21_rule_text.proofs.redeclared.derivers.Goals as goal
use Rattle.p21_rule_text.proofs.redeclared.derivers.Goals.{then-derives_elsewhere+in_ok-push, else-derives_elsewhere}

pub loop-declaration-init : goal.loop-declaration-init
loop-declaration-init c = record {
  chosen = λ ds z. rw c.new-found.ensures.items chosen.none;
  known = rw c.new-found.ensures.items tt;
}

pub derives_elsewhere-requires-clause-declaration : goal.derives_elsewhere-requires-clause-declaration
derives_elsewhere-requires-clause-declaration c =
    let ds = c.declarations-declaration-items.ensures in
    (get_or ds.0 c.loop-declaration.declaration-index no_declaration, resolved_at c.args.schema.now c.declarations-declaration-items.result.now ds.0 ds.1.1 c.loop-declaration.declaration-index c.declaration-item.result c.loop-declaration-test.true c.declaration-item.is)

pub loop-declaration-preserved : goal.loop-declaration-preserved
loop-declaration-preserved c =
    let s = c.args.schema.now in
    let cs = c.declarations-declaration-items.result.now in
    let ds = c.declarations-declaration-items.ensures in
    let i = c.loop-declaration.declaration-index in
    let x = c.declaration-item.result in
    let os = c.loop-declaration.found.items in
    let inv = c.loop-declaration.invariant in
    elim c.if-derives_elsewhere.branch [
      | then-derives_elsewhere+in_ok-push w ↦
          let items : c.if-derives_elsewhere.found.items ≡ os ++ x.entity ∷ [] = ap (λ (v : Vec EntityId Global). v.items) w.found-is ∙ w.in_ok-push.ensures.items in
          record {
            chosen = subst (AreFound s c.args.entity cs (i + 1)) (sym items) (one_found s c.args.entity cs i x c.loop-declaration-test.true c.declaration-item.is c.derives_elsewhere.result c.derives_elsewhere.ensures os w.if-derives_elsewhere.true inv.chosen);
            known = subst (AllByRecursion (IsEntityOf s)) (sym items) (one_known s c.args.entity cs i x c.loop-declaration-test.true c.declaration-item.is c.derives_elsewhere.result c.derives_elsewhere.ensures os ds.0 ds.1.1 inv.known);
          }
      | else-derives_elsewhere w ↦
          let items : c.if-derives_elsewhere.found.items ≡ os = ap (λ (v : Vec EntityId Global). v.items) w.found-is in
          record {
            chosen = subst (AreFound s c.args.entity cs (i + 1)) (sym items) (none_found s c.args.entity cs i x c.loop-declaration-test.true c.declaration-item.is c.derives_elsewhere.result c.derives_elsewhere.ensures os w.if-derives_elsewhere.false inv.chosen);
            known = subst (AllByRecursion (IsEntityOf s)) (sym items) inv.known;
          }
    ]

pub returns : goal.returns
returns c =
    let s = c.args.schema.now in
    let ds = c.declarations-declaration-items.ensures in
    let i = c.loop-declaration.declaration-index in
    let inv = c.loop-declaration.invariant in
    record {
      declarations = ds.0;
      are = ds.1.0;
      chosen = subst (λ (l : List Declaration). Chosen (DerivesElsewhere s c.args.entity) (λ d. d.entity) l (map (entity_name s) c.loop-declaration.found.items)) (take_all i ds.0 (ended s c.declarations-declaration-items.result.now ds.0 ds.1.1 i c.loop-declaration-test.false)) (inv.chosen ds.0 ds.1.1);
      known = inv.known;
    }

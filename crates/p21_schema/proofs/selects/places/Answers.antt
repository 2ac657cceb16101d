use Rattle.std.proofs.Common.{◌≡◌, ◌++◌, ◌∷◌, [], ℕ, List, rules, get_or, take, ◌+◌, sym, ap, subst, ◌∙◌}
use Rattle.std.specs.Prelude.{Vec}
use Rattle.p21_schema.specs.declared.resolved.Target.{Target}
use Rattle.p21_schema.specs.declared.resolved.Target.TheVariants as target
use Rattle.p21_schema.specs.SelectItems.{place_of, IsItemRow}
use Rattle.p21_schema.proofs.SelectLemmas.{item_more, item_same}
use Rattle.p21_schema.proofs.selects.places.Goals as goal
use Rattle.p21_schema.proofs.selects.places.Goals.{then-eq+in_ok-push, else-eq}

pub loop-target-preserved : goal.loop-target-preserved
loop-target-preserved c =
    let i = c.loop-target.target-index in
    let ts = c.args.targets.now in
    let unders = c.args.unders.now in
    let d : Target = target.Entity (record { index = 0 }) in
    elim c.if-eq.branch [
      | then-eq+in_ok-push w ↦
          let same : c.kind.result ≡ c.args.wanted = search rules in
          let row : c.if-eq.row.items ≡ c.loop-target.row.items ++ place_of (get_or ts i d) ∷ [] = ap (λ (v : Vec ℕ _). v.items) w.row-is ∙ w.in_ok-push.ensures.items ∙ ap (λ (n : ℕ). c.loop-target.row.items ++ n ∷ []) w.place.ensures in
          subst (λ (v : List ℕ). IsItemRow unders c.args.wanted (take (i + 1) ts) v) (sym row) (item_more unders c.args.wanted ts c.loop-target.row.items i d c.loop-target-test.true (sym c.kind.ensures ∙ same) c.loop-target.invariant)
      | else-eq w ↦
          let other : ¬ (c.kind.result ≡ c.args.wanted) = search rules in
          rw w.row-is (item_same unders c.args.wanted ts c.loop-target.row.items i d c.loop-target-test.true (λ e. other (c.kind.ensures ∙ e)) c.loop-target.invariant)
    ]

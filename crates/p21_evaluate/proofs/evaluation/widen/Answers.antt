use Rattle.std.proofs.Common.{◌++◌, ◌∷◌, [], map, replicate, ap, sym, ◌∙◌, append_assoc}
use Rattle.std.proofs.lemmas.List.{map-append, replicate-append-replicate}
use Rattle.p21_values.specs.Plain.{plain, nothing}
use Rattle.p21_evaluate.proofs.evaluation.widen.Goals as goal

pub loop-n-preserved : goal.loop-n-preserved
loop-n-preserved c =
    let olds = map plain c.args.slots.now.items in
    ap (map plain) c.in_ok-push.ensures.pushed
    ∙ map-append plain c.loop-n.slots.items _
    ∙ ap (λ xs. xs ++ nothing ∷ []) c.loop-n.invariant
    ∙ append_assoc olds (replicate c.loop-n._n nothing) (nothing ∷ [])
    ∙ ap (λ xs. olds ++ xs) (replicate-append-replicate c.loop-n._n 1 nothing)

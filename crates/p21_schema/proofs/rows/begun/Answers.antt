use Rattle.std.proofs.Common.{List, drop, take, subst}
use Rattle.std.proofs.lemmas.List.{take-append-drop}
use Rattle.p21_graph.specs.MemberLaws.{in_right, in_front}
use Rattle.p21_express.specs.WellFormed.{IsIn}
use Rattle.p21_schema.specs.declared.ids.AttrId.{AttrId}
use Rattle.p21_schema.proofs.rows.begun.Goals as goal

pub returns-clause-among : goal.returns-clause-among
returns-clause-among c = λ a i.
    let n = c.beginning-above.result.1 in
    let ids = c.args.ids.now in
    subst (λ (u : List AttrId). IsIn u a) (take-append-drop n ids) (in_right (take n ids) (drop n ids) a (in_front _ (drop n ids) a (subst (λ (u : List AttrId). IsIn u a) c.in_ok-rest.ensures.items i)))

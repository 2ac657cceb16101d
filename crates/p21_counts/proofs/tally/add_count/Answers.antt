use Rattle.std.proofs.Common.{◌<◌, ◌^◌, cond, Some, refl, sym, ap, subst, ◌∙◌, IsSome, arith}
use Rattle.indexmap.specs.IndexMap.{get}
use Rattle.p21_counts.specs.Tally.{IsRaised, key_eq}
use Rattle.p21_counts.proofs.TallyLemmas.{raised_some, raised_none}
use Rattle.p21_counts.proofs.tally.add_count.Goals as goal

pub returns-in-Some : goal.returns-in-Some
returns-in-Some c = λ q.
    let m = c.args.keywords.now in
    let w = c.args.keyword in
    let v = c.saturating_add.result in
    (((c.get_mut.follows.holds v).3 (subst IsSome c.in-Some.ensures.value refl)).0) q
    ∙ ap (λ u. cond (key_eq w q) (Some u) (get key_eq m q)) (raised_some (get key_eq m w) c.in-Some.known.now c.args.count v c.in-Some.ensures.value c.saturating_add.ensures)

pub returns-in-Ok : goal.returns-in-Ok
returns-in-Ok c =
    let w = c.args.keyword in
    let small : c.args.count < 2 ^ 64 = omega arith in
    subst (λ m. IsRaised m w c.args.count c.insert.new.self) c.get_mut.follows.holds-at-none
    (λ q. c.in-Ok.ensures.updates.0 q
    ∙ ap (λ u. cond (key_eq w q) (Some u) (get key_eq c.get_mut.follows.lender-at-none q)) (raised_none (get key_eq c.get_mut.follows.lender-at-none w) c.args.count (c.in_default.ensures.value ∙ ap (λ m. get key_eq m w) (sym c.get_mut.follows.holds-at-none)) small))

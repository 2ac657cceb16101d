use Rattle.std.proofs.Common.{◌≡◌, ◌-◌, ⊎_elim, get_or, refl, subst, arith}
use Rattle.std.proofs.lemmas.Bool.{cases_eq, false≢true}
use Rattle.p21_check.proofs.TwiceLemmas.{twice_here, once_by_neighbors}
use Rattle.p21_check.proofs.repeated_names.has_equal_neighbors.Goals as goal

pub returns-then-names-next : goal.returns-then-names-next
returns-then-names-next c =
    let ns = c.args.names.now in
    let k = c.loop-next.next in
    (λ _. twice_here ns (k - 1) k (omega arith) (omega arith) c.if-names-next.true, λ _. refl)

pub loop-next-preserved : goal.loop-next-preserved
loop-next-preserved c i k is h e =
    let ns = c.args.names.now in
    let next = c.loop-next.next in
    ⊎_elim
    (λ (f : k ≡ next).
    let same : i ≡ next - 1 = omega arith in
    c.if-names-next.false (subst (λ m. get_or ns m 0 ≡ get_or ns next 0) same (subst (λ m. get_or ns i 0 ≡ get_or ns m 0) f e)))
    (λ (f : ¬ (k ≡ next)). c.loop-next.invariant i k is (omega arith) e)
    (cases_eq k next)

pub returns : goal.returns
returns c =
    let ns = c.args.names.now in
    (λ t. absurd (false≢true t), λ h. absurd (once_by_neighbors ns c.requires (λ i k is less. c.loop-next.invariant i k is (omega arith)) h))

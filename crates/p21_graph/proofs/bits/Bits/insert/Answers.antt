use Rattle.std.proofs.Common.{◌≡◌, ◌/◌, ◌%◌, ◌*◌, ◌^◌, inl, inr, ⊎_elim}
use Rattle.std.specs.Int.{bit_at}
use Rattle.p21_graph.specs.Bits.{Holds}
use Rattle.p21_graph.proofs.BitLemmas.{one_column}
use Rattle.p21_graph.proofs.bits.Bits.insert.Goals as goal

pub returns-clause-holds : goal.returns-clause-holds
returns-clause-holds c = λ r k.
    let n = c.args.column in
    let added = c.add.ensures.holds r k in
    let column = one_column k n in (
      λ h. ⊎_elim (λ (o : Holds c.args.self.now r k). inl o) (λ (w : (r ≡ c.args.row) × ((k / 64 ≡ n / 64) × (bit_at (1 * 2 ^ (n % 64) % 2 ^ 64) (k % 64) ≡ 1))). inr (w.0, column.0 w.1)) (added.0 h),
      λ s. added.1 (⊎_elim (λ (o : Holds c.args.self.now r k). inl o) (λ (w : (r ≡ c.args.row) × (k ≡ n)). inr (w.0, column.1 w.1)) s),
    )

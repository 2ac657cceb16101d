use Rattle.std.proofs.Common.{◌≡◌, ◌/◌, refl, ⊎_elim, arith}
use Rattle.std.proofs.lemmas.Bool.{cases_eq}
use Rattle.p21_graph.proofs.BitLemmas.{common_column, no_common_column}
use Rattle.p21_graph.proofs.bits.Bits.meets.Goals as goal

pub returns-then-word-ne0 : goal.returns-then-word-ne0
returns-then-word-ne0 c = (
  λ _. common_column c.args.self.now c.args.other.now c.args.row c.args.other_row c.loop-place.place c.word.result c.word-in-loop-place.result c.word.ensures c.word-in-loop-place.ensures (omega arith) (omega arith) c.word.type_inv c.if-word-ne0.true,
  λ _. refl,
)

pub loop-place-preserved : goal.loop-place-preserved
loop-place-preserved c = λ k less.
    let place = c.loop-place.place in
    ⊎_elim
    (λ (e : k / 64 ≡ place). no_common_column c.args.self.now c.args.other.now c.args.row c.args.other_row place c.word.result c.word-in-loop-place.result c.word.ensures c.word-in-loop-place.ensures k c.if-word-ne0.false e)
    (λ (ne : (k / 64 ≡ place) → ⊥). c.loop-place.invariant k (omega arith))
    (cases_eq (k / 64) place)

use Rattle.std.proofs.Common.{List, ℕ, length, sym, subst, ◌≡◌}
use Rattle.std.specs.List.{AllZip}
use Rattle.p21_tree.specs.declared.pieces.Piece.{Piece}
use Rattle.p21_run_tests.proofs.pieces_tests.measured.Goals as goal

pub returns : goal.returns
returns g c =
    let all = c.in_ok-run.ensures in
    let tail = c.in_ok-run.run'.tail in
    let Measured : List ℕ → Type 0 = λ found. AllZip (λ (p : Piece) (len : ℕ). len ≡ length p.bytes.now) all.0 found in
    (all.0, tail, c.new-pieces.ensures.of_file all.0 tail all.2, subst Measured (sym all.4) all.3.values)

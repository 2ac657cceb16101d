use Rattle.std.proofs.Common.{ℕ, ◌≤◌, List, length, map, subst}
use Rattle.p21_cut.specs.Pieces.{PiecesAre}
use Rattle.p21_cut.specs.Cutter.{file_of, place_of, plain_piece}
use Rattle.p21_reader.proofs.pieces.Pieces.new.Goals as goal

pub returns-clause-of_file : goal.returns-clause-of_file
returns-clause-of_file c ps tail given =
    let cutter = c.new.result in
    let Numbered : ℕ → Type 0 = λ n. PiecesAre (file_of cutter) (place_of cutter) n (map plain_piece ps) tail in
    let Placed : ℕ → Type 0 = λ at. PiecesAre (file_of cutter) at 0 (map plain_piece ps) tail in
    let OfFile : List ℕ → Type 0 = λ f. PiecesAre f c.args.at 0 (map plain_piece ps) tail in
    subst OfFile c.new.ensures.file (subst Placed c.new.ensures.place (subst Numbered c.new.ensures.number given.0))

pub returns-clause-within : goal.returns-clause-within
returns-clause-within c ps tail given = subst (λ (f : List ℕ). tail ≤ length f) c.new.ensures.file given.1

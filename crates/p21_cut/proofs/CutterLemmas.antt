-- One cut further.
use Rattle.std.proofs.Common.{◌≡◌, ℕ, ◌+◌, ◌-◌, ◌≤◌, List, ◌∷◌, take, drop, subst, arith}
use Rattle.p21_text.specs.Tokens.{Passes}
use Rattle.p21_cut.specs.Pieces.{BeginsWithByte, Piece, PieceIs, IsNext, PiecesAre}
use Rattle.p21_cut.specs.Pieces as pieces

pub piece_there : (file : List ℕ) (at gap number end : ℕ) → Passes (drop at file) gap → PieceIs (drop (at + gap) file) (end - (at + gap)) → at + gap ≤ end
    → IsNext file at number (record { number = number; at = at + gap; bytes = take (end - (at + gap)) (drop (at + gap) file) }) end
piece_there file at gap number end p one within =
    let len : ℕ = end - (at + gap) in
    let place : at + gap + len ≡ end = omega arith in
    subst (λ e. IsNext file at number (record { number = number; at = at + gap; bytes = take len (drop (at + gap) file) }) e) place (pieces.made p one)

-- a piece stands before those after it
pub before_others : (file same : List ℕ) (at number next more end : ℕ) (p : Piece) (ps : List Piece) → same ≡ file → more ≡ number + 1 → IsNext file at number p next → PiecesAre same next more ps end → PiecesAre file at number (p ∷ ps) end
before_others file same at number next more end p ps e f one others =
    pieces.piece one (subst (λ n. PiecesAre file next n ps end) f (subst (λ a. PiecesAre a next more ps end) e others))

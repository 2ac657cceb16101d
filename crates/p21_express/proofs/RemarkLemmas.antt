-- Remarks, as their loop reads them.
use Rattle.std.proofs.Common.{◌≡◌, ℕ, zero, suc, ◌+◌, ◌-◌, ◌<◌, ◌≤◌, true, false, List, [], ◌∷◌, length, drop, get_or, Some, None, refl, arith, drop-cons, length-drop}
use Rattle.p21_express.specs.Lexer.{opens_remark, closes_remark, remark_end}

two : (text : List ℕ) (at : ℕ) → at + 1 < length text → drop at text ≡ get_or text at 0 ∷ get_or text (at + 1) 0 ∷ drop (at + 2) text
two text at lt =
    let one : drop at text ≡ get_or text at 0 ∷ drop (suc at) text = drop-cons text at 0 (omega arith) in
    let other : drop (suc at) text ≡ get_or text (suc at) 0 ∷ drop (suc (suc at)) text = drop-cons text (suc at) 0 (omega arith) in
    let a : at + 1 ≡ suc at = omega arith in
    let b : at + 2 ≡ suc (suc at) = omega arith in
    rw (one, other, a, b) refl

one_less : (text : List ℕ) (at : ℕ) → at + 1 < length text → drop (at + 1) text ≡ get_or text (at + 1) 0 ∷ drop (at + 2) text
one_less text at lt =
    let a : at + 1 ≡ suc at = omega arith in
    let b : at + 2 ≡ suc (suc at) = omega arith in
    rw (a, b) (drop-cons text (suc at) 0 (omega arith))

pub remark_opens : (text : List ℕ) (at depth : ℕ) → at + 1 < length text → opens_remark (get_or text at 0) (get_or text (at + 1) 0) ≡ true → remark_end (depth + 1) (drop (at + 2) text) ≡ remark_end depth (drop at text)
unfolding remark_end
remark_opens text at depth lt o = let a : depth + 1 ≡ suc depth = omega arith in rw (two text at lt, o, a) refl

pub remark_closes : (text : List ℕ) (at depth : ℕ) → at + 1 < length text → (depth ≡ 0 → ⊥) → opens_remark (get_or text at 0) (get_or text (at + 1) 0) ≡ false → closes_remark (get_or text at 0) (get_or text (at + 1) 0) ≡ true → remark_end (depth - 1) (drop (at + 2) text) ≡ remark_end depth (drop at text)
unfolding remark_end
remark_closes text at zero lt z o c = absurd (z refl)
remark_closes text at (suc depth) lt z o c = let a : suc depth - 1 ≡ depth = omega arith in rw (two text at lt, o, c, a) refl

pub remark_done : (text : List ℕ) (at depth : ℕ) → at + 1 < length text → depth ≡ 0 → opens_remark (get_or text at 0) (get_or text (at + 1) 0) ≡ false → closes_remark (get_or text at 0) (get_or text (at + 1) 0) ≡ true → remark_end depth (drop at text) ≡ Some (drop (at + 2) text)
unfolding remark_end
remark_done text at zero lt z o c = rw (two text at lt, o, c) refl
remark_done text at (suc depth) lt z o c = absurd cc

pub remark_goes : (text : List ℕ) (at depth : ℕ) → at + 1 < length text → opens_remark (get_or text at 0) (get_or text (at + 1) 0) ≡ false → closes_remark (get_or text at 0) (get_or text (at + 1) 0) ≡ false → remark_end depth (drop (at + 1) text) ≡ remark_end depth (drop at text)
unfolding remark_end
remark_goes text at depth lt o c = rw (two text at lt, o, c, one_less text at lt) refl

remark_short : (depth : ℕ) (ws : List ℕ) → length ws ≤ 1 → remark_end depth ws ≡ None
unfolding remark_end
remark_short depth [] le = refl
remark_short depth (b ∷ []) le = refl
remark_short depth (b ∷ c ∷ ws) le = absurd (omega arith)

pub remark_none : (text : List ℕ) (at depth : ℕ) → length text ≤ at + 1 → remark_end depth (drop at text) ≡ None
remark_none text at depth le = remark_short depth (drop at text) (simp length-drop (omega arith))

-- The references of an instance by its place, and whether they are answered.
use Rattle.std.proofs.Common.{◌≡◌, ℕ, zero, suc, ◌+◌, ◌<◌, ◌≤◌, List, [], ◌∷◌, ◌++◌, take, length, get_or, sym, ap, subst, ◌∙◌, arith}
use Rattle.std.specs.Prelude.{All, Any, slice_range}
use Rattle.std.proofs.lemmas.List.{get_or_default, take_all, take_more}
use Rattle.std.proofs.lemmas.List.Elements.{All-append, All-cons}
use Rattle.p21_express.specs.Schema.{Schema}
use Rattle.p21_check.specs.declared.referred.Reference.{Reference}
use Rattle.p21_outline.specs.declared.columns.Row.{Row}
use Rattle.p21_outline.specs.Rows.{HaveReferences, RefersAt}
use Rattle.p21_outline.specs.Columns.{start_at}

-- the references of a row begin where those of the row before end
pub start_behind : (start : ℕ) (rows : List Row) (before : ℕ) (row : Row) → before < length rows → row ≡ get_or rows before row → row.end ≡ start_at start rows (suc before)
start_behind start [] before row less there = absurd (omega arith)
start_behind start (first ∷ rows) zero row less there = ap (λ (r : Row). r.end) there
start_behind start (first ∷ rows) (suc before) row less there = start_behind first.end rows before row (omega arith) there

-- the references of the row at a place
pub part_at : (s : Schema) (rs : List Reference) (start : ℕ) (rows : List Row) (k : ℕ) (row : Row) → HaveReferences s rs start rows → k < length rows → row ≡ get_or rows k row
    → (start_at start rows k ≤ row.end) × (row.end ≤ length rs) × RefersAt s (slice_range rs (start_at start rows k) row.end) row
part_at s rs start [] k row h less there = absurd (omega arith)
part_at s rs start (first ∷ rows) zero row h less there =
    subst (λ (r : Row). (start ≤ r.end) × (r.end ≤ length rs) × RefersAt s (slice_range rs start r.end) r) (sym there) (h.0, h.1, h.2)
part_at s rs start (first ∷ rows) (suc k) row h less there = part_at s rs first.end rows k row h.3 (omega arith) there

-- a fact of one more element
pub one_more : {X : Type 0} (P : X → Type 0) (xs : List X) (k : ℕ) (x : X) → k < length xs → x ≡ get_or xs k x → All P (take k xs) → P x → All P (take (k + 1) xs)
one_more P xs k x less there before here =
    let taken : take (k + 1) xs ≡ take k xs ++ x ∷ [] = take_more xs k x less ∙ ap (λ y. take k xs ++ y ∷ []) (sym there) in
    subst (All P) (sym taken) (All-append P (take k xs) (x ∷ []) before (All-cons P x [] here (λ j d inside. absurd (omega arith))))

pub all_of : {X : Type 0} (P : X → Type 0) (xs : List X) (k : ℕ) → length xs ≤ k → All P (take k xs) → All P xs
all_of P xs k whole before = subst (All P) (take_all k xs whole) before

-- the same of the element that stands there, whatever is asked for in its place
pub one_more_at : {X : Type 0} (P : X → Type 0) (xs : List X) (k : ℕ) (d : X) → k < length xs → All P (take k xs) → P (get_or xs k d) → All P (take (k + 1) xs)
one_more_at P xs k d less before here = one_more P xs k (get_or xs k d) less (get_or_default xs k d (get_or xs k d) less) before here

pub none_at : {X : Type 0} (P : X → Type 0) (xs : List X) (k : ℕ) (d : X) → k < length xs → ¬ (P (get_or xs k d)) → Any (λ x. ¬ (P x)) xs
none_at P xs k d less fails = (k, get_or xs k d, less, sym (get_or_default xs k d (get_or xs k d) less), fails)

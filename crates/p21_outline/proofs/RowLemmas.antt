-- Rows of instances, and others after them.
use Rattle.std.proofs.Common.{◌≡◌, ℕ, ◌+◌, ◌-◌, ◌≤◌, List, [], ◌∷◌, ◌++◌, None, map, take, drop, length, get_or, refl, sym, ap, subst, ◌∙◌, append_assoc, arith}
use Rattle.std.specs.Prelude.{All, slice_range}
use Rattle.std.proofs.lemmas.List.{drop-append-le, get_or-append-add, get_or_append_left, length-append, length-drop, map-append, take-append-le, take_all}
use Rattle.std.proofs.lemmas.List.Elements.{All-append, All-cons, All-head, All-map, All-tail}
use Rattle.std.proofs.Math.Seq.{drop-append-add, drop-append_seam}
use Rattle.p21_express.specs.Schema.{Schema}
use Rattle.p21_tree.specs.declared.instances.RawInstance.{RawInstance}
use Rattle.p21_tree.specs.Sentence.{Instance}
use Rattle.p21_tree.specs.Views.{plain_instance}
use Rattle.p21_check.specs.LocalFault.{IsLocalFault}
use Rattle.p21_check.specs.declared.referred.Reference.{Reference}
use Rattle.p21_counts.specs.Counts.{capped, complex_count, reference_count}
use Rattle.p21_join.specs.Model.{plain_instances}
use Rattle.p21_outline.specs.declared.columns.Held.{Held}
use Rattle.p21_outline.specs.declared.columns.Held.TheVariants as held
use Rattle.p21_outline.specs.declared.columns.Row.{Row}
use Rattle.p21_outline.specs.Rows.{HaveReferences, IsHeld, IsRow, IsWithin, Refers, held_behind, held_instance, row_behind, row_instance}

-- ---- more instances that are whole

within_grown : (n m : ℕ) (h : Held) → n ≤ m → IsWithin n h → IsWithin m h
within_grown n m (held.Simple e) less h = tt
within_grown n m (held.Whole k) less h = omega arith

instance_grown : (ws more : List RawInstance) (gone : RawInstance) (h : Held) → IsWithin (length ws) h → held_instance (ws ++ more) gone h ≡ held_instance ws gone h
instance_grown ws more gone (held.Simple e) h = refl
instance_grown ws more gone (held.Whole k) h = get_or_append_left ws more gone k h

pub rows_grown : (ws more : List RawInstance) (rows : List Row) → All (λ row. IsWithin (length ws) row.held) rows → map (row_instance (ws ++ more)) rows ≡ map (row_instance ws) rows
rows_grown ws more [] h = refl
rows_grown ws more (row ∷ rows) h =
    let here = instance_grown ws more row.gone.value row.held (All-head (λ (r : Row). IsWithin (length ws) r.held) row rows h) in
    let rest = rows_grown ws more rows (All-tail (λ (r : Row). IsWithin (length ws) r.held) row rows h) in
    ap (λ i. i ∷ map (row_instance (ws ++ more)) rows) here ∙ ap (λ is. row_instance ws row ∷ is) rest

-- a fact of a lone element
pub lone : {X : Type 0} (P : X → Type 0) (x : X) → P x → All P (x ∷ [])
lone P x h = All-cons P x [] h (λ k d inside. absurd (omega arith))

held_grown : (s : Schema) (ws more : List RawInstance) (gone : RawInstance) (h : Held) → IsHeld s ws gone h → IsHeld s (ws ++ more) gone h
held_grown s ws more gone (held.Simple e) h = h
held_grown s ws more gone (held.Whole k) h =
    let long = length-append ws more in
    let less = h.0 in
    (omega arith, ap (λ (i : RawInstance). i.complex) (get_or_append_left ws more gone k less) ∙ h.1)

pub rows_more : (s : Schema) (ws more : List RawInstance) (rows others : List Row) → All (IsRow s ws) rows → All (IsRow s (ws ++ more)) others → All (IsRow s (ws ++ more)) (rows ++ others)
rows_more s ws more rows others h behind =
    All-append (IsRow s (ws ++ more)) rows others
    (λ k d inside. held_grown s ws more (get_or rows k d).gone.value (get_or rows k d).held (h k d inside))
    behind

-- ---- rows that are moved after others

-- the one at a place of the second list stands so much farther
get_or_behind : (ws more : List RawInstance) (k : ℕ) (d : RawInstance) → get_or (ws ++ more) (k + length ws) d ≡ get_or more k d
get_or_behind ws more k d = let turned : k + length ws ≡ length ws + k = omega arith in ap (λ n. get_or (ws ++ more) n d) turned ∙ get_or-append-add ws more k d

within_moved : (ws more : List RawInstance) (h : Held) → IsWithin (length more) h → IsWithin (length (ws ++ more)) (held_behind (length ws) h)
within_moved ws more (held.Simple e) h = tt
within_moved ws more (held.Whole k) h = let long = length-append ws more in omega arith

-- each row has a place for what it holds as whole, also after others
pub within_joined : (ws more : List RawInstance) (start : ℕ) (rows others : List Row) → All (λ row. IsWithin (length ws) row.held) rows → All (λ row. IsWithin (length more) row.held) others
    → All (λ row. IsWithin (length (ws ++ more)) row.held) (rows ++ map (row_behind start (length ws)) others)
within_joined ws more start rows others h behind =
    let long = length-append ws more in
    All-append (λ (r : Row). IsWithin (length (ws ++ more)) r.held) rows (map (row_behind start (length ws)) others)
    (λ k d inside. within_grown (length ws) (length (ws ++ more)) (get_or rows k d).held (omega arith) (h k d inside))
    (All-map (λ (r : Row). IsWithin (length (ws ++ more)) r.held) (row_behind start (length ws)) others (λ k d inside. within_moved ws more (get_or others k d).held (behind k d inside)))

instance_moved : (ws more : List RawInstance) (gone : RawInstance) (h : Held) → held_instance (ws ++ more) gone (held_behind (length ws) h) ≡ held_instance more gone h
instance_moved ws more gone (held.Simple e) = refl
instance_moved ws more gone (held.Whole k) = get_or_behind ws more k gone

pub rows_moved : (ws more : List RawInstance) (start : ℕ) (rows : List Row) → map (row_instance (ws ++ more)) (map (row_behind start (length ws)) rows) ≡ map (row_instance more) rows
rows_moved ws more start [] = refl
rows_moved ws more start (row ∷ rows) =
    ap (λ i. i ∷ map (row_instance (ws ++ more)) (map (row_behind start (length ws)) rows)) (instance_moved ws more row.gone.value row.held)
    ∙ ap (λ is. row_instance more row ∷ is) (rows_moved ws more start rows)

held_moved : (s : Schema) (ws more : List RawInstance) (gone : RawInstance) (h : Held) → IsHeld s more gone h → IsHeld s (ws ++ more) gone (held_behind (length ws) h)
held_moved s ws more gone (held.Simple e) h = h
held_moved s ws more gone (held.Whole k) h =
    let long = length-append ws more in
    let less = h.0 in
    (omega arith, ap (λ (i : RawInstance). i.complex) (get_or_behind ws more k gone) ∙ h.1)

pub are_rows_moved : (s : Schema) (ws more : List RawInstance) (start : ℕ) (rows : List Row) → All (IsRow s more) rows → All (IsRow s (ws ++ more)) (map (row_behind start (length ws)) rows)
are_rows_moved s ws more start rows h =
    All-map (IsRow s (ws ++ more)) (row_behind start (length ws)) rows (λ k d inside. held_moved s ws more (get_or rows k d).gone.value (get_or rows k d).held (h k d inside))

-- one more row is moved after the others
pub one_moved : (start first : ℕ) (old before after moved : List Row) (row put : Row) → before ≡ old ++ map (row_behind start first) moved → put ≡ row_behind start first row → after ≡ before ++ put ∷ []
    → after ≡ old ++ map (row_behind start first) (moved ++ row ∷ [])
one_moved start first old before after moved row put h same added =
    let behind = map (row_behind start first) moved in
    added ∙ (ap (λ l. l ++ put ∷ []) h ∙ (append_assoc old behind (put ∷ []) ∙ ap (λ l. old ++ l) (ap (λ r. behind ++ r ∷ []) same ∙ sym (map-append (row_behind start first) moved (row ∷ [])))))

-- rows that are moved by numbers that are lengths
pub moved_by : (old more new : List Row) (start first from at : ℕ) → start ≡ from → first ≡ at → new ≡ old ++ map (row_behind start first) more → new ≡ old ++ map (row_behind from at) more
moved_by old more new start first from at e f h = h ∙ (ap (λ n. old ++ map (row_behind n first) more) e ∙ ap (λ n. old ++ map (row_behind from n) more) f)

-- ---- more references

part_kept : (rs more : List Reference) (from to : ℕ) → from ≤ to → to ≤ length rs → slice_range (rs ++ more) from to ≡ slice_range rs from to
part_kept rs more from to order inside =
    let behind : drop from (rs ++ more) ≡ drop from rs ++ more = drop-append-le from rs more (omega arith) in
    let long = length-drop from rs in
    ap (take (to - from)) behind ∙ take-append-le (to - from) (drop from rs) more (omega arith)

part_added : (rs more : List Reference) → slice_range (rs ++ more) (length rs) (length (rs ++ more)) ≡ more
part_added rs more =
    let long = length-append rs more in
    ap (take (length (rs ++ more) - length rs)) (drop-append_seam rs more) ∙ take_all (length (rs ++ more) - length rs) more (omega arith)

-- the references of other rows after those of some
pub references_joined : (s : Schema) (rs more : List Reference) (start : ℕ) (rows others : List Row) → HaveReferences s rs start rows → HaveReferences s (rs ++ more) (length rs) others → HaveReferences s (rs ++ more) start (rows ++ others)
references_joined s rs more start [] others h behind = subst (λ n. HaveReferences s (rs ++ more) n others) (sym h) behind
references_joined s rs more start (first ∷ rows) others h behind =
    let long = length-append rs more in
    let inside = h.1 in
    (h.0, omega arith, subst (λ l. Refers s l first.gone.value first.held) (sym (part_kept rs more start first.end h.0 h.1)) h.2, references_joined s rs more first.end rows others h.3 behind)

-- the references of one more row after those of the others
pub references_more : (s : Schema) (rs more : List Reference) (start : ℕ) (rows : List Row) (row : Row) → HaveReferences s rs start rows → row.end ≡ length (rs ++ more) → Refers s more row.gone.value row.held
    → HaveReferences s (rs ++ more) start (rows ++ row ∷ [])
references_more s rs more start rows row h end own =
    let long = length-append rs more in
    let part : slice_range (rs ++ more) (length rs) row.end ≡ more = ap (slice_range (rs ++ more) (length rs)) end ∙ part_added rs more in
    references_joined s rs more start rows (row ∷ []) h (omega arith, omega arith, subst (λ l. Refers s l row.gone.value row.held) (sym part) own, end)

part_moved : (rs more : List Reference) (from to : ℕ) → slice_range (rs ++ more) (from + length rs) (to + length rs) ≡ slice_range more from to
part_moved rs more from to =
    let turned : from + length rs ≡ length rs + from = omega arith in
    let long : (to + length rs) - (from + length rs) ≡ to - from = omega arith in
    ap (λ l. take ((to + length rs) - (from + length rs)) l) (ap (λ n. drop n (rs ++ more)) turned ∙ drop-append-add rs more from) ∙ ap (λ n. take n (drop from more)) long

refers_moved : (s : Schema) (rs : List Reference) (gone : RawInstance) (first : ℕ) (h : Held) → Refers s rs gone h → Refers s rs gone (held_behind first h)
refers_moved s rs gone first (held.Simple e) h = h
refers_moved s rs gone first (held.Whole k) h = tt

-- rows that are moved have the same references, where these are moved with them
pub references_moved : (s : Schema) (rs more : List Reference) (first start : ℕ) (rows : List Row) → HaveReferences s more start rows → HaveReferences s (rs ++ more) (start + length rs) (map (row_behind (length rs) first) rows)
references_moved s rs more first start [] h = let long = length-append rs more in omega arith
references_moved s rs more first start (row ∷ rows) h =
    let long = length-append rs more in
    let order = h.0 in
    let inside = h.1 in (
      omega arith,
      omega arith,
      subst (λ l. Refers s l row.gone.value (held_behind first row.held)) (sym (part_moved rs more start row.end)) (refers_moved s (slice_range more start row.end) row.gone.value first row.held h.2),
      references_moved s rs more first row.end rows h.3,
    )

-- ---- more instances

complex_join : (is js : List Instance) → complex_count (is ++ js) ≡ complex_count is + complex_count js
complex_join [] js = omega arith
complex_join (x ∷ is) js = let more = complex_join is js in omega arith

references_join : (is js : List Instance) → reference_count (is ++ js) ≡ reference_count is + reference_count js
references_join [] js = omega arith
references_join (x ∷ is) js = let more = references_join is js in omega arith

plain_more : (is js : List RawInstance) → plain_instances (is ++ js) ≡ plain_instances is ++ plain_instances js
plain_more is js = map-append plain_instance is js

pub sound_more : (s : Schema) (is js : List RawInstance) → All (λ x. IsLocalFault s x None) (plain_instances is) → All (λ x. IsLocalFault s x None) (plain_instances js)
    → All (λ x. IsLocalFault s x None) (plain_instances (is ++ js))
sound_more s is js h behind =
    subst (λ l. All (λ x. IsLocalFault s x None) l) (sym (plain_more is js)) (All-append (λ x. IsLocalFault s x None) (plain_instances is) (plain_instances js) h behind)

pub complex_more : (is js ws more : List RawInstance) → length ws ≡ complex_count (plain_instances is) → length more ≡ complex_count (plain_instances js) → length (ws ++ more) ≡ complex_count (plain_instances (is ++ js))
complex_more is js ws more h behind =
    let count = ap complex_count (plain_more is js) ∙ complex_join (plain_instances is) (plain_instances js) in
    let long = length-append ws more in
    omega arith

capped_sum : (sum term next part total : ℕ) → total ≡ capped sum → part ≡ capped term → next ≡ capped (total + part) → next ≡ capped (sum + term)
capped_sum sum term next part total e f g = omega arith

pub written_more : (is js : List RawInstance) (total part next : ℕ) → total ≡ capped (reference_count (plain_instances is)) → part ≡ capped (reference_count (plain_instances js)) → next ≡ capped (total + part)
    → next ≡ capped (reference_count (plain_instances (is ++ js)))
written_more is js total part next e f g =
    capped_sum (reference_count (plain_instances is)) (reference_count (plain_instances js)) next part total e f g
    ∙ ap capped (sym (ap reference_count (plain_more is js) ∙ references_join (plain_instances is) (plain_instances js)))

-- a row where room was made for it
pub row_put : (old made new : List Row) (row : Row) → made ≡ old → new ≡ made ++ row ∷ [] → new ≡ old ++ row ∷ []
row_put old made new row same put = put ∙ ap (λ rows. rows ++ row ∷ []) same

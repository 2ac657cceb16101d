-- The keywords of instances, a row or a part at a time.
use Rattle.std.proofs.Common.{◌≡◌, ℕ, ◌+◌, ◌*◌, ◌/◌, ◌%◌, ◌-◌, ◌^◌, ◌<◌, ◌≤◌, subst, List, [], ◌∷◌, ◌++◌, map, min, take, drop, length, get_or, refl, sym, ap, ◌∙◌, arith, append_assoc, append-nil}
use Rattle.std.specs.Fork.{slice_chunk}
use Rattle.std.proofs.lemmas.List.{drop-map, drop_min, get_or_default, map-append, take-map, take_min, take_more}
use Rattle.std.proofs.lemmas.Grind.{div_ceil_times}
use Rattle.std.proofs.Math.Seq.{take-add}
use Rattle.p21_tree.specs.Sentence.{Instance}
use Rattle.p21_tree.specs.Grammar.{Entry}
use Rattle.p21_tree.specs.Views.{plain_instance, plain_record}
use Rattle.p21_tree.specs.declared.instances.RawInstance.{RawInstance}
use Rattle.p21_tree.specs.declared.instances.Record.{Record}
use Rattle.p21_check.specs.EntitySet.{keywords}
use Rattle.p21_counts.specs.Counts.{keywords_of}
use Rattle.p21_join.specs.Model.{plain_instances}
use Rattle.p21_outline.specs.declared.columns.Held.TheVariants as held
use Rattle.p21_outline.specs.declared.columns.Row.{Row}
use Rattle.p21_outline.specs.Rows.{held_instance, row_instance}

keywords_append : (is js : List Instance) → keywords_of (is ++ js) ≡ keywords_of is ++ keywords_of js
keywords_append [] js = refl
keywords_append (x ∷ is) js = ap (λ l. keywords x ++ l) (keywords_append is js) ∙ sym (append_assoc (keywords x) (keywords_of is) (keywords_of js))

-- one more instance
pub keywords_more : (is : List RawInstance) (i : RawInstance) → keywords_of (plain_instances is) ++ keywords (plain_instance i) ≡ keywords_of (plain_instances (is ++ i ∷ []))
keywords_more is i =
    ap (λ l. keywords_of (plain_instances is) ++ l) (sym (append-nil (keywords (plain_instance i))))
    ∙ (sym (keywords_append (plain_instances is) (plain_instance i ∷ [])) ∙ ap keywords_of (sym (map-append plain_instance is (i ∷ []))))

-- one more row
pub row_more : (ws : List RawInstance) (rows : List Row) (k : ℕ) (row : Row) → k < length rows → row ≡ get_or rows k row
    → keywords_of (plain_instances (map (row_instance ws) (take k rows))) ++ keywords (plain_instance (row_instance ws row)) ≡ keywords_of (plain_instances (map (row_instance ws) (take (k + 1) rows)))
row_more ws rows k row less there =
    let taken : take (k + 1) rows ≡ take k rows ++ row ∷ [] = take_more rows k row less ∙ ap (λ x. take k rows ++ x ∷ []) (sym there) in
    keywords_more (map (row_instance ws) (take k rows)) (row_instance ws row)
    ∙ ap (λ l. keywords_of (plain_instances l)) (sym (ap (map (row_instance ws)) taken ∙ map-append (row_instance ws) (take k rows) (row ∷ [])))

plain_words : (rs : List Record) → map (λ (r : Record). r.keyword.now) rs ≡ map (λ (e : Entry). e.keyword) (map plain_record rs)
plain_words [] = refl
plain_words (r ∷ rs) = ap (λ l. r.keyword.now ∷ l) (plain_words rs)

-- the keywords of the records of an instance that is whole
pub whole_words : (ws : List RawInstance) (row : Row) (place : ℕ) (whole : RawInstance) (rs : List Record) → row.held ≡ held.Whole place → place < length ws → whole ≡ get_or ws place whole → rs ≡ whole.records
    → map (λ r. r.keyword.now) rs ≡ keywords (plain_instance (row_instance ws row))
whole_words ws row place whole rs is less there records =
    let instance : whole ≡ row_instance ws row = there ∙ (get_or_default ws place whole row.gone.value less ∙ ap (held_instance ws row.gone.value) (sym is)) in
    ap (map (λ (r : Record). r.keyword.now)) records ∙ (plain_words whole.records ∙ ap (λ i. keywords (plain_instance i)) instance)

-- ---- parts

-- a part as it is cut
pub cut_is : (rows rest part : List Row) (size number product start len : ℕ) → product ≡ min (number * size) (2 ^ 64 - 1) → start ≡ min product (length rows) → length rows < 2 ^ 64 → rest ≡ drop start rows → len ≡ min size (length rest)
    → part ≡ take len rest → part ≡ slice_chunk rows size number
cut_is rows rest part size number product start len p e f g h k =
    let at : start ≡ min (number * size) (length rows) = omega arith in
    let behind : rest ≡ drop (number * size) rows = g ∙ (ap (λ n. drop n rows) at ∙ drop_min (number * size) rows) in
    k ∙ (ap (λ n. take n rest) h ∙ (take_min size rest ∙ ap (take size) behind))

-- the instances of a part
pub part_instances : (ws : List RawInstance) (rows : List Row) (size number : ℕ) → map (row_instance ws) (slice_chunk rows size number) ≡ slice_chunk (map (row_instance ws) rows) size number
part_instances ws rows size number = sym (take-map (row_instance ws) size (drop (number * size) rows)) ∙ ap (take size) (sym (drop-map (row_instance ws) (number * size) rows))

-- the parts before the first, and one part more
pub before_first : (is : List RawInstance) (size : ℕ) → [] ≡ take (0 * size) is
before_first is size = let none : 0 ≡ 0 * size = omega arith in ap (λ n. take n is) none

pub part_more : (is : List RawInstance) (k size : ℕ) → keywords_of (plain_instances (take (k * size) is)) ++ keywords_of (plain_instances (slice_chunk is size k)) ≡ keywords_of (plain_instances (take ((k + 1) * size) is))
part_more is k size =
    let next : k * size + size ≡ (k + 1) * size = omega arith in
    sym (keywords_append (plain_instances (take (k * size) is)) (plain_instances (slice_chunk is size k)))
    ∙ ap keywords_of (sym (map-append plain_instance (take (k * size) is) (slice_chunk is size k)) ∙ ap plain_instances (sym (take-add (k * size) size is) ∙ ap (λ n. take n is) next))

-- where all parts were added, no instance is left
pub all_parts : (len size parts k : ℕ) → 0 < size → parts ≡ len / size + min 1 (len % size) → k ≡ parts → len ≤ k * size
all_parts len size parts k positive e f = subst (λ n. len ≤ n * size) (sym (f ∙ e)) (div_ceil_times len size positive).0

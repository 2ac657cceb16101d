-- The places of names in a table, after a write.
use Rattle.std.proofs.Common.{◌≡◌, ◌≢◌, ◌-◌, inl, inr, ℕ, zero, suc, ◌+◌, ◌*◌, ◌/◌, ◌%◌, ◌<◌, ◌≤◌, Option, Some, None, true, List, [], ◌∷◌, ◌++◌, length, get_or, set, replicate, refl, sym, ap, subst, ◌∙◌, arith}
use Rattle.std.specs.Prelude.{nat_eq, position, slice_get}
use Rattle.std.specs.Cmp.{nat_eq_equiv}
use Rattle.std.proofs.lemmas.Bool.{cases_Bool, cases_lt}
use Rattle.std.proofs.lemmas.Bool.Decides.{nat_tests}
use Rattle.std.proofs.lemmas.List.{get_or-map, get_or-replicate, get_or-set_other, get_or-set_same, get_or_past, length-map, length-replicate}
use Rattle.std.proofs.lemmas.List.Quantifiers.{position-Some}
use Rattle.std.proofs.lemmas.Map.Entries.{lookup_from_place}
use Rattle.std.proofs.lemmas.Nat.{div-add-mod'}
use Rattle.std.proofs.lemmas.Option.{slice_get-get_or}
use Rattle.indexmap.specs.IndexMap.{get, insert_entry, keys, IsUnique, Updates}
use Rattle.indexmap.proofs.CallerLemmas.{insert_entry-new}
use Rattle.p21_join.specs.declared.place_blocks.PlaceBlocks.{PlaceBlocks}
use Rattle.p21_join.specs.PlaceBlocks.{IsBlockAt, KeepsOtherPlaces, KeepsPlaces, place_by, place_in, place_of}

-- two names with one place in one block are one
same_name : (m n : ℕ) → m / 16 ≡ n / 16 → m % 16 ≡ n % 16 → m ≡ n
same_name m n block within = sym (div-add-mod' m 16) ∙ (ap (λ b. b * 16 + m % 16) block ∙ (ap (λ k. n / 16 * 16 + k) within ∙ div-add-mod' n 16))

pub same_number : (m n : ℕ) → nat_eq m n ≡ true → m ≡ n
same_number m n e = grind (arith, nat_tests, e)

within_block : (name : ℕ) (numbers : List ℕ) → length numbers ≡ 16 → name % 16 < length numbers
within_block name numbers long = omega (arith, long)

-- A number that is written for a name.

pub place_written : (t u : PlaceBlocks) (name number : ℕ) (numbers : List ℕ) → length numbers ≡ 16 → Updates nat_eq t.blocks u.blocks (name / 16) (Some (set numbers (name % 16) number)) → place_of u name ≡ place_by number
place_written t u name number numbers long updates =
    ap (λ b. place_in b (name % 16)) updates.1 ∙ ap place_by (get_or-set_same numbers (name % 16) number 0 (within_block name numbers long))

pub others_kept : (t u : PlaceBlocks) (name number : ℕ) (numbers : List ℕ) → get nat_eq t.blocks (name / 16) ≡ Some numbers → Updates nat_eq t.blocks u.blocks (name / 16) (Some (set numbers (name % 16) number)) → KeepsOtherPlaces t name u
others_kept t u name number numbers was updates other differs = elim (cases_Bool (nat_eq (name / 16) (other / 16))) [
  | inl same ↦
      let block : name / 16 ≡ other / 16 = same_number (name / 16) (other / 16) same in
      let apart : other % 16 ≢ name % 16 = λ within. differs (same_name other name (sym block) within) in
      let new : get nat_eq u.blocks (other / 16) ≡ Some (set numbers (name % 16) number) = subst (λ b. get nat_eq u.blocks b ≡ Some (set numbers (name % 16) number)) block updates.1 in
      let old : get nat_eq t.blocks (other / 16) ≡ Some numbers = subst (λ b. get nat_eq t.blocks b ≡ Some numbers) block was in
      ap (λ b. place_in b (other % 16)) new ∙ (ap place_by (get_or-set_other numbers (name % 16) (other % 16) number 0 apart) ∙ sym (ap (λ b. place_in b (other % 16)) old))
  | inr different ↦ ap (λ b. place_in b (other % 16)) (updates.2 (other / 16) different)
]

-- the same block written again
pub block_kept : (t u : PlaceBlocks) (number : ℕ) (numbers : List ℕ) → get nat_eq t.blocks number ≡ Some numbers → Updates nat_eq t.blocks u.blocks number (Some numbers) → KeepsPlaces t u
block_kept t u number numbers was updates name = elim (cases_Bool (nat_eq number (name / 16))) [
  | inl same ↦
      let block : number ≡ name / 16 = same_number number (name / 16) same in
      let new : get nat_eq u.blocks (name / 16) ≡ Some numbers = subst (λ b. get nat_eq u.blocks b ≡ Some numbers) block updates.1 in
      let old : get nat_eq t.blocks (name / 16) ≡ Some numbers = subst (λ b. get nat_eq t.blocks b ≡ Some numbers) block was in
      ap (λ b. place_in b (name % 16)) (new ∙ sym old)
  | inr different ↦ ap (λ b. place_in b (name % 16)) (updates.2 (name / 16) different)
]

-- a block in which no name has a place
abbrev pub zeros : List ℕ
zeros = replicate 16 0

all_zero : (within : ℕ) → get_or zeros within 0 ≡ 0
all_zero within = elim (cases_lt within 16) [
  | inl less ↦ get_or-replicate 16 within 0 0 less
  | inr past ↦ get_or_past zeros within 0 (omega (arith, past, length-replicate 16 zero))
]

-- what a block has for a name
pub place_by_block : (t : PlaceBlocks) (name : ℕ) (numbers : List ℕ) → get nat_eq t.blocks (name / 16) ≡ Some numbers → place_of t name ≡ place_by (get_or numbers (name % 16) 0)
place_by_block t name numbers was = ap (λ b. place_in b (name % 16)) was

-- the block that stands at a place
pub block_at : (t : PlaceBlocks) (number at : ℕ) (numbers : List ℕ) → IsUnique nat_eq t.blocks → slice_get t.blocks.entries at ≡ Some (number, numbers) → get nat_eq t.blocks number ≡ Some numbers
block_at t number at numbers unique there = lookup_from_place nat_eq_equiv t.blocks.entries at number numbers unique there

-- what stands at a place of the block is of this block
pub same_block : (t : PlaceBlocks) (number at other : ℕ) (numbers : List ℕ) → IsBlockAt t number at → slice_get t.blocks.entries at ≡ Some (other, numbers) → other ≡ number
same_block t number at other numbers h there = ap key_of (sym there ∙ h.1) where
  key_of : Option (ℕ × List ℕ) → ℕ
  key_of None = other
  key_of (Some entry) = entry.0

-- the block that a look-up finds
pub found_block : (t : PlaceBlocks) (number at : ℕ) → Some at ≡ position (nat_eq number) (keys t.blocks) → IsBlockAt t number at
found_block t number at found =
    let es = t.blocks.entries in
    let first : ℕ × List ℕ = (0, []) in
    let h = position-Some (nat_eq number) (keys t.blocks) at 0 (sym found) in
    let within : at < length es = (let l = h.0 in omega (arith, length-map es (λ (e : ℕ × List ℕ). e.0), l)) in
    let key : number ≡ (get_or es at first).0 = same_number number (get_or es at first).0 (ap (nat_eq number) (sym (get_or-map (λ (e : ℕ × List ℕ). e.0) es at first 0 within)) ∙ h.1) in
    ((get_or es at first).1, slice_get-get_or es at first within ∙ ap (λ k. Some (k, (get_or es at first).1)) (sym key))

-- the block that is added
pub pushed_block : (t u : PlaceBlocks) (number : ℕ) (numbers : List ℕ) → get nat_eq t.blocks number ≡ None → u.blocks.entries ≡ insert_entry nat_eq t.blocks.entries number numbers → IsBlockAt u number (length t.blocks.entries)
pushed_block t u number numbers none entries =
    let es = t.blocks.entries in
    let longer : u.blocks.entries ≡ es ++ (number, numbers) ∷ [] = entries ∙ insert_entry-new nat_eq t.blocks number numbers none in
    (numbers, ap (λ l. slice_get l (length es)) longer ∙ pushed es) where
      pushed : (es : List (ℕ × List ℕ)) → slice_get (es ++ (number, numbers) ∷ []) (length es) ≡ Some (number, numbers)
      pushed [] = refl
      pushed (e ∷ es) = pushed es

-- Numbers and places.

pub nothing_for_zero : (number : ℕ) → number ≡ 0 → place_by number ≡ None
nothing_for_zero number e = ap place_by e

pub something_else : (number : ℕ) → number ≢ 0 → (place : ℕ) × (place_by number ≡ Some place)
something_else zero some = absurd (some refl)
something_else (suc place) some = (place, refl)

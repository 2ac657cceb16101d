-- What the readers of clauses leave.
use Rattle.std.proofs.Common.{◌≡◌, ℕ, suc, ◌-◌, ◌<◌, ◌≤◌, Bool, true, false, cond, List, [], ◌∷◌, length, take, Option, Some, None, refl, eqb, arith}
use Rattle.std.specs.Prelude.{codes}
use Rattle.std.specs.Str.{bytes_eq}
use Rattle.p21_express.specs.declared.keywords.DeclWord.{DeclWord}
use Rattle.p21_express.specs.declared.keywords.DeclWord.TheVariants as decls
use Rattle.p21_express.specs.declared.refusal.Refusal.{Refusal}
use Rattle.p21_express.specs.declared.refusal.Refusal.TheVariants as refusal
use Rattle.p21_express.specs.declared.word.Word as source
use Rattle.p21_express.specs.Word.{Word, begins_name, begins_symbol}
use Rattle.p21_express.specs.Grammar.{begins_rules, ends_attributes}
use Rattle.p21_express.specs.Keywords.{decl_word_of}
use Rattle.p21_express.specs.Reader.{◌>>=◌, Fails, words_of, name_at, word_at, symbol_at, behind_stop, up_to, ends_at, if_name, many_at, again_at, naming_at, next_naming}
use Rattle.p21_rule_text.specs.Bounds.{in_brackets_at, if_brackets_at, collection_at, bounds_at}
use Rattle.p21_rule_text.specs.Clauses.{has_label, label_at, if_label_at, names_at, unique_at, attribute_of_at, attribute_at, inverse_at}
use Rattle.p21_rule_text.specs.Entities.{EntityClauses, behind_attributes, behind_derive, behind_statements, inverses_at, if_inverses_at, uniques_at, if_uniques_at, entity_end, entity_at, skipped_at, type_at, type_end, one_entity_at, declaration_by, declaration_at, ended}
use Rattle.p21_rule_text.proofs.LengthLemmas.{behind_leaves, Leaves, Shrinks, leaves_none, leaves_some, then, either, name_leaves, word_leaves, symbol_leaves, up_to_leaves, ends_leaves, if_name_leaves, many_leaves}

-- ---- names

again_leaves : (n : ℕ) (ws : List Word) → length ws < n → Leaves (λ x. x.1) n (again_at ws)
unfolding again_at
again_leaves n ws h = then (symbol_at 92 ws) _ (symbol_leaves 92 n ws (omega arith)) (λ e he. then (name_at e) _ (name_leaves n e (omega arith)) (λ of ho. then (symbol_at 46 of.1) _ (symbol_leaves 46 n of.1 (omega arith)) (λ m hm. then (name_at m) _ (name_leaves n m (omega arith)) (λ x hx. either (begins_name (codes "RENAMED") x.1) None _ leaves_none (leaves_some _ hx)))))

naming_leaves : (n : ℕ) (ws : List Word) → length ws ≤ n → Leaves (λ x. x.1) n (naming_at ws)
unfolding naming_at
naming_leaves n ws h = then (name_at ws) _ (name_leaves n ws h) (λ x hx. either (bytes_eq x.0 (codes "SELF")) (again_at x.1) _ (again_leaves n x.1 hx) (leaves_some _ hx))

next_leaves : (n : ℕ) (ws : List Word) → length ws ≤ n → Leaves (λ x. x.1) n (next_naming ws)
unfolding next_naming
next_leaves n ws h = then (symbol_at 44 ws) _ (symbol_leaves 44 n ws h) (λ e he. naming_leaves n e (omega arith))

pub next_naming_shrinks : Shrinks next_naming
next_naming_shrinks = record { leaves = next_leaves }

-- ---- bounds

in_brackets_leaves : (is_bag : Bool) (n : ℕ) (ws : List Word) → length ws < n → Leaves (λ x. x.1) n (in_brackets_at is_bag ws)
unfolding in_brackets_at
in_brackets_leaves is_bag n ws h = then (symbol_at 91 ws) _ (symbol_leaves 91 n ws (omega arith)) (λ inner hi. then (up_to 58 inner) _ (up_to_leaves 58 n inner (omega arith)) (λ low hl. then (up_to 93 low.1) _ (up_to_leaves 93 n low.1 (omega arith)) (λ high hh. leaves_some _ hh)))

if_brackets_leaves : (is_bag : Bool) (n : ℕ) (ws : List Word) → length ws < n → Leaves (λ x. x.1) n (if_brackets_at is_bag ws)
unfolding if_brackets_at
if_brackets_leaves is_bag n ws h = either (begins_symbol 91 ws) _ _ (in_brackets_leaves is_bag n ws h) (leaves_some _ h)

collection_leaves : (is_bag : Bool) (n : ℕ) (ws : List Word) → length ws < n → Leaves (λ x. x.1) n (collection_at is_bag ws)
unfolding collection_at
collection_leaves is_bag n ws h = then (if_brackets_at is_bag ws) _ (if_brackets_leaves is_bag n ws h) (λ b hb. then (word_at (codes "OF") b.1) _ (word_leaves (codes "OF") n b.1 (omega arith)) (λ r hr. leaves_some _ hr))

bounds_leaves : (n : ℕ) (ws : List Word) → length ws < n → Leaves (λ x. x.1) n (bounds_at ws)
unfolding bounds_at
bounds_leaves n ws h = either (if_name (codes "SET") ws).0 _ _ (collection_leaves false n _ (if_name_leaves (codes "SET") n ws h)) (either (if_name (codes "BAG") ws).0 _ _ (collection_leaves true n _ (if_name_leaves (codes "BAG") n ws h)) (leaves_some _ h))

-- ---- clauses

label_leaves : (n : ℕ) (ws : List Word) → length ws < n → Leaves (λ x. x.1) n (label_at ws)
unfolding label_at
label_leaves n ws h = then (name_at ws) _ (name_leaves n ws (omega arith)) (λ x hx. then (symbol_at 58 x.1) _ (symbol_leaves 58 n x.1 (omega arith)) (λ r hr. leaves_some _ hr))

if_label_leaves : (n : ℕ) (ws : List Word) → length ws < n → Leaves (λ x. x.1) n (if_label_at ws)
unfolding if_label_at
if_label_leaves n ws h = either (has_label ws) _ _ (label_leaves n ws h) (leaves_some _ h)

names_leaves : (n : ℕ) (ws : List Word) → length ws ≤ n → Leaves (λ x. x.1) n (names_at ws)
unfolding names_at
names_leaves n ws h = then (naming_at ws) _ (naming_leaves n ws h) (λ x hx. then (many_at (begins_symbol 59) next_naming x.1) _ (many_leaves (begins_symbol 59) next_naming next_naming_shrinks n _ x.1 hx) (λ xs hxs. then (symbol_at 59 xs.1) _ (symbol_leaves 59 n xs.1 (omega arith)) (λ r hr. leaves_some _ hr)))

unique_leaves : (n : ℕ) (ws : List Word) → length ws ≤ n → Leaves (λ x. x.1) n (unique_at ws)
unfolding unique_at
unique_leaves n ws h = then (if_label_at ws) _ (if_label_leaves (suc n) ws (omega arith)) (λ l hl. then (names_at l.1) _ (names_leaves n l.1 (omega arith)) (λ xs hxs. leaves_some _ hxs))

pub unique_shrinks : Shrinks unique_at
unique_shrinks = record { leaves = unique_leaves }

attribute_of_leaves : (e : List ℕ) (n : ℕ) (ws : List Word) → length ws < n → Leaves (λ x. x.1) n (attribute_of_at e ws)
unfolding attribute_of_at
attribute_of_leaves e n ws h = then (symbol_at 46 ws) _ (symbol_leaves 46 n ws (omega arith)) (λ dot hd. then (name_at dot) _ (name_leaves n dot (omega arith)) (λ x hx. leaves_some _ hx))

attribute_leaves : (n : ℕ) (ws : List Word) → length ws < n → Leaves (λ x. x.1) n (attribute_at ws)
unfolding attribute_at
attribute_leaves n ws h = then (name_at ws) _ (name_leaves n ws (omega arith)) (λ x hx. either (begins_symbol 46 x.1) _ _ (attribute_of_leaves x.0 n x.1 hx) (leaves_some _ hx))

inverse_leaves : (n : ℕ) (ws : List Word) → length ws ≤ n → Leaves (λ x. x.1) n (inverse_at ws)
unfolding inverse_at
inverse_leaves n ws h = then (naming_at ws) _ (naming_leaves n ws h) (λ x hx. then (symbol_at 58 x.1) _ (symbol_leaves 58 n x.1 (omega arith)) (λ type ht. then (bounds_at type) _ (bounds_leaves n type ht) (λ b hb. then (name_at b.1) _ (name_leaves n b.1 (omega arith)) (λ e he. then (word_at (codes "FOR") e.1) _ (word_leaves (codes "FOR") n e.1 (omega arith)) (λ for hf. then (attribute_at for) _ (attribute_leaves n for hf) (λ a ha. then (symbol_at 59 a.1) _ (symbol_leaves 59 n a.1 (omega arith)) (λ r hr. leaves_some _ hr)))))))

pub inverse_shrinks : Shrinks inverse_at
inverse_shrinks = record { leaves = inverse_leaves }

-- ---- entities

pub up_to_shrinks : Shrinks (up_to 59)
up_to_shrinks = record { leaves = up_to_leaves 59 }

pub up_to_gives : (stop : ℕ) (ws rest : List Word) → behind_stop stop 0 ws ≡ Some rest → up_to stop ws ≡ Some (take (length ws - length rest - 1) ws, rest)
unfolding up_to
up_to_gives stop ws rest h = rw h refl

pub up_to_fails : (e : Refusal) (stop : ℕ) (ws : List Word) → Fails e (behind_stop stop 0 ws) → Fails e (up_to stop ws)
unfolding up_to
up_to_fails refusal.Memory stop ws h = tt
up_to_fails (refusal.Refused k n) stop ws h = rw h refl

statements_leave : (stops : List Word → Bool) (n : ℕ) (ws : List Word) → length ws < n → Leaves (λ r. r) n (behind_statements stops ws)
unfolding behind_statements
statements_leave stops n ws h = then (many_at stops (up_to 59) ws) _ (many_leaves stops (up_to 59) up_to_shrinks n _ ws h) (λ xs hxs. leaves_some _ hxs)

derive_leaves : (n : ℕ) (ws : List Word) → length ws < n → Leaves (λ r. r) n (behind_derive ws)
unfolding behind_derive
derive_leaves n ws h = either (if_name (codes "DERIVE") ws).0 _ _ (statements_leave begins_rules n _ (if_name_leaves (codes "DERIVE") n ws h)) (leaves_some _ h)

attributes_leave : (n : ℕ) (ws : List Word) → length ws < n → Leaves (λ r. r) n (behind_attributes ws)
unfolding behind_attributes
attributes_leave n ws h = then (behind_statements ends_attributes ws) _ (statements_leave ends_attributes n ws h) (λ derive hd. derive_leaves n derive hd)

-- a word of the grammar, and one or more things after it
abbrev clauses_at : {X : Type 0} → List ℕ → (List Word → Option (X × List Word)) → List Word → Option (List X × List Word)
clauses_at first item ws = do
  behind ← word_at first ws
  cond (begins_rules behind) None (many_at begins_rules item behind)

clauses_leave : {X : Type 0} (first : List ℕ) {item : List Word → Option (X × List Word)} → Shrinks item → (n : ℕ) (ws : List Word) → length ws < n → Leaves (λ x. x.1) n (clauses_at first item ws)
clauses_leave first {item} s n ws h = then (word_at first ws) _ (word_leaves first n ws (omega arith)) (λ behind hb. either (begins_rules behind) None _ leaves_none (many_leaves begins_rules item s n _ behind hb))

inverses_leave : (n : ℕ) (ws : List Word) → length ws < n → Leaves (λ x. x.1) n (if_inverses_at ws)
unfolding if_inverses_at inverses_at
inverses_leave n ws h = either (begins_name (codes "INVERSE") ws) _ _ (clauses_leave (codes "INVERSE") inverse_shrinks n ws h) (leaves_some _ h)

uniques_leave : (n : ℕ) (ws : List Word) → length ws < n → Leaves (λ x. x.1) n (if_uniques_at ws)
unfolding if_uniques_at uniques_at
uniques_leave n ws h = either (begins_name (codes "UNIQUE") ws) _ _ (clauses_leave (codes "UNIQUE") unique_shrinks n ws h) (leaves_some _ h)

end_leaves : (n : ℕ) (ws : List Word) → length ws < n → Leaves (λ r. r) n (entity_end ws)
unfolding entity_end
end_leaves n ws h = either (begins_name (codes "WHERE") ws) _ _ (ends_leaves None (codes "END_ENTITY") n 0 ws h) (word_leaves (codes "END_ENTITY") n ws (omega arith))

entity_leaves : (n : ℕ) (ws : List Word) → length ws < n → Leaves (λ x. x.1) n (entity_at ws)
unfolding entity_at
entity_leaves n ws h = then (name_at ws) _ (name_leaves n ws (omega arith)) (λ x hx. then (behind_attributes x.1) _ (attributes_leave n x.1 hx) (λ rules hr. then (if_inverses_at rules) _ (inverses_leave n rules hr) (λ is hi. then (if_uniques_at is.1) _ (uniques_leave n is.1 hi) (λ us hu. then (entity_end us.1) _ (end_leaves n us.1 hu) (λ end he. then (symbol_at 59 end) _ (symbol_leaves 59 n end (omega arith)) (λ r hs. leaves_some _ hs))))))

one_entity_leaves : (n : ℕ) (ws : List Word) → length ws < n → Leaves (λ x. x.1) n (one_entity_at ws)
unfolding one_entity_at
one_entity_leaves n ws h = then (entity_at ws) _ (entity_leaves n ws h) (λ e he. leaves_some _ he)

skipped_leaves : (again : Option (List ℕ)) (last : List ℕ) (n : ℕ) (ws : List Word) → length ws < n → Leaves (λ x. x.1) n (skipped_at again last ws)
unfolding skipped_at
skipped_leaves again last n ws h = then (ends_at again last 0 ws) _ (ends_leaves again last n 0 ws h) (λ end he. then (symbol_at 59 end) _ (symbol_leaves 59 n end (omega arith)) (λ r hr. leaves_some _ hr))

type_end_leaves : (n : ℕ) (ws : List Word) → length ws < n → Leaves (λ r. r) n (type_end ws)
unfolding type_end
type_end_leaves n ws h = either (begins_name (codes "WHERE") ws) _ _ (ends_leaves None (codes "END_TYPE") n 0 ws h) (word_leaves (codes "END_TYPE") n ws (omega arith))

type_leaves : (n : ℕ) (ws : List Word) → length ws < n → Leaves (λ x. x.1) n (type_at ws)
unfolding type_at
type_leaves n ws h = then (behind_stop 59 0 ws) _ (behind_leaves 59 n 0 ws (omega arith)) (λ rules hr. then (type_end rules) _ (type_end_leaves n rules hr) (λ end he. then (symbol_at 59 end) _ (symbol_leaves 59 n end (omega arith)) (λ r hs. leaves_some _ hs)))

declared_leaves : (w : DeclWord) (n : ℕ) (ws : List Word) → length ws < n → Leaves (λ x. x.1) n (declaration_by w ws)
declared_leaves decls.Entity n ws h = one_entity_leaves n ws h
declared_leaves decls.Type n ws h = type_leaves n ws h
declared_leaves decls.Function n ws h = skipped_leaves (Some (codes "FUNCTION")) (codes "END_FUNCTION") n ws h
declared_leaves decls.Procedure n ws h = skipped_leaves (Some (codes "PROCEDURE")) (codes "END_PROCEDURE") n ws h
declared_leaves decls.Rule n ws h = skipped_leaves None (codes "END_RULE") n ws h
declared_leaves decls.Constant n ws h = skipped_leaves None (codes "END_CONSTANT") n ws h
declared_leaves decls.Unsupported n ws h = leaves_none
declared_leaves decls.Unknown n ws h = leaves_none

declaration_leaves : (n : ℕ) (ws : List Word) → length ws ≤ n → Leaves (λ x. x.1) n (declaration_at ws)
unfolding declaration_at
declaration_leaves n ws h = then (name_at ws) _ (name_leaves n ws h) (λ x hx. declared_leaves (decl_word_of x.0) n x.1 hx)

pub declaration_shrinks : Shrinks declaration_at
declaration_shrinks = record { leaves = declaration_leaves }

-- words after the end
pub ended_none : (ws : List source.Word) (es : List EntityClauses) → eqb (length ws) 0 ≡ false → ended (words_of ws) es ≡ None
ended_none [] es h = absurd cc
ended_none (w ∷ ws) es h = refl

-- The tokens of a file, and how the parts of its instances are spelled.
use Rattle.std.proofs.Common.{◌≡◌, ◌≤◌, ◌<◌, ◌^◌, ℕ, suc, List, [], ◌∷◌, ◌++◌, None, length, take, drop, refl, sym, ap, subst, ◌∙◌, inl, inr, arith}
use Rattle.std.specs.List.{AllByRecursion}
use Rattle.std.proofs.lemmas.List.{append_assoc, length-append, length-drop, length-take}
use Rattle.p21_text.specs.Spelling.{Symbol, Spells, IsInt, IsReal, IsName, IsBinary, bits_of}
use Rattle.p21_text.specs.Spelling as token
use Rattle.p21_text.specs.Tokens.{First, Front, Longest, Placed, Tokens, symbols}
use Rattle.p21_text.specs.Tokens as tokens
use Rattle.p21_tree.specs.Tree.{Tree, Trees}
use Rattle.p21_tree.specs.Grammar.{Entry, IsKey, IsLeaf, IsParam, IsOptional, IsParams, IsRecord}
use Rattle.p21_tree.specs.Grammar as grammar
use Rattle.p21_tree.specs.Sentence.{Instance, Opening, IsFile, IsInstance, IsInstances, IsRecords, deepest}
use Rattle.p21_tree.specs.Sentence as sentence
use Rattle.p21_express.specs.Schema.{Schema}
use Rattle.p21_reader.specs.InstanceFault.{HaveNoFault, IsInstanceFault}
use Rattle.p21_reader.specs.InstanceFault as fault
use Rattle.p21_reader.specs.Reading.{IsReading}
use Rattle.p21_reader.specs.Reading as reading
use Rattle.p21_check.specs.LocalFault.{IsLocalFault}
use Rattle.p21_json.specs.Laws.{IsSound}
use Rattle.p21_json.specs.Spellings.{IsKeyword, HasSpellings, HaveSpellings, RecordHasSpellings, IsSpelledInstance}
use Rattle.p21_export.specs.Laws.{AreSound}

-- a token whose text is spelled as one, and a binary of at most so many digits
abbrev IsSpelt : ℕ → Symbol → Type 0
IsSpelt most token.iso = Unit {0}
IsSpelt most token.end_iso = Unit {0}
IsSpelt most (token.keyword s) = IsName s
IsSpelt most (token.user_keyword s) = (n : List ℕ) × (s ≡ 33 ∷ n) × IsName n
IsSpelt most (token.int s) = IsInt s
IsSpelt most (token.real s) = IsReal s
IsSpelt most (token.str s) = Unit {0}
IsSpelt most (token.name n) = n < 2 ^ 64
IsSpelt most (token.enumeration s) = IsName s
IsSpelt most (token.binary s) = IsBinary s × (length s ≤ most)
IsSpelt most token.dollar = Unit {0}
IsSpelt most token.star = Unit {0}
IsSpelt most token.lparen = Unit {0}
IsSpelt most token.rparen = Unit {0}
IsSpelt most token.comma = Unit {0}
IsSpelt most token.equals = Unit {0}
IsSpelt most token.semi = Unit {0}
IsSpelt most token.end = Unit {0}
IsSpelt most token.bad = Unit {0}

digits_in : (text s : List ℕ) (most : ℕ) → text ≡ 34 ∷ (s ++ 34 ∷ []) → length text ≤ most → length s ≤ most
digits_in text s most e h = let n : length text ≡ suc (length (s ++ 34 ∷ [])) = ap length e in let m = length-append s (34 ∷ []) in omega arith

spelt : (text behind : List ℕ) (t : Symbol) (most : ℕ) → length text ≤ most → Spells text behind t → IsSpelt most t
spelt text behind token.iso most l h = tt
spelt text behind token.end_iso most l h = tt
spelt text behind (token.keyword s) most l h = h.1
spelt text behind (token.user_keyword s) most l h = (h.1, h.2, h.3)
spelt text behind (token.int s) most l h = h.1
spelt text behind (token.real s) most l h = h.1
spelt text behind (token.str s) most l h = tt
spelt text behind (token.name n) most l h = h.4
spelt text behind (token.enumeration s) most l h = h.1
spelt text behind (token.binary s) most l h = (h.1, digits_in text s most h.0 l)
spelt text behind token.dollar most l h = tt
spelt text behind token.star most l h = tt
spelt text behind token.lparen most l h = tt
spelt text behind token.rparen most l h = tt
spelt text behind token.comma most l h = tt
spelt text behind token.equals most l h = tt
spelt text behind token.semi most l h = tt
spelt text behind token.end most l h = tt
spelt text behind token.bad most l h = tt

front_spelt : {text : List ℕ} {n : ℕ} {t : Symbol} (most : ℕ) → length text ≤ most → Front text n t → IsSpelt most t
front_spelt {text} {n} {t} most l (tokens.token h) = let s = length-take n text in spelt (take n text) (drop n text) t most (let f = h.fits in omega arith) h.spelled
front_spelt most l tokens.ended = tt
front_spelt most l (tokens.none e h) = tt

abbrev AreSpelt : ℕ → List Symbol → Type 0
AreSpelt most ts = AllByRecursion (IsSpelt most) ts

tokens_spelt : (text : List ℕ) {at : ℕ} {ts : List Placed} → Tokens text at ts → AreSpelt (length text) (symbols ts)
tokens_spelt text {at} (tokens.last f e) = (first_spelt text at f, tt) where
  first_spelt : (text : List ℕ) (at : ℕ) {t : Placed} → First text at t → IsSpelt (length text) t.token
  first_spelt text at f = let a = length-drop at text in let b = length-drop f.gap (drop at text) in front_spelt (length text) (omega arith) f.front
tokens_spelt text {at} (tokens.more {t = t} f e h) = (front, tokens_spelt text h) where
  front : IsSpelt (length text) t.token
  front = let a = length-drop at text in let b = length-drop f.gap (drop at text) in front_spelt (length text) (omega arith) f.front

front_of : (most : ℕ) (ts us : List Symbol) → AreSpelt most (ts ++ us) → AreSpelt most ts
front_of most [] us h = tt
front_of most (t ∷ ts) us h = (h.0, front_of most ts us h.1)

back_of : (most : ℕ) (ts us : List Symbol) → AreSpelt most (ts ++ us) → AreSpelt most us
back_of most [] us h = h
back_of most (t ∷ ts) us h = back_of most ts us h.1

-- ---- parameters

few_bits : (v : List ℕ) (most : ℕ) → length v ≤ most → most < 2 ^ 62 → bits_of v < 2 ^ 64
few_bits [] most h k = omega arith
few_bits (b ∷ rest) most h k = omega arith

key_spelt : (most : ℕ) {t : Symbol} {k : List ℕ} → IsKey t k → IsSpelt most t → IsKeyword k
key_spelt most grammar.standard h = inl h
key_spelt most grammar.user h = inr h

leaf_spelt : (most : ℕ) → most < 2 ^ 62 → {s : Symbol} {t : Tree} → IsLeaf s t → IsSpelt most s → HasSpellings t
leaf_spelt most m grammar.absent h = tt
leaf_spelt most m grammar.derived h = tt
leaf_spelt most m grammar.int h = h
leaf_spelt most m grammar.real h = h
leaf_spelt most m grammar.str h = tt
leaf_spelt most m grammar.reference h = h
leaf_spelt most m grammar.enumeration h = h
leaf_spelt most m (grammar.binary {s = s}) h = (h.0, few_bits s most h.1 m)

module _ (most : ℕ) (few : most < 2 ^ 62) where
  mutual
    param_spelt : {left : ℕ} {ts : List Symbol} {t : Tree} → IsParam left ts t → AreSpelt most ts → HasSpellings t
    param_spelt (grammar.leaf l) h = leaf_spelt most few l h.0
    param_spelt (grammar.list {tokens = ts} p) h = optional_spelt p (front_of most ts (token.rparen ∷ []) h.1)
    param_spelt (grammar.typed {tokens = ts} k p) h = (key_spelt most k h.0, param_spelt p (front_of most ts (token.rparen ∷ []) h.1.1))

    optional_spelt : {left : ℕ} {ts : List Symbol} {us : Trees} → IsOptional left ts us → AreSpelt most ts → HaveSpellings us
    optional_spelt grammar.empty h = tt
    optional_spelt (grammar.params p) h = params_spelt p h

    params_spelt : {left : ℕ} {ts : List Symbol} {us : Trees} → IsParams left ts us → AreSpelt most ts → HaveSpellings us
    params_spelt (grammar.one p) h = (param_spelt p h, tt)
    params_spelt (grammar.comma {tokens = ts} {others = os} p ps) h = (param_spelt p (front_of most ts (token.comma ∷ os) h), params_spelt ps (back_of most ts (token.comma ∷ os) h).1)

  record_spelt : {left : ℕ} {ts : List Symbol} {e : Entry} → IsRecord left ts e → AreSpelt most ts → RecordHasSpellings e
  record_spelt (grammar.made {tokens = ts} k p) h = (key_spelt most k h.0, optional_spelt p (front_of most ts (token.rparen ∷ []) h.1.1))

  -- ---- instances

  abbrev ArePlaced : List Placed → Type 0
  ArePlaced ts = AreSpelt most (symbols ts)

  placed_front : (ts us : List Placed) → ArePlaced (ts ++ us) → ArePlaced ts
  placed_front [] us h = tt
  placed_front (t ∷ ts) us h = (h.0, placed_front ts us h.1)

  placed_back : (ts us : List Placed) → ArePlaced (ts ++ us) → ArePlaced us
  placed_back [] us h = h
  placed_back (t ∷ ts) us h = placed_back ts us h.1

  records_spelt : {left : ℕ} {ts : List Placed} {es : List Entry} → IsRecords left ts es → ArePlaced ts → AllByRecursion RecordHasSpellings es
  records_spelt (sentence.one ts r) h = (record_spelt r h, tt)
  records_spelt (sentence.more ts {rest = us} r rs) h = (record_spelt r (placed_front ts us h), records_spelt rs (placed_back ts us h))

  number_spelt : (s : Symbol) (n : ℕ) → s ≡ token.name n → IsSpelt most s → n < 2 ^ 64
  number_spelt s n e h = subst (IsSpelt most) e h

  instance_spelt : {left : ℕ} {ts : List Placed} {i : Instance} → IsInstance left ts i → ArePlaced ts → IsSpelledInstance i
  instance_spelt (sentence.simple {name = m} n e ts s p q r u) h = record { name = number_spelt n.token m p h.0; one = tt; records = (record_spelt r (placed_front ts (s ∷ []) h.1.1), tt) }
  instance_spelt (sentence.complex {name = m} {ts = ts} n e o c s p q r rs u v) h = record { name = number_spelt n.token m p h.0; one = tt; records = records_spelt rs (placed_front ts (c ∷ s ∷ []) h.1.1.1) }

  instances_spelt : {left : ℕ} {ts : List Placed} {is : List Instance} → IsInstances left ts is → ArePlaced ts → AllByRecursion IsSpelledInstance is
  instances_spelt sentence.none h = tt
  instances_spelt (sentence.more ts {rest = us} i is) h = (instance_spelt i (placed_front ts us h), instances_spelt is (placed_back ts us h))

  file_spelt : (ts : List Placed) (o : Opening) (is : List Instance) → ArePlaced ts → IsFile deepest ts (record { opening = o; instances = is }) → AllByRecursion IsSpelledInstance is
  file_spelt ts o is h f = instances_spelt f.are_instances (placed_front f.body f.tail (placed_back f.opening (f.body ++ f.tail) (subst ArePlaced f.parts h)))

-- ---- files

sound_from : (s : Schema) (all earlier later : List Instance) → all ≡ earlier ++ later → HaveNoFault s all → AllByRecursion IsSpelledInstance later → AllByRecursion (IsSound s) later
sound_from s all earlier [] e h k = tt
sound_from s all earlier (i ∷ later) e h k = (record { faultless = alone i (h earlier later i e); spelled = k.0 }, sound_from s all (earlier ++ i ∷ []) later (e ∙ sym (append_assoc earlier (i ∷ []) later)) h k.1) where
  alone : (i : Instance) → IsInstanceFault s earlier i None → IsLocalFault s i None
  alone i (fault.alone n own) = own

-- the instances of a file that was read are sound
pub sound_read : (s : Schema) (file : List ℕ) (is : List Instance) → AreSound s file is
sound_read s file is (reading.read local answered) few =
    let f = local.is_file in
    sound_from s is [] is refl local.faultless (file_spelt (length file) few f.0 local.opening is (tokens_spelt file f.1) f.2)

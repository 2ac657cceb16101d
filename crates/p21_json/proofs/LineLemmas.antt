-- Lines one by one.
use Rattle.std.proofs.Common.{◌≡◌, ◌+◌, ◌<◌, ℕ, zero, suc, List, [], ◌∷◌, ◌++◌, Result, Ok, Err, IfOk, map, length, take, get_or, refl, sym, ap, subst, ◌∙◌, arith}
use Rattle.std.specs.List.{AllByRecursion}
use Rattle.std.proofs.lemmas.List.{append_assoc, append-nil, map-append, take_more}
use Rattle.json.specs.Token.{Token}
use Rattle.json.specs.Lex as json
use Rattle.json.specs.Print.{print}
use Rattle.json.specs.Written.{Written}
use Rattle.p21_tree.specs.declared.instances.RawInstance.{RawInstance}
use Rattle.p21_tree.specs.Sentence.{Instance}
use Rattle.p21_tree.specs.Views.{plain_instance}
use Rattle.p21_express.specs.Schema.{Schema}
use Rattle.p21_json.specs.Parts.{Part, AreTokensOf}
use Rattle.p21_json.specs.Instances.{AreKnown}
use Rattle.p21_json.specs.Written.{AddsSome}
use Rattle.p21_json.specs.Lines.{AreLines, IsLine, IsLineOf}
use Rattle.p21_json.specs.Lines as lines

-- what a writer wrote of parts from nothing on is their line
pub line_of : (s : Schema) (Such : List Part → Type 0) (a b : Written) → a.tokens ≡ [] → AddsSome s a b Such → json.tokens (print b.tokens) ≡ b.tokens → IsLineOf s Such (print b.tokens ++ 10 ∷ [])
line_of s Such a b e h r = record {
  parts = h.0;
  such = h.1;
  tokens = b.tokens;
  are = subst (AreTokensOf s h.0) (sym (h.2.added ∙ ap (λ (ts : List Token). ts ++ h.2.tokens) e)) h.2.are;
  printed = refl;
  reads_back = r;
}

-- one more line
pub lines_snoc : (s : Schema) (is : List Instance) (i : Instance) (text line : List ℕ) → AreLines s is text → IsLine s i line → AreLines s (is ++ i ∷ []) (text ++ line)
lines_snoc s [] i [] line lines.none h = lines.more line h lines.none (sym (append-nil line))
lines_snoc s [] i (_ ∷ _) line h k = elim h [ ]
lines_snoc s (j ∷ is) i text line (lines.more {lines = rest} first k ls e) h =
    lines.more first k (lines_snoc s is i rest line ls h) (ap (λ (bs : List ℕ). bs ++ line) e ∙ append_assoc first rest line)

-- the lines of the instances up to one, and its line
pub lines_more : (s : Schema) (is : List RawInstance) (k : ℕ) (r : RawInstance) (text line made : List ℕ) → k < length is → r ≡ get_or is k r → AreLines s (map plain_instance (take k is)) text → IsLine s (plain_instance r) line → made ≡ text ++ line
    → AreLines s (map plain_instance (take (k + 1) is)) made
lines_more s is k r text line made l e h g m =
    let more : take (k + 1) is ≡ take k is ++ r ∷ [] = take_more is k r l ∙ ap (λ (x : RawInstance). take k is ++ x ∷ []) (sym e) in
    let all : map plain_instance (take (k + 1) is) ≡ map plain_instance (take k is) ++ plain_instance r ∷ [] = ap (map plain_instance) more ∙ map-append plain_instance (take k is) (r ∷ []) in
    subst (λ (js : List Instance). AreLines s js made) (sym all) (subst (AreLines s (map plain_instance (take k is) ++ plain_instance r ∷ [])) (sym m) (lines_snoc s (map plain_instance (take k is)) (plain_instance r) text line h g))

-- each instance names entities
pub known_of : (s : Schema) (is : List RawInstance) (k : ℕ) (r : RawInstance) → AllByRecursion (λ i. AreKnown s i.records) (map plain_instance is) → k < length is → r ≡ get_or is k r → AreKnown s (plain_instance r).records
known_of s [] k r h l e = absurd (omega arith)
known_of s (x ∷ is) zero r h l e = subst (λ (i : RawInstance). AreKnown s (plain_instance i).records) (sym e) h.0
known_of s (x ∷ is) (suc k) r h l e = known_of s is k r h.1 (omega arith) e

-- what holds of a value holds of it in another form
pub map_ok : {T E : Type 0} (r : Result T E) (P Q : T → Type 0) → ((x : T) → P x → Q x) → IfOk r P → IfOk r Q
map_ok (Ok x) P Q f h = f x h
map_ok (Err e) P Q f h = h

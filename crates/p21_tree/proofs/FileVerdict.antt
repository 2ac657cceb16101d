-- Each list of tokens is a file or has a fault.
use Rattle.std.proofs.Common.{◌≡◌, ◌⊎◌, inl, inr, ℕ, suc, ◌≤◌, Bool, true, false, List, [], ◌∷◌, ◌++◌, length, refl, sym, ap, subst, ◌∙◌, append_assoc, append-nil, arith}
use Rattle.std.specs.Str.{bytes_eq}
use Rattle.std.proofs.lemmas.Slice.Eq.{bytes_eq-Decides}
use Rattle.p21_text.specs.Spelling.{Symbol}
use Rattle.p21_text.specs.Spelling as token
use Rattle.p21_text.specs.Tokens.{Placed, IsLast}
use Rattle.p21_text.specs.Tokens as text
use Rattle.p21_tree.specs.Grammar as grammar
use Rattle.p21_tree.specs.Sentence.{IsTail, deepest, header_word, endsec_word, data_word}
use Rattle.p21_tree.specs.Sentence as sentence
use Rattle.p21_tree.specs.Fault.{Begins, IsFault, files, prefaces, pieces, tails}
use Rattle.p21_tree.specs.Languages.{Language, Just, Then, kind_now, stop, again}
use Rattle.p21_tree.specs.Laws.{IsTokenList, FaultOf, HasAnswer}
use Rattle.p21_tree.specs.Laws as law
use Rattle.p21_tree.specs.Parts.{Closed, Is, Terminal, KeyToken, EntityKey, Arguments, Keyed, Records, MoreRecords, SomeRecords, Complex, Form, NameToken, FormOn, EqualsOn, Instances, EntityRecords, Entities, DataOn, EndsecOn, HeaderEnd, HeaderRest, HeaderOn, Headers, IsoOn, Prefaces, EndIsoOn, EndIsos, TailOn, Tails, Bodies, Files, Pieces}
use Rattle.p21_tree.proofs.LanguageLemmas.{Once, stuck_same, why_now}
use Rattle.p21_tree.proofs.Combined.{some_just, grows_just, once_just, is_kind, stuck_is_fault}
use Rattle.p21_tree.proofs.PartLemmas.{some_terminal, some_closed, some_arguments, some_records, some_more, some_form_on, some_equals_on, some_data_on, some_endsec_on, some_header_end, some_header_rest, some_header_on, some_headers, some_iso_on, some_end_iso_on, some_end_isos, some_tail_on, some_tails, some_bodies, grows_terminal, grows_keyed, grows_form, grows_instances, grows_entities, grows_prefaces, starts_terminal, starts_keyed, starts_complex, starts_instances, starts_entities, starts_header_end, starts_tails, once_terminal, once_keyed, once_form, once_instances, once_entities, once_prefaces, key_not}
use Rattle.p21_tree.proofs.Sentences.{file_into, file_back, preface_back, piece_into, piece_back, tail_into, tail_back}
use Rattle.p21_tree.proofs.RecordLemmas.{key_not_last}
use Rattle.p21_tree.proofs.TreeLaws.{empty_back, preface_language}
use Rattle.p21_tree.proofs.DataLemmas.{semi_goes, equals_goes, iso_goes, end_iso_goes, keyword_goes, name_goes, names_apart}
use Rattle.p21_tree.proofs.Avoiding.{Outer, avoids_just, avoids_then, avoids_many, avoids_keyed, avoids_form}
use Rattle.p21_tree.proofs.Verdicts.{AllGo, Goes, Verdict, reads, leaves, begins, Decided, just_verdict, then_verdict, within_verdict, either_verdict, many_verdict, closed_verdict}

-- which tokens go on

pub is_goes : (s : Symbol) → ¬ (IsLast s) → (t : Symbol) → Is s t → ¬ (IsLast t)
is_goes s h t e = subst (λ x. ¬ (IsLast x)) (sym e) h

pub open_goes : ¬ (IsLast token.lparen)
open_goes h = elim h [ ]

pub last_outer : Outer IsLast
last_outer s text.at_end = refl
last_outer s text.at_bad = refl

pub goes_terminal : (s : Symbol) → ¬ (IsLast s) → Goes (Terminal s)
goes_terminal s h = avoids_just IsLast (Is s) (is_goes s h)

pub key_goes : (s : Symbol) → KeyToken s → ¬ (IsLast s)
key_goes s k = key_not_last k.1

pub entity_goes : (s : Symbol) → EntityKey s → ¬ (IsLast s)
entity_goes s k = key_not_last k.0.1

pub goes_keyed : (K : Symbol → Type 0) → ((s : Symbol) → K s → ¬ (IsLast s)) → Goes (Keyed K)
goes_keyed K f = avoids_keyed IsLast last_outer K f

pub goes_form : Goes Form
goes_form = avoids_form IsLast last_outer

pub name_token_goes : (s : Symbol) → NameToken s → ¬ (IsLast s)
name_token_goes s h = is_goes (token.name h.0) (name_goes h.0) s h.1

pub goes_instances : Goes Instances
goes_instances = avoids_then IsLast (Just NameToken) EqualsOn (avoids_just IsLast NameToken name_token_goes) (avoids_then IsLast (Terminal token.equals) FormOn (goes_terminal token.equals equals_goes) (avoids_then IsLast Form (Terminal token.semi) goes_form (goes_terminal token.semi semi_goes)))

pub goes_entities : Goes Entities
goes_entities = avoids_then IsLast EntityRecords (Terminal token.semi) (goes_keyed EntityKey entity_goes) (goes_terminal token.semi semi_goes)

pub goes_header_end : Goes HeaderEnd
goes_header_end = avoids_then IsLast (Terminal (token.keyword endsec_word)) EndsecOn (goes_terminal (token.keyword endsec_word) (keyword_goes endsec_word)) (avoids_then IsLast (Terminal token.semi) DataOn (goes_terminal token.semi semi_goes) (avoids_then IsLast (Terminal (token.keyword data_word)) (Terminal token.semi) (goes_terminal (token.keyword data_word) (keyword_goes data_word)) (goes_terminal token.semi semi_goes)))

pub goes_prefaces : Goes Prefaces
goes_prefaces = avoids_then IsLast (Terminal token.iso) IsoOn (goes_terminal token.iso iso_goes) (avoids_then IsLast (Terminal token.semi) Headers (goes_terminal token.semi semi_goes) (avoids_then IsLast (Terminal (token.keyword header_word)) HeaderOn (goes_terminal (token.keyword header_word) (keyword_goes header_word)) (avoids_then IsLast (Terminal token.semi) HeaderRest (goes_terminal token.semi semi_goes) (λ m ts h. avoids_many IsLast Entities HeaderEnd m ts goes_entities goes_header_end h))))

-- whether a token is of a kind

pub is_iso : Decided (Is token.iso)
is_iso token.iso = inl refl
is_iso _ = inr (λ e. cc)

pub is_end_iso : Decided (Is token.end_iso)
is_end_iso token.end_iso = inl refl
is_end_iso _ = inr (λ e. cc)

pub is_semi : Decided (Is token.semi)
is_semi token.semi = inl refl
is_semi _ = inr (λ e. cc)

pub is_equals : Decided (Is token.equals)
is_equals token.equals = inl refl
is_equals _ = inr (λ e. cc)

pub is_open : Decided (Is token.lparen)
is_open token.lparen = inl refl
is_open _ = inr (λ e. cc)

pub is_close : Decided (Is token.rparen)
is_close token.rparen = inl refl
is_close _ = inr (λ e. cc)

pub is_end : Decided (Is token.end)
is_end token.end = inl refl
is_end _ = inr (λ e. cc)

pub word_by : (w k : List ℕ) (b : Bool) → bytes_eq k w ≡ b → Is (token.keyword w) (token.keyword k) ⊎ (¬ (Is (token.keyword w) (token.keyword k)))
word_by w k true e = inl (ap token.keyword ((bytes_eq-Decides k w).0 e))
word_by w k false e = inr (λ f. let g : k ≡ w = cc in let h : bytes_eq k w ≡ true = (bytes_eq-Decides k w).1 g in let i : false ≡ true = sym e ∙ h in cc)

pub is_word : (w : List ℕ) → Decided (Is (token.keyword w))
is_word w (token.keyword k) = word_by w k (bytes_eq k w) refl
is_word w _ = inr (λ e. cc)

pub is_key : Decided KeyToken
is_key (token.keyword k) = inl (k, grammar.standard)
is_key (token.user_keyword k) = inl (k, grammar.user)
is_key _ = inr (λ h. elim h.1 [ ])

pub is_name : Decided NameToken
is_name (token.name n) = inl (n, refl)
is_name _ = inr (λ h. let e = h.1 in cc)

pub entity_by : (s : Symbol) → KeyToken s ⊎ (¬ (KeyToken s)) → Is (token.keyword endsec_word) s ⊎ (¬ (Is (token.keyword endsec_word) s)) → EntityKey s ⊎ (¬ (EntityKey s))
entity_by s (inl k) (inl e) = inr (λ h. h.1 e)
entity_by s (inl k) (inr e) = inl (k, e)
entity_by s (inr k) e = inr (λ h. k h.0)

pub is_entity : Decided EntityKey
is_entity s = entity_by s (is_key s) (is_word endsec_word s)

-- the parts of a file

pub terminal_verdict : (s : Symbol) (l : ℕ) (ts : List Placed) → Decided (Is s) → Verdict (Terminal s) l ts
terminal_verdict s l ts d = just_verdict (Is s) l ts (some_terminal s l) d

pub arguments_verdict : (l : ℕ) (ts : List Placed) → Verdict Arguments l ts
arguments_verdict l ts = then_verdict (Terminal token.lparen) Closed l ts (some_closed l) (once_terminal token.lparen) (grows_terminal token.lparen) (goes_terminal token.lparen open_goes) (terminal_verdict token.lparen l ts is_open) (λ front rest e p. closed_verdict l rest)

pub keyed_verdict : (K : Symbol → Type 0) (s : Symbol) (l : ℕ) (ts : List Placed) → K s → ((x : Symbol) → K x → ¬ (IsLast x)) → Decided K → Verdict (Keyed K) (suc l) ts
keyed_verdict K s l ts h f d = within_verdict (Then (Just K) Arguments) l ts (then_verdict (Just K) Arguments l ts (some_arguments l) (once_just K) (grows_just K) (avoids_just IsLast K f) (just_verdict K l ts (some_just K l s h) d) (λ front rest e p. arguments_verdict l rest))

pub records_verdict : (l : ℕ) (ts : List Placed) → Verdict Records (suc l) ts
records_verdict l ts = keyed_verdict KeyToken (token.keyword []) l ts ([], grammar.standard) key_goes is_key

pub more_verdict : (l : ℕ) (ts : List Placed) → Verdict MoreRecords (suc l) ts
more_verdict l ts = many_verdict Records (Terminal token.rparen) KeyToken (Is token.rparen) (suc l) (length ts) ts (omega arith) (some_terminal token.rparen (suc l)) (starts_keyed KeyToken) (starts_terminal token.rparen) (λ s e k. key_not k.1 (inl e)) is_key is_close (once_keyed KeyToken) (grows_keyed KeyToken) (goes_keyed KeyToken key_goes) (records_verdict l) (λ us. terminal_verdict token.rparen (suc l) us is_close)

pub some_verdict : (l : ℕ) (ts : List Placed) → Verdict SomeRecords (suc l) ts
some_verdict l ts = then_verdict Records MoreRecords (suc l) ts (some_more (suc l)) (once_keyed KeyToken) (grows_keyed KeyToken) (goes_keyed KeyToken key_goes) (records_verdict l ts) (λ front rest e p. more_verdict l rest)

pub complex_verdict : (l : ℕ) (ts : List Placed) → Verdict Complex (suc (suc l)) ts
complex_verdict l ts = within_verdict (Then (Terminal token.lparen) SomeRecords) (suc l) ts (then_verdict (Terminal token.lparen) SomeRecords (suc l) ts some_some (once_terminal token.lparen) (grows_terminal token.lparen) (goes_terminal token.lparen open_goes) (terminal_verdict token.lparen (suc l) ts is_open) (λ front rest e p. some_verdict l rest))
  where
    some_some : (m : ℕ) → suc l ≤ m → (us : List Placed) × SomeRecords m us
    some_some m h = ((some_records l m h).0 ++ (some_more m m (omega arith)).0, record { front = (some_records l m h).0; back = (some_more m m (omega arith)).0; parts = refl; first = (some_records l m h).1; second = (some_more m m (omega arith)).1 })

pub form_verdict : (ts : List Placed) → Verdict Form 64 ts
form_verdict ts = either_verdict Records Complex KeyToken (Is token.lparen) 64 ts (some_records 63) (starts_keyed KeyToken) starts_complex (λ s k e. key_not k.1 (inr e)) is_key is_open (records_verdict 63 ts) (complex_verdict 62 ts)

pub instances_verdict : (ts : List Placed) → Verdict Instances 64 ts
instances_verdict ts =
    then_verdict (Just NameToken) EqualsOn 64 ts (some_equals_on 63) (once_just NameToken) (grows_just NameToken) (avoids_just IsLast NameToken name_token_goes) (just_verdict NameToken 64 ts (some_just NameToken 64 (token.name 0) (0, refl)) is_name)
    (λ f us e p. then_verdict (Terminal token.equals) FormOn 64 us (some_form_on 63) (once_terminal token.equals) (grows_terminal token.equals) (goes_terminal token.equals equals_goes) (terminal_verdict token.equals 64 us is_equals)
    (λ g vs h q. then_verdict Form (Terminal token.semi) 64 vs (some_terminal token.semi 64) once_form grows_form goes_form (form_verdict vs) (λ i ws j r. terminal_verdict token.semi 64 ws is_semi)))

pub entities_verdict : (ts : List Placed) → Verdict Entities 64 ts
entities_verdict ts = then_verdict EntityRecords (Terminal token.semi) 64 ts (some_terminal token.semi 64) (once_keyed EntityKey) (grows_keyed EntityKey) (goes_keyed EntityKey entity_goes) (keyed_verdict EntityKey (token.keyword []) 63 ts (([], grammar.standard), λ e. cc) entity_goes is_entity) (λ front rest e p. terminal_verdict token.semi 64 rest is_semi)

-- after a token that the grammar names
pub terminal_then : (s : Symbol) (Q : Language) (ts : List Placed) → ((m : ℕ) → 64 ≤ m → (us : List Placed) × Q m us) → ¬ (IsLast s) → Decided (Is s) → ((us : List Placed) → Verdict Q 64 us) → Verdict (Then (Terminal s) Q) 64 ts
terminal_then s Q ts i h d v = then_verdict (Terminal s) Q 64 ts i (once_terminal s) (grows_terminal s) (goes_terminal s h) (terminal_verdict s 64 ts d) (λ front rest e p. v rest)

pub header_end_verdict : (ts : List Placed) → Verdict HeaderEnd 64 ts
header_end_verdict ts =
    terminal_then (token.keyword endsec_word) EndsecOn ts (some_endsec_on 64) (keyword_goes endsec_word) (is_word endsec_word)
    (λ us. terminal_then token.semi DataOn us (some_data_on 64) semi_goes is_semi
    (λ vs. terminal_then (token.keyword data_word) (Terminal token.semi) vs (some_terminal token.semi 64) (keyword_goes data_word) (is_word data_word) (λ ws. terminal_verdict token.semi 64 ws is_semi)))

pub header_verdict : (ts : List Placed) → Verdict HeaderRest 64 ts
header_verdict ts = many_verdict Entities HeaderEnd EntityKey (Is (token.keyword endsec_word)) 64 (length ts) ts (omega arith) (some_header_end 64) starts_entities starts_header_end (λ s e k. k.1 e) is_entity (is_word endsec_word) once_entities grows_entities goes_entities entities_verdict header_end_verdict

pub preface_verdict : (ts : List Placed) → Verdict Prefaces 64 ts
preface_verdict ts =
    terminal_then token.iso IsoOn ts (some_iso_on 64) iso_goes is_iso
    (λ us. terminal_then token.semi Headers us (some_headers 64) semi_goes is_semi
    (λ vs. terminal_then (token.keyword header_word) HeaderOn vs (some_header_on 64) (keyword_goes header_word) (is_word header_word)
    (λ ws. terminal_then token.semi HeaderRest ws (some_header_rest 64) semi_goes is_semi header_verdict)))

pub tail_verdict : (ts : List Placed) → Verdict Tails 64 ts
tail_verdict ts =
    terminal_then (token.keyword endsec_word) TailOn ts (some_tail_on 64) (keyword_goes endsec_word) (is_word endsec_word)
    (λ us. terminal_then token.semi EndIsos us (some_end_isos 64) semi_goes is_semi
    (λ vs. terminal_then token.end_iso EndIsoOn vs (some_end_iso_on 64) end_iso_goes is_end_iso
    (λ ws. terminal_then token.semi (Terminal token.end) ws (some_terminal token.end 64) semi_goes is_semi (λ xs. terminal_verdict token.end 64 xs is_end))))

pub body_verdict : (ts : List Placed) → Verdict Bodies 64 ts
body_verdict ts = many_verdict Instances Tails NameToken (Is (token.keyword endsec_word)) 64 (length ts) ts (omega arith) (some_tails 64) starts_instances starts_tails (λ s e n. names_apart s n e) is_name (is_word endsec_word) once_instances grows_instances goes_instances instances_verdict tail_verdict

pub file_verdict : (ts : List Placed) → Verdict Files 64 ts
file_verdict ts = then_verdict Prefaces Bodies 64 ts (some_bodies 64) once_prefaces grows_prefaces goes_prefaces (preface_verdict ts) (λ front rest e p. body_verdict rest)

-- the end of a list of tokens

pub list_ends : (pre : List Placed) (e : Placed) (rest : List Placed) → IsLast e.token → IsTokenList (pre ++ e ∷ rest) → rest ≡ []
list_ends [] e [] h l = refl
list_ends [] e (t ∷ rest) h l = absurd (goes_first e t rest l h)
  where
    goes_first : (a b : Placed) (us : List Placed) → IsTokenList (a ∷ b ∷ us) → ¬ (IsLast a.token)
    goes_first a b us (law.more n i) = n
list_ends (t ∷ []) e rest h (law.more n i) = list_ends [] e rest h i
list_ends (t ∷ u ∷ pre) e rest h (law.more n i) = list_ends (u ∷ pre) e rest h i

pub no_go : (ts : List Placed) → IsTokenList ts → AllGo ts → ⊥
no_go ts (law.last h) g = g.0 h
no_go ts (law.more n i) g = no_go _ i g.1

-- what a sentence that goes up to the end of the text ends with
pub record Closes (ts : List Placed) : Type 0 where
  pub front : List Placed
  pub end : Placed
  pub parts : ts ≡ front ++ end ∷ []
  pub is_end : end.token ≡ token.end

pub closes_behind : (ts a b : List Placed) → ts ≡ a ++ b → Closes b → Closes ts
closes_behind ts a b e c = record { front = a ++ c.front; end = c.end; parts = e ∙ (ap (λ x. a ++ x) c.parts ∙ sym (append_assoc a c.front (c.end ∷ []))); is_end = c.is_end }

pub tail_closes : (l : ℕ) (ts : List Placed) → Tails l ts → Closes ts
tail_closes l ts h = tail_by (tail_back l ts h)
  where
    tail_by : {x : List Placed} → IsTail x → Closes x
    tail_by (sentence.made endsec s1 end_iso s2 end a b c d e) = record { front = endsec ∷ s1 ∷ end_iso ∷ s2 ∷ []; end = end; parts = refl; is_end = e }

pub body_closes : (l : ℕ) (ts : List Placed) → Bodies l ts → Closes ts
body_closes l ts (stop h) = tail_closes l ts h
body_closes l ts (again front back e p h) = closes_behind ts front back e (body_closes l back h)

pub file_closes : (l : ℕ) (ts : List Placed) → Files l ts → Closes ts
file_closes l ts h = closes_behind ts h.front h.back h.parts (body_closes l h.back h.second)

pub piece_closes : (l : ℕ) (ts : List Placed) → Pieces l ts → Closes ts
piece_closes l ts h = record { front = h.front; end = h.second.token; parts = h.parts ∙ ap (λ x. h.front ++ x) h.second.alone; is_end = h.second.fits }

-- where the language has such sentences alone
module _ (L M : Language) (into : (l : ℕ) (ts : List Placed) → L l ts → M l ts) (back : (l : ℕ) (ts : List Placed) → M l ts → L l ts) (closes : (l : ℕ) (ts : List Placed) → M l ts → Closes ts) where
  pub ends : (front rest : List Placed) → M 64 front → IsTokenList (front ++ rest) → rest ≡ []
  ends front rest h i =
      let c : Closes front = closes 64 front h in
      let e : front ++ rest ≡ c.front ++ c.end ∷ rest = ap (λ x. x ++ rest) c.parts ∙ append_assoc c.front (c.end ∷ []) rest in
      list_ends c.front c.end rest (subst IsLast (sym c.is_end) text.at_end) (subst IsTokenList e i)

  pub answer_by : (ts : List Placed) → IsTokenList ts → Verdict M 64 ts → L deepest ts ⊎ FaultOf L ts
  answer_by ts i (reads front rest e p) =
      let f : rest ≡ [] = ends front rest p (subst IsTokenList e i) in
      inl (subst (λ x. L deepest x) (sym (e ∙ (ap (λ x. front ++ x) f ∙ append-nil front))) (back 64 front p))
  answer_by ts i (leaves b t r k e s) = inr (record { before = b; token = t; behind = r; kind = k; at = t.start; parts = e; is_fault = stuck_is_fault L b t k (stuck_same M L 64 b t k back into s) })
  answer_by ts i (begins g h) = absurd (no_go ts i g)

pub piece_verdict : (ts : List Placed) → Verdict Pieces 64 ts
piece_verdict ts = then_verdict Instances (Terminal token.end) 64 ts (some_terminal token.end 64) once_instances grows_instances goes_instances (instances_verdict ts) (λ front rest e p. terminal_verdict token.end 64 rest is_end)

pub file_answer : HasAnswer files
file_answer ts i = answer_by files Files file_into file_back file_closes ts i (file_verdict ts)

pub piece_answer : HasAnswer pieces
piece_answer ts i = answer_by pieces Pieces piece_into piece_back piece_closes ts i (piece_verdict ts)

pub tail_answer : HasAnswer tails
tail_answer ts i = answer_by tails Tails tail_into tail_back tail_closes ts i (tail_verdict ts)

-- Behind a preface a list of tokens goes on, since no preface ends it.

-- with no token a whole sentence goes on, where none begins another
pub fault_behind : (L M : Language) (front : List Placed) (t : Placed) → ((l : ℕ) (ts : List Placed) → L l ts → M l ts) → Once M → L deepest front → IsFault L front t (kind_now t.token) t.start
fault_behind L M front t into one p = record {
  goes = record { rest = []; sentence = subst (λ x. L deepest x) (sym (append-nil front)) p };
  stops = none deepest;
  is_kind = is_kind L front t (kind_now t.token) (why_now L deepest front t t.token refl none);
  place = refl;
}
  where
    none : (m : ℕ) → ¬ (Begins L m (front ++ t ∷ []))
    none m h =
        let whole : List Placed = (front ++ t ∷ []) ++ h.rest in
        let parts : whole ≡ front ++ t ∷ h.rest = append_assoc front (t ∷ []) h.rest in
        let same : front ≡ whole = one deepest m front whole (t ∷ h.rest) [] (into deepest front p) (into m whole h.sentence) (sym parts ∙ sym (append-nil whole)) in
        let nothing : t ∷ h.rest ≡ [] = empty_back front (t ∷ h.rest) (same ∙ parts) in
        cc

preface_by : (ts : List Placed) → IsTokenList ts → Verdict Prefaces 64 ts → prefaces deepest ts ⊎ FaultOf prefaces ts
preface_by ts i (reads front [] e p) = absurd (no_go ts i (subst AllGo (sym (e ∙ append-nil front)) (goes_prefaces 64 front p)))
preface_by ts i (reads front (t ∷ rest) e p) = inr (record { before = front; token = t; behind = rest; kind = kind_now t.token; at = t.start; parts = e; is_fault = fault_behind prefaces Prefaces front t preface_language once_prefaces (preface_back 64 front p) })
preface_by ts i (leaves b t r k e s) = inr (record { before = b; token = t; behind = r; kind = k; at = t.start; parts = e; is_fault = stuck_is_fault prefaces b t k (stuck_same Prefaces prefaces 64 b t k preface_back preface_language s) })
preface_by ts i (begins g h) = absurd (no_go ts i g)

pub preface_answer : HasAnswer prefaces
preface_answer ts i = preface_by ts i (preface_verdict ts)

-- The parts of a file: their first tokens, and that a list of tokens begins with at most one.
use Rattle.std.proofs.Common.{◌≡◌, ◌⊎◌, inl, inr, ℕ, suc, List, [], ◌∷◌, refl}
use Rattle.p21_text.specs.Spelling.{Symbol}
use Rattle.p21_text.specs.Spelling as token
use Rattle.p21_tree.specs.Tree.{nil}
use Rattle.p21_tree.specs.Grammar.{IsKey}
use Rattle.p21_tree.specs.Grammar as grammar
use Rattle.p21_tree.specs.Sentence.{header_word, endsec_word, data_word}
use Rattle.p21_tree.specs.Languages.{Just, Then}
use Rattle.p21_tree.specs.Parts.{Closed, Is, Terminal, KeyToken, EntityKey, Arguments, Keyed, Records, MoreRecords, SomeRecords, Complex, Form, NameToken, FormOn, EqualsOn, Instances, EntityRecords, Entities, DataOn, EndsecOn, HeaderEnd, HeaderRest, HeaderOn, Headers, IsoOn, Prefaces, EndIsoOn, EndIsos, TailOn, Tails, Bodies}
use Rattle.p21_tree.proofs.LanguageLemmas.{Inhabited, Grows, Once, Starts}
use Rattle.p21_tree.proofs.Combined.{blank, starts_just, starts_then, starts_within, starts_either, starts_many, grows_just, grows_then, grows_either, grows_within, grows_many, some_just, some_then, some_left, some_within, some_stop, once_just, once_then, once_within, once_either, once_many}
use Rattle.p21_tree.proofs.ParamFaults.{grows_closed, once_closed}

-- There are sentences.

pub some_terminal : (s : Symbol) (l : ℕ) → Inhabited (Terminal s) l
some_terminal s l = some_just (Is s) l s refl

pub some_closed : (l : ℕ) → Inhabited Closed l
unfolding blank
some_closed l m e = (blank token.rparen ∷ [], (nil, record { inner = []; parts = refl; params = grammar.empty }))

pub some_arguments : (l : ℕ) → Inhabited Arguments l
some_arguments l = some_then (Terminal token.lparen) Closed l (some_terminal token.lparen l) (some_closed l)

pub some_keyed : (K : Symbol → Type 0) (s : Symbol) (l : ℕ) → K s → Inhabited (Keyed K) (suc l)
some_keyed K s l h = some_within (Then (Just K) Arguments) l (some_then (Just K) Arguments l (some_just K l s h) (some_arguments l))

pub some_records : (l : ℕ) → Inhabited Records (suc l)
some_records l = some_keyed KeyToken (token.keyword []) l ([], grammar.standard)

pub some_more : (l : ℕ) → Inhabited MoreRecords l
some_more l = some_stop Records (Terminal token.rparen) l (some_terminal token.rparen l)

pub some_form : (l : ℕ) → Inhabited Form (suc l)
some_form l = some_left Records Complex (suc l) (some_records l)

pub some_form_on : (l : ℕ) → Inhabited FormOn (suc l)
some_form_on l = some_then Form (Terminal token.semi) (suc l) (some_form l) (some_terminal token.semi (suc l))

pub some_equals_on : (l : ℕ) → Inhabited EqualsOn (suc l)
some_equals_on l = some_then (Terminal token.equals) FormOn (suc l) (some_terminal token.equals (suc l)) (some_form_on l)

pub some_instances : (l : ℕ) → Inhabited Instances (suc l)
some_instances l = some_then (Just NameToken) EqualsOn (suc l) (some_just NameToken (suc l) (token.name 0) (0, refl)) (some_equals_on l)

pub some_data_on : (l : ℕ) → Inhabited DataOn l
some_data_on l = some_then (Terminal (token.keyword data_word)) (Terminal token.semi) l (some_terminal (token.keyword data_word) l) (some_terminal token.semi l)

pub some_endsec_on : (l : ℕ) → Inhabited EndsecOn l
some_endsec_on l = some_then (Terminal token.semi) DataOn l (some_terminal token.semi l) (some_data_on l)

pub some_header_end : (l : ℕ) → Inhabited HeaderEnd l
some_header_end l = some_then (Terminal (token.keyword endsec_word)) EndsecOn l (some_terminal (token.keyword endsec_word) l) (some_endsec_on l)

pub some_header_rest : (l : ℕ) → Inhabited HeaderRest l
some_header_rest l = some_stop Entities HeaderEnd l (some_header_end l)

pub some_header_on : (l : ℕ) → Inhabited HeaderOn l
some_header_on l = some_then (Terminal token.semi) HeaderRest l (some_terminal token.semi l) (some_header_rest l)

pub some_headers : (l : ℕ) → Inhabited Headers l
some_headers l = some_then (Terminal (token.keyword header_word)) HeaderOn l (some_terminal (token.keyword header_word) l) (some_header_on l)

pub some_iso_on : (l : ℕ) → Inhabited IsoOn l
some_iso_on l = some_then (Terminal token.semi) Headers l (some_terminal token.semi l) (some_headers l)

pub some_end_iso_on : (l : ℕ) → Inhabited EndIsoOn l
some_end_iso_on l = some_then (Terminal token.semi) (Terminal token.end) l (some_terminal token.semi l) (some_terminal token.end l)

pub some_end_isos : (l : ℕ) → Inhabited EndIsos l
some_end_isos l = some_then (Terminal token.end_iso) EndIsoOn l (some_terminal token.end_iso l) (some_end_iso_on l)

pub some_tail_on : (l : ℕ) → Inhabited TailOn l
some_tail_on l = some_then (Terminal token.semi) EndIsos l (some_terminal token.semi l) (some_end_isos l)

pub some_tails : (l : ℕ) → Inhabited Tails l
some_tails l = some_then (Terminal (token.keyword endsec_word)) TailOn l (some_terminal (token.keyword endsec_word) l) (some_tail_on l)

pub some_bodies : (l : ℕ) → Inhabited Bodies l
some_bodies l = some_stop Instances Tails l (some_tails l)

-- What is a sentence stays one at a larger limit.

pub grows_terminal : (s : Symbol) → Grows (Terminal s)
grows_terminal s = grows_just (Is s)

pub grows_arguments : Grows Arguments
grows_arguments = grows_then (Terminal token.lparen) Closed (grows_terminal token.lparen) grows_closed

pub grows_keyed : (K : Symbol → Type 0) → Grows (Keyed K)
grows_keyed K = grows_within (Then (Just K) Arguments) (grows_then (Just K) Arguments (grows_just K) grows_arguments)

pub grows_more : Grows MoreRecords
grows_more l m ts e h = grows_many Records (Terminal token.rparen) l m ts (grows_keyed KeyToken) (grows_terminal token.rparen) e h

pub grows_some : Grows SomeRecords
grows_some = grows_then Records MoreRecords (grows_keyed KeyToken) grows_more

pub grows_form : Grows Form
grows_form = grows_either Records Complex (grows_keyed KeyToken) (grows_within (Then (Terminal token.lparen) SomeRecords) (grows_then (Terminal token.lparen) SomeRecords (grows_terminal token.lparen) grows_some))

pub grows_form_on : Grows FormOn
grows_form_on = grows_then Form (Terminal token.semi) grows_form (grows_terminal token.semi)

pub grows_instances : Grows Instances
grows_instances = grows_then (Just NameToken) EqualsOn (grows_just NameToken) (grows_then (Terminal token.equals) FormOn (grows_terminal token.equals) grows_form_on)

pub grows_entities : Grows Entities
grows_entities = grows_then EntityRecords (Terminal token.semi) (grows_keyed EntityKey) (grows_terminal token.semi)

pub grows_header_end : Grows HeaderEnd
grows_header_end = grows_then (Terminal (token.keyword endsec_word)) EndsecOn (grows_terminal (token.keyword endsec_word)) (grows_then (Terminal token.semi) DataOn (grows_terminal token.semi) (grows_then (Terminal (token.keyword data_word)) (Terminal token.semi) (grows_terminal (token.keyword data_word)) (grows_terminal token.semi)))

pub grows_header_rest : Grows HeaderRest
grows_header_rest l m ts e h = grows_many Entities HeaderEnd l m ts grows_entities grows_header_end e h

pub grows_prefaces : Grows Prefaces
grows_prefaces = grows_then (Terminal token.iso) IsoOn (grows_terminal token.iso) (grows_then (Terminal token.semi) Headers (grows_terminal token.semi) (grows_then (Terminal (token.keyword header_word)) HeaderOn (grows_terminal (token.keyword header_word)) (grows_then (Terminal token.semi) HeaderRest (grows_terminal token.semi) grows_header_rest)))

-- Which tokens a sentence starts with.

pub starts_terminal : (s : Symbol) → Starts (Terminal s) (Is s)
starts_terminal s = starts_just (Is s)

pub starts_keyed : (K : Symbol → Type 0) → Starts (Keyed K) K
starts_keyed K = starts_within (Then (Just K) Arguments) K (starts_then (Just K) Arguments K (starts_just K))

pub starts_complex : Starts Complex (Is token.lparen)
starts_complex = starts_within (Then (Terminal token.lparen) SomeRecords) (Is token.lparen) (starts_then (Terminal token.lparen) SomeRecords (Is token.lparen) (starts_terminal token.lparen))

abbrev pub FormToken : Symbol → Type 0
FormToken s = KeyToken s ⊎ Is token.lparen s

pub starts_form : Starts Form FormToken
starts_form = starts_either Records Complex KeyToken (Is token.lparen) (starts_keyed KeyToken) starts_complex

pub starts_instances : Starts Instances NameToken
starts_instances = starts_then (Just NameToken) EqualsOn NameToken (starts_just NameToken)

abbrev pub MoreToken : Symbol → Type 0
MoreToken s = Is token.rparen s ⊎ KeyToken s

pub starts_more : Starts MoreRecords MoreToken
starts_more = starts_many Records (Terminal token.rparen) KeyToken (Is token.rparen) (starts_keyed KeyToken) (starts_terminal token.rparen)

pub starts_entities : Starts Entities EntityKey
starts_entities = starts_then EntityRecords (Terminal token.semi) EntityKey (starts_keyed EntityKey)

pub starts_header_end : Starts HeaderEnd (Is (token.keyword endsec_word))
starts_header_end = starts_then (Terminal (token.keyword endsec_word)) EndsecOn (Is (token.keyword endsec_word)) (starts_terminal (token.keyword endsec_word))

abbrev pub HeaderToken : Symbol → Type 0
HeaderToken s = Is (token.keyword endsec_word) s ⊎ EntityKey s

pub starts_header_rest : Starts HeaderRest HeaderToken
starts_header_rest = starts_many Entities HeaderEnd EntityKey (Is (token.keyword endsec_word)) starts_entities starts_header_end

pub starts_tails : Starts Tails (Is (token.keyword endsec_word))
starts_tails = starts_then (Terminal (token.keyword endsec_word)) TailOn (Is (token.keyword endsec_word)) (starts_terminal (token.keyword endsec_word))

abbrev pub BodyToken : Symbol → Type 0
BodyToken s = Is (token.keyword endsec_word) s ⊎ NameToken s

pub starts_bodies : Starts Bodies BodyToken
starts_bodies = starts_many Instances Tails NameToken (Is (token.keyword endsec_word)) starts_instances starts_tails

-- A list of tokens begins with at most one sentence.

pub once_terminal : (s : Symbol) → Once (Terminal s)
once_terminal s = once_just (Is s)

pub once_keyed : (K : Symbol → Type 0) → Once (Keyed K)
once_keyed K = once_within (Then (Just K) Arguments) (once_then (Just K) Arguments (once_just K) (once_then (Terminal token.lparen) Closed (once_terminal token.lparen) once_closed))

pub key_not : {s : Symbol} {k : List ℕ} → IsKey s k → s ≡ token.rparen ⊎ s ≡ token.lparen → ⊥
key_not grammar.standard h = elim h [ inl e ↦ (cc) | inr e ↦ (cc) ]
key_not grammar.user h = elim h [ inl e ↦ (cc) | inr e ↦ (cc) ]

pub once_more : Once MoreRecords
once_more l m a c x y p q e = once_many Records (Terminal token.rparen) KeyToken (Is token.rparen) l m a c x y (starts_keyed KeyToken) (starts_terminal token.rparen) (λ s k h. key_not k.1 (inl h)) (once_keyed KeyToken) (once_terminal token.rparen) p q e

pub once_complex : Once Complex
once_complex = once_within (Then (Terminal token.lparen) SomeRecords) (once_then (Terminal token.lparen) SomeRecords (once_terminal token.lparen) (once_then Records MoreRecords (once_keyed KeyToken) once_more))

pub once_form : Once Form
once_form = once_either Records Complex KeyToken (Is token.lparen) (starts_keyed KeyToken) starts_complex (λ s k h. key_not k.1 (inr h)) (once_keyed KeyToken) once_complex

pub once_instances : Once Instances
once_instances = once_then (Just NameToken) EqualsOn (once_just NameToken) (once_then (Terminal token.equals) FormOn (once_terminal token.equals) (once_then Form (Terminal token.semi) once_form (once_terminal token.semi)))

pub once_entities : Once Entities
once_entities = once_then EntityRecords (Terminal token.semi) (once_keyed EntityKey) (once_terminal token.semi)

pub once_header_end : Once HeaderEnd
once_header_end = once_then (Terminal (token.keyword endsec_word)) EndsecOn (once_terminal (token.keyword endsec_word)) (once_then (Terminal token.semi) DataOn (once_terminal token.semi) (once_then (Terminal (token.keyword data_word)) (Terminal token.semi) (once_terminal (token.keyword data_word)) (once_terminal token.semi)))

pub once_header_rest : Once HeaderRest
once_header_rest l m a c x y p q e = once_many Entities HeaderEnd EntityKey (Is (token.keyword endsec_word)) l m a c x y starts_entities starts_header_end (λ s k h. k.1 h) once_entities once_header_end p q e

pub once_prefaces : Once Prefaces
once_prefaces = once_then (Terminal token.iso) IsoOn (once_terminal token.iso) (once_then (Terminal token.semi) Headers (once_terminal token.semi) (once_then (Terminal (token.keyword header_word)) HeaderOn (once_terminal (token.keyword header_word)) (once_then (Terminal token.semi) HeaderRest (once_terminal token.semi) once_header_rest)))

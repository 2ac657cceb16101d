-- Reading the data section.
use Rattle.std.proofs.Common.{◌≡◌, ◌≢◌, inl, inr, ℕ, ◌+◌, Bool, List, [], ◌∷◌, ◌++◌, map, refl, sym, ap, subst, ◌∙◌, append_assoc, append-nil}
use Rattle.p21_text.specs.Spelling.{Symbol, symbol}
use Rattle.p21_text.specs.Spelling as token
use Rattle.p21_text.specs.declared.token.Token.{Token}
use Rattle.p21_text.specs.declared.token.Token.TheVariants as variants
use Rattle.p21_text.specs.Tokens.{Placed, First, Tokens, TokensUpTo, IsLast, symbols}
use Rattle.p21_text.specs.Tokens as text
use Rattle.p21_tree.specs.declared.source.Source.{Source}
use Rattle.p21_tree.specs.declared.faults.Fault.{Fault}
use Rattle.p21_tree.specs.declared.instances.RawInstance.{RawInstance}
use Rattle.p21_tree.specs.Grammar.{Entry}
use Rattle.p21_tree.specs.Sentence.{Instance, IsInstance, IsInstances, IsTail, deepest, endsec_word}
use Rattle.p21_tree.specs.Sentence as sentence
use Rattle.p21_tree.specs.Views.{plain_instance}
use Rattle.p21_tree.specs.Texts.{shift, shifted, fault_kind}
use Rattle.p21_tree.specs.Languages.{Just, Then, kind_now}
use Rattle.p21_tree.specs.Parts.{Is, Terminal, Form, IsFormOf, NameToken, FormOn, EqualsOn, Instances, IsBehindName, EndIsoOn, EndIsos, TailOn, Tails, IsBehindEndsec, Bodies, IsBody}
use Rattle.p21_tree.specs.Progress.{Chain, Covers, Finishes, Fails}
use Rattle.p21_tree.proofs.LanguageLemmas.{stuck_second, stuck_now}
use Rattle.p21_tree.proofs.Combined.{grows_just, once_just, Apart}
use Rattle.p21_tree.proofs.PartLemmas.{BodyToken, some_terminal, some_bodies, some_tails, some_end_iso_on, starts_instances, starts_tails, starts_bodies, once_form, once_instances, grows_form, grows_instances}
use Rattle.p21_tree.proofs.Sentences.{instance_into}
use Rattle.p21_tree.proofs.ProgressLemmas.{chain_one, chain_then, shifted_append, fails_behind, fails_now, fails_first, fails_second, fails_after, stuck_item, stuck_stop, fails_again}

-- tokens that are not the last

pub not_last : (s w : Symbol) → s ≡ w → ¬ (IsLast w) → ¬ (IsLast s)
not_last s w e h l = h (subst IsLast e l)

pub semi_goes : ¬ (IsLast token.semi)
semi_goes h = elim h [ ]

pub equals_goes : ¬ (IsLast token.equals)
equals_goes h = elim h [ ]

pub end_iso_goes : ¬ (IsLast token.end_iso)
end_iso_goes h = elim h [ ]

pub iso_goes : ¬ (IsLast token.iso)
iso_goes h = elim h [ ]

pub keyword_goes : (k : List ℕ) → ¬ (IsLast (token.keyword k))
keyword_goes k h = elim h [ ]

pub name_goes : (n : ℕ) → ¬ (IsLast (token.name n))
name_goes n h = elim h [ ]

-- after one token that was wanted
pub after_terminal : (w : Symbol) (Q : ℕ → List Placed → Type 0) (l : ℕ) (s : Source) (at : ℕ) (t : Placed) (f : Fault) → ¬ (IsLast w) → First s.text.now at t → t.token ≡ w → Fails Q l s t.after f → Fails (Then (Terminal w) Q) l s at f
after_terminal w Q l s at t f g n e h = fails_after (Is w) Q l s at t f n (not_last t.token w e g) e h

pub chain_terminal : (w : Symbol) (s : Source) (at : ℕ) (t : Placed) → ¬ (IsLast w) → First s.text.now at t → t.token ≡ w → Chain s at (shift s.base t ∷ []) t.after
chain_terminal w s at t g n e = chain_one s at t n (not_last t.token w e g)

-- an instance after its name

module _ (s : Source) (at : ℕ) (equals : Placed) (first : First s.text.now at equals) (is_equals : equals.token ≡ token.equals) where
  pub fails_form : (f : Fault) → Fails Form 64 s equals.after f → Fails EqualsOn 64 s at f
  fails_form f h = after_terminal token.equals FormOn 64 s at equals f equals_goes first is_equals (fails_first Form (Terminal token.semi) 64 s equals.after f (some_terminal token.semi 64) h)

  pub fails_semi : (mid : ℕ) (complex : Bool) (rs : List Entry) (f : Fault) → Covers (λ ts. IsFormOf 64 ts complex rs) s equals.after mid → Fails (Terminal token.semi) 64 s mid f → Fails EqualsOn 64 s at f
  fails_semi mid complex rs f c h = after_terminal token.equals FormOn 64 s at equals f equals_goes first is_equals (fails_second Form (Terminal token.semi) 64 s equals.after mid c.tokens f once_form grows_form c.chain c.are.form h)

  pub covers_instance : (mid name place : ℕ) (complex : Bool) (rs : List Entry) (semi : Placed) → Covers (λ ts. IsFormOf 64 ts complex rs) s equals.after mid → First s.text.now mid semi → semi.token ≡ token.semi → Covers (IsBehindName name place (record { name = name; at = place; complex = complex; records = rs })) s at semi.after
  covers_instance mid name place complex rs semi c n e = record {
    tokens = shift s.base equals ∷ (c.tokens ++ shift s.base semi ∷ []);
    chain = chain_then s at equals.after semi.after (shift s.base equals ∷ []) (c.tokens ++ shift s.base semi ∷ []) (chain_terminal token.equals s at equals equals_goes first is_equals) (chain_then s equals.after mid semi.after c.tokens (shift s.base semi ∷ []) c.chain (chain_terminal token.semi s mid semi semi_goes n e));
    are = λ t h p. subst (λ x. IsInstance deepest (t ∷ shift s.base equals ∷ (c.tokens ++ shift s.base semi ∷ [])) (record { name = name; at = x; complex = complex; records = rs })) p (c.are.makes t (shift s.base equals) (shift s.base semi) name h is_equals e);
  }

-- one of several instances

module _ (s : Source) (at name : ℕ) (t : Placed) (first : First s.text.now at t) (is_name : t.token ≡ token.name name) where
  pub name_chain : Chain s at (shift s.base t ∷ []) t.after
  name_chain = chain_terminal (token.name name) s at t (name_goes name) first is_name

  pub fails_instance : (f : Fault) → Fails EqualsOn 64 s t.after f → Fails Instances 64 s at f
  fails_instance f h = fails_after NameToken EqualsOn 64 s at t f first (not_last t.token (token.name name) is_name (name_goes name)) (name, is_name) h

  pub fails_one_instance : (f : Fault) → Fails EqualsOn 64 s t.after f → Fails Bodies 64 s at f
  fails_one_instance f h = fails_behind EqualsOn Bodies 64 64 s at t.after (shift s.base t ∷ []) f name_chain (λ b u j r. stuck_item Instances Tails (Is (token.keyword endsec_word)) 64 (shift s.base t) b u j (some_tails 64) starts_tails (λ e. let g : token.name name ≡ token.keyword endsec_word = sym is_name ∙ e in cc) (stuck_second (Just NameToken) EqualsOn 64 (shift s.base t ∷ []) b u j (once_just NameToken) (grows_just NameToken) (record { token = shift s.base t; alone = refl; fits = (name, is_name) }) r)) h

  pub covers_named : (end : ℕ) (i : Instance) → Covers (IsBehindName name (s.base + t.start) i) s t.after end → Covers (λ ts. IsInstance deepest ts i) s at end
  covers_named end i c = record {
    tokens = shift s.base t ∷ c.tokens;
    chain = chain_then s at t.after end (shift s.base t ∷ []) c.tokens name_chain c.chain;
    are = c.are (shift s.base t) is_name refl;
  }

pub is_name : (t : Token) (n : ℕ) → symbol t ≡ token.name n → t ≡ variants.Name n
is_name (variants.Name m) n e = let f : m ≡ n = cc in ap variants.Name f
is_name _ n e = absurd (cc)

pub names_apart : Apart NameToken (Is (token.keyword endsec_word))
names_apart s h e = let g : token.name h.0 ≡ token.keyword endsec_word = sym h.1 ∙ e in cc

pub faults_next : (s : Source) (at mid : ℕ) (i : Instance) (f : Fault) → Covers (λ ts. IsInstance deepest ts i) s at mid → Fails Bodies 64 s mid f → Fails Bodies 64 s at f
faults_next s at mid i f c h = fails_again Instances Tails NameToken (Is (token.keyword endsec_word)) 64 s at mid c.tokens f starts_instances starts_tails names_apart once_instances grows_instances c.chain (instance_into 64 c.tokens i c.are) h

pub instances_append : (ts us : List Placed) (is : List Instance) (i : Instance) → IsInstances deepest ts is → IsInstance deepest us i → IsInstances deepest (ts ++ us) (is ++ i ∷ [])
instances_append ts us is i sentence.none h = subst (λ x. IsInstances deepest x (i ∷ [])) (append-nil us) (sentence.more us h sentence.none)
instances_append ts us is i (sentence.more vs {rest} {is = others} r rs) h = subst (λ x. IsInstances deepest x (is ++ i ∷ [])) (sym (append_assoc vs rest us)) (sentence.more vs r (instances_append rest us others i rs h))

pub map_append : (is : List RawInstance) (i : RawInstance) → map plain_instance (is ++ i ∷ []) ≡ map plain_instance is ++ plain_instance i ∷ []
map_append [] i = refl
map_append (j ∷ is) i = ap (λ x. plain_instance j ∷ x) (map_append is i)

pub covers_none : (s : Source) (at : ℕ) (is : List RawInstance) → is ≡ [] → Covers (λ ts. IsInstances deepest ts (map plain_instance is)) s at at
covers_none s at is e = record { tokens = []; chain = record { tokens = []; are = text.none; in_file = refl }; are = subst (λ x. IsInstances deepest [] x) (sym (ap (map plain_instance) e)) sentence.none }

pub covers_next : (s : Source) (at mid end : ℕ) (is new : List RawInstance) (i : RawInstance) → new ≡ is ++ i ∷ [] → Covers (λ ts. IsInstances deepest ts (map plain_instance is)) s at mid → Covers (λ ts. IsInstance deepest ts (plain_instance i)) s mid end → Covers (λ ts. IsInstances deepest ts (map plain_instance new)) s at end
covers_next s at mid end is new i e c d = record {
  tokens = c.tokens ++ d.tokens;
  chain = chain_then s at mid end c.tokens d.tokens c.chain d.chain;
  are = subst (λ x. IsInstances deepest (c.tokens ++ d.tokens) x) (sym (ap (map plain_instance) e ∙ map_append is i)) (instances_append c.tokens d.tokens (map plain_instance is) (plain_instance i) c.are d.are);
}

-- the tail

pub tokens_behind : {bytes : List ℕ} {at mid : ℕ} {a b : List Placed} → TokensUpTo bytes at a mid → Tokens bytes mid b → Tokens bytes at (a ++ b)
tokens_behind text.none h = h
tokens_behind (text.more f n r) h = text.more f n (tokens_behind r h)

pub finishes_behind : (s : Source) (at mid : ℕ) (a : List Placed) (P Q : List Placed → Type 0) → Chain s at a mid → ((b : List Placed) → P b → Q (a ++ b)) → Finishes P s mid → Finishes Q s at
finishes_behind s at mid a P Q c g h = record {
  tokens = a ++ h.tokens;
  raw = c.tokens ++ h.raw;
  whole = tokens_behind c.are h.whole;
  in_file = ap (λ x. x ++ h.tokens) c.in_file ∙ (ap (λ x. shifted s.base c.tokens ++ x) h.in_file ∙ sym (shifted_append s.base c.tokens h.raw));
  are = g h.tokens h.are;
}

pub end_is_last : (s : Symbol) → s ≡ token.end → IsLast s
end_is_last s e = subst IsLast (sym e) text.at_end

pub finishes_end : (s : Source) (at : ℕ) (t : Placed) → First s.text.now at t → t.token ≡ token.end → Finishes (λ ts. ts ≡ shift s.base t ∷ []) s at
finishes_end s at t n e = record { tokens = shift s.base t ∷ []; raw = t ∷ []; whole = text.last n (end_is_last t.token e); in_file = refl; are = refl }

module _ (s : Source) (at : ℕ) (semi end_iso last end : Placed) (n1 : First s.text.now at semi) (e1 : semi.token ≡ token.semi) where
  pub tail_end_iso : (l : ℕ) (f : Fault) → Fails (Terminal token.end_iso) l s semi.after f → Fails TailOn l s at f
  tail_end_iso l f h = after_terminal token.semi EndIsos l s at semi f semi_goes n1 e1 (fails_first (Terminal token.end_iso) EndIsoOn l s semi.after f (some_end_iso_on l) h)

  pub tail_last : (l : ℕ) (f : Fault) → First s.text.now semi.after end_iso → end_iso.token ≡ token.end_iso → Fails (Terminal token.semi) l s end_iso.after f → Fails TailOn l s at f
  tail_last l f n2 e2 h = after_terminal token.semi EndIsos l s at semi f semi_goes n1 e1 (after_terminal token.end_iso EndIsoOn l s semi.after end_iso f end_iso_goes n2 e2 (fails_first (Terminal token.semi) (Terminal token.end) l s end_iso.after f (some_terminal token.end l) h))

  pub tail_end : (l : ℕ) (f : Fault) → First s.text.now semi.after end_iso → end_iso.token ≡ token.end_iso → First s.text.now end_iso.after last → last.token ≡ token.semi → Fails (Terminal token.end) l s last.after f → Fails TailOn l s at f
  tail_end l f n2 e2 n3 e3 h = after_terminal token.semi EndIsos l s at semi f semi_goes n1 e1 (after_terminal token.end_iso EndIsoOn l s semi.after end_iso f end_iso_goes n2 e2 (after_terminal token.semi (Terminal token.end) l s end_iso.after last f semi_goes n3 e3 h))

  pub tail_whole : First s.text.now semi.after end_iso → end_iso.token ≡ token.end_iso → First s.text.now end_iso.after last → last.token ≡ token.semi → First s.text.now last.after end → end.token ≡ token.end → Finishes IsBehindEndsec s at
  tail_whole n2 e2 n3 e3 n4 e4 =
      finishes_behind s at last.after (shift s.base semi ∷ shift s.base end_iso ∷ shift s.base last ∷ []) (λ ts. ts ≡ shift s.base end ∷ []) IsBehindEndsec
      (chain_then s at semi.after last.after (shift s.base semi ∷ []) (shift s.base end_iso ∷ shift s.base last ∷ []) (chain_terminal token.semi s at semi semi_goes n1 e1)
      (chain_then s semi.after end_iso.after last.after (shift s.base end_iso ∷ []) (shift s.base last ∷ []) (chain_terminal token.end_iso s semi.after end_iso end_iso_goes n2 e2) (chain_terminal token.semi s end_iso.after last semi_goes n3 e3)))
      (λ b p t h. subst (λ x. IsTail (t ∷ shift s.base semi ∷ shift s.base end_iso ∷ shift s.base last ∷ x)) (sym p) (sentence.made t (shift s.base semi) (shift s.base end_iso) (shift s.base last) (shift s.base end) h e1 e2 e3 e4))
      (finishes_end s last.after end n4 e4)

-- from the token that is no name

pub finishes_tail : (s : Source) (at : ℕ) (t : Placed) → First s.text.now at t → t.token ≡ token.keyword endsec_word → Finishes IsBehindEndsec s t.after → Finishes IsTail s at
finishes_tail s at t n e h = finishes_behind s at t.after (shift s.base t ∷ []) IsBehindEndsec IsTail (chain_terminal (token.keyword endsec_word) s at t (keyword_goes endsec_word) n e) (λ b p. p (shift s.base t) e) h

pub fails_tail : (s : Source) (at : ℕ) (t : Placed) (f : Fault) → First s.text.now at t → t.token ≡ token.keyword endsec_word → Fails TailOn 64 s t.after f → Fails Bodies 64 s at f
fails_tail s at t f n e h = fails_behind TailOn Bodies 64 64 s at t.after (shift s.base t ∷ []) f (chain_terminal (token.keyword endsec_word) s at t (keyword_goes endsec_word) n e) (λ b u j r. stuck_stop Instances Tails NameToken 64 (shift s.base t) b u j starts_instances (λ m. names_apart t.token m e) (stuck_second (Terminal (token.keyword endsec_word)) TailOn 64 (shift s.base t ∷ []) b u j (once_just (Is (token.keyword endsec_word))) (grows_just (Is (token.keyword endsec_word))) (record { token = shift s.base t; alone = refl; fits = e }) r)) h

pub fails_no_body : (s : Source) (at : ℕ) (t : Placed) (f : Fault) → First s.text.now at t → t.token ≢ token.keyword endsec_word → ((n : ℕ) → t.token ≢ token.name n) → f.at ≡ s.base + t.start → f.kind ≡ fault_kind (kind_now t.token) → Fails Bodies 64 s at f
fails_no_body s at t f n h g p k = fails_now Bodies 64 s at t f n (stuck_now Bodies BodyToken 64 (shift s.base t) (some_bodies 64) starts_bodies (λ m. elim m [ inl e ↦ h e | inr e ↦ g e.0 e.1 ])) p k

-- instances and the tail
pub finishes_body : (s : Source) (at mid : ℕ) (is : List RawInstance) → Covers (λ ts. IsInstances deepest ts (map plain_instance is)) s at mid → Finishes IsTail s mid → Finishes (λ ts. IsBody ts (map plain_instance is)) s at
finishes_body s at mid is c h = finishes_behind s at mid c.tokens IsTail (λ ts. IsBody ts (map plain_instance is)) c.chain (λ b t. record { body = c.tokens; rest = b; parts = refl; are_instances = c.are; is_tail = t }) h

-- Reading records.
use Rattle.std.proofs.Common.{◌≡◌, ◌≢◌, inl, inr, ℕ, suc, ◌+◌, Some, None, true, false, List, [], ◌∷◌, ◌++◌, map, refl, sym, ap, subst, ◌∙◌, append_assoc}
use Rattle.p21_text.specs.Spelling.{Symbol, symbol}
use Rattle.p21_text.specs.declared.token.Token.{Token}
use Rattle.p21_text.specs.declared.token.Token.TheVariants as variants
use Rattle.p21_text.specs.Spelling as token
use Rattle.p21_text.specs.Tokens.{Placed, First, IsLast, symbols}
use Rattle.p21_text.specs.Tokens as text
use Rattle.p21_tree.specs.declared.source.Source.{Source}
use Rattle.p21_tree.specs.declared.faults.Fault.{Fault}
use Rattle.p21_tree.specs.declared.instances.Record.{Record}
use Rattle.p21_tree.specs.Tree.{Trees}
use Rattle.p21_tree.specs.Grammar.{Entry, IsKey, IsRecord}
use Rattle.p21_tree.specs.Grammar as grammar
use Rattle.p21_tree.specs.Sentence.{IsRecords, IsInstance}
use Rattle.p21_tree.specs.Sentence as sentence
use Rattle.p21_tree.specs.Views.{plain_record}
use Rattle.p21_tree.specs.Fault.{Kind}
use Rattle.p21_tree.specs.Texts.{shift, fault_kind}
use Rattle.p21_tree.specs.Languages.{Just, Then, Stuck, kind_now}
use Rattle.p21_tree.specs.Parts.{Is, Terminal, KeyToken, IsArguments, Arguments, IsKeyed, Records, MoreRecords, SomeRecords, IsSomeRecords, Complex, Form, IsForm, IsFormOf}
use Rattle.p21_tree.specs.Progress.{Covers, Fails}
use Rattle.p21_tree.specs.Keywords.{keyword_in}
use Rattle.p21_tree.proofs.LanguageLemmas.{stuck_second, stuck_within, stuck_now}
use Rattle.p21_tree.proofs.Combined.{stuck_left, stuck_right, grows_just, once_just}
use Rattle.p21_tree.proofs.PartLemmas.{some_records, some_more, some_form, some_terminal, starts_keyed, starts_complex, starts_more, starts_form, starts_terminal, once_keyed, grows_keyed, key_not, FormToken, MoreToken}
use Rattle.p21_tree.proofs.Sentences.{terminal, more_into, record_made, record_into}
use Rattle.p21_tree.proofs.ProgressLemmas.{chain_one, chain_then, fails_behind, fails_now, fails_second, fails_after, fails_within, stuck_item, fails_again}

-- the keyword

pub keyword_is : (s : Symbol) (k : List ℕ) → keyword_in s ≡ Some k → IsKey s k
keyword_is (token.keyword j) k e = let f : j ≡ k = cc in subst (λ x. IsKey (token.keyword j) x) f grammar.standard
keyword_is (token.user_keyword j) k e = let f : j ≡ k = cc in subst (λ x. IsKey (token.user_keyword j) x) f grammar.user
keyword_is _ k e = absurd (cc)

pub key_keyword : {s : Symbol} {k : List ℕ} → IsKey s k → keyword_in s ≡ Some k
key_keyword grammar.standard = refl
key_keyword grammar.user = refl

pub no_keyword : (s : Symbol) → keyword_in s ≡ None → ¬ (KeyToken s)
no_keyword s e h = let f : None ≡ Some h.0 = sym e ∙ key_keyword h.1 in cc

pub key_not_last : {s : Symbol} {k : List ℕ} → IsKey s k → ¬ (IsLast s)
key_not_last grammar.standard h = elim h [ ]
key_not_last grammar.user h = elim h [ ]

-- the tokens that the code asks for by name

pub is_close : (t : Token) → symbol t ≡ token.rparen → t ≡ variants.RParen
is_close variants.RParen e = refl
is_close _ e = absurd (cc)

pub is_open : (t : Token) → symbol t ≡ token.lparen → t ≡ variants.LParen
is_open variants.LParen e = refl
is_open _ e = absurd (cc)

-- a record after its keyword

pub keyed_arguments : (s : Source) (at end left : ℕ) (k : List ℕ) (found : Trees) → Covers (λ ts. IsArguments left ts found) s at end → Covers (IsKeyed left k (record { keyword = k; params = found })) s at end
keyed_arguments s at end left k found c = record {
  tokens = c.tokens;
  chain = c.chain;
  are = λ t h. subst (λ x. IsRecord (suc left) (symbols (t ∷ x)) (record { keyword = k; params = found })) (sym c.are.parts) (record_made left t c.are.open_ k c.are.rest found h c.are.is_open c.are.closed);
}

module _ (s : Source) (at left : ℕ) (t : Placed) (k : List ℕ) (first : First s.text.now at t) (key : IsKey t.token k) where
  pub covers_record : (end : ℕ) (e : Entry) → Covers (IsKeyed left k e) s t.after end → Covers (λ ts. IsRecord (suc left) (symbols ts) e) s at end
  covers_record end e c = record {
    tokens = shift s.base t ∷ c.tokens;
    chain = chain_then s at t.after end (shift s.base t ∷ []) c.tokens (chain_one s at t first (key_not_last key)) c.chain;
    are = c.are (shift s.base t) key;
  }

  pub fails_record : (f : Fault) → Fails Arguments left s t.after f → Fails Records (suc left) s at f
  fails_record f h = fails_within (Then (Just KeyToken) Arguments) left s at f (fails_after KeyToken Arguments left s at t f first (key_not_last key) (k, key) h)

  pub stuck_record : (b : List Placed) (u : Placed) (j : Kind) → Stuck Arguments left b u j → Stuck Records (suc left) (shift s.base t ∷ b) u j
  stuck_record b u j h = stuck_within (Then (Just KeyToken) Arguments) left (shift s.base t ∷ b) u j (stuck_second (Just KeyToken) Arguments left (shift s.base t ∷ []) b u j (once_just KeyToken) (grows_just KeyToken) (record { token = shift s.base t; alone = refl; fits = (k, key) }) h)

  -- as one of several
  pub fails_one : (f : Fault) → Fails Arguments left s t.after f → Fails MoreRecords (suc left) s at f
  fails_one f h = fails_behind Arguments MoreRecords left (suc left) s at t.after (shift s.base t ∷ []) f (chain_one s at t first (key_not_last key)) (λ b u j r. stuck_item Records (Terminal token.rparen) (Is token.rparen) (suc left) (shift s.base t) b u j (some_terminal token.rparen (suc left)) (starts_terminal token.rparen) (λ e. key_not key (inl e)) (stuck_record b u j r)) h

  -- as the whole form of an instance
  pub fails_simple : (f : Fault) → Fails Arguments left s t.after f → Fails Form (suc left) s at f
  fails_simple f h = fails_behind Arguments Form left (suc left) s at t.after (shift s.base t ∷ []) f (chain_one s at t first (key_not_last key)) (λ b u j r. stuck_left Records Complex (Is token.lparen) (suc left) (shift s.base t) b u j starts_complex (λ e. key_not key (inr e)) (stuck_record b u j r)) h

-- where no record begins
pub fails_no_record : (s : Source) (at l : ℕ) (t : Placed) (f : Fault) → First s.text.now at t → ¬ (KeyToken t.token) → f.at ≡ s.base + t.start → f.kind ≡ fault_kind (kind_now t.token) → Fails Records (suc l) s at f
fails_no_record s at l t f n h p k = fails_now Records (suc l) s at t f n (stuck_now Records KeyToken (suc l) (shift s.base t) (some_records l) (starts_keyed KeyToken) h) p k

-- several records

pub covers_first : (s : Source) (at end l : ℕ) (r : Record) (rs : List Record) → rs ≡ r ∷ [] → Covers (λ ts. IsRecord l (symbols ts) (plain_record r)) s at end → Covers (λ ts. IsRecords l ts (map plain_record rs)) s at end
covers_first s at end l r rs e c = record { tokens = c.tokens; chain = c.chain; are = subst (λ x. IsRecords l c.tokens x) (sym (ap (map plain_record) e)) (sentence.one c.tokens c.are) }

pub records_append : (l : ℕ) (ts us : List Placed) (rs : List Entry) (e : Entry) → IsRecords l ts rs → IsRecord l (symbols us) e → IsRecords l (ts ++ us) (rs ++ e ∷ [])
records_append l ts us rs e (sentence.one vs r) h = sentence.more vs r (sentence.one us h)
records_append l ts us rs e (sentence.more vs {rest} {rs = others} r is) h = subst (λ x. IsRecords l x (rs ++ e ∷ [])) (sym (append_assoc vs rest us)) (sentence.more vs r (records_append l rest us others e is h))

pub map_append : (rs : List Record) (r : Record) → map plain_record (rs ++ r ∷ []) ≡ map plain_record rs ++ plain_record r ∷ []
map_append [] r = refl
map_append (q ∷ rs) r = ap (λ x. plain_record q ∷ x) (map_append rs r)

pub covers_more : (s : Source) (at mid end l : ℕ) (rs new : List Record) (r : Record) → new ≡ rs ++ r ∷ [] → Covers (λ ts. IsRecords l ts (map plain_record rs)) s at mid → Covers (λ ts. IsRecord l (symbols ts) (plain_record r)) s mid end → Covers (λ ts. IsRecords l ts (map plain_record new)) s at end
covers_more s at mid end l rs new r e c d = record {
  tokens = c.tokens ++ d.tokens;
  chain = chain_then s at mid end c.tokens d.tokens c.chain d.chain;
  are = subst (λ x. IsRecords l (c.tokens ++ d.tokens) x) (sym (ap (map plain_record) e ∙ map_append rs r)) (records_append l c.tokens d.tokens (map plain_record rs) (plain_record r) c.are d.are);
}

pub close_not_last : (t : Symbol) → t ≡ token.rparen → ¬ (IsLast t)
close_not_last t e text.at_end = cc
close_not_last t e text.at_bad = cc

pub covers_closed_records : (s : Source) (at place l : ℕ) (t : Placed) (rs : List Entry) → Covers (λ ts. IsRecords l ts rs) s at place → First s.text.now place t → t.token ≡ token.rparen → Covers (λ ts. IsSomeRecords l ts rs) s at t.after
covers_closed_records s at place l t rs c n e = record {
  tokens = c.tokens ++ shift s.base t ∷ [];
  chain = chain_then s at place t.after c.tokens (shift s.base t ∷ []) c.chain (chain_one s place t n (close_not_last t.token e));
  are = record { body = c.tokens; close = shift s.base t; parts = refl; is_close = e; are_records = c.are };
}

-- the faults after the records so far are faults of all
pub faults_start : (s : Source) (at mid l : ℕ) (e : Entry) (f : Fault) → Covers (λ ts. IsRecord l (symbols ts) e) s at mid → Fails MoreRecords l s mid f → Fails SomeRecords l s at f
faults_start s at mid l e f c h = fails_second Records MoreRecords l s at mid c.tokens f (once_keyed KeyToken) (grows_keyed KeyToken) c.chain (record_into l c.tokens e c.are) h

pub faults_go_on : (s : Source) (at mid l : ℕ) (e : Entry) (f : Fault) → Covers (λ ts. IsRecord l (symbols ts) e) s at mid → Fails MoreRecords l s mid f → Fails MoreRecords l s at f
faults_go_on s at mid l e f c h = fails_again Records (Terminal token.rparen) KeyToken (Is token.rparen) l s at mid c.tokens f (starts_keyed KeyToken) (starts_terminal token.rparen) (λ x k r. key_not k.1 (inl r)) (once_keyed KeyToken) (grows_keyed KeyToken) c.chain (record_into l c.tokens e c.are) h

pub fails_no_more : (s : Source) (at l : ℕ) (t : Placed) (f : Fault) → First s.text.now at t → ¬ (KeyToken t.token) → t.token ≢ token.rparen → f.at ≡ s.base + t.start → f.kind ≡ fault_kind (kind_now t.token) → Fails MoreRecords l s at f
fails_no_more s at l t f n h r p k = fails_now MoreRecords l s at t f n (stuck_now MoreRecords MoreToken l (shift s.base t) (some_more l) starts_more (λ m. elim m [ inl e ↦ r e | inr e ↦ h e ])) p k

-- the form of an instance

pub covers_simple : (s : Source) (at end l : ℕ) (r : Record) (rs : List Record) → rs ≡ r ∷ [] → Covers (λ ts. IsRecord l (symbols ts) (plain_record r)) s at end → Covers (λ ts. IsFormOf l ts false (map plain_record rs)) s at end
covers_simple s at end l r rs e c = record {
  tokens = c.tokens;
  chain = c.chain;
  are = subst (λ x. IsFormOf l c.tokens false x) (sym (ap (map plain_record) e)) (record { makes = λ n e s name hn he hs. sentence.simple n e c.tokens s hn he c.are hs; form = inl (record_into l c.tokens (plain_record r) c.are) });
}

pub open_not_last : (t : Symbol) → t ≡ token.lparen → ¬ (IsLast t)
open_not_last t e text.at_end = cc
open_not_last t e text.at_bad = cc

pub complex_form : (l : ℕ) (o : Placed) (ts : List Placed) (rs : List Entry) → o.token ≡ token.lparen → IsSomeRecords l ts rs → IsForm (suc l) (o ∷ ts) true rs
complex_form l o ts rs e h n q s name hn hq hs =
    let i : n ∷ q ∷ o ∷ (ts ++ s ∷ []) ≡ n ∷ q ∷ o ∷ (h.body ++ h.close ∷ s ∷ []) = ap (λ x. n ∷ q ∷ o ∷ x) (ap (λ x. x ++ s ∷ []) h.parts ∙ append_assoc h.body (h.close ∷ []) (s ∷ [])) in
    subst (λ x. IsInstance (suc l) x (record { name = name; at = n.start; complex = true; records = rs })) (sym i) (sentence.complex n q o h.close s hn hq e h.are_records h.is_close hs)

pub complex_language : (l : ℕ) (o : Placed) (ts : List Placed) (rs : List Entry) → o.token ≡ token.lparen → IsSomeRecords l ts rs → Form (suc l) (o ∷ ts)
complex_language l o ts rs e h =
    let m : SomeRecords l ts = subst (λ x. SomeRecords l x) (sym h.parts) (more_into l h.body h.close rs h.are_records h.is_close) in
    inr (record { left = l; limit_is = refl; inside = record { front = o ∷ []; back = ts; parts = refl; first = terminal token.lparen l o e; second = m } })

pub covers_complex : (s : Source) (at end l : ℕ) (t : Placed) (rs : List Entry) → First s.text.now at t → t.token ≡ token.lparen → Covers (λ ts. IsSomeRecords l ts rs) s t.after end → Covers (λ ts. IsFormOf (suc l) ts true rs) s at end
covers_complex s at end l t rs n e c = record {
  tokens = shift s.base t ∷ c.tokens;
  chain = chain_then s at t.after end (shift s.base t ∷ []) c.tokens (chain_one s at t n (open_not_last t.token e)) c.chain;
  are = record { makes = complex_form l (shift s.base t) c.tokens rs e c.are; form = complex_language l (shift s.base t) c.tokens rs e c.are };
}

pub stuck_complex : (l : ℕ) (t : Placed) (b : List Placed) (u : Placed) (j : Kind) → t.token ≡ token.lparen → Stuck SomeRecords l b u j → Stuck Form (suc l) (t ∷ b) u j
stuck_complex l t b u j e h =
    stuck_right Records Complex KeyToken (suc l) t b u j (starts_keyed KeyToken) (λ k. key_not k.1 (inr e))
    (stuck_within (Then (Terminal token.lparen) SomeRecords) l (t ∷ b) u j (stuck_second (Terminal token.lparen) SomeRecords l (t ∷ []) b u j (once_just (Is token.lparen)) (grows_just (Is token.lparen)) (record { token = t; alone = refl; fits = e }) h))

pub fails_complex : (s : Source) (at l : ℕ) (t : Placed) (f : Fault) → First s.text.now at t → t.token ≡ token.lparen → Fails SomeRecords l s t.after f → Fails Form (suc l) s at f
fails_complex s at l t f n e h = fails_behind SomeRecords Form l (suc l) s at t.after (shift s.base t ∷ []) f (chain_one s at t n (open_not_last t.token e)) (λ b u j r. stuck_complex l (shift s.base t) b u j e r) h

pub fails_no_form : (s : Source) (at l : ℕ) (t : Placed) (f : Fault) → First s.text.now at t → ¬ (KeyToken t.token) → t.token ≢ token.lparen → f.at ≡ s.base + t.start → f.kind ≡ fault_kind (kind_now t.token) → Fails Form (suc l) s at f
fails_no_form s at l t f n h r p k = fails_now Form (suc l) s at t f n (stuck_now Form FormToken (suc l) (shift s.base t) (some_form l) starts_form (λ m. elim m [ inl e ↦ h e | inr e ↦ r e ])) p k

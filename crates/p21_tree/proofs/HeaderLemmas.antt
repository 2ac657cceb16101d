-- Reading the preface.
use Rattle.std.proofs.Common.{◌≡◌, ◌≢◌, inl, inr, ℕ, suc, ◌+◌, List, [], ◌∷◌, ◌++◌, map, refl, sym, ap, subst, ◌∙◌, append_assoc}
use Rattle.p21_text.specs.Spelling.{Symbol}
use Rattle.p21_text.specs.Spelling as token
use Rattle.p21_text.specs.Tokens.{Placed, First, IsLast, symbols}
use Rattle.p21_text.specs.Tokens as text
use Rattle.p21_tree.specs.declared.source.Source.{Source}
use Rattle.p21_tree.specs.declared.faults.Fault.{Fault}
use Rattle.p21_tree.specs.declared.headers.HeaderEntity.{HeaderEntity}
use Rattle.p21_tree.specs.Tree.{Trees}
use Rattle.p21_tree.specs.Grammar.{Entry, IsKey, IsRecord}
use Rattle.p21_tree.specs.Sentence.{Opening, IsEntities, IsPreface, BeginsWithNo, deepest, header_word, endsec_word, data_word}
use Rattle.p21_tree.specs.Sentence as sentence
use Rattle.p21_tree.specs.Views.{plain_entity}
use Rattle.p21_tree.specs.Fault.{Kind}
use Rattle.p21_tree.specs.Texts.{shift, fault_kind}
use Rattle.p21_tree.specs.Languages.{Just, Then, Within, Stuck, kind_now}
use Rattle.p21_tree.specs.Parts.{Closed, Is, Terminal, KeyToken, EntityKey, Arguments, IsArguments, EntityRest, Entities, DataOn, EndsecOn, HeaderEnd, HeaderRest, HeaderOn, Headers, IsoOn, Prefaces, IsBehindKey, IsHeaderBody, IsOpening, IsDataStart}
use Rattle.p21_tree.specs.Progress.{Chain, Covers, Fails}
use Rattle.p21_tree.proofs.LanguageLemmas.{Once, stuck_second, stuck_same, stuck_within, stuck_now}
use Rattle.p21_tree.proofs.Combined.{Apart, grows_just, once_just, once_then}
use Rattle.p21_tree.proofs.ParamFaults.{once_closed}
use Rattle.p21_tree.proofs.PartLemmas.{HeaderToken, some_terminal, some_header_end, some_header_rest, some_header_on, some_headers, starts_entities, starts_header_end, starts_header_rest, once_entities, once_terminal, grows_entities, grows_arguments}
use Rattle.p21_tree.proofs.Sentences.{terminal, record_made, entity_into}
use Rattle.p21_tree.proofs.ProgressLemmas.{chain_one, chain_then, fails_behind, fails_now, fails_first, fails_second, stuck_item, stuck_stop, fails_again}
use Rattle.p21_tree.proofs.RecordLemmas.{key_not_last}
use Rattle.p21_tree.proofs.DataLemmas.{semi_goes, iso_goes, keyword_goes, after_terminal, chain_terminal}

-- a header entity after its keyword

pub once_arguments : Once Arguments
once_arguments = once_then (Terminal token.lparen) Closed (once_terminal token.lparen) once_closed

pub arguments_in : (l : ℕ) (ts : List Placed) (found : Trees) → IsArguments l ts found → Arguments l ts
arguments_in l ts found h = record { front = h.open_ ∷ []; back = h.rest; parts = h.parts; first = terminal token.lparen l h.open_ h.is_open; second = (found, h.closed) }

pub covers_entity : (s : Source) (at mid : ℕ) (k : List ℕ) (found : Trees) (semi : Placed) → Covers (λ ts. IsArguments 63 ts found) s at mid → First s.text.now mid semi → semi.token ≡ token.semi → Covers (IsBehindKey k (record { keyword = k; params = found })) s at semi.after
covers_entity s at mid k found semi c n e = record {
  tokens = c.tokens ++ shift s.base semi ∷ [];
  chain = chain_then s at mid semi.after c.tokens (shift s.base semi ∷ []) c.chain (chain_terminal token.semi s mid semi semi_goes n e);
  are = record {
    rest = c.tokens;
    semi = shift s.base semi;
    parts = refl;
    is_semi = e;
    makes = λ t h. subst (λ x. IsRecord deepest (symbols (t ∷ x)) (record { keyword = k; params = found })) (sym c.are.parts) (record_made 63 t c.are.open_ k c.are.rest found h c.are.is_open c.are.closed);
  };
}

pub fails_entity_semi : (s : Source) (at mid : ℕ) (found : Trees) (f : Fault) → Covers (λ ts. IsArguments 63 ts found) s at mid → Fails (Terminal token.semi) 63 s mid f → Fails EntityRest 63 s at f
fails_entity_semi s at mid found f c h = fails_second Arguments (Terminal token.semi) 63 s at mid c.tokens f once_arguments grows_arguments c.chain (arguments_in 63 c.tokens found c.are) h

-- the keyword and the rest, put together in two ways

abbrev pub KeyFirst : ℕ → List Placed → Type 0
KeyFirst = Within (Then (Just EntityKey) EntityRest)

pub key_into : (l : ℕ) (ts : List Placed) → KeyFirst l ts → Entities l ts
key_into l ts h =
    let a : List Placed = h.inside.front in
    let b : List Placed = h.inside.second.front in
    let d : List Placed = h.inside.second.back in
    record {
      front = a ++ b;
      back = d;
      parts = h.inside.parts ∙ (ap (λ x. a ++ x) h.inside.second.parts ∙ sym (append_assoc a b d));
      first = record { left = h.left; limit_is = h.limit_is; inside = record { front = a; back = b; parts = refl; first = h.inside.first; second = h.inside.second.first } };
      second = record { token = h.inside.second.second.token; alone = h.inside.second.second.alone; fits = h.inside.second.second.fits };
    }

pub key_back : (l : ℕ) (ts : List Placed) → Entities l ts → KeyFirst l ts
key_back l ts h =
    let a : List Placed = h.first.inside.front in
    let b : List Placed = h.first.inside.back in
    record {
      left = h.first.left;
      limit_is = h.first.limit_is;
      inside = record {
        front = a;
        back = b ++ h.back;
        parts = h.parts ∙ (ap (λ x. x ++ h.back) h.first.inside.parts ∙ append_assoc a b h.back);
        first = h.first.inside.first;
        second = record { front = b; back = h.back; parts = refl; first = h.first.inside.second; second = record { token = h.second.token; alone = h.second.alone; fits = h.second.fits } };
      };
    }

pub stuck_entity : (l : ℕ) (t : Placed) (b : List Placed) (u : Placed) (j : Kind) → EntityKey t.token → Stuck EntityRest l b u j → Stuck Entities (suc l) (t ∷ b) u j
stuck_entity l t b u j k h =
    stuck_same KeyFirst Entities (suc l) (t ∷ b) u j key_into key_back
    (stuck_within (Then (Just EntityKey) EntityRest) l (t ∷ b) u j (stuck_second (Just EntityKey) EntityRest l (t ∷ []) b u j (once_just EntityKey) (grows_just EntityKey) (record { token = t; alone = refl; fits = k }) h))

-- one of several header entities

abbrev pub Endsec : Symbol
Endsec = token.keyword endsec_word

pub entity_apart : Apart EntityKey (Is Endsec)
entity_apart s k e = k.1 e

module _ (s : Source) (at : ℕ) (t : Placed) (k : List ℕ) (first : First s.text.now at t) (key : IsKey t.token k) (other : t.token ≢ Endsec) where
  pub key_chain : Chain s at (shift s.base t ∷ []) t.after
  key_chain = chain_one s at t first (key_not_last key)

  pub fails_one_entity : (f : Fault) → Fails EntityRest 63 s t.after f → Fails HeaderRest 64 s at f
  fails_one_entity f h = fails_behind EntityRest HeaderRest 63 64 s at t.after (shift s.base t ∷ []) f key_chain (λ b u j r. stuck_item Entities HeaderEnd (Is Endsec) 64 (shift s.base t) b u j (some_header_end 64) starts_header_end other (stuck_entity 63 (shift s.base t) b u j ((k, key), other) r)) h

  pub covers_one_entity : (end : ℕ) (e : Entry) → Covers (IsBehindKey k e) s t.after end → Covers (λ ts. IsEntities deepest ts (e ∷ [])) s at end
  covers_one_entity end e c = record {
    tokens = shift s.base t ∷ c.tokens;
    chain = chain_then s at t.after end (shift s.base t ∷ []) c.tokens key_chain c.chain;
    are = subst (λ x. IsEntities deepest (shift s.base t ∷ x) (e ∷ [])) (sym c.are.parts) (sentence.more (shift s.base t ∷ c.are.rest) c.are.semi (c.are.makes (shift s.base t) key) other c.are.is_semi sentence.none);
  }

  pub entity_language : (end : ℕ) (e : Entry) → (c : Covers (IsBehindKey k e) s t.after end) → Entities deepest (shift s.base t ∷ c.tokens)
  entity_language end e c = record {
    front = shift s.base t ∷ c.are.rest;
    back = c.are.semi ∷ [];
    parts = ap (λ x. shift s.base t ∷ x) c.are.parts;
    first = entity_into deepest (shift s.base t ∷ c.are.rest) e (c.are.makes (shift s.base t) key) other;
    second = terminal token.semi deepest c.are.semi c.are.is_semi;
  }

  pub faults_next_entity : (end : ℕ) (e : Entry) (f : Fault) → Covers (IsBehindKey k e) s t.after end → Fails HeaderRest 64 s end f → Fails HeaderRest 64 s at f
  faults_next_entity end e f c h = fails_again Entities HeaderEnd EntityKey (Is Endsec) 64 s at end (shift s.base t ∷ c.tokens) f starts_entities starts_header_end entity_apart once_entities grows_entities (chain_then s at t.after end (shift s.base t ∷ []) c.tokens key_chain c.chain) (entity_language end e c) h

pub entities_append : (ts us : List Placed) (es fs : List Entry) → IsEntities deepest ts es → IsEntities deepest us fs → IsEntities deepest (ts ++ us) (es ++ fs)
entities_append ts us es fs sentence.none h = h
entities_append ts us es fs (sentence.more vs p {rest} {e} {es = others} r n q is) h = subst (λ x. IsEntities deepest x (es ++ fs)) (sym (append_assoc vs (p ∷ rest) us)) (sentence.more vs p r n q (entities_append rest us others fs is h))

pub map_append : (es : List HeaderEntity) (e : HeaderEntity) → map plain_entity (es ++ e ∷ []) ≡ map plain_entity es ++ plain_entity e ∷ []
map_append [] e = refl
map_append (f ∷ es) e = ap (λ x. plain_entity f ∷ x) (map_append es e)

pub covers_no_entity : (s : Source) (at : ℕ) (es : List HeaderEntity) → es ≡ [] → Covers (λ ts. IsEntities deepest ts (map plain_entity es)) s at at
covers_no_entity s at es e = record { tokens = []; chain = record { tokens = []; are = text.none; in_file = refl }; are = subst (λ x. IsEntities deepest [] x) (sym (ap (map plain_entity) e)) sentence.none }

pub covers_next_entity : (s : Source) (at mid end : ℕ) (es new : List HeaderEntity) (e : HeaderEntity) → new ≡ es ++ e ∷ [] → Covers (λ ts. IsEntities deepest ts (map plain_entity es)) s at mid → Covers (λ ts. IsEntities deepest ts (plain_entity e ∷ [])) s mid end → Covers (λ ts. IsEntities deepest ts (map plain_entity new)) s at end
covers_next_entity s at mid end es new e p c d = record {
  tokens = c.tokens ++ d.tokens;
  chain = chain_then s at mid end c.tokens d.tokens c.chain d.chain;
  are = subst (λ x. IsEntities deepest (c.tokens ++ d.tokens) x) (sym (ap (map plain_entity) p ∙ map_append es e)) (entities_append c.tokens d.tokens (map plain_entity es) (plain_entity e ∷ []) c.are d.are);
}

pub covers_header : (s : Source) (at place : ℕ) (t : Placed) (es : List Entry) → Covers (λ ts. IsEntities deepest ts es) s at place → First s.text.now place t → t.token ≡ Endsec → Covers (λ ts. IsHeaderBody ts es) s at t.after
covers_header s at place t es c n e = record {
  tokens = c.tokens ++ shift s.base t ∷ [];
  chain = chain_then s at place t.after c.tokens (shift s.base t ∷ []) c.chain (chain_terminal Endsec s place t (keyword_goes endsec_word) n e);
  are = record { body = c.tokens; close = shift s.base t; parts = refl; is_close = e; are_entities = c.are };
}

pub fails_header_end : (s : Source) (at : ℕ) (t : Placed) (f : Fault) → First s.text.now at t → t.token ≡ Endsec → Fails EndsecOn 64 s t.after f → Fails HeaderRest 64 s at f
fails_header_end s at t f n e h = fails_behind EndsecOn HeaderRest 64 64 s at t.after (shift s.base t ∷ []) f (chain_terminal Endsec s at t (keyword_goes endsec_word) n e) (λ b u j r. stuck_stop Entities HeaderEnd EntityKey 64 (shift s.base t) b u j starts_entities (λ k. k.1 e) (stuck_second (Terminal Endsec) EndsecOn 64 (shift s.base t ∷ []) b u j (once_just (Is Endsec)) (grows_just (Is Endsec)) (record { token = shift s.base t; alone = refl; fits = e }) r)) h

pub fails_no_entity : (s : Source) (at : ℕ) (t : Placed) (f : Fault) → First s.text.now at t → ¬ (KeyToken t.token) → t.token ≢ Endsec → f.at ≡ s.base + t.start → f.kind ≡ fault_kind (kind_now t.token) → Fails HeaderRest 64 s at f
fails_no_entity s at t f n h g p k = fails_now HeaderRest 64 s at t f n (stuck_now HeaderRest HeaderToken 64 (shift s.base t) (some_header_rest 64) starts_header_rest (λ m. elim m [ inl e ↦ g e | inr e ↦ h e.0 ])) p k

-- what stands before the header entities

module _ (s : Source) (iso semi header last : Placed) (n1 : First s.text.now 0 iso) (e1 : iso.token ≡ token.iso) where
  pub opening_semi : (f : Fault) → Fails (Terminal token.semi) 64 s iso.after f → Fails Prefaces 64 s 0 f
  opening_semi f h = after_terminal token.iso IsoOn 64 s 0 iso f iso_goes n1 e1 (fails_first (Terminal token.semi) Headers 64 s iso.after f (some_headers 64) h)

  pub opening_header : (f : Fault) → First s.text.now iso.after semi → semi.token ≡ token.semi → Fails (Terminal (token.keyword header_word)) 64 s semi.after f → Fails Prefaces 64 s 0 f
  opening_header f n2 e2 h = after_terminal token.iso IsoOn 64 s 0 iso f iso_goes n1 e1 (after_terminal token.semi Headers 64 s iso.after semi f semi_goes n2 e2 (fails_first (Terminal (token.keyword header_word)) HeaderOn 64 s semi.after f (some_header_on 64) h))

  pub opening_last : (f : Fault) → First s.text.now iso.after semi → semi.token ≡ token.semi → First s.text.now semi.after header → header.token ≡ token.keyword header_word → Fails (Terminal token.semi) 64 s header.after f → Fails Prefaces 64 s 0 f
  opening_last f n2 e2 n3 e3 h = after_terminal token.iso IsoOn 64 s 0 iso f iso_goes n1 e1 (after_terminal token.semi Headers 64 s iso.after semi f semi_goes n2 e2 (after_terminal (token.keyword header_word) HeaderOn 64 s semi.after header f (keyword_goes header_word) n3 e3 (fails_first (Terminal token.semi) HeaderRest 64 s header.after f (some_header_rest 64) h)))

  pub covers_opening : First s.text.now iso.after semi → semi.token ≡ token.semi → First s.text.now semi.after header → header.token ≡ token.keyword header_word → First s.text.now header.after last → last.token ≡ token.semi → Covers (λ ts. IsOpening ts (s.base + header.start)) s 0 last.after
  covers_opening n2 e2 n3 e3 n4 e4 = record {
    tokens = shift s.base iso ∷ shift s.base semi ∷ shift s.base header ∷ shift s.base last ∷ [];
    chain = chain_then s 0 iso.after last.after (shift s.base iso ∷ []) (shift s.base semi ∷ shift s.base header ∷ shift s.base last ∷ []) (chain_terminal token.iso s 0 iso iso_goes n1 e1)
        (chain_then s iso.after semi.after last.after (shift s.base semi ∷ []) (shift s.base header ∷ shift s.base last ∷ []) (chain_terminal token.semi s iso.after semi semi_goes n2 e2)
        (chain_then s semi.after header.after last.after (shift s.base header ∷ []) (shift s.base last ∷ []) (chain_terminal (token.keyword header_word) s semi.after header (keyword_goes header_word) n3 e3) (chain_terminal token.semi s header.after last semi_goes n4 e4)));
    are = record { iso = shift s.base iso; s1 = shift s.base semi; header = shift s.base header; s2 = shift s.base last; parts = refl; is_iso = e1; is_s1 = e2; is_header = e3; is_s2 = e4; place = refl };
  }

-- what stands after them

module _ (s : Source) (at : ℕ) (semi data_ last : Placed) (n1 : First s.text.now at semi) (e1 : semi.token ≡ token.semi) where
  pub start_data : (f : Fault) → Fails (Terminal (token.keyword data_word)) 64 s semi.after f → Fails EndsecOn 64 s at f
  start_data f h = after_terminal token.semi DataOn 64 s at semi f semi_goes n1 e1 (fails_first (Terminal (token.keyword data_word)) (Terminal token.semi) 64 s semi.after f (some_terminal token.semi 64) h)

  pub start_last : (f : Fault) → First s.text.now semi.after data_ → data_.token ≡ token.keyword data_word → Fails (Terminal token.semi) 64 s data_.after f → Fails EndsecOn 64 s at f
  start_last f n2 e2 h = after_terminal token.semi DataOn 64 s at semi f semi_goes n1 e1 (after_terminal (token.keyword data_word) (Terminal token.semi) 64 s semi.after data_ f (keyword_goes data_word) n2 e2 h)

  pub covers_start : First s.text.now semi.after data_ → data_.token ≡ token.keyword data_word → First s.text.now data_.after last → last.token ≡ token.semi → Covers (λ ts. IsDataStart ts (s.base + last.after)) s at last.after
  covers_start n2 e2 n3 e3 = record {
    tokens = shift s.base semi ∷ shift s.base data_ ∷ shift s.base last ∷ [];
    chain = chain_then s at semi.after last.after (shift s.base semi ∷ []) (shift s.base data_ ∷ shift s.base last ∷ []) (chain_terminal token.semi s at semi semi_goes n1 e1)
        (chain_then s semi.after data_.after last.after (shift s.base data_ ∷ []) (shift s.base last ∷ []) (chain_terminal (token.keyword data_word) s semi.after data_ (keyword_goes data_word) n2 e2) (chain_terminal token.semi s data_.after last semi_goes n3 e3));
    are = record { s3 = shift s.base semi; data_ = shift s.base data_; s4 = shift s.base last; parts = refl; is_s3 = e1; is_data = e2; is_s4 = e3; place = refl };
  }

-- the whole preface

pub fails_header_rest : (s : Source) (mid header_at : ℕ) (f : Fault) → Covers (λ ts. IsOpening ts header_at) s 0 mid → Fails HeaderRest 64 s mid f → Fails Prefaces 64 s 0 f
fails_header_rest s mid header_at f c h =
    fails_behind HeaderRest Prefaces 64 64 s 0 mid c.tokens f c.chain
    (λ b u j r. subst (λ x. Stuck Prefaces 64 (x ++ b) u j) (sym c.are.parts)
    (stuck_second (Terminal token.iso) IsoOn 64 (c.are.iso ∷ []) (c.are.s1 ∷ c.are.header ∷ c.are.s2 ∷ b) u j (once_just (Is token.iso)) (grows_just (Is token.iso)) (terminal token.iso 64 c.are.iso c.are.is_iso)
    (stuck_second (Terminal token.semi) Headers 64 (c.are.s1 ∷ []) (c.are.header ∷ c.are.s2 ∷ b) u j (once_just (Is token.semi)) (grows_just (Is token.semi)) (terminal token.semi 64 c.are.s1 c.are.is_s1)
    (stuck_second (Terminal (token.keyword header_word)) HeaderOn 64 (c.are.header ∷ []) (c.are.s2 ∷ b) u j (once_just (Is (token.keyword header_word))) (grows_just (Is (token.keyword header_word))) (terminal (token.keyword header_word) 64 c.are.header c.are.is_header)
    (stuck_second (Terminal token.semi) HeaderRest 64 (c.are.s2 ∷ []) b u j (once_just (Is token.semi)) (grows_just (Is token.semi)) (terminal token.semi 64 c.are.s2 c.are.is_s2) r))))) h

pub preface_made : (a b c : List Placed) (header_at data_at : ℕ) (es : List Entry) → IsOpening a header_at → IsHeaderBody b es → IsDataStart c data_at → IsPreface deepest (a ++ (b ++ c)) (record { header_at = header_at; entities = es; data_at = data_at })
preface_made a b c header_at data_at es p q r =
    let e : a ++ (b ++ c) ≡ p.iso ∷ p.s1 ∷ p.header ∷ p.s2 ∷ (q.body ++ q.close ∷ r.s3 ∷ r.data_ ∷ r.s4 ∷ []) =
    ap (λ x. x ++ (b ++ c)) p.parts ∙ ap (λ x. p.iso ∷ p.s1 ∷ p.header ∷ p.s2 ∷ x) (ap (λ x. x ++ c) q.parts ∙ (append_assoc q.body (q.close ∷ []) c ∙ ap (λ x. q.body ++ q.close ∷ x) r.parts)) in
    let h : IsPreface deepest (p.iso ∷ p.s1 ∷ p.header ∷ p.s2 ∷ (q.body ++ q.close ∷ r.s3 ∷ r.data_ ∷ r.s4 ∷ [])) (record { header_at = p.header.start; entities = es; data_at = r.s4.after }) =
    sentence.made p.iso p.s1 p.header p.s2 q.body q.close r.s3 r.data_ r.s4 p.is_iso p.is_s1 p.is_header p.is_s2 q.are_entities q.is_close r.is_s3 r.is_data r.is_s4 in
    subst (λ x. IsPreface deepest x (record { header_at = header_at; entities = es; data_at = data_at })) (sym e)
    (subst (λ x. IsPreface deepest (p.iso ∷ p.s1 ∷ p.header ∷ p.s2 ∷ (q.body ++ q.close ∷ r.s3 ∷ r.data_ ∷ r.s4 ∷ [])) (record { header_at = x; entities = es; data_at = data_at })) (sym p.place)
    (subst (λ x. IsPreface deepest (p.iso ∷ p.s1 ∷ p.header ∷ p.s2 ∷ (q.body ++ q.close ∷ r.s3 ∷ r.data_ ∷ r.s4 ∷ [])) (record { header_at = p.header.start; entities = es; data_at = x })) (sym r.place) h))

pub covers_preface : (s : Source) (body rest end header_at data_at : ℕ) (es : List Entry) → Covers (λ ts. IsOpening ts header_at) s 0 body → Covers (λ ts. IsHeaderBody ts es) s body rest → Covers (λ ts. IsDataStart ts data_at) s rest end → Covers (λ ts. IsPreface deepest ts (record { header_at = header_at; entities = es; data_at = data_at })) s 0 end
covers_preface s body rest end header_at data_at es a b c = record {
  tokens = a.tokens ++ (b.tokens ++ c.tokens);
  chain = chain_then s 0 body end a.tokens (b.tokens ++ c.tokens) a.chain (chain_then s body rest end b.tokens c.tokens b.chain c.chain);
  are = preface_made a.tokens b.tokens c.tokens header_at data_at es a.are b.are c.are;
}

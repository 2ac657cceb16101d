-- The parts as languages are the parts of the grammar.
use Rattle.std.proofs.Common.{◌≡◌, ◌≢◌, inl, inr, ℕ, suc, true, false, List, [], ◌∷◌, ◌++◌, refl, sym, ap, subst, ◌∙◌, append_assoc}
use Rattle.p21_text.specs.Spelling.{Symbol}
use Rattle.p21_text.specs.Spelling as token
use Rattle.p21_text.specs.Tokens.{Placed, symbols}
use Rattle.p21_tree.specs.Tree.{Trees}
use Rattle.p21_tree.specs.Grammar.{Entry, IsKey, IsOptional, IsRecord}
use Rattle.p21_tree.specs.Grammar as grammar
use Rattle.p21_tree.specs.Sentence.{Instance, Opening, File, IsEntities, IsRecords, IsInstance, IsInstances, IsPreface, IsTail, IsPiece, IsFile, BeginsWithNo, header_word, endsec_word, data_word}
use Rattle.p21_tree.specs.Sentence as sentence
use Rattle.p21_tree.specs.Fault.{files, pieces}
use Rattle.p21_tree.specs.Languages.{stop, again}
use Rattle.p21_tree.specs.Parts.{IsClosed, Terminal, KeyToken, EntityKey, Keyed, Records, MoreRecords, SomeRecords, Complex, Form, Instances, EntityRecords, Entities, HeaderEnd, HeaderRest, Prefaces, Tails, Bodies, Files, Pieces}

pub terminal : (s : Symbol) (l : ℕ) (t : Placed) → t.token ≡ s → Terminal s l (t ∷ [])
terminal s l t e = record { token = t; alone = refl; fits = e }

-- what a record's tokens are
pub record RecordParts (limit : ℕ) (ts : List Symbol) (e : Entry) : Type 0 where
  pub left : ℕ
  pub key : Symbol
  pub tokens : List Symbol
  pub limit_is : limit ≡ suc left
  pub spelled : ts ≡ key ∷ token.lparen ∷ (tokens ++ token.rparen ∷ [])
  pub is_key : IsKey key e.keyword
  pub params : IsOptional left tokens e.params

pub record_parts : {limit : ℕ} {ts : List Symbol} {e : Entry} → IsRecord limit ts e → RecordParts limit ts e
record_parts (grammar.made {left} {key} {k} {tokens} {ts} h o) = record { left = left; key = key; tokens = tokens; limit_is = refl; spelled = refl; is_key = h; params = o }

-- the first two tokens
pub record TwoTokens (ts : List Placed) (a b : Symbol) (rest : List Symbol) : Type 0 where
  pub one : Placed
  pub two : Placed
  pub others : List Placed
  pub parts : ts ≡ one ∷ two ∷ others
  pub first : one.token ≡ a
  pub second : two.token ≡ b
  pub behind : symbols others ≡ rest

pub two_tokens : (ts : List Placed) (a b : Symbol) (rest : List Symbol) → symbols ts ≡ a ∷ b ∷ rest → TwoTokens ts a b rest
two_tokens [] a b rest e = absurd (cc)
two_tokens (t ∷ []) a b rest e = absurd (cc)
two_tokens (t ∷ u ∷ ts) a b rest e = record { one = t; two = u; others = ts; parts = refl; first = (cc); second = (cc); behind = (cc) }

pub keyed_into : (K : Symbol → Type 0) (l : ℕ) (ts : List Placed) (e : Entry) → IsRecord l (symbols ts) e → ((t : Placed) (rest : List Placed) (k : List ℕ) → ts ≡ t ∷ rest → IsKey t.token k → K t.token) → Keyed K l ts
keyed_into K l ts e h keys =
    let p : RecordParts l (symbols ts) e = record_parts h in
    let q : TwoTokens ts p.key token.lparen (p.tokens ++ token.rparen ∷ []) = two_tokens ts p.key token.lparen (p.tokens ++ token.rparen ∷ []) p.spelled in
    record {
      left = p.left;
      limit_is = p.limit_is;
      inside = record {
        front = q.one ∷ [];
        back = q.two ∷ q.others;
        parts = q.parts;
        first = record { token = q.one; alone = refl; fits = keys q.one (q.two ∷ q.others) e.keyword q.parts (subst (λ x. IsKey x e.keyword) (sym q.first) p.is_key) };
        second = record {
          front = q.two ∷ [];
          back = q.others;
          parts = refl;
          first = terminal token.lparen p.left q.two q.second;
          second = (e.params, record { inner = p.tokens; parts = q.behind; params = p.params });
        };
      };
    }

pub record_into : (l : ℕ) (ts : List Placed) (e : Entry) → IsRecord l (symbols ts) e → Records l ts
record_into l ts e h = keyed_into KeyToken l ts e h (λ t rest k p q. (k, q))

-- a record from its parts
pub record_made : (l : ℕ) (t o : Placed) (k : List ℕ) (ps : List Placed) (found : Trees) → IsKey t.token k → o.token ≡ token.lparen → IsClosed l (symbols ps) found → IsRecord (suc l) (symbols (t ∷ o ∷ ps)) (record { keyword = k; params = found })
record_made l t o k ps found h e c =
    let f : symbols (t ∷ o ∷ ps) ≡ t.token ∷ token.lparen ∷ (c.inner ++ token.rparen ∷ []) = ap (λ x. t.token ∷ x ∷ symbols ps) e ∙ ap (λ x. t.token ∷ token.lparen ∷ x) c.parts in
    subst (λ x. IsRecord (suc l) x (record { keyword = k; params = found })) (sym f) (grammar.made h c.params)

pub record RecordBack (K : Symbol → Type 0) (l : ℕ) (ts : List Placed) : Type 0 where
  pub entry : Entry
  pub key : Placed
  pub rest : List Placed
  pub parts : ts ≡ key ∷ rest
  pub fits : K key.token
  pub is_record : IsRecord l (symbols ts) entry

pub keyed_back : (K : Symbol → Type 0) (l : ℕ) (ts : List Placed) → ((s : Symbol) → K s → KeyToken s) → Keyed K l ts → RecordBack K l ts
keyed_back K l ts keys h =
    let k : KeyToken h.inside.first.token.token = keys h.inside.first.token.token h.inside.first.fits in
    let o : Placed = h.inside.second.first.token in
    let ps : List Placed = h.inside.second.back in
    let e : ts ≡ h.inside.first.token ∷ o ∷ ps = h.inside.parts ∙ (ap (λ x. x ++ h.inside.back) h.inside.first.alone ∙ (ap (λ x. h.inside.first.token ∷ x) h.inside.second.parts ∙ ap (λ x. h.inside.first.token ∷ (x ++ ps)) h.inside.second.first.alone)) in
    let r : IsRecord (suc h.left) (symbols (h.inside.first.token ∷ o ∷ ps)) (record { keyword = k.0; params = h.inside.second.second.0 }) = record_made h.left h.inside.first.token o k.0 ps h.inside.second.second.0 k.1 h.inside.second.first.fits h.inside.second.second.1 in
    record {
      entry = record { keyword = k.0; params = h.inside.second.second.0 };
      key = h.inside.first.token;
      rest = o ∷ ps;
      parts = e;
      fits = h.inside.first.fits;
      is_record = subst (λ x. IsRecord l (symbols x) (record { keyword = k.0; params = h.inside.second.second.0 })) (sym e) (subst (λ x. IsRecord x (symbols (h.inside.first.token ∷ o ∷ ps)) (record { keyword = k.0; params = h.inside.second.second.0 })) (sym h.limit_is) r);
    }

pub record_back : (l : ℕ) (ts : List Placed) → Records l ts → RecordBack KeyToken l ts
record_back l ts h = keyed_back KeyToken l ts (λ s k. k) h

-- header entities

pub not_endsec : (t : Placed) (ts rest : List Placed) → ts ≡ t ∷ rest → BeginsWithNo (token.keyword endsec_word) (symbols ts) → t.token ≢ token.keyword endsec_word
not_endsec t [] rest e h = absurd h
not_endsec t (u ∷ ts) rest e h = let f : u ≡ t = cc in subst (λ x. x.token ≢ token.keyword endsec_word) f h

pub entity_into : (l : ℕ) (ts : List Placed) (e : Entry) → IsRecord l (symbols ts) e → BeginsWithNo (token.keyword endsec_word) (symbols ts) → EntityRecords l ts
entity_into l ts e h n = keyed_into EntityKey l ts e h (λ t rest k p q. ((k, q), not_endsec t ts rest p n))

pub entity_back : (l : ℕ) (ts : List Placed) → EntityRecords l ts → RecordBack EntityKey l ts
entity_back l ts h = keyed_back EntityKey l ts (λ s k. k.0) h

pub begins_with_no : (t : Placed) (ts rest : List Placed) → ts ≡ t ∷ rest → t.token ≢ token.keyword endsec_word → BeginsWithNo (token.keyword endsec_word) (symbols ts)
begins_with_no t ts rest e h = subst (λ x. BeginsWithNo (token.keyword endsec_word) (symbols x)) (sym e) h

pub entities_into : (l : ℕ) (a b : List Placed) (es : List Entry) → IsEntities l a es → HeaderEnd l b → HeaderRest l (a ++ b)
entities_into l a b es sentence.none h = stop h
entities_into l a b es (sentence.more ts s {rest} {e} {es = others} r n f is) h =
    again (ts ++ s ∷ []) (rest ++ b) (append_assoc ts (s ∷ rest) b ∙ sym (append_assoc ts (s ∷ []) (rest ++ b)))
    (record { front = ts; back = s ∷ []; parts = refl; first = entity_into l ts e r n; second = terminal token.semi l s f })
    (entities_into l rest b others is h)

-- what stands between the header's first semicolon and its end
pub record HeaderBack (l : ℕ) (ts : List Placed) : Type 0 where
  pub body : List Placed
  pub rest : List Placed
  pub entities : List Entry
  pub parts : ts ≡ body ++ rest
  pub are_entities : IsEntities l body entities
  pub is_end : HeaderEnd l rest

pub entity_more : (l : ℕ) (front : List Placed) (body : List Placed) (es : List Entry) → Entities l front → IsEntities l body es → (e : Entry) × IsEntities l (front ++ body) (e ∷ es)
entity_more l front body es h is =
    let r : RecordBack EntityKey l h.front = entity_back l h.front h.first in
    let f : front ++ body ≡ h.front ++ h.second.token ∷ body = ap (λ x. x ++ body) (h.parts ∙ ap (λ x. h.front ++ x) h.second.alone) ∙ append_assoc h.front (h.second.token ∷ []) body in
    (r.entry, subst (λ x. IsEntities l x (r.entry ∷ es)) (sym f) (sentence.more h.front h.second.token r.is_record (begins_with_no r.key h.front r.rest r.parts r.fits.1) h.second.fits is))

pub entities_back : (l : ℕ) (ts : List Placed) → HeaderRest l ts → HeaderBack l ts
entities_back l ts (stop h) = record { body = []; rest = ts; entities = []; parts = refl; are_entities = sentence.none; is_end = h }
entities_back l ts (again front back e p h) =
    let r : HeaderBack l back = entities_back l back h in
    let m : (e : Entry) × IsEntities l (front ++ r.body) (e ∷ r.entities) = entity_more l front r.body r.entities p r.are_entities in
    record { body = front ++ r.body; rest = r.rest; entities = m.0 ∷ r.entities; parts = e ∙ (ap (λ x. front ++ x) r.parts ∙ sym (append_assoc front r.body r.rest)); are_entities = m.1; is_end = r.is_end }

-- records of a complex instance

pub more_into : (l : ℕ) (a : List Placed) (c : Placed) (rs : List Entry) → IsRecords l a rs → c.token ≡ token.rparen → SomeRecords l (a ++ c ∷ [])
more_into l a c rs (sentence.one ts {r} h) e = record { front = a; back = c ∷ []; parts = refl; first = record_into l a r h; second = stop (terminal token.rparen l c e) }
more_into l a c rs (sentence.more ts {rest} {r} {rs = others} h is) e =
    let m : SomeRecords l (rest ++ c ∷ []) = more_into l rest c others is e in
    record { front = ts; back = rest ++ c ∷ []; parts = append_assoc ts rest (c ∷ []); first = record_into l ts r h; second = again m.front m.back m.parts m.first m.second }

pub record SomeBack (l : ℕ) (ts : List Placed) : Type 0 where
  pub body : List Placed
  pub close : Placed
  pub records : List Entry
  pub parts : ts ≡ body ++ close ∷ []
  pub are_records : IsRecords l body records
  pub is_close : close.token ≡ token.rparen

pub some_back : (l : ℕ) (front back : List Placed) → Records l front → MoreRecords l back → SomeBack l (front ++ back)
some_back l front back p (stop h) =
    let r : RecordBack KeyToken l front = record_back l front p in
    record { body = front; close = h.token; records = r.entry ∷ []; parts = ap (λ x. front ++ x) h.alone; are_records = sentence.one front r.is_record; is_close = h.fits }
some_back l front back p (again front' back' e p' h) =
    let r : RecordBack KeyToken l front = record_back l front p in
    let m : SomeBack l (front' ++ back') = some_back l front' back' p' h in
    record { body = front ++ m.body; close = m.close; records = r.entry ∷ m.records; parts = ap (λ x. front ++ x) (e ∙ m.parts) ∙ sym (append_assoc front m.body (m.close ∷ [])); are_records = sentence.more front r.is_record m.are_records; is_close = m.is_close }

-- instances

pub form_into : (l : ℕ) (n e : Placed) (form : List Placed) (s : Placed) (name : ℕ) → n.token ≡ token.name name → e.token ≡ token.equals → Form l form → s.token ≡ token.semi → Instances l (n ∷ e ∷ (form ++ s ∷ []))
form_into l n e form s name hn he h hs = record {
  front = n ∷ [];
  back = e ∷ (form ++ s ∷ []);
  parts = refl;
  first = record { token = n; alone = refl; fits = (name, hn) };
  second = record {
    front = e ∷ [];
    back = form ++ s ∷ [];
    parts = refl;
    first = terminal token.equals l e he;
    second = record { front = form; back = s ∷ []; parts = refl; first = h; second = terminal token.semi l s hs };
  };
}

pub instance_into : (l : ℕ) (ts : List Placed) (i : Instance) → IsInstance l ts i → Instances l ts
instance_into l ts i (sentence.simple {limit} {name} n e rs s {r} hn he h hs) = form_into l n e rs s name hn he (inl (record_into l rs r h)) hs
instance_into l ts i (sentence.complex {left} {name} {ts = body} n e o c s {rs} hn he ho h hc hs) =
    let m : SomeRecords left (body ++ c ∷ []) = more_into left body c rs h hc in
    let k : Complex (suc left) (o ∷ (body ++ c ∷ [])) = record { left = left; limit_is = refl; inside = record { front = o ∷ []; back = body ++ c ∷ []; parts = refl; first = terminal token.lparen left o ho; second = m } } in
    subst (λ x. Instances (suc left) (n ∷ e ∷ o ∷ x)) (append_assoc body (c ∷ []) (s ∷ [])) (form_into (suc left) n e (o ∷ (body ++ c ∷ [])) s name hn he (inr k) hs)

pub form_back : (l : ℕ) (n e : Placed) (form : List Placed) (s : Placed) (name : ℕ) → n.token ≡ token.name name → e.token ≡ token.equals → Form l form → s.token ≡ token.semi → (i : Instance) × IsInstance l (n ∷ e ∷ (form ++ s ∷ [])) i
form_back l n e form s name hn he (inl h) hs =
    let r : RecordBack KeyToken l form = record_back l form h in
    (record { name = name; at = n.start; complex = false; records = r.entry ∷ [] }, sentence.simple n e form s hn he r.is_record hs)
form_back l n e form s name hn he (inr h) hs =
    let o : Placed = h.inside.first.token in
    let m : SomeBack h.left (h.inside.second.front ++ h.inside.second.back) = some_back h.left h.inside.second.front h.inside.second.back h.inside.second.first h.inside.second.second in
    let f : form ≡ o ∷ (m.body ++ m.close ∷ []) = h.inside.parts ∙ (ap (λ x. x ++ h.inside.back) h.inside.first.alone ∙ ap (λ x. o ∷ x) (h.inside.second.parts ∙ m.parts)) in
    let g : n ∷ e ∷ (form ++ s ∷ []) ≡ n ∷ e ∷ o ∷ (m.body ++ m.close ∷ s ∷ []) = ap (λ x. n ∷ e ∷ (x ++ s ∷ [])) f ∙ ap (λ x. n ∷ e ∷ o ∷ x) (append_assoc m.body (m.close ∷ []) (s ∷ [])) in
    let i : Instance = record { name = name; at = n.start; complex = true; records = m.records } in
    (i, subst (λ x. IsInstance l x i) (sym g) (subst (λ x. IsInstance x (n ∷ e ∷ o ∷ (m.body ++ m.close ∷ s ∷ [])) i) (sym h.limit_is) (sentence.complex n e o m.close s hn he h.inside.first.fits m.are_records m.is_close hs)))

pub instance_back : (l : ℕ) (ts : List Placed) → Instances l ts → (i : Instance) × IsInstance l ts i
instance_back l ts h =
    let n : Placed = h.first.token in
    let e : Placed = h.second.first.token in
    let form : List Placed = h.second.second.front in
    let s : Placed = h.second.second.second.token in
    let b : (i : Instance) × IsInstance l (n ∷ e ∷ (form ++ s ∷ [])) i = form_back l n e form s h.first.fits.0 h.first.fits.1 h.second.first.fits h.second.second.first h.second.second.second.fits in
    let f : ts ≡ n ∷ e ∷ (form ++ s ∷ []) = h.parts ∙ (ap (λ x. x ++ h.back) h.first.alone ∙ ap (λ x. n ∷ x) (h.second.parts ∙ (ap (λ x. x ++ h.second.back) h.second.first.alone ∙ ap (λ x. e ∷ x) (h.second.second.parts ∙ ap (λ x. form ++ x) h.second.second.second.alone)))) in
    (b.0, subst (λ x. IsInstance l x b.0) (sym f) b.1)

-- the tail

pub tail_into : (l : ℕ) (ts : List Placed) → IsTail ts → Tails l ts
tail_into l ts (sentence.made endsec s1 end_iso s2 end a b c d e) = record {
  front = endsec ∷ [];
  back = s1 ∷ end_iso ∷ s2 ∷ end ∷ [];
  parts = refl;
  first = terminal (token.keyword endsec_word) l endsec a;
  second = record {
    front = s1 ∷ [];
    back = end_iso ∷ s2 ∷ end ∷ [];
    parts = refl;
    first = terminal token.semi l s1 b;
    second = record {
      front = end_iso ∷ [];
      back = s2 ∷ end ∷ [];
      parts = refl;
      first = terminal token.end_iso l end_iso c;
      second = record { front = s2 ∷ []; back = end ∷ []; parts = refl; first = terminal token.semi l s2 d; second = terminal token.end l end e };
    };
  };
}

pub tail_back : (l : ℕ) (ts : List Placed) → Tails l ts → IsTail ts
tail_back l ts h =
    let a : Placed = h.first.token in
    let b : Placed = h.second.first.token in
    let c : Placed = h.second.second.first.token in
    let d : Placed = h.second.second.second.first.token in
    let e : Placed = h.second.second.second.second.token in
    let f : ts ≡ a ∷ b ∷ c ∷ d ∷ e ∷ [] = h.parts ∙ (ap (λ x. x ++ h.back) h.first.alone ∙ ap (λ x. a ∷ x) (h.second.parts ∙ (ap (λ x. x ++ h.second.back) h.second.first.alone ∙ ap (λ x. b ∷ x) (h.second.second.parts ∙ (ap (λ x. x ++ h.second.second.back) h.second.second.first.alone ∙ ap (λ x. c ∷ x) (h.second.second.second.parts ∙ (ap (λ x. x ++ h.second.second.second.back) h.second.second.second.first.alone ∙ ap (λ x. d ∷ x) h.second.second.second.second.alone))))))) in
    subst IsTail (sym f) (sentence.made a b c d e h.first.fits h.second.first.fits h.second.second.first.fits h.second.second.second.first.fits h.second.second.second.second.fits)

-- the preface

pub header_end : (l : ℕ) (endsec s3 data_ s4 : Placed) → endsec.token ≡ token.keyword endsec_word → s3.token ≡ token.semi → data_.token ≡ token.keyword data_word → s4.token ≡ token.semi → HeaderEnd l (endsec ∷ s3 ∷ data_ ∷ s4 ∷ [])
header_end l endsec s3 data_ s4 a b c d = record {
  front = endsec ∷ [];
  back = s3 ∷ data_ ∷ s4 ∷ [];
  parts = refl;
  first = terminal (token.keyword endsec_word) l endsec a;
  second = record {
    front = s3 ∷ [];
    back = data_ ∷ s4 ∷ [];
    parts = refl;
    first = terminal token.semi l s3 b;
    second = record { front = data_ ∷ []; back = s4 ∷ []; parts = refl; first = terminal (token.keyword data_word) l data_ c; second = terminal token.semi l s4 d };
  };
}

pub preface_into : (l : ℕ) (ts : List Placed) (o : Opening) → IsPreface l ts o → Prefaces l ts
preface_into l ts o (sentence.made iso s1 header s2 body endsec s3 data_ s4 {es} a b c d is e f g h) = record {
  front = iso ∷ [];
  back = s1 ∷ header ∷ s2 ∷ (body ++ endsec ∷ s3 ∷ data_ ∷ s4 ∷ []);
  parts = refl;
  first = terminal token.iso l iso a;
  second = record {
    front = s1 ∷ [];
    back = header ∷ s2 ∷ (body ++ endsec ∷ s3 ∷ data_ ∷ s4 ∷ []);
    parts = refl;
    first = terminal token.semi l s1 b;
    second = record {
      front = header ∷ [];
      back = s2 ∷ (body ++ endsec ∷ s3 ∷ data_ ∷ s4 ∷ []);
      parts = refl;
      first = terminal (token.keyword header_word) l header c;
      second = record {
        front = s2 ∷ [];
        back = body ++ endsec ∷ s3 ∷ data_ ∷ s4 ∷ [];
        parts = refl;
        first = terminal token.semi l s2 d;
        second = entities_into l body (endsec ∷ s3 ∷ data_ ∷ s4 ∷ []) es is (header_end l endsec s3 data_ s4 e f g h);
      };
    };
  };
}

pub preface_back : (l : ℕ) (ts : List Placed) → Prefaces l ts → (o : Opening) × IsPreface l ts o
preface_back l ts h =
    let iso : Placed = h.first.token in
    let s1 : Placed = h.second.first.token in
    let header : Placed = h.second.second.first.token in
    let s2 : Placed = h.second.second.second.first.token in
    let m : HeaderBack l h.second.second.second.back = entities_back l h.second.second.second.back h.second.second.second.second in
    let endsec : Placed = m.is_end.first.token in
    let s3 : Placed = m.is_end.second.first.token in
    let data_ : Placed = m.is_end.second.second.first.token in
    let s4 : Placed = m.is_end.second.second.second.token in
    let e : m.rest ≡ endsec ∷ s3 ∷ data_ ∷ s4 ∷ [] = m.is_end.parts ∙ (ap (λ x. x ++ m.is_end.back) m.is_end.first.alone ∙ ap (λ x. endsec ∷ x) (m.is_end.second.parts ∙ (ap (λ x. x ++ m.is_end.second.back) m.is_end.second.first.alone ∙ ap (λ x. s3 ∷ x) (m.is_end.second.second.parts ∙ (ap (λ x. x ++ m.is_end.second.second.back) m.is_end.second.second.first.alone ∙ ap (λ x. data_ ∷ x) m.is_end.second.second.second.alone))))) in
    let f : ts ≡ iso ∷ s1 ∷ header ∷ s2 ∷ (m.body ++ endsec ∷ s3 ∷ data_ ∷ s4 ∷ []) = h.parts ∙ (ap (λ x. x ++ h.back) h.first.alone ∙ ap (λ x. iso ∷ x) (h.second.parts ∙ (ap (λ x. x ++ h.second.back) h.second.first.alone ∙ ap (λ x. s1 ∷ x) (h.second.second.parts ∙ (ap (λ x. x ++ h.second.second.back) h.second.second.first.alone ∙ ap (λ x. header ∷ x) (h.second.second.second.parts ∙ (ap (λ x. x ++ h.second.second.second.back) h.second.second.second.first.alone ∙ ap (λ x. s2 ∷ x) (m.parts ∙ ap (λ x. m.body ++ x) e)))))))) in
    let o : Opening = record { header_at = header.start; entities = m.entities; data_at = s4.after } in
    (o, subst (λ x. IsPreface l x o) (sym f) (sentence.made iso s1 header s2 m.body endsec s3 data_ s4 h.first.fits h.second.first.fits h.second.second.first.fits h.second.second.second.first.fits m.are_entities m.is_end.first.fits m.is_end.second.first.fits m.is_end.second.second.first.fits m.is_end.second.second.second.fits))

-- the body and the file

pub body_into : (l : ℕ) (a b : List Placed) (is : List Instance) → IsInstances l a is → Tails l b → Bodies l (a ++ b)
body_into l a b is sentence.none h = stop h
body_into l a b is (sentence.more ts {rest} {i} {is = others} h hs) t = again ts (rest ++ b) (append_assoc ts rest b) (instance_into l ts i h) (body_into l rest b others hs t)

pub record BodyBack (l : ℕ) (ts : List Placed) : Type 0 where
  pub body : List Placed
  pub rest : List Placed
  pub instances : List Instance
  pub parts : ts ≡ body ++ rest
  pub are_instances : IsInstances l body instances
  pub is_tail : IsTail rest

pub body_back : (l : ℕ) (ts : List Placed) → Bodies l ts → BodyBack l ts
body_back l ts (stop h) = record { body = []; rest = ts; instances = []; parts = refl; are_instances = sentence.none; is_tail = tail_back l ts h }
body_back l ts (again front back e p h) =
    let r : BodyBack l back = body_back l back h in
    let i : (i : Instance) × IsInstance l front i = instance_back l front p in
    record { body = front ++ r.body; rest = r.rest; instances = i.0 ∷ r.instances; parts = e ∙ (ap (λ x. front ++ x) r.parts ∙ sym (append_assoc front r.body r.rest)); are_instances = sentence.more front i.1 r.are_instances; is_tail = r.is_tail }

pub file_into : (l : ℕ) (ts : List Placed) → files l ts → Files l ts
file_into l ts h = record { front = h.1.opening; back = h.1.body ++ h.1.tail; parts = h.1.parts; first = preface_into l h.1.opening h.0.opening h.1.is_opening; second = body_into l h.1.body h.1.tail h.0.instances h.1.are_instances (tail_into l h.1.tail h.1.is_tail) }

pub file_back : (l : ℕ) (ts : List Placed) → Files l ts → files l ts
file_back l ts h =
    let o : (o : Opening) × IsPreface l h.front o = preface_back l h.front h.first in
    let b : BodyBack l h.back = body_back l h.back h.second in
    (record { opening = o.0; instances = b.instances }, record { opening = h.front; body = b.body; tail = b.rest; parts = h.parts ∙ ap (λ x. h.front ++ x) b.parts; is_opening = o.1; are_instances = b.are_instances; is_tail = b.is_tail })

pub piece_into : (l : ℕ) (ts : List Placed) → pieces l ts → Pieces l ts
piece_into l ts h = record { front = h.1.body; back = h.1.end ∷ []; parts = h.1.parts; first = instance_into l h.1.body h.0 h.1.is_instance; second = terminal token.end l h.1.end h.1.is_end }

pub piece_back : (l : ℕ) (ts : List Placed) → Pieces l ts → pieces l ts
piece_back l ts h =
    let i : (i : Instance) × IsInstance l h.front i = instance_back l h.front h.first in
    (i.0, record { body = h.front; end = h.second.token; parts = h.parts ∙ ap (λ x. h.front ++ x) h.second.alone; is_instance = i.1; is_end = h.second.fits })

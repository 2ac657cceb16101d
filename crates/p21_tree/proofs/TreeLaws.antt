-- A list of tokens has one tree at most.
use Rattle.std.proofs.Common.{◌≡◌, ◌⊎◌, inl, inr, ℕ, true, false, List, [], ◌∷◌, ◌++◌, refl, sym, ap, subst, ◌∙◌, append_assoc, append-nil}
use Rattle.p21_text.specs.Spelling.{Symbol}
use Rattle.p21_text.specs.Spelling as token
use Rattle.p21_text.specs.Tokens.{Placed, symbols}
use Rattle.p21_tree.specs.Grammar.{Entry, IsKey, IsRecord}
use Rattle.p21_tree.specs.Grammar as grammar
use Rattle.p21_tree.specs.Sentence.{Instance, Opening, File, IsEntities, IsRecords, IsInstance, IsInstances, IsPreface, IsTail, IsPiece, IsFile, deepest, header_word, endsec_word, data_word}
use Rattle.p21_tree.specs.Sentence as sentence
use Rattle.p21_tree.specs.Fault.{instances, prefaces}
use Rattle.p21_tree.specs.Languages.{Language}
use Rattle.p21_tree.specs.Parts.{Is, Terminal, KeyToken, NameToken, Instances, Prefaces, EndIsoOn, EndIsos, TailOn, Tails, Bodies, Files, Pieces}
use Rattle.p21_tree.specs.Laws.{HasOneTree, NoneBeginsAnother}
use Rattle.p21_tree.proofs.LanguageLemmas.{Once, cancel}
use Rattle.p21_tree.proofs.Combined.{once_then, once_many}
use Rattle.p21_tree.proofs.DataLemmas.{names_apart}
use Rattle.p21_tree.proofs.ParamFaults.{closed_both}
use Rattle.p21_tree.proofs.PartLemmas.{starts_instances, starts_tails, once_terminal, once_keyed, once_instances, once_entities, once_prefaces}
use Rattle.p21_tree.proofs.Sentences.{RecordParts, record_parts, TwoTokens, two_tokens, record_into, entity_into, instance_into, preface_into, terminal}

pub keys_agree : {s : Symbol} {j k : List ℕ} → IsKey s j → IsKey s k → j ≡ k
keys_agree grammar.standard grammar.standard = refl
keys_agree grammar.user grammar.user = refl

pub record_once : (l m : ℕ) (ts : List Placed) (d e : Entry) → IsRecord l (symbols ts) d → IsRecord m (symbols ts) e → d ≡ e
record_once l m ts d e p q =
    let a : RecordParts l (symbols ts) d = record_parts p in
    let b : RecordParts m (symbols ts) e = record_parts q in
    let x : TwoTokens ts a.key token.lparen (a.tokens ++ token.rparen ∷ []) = two_tokens ts a.key token.lparen (a.tokens ++ token.rparen ∷ []) a.spelled in
    let keys : a.key ≡ b.key = (let f : a.key ∷ token.lparen ∷ (a.tokens ++ token.rparen ∷ []) ≡ b.key ∷ token.lparen ∷ (b.tokens ++ token.rparen ∷ []) = sym a.spelled ∙ b.spelled in cc) in
    let rests : a.tokens ++ token.rparen ∷ [] ≡ b.tokens ++ token.rparen ∷ [] = (let f : a.key ∷ token.lparen ∷ (a.tokens ++ token.rparen ∷ []) ≡ b.key ∷ token.lparen ∷ (b.tokens ++ token.rparen ∷ []) = sym a.spelled ∙ b.spelled in cc) in
    let c : (x.others ≡ x.others) × (d.params ≡ e.params) = closed_both a.left b.left x.others x.others [] [] d.params e.params
    (record { inner = a.tokens; parts = x.behind; params = a.params }) (record { inner = b.tokens; parts = x.behind ∙ rests; params = b.params }) refl in
    let k : d.keyword ≡ e.keyword = keys_agree (subst (λ s. IsKey s d.keyword) keys a.is_key) b.is_key in
    ap (λ z. record { keyword = z; params = d.params }) k ∙ ap (λ z. record { keyword = e.keyword; params = z }) c.1

pub snoc_same : (a b : List Placed) (t u : Placed) → a ++ t ∷ [] ≡ b ++ u ∷ [] → (a ≡ b) × (t ≡ u)
snoc_same [] [] t u e = (refl, (cc))
snoc_same [] (w ∷ []) t u e = absurd (cc)
snoc_same [] (w ∷ x ∷ b) t u e = absurd (cc)
snoc_same (v ∷ []) [] t u e = absurd (cc)
snoc_same (v ∷ x ∷ a) [] t u e = absurd (cc)
snoc_same (v ∷ a) (w ∷ b) t u e =
    let f : v ≡ w = cc in
    let g : a ++ t ∷ [] ≡ b ++ u ∷ [] = cc in
    let h : (a ≡ b) × (t ≡ u) = snoc_same a b t u g in
    (ap (λ x. x ∷ a) f ∙ ap (λ x. w ∷ x) h.0, h.1)

pub no_record : (l : ℕ) (e : Entry) → IsRecord l [] e → ⊥
no_record l e h = let f : [] ≡ (record_parts h).key ∷ token.lparen ∷ ((record_parts h).tokens ++ token.rparen ∷ []) = (record_parts h).spelled in cc

pub no_records : (l : ℕ) (ts : List Placed) (rs : List Entry) → IsRecords l ts rs → ts ≡ [] → ⊥
no_records l ts rs (sentence.one us {r} h) e = no_record l r (subst (λ x. IsRecord l (symbols x) r) e h)
no_records l ts rs (sentence.more [] {rest} {r} h is) e = no_record l r h
no_records l ts rs (sentence.more (t ∷ us) h is) e = absurd (cc)

pub empty_back : (a b : List Placed) → a ≡ a ++ b → b ≡ []
empty_back a b e = sym (cancel a [] b (append-nil a ∙ e))

pub records_once : (l m : ℕ) (a c : List Placed) (rs qs : List Entry) → IsRecords l a rs → IsRecords m c qs → a ≡ c → rs ≡ qs
records_once l m a c rs qs (sentence.one us {r} h) (sentence.one vs {r = q} k) e = ap (λ x. x ∷ []) (record_once l m vs r q (subst (λ x. IsRecord l (symbols x) r) e h) k)
records_once l m a c rs qs (sentence.one us {r} h) (sentence.more vs {rest} {r = q} k is) e =
    let f : us ≡ vs = once_keyed KeyToken l m us vs [] rest (record_into l us r h) (record_into m vs q k) (append-nil us ∙ e) in
    absurd (no_records m rest _ is (empty_back vs rest (sym f ∙ e)))
records_once l m a c rs qs (sentence.more us {rest} {r} h is) (sentence.one vs {r = q} k) e =
    let f : us ≡ vs = once_keyed KeyToken l m us vs rest [] (record_into l us r h) (record_into m vs q k) (e ∙ sym (append-nil vs)) in
    absurd (no_records l rest _ is (empty_back us rest (f ∙ sym e)))
records_once l m a c rs qs (sentence.more us {rest} {r} {rs = others} h is) (sentence.more vs {rest = rest'} {r = q} {rs = others'} k js) e =
    let f : us ≡ vs = once_keyed KeyToken l m us vs rest rest' (record_into l us r h) (record_into m vs q k) e in
    let g : rest ≡ rest' = cancel us rest rest' (e ∙ ap (λ x. x ++ rest') (sym f)) in
    ap (λ x. x ∷ others) (record_once l m vs r q (subst (λ x. IsRecord l (symbols x) r) f h) k) ∙ ap (λ x. q ∷ x) (records_once l m rest rest' others others' is js g)

-- what an instance's tokens are

pub record SimpleParts (l : ℕ) (ts : List Placed) (i : Instance) : Type 0 where
  pub name : ℕ
  pub n : Placed
  pub e : Placed
  pub s : Placed
  pub body : List Placed
  pub entry : Entry
  pub parts : ts ≡ n ∷ e ∷ (body ++ s ∷ [])
  pub is_name : n.token ≡ token.name name
  pub is_record : IsRecord l (symbols body) entry
  pub is : i ≡ record { name = name; at = n.start; complex = false; records = entry ∷ [] }

pub record ComplexParts (l : ℕ) (ts : List Placed) (i : Instance) : Type 0 where
  pub left : ℕ
  pub name : ℕ
  pub n : Placed
  pub e : Placed
  pub o : Placed
  pub c : Placed
  pub s : Placed
  pub body : List Placed
  pub entries : List Entry
  pub parts : ts ≡ n ∷ e ∷ o ∷ ((body ++ c ∷ []) ++ s ∷ [])
  pub is_name : n.token ≡ token.name name
  pub is_open : o.token ≡ token.lparen
  pub are_records : IsRecords left body entries
  pub is : i ≡ record { name = name; at = n.start; complex = true; records = entries }

pub instance_parts : {l : ℕ} {ts : List Placed} {i : Instance} → IsInstance l ts i → SimpleParts l ts i ⊎ ComplexParts l ts i
instance_parts (sentence.simple {limit} {name} n e rs s {r} hn he h hs) = inl (record { name = name; n = n; e = e; s = s; body = rs; entry = r; parts = refl; is_name = hn; is_record = h; is = refl })
instance_parts (sentence.complex {left} {name} {ts = body} n e o c s {rs} hn he ho h hc hs) = inr (record { left = left; name = name; n = n; e = e; o = o; c = c; s = s; body = body; entries = rs; parts = ap (λ x. n ∷ e ∷ o ∷ x) (sym (append_assoc body (c ∷ []) (s ∷ []))); is_name = hn; is_open = ho; are_records = h; is = refl })

pub key_first : (l : ℕ) (ts : List Placed) (e : Entry) (o : Placed) (rest us : List Placed) (s : Placed) → IsRecord l (symbols ts) e → ts ++ s ∷ [] ≡ o ∷ rest → o.token ≡ token.lparen → ⊥
key_first l [] e o rest us s h p q = no_record l e h
key_first l (t ∷ ts) e o rest us s h p q =
    let a : RecordParts l (symbols (t ∷ ts)) e = record_parts h in
    let f : t ≡ o = cc in
    let g : a.key ≡ t.token = (let b : t.token ∷ symbols ts ≡ a.key ∷ token.lparen ∷ (a.tokens ++ token.rparen ∷ []) = a.spelled in cc) in
    not_open (subst (λ x. IsKey x e.keyword) (g ∙ (ap (λ x. x.token) f ∙ q)) a.is_key)
  where
    not_open : {k : List ℕ} → IsKey token.lparen k → ⊥
    not_open h = elim h [ ]

pub names_agree : (t : Symbol) (m n : ℕ) → t ≡ token.name m → t ≡ token.name n → m ≡ n
names_agree t m n e f = let g : token.name m ≡ token.name n = sym e ∙ f in cc

pub instance_once : (l m : ℕ) (ts : List Placed) (i j : Instance) → SimpleParts l ts i ⊎ ComplexParts l ts i → SimpleParts m ts j ⊎ ComplexParts m ts j → i ≡ j
instance_once l m ts i j (inl p) (inl q) =
    let f : p.n ∷ p.e ∷ (p.body ++ p.s ∷ []) ≡ q.n ∷ q.e ∷ (q.body ++ q.s ∷ []) = sym p.parts ∙ q.parts in
    let n : p.n ≡ q.n = cc in
    let g : p.body ++ p.s ∷ [] ≡ q.body ++ q.s ∷ [] = cc in
    let b : p.body ≡ q.body = (snoc_same p.body q.body p.s q.s g).0 in
    let r : p.entry ≡ q.entry = record_once l m q.body p.entry q.entry (subst (λ x. IsRecord l (symbols x) p.entry) b p.is_record) q.is_record in
    let k : p.name ≡ q.name = names_agree q.n.token p.name q.name (subst (λ x. x.token ≡ token.name p.name) n p.is_name) q.is_name in
    p.is ∙ (ap (λ x. record { name = x; at = p.n.start; complex = false; records = p.entry ∷ [] }) k ∙ (ap (λ x. record { name = q.name; at = x.start; complex = false; records = p.entry ∷ [] }) n ∙ (ap (λ x. record { name = q.name; at = q.n.start; complex = false; records = x ∷ [] }) r ∙ sym q.is)))
instance_once l m ts i j (inl p) (inr q) =
    let f : p.n ∷ p.e ∷ (p.body ++ p.s ∷ []) ≡ q.n ∷ q.e ∷ q.o ∷ ((q.body ++ q.c ∷ []) ++ q.s ∷ []) = sym p.parts ∙ q.parts in
    let g : p.body ++ p.s ∷ [] ≡ q.o ∷ ((q.body ++ q.c ∷ []) ++ q.s ∷ []) = cc in
    absurd (key_first l p.body p.entry q.o ((q.body ++ q.c ∷ []) ++ q.s ∷ []) [] p.s p.is_record g q.is_open)
instance_once l m ts i j (inr p) (inl q) =
    let f : q.n ∷ q.e ∷ (q.body ++ q.s ∷ []) ≡ p.n ∷ p.e ∷ p.o ∷ ((p.body ++ p.c ∷ []) ++ p.s ∷ []) = sym q.parts ∙ p.parts in
    let g : q.body ++ q.s ∷ [] ≡ p.o ∷ ((p.body ++ p.c ∷ []) ++ p.s ∷ []) = cc in
    absurd (key_first m q.body q.entry p.o ((p.body ++ p.c ∷ []) ++ p.s ∷ []) [] q.s q.is_record g p.is_open)
instance_once l m ts i j (inr p) (inr q) =
    let f : p.n ∷ p.e ∷ p.o ∷ ((p.body ++ p.c ∷ []) ++ p.s ∷ []) ≡ q.n ∷ q.e ∷ q.o ∷ ((q.body ++ q.c ∷ []) ++ q.s ∷ []) = sym p.parts ∙ q.parts in
    let n : p.n ≡ q.n = cc in
    let g : (p.body ++ p.c ∷ []) ++ p.s ∷ [] ≡ (q.body ++ q.c ∷ []) ++ q.s ∷ [] = cc in
    let b : p.body ≡ q.body = (snoc_same p.body q.body p.c q.c (snoc_same (p.body ++ p.c ∷ []) (q.body ++ q.c ∷ []) p.s q.s g).0).0 in
    let r : p.entries ≡ q.entries = records_once p.left q.left p.body q.body p.entries q.entries p.are_records q.are_records b in
    let k : p.name ≡ q.name = names_agree q.n.token p.name q.name (subst (λ x. x.token ≡ token.name p.name) n p.is_name) q.is_name in
    p.is ∙ (ap (λ x. record { name = x; at = p.n.start; complex = true; records = p.entries }) k ∙ (ap (λ x. record { name = q.name; at = x.start; complex = true; records = p.entries }) n ∙ (ap (λ x. record { name = q.name; at = q.n.start; complex = true; records = x }) r ∙ sym q.is)))

pub piece_once : (ts : List Placed) (i j : Instance) → IsPiece deepest ts i → IsPiece deepest ts j → i ≡ j
piece_once ts i j p q =
    let b : p.body ≡ q.body = (snoc_same p.body q.body p.end q.end (sym p.parts ∙ q.parts)).0 in
    instance_once deepest deepest q.body i j (instance_parts (subst (λ x. IsInstance deepest x i) b p.is_instance)) (instance_parts q.is_instance)

-- header entities

pub entity_first : (l : ℕ) (a : List Placed) (e : Entry) (s g : Placed) (rest y : List Placed) → IsRecord l (symbols a) e → sentence.BeginsWithNo (token.keyword endsec_word) (symbols a) → g.token ≡ token.keyword endsec_word → (a ++ s ∷ rest) ≡ g ∷ y → ⊥
entity_first l [] e s g rest y h n q p = n
entity_first l (t ∷ a) e s g rest y h n q p = n (let f : t ≡ g = cc in ap (λ x. x.token) f ∙ q)

pub header_once : (a c : List Placed) (es fs : List Entry) (e g : Placed) (x y : List Placed) → IsEntities deepest a es → IsEntities deepest c fs → e.token ≡ token.keyword endsec_word → g.token ≡ token.keyword endsec_word → a ++ e ∷ x ≡ c ++ g ∷ y → (es ≡ fs) × (e ∷ x ≡ g ∷ y)
header_once a c es fs e g x y sentence.none sentence.none p q h = (refl, h)
header_once a c es fs e g x y sentence.none (sentence.more vs s {rest} {e = f} r n k is) p q h = absurd (entity_first deepest vs f s e (rest ++ g ∷ y) x r n p (sym (append_assoc vs (s ∷ rest) (g ∷ y)) ∙ sym h))
header_once a c es fs e g x y (sentence.more us s {rest} {e = d} r n k is) sentence.none p q h = absurd (entity_first deepest us d s g (rest ++ e ∷ x) y r n q (sym (append_assoc us (s ∷ rest) (e ∷ x)) ∙ h))
header_once a c es fs e g x y (sentence.more us s {rest} {e = d} {es = others} r n k is) (sentence.more vs t {rest = rest'} {e = f} {es = others'} u o w js) p q h =
    let i : (us ++ s ∷ []) ++ (rest ++ e ∷ x) ≡ (vs ++ t ∷ []) ++ (rest' ++ g ∷ y) = append_assoc us (s ∷ []) (rest ++ e ∷ x) ∙ (sym (append_assoc us (s ∷ rest) (e ∷ x)) ∙ (h ∙ (append_assoc vs (t ∷ rest') (g ∷ y) ∙ sym (append_assoc vs (t ∷ []) (rest' ++ g ∷ y))))) in
    let j : us ++ s ∷ [] ≡ vs ++ t ∷ [] = once_entities deepest deepest (us ++ s ∷ []) (vs ++ t ∷ []) (rest ++ e ∷ x) (rest' ++ g ∷ y)
    (record { front = us; back = s ∷ []; parts = refl; first = entity_into deepest us d r n; second = terminal token.semi deepest s k })
    (record { front = vs; back = t ∷ []; parts = refl; first = entity_into deepest vs f u o; second = terminal token.semi deepest t w }) i in
    let b : rest ++ e ∷ x ≡ rest' ++ g ∷ y = cancel (us ++ s ∷ []) (rest ++ e ∷ x) (rest' ++ g ∷ y) (i ∙ ap (λ z. z ++ (rest' ++ g ∷ y)) (sym j)) in
    let v : us ≡ vs = (snoc_same us vs s t j).0 in
    let z : (others ≡ others') × (e ∷ x ≡ g ∷ y) = header_once rest rest' others others' e g x y is js p q b in
    (ap (λ m. m ∷ others) (record_once deepest deepest vs d f (subst (λ m. IsRecord deepest (symbols m) d) v r) u) ∙ ap (λ m. f ∷ m) z.0, z.1)

pub record PrefaceParts (ts : List Placed) (o : Opening) : Type 0 where
  pub iso : Placed
  pub s1 : Placed
  pub header : Placed
  pub s2 : Placed
  pub body : List Placed
  pub endsec : Placed
  pub s3 : Placed
  pub data_ : Placed
  pub s4 : Placed
  pub entities : List Entry
  pub parts : ts ≡ iso ∷ s1 ∷ header ∷ s2 ∷ (body ++ endsec ∷ s3 ∷ data_ ∷ s4 ∷ [])
  pub are : IsEntities deepest body entities
  pub is_endsec : endsec.token ≡ token.keyword endsec_word
  pub is : o ≡ record { header_at = header.start; entities = entities; data_at = s4.after }

pub preface_parts : {ts : List Placed} {o : Opening} → IsPreface deepest ts o → PrefaceParts ts o
preface_parts (sentence.made iso s1 header s2 body endsec s3 data_ s4 {es} a b c d is e f g h) = record { iso = iso; s1 = s1; header = header; s2 = s2; body = body; endsec = endsec; s3 = s3; data_ = data_; s4 = s4; entities = es; parts = refl; are = is; is_endsec = e; is = refl }

pub preface_once : (ts : List Placed) (o p : Opening) → PrefaceParts ts o → PrefaceParts ts p → o ≡ p
preface_once ts o p a b =
    let f : a.iso ∷ a.s1 ∷ a.header ∷ a.s2 ∷ (a.body ++ a.endsec ∷ a.s3 ∷ a.data_ ∷ a.s4 ∷ []) ≡ b.iso ∷ b.s1 ∷ b.header ∷ b.s2 ∷ (b.body ++ b.endsec ∷ b.s3 ∷ b.data_ ∷ b.s4 ∷ []) = sym a.parts ∙ b.parts in
    let h : a.header ≡ b.header = cc in
    let g : a.body ++ a.endsec ∷ a.s3 ∷ a.data_ ∷ a.s4 ∷ [] ≡ b.body ++ b.endsec ∷ b.s3 ∷ b.data_ ∷ b.s4 ∷ [] = cc in
    let z : (a.entities ≡ b.entities) × (a.endsec ∷ a.s3 ∷ a.data_ ∷ a.s4 ∷ [] ≡ b.endsec ∷ b.s3 ∷ b.data_ ∷ b.s4 ∷ []) = header_once a.body b.body a.entities b.entities a.endsec b.endsec (a.s3 ∷ a.data_ ∷ a.s4 ∷ []) (b.s3 ∷ b.data_ ∷ b.s4 ∷ []) a.are b.are a.is_endsec b.is_endsec g in
    let y : a.endsec ∷ a.s3 ∷ a.data_ ∷ a.s4 ∷ [] ≡ b.endsec ∷ b.s3 ∷ b.data_ ∷ b.s4 ∷ [] = z.1 in
    let s : a.s4 ≡ b.s4 = cc in
    a.is ∙ (ap (λ x. record { header_at = x.start; entities = a.entities; data_at = a.s4.after }) h ∙ (ap (λ x. record { header_at = b.header.start; entities = x; data_at = a.s4.after }) z.0 ∙ (ap (λ x. record { header_at = b.header.start; entities = b.entities; data_at = x.after }) s ∙ sym b.is)))

-- instances and the tail

pub tail_first : (x : List Placed) → IsTail x → (t : Placed) × (y : List Placed) × (x ≡ t ∷ y) × (t.token ≡ token.keyword endsec_word)
tail_first x (sentence.made endsec s1 end_iso s2 end a b c d e) = (endsec, s1 ∷ end_iso ∷ s2 ∷ end ∷ [], refl, a)

pub name_first : (a : List Placed) (i : Instance) (rest x : List Placed) → SimpleParts deepest a i ⊎ ComplexParts deepest a i → IsTail x → a ++ rest ≡ x → ⊥
name_first a i rest x (inl p) t e =
    let f : p.n ∷ p.e ∷ ((p.body ++ p.s ∷ []) ++ rest) ≡ (tail_first x t).0 ∷ (tail_first x t).1 = ap (λ z. z ++ rest) (sym p.parts) ∙ (e ∙ (tail_first x t).2) in
    let g : p.n ≡ (tail_first x t).0 = cc in
    let h : token.name p.name ≡ token.keyword endsec_word = sym p.is_name ∙ (ap (λ z. z.token) g ∙ (tail_first x t).3) in cc
name_first a i rest x (inr p) t e =
    let f : p.n ∷ p.e ∷ p.o ∷ (((p.body ++ p.c ∷ []) ++ p.s ∷ []) ++ rest) ≡ (tail_first x t).0 ∷ (tail_first x t).1 = ap (λ z. z ++ rest) (sym p.parts) ∙ (e ∙ (tail_first x t).2) in
    let g : p.n ≡ (tail_first x t).0 = cc in
    let h : token.name p.name ≡ token.keyword endsec_word = sym p.is_name ∙ (ap (λ z. z.token) g ∙ (tail_first x t).3) in cc

pub instances_once : (a c x y : List Placed) (is js : List Instance) → IsInstances deepest a is → IsInstances deepest c js → IsTail x → IsTail y → a ++ x ≡ c ++ y → is ≡ js
instances_once a c x y is js sentence.none sentence.none t u e = refl
instances_once a c x y is js sentence.none (sentence.more vs {rest} {i = j} h hs) t u e = absurd (name_first vs j (rest ++ y) x (instance_parts h) t (sym (append_assoc vs rest y) ∙ sym e))
instances_once a c x y is js (sentence.more us {rest} {i = i} h hs) sentence.none t u e = absurd (name_first us i (rest ++ x) y (instance_parts h) u (sym (append_assoc us rest x) ∙ e))
instances_once a c x y is js (sentence.more us {rest} {i = i} {is = others} h hs) (sentence.more vs {rest = rest'} {i = j} {is = others'} k ks) t u e =
    let f : us ++ (rest ++ x) ≡ vs ++ (rest' ++ y) = sym (append_assoc us rest x) ∙ (e ∙ append_assoc vs rest' y) in
    let g : us ≡ vs = once_instances deepest deepest us vs (rest ++ x) (rest' ++ y) (instance_into deepest us i h) (instance_into deepest vs j k) f in
    let b : rest ++ x ≡ rest' ++ y = cancel us (rest ++ x) (rest' ++ y) (f ∙ ap (λ z. z ++ (rest' ++ y)) (sym g)) in
    ap (λ z. z ∷ others) (instance_once deepest deepest vs i j (instance_parts (subst (λ z. IsInstance deepest z i) g h)) (instance_parts k)) ∙ ap (λ z. j ∷ z) (instances_once rest rest' x y others others' hs ks t u b)

pub file_once : (ts : List Placed) (f g : File) → IsFile deepest ts f → IsFile deepest ts g → f ≡ g
file_once ts f g p q =
    let e : p.opening ++ (p.body ++ p.tail) ≡ q.opening ++ (q.body ++ q.tail) = sym p.parts ∙ q.parts in
    let a : p.opening ≡ q.opening = once_prefaces deepest deepest p.opening q.opening (p.body ++ p.tail) (q.body ++ q.tail) (preface_into deepest p.opening f.opening p.is_opening) (preface_into deepest q.opening g.opening q.is_opening) e in
    let b : p.body ++ p.tail ≡ q.body ++ q.tail = cancel p.opening (p.body ++ p.tail) (q.body ++ q.tail) (e ∙ ap (λ z. z ++ (q.body ++ q.tail)) (sym a)) in
    let o : f.opening ≡ g.opening = preface_once q.opening f.opening g.opening (preface_parts (subst (λ z. IsPreface deepest z f.opening) a p.is_opening)) (preface_parts q.is_opening) in
    let i : f.instances ≡ g.instances = instances_once p.body q.body p.tail q.tail f.instances g.instances p.are_instances q.are_instances p.is_tail q.is_tail b in
    ap (λ z. record { opening = z; instances = f.instances }) o ∙ ap (λ z. record { opening = g.opening; instances = z }) i

pub one_tree : HasOneTree
one_tree ts = (file_once ts, λ o p h k. preface_once ts o p (preface_parts h) (preface_parts k), piece_once ts)

-- no sentence is a proper beginning of another

pub once_tails : Once Tails
once_tails = once_then (Terminal (token.keyword endsec_word)) TailOn (once_terminal (token.keyword endsec_word)) (once_then (Terminal token.semi) EndIsos (once_terminal token.semi) (once_then (Terminal token.end_iso) EndIsoOn (once_terminal token.end_iso) (once_then (Terminal token.semi) (Terminal token.end) (once_terminal token.semi) (once_terminal token.end))))

pub once_files : Once Files
once_files = once_then Prefaces Bodies once_prefaces (λ l m a c x y p q e. once_many Instances Tails NameToken (Is (token.keyword endsec_word)) l m a c x y starts_instances starts_tails names_apart once_instances once_tails p q e)

pub once_pieces : Once Pieces
once_pieces = once_then Instances (Terminal token.end) once_instances (once_terminal token.end)

pub preface_language : (l : ℕ) (ts : List Placed) → prefaces l ts → Prefaces l ts
preface_language l ts h = preface_into l ts h.0 h.1

pub instance_language : (l : ℕ) (ts : List Placed) → instances l ts → Instances l ts
instance_language l ts h = instance_into l ts h.0 h.1

pub none_begins_another : (L M : Language) → ((l : ℕ) (ts : List Placed) → L l ts → M l ts) → Once M → NoneBeginsAnother L
none_begins_another L M into one ts rest p q = empty_back ts rest (one deepest deepest ts (ts ++ rest) rest [] (into deepest ts p) (into deepest (ts ++ rest) q) (sym (append-nil (ts ++ rest))))

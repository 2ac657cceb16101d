-- Reading the parts of a file in order gives the tree or the fault of the file.
use Rattle.std.proofs.Common.{◌≡◌, ◌≢◌, ◌⊎◌, inl, inr, ℕ, List, [], ◌∷◌, ◌++◌, refl, sym, ap, subst, ◌∙◌, append_assoc, append-nil, arith}
use Rattle.std.proofs.lemmas.List.Elements.{All-cons, All-head, All-tail}
use Rattle.p21_text.specs.Spelling.{Symbol}
use Rattle.p21_text.specs.Spelling as token
use Rattle.p21_text.specs.Tokens.{Placed, IsLast}
use Rattle.p21_text.specs.Tokens as text
use Rattle.p21_tree.specs.Machine.{class_of}
use Rattle.p21_tree.specs.Sentence.{Instance, Opening, IsFile, IsPreface, IsPiece, IsInstance, IsInstances, IsTail, deepest, endsec_word}
use Rattle.p21_tree.specs.Sentence as sentence
use Rattle.p21_tree.specs.Fault.{Kind, files, pieces, tails}
use Rattle.p21_tree.specs.Languages.{Then, Either, Stuck}
use Rattle.p21_tree.specs.Laws.{IsTokenList, FaultOf, SameFault}
use Rattle.p21_tree.specs.Parts.{Is, Terminal, NameToken, Instances, Tails, IsBody, Bodies, Prefaces, Files, Pieces}
use Rattle.p21_tree.specs.InOrder.{BeginsWithName, HasNoSemi, InstanceHasOneSemi, Joined, Outcome, read, stopped, behind, ReadsInOrder, StopsBehind, IsOutcome, PartsGiveFile}
use Rattle.p21_tree.specs.InOrder as parts
use Rattle.p21_tree.proofs.LanguageLemmas.{FirstIs, stuck_first, stuck_second, stuck_same}
use Rattle.p21_tree.proofs.Combined.{stuck_is_fault, stuck_many, starts_then}
use Rattle.p21_tree.proofs.PartLemmas.{some_terminal, some_bodies, some_tails, starts_instances, starts_tails, once_instances, once_prefaces, grows_instances, grows_prefaces}
use Rattle.p21_tree.proofs.ProgressLemmas.{stuck_item, stuck_stop, stuck_again}
use Rattle.p21_tree.proofs.DataLemmas.{names_apart}
use Rattle.p21_tree.proofs.Sentences.{instance_into, preface_into, piece_into, piece_back, file_into, file_back, tail_into, tail_back}
use Rattle.p21_tree.proofs.LawLemmas.{no_fault, one_fault_at_most}
use Rattle.p21_tree.proofs.TreeLaws.{snoc_same}
use Rattle.p21_tree.proofs.Avoiding.{NoneOf, Outer, none_append, none_right, avoids_form}
use Rattle.p21_tree.proofs.Verdicts.{Verdict, reads, leaves, begins, stuck_left_now, swap_into}
use Rattle.p21_tree.proofs.FileVerdict.{instances_verdict, tail_verdict, no_go, tail_closes, ends}

-- Where the first semicolon of a list stands.

abbrev pub Semi : Symbol → Type 0
Semi = Is token.semi

pub semi_outer : Outer Semi
semi_outer s e = ap class_of e

pub none_semi : (ts : List Placed) → HasNoSemi ts → NoneOf Semi ts
none_semi [] h = tt
none_semi (t ∷ ts) h = (All-head (λ x. x.token ≢ token.semi) t ts h, none_semi ts (All-tail (λ x. x.token ≢ token.semi) t ts h))

pub semi_cons : (t u : Placed) (a pre x : List Placed) (s : Placed) (rest : List Placed) → t ≡ u → (m : List Placed) × (pre ≡ a ++ m) × (x ≡ m ++ s ∷ rest) → (m : List Placed) × (u ∷ pre ≡ (t ∷ a) ++ m) × (x ≡ m ++ s ∷ rest)
semi_cons t u a pre x s rest e h = (h.0, ap (λ z. z ∷ pre) (sym e) ∙ ap (λ z. t ∷ z) h.1, h.2)

-- a semicolon stands after what has none
pub semi_behind : (a x pre : List Placed) (s : Placed) (rest : List Placed) → NoneOf Semi a → s.token ≡ token.semi → a ++ x ≡ pre ++ s ∷ rest → (m : List Placed) × (pre ≡ a ++ m) × (x ≡ m ++ s ∷ rest)
semi_behind [] x pre s rest n e f = (pre, refl, f)
semi_behind (t ∷ a) x [] s rest n e f = absurd (n.0 (let g : t ≡ s = cc in ap (λ z. z.token) g ∙ e))
semi_behind (t ∷ a) x (u ∷ pre) s rest n e f =
    let g : t ≡ u = cc in
    let h : a ++ x ≡ pre ++ s ∷ rest = cc in
    semi_cons t u a pre x s rest g (semi_behind a x pre s rest n.1 e h)

-- An instance ends with its one semicolon.
pub record Ending (ts : List Placed) : Type 0 where
  pub inner : List Placed
  pub semi : Placed
  pub parts : ts ≡ inner ++ semi ∷ []
  pub none : NoneOf Semi inner
  pub is_semi : semi.token ≡ token.semi

pub ending : (l : ℕ) (ts : List Placed) → Instances l ts → Ending ts
ending l ts h =
    let n : Placed = h.first.token in
    let e : Placed = h.second.first.token in
    let form : List Placed = h.second.second.front in
    let s : Placed = h.second.second.second.token in
    record {
      inner = n ∷ e ∷ form;
      semi = s;
      parts = h.parts ∙ (ap (λ x. x ++ h.back) h.first.alone ∙ ap (λ x. n ∷ x) (h.second.parts ∙ (ap (λ x. x ++ h.second.back) h.second.first.alone ∙ ap (λ x. e ∷ x) (h.second.second.parts ∙ ap (λ x. form ++ x) h.second.second.second.alone))));
      none = (λ f. let g : token.name h.first.fits.0 ≡ token.semi = sym h.first.fits.1 ∙ f in cc, (λ f. let g : token.equals ≡ token.semi = sym h.second.first.fits ∙ f in cc, avoids_form Semi semi_outer l form h.second.second.first));
      is_semi = h.second.second.second.fits;
    }

none_of_semi : (ts : List Placed) → NoneOf Semi ts → HasNoSemi ts
none_of_semi [] h = λ k d less. absurd (omega arith)
none_of_semi (t ∷ ts) h = All-cons (λ (x : Placed). x.token ≢ token.semi) t ts h.0 (none_of_semi ts h.1)

pub has_one_semi : InstanceHasOneSemi
has_one_semi ts i h =
    let e : Ending ts = ending deepest ts (instance_into deepest ts i h) in
    (e.inner, e.semi, e.parts, begins ts i h e.inner e.semi e.parts, none_of_semi e.inner e.none, e.is_semi)
  where
    begins : (ts : List Placed) (i : Instance) → IsInstance deepest ts i → (inner : List Placed) (semi : Placed) → ts ≡ inner ++ semi ∷ [] → BeginsWithName inner
    begins _ i (sentence.simple {name} n e us s hn he h hs) [] semi f = absurd (cc)
    begins _ i (sentence.simple {name} n e us s hn he h hs) (t ∷ inner) semi f = (name, (let same : n ≡ t = cc in ap (λ x. x.token) (sym same) ∙ hn))
    begins _ i (sentence.complex {name} {ts = us} n e o c s hn he ho h hc hs) [] semi f = absurd (cc)
    begins _ i (sentence.complex {name} {ts = us} n e o c s hn he ho h hc hs) (t ∷ inner) semi f = (name, (let same : n ≡ t = cc in ap (λ x. x.token) (sym same) ∙ hn))

-- what stands after a semicolon of an instance
pub nothing_behind : (l : ℕ) (ts a : List Placed) (s : Placed) (rest : List Placed) → Instances l ts → ts ≡ a ++ s ∷ rest → s.token ≡ token.semi → rest ≡ []
nothing_behind l ts a s rest h e p =
    let i : Ending ts = ending l ts h in
    let m : (m : List Placed) × (a ≡ i.inner ++ m) × (i.semi ∷ [] ≡ m ++ s ∷ rest) = semi_behind i.inner (i.semi ∷ []) a s rest i.none p (sym i.parts ∙ e) in
    one_token i.semi s m.0 rest m.2
  where
    one_token : (t u : Placed) (x y : List Placed) → t ∷ [] ≡ x ++ u ∷ y → y ≡ []
    one_token t u [] y e = cc
    one_token t u (v ∷ []) y e = absurd (cc)
    one_token t u (v ∷ w ∷ x) y e = absurd (cc)

-- the beginning of some tokens that ends with the first semicolon
pub semi_first : (l : ℕ) (body : List Placed) (semi : Placed) (front rest : List Placed) → NoneOf Semi body → Instances l front → body ++ semi ∷ [] ≡ front ++ rest → rest ≡ []
semi_first l body semi front rest n h e =
    let i : Ending front = ending l front h in
    let f : body ++ semi ∷ [] ≡ i.inner ++ i.semi ∷ rest = e ∙ (ap (λ x. x ++ rest) i.parts ∙ append_assoc i.inner (i.semi ∷ []) rest) in
    let m : (m : List Placed) × (i.inner ≡ body ++ m) × (semi ∷ [] ≡ m ++ i.semi ∷ rest) = semi_behind body (semi ∷ []) i.inner i.semi rest n i.is_semi f in
    one_token semi i.semi m.0 rest m.2
  where
    one_token : (t u : Placed) (x y : List Placed) → t ∷ [] ≡ x ++ u ∷ y → y ≡ []
    one_token t u [] y e = cc
    one_token t u (v ∷ []) y e = absurd (cc)
    one_token t u (v ∷ w ∷ x) y e = absurd (cc)

-- no instance begins where no semicolon stands
pub no_instance : (l : ℕ) (ts front rest : List Placed) → NoneOf Semi ts → ts ≡ front ++ rest → ¬ (Instances l front)
no_instance l ts front rest n e h =
    let i : Ending front = ending l front h in
    (none_right Semi i.inner (i.semi ∷ rest) (subst (NoneOf Semi) (e ∙ (ap (λ x. x ++ rest) i.parts ∙ append_assoc i.inner (i.semi ∷ []) rest)) n)).0 i.is_semi

-- Where a piece leaves the instances.

pub record Leaves (q : List Placed) (kind : Kind) (at : ℕ) : Type 0 where
  pub before : List Placed
  pub token : Placed
  pub rest : List Placed
  pub parts : q ≡ before ++ token ∷ rest
  pub stuck : Stuck Instances 64 before token kind
  pub place : at ≡ token.start

-- the fault of the piece is where it leaves the instances
pub leaves_there : (p q more : List Placed) (f : FaultOf pieces p) (b : List Placed) (t : Placed) (r : List Placed) (k : Kind) → p ≡ q ++ more → q ≡ b ++ t ∷ r → Stuck Instances 64 b t k → Leaves q f.kind f.at
leaves_there p q more f b t r k e g s =
    let w : Stuck pieces 64 b t k = stuck_same Pieces pieces 64 b t k piece_back piece_into (stuck_first Instances (Terminal token.end) 64 b t k (some_terminal token.end 64) s) in
    let h : FaultOf pieces p = record { before = b; token = t; behind = r ++ more; kind = k; at = t.start; parts = e ∙ (ap (λ x. x ++ more) g ∙ append_assoc b (t ∷ r) more); is_fault = stuck_is_fault pieces b t k w } in
    let same : SameFault pieces p h f = (one_fault_at_most pieces p).1 h f in
    record { before = b; token = t; rest = r; parts = g; stuck = subst (λ x. Stuck Instances 64 b t x) same.2 s; place = sym same.3 }

pub whole_piece : (q : List Placed) (end : Placed) → end.token ≡ token.end → FaultOf pieces (q ++ end ∷ []) → ¬ (Instances 64 q)
whole_piece q end e f h = no_fault pieces (q ++ end ∷ []) (piece_back 64 (q ++ end ∷ []) (record { front = q; back = end ∷ []; parts = refl; first = h; second = record { token = end; alone = refl; fits = e } })) f

pub one_semi : (body : List Placed) (semi end : Placed) (f : FaultOf pieces ((body ++ semi ∷ []) ++ end ∷ [])) → NoneOf Semi body → semi.token ≡ token.semi → end.token ≡ token.end → Verdict Instances 64 (body ++ semi ∷ []) → Leaves (body ++ semi ∷ []) f.kind f.at
one_semi body semi end f n e g (reads front rest p h) =
    let r : rest ≡ [] = semi_first 64 body semi front rest n h p in
    absurd (whole_piece (body ++ semi ∷ []) end g f (subst (λ x. Instances 64 x) (sym (p ∙ (ap (λ x. front ++ x) r ∙ append-nil front))) h))
one_semi body semi end f n e g (leaves b t r k p s) = leaves_there ((body ++ semi ∷ []) ++ end ∷ []) (body ++ semi ∷ []) (end ∷ []) f b t r k refl p s
one_semi body semi end f n e g (begins h i) =
    let r : i.rest ≡ [] = nothing_behind 64 ((body ++ semi ∷ []) ++ i.rest) body semi i.rest i.sentence (append_assoc body (semi ∷ []) i.rest) e in
    absurd (whole_piece (body ++ semi ∷ []) end g f (subst (λ x. Instances 64 x) (ap (λ x. (body ++ semi ∷ []) ++ x) r ∙ append-nil (body ++ semi ∷ [])) i.sentence))

pub no_semi : (body : List Placed) (last : Placed) (f : FaultOf pieces (body ++ last ∷ [])) → NoneOf Semi (body ++ last ∷ []) → IsLast last.token → Verdict Instances 64 (body ++ last ∷ []) → Leaves (body ++ last ∷ []) f.kind f.at
no_semi body last f n e (reads front rest p h) = absurd (no_instance 64 (body ++ last ∷ []) front rest n p h)
no_semi body last f n e (leaves b t r k p s) = leaves_there (body ++ last ∷ []) (body ++ last ∷ []) [] f b t r k (sym (append-nil (body ++ last ∷ []))) p s
no_semi body last f n e (begins h i) = absurd ((none_right IsLast body (last ∷ []) h).0 e)

-- What the tokens after a preface are.

-- the fault there, and the instances before it
pub record BodyStops (ts : List Placed) (is : List Instance) (kind : Kind) (at : ℕ) : Type 0 where
  pub body : List Placed
  pub front : List Placed
  pub token : Placed
  pub rest : List Placed
  pub parts : ts ≡ (body ++ front) ++ token ∷ rest
  pub are_instances : IsInstances deepest body is
  pub no_more : (a b : List Placed) (i : Instance) → front ≡ a ++ b → ¬ (IsInstance deepest a i)
  pub stuck : Stuck Bodies 64 (body ++ front) token kind
  pub place : at ≡ token.start

abbrev pub IsBodyOutcome : List Placed → Outcome → Type 0
IsBodyOutcome ts (read is) = IsBody ts is
IsBodyOutcome ts (stopped is kind at) = BodyStops ts is kind at

-- the first token begins no tail
abbrev pub NoTail : List Placed → Type 0
NoTail ts = FirstIs (λ s. ¬ (Is (token.keyword endsec_word) s)) ts

pub name_no_tail : (ts us : List Placed) → BeginsWithName ts → NoTail (ts ++ us)
name_no_tail [] us h = absurd h
name_no_tail (t ∷ ts) us h = λ e. names_apart t.token h e

pub bad_no_tail : (body : List Placed) (last : Placed) → BeginsWithName body ⊎ (body ≡ []) → last.token ≡ token.bad → NoTail (body ++ last ∷ [])
bad_no_tail body last (inl h) e = name_no_tail body (last ∷ []) h
bad_no_tail body last (inr h) e = subst (λ x. NoTail (x ++ last ∷ [])) (sym h) (λ f. let g : token.bad ≡ token.keyword endsec_word = sym e ∙ f in cc)

-- what leaves the instances leaves what stands after a preface
pub leaves_body : (b : List Placed) (t : Placed) (r : List Placed) (k : Kind) → NoTail (b ++ t ∷ r) → Stuck Instances 64 b t k → Stuck Bodies 64 b t k
leaves_body [] t r k n s =
    stuck_many Instances Tails 64 [] t k (stuck_same (Either (Then Instances Bodies) Tails) (Either Tails (Then Instances Bodies)) 64 [] t k (swap_into (Then Instances Bodies) Tails) (swap_into Tails (Then Instances Bodies))
    (stuck_left_now (Then Instances Bodies) Tails (Is (token.keyword endsec_word)) 64 t k starts_tails n (stuck_first Instances Bodies 64 [] t k (some_bodies 64) s)))
leaves_body (x ∷ b) t r k n s = stuck_item Instances Tails (Is (token.keyword endsec_word)) 64 x b t k (some_tails 64) starts_tails n s

pub piece_stops : (q more : List Placed) (kind : Kind) (at : ℕ) → NoTail q → Leaves q kind at → BodyStops (q ++ more) [] kind at
piece_stops q more kind at n h = record {
  body = [];
  front = h.before;
  token = h.token;
  rest = h.rest ++ more;
  parts = ap (λ x. x ++ more) h.parts ∙ append_assoc h.before (h.token ∷ h.rest) more;
  are_instances = sentence.none;
  no_more = λ a b i e p. h.stuck.unfinished 64 a b e (instance_into 64 a i p);
  stuck = leaves_body h.before h.token h.rest kind (subst NoTail h.parts n) h.stuck;
  place = h.place;
}

-- the tail

pub tail_stuck : (b : List Placed) (t : Placed) (r : List Placed) (k : Kind) → ¬ (BeginsWithName (b ++ t ∷ r)) → Stuck Tails 64 b t k → Stuck Bodies 64 b t k
tail_stuck [] t r k n s = stuck_many Instances Tails 64 [] t k (stuck_left_now Tails (Then Instances Bodies) NameToken 64 t k (starts_then Instances Bodies NameToken starts_instances) n s)
tail_stuck (x ∷ b) t r k n s = stuck_stop Instances Tails NameToken 64 x b t k starts_instances n s

pub tail_no_name : (ts a b : List Placed) (i : Instance) → ¬ (BeginsWithName (ts)) → (m : List Placed) → ts ≡ (a ++ b) ++ m → ¬ (IsInstance deepest a i)
tail_no_name ts a b i n m e h = n (subst BeginsWithName (sym (e ∙ append_assoc a b m)) (begins_named a (b ++ m) (starts_instances 64 a (instance_into 64 a i h))))
  where
    begins_named : (x y : List Placed) → FirstIs NameToken x → BeginsWithName (x ++ y)
    begins_named [] y f = absurd f
    begins_named (t ∷ x) y f = f

pub tail_stops : (ts : List Placed) (f : FaultOf tails ts) → IsTokenList ts → ¬ (BeginsWithName ts) → Verdict Tails 64 ts → BodyStops ts [] f.kind f.at
tail_stops ts f i n (reads front rest e p) =
    let g : rest ≡ [] = ends tails Tails tail_into tail_back tail_closes front rest p (subst IsTokenList e i) in
    absurd (no_fault tails ts (subst IsTail (sym (e ∙ (ap (λ x. front ++ x) g ∙ append-nil front))) (tail_back 64 front p)) f)
tail_stops ts f i n (leaves b t r k e s) =
    let h : FaultOf tails ts = record { before = b; token = t; behind = r; kind = k; at = t.start; parts = e; is_fault = stuck_is_fault tails b t k (stuck_same Tails tails 64 b t k tail_back tail_into s) } in
    let same : SameFault tails ts h f = (one_fault_at_most tails ts).1 h f in
    record {
      body = [];
      front = b;
      token = t;
      rest = r;
      parts = e;
      are_instances = sentence.none;
      no_more = λ x y j g. tail_no_name ts x y j n (t ∷ r) (e ∙ ap (λ z. z ++ t ∷ r) g);
      stuck = subst (λ x. Stuck Bodies 64 b t x) same.2 (tail_stuck b t r k (subst (λ x. ¬ (BeginsWithName x)) e n) s);
      place = sym same.3;
    }
tail_stops ts f i n (begins g h) = absurd (no_go ts i g)

-- after an instance

pub body_more : (q rest : List Placed) (i : Instance) (o : Outcome) → IsInstance deepest q i → IsBodyOutcome rest o → IsBodyOutcome (q ++ rest) (behind i o)
body_more q rest i (read is) h b = record { body = q ++ b.body; rest = b.rest; parts = ap (λ x. q ++ x) b.parts ∙ sym (append_assoc q b.body b.rest); are_instances = sentence.more q h b.are_instances; is_tail = b.is_tail }
body_more q rest i (stopped is kind at) h b = record {
  body = q ++ b.body;
  front = b.front;
  token = b.token;
  rest = b.rest;
  parts = ap (λ x. q ++ x) b.parts ∙ (sym (append_assoc q (b.body ++ b.front) (b.token ∷ b.rest)) ∙ ap (λ x. x ++ b.token ∷ b.rest) (sym (append_assoc q b.body b.front)));
  are_instances = sentence.more q h b.are_instances;
  no_more = b.no_more;
  stuck = subst (λ x. Stuck Bodies 64 x b.token kind) (sym (append_assoc q b.body b.front)) (stuck_again Instances Tails NameToken (Is (token.keyword endsec_word)) 64 q (b.body ++ b.front) b.token kind starts_instances starts_tails names_apart once_instances grows_instances (instance_into 64 q i h) b.stuck);
  place = b.place;
}

pub piece_is : (q : List Placed) (end : Placed) (i : Instance) → IsPiece deepest (q ++ end ∷ []) i → IsInstance deepest q i × (end.token ≡ token.end)
piece_is q end i h =
    let e : (q ≡ h.body) × (end ≡ h.end) = snoc_same q h.body end h.end h.parts in
    (subst (λ x. IsInstance deepest x i) (sym e.0) h.is_instance, ap (λ x. x.token) e.1 ∙ h.is_end)

-- One part after the other.

abbrev pub Gives : List (List Placed) → List Placed → List Placed → Type 0
Gives ps tail rest = (o : Outcome) → ReadsInOrder ps tail o → IsBodyOutcome rest o

pub gives_tail : (ts : List Placed) → IsTokenList ts → ¬ (BeginsWithName ts) → Gives [] ts ts
gives_tail ts i n o (parts.done h) = record { body = []; rest = ts; parts = refl; are_instances = sentence.none; is_tail = h }
gives_tail ts i n o (parts.tail_fault f) = tail_stops ts f i n (tail_verdict ts)

pub gives_piece : (ps : List (List Placed)) (tail rest p body : List Placed) (semi end : Placed) → p ≡ (body ++ semi ∷ []) ++ end ∷ [] → BeginsWithName body → NoneOf Semi body → semi.token ≡ token.semi → end.token ≡ token.end → Gives ps tail rest → Gives (p ∷ ps) tail ((body ++ semi ∷ []) ++ rest)
gives_piece ps tail rest p body semi end e b n s g again_ o (parts.piece_fault f) =
    let h : FaultOf pieces ((body ++ semi ∷ []) ++ end ∷ []) = record { before = f.before; token = f.token; behind = f.behind; kind = f.kind; at = f.at; parts = sym e ∙ f.parts; is_fault = f.is_fault } in
    piece_stops (body ++ semi ∷ []) rest f.kind f.at (name_no_tail body (semi ∷ []) b) (one_semi body semi end h n s g (instances_verdict (body ++ semi ∷ [])))
gives_piece ps tail rest p body semi end e b n s g again_ _ (parts.next {i} {o} h r) =
    body_more (body ++ semi ∷ []) rest i o (piece_is (body ++ semi ∷ []) end i (subst (λ x. IsPiece deepest x i) e h)).0 (again_ o r)

pub gives_cut : (ps : List (List Placed)) (tail p body : List Placed) (last : Placed) → p ≡ body ++ last ∷ [] → NoTail (body ++ last ∷ []) → NoneOf Semi body → last.token ≢ token.semi → IsLast last.token → Gives (p ∷ ps) tail (body ++ last ∷ [])
gives_cut ps tail p body last e b n s g o (parts.piece_fault f) =
    let h : FaultOf pieces (body ++ last ∷ []) = record { before = f.before; token = f.token; behind = f.behind; kind = f.kind; at = f.at; parts = sym e ∙ f.parts; is_fault = f.is_fault } in
    subst (λ x. BodyStops x [] f.kind f.at) (append-nil (body ++ last ∷ [])) (piece_stops (body ++ last ∷ []) [] f.kind f.at b (no_semi body last h (none_append Semi body (last ∷ []) n (s, tt)) g (instances_verdict (body ++ last ∷ []))))
gives_cut ps tail p body last e b n s g _ (parts.next {i} {o} h r) =
    absurd (no_instance 64 body body [] n (sym (append-nil body)) (instance_into 64 body i (piece_is body last i (subst (λ x. IsPiece deepest x i) e h)).0))

pub not_semi : (s t : Symbol) → s ≡ t → t ≢ token.semi → s ≢ token.semi
not_semi s t e n f = n (sym e ∙ f)

pub in_order : {ps : List (List Placed)} {tail rest : List Placed} → Joined ps tail rest → Gives ps tail rest
in_order (parts.tail {tail} i n) = gives_tail tail i n
in_order (parts.piece {ps} {tail} {rest} body semi end b n s e j) =
    subst (λ x. Gives ((body ++ semi ∷ end ∷ []) ∷ ps) tail x) (append_assoc body (semi ∷ []) rest)
    (gives_piece ps tail rest (body ++ semi ∷ end ∷ []) body semi end (sym (append_assoc body (semi ∷ []) (end ∷ []))) b (none_semi body n) s e (in_order j))
in_order (parts.cut body end b n e) = gives_cut [] (end ∷ []) (body ++ end ∷ []) body end refl (name_no_tail body (end ∷ []) b) (none_semi body n) (not_semi end.token token.end e (λ f. cc)) (subst IsLast (sym e) text.at_end)
in_order (parts.bad {ps} {tail} body last b n e) = gives_cut ps tail (body ++ last ∷ []) body last refl (bad_no_tail body last b e) (none_semi body n) (not_semi last.token token.bad e (λ f. cc)) (subst IsLast (sym e) text.at_bad)

-- after the preface
pub file_outcome : (ts rest : List Placed) (o : Opening) (found : Outcome) → IsPreface deepest ts o → IsBodyOutcome rest found → IsOutcome (ts ++ rest) o found
file_outcome ts rest o (read is) h b = record { opening = ts; body = b.body; tail = b.rest; parts = ap (λ x. ts ++ x) b.parts; is_opening = h; are_instances = b.are_instances; is_tail = b.is_tail }
file_outcome ts rest o (stopped is kind at) h b =
    let s : Stuck files 64 (ts ++ (b.body ++ b.front)) b.token kind = stuck_same Files files 64 (ts ++ (b.body ++ b.front)) b.token kind file_back file_into (stuck_second Prefaces Bodies 64 ts (b.body ++ b.front) b.token kind once_prefaces grows_prefaces (preface_into 64 ts o h) b.stuck) in
    record {
      opening = ts;
      body = b.body;
      front = b.front;
      fault = record { before = ts ++ (b.body ++ b.front); token = b.token; behind = b.rest; kind = kind; at = b.token.start; parts = ap (λ x. ts ++ x) b.parts ∙ sym (append_assoc ts (b.body ++ b.front) (b.token ∷ b.rest)); is_fault = stuck_is_fault files (ts ++ (b.body ++ b.front)) b.token kind s };
      parts = refl;
      is_opening = h;
      are_instances = b.are_instances;
      no_more = b.no_more;
      kind_is = refl;
      place_is = sym b.place;
    }

pub parts_give_file : PartsGiveFile
parts_give_file ts rest o ps tail found h j r = file_outcome ts rest o found h (in_order j found r)

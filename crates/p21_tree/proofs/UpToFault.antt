-- Reading the parts of a file up to the first fault gives the fault of the file.
use Rattle.std.proofs.Common.{◌≡◌, ◌⊎◌, inl, inr, ℕ, List, [], ◌∷◌, ◌++◌, refl, sym, ap, subst, ◌∙◌, append_assoc, append-nil}
use Rattle.std.specs.Prelude.{All}
use Rattle.std.proofs.lemmas.List.Elements.{All-head, All-tail}
use Rattle.p21_text.specs.Spelling as token
use Rattle.p21_text.specs.Tokens.{Placed, IsLast}
use Rattle.p21_text.specs.Tokens as text
use Rattle.p21_tree.specs.Sentence.{Instance, Opening, IsPreface, IsPiece, IsInstance, IsInstances, deepest, endsec_word}
use Rattle.p21_tree.specs.Sentence as sentence
use Rattle.p21_tree.specs.Fault.{Begins, Kind, IsFault, files, prefaces, pieces, tails}
use Rattle.p21_tree.specs.Languages.{Stuck, Language}
use Rattle.p21_tree.specs.Laws.{IsTokenList, FaultOf, SameFault}
use Rattle.p21_tree.specs.Parts.{Is, Terminal, NameToken, Instances, Tails, Bodies, Prefaces, Files, Pieces}
use Rattle.p21_tree.specs.InOrder.{BeginsWithName, HasNoSemi, PrefaceFaultIsOfFile, BeginsNoPreface, PrefaceOrFault, PieceFaultIsOfFile, TailFaultIsOfFile, PieceIsInstance, NoFaultBehindSemi}
use Rattle.p21_tree.proofs.LanguageLemmas.{fronts, begins_then, begins_same, stuck_second, stuck_same}
use Rattle.p21_tree.proofs.Combined.{stuck_is_fault}
use Rattle.p21_tree.proofs.PartLemmas.{some_terminal, some_bodies, starts_instances, starts_tails, once_instances, once_prefaces, grows_instances, grows_prefaces}
use Rattle.p21_tree.proofs.ProgressLemmas.{stuck_again}
use Rattle.p21_tree.proofs.DataLemmas.{names_apart}
use Rattle.p21_tree.proofs.Sentences.{instance_into, preface_into, preface_back, piece_into, piece_back, file_into, file_back, tail_into, tail_back}
use Rattle.p21_tree.proofs.LawLemmas.{one_fault_at_most}
use Rattle.p21_tree.proofs.TreeLaws.{none_begins_another, preface_language}
use Rattle.p21_tree.proofs.Avoiding.{NoneOf, none_right}
use Rattle.p21_tree.proofs.Verdicts.{Verdict, reads, leaves, begins}
use Rattle.p21_tree.proofs.FileVerdict.{no_go, preface_verdict, instances_verdict, tail_verdict, tail_closes, Closes}
use Rattle.p21_tree.proofs.InOrder.{Semi, none_semi, semi_behind, Ending, ending, no_instance, piece_is, NoTail, leaves_body, tail_stuck, tail_no_name}
use Rattle.p21_tree.proofs.LanguageLemmas as language

-- where a language stops with its fault

stuck_there : (L M : Language) (front b r : List Placed) (t u : Placed) (kind k : Kind) (at : ℕ) → IsFault L front t kind at → front ++ t ∷ [] ≡ b ++ u ∷ r → Stuck M 64 b u k → Stuck L 64 b u k → Stuck M 64 front t kind
stuck_there L M front b r t u kind k at f e s own =
    let g : FaultOf L (front ++ t ∷ []) = record { before = front; token = t; behind = []; kind = kind; at = at; parts = refl; is_fault = f } in
    let h : FaultOf L (front ++ t ∷ []) = record { before = b; token = u; behind = r; kind = k; at = u.start; parts = e; is_fault = stuck_is_fault L b u k own } in
    let same : SameFault L (front ++ t ∷ []) h g = (one_fault_at_most L (front ++ t ∷ [])).1 h g in
    subst (λ x. Stuck M 64 x t kind) same.0 (subst (λ x. Stuck M 64 b x kind) same.1 (subst (λ x. Stuck M 64 b u x) same.2 s))

-- some tokens that begin an instance begin a piece
instance_begins : (end : Placed) (ts : List Placed) → end.token ≡ token.end → Begins Instances 64 ts → Begins pieces 64 ts
instance_begins end ts e h =
    begins_same Pieces pieces 64 ts piece_back (begins_then Instances (Terminal token.end) 64 ts (end ∷ []) h (record { token = end; alone = refl; fits = e }))

abbrev an_end : Placed
an_end = record { start = 0; after = 0; token = token.end }

piece_stuck : (front : List Placed) (t : Placed) (kind : Kind) (at : ℕ) → HasNoSemi front → IsFault pieces front t kind at → Verdict Instances 64 (front ++ t ∷ []) → Stuck Instances 64 front t kind
piece_stuck front t kind at n f (reads b r e p) = elim (fronts front t [] b r (append-nil (front ++ t ∷ []) ∙ e)) [
  | inl w ↦ absurd (f.stops (instance_begins an_end (front ++ t ∷ []) refl (record { rest = w.0; sentence = subst (λ x. Instances 64 x) w.1 p })))
  | inr w ↦ absurd (no_instance 64 front b w.0 (none_semi front n) w.1 p)
]
piece_stuck front t kind at n f (leaves b u r k e s) =
    stuck_there pieces Instances front b r t u kind k at f e s (stuck_same Pieces pieces 64 b u k piece_back piece_into (language.stuck_first Instances (Terminal token.end) 64 b u k (some_terminal token.end 64) s))
piece_stuck front t kind at n f (begins g h) = absurd (f.stops (instance_begins an_end (front ++ t ∷ []) refl h))

-- the tokens of a piece begin no tail
no_tail : (front : List Placed) (t : Placed) → Begins Instances 64 front → BeginsWithName (front ++ t ∷ []) ⊎ (t.token ≡ token.bad) → NoTail (front ++ t ∷ [])
no_tail [] t h (inl n) = λ e. names_apart t.token n e
no_tail [] t h (inr b) = λ e. let f : token.bad ≡ token.keyword endsec_word = sym b ∙ e in cc
no_tail (x ∷ front) t h n = λ e. names_apart x.token (starts_instances 64 (x ∷ (front ++ h.rest)) h.sentence) e

-- after whole instances, and after the preface

behind_instances : (body front : List Placed) (is : List Instance) (t : Placed) (k : Kind) → IsInstances deepest body is → Stuck Bodies 64 front t k → Stuck Bodies 64 (body ++ front) t k
behind_instances body front is t k sentence.none s = s
behind_instances body front is t k (sentence.more ts {rest} {i} {is = others} h hs) s =
    subst (λ x. Stuck Bodies 64 x t k) (sym (append_assoc ts rest front))
    (stuck_again Instances Tails NameToken (Is (token.keyword endsec_word)) 64 ts (rest ++ front) t k starts_instances starts_tails names_apart once_instances grows_instances (instance_into 64 ts i h) (behind_instances rest front others t k hs s))

stops_behind : (opening body front : List Placed) (o : Opening) (is : List Instance) (t : Placed) (k : Kind) (at : ℕ) → IsPreface deepest opening o → IsInstances deepest body is → Stuck Bodies 64 front t k → at ≡ t.start → IsFault files (opening ++ (body ++ front)) t k at
stops_behind opening body front o is t k at p hs s e =
    let inner : Stuck Bodies 64 (body ++ front) t k = behind_instances body front is t k hs s in
    let whole : Stuck files 64 (opening ++ (body ++ front)) t k = stuck_same Files files 64 (opening ++ (body ++ front)) t k file_back file_into (stuck_second Prefaces Bodies 64 opening (body ++ front) t k once_prefaces grows_prefaces (preface_into 64 opening o p) inner) in
    subst (λ x. IsFault files (opening ++ (body ++ front)) t k x) (sym e) (stuck_is_fault files (opening ++ (body ++ front)) t k whole)

pub piece_fault : PieceFaultIsOfFile
piece_fault opening body front o is t kind at p hs n begins_ f =
    let s : Stuck Instances 64 front t kind = piece_stuck front t kind at n f (instances_verdict (front ++ t ∷ [])) in
    record {
      is_fault = stops_behind opening body front o is t kind at p hs (leaves_body front t [] kind (no_tail front t s.goes begins_) s) f.place;
      no_more = λ a b i e h. s.unfinished 64 a b e (instance_into 64 a i h);
    }

-- the preface

first_empty : (a b : List Placed) → a ++ b ≡ [] → a ≡ []
first_empty [] b e = refl
first_empty (t ∷ a) b e = absurd (cc)

-- of a list that begins a preface, a front that is a preface is all of it
whole_front : (before front rest : List Placed) → before ≡ front ++ rest → Begins prefaces 64 before → prefaces 64 front → before ≡ front
whole_front before front rest e h p =
    let more : before ++ h.rest ≡ front ++ (rest ++ h.rest) = ap (λ x. x ++ h.rest) e ∙ append_assoc front rest h.rest in
    let none : rest ++ h.rest ≡ [] = none_begins_another prefaces Prefaces preface_language once_prefaces front (rest ++ h.rest) p (subst (λ x. prefaces 64 x) more h.sentence) in
    e ∙ (ap (λ x. front ++ x) (first_empty rest h.rest none) ∙ append-nil front)

preface_stuck : (before : List Placed) (t : Placed) (kind : Kind) (at : ℕ) → ¬ (prefaces deepest before) → IsFault prefaces before t kind at → Verdict Prefaces 64 (before ++ t ∷ []) → Stuck Prefaces 64 before t kind
preface_stuck before t kind at n f (reads b r e p) = elim (fronts before t [] b r (append-nil (before ++ t ∷ []) ∙ e)) [
  | inl w ↦ absurd (f.stops (record { rest = w.0; sentence = preface_back 64 ((before ++ t ∷ []) ++ w.0) (subst (λ x. Prefaces 64 x) w.1 p) }))
  | inr w ↦ absurd (n (subst (λ x. prefaces 64 x) (sym (whole_front before b w.0 w.1 f.goes (preface_back 64 b p))) (preface_back 64 b p)))
]
preface_stuck before t kind at n f (leaves b u r k e s) = stuck_there prefaces Prefaces before b r t u kind k at f e s (stuck_same Prefaces prefaces 64 b u k preface_back preface_language s)
preface_stuck before t kind at n f (begins g h) = absurd (f.stops (begins_same Prefaces prefaces 64 (before ++ t ∷ []) preface_back h))

file_stops : (before : List Placed) (t : Placed) (kind : Kind) → Stuck Prefaces 64 before t kind → IsFault files before t kind t.start
file_stops before t kind s = stuck_is_fault files before t kind (stuck_same Files files 64 before t kind file_back file_into (language.stuck_first Prefaces Bodies 64 before t kind (some_bodies 64) s))

pub preface_fault : PrefaceFaultIsOfFile
preface_fault before t kind at n f =
    let s : Stuck Prefaces 64 before t kind = preface_stuck before t kind at n f (preface_verdict (before ++ t ∷ [])) in
    subst (λ x. IsFault files before t kind x) (sym f.place) (file_stops before t kind s)

no_preface : (ts b r : List Placed) (t : Placed) (k : Kind) → ts ≡ b ++ t ∷ r → Stuck Prefaces 64 b t k → BeginsNoPreface ts
no_preface ts b r t k e s front rest g p = elim (fronts b t r front rest (append_assoc b (t ∷ []) r ∙ (sym e ∙ g))) [
  | inl w ↦ s.stops (record { rest = w.0; sentence = subst (λ x. Prefaces 64 x) w.1 (preface_language 64 front p) })
  | inr w ↦ s.unfinished 64 front w.0 w.1 (preface_language 64 front p)
]

preface_or_fault_by : (ts : List Placed) → IsTokenList ts → Verdict Prefaces 64 ts → ((front : List Placed) × (rest : List Placed) × (ts ≡ front ++ rest) × prefaces deepest front) ⊎ ((f : FaultOf files ts) × IsFault prefaces f.before f.token f.kind f.at × BeginsNoPreface ts)
preface_or_fault_by ts i (reads front rest e p) = inl (front, rest, e, preface_back 64 front p)
preface_or_fault_by ts i (leaves b t r k e s) =
    let f : FaultOf files ts = record { before = b; token = t; behind = r; kind = k; at = t.start; parts = e; is_fault = file_stops b t k s } in
    inr (f, stuck_is_fault prefaces b t k (stuck_same Prefaces prefaces 64 b t k preface_back preface_language s), no_preface ts b r t k e s)
preface_or_fault_by ts i (begins g h) = absurd (no_go ts i g)

pub preface_or_fault : PrefaceOrFault
preface_or_fault ts i = preface_or_fault_by ts i (preface_verdict ts)

-- the tail

none_last : (ts : List Placed) → All (λ (u : Placed). ¬ (IsLast u.token)) ts → NoneOf IsLast ts
none_last [] h = tt
none_last (t ∷ ts) h = (All-head (λ (x : Placed). ¬ (IsLast x.token)) t ts h, none_last ts (All-tail (λ (x : Placed). ¬ (IsLast x.token)) t ts h))

no_whole_tail : (front b rest : List Placed) → NoneOf IsLast front → front ≡ b ++ rest → ¬ (Tails 64 b)
no_whole_tail front b rest n e p =
    let c : Closes b = tail_closes 64 b p in
    (none_right IsLast c.front (c.end ∷ rest) (subst (NoneOf IsLast) (e ∙ (ap (λ x. x ++ rest) c.parts ∙ append_assoc c.front (c.end ∷ []) rest)) n)).0 (subst IsLast (sym c.is_end) text.at_end)

tail_stops_there : (front : List Placed) (t : Placed) (kind : Kind) (at : ℕ) → NoneOf IsLast front → IsFault tails front t kind at → Verdict Tails 64 (front ++ t ∷ []) → Stuck Tails 64 front t kind
tail_stops_there front t kind at n f (reads b r e p) = elim (fronts front t [] b r (append-nil (front ++ t ∷ []) ∙ e)) [
  | inl w ↦ absurd (f.stops (record { rest = w.0; sentence = subst (λ x. tails 64 x) w.1 (tail_back 64 b p) }))
  | inr w ↦ absurd (no_whole_tail front b w.0 n w.1 p)
]
tail_stops_there front t kind at n f (leaves b u r k e s) = stuck_there tails Tails front b r t u kind k at f e s (stuck_same Tails tails 64 b u k tail_back tail_into s)
tail_stops_there front t kind at n f (begins g h) = absurd (f.stops (begins_same Tails tails 64 (front ++ t ∷ []) tail_back h))

pub tail_fault : TailFaultIsOfFile
tail_fault opening body front o is t kind at p hs n no_name f =
    let s : Stuck Tails 64 front t kind = tail_stops_there front t kind at (none_last front n) f (tail_verdict (front ++ t ∷ [])) in
    record {
      is_fault = stops_behind opening body front o is t kind at p hs (tail_stuck front t [] kind no_name s) f.place;
      no_more = λ a b i e h. tail_no_name (front ++ t ∷ []) a b i no_name (t ∷ []) (ap (λ x. x ++ t ∷ []) e) h;
    }

-- a whole piece

pub piece_is_instance : PieceIsInstance
piece_is_instance front end i h =
    let whole : IsInstance deepest front i = (piece_is front end i h).0 in
    (whole, λ n. no_instance 64 front front [] (none_semi front n) (sym (append-nil front)) (instance_into 64 front i whole))

behind_semi : (body inner m rest b : List Placed) (semi s end : Placed) → NoneOf Semi inner → semi.token ≡ token.semi → b ≡ inner ++ s ∷ [] → inner ≡ body ++ m → semi ∷ rest ≡ m ++ s ∷ end ∷ [] → b ≡ body ++ semi ∷ []
behind_semi body inner [] rest b semi s end n k e f g =
    let same : s ≡ semi = cc in e ∙ (ap (λ x. x ++ s ∷ []) (f ∙ append-nil body) ∙ ap (λ x. body ++ x ∷ []) same)
behind_semi body inner (x ∷ m) rest b semi s end n k e f g =
    let same : semi ≡ x = cc in absurd ((none_right Semi body (x ∷ m) (subst (NoneOf Semi) f n)).0 (ap (λ z. z.token) (sym same) ∙ k))

pub no_fault_behind_semi : NoFaultBehindSemi
no_fault_behind_semi body semi end kind at n k l f =
    let i : Instance = f.goes.sentence.0 in
    let p : IsPiece deepest ((body ++ semi ∷ []) ++ f.goes.rest) i = f.goes.sentence.1 in
    let form : Ending p.body = ending 64 p.body (instance_into 64 p.body i p.is_instance) in
    let whole : body ++ semi ∷ f.goes.rest ≡ form.inner ++ form.semi ∷ p.end ∷ [] = sym (append_assoc body (semi ∷ []) f.goes.rest) ∙ (p.parts ∙ (ap (λ x. x ++ p.end ∷ []) form.parts ∙ append_assoc form.inner (form.semi ∷ []) (p.end ∷ []))) in
    let m = semi_behind body (semi ∷ f.goes.rest) form.inner form.semi (p.end ∷ []) (none_semi body n) form.is_semi whole in
    let same : p.body ≡ body ++ semi ∷ [] = behind_semi body form.inner m.0 f.goes.rest p.body semi form.semi p.end form.none k form.parts m.1 m.2 in
    f.stops (record { rest = []; sentence = (i, record { body = body ++ semi ∷ []; end = end; parts = append-nil ((body ++ semi ∷ []) ++ end ∷ []); is_instance = subst (λ x. IsInstance deepest x i) same p.is_instance; is_end = l }) })

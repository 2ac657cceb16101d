-- What was read of a source, said of the file.
use Rattle.std.proofs.Common.{◌≡◌, inl, inr, ℕ, ◌+◌, List, [], ◌∷◌, ◌++◌, refl, sym, ap, subst, ◌∙◌, append_assoc, zero-add}
use Rattle.p21_text.specs.Spelling.{Symbol}
use Rattle.p21_text.specs.Spelling as token
use Rattle.p21_text.specs.Tokens.{Placed, First, Tokens, TokensUpTo}
use Rattle.p21_tree.specs.declared.source.Source.{Source}
use Rattle.p21_tree.specs.declared.pieces.Piece.{Piece}
use Rattle.p21_tree.specs.declared.faults.Fault.{Fault}
use Rattle.p21_tree.specs.Sentence.{Instance, Opening, IsInstance, IsPreface, IsTail, IsPiece, IsFile, deepest, endsec_word}
use Rattle.p21_tree.specs.Fault.{Kind, IsFault, files, prefaces, pieces, tails}
use Rattle.p21_tree.specs.Texts.{shift, shifted, fault_kind, IsFileText, BeginsPreface, HasTail, IsPieceText, HasFault, HasPieceFault, HasPrefaceFault}
use Rattle.p21_tree.specs.Languages.{Language, Stuck, kind_now}
use Rattle.p21_tree.specs.Parts.{Terminal, NameToken, EqualsOn, Instances, IsBehindName, TailOn, Tails, IsBehindEndsec, Bodies, IsBody, Prefaces, Files, Pieces}
use Rattle.p21_tree.specs.Progress.{Covers, Finishes, Fails}
use Rattle.p21_tree.proofs.LanguageLemmas.{Inhabited, Starts, fronts, stuck_same, stuck_first, stuck_now}
use Rattle.p21_tree.proofs.Combined.{stuck_is_fault, starts_then, some_then}
use Rattle.p21_tree.proofs.PartLemmas.{some_terminal, some_bodies, some_instances, starts_instances, once_instances, once_prefaces, grows_instances, grows_prefaces}
use Rattle.p21_tree.proofs.Sentences.{instance_into, preface_into, preface_back, tail_into, tail_back, file_into, file_back, piece_into, piece_back}
use Rattle.p21_tree.proofs.TreeLaws.{preface_language}
use Rattle.p21_tree.proofs.ProgressLemmas.{fails_map, fails_now, fails_first, fails_second}
use Rattle.p21_tree.proofs.DataLemmas.{keyword_goes, after_terminal, finishes_behind, finishes_end, fails_instance, covers_named, finishes_tail}

pub shift_zero : (t : Placed) → shift 0 t ≡ t
shift_zero t = ap (λ x. record { start = x; after = 0 + t.after; token = t.token }) (zero-add t.start) ∙ ap (λ x. record { start = t.start; after = x; token = t.token }) (zero-add t.after)

pub shifted_zero : (ts : List Placed) → shifted 0 ts ≡ ts
shifted_zero [] = refl
shifted_zero (t ∷ ts) = ap (λ x. x ∷ shifted 0 ts) (shift_zero t) ∙ ap (λ x. t ∷ x) (shifted_zero ts)

pub fault_at : (L : Language) (b : List Placed) (t : Placed) (k : Kind) (at : ℕ) → Stuck L deepest b t k → at ≡ t.start → IsFault L b t k at
fault_at L b t k at s e = subst (λ x. IsFault L b t k x) (sym e) (stuck_is_fault L b t k s)

-- in a file, which stands at its own first place

pub file_fault : (L : Language) (text b raw : List Placed) (t : Placed) (k : Kind) (at : ℕ) → b ≡ shifted 0 raw → Stuck L deepest b (shift 0 t) k → at ≡ 0 + t.start → IsFault L raw t k at
file_fault L text b raw t k at e s p =
    subst (λ x. IsFault L x t k at) (e ∙ shifted_zero raw) (subst (λ x. IsFault L b x k at) (shift_zero t) (fault_at L b (shift 0 t) k at s p))

pub has_fault : (L : Language) (s : Source) (at : ℕ) (f : Fault) → s.base ≡ 0 → Fails L deepest s at f → HasFault L s.text.now at f
has_fault L s at f z h = record {
  before = h.chain.tokens;
  place = h.place;
  token = h.token;
  kind = h.kind;
  tokens = h.chain.are;
  next = h.next;
  is_fault = file_fault L [] h.before h.chain.tokens h.token h.kind f.at (h.chain.in_file ∙ ap (λ x. shifted x h.chain.tokens) z) (subst (λ x. Stuck L deepest h.before (shift x h.token) h.kind) z h.stuck) (h.place_is ∙ ap (λ x. x + h.token.start) z);
  kind_is = h.kind_is;
}

pub in_files : (s : Source) (f : Fault) → s.base ≡ 0 → Fails Files deepest s 0 f → HasFault files s.text.now 0 f
in_files s f z h = has_fault files s 0 f z (fails_map Files files deepest deepest s 0 f (λ b t k. stuck_same Files files deepest b t k file_back file_into) h)

pub in_tails : (s : Source) (at : ℕ) (f : Fault) → s.base ≡ 0 → Fails Tails deepest s at f → HasFault tails s.text.now at f
in_tails s at f z h = has_fault tails s at f z (fails_map Tails tails deepest deepest s at f (λ b t k. stuck_same Tails tails deepest b t k tail_back tail_into) h)

-- the preface

pub stuck_preface : (b : List Placed) (t : Placed) (k : Kind) → Stuck Prefaces deepest b t k → Stuck prefaces deepest b t k
stuck_preface b t k s = stuck_same Prefaces prefaces deepest b t k preface_back preface_language s

pub stuck_in_file : (b : List Placed) (t : Placed) (k : Kind) → Stuck Prefaces deepest b t k → Stuck files deepest b t k
stuck_in_file b t k s = stuck_same Files files deepest b t k file_back file_into (stuck_first Prefaces Bodies deepest b t k (some_bodies deepest) s)

pub no_preface : (b : List Placed) (t : Placed) (k : Kind) (behind front rest : List Placed) (o : Opening) → Stuck prefaces deepest b t k → b ++ t ∷ behind ≡ front ++ rest → ¬ (IsPreface deepest front o)
no_preface b t k behind front rest o s e h =
    elim (fronts b t behind front rest (append_assoc b (t ∷ []) behind ∙ e))
    [ inl m ↦ s.stops (record { rest = m.0; sentence = (o, subst (λ x. IsPreface deepest x o) m.1 h) }) | inr m ↦ s.unfinished deepest front m.0 m.1 (o, h) ]

pub in_preface : (s : Source) (f : Fault) → s.base ≡ 0 → Fails Prefaces deepest s 0 f → HasPrefaceFault s.text.now f
in_preface s f z h =
    let e : h.before ≡ shifted 0 h.chain.tokens = h.chain.in_file ∙ ap (λ x. shifted x h.chain.tokens) z in
    let g : Stuck Prefaces deepest h.before (shift 0 h.token) h.kind = subst (λ x. Stuck Prefaces deepest h.before (shift x h.token) h.kind) z h.stuck in
    let p : f.at ≡ 0 + h.token.start = h.place_is ∙ ap (λ x. x + h.token.start) z in
    record {
      before = h.chain.tokens;
      place = h.place;
      token = h.token;
      kind = h.kind;
      tokens = h.chain.are;
      next = h.next;
      of_file = file_fault files [] h.before h.chain.tokens h.token h.kind f.at e (stuck_in_file h.before (shift 0 h.token) h.kind g) p;
      of_preface = file_fault prefaces [] h.before h.chain.tokens h.token h.kind f.at e (stuck_preface h.before (shift 0 h.token) h.kind g) p;
      none_whole = λ behind front rest o i. no_preface h.before (shift 0 h.token) h.kind behind front rest o (stuck_preface h.before (shift 0 h.token) h.kind g)
          (ap (λ x. x ++ shift 0 h.token ∷ behind) (e ∙ shifted_zero h.chain.tokens) ∙ (ap (λ x. h.chain.tokens ++ x ∷ behind) (shift_zero h.token) ∙ i));
      kind_is = h.kind_is;
    }

pub begins_preface : (s : Source) (end : ℕ) (o : Opening) → s.base ≡ 0 → o.data_at ≡ s.base + end → Covers (λ ts. IsPreface deepest ts o) s 0 end → BeginsPreface s.text.now o
begins_preface s end o z d c =
    let e : c.tokens ≡ c.chain.tokens = c.chain.in_file ∙ (ap (λ x. shifted x c.chain.tokens) z ∙ shifted_zero c.chain.tokens) in
    let g : end ≡ o.data_at = sym (zero-add end) ∙ (ap (λ x. x + end) (sym z) ∙ sym d) in
    (c.chain.tokens, subst (λ x. TokensUpTo s.text.now 0 c.chain.tokens x) g c.chain.are, subst (λ x. IsPreface deepest x o) e c.are)

-- the whole file

pub fails_body : (s : Source) (mid : ℕ) (o : Opening) (f : Fault) → Covers (λ ts. IsPreface deepest ts o) s 0 mid → Fails Bodies deepest s mid f → Fails Files deepest s 0 f
fails_body s mid o f c h = fails_second Prefaces Bodies deepest s 0 mid c.tokens f once_prefaces grows_prefaces c.chain (preface_into deepest c.tokens o c.are) h

pub fails_opening : (s : Source) (f : Fault) → Fails Prefaces deepest s 0 f → Fails Files deepest s 0 f
fails_opening s f h = fails_first Prefaces Bodies deepest s 0 f (some_bodies deepest) h

pub finishes_file : (s : Source) (mid : ℕ) (o : Opening) (is : List Instance) → Covers (λ ts. IsPreface deepest ts o) s 0 mid → Finishes (λ ts. IsBody ts is) s mid → Finishes (λ ts. IsFile deepest ts (record { opening = o; instances = is })) s 0
finishes_file s mid o is c h =
    finishes_behind s 0 mid c.tokens (λ ts. IsBody ts is) (λ ts. IsFile deepest ts (record { opening = o; instances = is })) c.chain
    (λ b p. record { opening = c.tokens; body = p.body; tail = p.rest; parts = ap (λ x. c.tokens ++ x) p.parts; is_opening = c.are; are_instances = p.are_instances; is_tail = p.is_tail }) h

pub is_file : (s : Source) (o : Opening) (is : List Instance) → s.base ≡ 0 → Finishes (λ ts. IsFile deepest ts (record { opening = o; instances = is })) s 0 → IsFileText s.text.now o is
is_file s o is z w =
    let e : w.tokens ≡ w.raw = w.in_file ∙ (ap (λ x. shifted x w.raw) z ∙ shifted_zero w.raw) in
    (w.raw, w.whole, subst (λ x. IsFile deepest x (record { opening = o; instances = is })) e w.are)

-- the tail

pub has_tail : (s : Source) (at : ℕ) (t : Placed) → s.base ≡ 0 → First s.text.now at t → t.token ≡ token.keyword endsec_word → Finishes IsBehindEndsec s t.after → HasTail s.text.now at
has_tail s at t z n e h =
    let w : Finishes IsTail s at = finishes_tail s at t n e h in
    let g : w.tokens ≡ w.raw = w.in_file ∙ (ap (λ x. shifted x w.raw) z ∙ shifted_zero w.raw) in
    (w.raw, w.whole, subst IsTail g w.are)

pub fails_behind_endsec : (s : Source) (at : ℕ) (t : Placed) (f : Fault) → First s.text.now at t → t.token ≡ token.keyword endsec_word → Fails TailOn deepest s t.after f → Fails Tails deepest s at f
fails_behind_endsec s at t f n e h = after_terminal (token.keyword endsec_word) TailOn deepest s at t f (keyword_goes endsec_word) n e h

-- a piece

pub in_piece : (s : Source) (p : Piece) (f : Fault) → s.text.now ≡ p.bytes.now → s.base ≡ p.at → Fails Pieces deepest s 0 f → HasPieceFault p f
in_piece s p f e b h = record {
  before = h.chain.tokens;
  place = h.place;
  token = h.token;
  kind = h.kind;
  tokens = subst (λ x. TokensUpTo x 0 h.chain.tokens h.place) e h.chain.are;
  next = subst (λ x. First x h.place h.token) e h.next;
  is_fault = subst (λ x. IsFault pieces x (shift p.at h.token) h.kind f.at) (h.chain.in_file ∙ ap (λ x. shifted x h.chain.tokens) b)
      (fault_at pieces h.before (shift p.at h.token) h.kind f.at (stuck_same Pieces pieces deepest h.before (shift p.at h.token) h.kind piece_back piece_into (subst (λ x. Stuck Pieces deepest h.before (shift x h.token) h.kind) b h.stuck)) (h.place_is ∙ ap (λ x. x + h.token.start) b));
  kind_is = h.kind_is;
}

pub starts_pieces : Starts Pieces NameToken
starts_pieces = starts_then Instances (Terminal token.end) NameToken starts_instances

pub some_pieces : Inhabited Pieces deepest
some_pieces = some_then Instances (Terminal token.end) deepest (some_instances 63) (some_terminal token.end deepest)

pub fails_no_piece : (s : Source) (t : Placed) (f : Fault) → First s.text.now 0 t → ((n : ℕ) → t.token ≡ token.name n → ⊥) → f.at ≡ s.base + t.start → f.kind ≡ fault_kind (kind_now t.token) → Fails Pieces deepest s 0 f
fails_no_piece s t f n h p k = fails_now Pieces deepest s 0 t f n (stuck_now Pieces NameToken deepest (shift s.base t) some_pieces starts_pieces (λ m. h m.0 m.1)) p k

pub fails_piece : (s : Source) (name : ℕ) (t : Placed) (f : Fault) → First s.text.now 0 t → t.token ≡ token.name name → Fails EqualsOn deepest s t.after f → Fails Pieces deepest s 0 f
fails_piece s name t f n e h = fails_first Instances (Terminal token.end) deepest s 0 f (some_terminal token.end deepest) (fails_instance s 0 name t n e f h)

pub fails_piece_end : (s : Source) (name mid : ℕ) (t : Placed) (i : Instance) (f : Fault) → First s.text.now 0 t → t.token ≡ token.name name → Covers (IsBehindName name (s.base + t.start) i) s t.after mid → Fails (Terminal token.end) deepest s mid f → Fails Pieces deepest s 0 f
fails_piece_end s name mid t i f n e c h =
    let w : Covers (λ ts. IsInstance deepest ts i) s 0 mid = covers_named s 0 name t n e mid i c in
    fails_second Instances (Terminal token.end) deepest s 0 mid w.tokens f once_instances grows_instances w.chain (instance_into deepest w.tokens i w.are) h

pub finishes_piece : (s : Source) (name mid : ℕ) (t end : Placed) (i : Instance) → First s.text.now 0 t → t.token ≡ token.name name → Covers (IsBehindName name (s.base + t.start) i) s t.after mid → First s.text.now mid end → end.token ≡ token.end → Finishes (λ ts. IsPiece deepest ts i) s 0
finishes_piece s name mid t end i n q c m g =
    let w : Covers (λ ts. IsInstance deepest ts i) s 0 mid = covers_named s 0 name t n q mid i c in
    finishes_behind s 0 mid w.tokens (λ ts. ts ≡ shift s.base end ∷ []) (λ ts. IsPiece deepest ts i) w.chain
    (λ x y. record { body = w.tokens; end = shift s.base end; parts = ap (λ z. w.tokens ++ z) y; is_instance = w.are; is_end = g }) (finishes_end s mid end m g)

pub is_piece : (s : Source) (p : Piece) (i : Instance) → s.text.now ≡ p.bytes.now → s.base ≡ p.at → Finishes (λ ts. IsPiece deepest ts i) s 0 → IsPieceText p i
is_piece s p i e b v = (v.raw, subst (λ x. Tokens x 0 v.raw) e v.whole, subst (λ x. IsPiece deepest x i) (v.in_file ∙ ap (λ x. shifted x v.raw) b) v.are)

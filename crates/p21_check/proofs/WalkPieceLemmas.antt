-- A piece that a walk passed is an instance without a fault by itself.
use Rattle.std.proofs.Common.{◌≡◌, ◌↔◌, ℕ, zero, suc, ◌+◌, ◌<◌, false, List, [], ◌∷◌, ◌++◌, Some, None, map, length, refl, sym, ap, subst, ◌∙◌, arith}
use Rattle.std.specs.Prelude.{slice_get}
use Rattle.std.proofs.lemmas.List.{map-append}
use Rattle.p21_express.specs.Schema.{Schema}
use Rattle.p21_express.specs.WellFormed.{IsEntity, IsWellFormed, Origin}
use Rattle.p21_text.specs.Spelling.{Symbol}
use Rattle.p21_text.specs.Spelling as token
use Rattle.p21_text.specs.Tokens.{Placed, First, IsLast, Tokens, TokensUpTo, symbols}
use Rattle.p21_text.specs.Tokens as text
use Rattle.p21_tree.specs.Grammar.{Entry, IsRecord}
use Rattle.p21_tree.specs.Grammar as grammar
use Rattle.p21_tree.specs.Plain.{plain, plain_all}
use Rattle.p21_tree.specs.Sentence.{Instance, IsInstance, IsPiece, deepest}
use Rattle.p21_tree.specs.Sentence as sentence
use Rattle.p21_tree.specs.Texts.{IsPieceText, shift, shifted}
use Rattle.p21_tree.specs.Tree.{Tree, Trees}
use Rattle.p21_tree.specs.Views.{plain_instance, plain_record}
use Rattle.p21_tree.specs.declared.instances.RawInstance.{RawInstance}
use Rattle.p21_tree.specs.declared.instances.Record.{Record}
use Rattle.p21_tree.specs.declared.params.Param.{Param}
use Rattle.p21_tree.specs.declared.pieces.Piece.{Piece}
use Rattle.p21_schema.specs.declared.ids.EntityId.{EntityId}
use Rattle.p21_schema.specs.Place.{IsEntityOf, entity_name}
use Rattle.p21_check.specs.declared.leaf.Passed.{Passed}
use Rattle.p21_check.specs.declared.referred.Reference.{Reference as Kept}
use Rattle.p21_check.specs.declared.piece_walk.Head.{Head}
use Rattle.p21_check.specs.declared.piece_walk.Walked.{Walked}
use Rattle.p21_check.specs.Asked.{AskedBy}
use Rattle.p21_check.specs.Attributes.{AreAttributes}
use Rattle.p21_check.specs.EntityOf.{IsSimpleOf}
use Rattle.p21_check.specs.EntitySet.{IsInSet}
use Rattle.p21_check.specs.Instances.{simple_instance}
use Rattle.p21_check.specs.LocalFault.{IsAbstract, IsLocalFault, tree_get}
use Rattle.p21_check.specs.Passed.{StandInRow}
use Rattle.p21_check.specs.References.{Reference, HasReference, names_count}
use Rattle.p21_check.specs.Referred.{Adds, AreReferencesOf, HasSomewhere, Somewhere, Stand}
use Rattle.p21_check.specs.WalkPiece.{IsClosed, IsHead, IsWalked}
use Rattle.p21_check.specs.WalkRecord.{AskedByOne, FitSlots, SetOf, WalksParameters}
use Rattle.p21_check.proofs.AskerLemmas.{asked_reference, reference_asked}
use Rattle.p21_check.proofs.AttributeLemmas.{one_list}
use Rattle.p21_check.proofs.BodyLemmas.{items_have}
use Rattle.p21_check.proofs.DistinctLemmas.{unruled}
use Rattle.p21_check.proofs.ElementLemmas.{count_all}
use Rattle.p21_check.proofs.InstanceLemmas.{not_wrong_at, unfit_along, unfit_at, simple_concrete, simple_counted, simple_fit, simple_known, simple_set, simple_whole}
use Rattle.p21_check.proofs.LocalLemmas.{no_fault}
use Rattle.p21_check.proofs.PassedLemmas.{close_not_last, key_not_last, open_not_last, symbols_append, up_to_then}
use Rattle.p21_check.proofs.ReferredLemmas.{adds_same}
use Rattle.p21_check.proofs.SetLemmas.{is_entity}
use Rattle.p21_check.proofs.Tests.{turned}

-- ---- tokens

up_to_tokens : {s : List ℕ} {a b : ℕ} {ts us : List Placed} → TokensUpTo s a ts b → Tokens s b us → Tokens s a (ts ++ us)
up_to_tokens text.none h = h
up_to_tokens (text.more f n r) h = text.more f n (up_to_tokens r h)

symbols_shifted : (base : ℕ) (ts : List Placed) → symbols (shifted base ts) ≡ symbols ts
symbols_shifted base [] = refl
symbols_shifted base (t ∷ ts) = ap (λ x. t.token ∷ x) (symbols_shifted base ts)

name_not_last : {s : Symbol} (n : ℕ) → s ≡ token.name n → ¬ (IsLast s)
name_not_last n e h = elim (subst IsLast e h) [ ]

equals_not_last : {s : Symbol} → s ≡ token.equals → ¬ (IsLast s)
equals_not_last e h = elim (subst IsLast e h) [ ]

semi_not_last : {s : Symbol} → s ≡ token.semi → ¬ (IsLast s)
semi_not_last e h = elim (subst IsLast e h) [ ]

-- ---- the references of a simple instance, by its parameters

module _ (s : Schema) (w : IsWellFormed s) (name at : ℕ) (e : Entry) (S : List ℕ → Type 0) (set : (n : List ℕ) → S n ↔ IsInSet s (simple_instance name at e) n) (os : List Origin) (are : AreAttributes s false e.keyword os) where
  abbrev one : Instance
  one = simple_instance name at e

  turn : (n : List ℕ) → IsInSet s one n ↔ S n
  turn n = turned (set n)

  abbrev Asked : Reference → Type 0
  Asked r = (a : ℕ) × (o : Origin) × (t : Tree) × (slice_get os a ≡ Some o) × (tree_get e.params a ≡ Some t) × Somewhere (AskedBy s S o t) r

  somewhere_asked : (r : Reference) → HasSomewhere s one r → Asked r
  somewhere_asked r h = first h.0 h.1 h.2 h.3 where
    first : (q a place : ℕ) → HasReference s one q a place r → Asked r
    first zero a place h =
        let same : h.entry ≡ e = (let x = h.there in cc) in
        let are' = subst (λ (z : Entry). AreAttributes s false z.keyword h.attributes) same h.are in
        (a, h.attribute, h.parameter, subst (λ (xs : List Origin). slice_get xs a ≡ Some h.attribute) (one_list s w are' are) h.for_, subst (λ (z : Entry). tree_get z.params a ≡ Some h.parameter) same h.given, (place, reference_asked s one S 0 a place r turn h))
    first (suc q) a place h = absurd (let x = h.there in cc)

  asked_somewhere : (r : Reference) → Asked r → HasSomewhere s one r
  asked_somewhere r h = (0, h.0, h.5.0, asked_reference s one S 0 h.0 h.5.0 r e os h.1 h.2 turn refl are h.3 h.4 h.5.1)

-- ---- the instance

module _ (s : Schema) (fits : IsWellFormed s) (off : s.distinct ≡ false) (p : Piece) (h : Head) (head : IsHead s p.bytes.now h) (r : Passed) (os : List Origin) (are' : AreAttributes s false (entity_name s h.entity) os) (refs : List Kept)
    (walks : WalksParameters s (SetOf s h.entity) os (length os) p.bytes.now h.after [] refs r) (closed : IsClosed p.bytes.now r.after) where
  abbrev ps : List Param
  ps = walks.params

  abbrev rec_ : Record
  rec_ = record { keyword = h.keyword; params = ps; bodies = items_have ps walks.stand.bodies }

  abbrev raw : RawInstance
  raw = record { name = h.name; at = p.at + h.start; complex = false; records = rec_ ∷ []; some = omega arith; single = λ e. refl }

  abbrev entry : Entry
  entry = plain_record rec_

  are : AreAttributes s false entry.keyword os
  are = subst (λ n. AreAttributes s false n os) head.named are'

  -- its tokens

  abbrev inner : List Placed
  inner = head.keyword ∷ head.open_ ∷ (walks.stand.tokens ++ closed.close ∷ [])

  abbrev body : List Placed
  body = head.name ∷ head.equals ∷ (inner ++ closed.semi ∷ [])

  row : TokensUpTo p.bytes.now head.open_.after walks.stand.tokens r.after
  row = subst (λ n. TokensUpTo p.bytes.now n walks.stand.tokens r.after) (sym head.after_is) walks.stand.up_to

  inner_up_to : TokensUpTo p.bytes.now head.equals.after inner closed.close.after
  inner_up_to =
      text.more head.keyword_first (key_not_last h.keyword.now head.keyword_is)
      (text.more head.open_first (open_not_last head.open_is) (up_to_then row (text.more closed.close_first (close_not_last closed.close_is) text.none)))

  body_up_to : TokensUpTo p.bytes.now 0 body closed.semi.after
  body_up_to =
      text.more head.name_first (name_not_last h.name head.name_is)
      (text.more head.equals_first (equals_not_last head.equals_is) (up_to_then inner_up_to (text.more closed.semi_first (semi_not_last closed.semi_is) text.none)))

  all_tokens : Tokens p.bytes.now 0 (body ++ closed.end ∷ [])
  all_tokens = up_to_tokens body_up_to (text.last closed.end_first (subst IsLast (sym closed.end_is) text.at_end))

  parts : token.keyword h.keyword.now ∷ token.lparen ∷ (symbols walks.stand.tokens ++ token.rparen ∷ []) ≡ symbols inner
  parts =
      ap (λ x. x ∷ token.lparen ∷ (symbols walks.stand.tokens ++ token.rparen ∷ [])) (sym head.keyword_is) ∙ ap (λ x. head.keyword.token ∷ x ∷ (symbols walks.stand.tokens ++ token.rparen ∷ [])) (sym head.open_is)
      ∙ ap (λ x. head.keyword.token ∷ head.open_.token ∷ (symbols walks.stand.tokens ++ x ∷ [])) (sym closed.close_is) ∙ ap (λ x. head.keyword.token ∷ head.open_.token ∷ x) (sym (symbols_append walks.stand.tokens (closed.close ∷ [])))

  is_record : IsRecord deepest (symbols (shifted p.at inner)) entry
  is_record = subst (λ u. IsRecord deepest u entry) (parts ∙ sym (symbols_shifted p.at inner)) (grammar.made grammar.standard (grammar.params walks.stand.are_params))

  is_instance : IsInstance deepest (shifted p.at body) (record { name = h.name; at = p.at + head.name.start; complex = false; records = entry ∷ [] })
  is_instance =
      subst (λ ts. IsInstance deepest (shift p.at head.name ∷ shift p.at head.equals ∷ ts) (record { name = h.name; at = p.at + head.name.start; complex = false; records = entry ∷ [] })) (sym (map-append (shift p.at) inner (closed.semi ∷ [])))
      (sentence.simple (shift p.at head.name) (shift p.at head.equals) (shifted p.at inner) (shift p.at closed.semi) head.name_is head.equals_is is_record closed.semi_is)

  is_piece : IsPiece deepest (shifted p.at (body ++ closed.end ∷ [])) (plain_instance raw)
  is_piece = record {
    body = shifted p.at body;
    end = shift p.at closed.end;
    parts = map-append (shift p.at) body (closed.end ∷ []);
    is_instance = subst (λ n. IsInstance deepest (shifted p.at body) (record { name = h.name; at = p.at + n; complex = false; records = entry ∷ [] })) head.start_is is_instance;
    is_end = closed.end_is;
  }

  -- it has no fault by itself

  abbrev i : Instance
  i = simple_instance h.name (p.at + h.start) entry

  abbrev S : List ℕ → Type 0
  S = SetOf s h.entity

  set : (n : List ℕ) → S n ↔ IsInSet s i n
  set = simple_set s h.name (p.at + h.start) entry h.entity head.known_ head.named

  sound : IsLocalFault s i None
  sound =
      no_fault s i (simple_known s h.name (p.at + h.start) entry (subst (IsEntity s) head.named (is_entity s h.entity head.known_))) (simple_concrete s h.name (p.at + h.start) entry head.concrete) (simple_whole s h.name (p.at + h.start) entry)
      (simple_counted s h.name (p.at + h.start) entry (not_wrong_at s fits i 0 entry refl os are (count_all ps ∙ walks.counted)))
      (simple_fit s h.name (p.at + h.start) entry (λ b bad. let u = unfit_along s (IsInSet s i) S os entry.params b (λ n. turned (set n)) (unfit_at s fits i 0 entry refl os are b bad) in u.4 (walks.fit b u.0 u.1 u.2 u.3)))
      (λ q b. unruled s i q b off)

  -- and these references

  refer : Adds s (HasSomewhere s i) [] refs
  refer = adds_same s (AskedByOne s S os ps) (HasSomewhere s i) [] refs (λ x. (somewhere_asked s fits h.name (p.at + h.start) entry S set os are x, asked_somewhere s fits h.name (p.at + h.start) entry S set os are x)) walks.refer

  pub walked : (w : Walked) → w.name ≡ h.name → w.at ≡ p.at + h.start → w.entity ≡ h.entity → w.references.items ≡ refs → w.written ≡ r.written → (x : RawInstance) × IsWalked s p x w
  walked w name_is at_is entity_is refs_are written = (
    raw,
    record {
      text = (body ++ closed.end ∷ [], all_tokens, is_piece);
      name_is = sym name_is;
      at_is = sym at_is;
      own = subst (IsSimpleOf s (plain_instance raw)) (sym entity_is) (record { simple = refl; known_ = head.known_; keyword = ap (λ k. k ∷ []) (sym head.named) });
      sound = sound;
      refers = subst (Stand s (HasSomewhere s i)) (sym (refs_are ∙ refer.1)) refer.2;
      entry = entry;
      records_are = refl;
      written = written ∙ walks.stand.written;
    },
  )

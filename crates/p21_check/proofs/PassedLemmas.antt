-- Parameters that a walk passed, one behind the other.
use Rattle.std.specs.Prelude.{Result, IfOk, IfSome}
use Rattle.std.proofs.Common.{◌≡◌, Option, Some, None, Ok, Err, ◌⊎◌, ◌↔◌, ⊎_elim, inl, inr, ℕ, suc, ◌+◌, ◌-◌, ◌<◌, ◌≤◌, ◌^◌, Bool, List, [], ◌∷◌, ◌++◌, length, refl, sym, ap, subst, ◌∙◌, append_assoc, arith, Vec, Box, Bor, Global}
use denote.RawPtr.{null_ptr}
use Rattle.p21_express.specs.Schema.{Schema, Expr, named}
use Rattle.p21_text.specs.Contents.{IsContent}
use Rattle.p21_text.specs.Spelling.{Symbol}
use Rattle.p21_text.specs.Spelling as token
use Rattle.p21_text.specs.Tokens.{Placed, First, IsLast, TokensUpTo, symbols}
use Rattle.p21_text.specs.Tokens as text
use Rattle.p21_tree.specs.Bodies.{HasBodies, HaveBodies}
use Rattle.p21_tree.specs.Grammar.{IsKey, IsLeaf, IsParam, IsParams}
use Rattle.p21_tree.specs.Grammar as grammar
use Rattle.p21_tree.specs.Plain.{plain, plain_all}
use Rattle.p21_tree.specs.Tree.{Tree, Trees, nil, cons, trees_append}
use Rattle.p21_tree.specs.Tree as tree
use Rattle.p21_tree.specs.declared.params.Param.{Param}
use Rattle.p21_tree.specs.declared.params.Param.TheVariants as param
use Rattle.p21_tree.specs.declared.params.Param.TheViews.{Items, Typed}
use Rattle.p21_check.specs.declared.leaf.Leaf.{Leaf}
use Rattle.p21_check.specs.declared.leaf.Passed.{Passed}
use Rattle.p21_check.specs.declared.referred.Reference.{Reference as Kept}
use Rattle.p21_check.specs.declared.wanted.Wanted.{Wanted}
use Rattle.p21_schema.specs.declared.ids.TypeId.{TypeId}
use Rattle.p21_schema.specs.Place.{type_name}
use Rattle.p21_check.specs.declared.shape.Elements.{Elements}
use Rattle.p21_check.specs.Shape.{IsCountBy, TakesElements, TakesTyped}
use Rattle.p21_check.specs.Conforms.{Conforms, AreElements}
use Rattle.p21_check.specs.Conforms as conforms
use Rattle.p21_check.specs.Known.{IsElement}
use Rattle.p21_check.specs.Passed.{IsLeafOf, Stands, StandInRow, WalksElements, WalksValue}
use Rattle.p21_check.specs.References.{Reference, name_count, names_count}
use Rattle.p21_check.specs.Referred.{Adds, Somewhere}
use Rattle.p21_check.specs.Wanted.{Asks, AsksAmong, IsAskedInside, IsAskedOfElements}
use Rattle.p21_check.specs.Wanted as asks
use Rattle.p21_check.proofs.ElementLemmas.{elements_more}
use Rattle.p21_check.proofs.PlainLemmas.{plain_absent, plain_derived, plain_int, plain_real, plain_str, plain_enumeration, plain_binary, plain_reference, plain_items, plain_typed}
use Rattle.p21_check.proofs.ReferredLemmas.{adds_both, adds_same, items_asked, typed_asked}

-- ---- tokens

pub up_to_then : {s : List ℕ} {a b c : ℕ} {ts us : List Placed} → TokensUpTo s a ts b → TokensUpTo s b us c → TokensUpTo s a (ts ++ us) c
up_to_then text.none h = h
up_to_then (text.more f n r) h = text.more f n (up_to_then r h)

pub symbols_append : (ts us : List Placed) → symbols (ts ++ us) ≡ symbols ts ++ symbols us
symbols_append [] us = refl
symbols_append (t ∷ ts) us = ap (λ x. t.token ∷ x) (symbols_append ts us)

pub leaf_not_last : {s : Symbol} {t : Tree} → IsLeaf s t → ¬ (IsLast s)
leaf_not_last grammar.absent h = elim h [ ]
leaf_not_last grammar.derived h = elim h [ ]
leaf_not_last grammar.int h = elim h [ ]
leaf_not_last grammar.real h = elim h [ ]
leaf_not_last grammar.str h = elim h [ ]
leaf_not_last grammar.reference h = elim h [ ]
leaf_not_last grammar.enumeration h = elim h [ ]
leaf_not_last grammar.binary h = elim h [ ]

pub leaf_bodies : {s : Symbol} {t : Tree} → IsLeaf s t → IsContent s → HasBodies t
leaf_bodies grammar.absent h = tt
leaf_bodies grammar.derived h = tt
leaf_bodies grammar.int h = tt
leaf_bodies grammar.real h = tt
leaf_bodies grammar.str h = h
leaf_bodies grammar.reference h = tt
leaf_bodies grammar.enumeration h = tt
leaf_bodies grammar.binary h = ∣ h ∣₁

-- a leaf names at most one instance
pub leaf_names : {s : Symbol} {t : Tree} → IsLeaf s t → name_count t ≤ 1
leaf_names grammar.absent = omega arith
leaf_names grammar.derived = omega arith
leaf_names grammar.int = omega arith
leaf_names grammar.real = omega arith
leaf_names grammar.str = omega arith
leaf_names grammar.reference = omega arith
leaf_names grammar.enumeration = omega arith
leaf_names grammar.binary = omega arith

pub comma_not_last : {s : Symbol} → s ≡ token.comma → ¬ (IsLast s)
comma_not_last e h = elim (subst IsLast e h) [ ]

pub open_not_last : {s : Symbol} → s ≡ token.lparen → ¬ (IsLast s)
open_not_last e h = elim (subst IsLast e h) [ ]

pub close_not_last : {s : Symbol} → s ≡ token.rparen → ¬ (IsLast s)
close_not_last e h = elim (subst IsLast e h) [ ]

pub key_not_last : {s : Symbol} (k : List ℕ) → s ≡ token.keyword k → ¬ (IsLast s)
key_not_last k e h = elim (subst IsLast e h) [ ]

-- ---- leaves

leaf_by : (s : Symbol) (p : Param) (n : ℕ) (t : Tree) → plain p ≡ t → IsLeaf s t → n ≡ name_count t → IsLeafOf s (record { param = p; written = n })
leaf_by s p n t e l c = record { is_leaf = subst (IsLeaf s) (sym e) l; written = c ∙ ap name_count (sym e) }

pub int_leaf : (v : Bor (List ℕ)) → IsLeafOf (token.int v.now) (record { param = param.Int v; written = 0 })
int_leaf v = leaf_by (token.int v.now) (param.Int v) 0 (tree.int v.now) (plain_int v refl) grammar.int refl

pub real_leaf : (v : Bor (List ℕ)) → IsLeafOf (token.real v.now) (record { param = param.Real v; written = 0 })
real_leaf v = leaf_by (token.real v.now) (param.Real v) 0 (tree.real v.now) (plain_real v refl) grammar.real refl

pub str_leaf : (v : Bor (List ℕ)) → IsLeafOf (token.str v.now) (record { param = param.Str v; written = 0 })
str_leaf v = leaf_by (token.str v.now) (param.Str v) 0 (tree.str v.now) (plain_str v refl) grammar.str refl

pub name_leaf : (n : ℕ) → IsLeafOf (token.name n) (record { param = param.Ref n; written = 1 })
name_leaf n = leaf_by (token.name n) (param.Ref n) 1 (tree.reference n) (plain_reference n refl) grammar.reference refl

pub enumeration_leaf : (v : Bor (List ℕ)) → IsLeafOf (token.enumeration v.now) (record { param = param.Enumeration v; written = 0 })
enumeration_leaf v = leaf_by (token.enumeration v.now) (param.Enumeration v) 0 (tree.enumeration v.now) (plain_enumeration v refl) grammar.enumeration refl

pub binary_leaf : (v : Bor (List ℕ)) → IsLeafOf (token.binary v.now) (record { param = param.Binary v; written = 0 })
binary_leaf v = leaf_by (token.binary v.now) (param.Binary v) 0 (tree.binary v.now) (plain_binary v refl) grammar.binary refl

pub absent_leaf : IsLeafOf token.dollar (record { param = param.Absent; written = 0 })
absent_leaf = leaf_by token.dollar param.Absent 0 tree.absent (plain_absent refl) grammar.absent refl

pub derived_leaf : IsLeafOf token.star (record { param = param.Derived; written = 0 })
derived_leaf = leaf_by token.star param.Derived 0 tree.derived (plain_derived refl) grammar.derived refl

-- a leaf stands where its token does
pub leaf_stands : (left : ℕ) (b : List ℕ) (at : ℕ) (l : Placed) (leaf : Leaf) → First b at l → IsLeafOf l.token leaf → IsContent l.token → Stands left b at (record { after = l.after; written = leaf.written }) leaf.param
leaf_stands left b at l leaf first is content = record {
  tokens = l ∷ [];
  up_to = text.more first (leaf_not_last is.is_leaf) text.none;
  is_param = grammar.leaf is.is_leaf;
  bodies = leaf_bodies is.is_leaf content;
  written = is.written;
}

-- ---- parameters in a row

pub all_more : (ps : List Param) (p : Param) → plain_all (ps ++ p ∷ []) ≡ trees_append (plain_all ps) (plain p)
all_more [] p = refl
all_more (q ∷ ps) p = ap (cons (plain q)) (all_more ps p)

names_more : (ts : Trees) (t : Tree) → names_count (trees_append ts t) ≡ names_count ts + name_count t
names_more nil t = omega arith
names_more (cons u ts) t = let e = names_more ts t in omega (arith, e)

bodies_more : (ts : Trees) (t : Tree) → HaveBodies ts → HasBodies t → HaveBodies (trees_append ts t)
bodies_more nil t h b = (b, tt)
bodies_more (cons u ts) t h b = (h.0, bodies_more ts t h.1 b)

params_more : {left : ℕ} {xs ys : List Symbol} {ts : Trees} {t : Tree} → IsParams left xs ts → IsParam left ys t → IsParams left (xs ++ token.comma ∷ ys) (trees_append ts t)
params_more (grammar.one p) q = grammar.comma p (grammar.one q)
params_more {left} {xs} {ys} {ts} {t} (grammar.comma {tokens = ws} {others = zs} {t = f} {ts = us} p ps) q =
    subst (λ u. IsParams left u (cons f (trees_append us t))) (sym (append_assoc ws (token.comma ∷ zs) (token.comma ∷ ys))) (grammar.comma p (params_more ps q))

pub row_first : (left : ℕ) (b : List ℕ) (at : ℕ) (r : Passed) (p : Param) → Stands left b at r p → StandInRow left b at r (p ∷ [])
row_first left b at r p h = record {
  tokens = h.tokens;
  up_to = h.up_to;
  are_params = grammar.one h.is_param;
  bodies = (h.bodies, tt);
  written = (let e = h.written in omega (arith, e));
}

pub row_more : (left : ℕ) (b : List ℕ) (at : ℕ) (r q : Passed) (ps : List Param) (p : Param) (l : Placed) → StandInRow left b at r ps → First b r.after l → l.token ≡ token.comma → Stands left b l.after q p → StandInRow left b at (record { after = q.after; written = r.written + q.written }) (ps ++ p ∷ [])
row_more left b at r q ps p l h first is_comma v =
    let parts : symbols h.tokens ++ token.comma ∷ symbols v.tokens ≡ symbols (h.tokens ++ l ∷ v.tokens) = ap (λ x. symbols h.tokens ++ x ∷ symbols v.tokens) (sym is_comma) ∙ sym (symbols_append h.tokens (l ∷ v.tokens)) in
    let all = sym (all_more ps p) in
    let counted : r.written + q.written ≡ names_count (trees_append (plain_all ps) (plain p)) = (let e = h.written in let f = v.written in let g = names_more (plain_all ps) (plain p) in omega (arith, e, f, g)) in
    record {
      tokens = h.tokens ++ l ∷ v.tokens;
      up_to = up_to_then h.up_to (text.more first (comma_not_last is_comma) v.up_to);
      are_params = subst (IsParams left (symbols (h.tokens ++ l ∷ v.tokens))) all (subst (λ u. IsParams left u (trees_append (plain_all ps) (plain p))) parts (params_more h.are_params v.is_param));
      bodies = subst HaveBodies all (bodies_more (plain_all ps) (plain p) h.bodies v.bodies);
      written = counted ∙ ap names_count all;
    }

-- ---- elements

pub count_more : (ps : List Param) (p : Param) → length (ps ++ p ∷ []) ≡ length ps + 1
count_more [] p = refl
count_more (q ∷ ps) p = let e = count_more ps p in omega (arith, e)

fit_more : (s : Schema) (o : Bool) (e : Expr) (ts : Trees) (t : Tree) → AreElements s o e ts → IsElement s o e t → AreElements s o e (trees_append ts t)
fit_more s o e ts t conforms.none f = elements_more f conforms.none
fit_more s o e (cons u ts) t (conforms.more g h) f = conforms.more g (fit_more s o e ts t h f)
fit_more s o e (cons u ts) t (conforms.left_out h) f = conforms.left_out (fit_more s o e ts t h f)

among_split : (s : Schema) (w : Wanted) (ts : Trees) (t : Tree) (k : ℕ) (r : Reference) → AsksAmong s w (trees_append ts t) k r → Somewhere (AsksAmong s w ts) r ⊎ Somewhere (Asks s w t) r
among_split s w nil t k r (asks.here a) = inr (k, a)
among_split s w nil t _ r (asks.behind {place = k} a) = absurd (elim a [ ])
among_split s w (cons u ts) t k r (asks.here a) = inl (k, asks.here a)
among_split s w (cons u ts) t _ r (asks.behind {place = k} a) =
    ⊎_elim (λ (h : Somewhere (AsksAmong s w ts) r). inl (name_count u + h.0, asks.behind h.1)) (λ (h : Somewhere (Asks s w t) r). inr h) (among_split s w ts t k r a)

among_front : (s : Schema) (w : Wanted) (ts : Trees) (t : Tree) (k : ℕ) (r : Reference) → AsksAmong s w ts k r → Somewhere (AsksAmong s w (trees_append ts t)) r
among_front s w nil t k r a = elim a [ ]
among_front s w (cons u ts) t k r (asks.here a) = (k, asks.here a)
among_front s w (cons u ts) t _ r (asks.behind {place = k} a) = let h = among_front s w ts t k r a in (name_count u + h.0, asks.behind h.1)

among_last : (s : Schema) (w : Wanted) (ts : Trees) (t : Tree) (k : ℕ) (r : Reference) → Asks s w t k r → Somewhere (AsksAmong s w (trees_append ts t)) r
among_last s w nil t k r a = (k, asks.here a)
among_last s w (cons u ts) t k r a = let h = among_last s w ts t k r a in (name_count u + h.0, asks.behind h.1)

adds_last : (s : Schema) (w : Wanted) (ts : Trees) (t : Tree) (xs ys zs : List Kept) → Adds s (Somewhere (AsksAmong s w ts)) xs ys → Adds s (Somewhere (Asks s w t)) ys zs → Adds s (Somewhere (AsksAmong s w (trees_append ts t))) xs zs
adds_last s w ts t xs ys zs =
    adds_both s (Somewhere (AsksAmong s w ts)) (Somewhere (Asks s w t)) (Somewhere (AsksAmong s w (trees_append ts t))) xs ys zs
    (λ r. (
      λ h. among_split s w ts t h.0 r h.1,
      ⊎_elim (λ (h : Somewhere (AsksAmong s w ts) r). among_front s w ts t h.0 r h.1) (λ (h : Somewhere (Asks s w t) r). among_last s w ts t h.0 r h.1),
    ))

one_among : (s : Schema) (w : Wanted) (t : Tree) (r : Reference) → Somewhere (AsksAmong s w (cons t nil)) r ↔ Somewhere (Asks s w t) r
one_among s w t r = (λ h. there h.0 h.1, λ h. (h.0, asks.here h.1)) where
  there : (k : ℕ) → AsksAmong s w (cons t nil) k r → Somewhere (Asks s w t) r
  there k (asks.here a) = (k, a)
  there _ (asks.behind {place = k} a) = absurd (elim a [ ])

pub elements_first : (s : Schema) (o : Bool) (e : Expr) (w : Wanted) (left : ℕ) (b : List ℕ) (at : ℕ) (old new : List Kept) (r : Passed) → WalksValue s o e w left b at old new r → WalksElements s o e w left b at 1 old new r
elements_first s o e w left b at old new r h = record {
  params = h.param ∷ [];
  stand = row_first left b at r h.param h.stands;
  counted = refl;
  fit = elements_more h.fits conforms.none;
  refer = adds_same s (Somewhere (Asks s w (plain h.param))) (Somewhere (AsksAmong s w (cons (plain h.param) nil))) old new (one_among s w (plain h.param)) h.refers;
}

pub elements_then : (s : Schema) (o : Bool) (e : Expr) (w : Wanted) (left : ℕ) (b : List ℕ) (at count : ℕ) (old new newer : List Kept) (r q : Passed) (l : Placed) → WalksElements s o e w left b at count old new r → First b r.after l → l.token ≡ token.comma → WalksValue s o e w left b l.after new newer q
    → WalksElements s o e w left b at (count + 1) old newer (record { after = q.after; written = r.written + q.written })
elements_then s o e w left b at count old new newer r q l h first is_comma v =
    let all = sym (all_more h.params v.param) in
    record {
      params = h.params ++ v.param ∷ [];
      stand = row_more left b at r q h.params v.param l h.stand first is_comma v.stands;
      counted = count_more h.params v.param ∙ ap (λ n. n + 1) h.counted;
      fit = subst (AreElements s o e) all (fit_more s o e (plain_all h.params) (plain v.param) h.fit v.fits);
      refer = subst (λ ts. Adds s (Somewhere (AsksAmong s w ts)) old newer) all (adds_last s w (plain_all h.params) (plain v.param) old new newer h.refer v.refers);
    }

-- ---- lists and typed values

-- the vector of a list
abbrev pub vector : Global → (ps : List Param) → length ps < 2 ^ 63 → Vec Param Global
vector g ps few = record { ptr = null_ptr; len = length ps; cap = length ps; alloc = g; items = ps; ok = (refl, omega arith); small = few }

pub list_stands : (g : Global) (left : ℕ) (b : List ℕ) (at : ℕ) (r : Passed) (ps : List Param) (few : length ps < 2 ^ 63) (o c : Placed) → First b at o → o.token ≡ token.lparen → StandInRow left b o.after r ps → First b r.after c → c.token ≡ token.rparen
    → Stands (suc left) b at (record { after = c.after; written = r.written }) (Items (vector g ps few))
list_stands g left b at r ps few o c fo is_open h fc is_close =
    let parts : token.lparen ∷ (symbols h.tokens ++ token.rparen ∷ []) ≡ symbols (o ∷ (h.tokens ++ c ∷ [])) =
    ap (λ x. x ∷ (symbols h.tokens ++ token.rparen ∷ [])) (sym is_open) ∙ ap (λ x. o.token ∷ (symbols h.tokens ++ x ∷ [])) (sym is_close) ∙ ap (λ x. o.token ∷ x) (sym (symbols_append h.tokens (c ∷ []))) in
    let is : tree.items (plain_all ps) ≡ plain (Items (vector g ps few)) = sym (plain_items (vector g ps few) refl) in
    record {
      tokens = o ∷ (h.tokens ++ c ∷ []);
      up_to = text.more fo (open_not_last is_open) (up_to_then h.up_to (text.more fc (close_not_last is_close) text.none));
      is_param = subst (IsParam (suc left) (symbols (o ∷ (h.tokens ++ c ∷ [])))) is (subst (λ u. IsParam (suc left) u (tree.items (plain_all ps))) parts (grammar.list (grammar.params h.are_params)));
      bodies = subst HasBodies is h.bodies;
      written = h.written ∙ ap name_count is;
    }

-- a box with a parameter
abbrev pub box : Global → Param → Box Param Global
box g p = record { ptr = null_ptr; alloc = g; value = p }

pub typed_stands : (g : Global) (left : ℕ) (b : List ℕ) (at : ℕ) (r : Passed) (p : Param) (keyword : Bor (List ℕ)) (k o c : Placed) → First b at k → k.token ≡ token.keyword keyword.now → First b k.after o → o.token ≡ token.lparen → Stands left b o.after r p → First b r.after c → c.token ≡ token.rparen
    → Stands (suc left) b at (record { after = c.after; written = r.written }) (Typed keyword (box g p))
typed_stands g left b at r p keyword k o c fk is_key fo is_open h fc is_close =
    let key = token.keyword keyword.now in
    let parts : key ∷ token.lparen ∷ (symbols h.tokens ++ token.rparen ∷ []) ≡ symbols (k ∷ o ∷ (h.tokens ++ c ∷ [])) =
    ap (λ x. x ∷ token.lparen ∷ (symbols h.tokens ++ token.rparen ∷ [])) (sym is_key) ∙ ap (λ x. k.token ∷ x ∷ (symbols h.tokens ++ token.rparen ∷ [])) (sym is_open) ∙ ap (λ x. k.token ∷ o.token ∷ (symbols h.tokens ++ x ∷ [])) (sym is_close)
    ∙ ap (λ x. k.token ∷ o.token ∷ x) (sym (symbols_append h.tokens (c ∷ []))) in
    let is : tree.typed keyword.now (plain p) ≡ plain (Typed keyword (box g p)) = sym (plain_typed keyword (box g p) refl) in
    record {
      tokens = k ∷ o ∷ (h.tokens ++ c ∷ []);
      up_to = text.more fk (key_not_last keyword.now is_key) (text.more fo (open_not_last is_open) (up_to_then h.up_to (text.more fc (close_not_last is_close) text.none)));
      is_param = subst (IsParam (suc left) (symbols (k ∷ o ∷ (h.tokens ++ c ∷ [])))) is (subst (λ u. IsParam (suc left) u (tree.typed keyword.now (plain p))) parts (grammar.typed grammar.standard h.is_param));
      bodies = subst HasBodies is h.bodies;
      written = h.written ∙ ap name_count is;
    }

-- a leaf takes a byte at least
pub leaf_counts : (s : Symbol) (l : Leaf) (start after : ℕ) → IsLeafOf s l → (¬ (IsLast s) → start < after) → l.written + start ≤ after
leaf_counts s l start after h goes = let g = goes (leaf_not_last h.is_leaf) in let e = h.written in let f = leaf_names h.is_leaf in omega (arith, e, f, g)

-- a typed value, from the one in its parentheses
pub value_typed : (g : Global) (s : Schema) (optional : Bool) (e : Expr) (w inner : Wanted) (left : ℕ) (b : List ℕ) (at : ℕ) (old new : List Kept) (r : Passed) (keyword : Bor (List ℕ)) (id : TypeId) (k o c : Placed) (p : Param) → 0 < left → TakesTyped s e keyword.now id → IsAskedInside s w inner keyword.now → First b at k → k.token ≡ token.keyword keyword.now → First b k.after o → o.token ≡ token.lparen → Stands (left - 1) b o.after r p → First b r.after c → c.token ≡ token.rparen
    → Conforms s (named (type_name s id)) (plain p) → Adds s (Somewhere (Asks s inner (plain p))) old new → WalksValue s optional e w left b at old new (record { after = c.after; written = r.written })
value_typed g s optional e w inner left b at old new r keyword id k o c p some takes asked fk is_key fo is_open h fc is_close fits refers =
    let is : plain (Typed keyword (box g p)) ≡ tree.typed keyword.now (plain p) = plain_typed keyword (box g p) refl in
    let one : suc (left - 1) ≡ left = omega (arith, some) in
    record {
      param = Typed keyword (box g p);
      stands = subst (λ n. Stands n b at (record { after = c.after; written = r.written }) (Typed keyword (box g p))) one (typed_stands g (left - 1) b at r p keyword k o c fk is_key fo is_open h fc is_close);
      fits = inr (subst (Conforms s e) (sym is) (takes (plain p) fits));
      refers = adds_same s (Somewhere (Asks s inner (plain p))) (Somewhere (Asks s w (plain (Typed keyword (box g p))))) old new (typed_asked s w inner (plain (Typed keyword (box g p))) (plain p) keyword.now is asked) refers;
    }

-- a list, from its elements
pub value_listed : (g : Global) (s : Schema) (optional : Bool) (e : Expr) (w inner : Wanted) (left : ℕ) (b : List ℕ) (at count : ℕ) (old new : List Kept) (r : Passed) (els : Elements) (o c : Placed) → 0 < left → (takes : TakesElements s e els) → IsAskedOfElements s w inner → count < 2 ^ 63 → IsCountBy els.array els.bounds count → First b at o → o.token ≡ token.lparen → WalksElements s els.optional takes.item inner (left - 1) b o.after count old new r → First b r.after c → c.token ≡ token.rparen
    → WalksValue s optional e w left b at old new (record { after = c.after; written = r.written })
value_listed g s optional e w inner left b at count old new r els o c some takes asked few counts fo is_open h fc is_close =
    let ps = h.params in
    let less : length ps < 2 ^ 63 = subst (λ n. n < 2 ^ 63) (sym h.counted) few in
    let v = vector g ps less in
    let is : plain (Items v) ≡ tree.items (plain_all ps) = plain_items v refl in
    let one : suc (left - 1) ≡ left = omega (arith, some) in
    record {
      param = Items v;
      stands = subst (λ n. Stands n b at (record { after = c.after; written = r.written }) (Items v)) one (list_stands g (left - 1) b at r ps less o c fo is_open h.stand fc is_close);
      fits = inr (subst (Conforms s e) (sym is) (takes.takes ps (subst (IsCountBy els.array els.bounds) (sym h.counted) counts) h.fit));
      refers = adds_same s (Somewhere (AsksAmong s inner (plain_all ps))) (Somewhere (Asks s w (plain (Items v)))) old new (items_asked s w inner (plain (Items v)) (plain_all ps) is asked) h.refer;
    }

-- ---- answers

pub at_some : {X : Type 0} (P : X → Type 0) {o : Option X} {x : X} → o ≡ Some x → IfSome o P → P x
at_some P e h = subst (λ o. IfSome o P) e h

pub ok_some : {X E : Type 0} (P Q : X → Type 0) (r : Result (Option X) E) → IfOk r (λ o. IfSome o P) → ((x : X) → P x → Q x) → IfOk r (λ o. IfSome o Q)
ok_some P Q (Ok None) h f = tt
ok_some P Q (Ok (Some x)) h f = f x h
ok_some P Q (Err e) h f = tt

pub some_then : {X : Type 0} (P Q : X → Type 0) (o : Option X) → IfSome o P → ((x : X) → P x → Q x) → IfSome o Q
some_then P Q None h f = tt
some_then P Q (Some x) h f = f x h

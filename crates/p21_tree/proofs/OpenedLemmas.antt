-- What opening and closing a parenthesis does to what stands open.
use Rattle.std.proofs.Common.{◌≡◌, ℕ, suc, zero, ◌-◌, ◌+◌, false, Some, None, List, [], ◌∷◌, ◌++◌, length, slice_get, refl, sym, ap, ◌∙◌, arith, Vec, Box, Bor, Global}
use Rattle.p21_tree.specs.declared.nest.Frame.{Frame}
use Rattle.p21_tree.specs.declared.nest.Frame.TheVariants as frame
use Rattle.p21_tree.specs.declared.params.Param.{Param, fold-roll-Param}
use Rattle.p21_tree.specs.declared.params.Param.TheOpen as level
use Rattle.p21_tree.specs.declared.params.Param.TheViews.{Items, Typed, rolls-Items, rolls-Typed}
use Rattle.p21_tree.specs.Tree.{Tree, Trees, nil, cons, trees_append}
use Rattle.p21_tree.specs.Tree as tree
use Rattle.p21_tree.specs.Plain.{plain, plain_all, plain_level}
use Rattle.p21_tree.specs.Machine.{Stack, base, list, typed, first, want, behind_key, after, open_, close_, comma, go, closed, refused, begin, close_empty, by_mode}
use Rattle.p21_tree.specs.Opened.{opened, opened_all, is_typed}

pub opened_push : (around : Trees → Stack) (fs : List Frame) (x : Frame) (current : Trees) → opened_all around (fs ++ x ∷ []) current ≡ opened (opened_all around fs) x current
opened_push around [] x current = refl
opened_push around (f ∷ fs) x current = opened_push (opened around f) fs x current

pub begin_open : (stack new : Stack) (room : ℕ) → (room ≡ 0 → ⊥) → new ≡ list nil stack → go (record { mode = first; stack = new; room = room - 1 }) ≡ begin stack room open_
begin_open stack new zero h e = absurd (h refl)
begin_open stack new (suc room) h e =
    let f : suc room - 1 ≡ room = omega arith in
    ap (λ s. go (record { mode = first; stack = s; room = suc room - 1 })) e ∙ ap (λ r. go (record { mode = first; stack = list nil stack; room = r })) f

pub open_typed_room : (k : List ℕ) (stack new : Stack) (room : ℕ) → (room ≡ 0 → ⊥) → new ≡ typed k stack → go (record { mode = want; stack = new; room = room - 1 }) ≡ by_mode (behind_key k) stack room open_
open_typed_room k stack new zero h e = absurd (h refl)
open_typed_room k stack new (suc room) h e =
    let f : suc room - 1 ≡ room = omega arith in
    ap (λ s. go (record { mode = want; stack = s; room = suc room - 1 })) e ∙ ap (λ r. go (record { mode = want; stack = typed k stack; room = r })) f

pub plain_append : (ps : List Param) (p : Param) → plain_all (ps ++ p ∷ []) ≡ trees_append (plain_all ps) (plain p)
plain_append [] p = refl
plain_append (q ∷ ps) p = ap (λ x. cons (plain q) x) (plain_append ps p)

pub popped_list : (fs gs : List Frame) (x : Frame) (v : Vec Param Global) (current : Trees) → fs ≡ gs ++ x ∷ [] → x ≡ frame.List v → opened_all base fs current ≡ list current (opened_all base gs (plain_all v.items))
popped_list fs gs x v current e f =
    ap (λ z. opened_all base z current) e ∙ (opened_push base gs x current ∙ ap (λ z. opened (opened_all base gs) z current) f)

pub popped_typed : (fs gs : List Frame) (x : Frame) (k : Bor (List ℕ)) (current : Trees) → fs ≡ gs ++ x ∷ [] → x ≡ frame.Typed k → opened_all base fs current ≡ typed k.now (opened_all base gs current)
popped_typed fs gs x k current e f =
    ap (λ z. opened_all base z current) e ∙ (opened_push base gs x current ∙ ap (λ z. opened (opened_all base gs) z current) f)

pub plain_items : (v : Vec Param Global) → plain (Items v) ≡ tree.items (plain_all v.items)
plain_items v = ap plain (sym (rolls-Items v)) ∙ fold-roll-Param Tree plain_level (level.Items v)

pub plain_typed : (k : Bor (List ℕ)) (p : Box Param Global) → plain (Typed k p) ≡ tree.typed k.now (plain p.value)
plain_typed k p = ap plain (sym (rolls-Typed k p)) ∙ fold-roll-Param Tree plain_level (level.Typed k p)

-- an empty list is closed

pub none_list : (stack below new : Stack) (room : ℕ) (current : Trees) (t : Tree) → stack ≡ list current below → current ≡ nil → new ≡ below → t ≡ tree.items nil → go (record { mode = after t; stack = new; room = room + 1 }) ≡ close_empty stack room
none_list stack below new room current t e f g h =
    let i : room + 1 ≡ suc room = omega arith in
    ap (λ z. go (record { mode = after z; stack = new; room = room + 1 })) h
    ∙ (ap (λ z. go (record { mode = after (tree.items nil); stack = z; room = room + 1 })) g
    ∙ (ap (λ z. go (record { mode = after (tree.items nil); stack = below; room = z })) i
    ∙ sym (ap (λ z. close_empty z room) (e ∙ ap (λ z. list z below) f))))

pub none_typed : (stack below : Stack) (room : ℕ) (k : List ℕ) → stack ≡ typed k below → refused ≡ close_empty stack room
none_typed stack below room k e = sym (ap (λ z. close_empty z room) e)

-- where parameters stand before, none may be missing
abbrev pub Refuses : (Trees → Stack) → Type 0
Refuses around = (t : Tree) (ts : Trees) (room : ℕ) → refused ≡ close_empty (around (cons t ts)) room

pub refuses_all : (around : Trees → Stack) (fs : List Frame) → Refuses around → Refuses (opened_all around fs)
refuses_all around [] h = h
refuses_all around (frame.List v ∷ fs) h = refuses_all (opened around (frame.List v)) fs (λ t ts room. refl)
refuses_all around (frame.Typed k ∷ fs) h = refuses_all (opened around (frame.Typed k)) fs (λ t ts room. refl)

pub refuses_base : Refuses base
refuses_base t ts room = refl

pub none_refused : (fs : List Frame) (ps : List Param) (room : ℕ) → (length ps ≡ 0 → ⊥) → refused ≡ close_empty (opened_all base fs (plain_all ps)) room
none_refused fs [] room h = absurd (h refl)
none_refused fs (p ∷ ps) room h = refuses_all base fs refuses_base (plain p) (plain_all ps) room

-- a comma stands after a parameter
abbrev pub TakesComma : (Trees → Stack) → Type 0
TakesComma around = (current : Trees) (t : Tree) (room : ℕ) → is_typed (around current) ≡ false → go (record { mode = want; stack = around (trees_append current t); room = room }) ≡ by_mode (after t) (around current) room comma

pub takes_comma : (around : Trees → Stack) (fs : List Frame) → TakesComma around → TakesComma (opened_all around fs)
takes_comma around [] h = h
takes_comma around (frame.List v ∷ fs) h = takes_comma (opened around (frame.List v)) fs (λ current t room e. refl)
takes_comma around (frame.Typed k ∷ fs) h = takes_comma (opened around (frame.Typed k)) fs (λ current t room e. absurd (cc))

pub comma_taken : (fs : List Frame) (ps qs : List Param) (p : Param) (room : ℕ) → is_typed (opened_all base fs (plain_all ps)) ≡ false → qs ≡ ps ++ p ∷ [] → go (record { mode = want; stack = opened_all base fs (plain_all qs); room = room }) ≡ by_mode (after (plain p)) (opened_all base fs (plain_all ps)) room comma
comma_taken fs ps qs p room h e =
    ap (λ z. go (record { mode = want; stack = opened_all base fs z; room = room })) (ap plain_all e ∙ plain_append ps p) ∙ takes_comma base fs (λ current t r i. refl) (plain_all ps) (plain p) room h

-- a parenthesis is closed after a parameter

pub closed_base : (stack : Stack) (ps qs : List Param) (p : Param) (room : ℕ) → stack ≡ base (plain_all ps) → qs ≡ ps ++ p ∷ [] → closed (plain_all qs) ≡ by_mode (after (plain p)) stack room close_
closed_base stack ps qs p room e f =
    ap closed (ap plain_all f ∙ plain_append ps p) ∙ sym (ap (λ z. by_mode (after (plain p)) z room close_) e)

pub closed_list : (stack below new : Stack) (ps qs : List Param) (p : Param) (t : Tree) (room : ℕ) → stack ≡ list (plain_all ps) below → qs ≡ ps ++ p ∷ [] → t ≡ tree.items (plain_all qs) → new ≡ below → go (record { mode = after t; stack = new; room = room + 1 }) ≡ by_mode (after (plain p)) stack room close_
closed_list stack below new ps qs p t room e f g h =
    let i : room + 1 ≡ suc room = omega arith in
    ap (λ z. go (record { mode = after z; stack = new; room = room + 1 })) (g ∙ ap tree.items (ap plain_all f ∙ plain_append ps p))
    ∙ (ap (λ z. go (record { mode = after (tree.items (trees_append (plain_all ps) (plain p))); stack = z; room = room + 1 })) h
    ∙ (ap (λ z. go (record { mode = after (tree.items (trees_append (plain_all ps) (plain p))); stack = below; room = z })) i
    ∙ sym (ap (λ z. by_mode (after (plain p)) z room close_) e)))

pub closed_typed : (stack below new : Stack) (k : List ℕ) (p t : Tree) (room : ℕ) → stack ≡ typed k below → t ≡ tree.typed k p → new ≡ below → go (record { mode = after t; stack = new; room = room + 1 }) ≡ by_mode (after p) stack room close_
closed_typed stack below new k p t room e g h =
    let i : room + 1 ≡ suc room = omega arith in
    ap (λ z. go (record { mode = after z; stack = new; room = room + 1 })) g
    ∙ (ap (λ z. go (record { mode = after (tree.typed k p); stack = z; room = room + 1 })) h
    ∙ (ap (λ z. go (record { mode = after (tree.typed k p); stack = below; room = z })) i
    ∙ sym (ap (λ z. by_mode (after p) z room close_) e)))

-- the innermost of what stands open

pub last_of : (fs : List Frame) (x : Frame) → Some x ≡ slice_get fs (length fs - 1) → (gs : List Frame) × (fs ≡ gs ++ x ∷ [])
last_of [] x e = absurd (cc)
last_of (f ∷ []) x e = ([], (cc))
last_of (f ∷ g ∷ fs) x e =
    let h : length (f ∷ g ∷ fs) - 1 ≡ suc (length (g ∷ fs) - 1) = omega arith in
    let i : Some x ≡ slice_get (g ∷ fs) (length (g ∷ fs) - 1) = e ∙ ap (slice_get (f ∷ g ∷ fs)) h in
    let r : (gs : List Frame) × (g ∷ fs ≡ gs ++ x ∷ []) = last_of (g ∷ fs) x i in
    (f ∷ r.0, ap (λ z. f ∷ z) r.1)

pub none_of : (fs : List Frame) → None ≡ slice_get fs (length fs - 1) → fs ≡ []
none_of [] e = refl
none_of (f ∷ []) e = absurd (cc)
none_of (f ∷ g ∷ fs) e =
    let h : length (f ∷ g ∷ fs) - 1 ≡ suc (length (g ∷ fs) - 1) = omega arith in
    let i : None ≡ slice_get (g ∷ fs) (length (g ∷ fs) - 1) = e ∙ ap (slice_get (f ∷ g ∷ fs)) h in
    absurd (let j : g ∷ fs ≡ [] = none_of (g ∷ fs) i in cc)

pub no_items : (ps : List Param) → length ps ≡ 0 → ps ≡ []
no_items [] e = refl
no_items (p ∷ ps) e = absurd (omega (arith, e))

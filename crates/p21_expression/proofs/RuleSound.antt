-- What is read of a WHERE clause is so by the grammar.
use Rattle.std.proofs.Common.{◌≡◌, ℕ, zero, suc, Bool, true, false, List, [], ◌∷◌, Option, Some, None, refl, sym, ap, subst, ◌∙◌}
use Rattle.std.specs.Prelude.{IfOk, Result, Ok, Err}
use Rattle.p21_express.specs.Word.{Word, name, symbol, begins_name}
use Rattle.p21_express.specs.declared.refusal.Refusal.{Refusal}
use Rattle.p21_express.specs.Reader.{◌>>=◌, Gives, many_by, many, symbol_at}
use Rattle.p21_expression.specs.declared.operators.Precedence.TheVariants as precedence
use Rattle.p21_expression.specs.Grammar.{here, IsExpression}
use Rattle.p21_expression.specs.Reader.{expression_at, named_at}
use Rattle.p21_expression.specs.Rules.{DomainRule, RuleIs, labelled, unlabelled, AreRules, has_label, label_at, if_label_at, rule_at, rules_at}
use Rattle.p21_expression.specs.Tree.{Name, Tree}
use Rattle.p21_expression.proofs.SoundLemmas.{along, bind_some, choose, first, many_sound, naming, past, reading_sound, some_is}

condition_sound : (ws : List Word) (x : Tree × List Word) → expression_at ws ≡ Some x → IsExpression ws x.0 x.1
condition_sound ws x h = reading_sound 256 precedence.Relation ws x h

labelled_made : (n : List ℕ) (ws a b rest : List Word) (m : Name) (l : Option Name) (t : Tree) → ws ≡ name n ∷ a → l ≡ Some m → m ≡ here n a → a ≡ symbol 58 ∷ b → IsExpression b t (symbol 59 ∷ rest) → RuleIs ws (record { label = l; condition = t }) rest
labelled_made n ws a b rest m l t d e f g i = rw (d, e, f, g) (labelled i)

unlabelled_made : (ws b rest : List Word) (l : Option Name) (t : Tree) → l ≡ None → ws ≡ b → IsExpression b t (symbol 59 ∷ rest) → RuleIs ws (record { label = l; condition = t }) rest
unlabelled_made ws b rest l t d e i = rw (d, e) (unlabelled i)

with_label : (ws b rest : List Word) (l : Option Name) (t : Tree) → label_at ws ≡ Some (l, b) → IsExpression b t (symbol 59 ∷ rest) → RuleIs ws (record { label = l; condition = t }) rest
unfolding label_at
with_label ws b rest l t h i =
    first (named_at ws) _ (l, b) h (λ m a e h.
    past 58 a _ (l, b) h (λ c f h.
    naming ws (m, a) e (λ n d j.
    let q : ◌≡◌ {A = Option Name × List Word} (Some m, c) (l, b) = some_is {A = Option Name × List Word} (Some m, c) (l, b) h in
    labelled_made n ws a b rest m l t d (sym (ap (λ (z : Option Name × List Word). z.0) q)) j (f ∙ ap (λ (z : Option Name × List Word). symbol 58 ∷ z.1) q) i)))

without_label : (ws b rest : List Word) (l : Option Name) (t : Tree) → ◌≡◌ {A = Option (Option Name × List Word)} (Some (None, ws)) (Some (l, b)) → IsExpression b t (symbol 59 ∷ rest) → RuleIs ws (record { label = l; condition = t }) rest
without_label ws b rest l t h i =
    let q : ◌≡◌ {A = Option Name × List Word} (None, ws) (l, b) = some_is {A = Option Name × List Word} (None, ws) (l, b) h in
    unlabelled_made ws b rest l t (sym (ap (λ (z : Option Name × List Word). z.0) q)) (ap (λ (z : Option Name × List Word). z.1) q) i

pub rule_sound : (ws : List Word) (x : DomainRule × List Word) → rule_at ws ≡ Some x → RuleIs ws x.0 x.1
unfolding rule_at if_label_at
rule_sound ws x h =
    first (if_label_at ws) _ x h (λ l b e h.
    first (expression_at b) _ x h (λ t mid f h.
    past 59 mid _ x h (λ rest g h.
    let i : IsExpression b t (symbol 59 ∷ rest) = subst (IsExpression b t) g (condition_sound b (t, mid) f) in
    along (RuleIs ws) (record { label = l; condition = t }, rest) x h
    (choose (has_label ws) _ _ (l, b) e (λ j e. with_label ws b rest l t e i) (λ e. without_label ws b rest l t e i)))))

ends_step : {X : Type 0} (stops : List Word → Bool) (b : Bool) (ws : List Word) (item : Option (X × List Word)) (again : List Word → Option (List X × List Word)) → stops ws ≡ b → ((vs : List Word) (xs : List X × List Word) → again vs ≡ Some xs → stops xs.1 ≡ true) → (xs : List X × List Word) → many_by b ws item again ≡ Some xs → stops xs.1 ≡ true
ends_step {X} stops true ws item again e others xs h = subst (λ (y : List X × List Word). stops y.1 ≡ true) (some_is {A = List X × List Word} ([], ws) xs h) e
ends_step {X} stops false ws item again e others xs h =
    let p = bind_some item _ xs h in
    let q = bind_some (again p.0.1) _ xs p.2 in
    subst (λ (y : List X × List Word). stops y.1 ≡ true) (some_is {A = List X × List Word} (p.0.0 ∷ q.0.0, q.0.1) xs q.2) (others p.0.1 q.0 q.1)

pub many_ends : {X : Type 0} (stops : List Word → Bool) (item : List Word → Option (X × List Word)) (k : ℕ) (ws : List Word) (xs : List X × List Word) → many stops item k ws ≡ Some xs → stops xs.1 ≡ true
unfolding many
many_ends stops item zero ws xs h = absurd cc
many_ends stops item (suc k) ws xs h = ends_step stops (stops ws) ws (item ws) (many stops item k) refl (λ vs ys e. many_ends stops item k vs ys e) xs h

pub rules_sound : (last : List ℕ) (ws : List Word) (x : List DomainRule × List Word) → rules_at last ws ≡ Some x → AreRules last ws x.0 x.1
rules_sound last ws x h = record { rules_are = many_sound (begins_name last) rule_at (λ vs y go e. rule_sound vs y e) _ ws x h; ends = many_ends (begins_name last) rule_at _ ws x h }

-- what a reader that gives this returns
pub ok_rules : {X : Type 0} (view : X → List DomainRule × List Word) (r : Result X Refusal) (last : List ℕ) (ws : List Word) → Gives view r (rules_at last ws) → IfOk r (λ x. AreRules last ws (view x).0 (view x).1)
ok_rules view (Ok x) last ws h = rules_sound last ws (view x) h
ok_rules view (Err e) last ws h = tt

pub ok_rule : {X : Type 0} (view : X → DomainRule × List Word) (r : Result X Refusal) (ws : List Word) → Gives view r (rule_at ws) → IfOk r (λ x. RuleIs ws (view x).0 (view x).1)
ok_rule view (Ok x) ws h = rule_sound ws (view x) h
ok_rule view (Err e) ws h = tt

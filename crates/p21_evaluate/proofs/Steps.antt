-- How evaluations go on, and lists of values.
use Rattle.std.proofs.Common.{◌≡◌, ℕ, ℤ, ◌+◌, ◌+ℤ◌, ◌*ℤ◌, ◌<◌, List, [], ◌∷◌, ◌++◌, map, drop, length, get_or, suc, refl, ap, sym, ◌∙◌, subst, arith, add-one, drop-cons, Bool, true, false, Vec, Global, Result, Ok, slice_set, slice_get, ◌-◌, pos, Some, None}
use Rattle.p21_values.specs.Plain.{Val, Vals, none, more, several, whole, plain, plain_all, bare}
use Rattle.p21_values.specs.declared.value.Value.{Value}
use Rattle.p21_values.specs.declared.kind.Kind.{Kind}
use Rattle.p21_values.specs.declared.value.Value.TheVariants.{Aggregate}
use Rattle.p21_values.specs.Ends.{Outcome, gives, not_computed, too_deep, EndsWith, ClaimsNothing, Gives}
use Rattle.p21_values.specs.declared.stop.Stop.{Stop}
use Rattle.p21_values.specs.declared.stop.Stop.TheVariants.{Memory, Limit, NotCompared, NotComputed, TooDeep}
use Rattle.p21_evaluate.specs.Ends.{and_then, Does, Step, goes_on, escapes, skips, returns, step_of, leaves}
use Rattle.p21_evaluate.specs.Meaning.{Answers, is_true, kept, keep_if, keeps_places, before, each, by_parts, query_bare, query_of, choose, block, chosen, place_of, does_by_parts, turns, turn_of, stepped_of, loop, onward, afterwards}
use Rattle.p21_evaluate.specs.Make.{made_of}
use Rattle.p21_values.specs.Operators.{binary_of}
use Rattle.p21_values.specs.declared.operators.BinaryOperator.TheVariants as binary
use Rattle.p21_values.specs.declared.truth.Truth.{Truth}
use Rattle.p21_evaluate.specs.declared.term.Label.{Label}
use Rattle.p21_evaluate.specs.declared.end.End.{End}
use Rattle.p21_evaluate.specs.declared.end.End.TheVariants.{GoesOn, Escapes, Skips, Returns}
use Rattle.p21_evaluate.specs.declared.term.Making.{Making}
use Rattle.p21_evaluate.specs.declared.term.Term.{Term, items_hidden-the_row-Term-0}
use Rattle.p21_evaluate.specs.declared.term.Term.TheVariants.{Query, Make, Call}
use Rattle.p21_evaluate.specs.declared.term.Statement.{Statement, If', items-the_row-Statement, items_hidden-the_row-Statement-0}
use Rattle.p21_evaluate.specs.declared.term.Statement.TheVariants.{Assign, If, Case, Repeat, Block, Return}
use Rattle.p21_evaluate.proofs.Rows.{plain_aggregate_is}
use Rattle.std.specs.declared.rc.Rc.{Rc}
use Rattle.std.specs.declared.boxed.Box.{Box}
use Rattle.std.proofs.lemmas.List.{map-append}

-- what stops a part stops the whole
pub ends_then : {A B : Type 0} (e : Stop) (o : Outcome A) (f : A → Outcome B) → EndsWith e o → EndsWith e (and_then o f)
ends_then Memory o f h = tt
ends_then Limit o f h = tt
ends_then NotCompared o f h = tt
ends_then NotComputed o f h = ap (λ p. and_then p f) h
ends_then TooDeep o f h = ap (λ p. and_then p f) h

-- what says nothing ends anything
pub ends_any : {A : Type 0} (e : Stop) (o : Outcome A) → ClaimsNothing e → EndsWith e o
ends_any Memory o h = tt
ends_any Limit o h = tt
ends_any NotCompared o h = tt
ends_any NotComputed o h = absurd h
ends_any TooDeep o h = absurd h

-- a step after a step
pub and_then_twice : {A B C : Type 0} (o : Outcome A) (f : A → Outcome B) (g : B → Outcome C) → and_then (and_then o f) g ≡ and_then o (λ x. and_then (f x) g)
and_then_twice (gives x) f g = refl
and_then_twice not_computed f g = refl
and_then_twice too_deep f g = refl

pub and_then_same : {A B : Type 0} (o : Outcome A) (f g : A → Outcome B) → ((x : A) → f x ≡ g x) → and_then o f ≡ and_then o g
and_then_same (gives x) f g h = h x
and_then_same not_computed f g h = refl
and_then_same too_deep f g h = refl

-- nothing after values, and one more value
pub before_none : (vs : List Value) → before vs none ≡ plain_all vs
before_none [] = refl
before_none (v ∷ vs) = ap (more (plain v)) (before_none vs)

pub before_more : (vs : List Value) (v : Value) (ws : Vals) → before (vs ++ v ∷ []) ws ≡ before vs (more (plain v) ws)
before_more [] v ws = refl
before_more (x ∷ vs) v ws = ap (more (plain x)) (before_more vs v ws)

-- the test of the next value
pub kept_more : (p : Bool) (test : Val → Outcome Val) (v a : Val) (vs : Vals) → test v ≡ gives a → kept p test (more v vs) ≡ and_then (kept p test vs) (λ ws. gives (keep_if p (is_true a) v ws))
kept_more p test v a vs h = ap (λ o. and_then o (λ answer. and_then (kept p test vs) (λ ws. gives (keep_if p (is_true answer) v ws)))) h

pub kept_next : (p : Bool) (test : Val → Outcome Val) (v a : Val) (vs : Vals) (all : Outcome Vals) (f : Vals → Outcome Vals) → test v ≡ gives a → all ≡ and_then (kept p test (more v vs)) f → all ≡ and_then (kept p test vs) (λ ws. f (keep_if p (is_true a) v ws))
kept_next p test v a vs all f h k =
    k ∙ ap (λ o. and_then o f) (kept_more p test v a vs h) ∙ and_then_twice (kept p test vs) (λ ws. gives (keep_if p (is_true a) v ws)) f

pub each_next : (go : Term → Outcome Val) (e : Term) (es : List Term) (a : Val) (all : Outcome (List Val)) (f : List Val → Outcome (List Val)) → go e ≡ gives a → all ≡ and_then (each go (e ∷ es)) f → all ≡ and_then (each go es) (λ vs. f (a ∷ vs))
each_next go e es a all f h k =
    k ∙ ap (λ o. and_then (and_then o (λ v. and_then (each go es) (λ vs. gives (v ∷ vs)))) f) h ∙ and_then_twice (each go es) (λ vs. gives (a ∷ vs)) f

pub gives_along : (r : Result Value Stop) (o p : Outcome Val) → p ≡ o → Gives r o → Gives r p
gives_along r o p e h = subst (Gives r) (sym e) h

-- the slots with one more value
pub pushed : (olds now news : List Value) (x y : Value) → news ≡ now ++ y ∷ [] → now ≡ olds → plain y ≡ plain x → map plain news ≡ map plain olds ++ plain x ∷ []
pushed olds now news x y e f g =
    ap (map plain) (e ∙ ap (λ s. s ++ y ∷ []) f) ∙ map-append plain olds (y ∷ []) ∙ ap (λ v. map plain olds ++ v ∷ []) g

-- a turn of the loop over an aggregate
pub kept_step : (p : Bool) (test : Val → Outcome Val) (xs : List Value) (i : ℕ) (x : Value) (a : Val) (all : Outcome Vals) (k l : List Value) → i < length xs → x ≡ get_or xs i x → test (plain x) ≡ gives a → all ≡ and_then (kept p test (plain_all (drop i xs))) (λ ws. gives (before k ws)) → ((ws : Vals) → before l ws ≡ before k (keep_if p (is_true a) (plain x) ws)) → all ≡ and_then (kept p test (plain_all (drop (i + 1) xs))) (λ ws. gives (before l ws))
kept_step p test xs i x a all k l lt is tested so_far grown =
    let rest : drop i xs ≡ x ∷ drop (i + 1) xs = rw add-one (drop-cons xs i x lt ∙ ap (λ y. y ∷ drop (suc i) xs) (sym is)) in
    let next = kept_next p test (plain x) a (plain_all (drop (i + 1) xs)) all (λ ws. gives (before k ws)) tested (so_far ∙ ap (λ ys. and_then (kept p test (plain_all ys)) (λ ws. gives (before k ws))) rest) in
    next ∙ and_then_same (kept p test (plain_all (drop (i + 1) xs))) _ _ (λ ws. ap gives (sym (grown ws)))

-- the end of the loop
pub kept_end : (p : Bool) (test : Val → Outcome Val) (xs : List Value) (all : Outcome Vals) (k : List Value) → xs ≡ [] → all ≡ and_then (kept p test (plain_all xs)) (λ ws. gives (before k ws)) → all ≡ gives (plain_all k)
kept_end p test xs all k e h = h ∙ ap (λ ys. and_then (kept p test (plain_all ys)) (λ ws. gives (before k ws))) e ∙ ap gives (before_none k)

pub query_aggregate : (test : Val → Outcome Val) (v : Value) (k : Kind) (r : Rc (Vec Value Global) Global) (w : Vec Value Global) (xs : List Value) (p : Bool) → v ≡ Aggregate k r → w ≡ r.value → xs ≡ w.items → p ≡ keeps_places k → query_bare test (plain v) ≡ and_then (kept p test (plain_all xs)) (λ ws. gives (several k ws))
query_aggregate test v k r w xs p e f g h =
    ap (query_bare test) (plain_aggregate_is v k r w xs e f g) ∙ ap (λ b. and_then (kept b test (plain_all xs)) (λ ws. gives (several k ws))) (sym h)

module _ (w : Answers) (go : Term → List Val → Outcome Val) (calls : ℕ → List Val → Outcome Val) where
  pub by_parts_make : (e : Term) (m : Making) (r : Vec Term Global) (xs : List Term) (env : List Val) → e ≡ Make m r → xs ≡ r.items → by_parts w go calls e env ≡ and_then (each (λ x. go x env) xs) (made_of w.same w.made m)
  by_parts_make e m r xs env is d =
      ap (λ x. by_parts w go calls x env) is ∙ ap (λ ys. and_then (each (λ x. go x env) ys) (made_of w.same w.made m)) (items_hidden-the_row-Term-0 r ∙ sym d)

  pub by_parts_query : (e : Term) (a t : Box Term Global) (x y : Term) (env env' : List Val) (v : Val) → e ≡ Query a t → x ≡ a.value → y ≡ t.value → go x env ≡ gives v → env' ≡ env → by_parts w go calls e env ≡ query_of (λ z. go y (env' ++ z ∷ [])) v
  by_parts_query e a t x y env env' v is ax ty h same =
      ap (λ u. by_parts w go calls u env) is
      ∙ ap (λ u. and_then (go u env) (query_of (λ z. go t.value (env ++ z ∷ [])))) (sym ax)
      ∙ ap (λ o. and_then o (query_of (λ z. go t.value (env ++ z ∷ [])))) h
      ∙ ap (λ (u : Term). query_of (λ z. go u (env ++ z ∷ [])) v) (sym ty)
      ∙ ap (λ (s : List Val). query_of (λ z. go y (s ++ z ∷ [])) v) (sym same)

  pub by_parts_call : (e : Term) (f : ℕ) (r : Vec Term Global) (xs : List Term) (env : List Val) → e ≡ Call f r → xs ≡ r.items → by_parts w go calls e env ≡ and_then (each (λ x. go x env) xs) (calls f)
  by_parts_call e f r xs env is d =
      ap (λ x. by_parts w go calls x env) is ∙ ap (λ ys. and_then (each (λ x. go x env) ys) (calls f)) (items_hidden-the_row-Term-0 r ∙ sym d)

pub does_along : (r : Result End Stop) (slots : List Value) (o p : Outcome Step) → p ≡ o → Does r slots o → Does r slots p
does_along r slots o p e h = subst (Does r slots) (sym e) h

-- what an IF does otherwise
abbrev else_of : Statement → List Statement
else_of (If' t s ys s' ns) = items-the_row-Statement _ ns
else_of _ = []

module _ (e : ℕ → ℕ → Truth) (go : Term → List Val → Outcome Val) (runs : Statement → List Val → Outcome Step) where
  pub does_assign : (s : Statement) (k : ℕ) (t : Term) (env : List Val) → s ≡ Assign k t → does_by_parts e go runs s env ≡ and_then (go t env) (λ v. gives (goes_on (slice_set env k v)))
  does_assign s k t env is = ap (λ u. does_by_parts e go runs u env) is

  pub does_return : (s : Statement) (t : Term) (env : List Val) → s ≡ Return t → does_by_parts e go runs s env ≡ and_then (go t env) (λ v. gives (returns v))
  does_return s t env is = ap (λ u. does_by_parts e go runs u env) is

  pub does_if : (s : Statement) (t : Term) (first other : Vec Statement Global) (env : List Val) → s ≡ If t first other → does_by_parts e go runs s env ≡ and_then (go t env) (λ v. choose (is_true v) (block runs first.items env) (block runs other.items env))
  does_if s t first other env is =
      ap (λ u. does_by_parts e go runs u env) is
      ∙ ap (λ ys. and_then (go t env) (λ v. choose (is_true v) (block runs ys env) (block runs (else_of (If t first other)) env))) (items_hidden-the_row-Statement-0 first)
      ∙ ap (λ ns. and_then (go t env) (λ v. choose (is_true v) (block runs first.items env) (block runs ns env))) (items_hidden-the_row-Statement-0 other)

  pub does_choice : (s : Statement) (t : Term) (first other : Vec Statement Global) (env env' : List Val) (v : Val) (b : Bool) → s ≡ If t first other → go t env ≡ gives v → is_true v ≡ b → env' ≡ env → does_by_parts e go runs s env ≡ choose b (block runs first.items env') (block runs other.items env')
  does_choice s t first other env env' v b is h true_is same =
      does_if s t first other env is
      ∙ ap (λ o. and_then o (λ w. choose (is_true w) (block runs first.items env) (block runs other.items env))) h
      ∙ ap (λ c. choose c (block runs first.items env) (block runs other.items env)) true_is
      ∙ ap (λ (n : List Val). choose b (block runs first.items n) (block runs other.items n)) (sym same)

  pub does_yes : (s : Statement) (t : Term) (first other : Vec Statement Global) (ys : List Statement) (env env' : List Val) (v : Val) → s ≡ If t first other → ys ≡ first.items → go t env ≡ gives v → is_true v ≡ true → env' ≡ env → does_by_parts e go runs s env ≡ block runs ys env'
  does_yes s t first other ys env env' v is d h holds same =
      does_choice s t first other env env' v true is h holds same ∙ ap (λ xs. block runs xs env') (sym d)

  pub does_no : (s : Statement) (t : Term) (first other : Vec Statement Global) (ns : List Statement) (env env' : List Val) (v : Val) → s ≡ If t first other → ns ≡ other.items → go t env ≡ gives v → is_true v ≡ false → env' ≡ env → does_by_parts e go runs s env ≡ block runs ns env'
  does_no s t first other ns env env' v is d h fails same =
      does_choice s t first other env env' v false is h fails same ∙ ap (λ xs. block runs xs env') (sym d)

  pub does_case : (s : Statement) (t : Term) (labels : Vec Label Global) (last : ℕ) (body : Vec Statement Global) (ls : List Label) (xs : List Statement) (env : List Val) → s ≡ Case t labels last body → ls ≡ labels.items → xs ≡ body.items → does_by_parts e go runs s env ≡ and_then (go t env) (λ v. and_then (place_of (λ u. go u env) (λ u. binary_of e binary.Equal v u) ls last) (λ k. chosen runs (slice_get xs k) env))
  does_case s t labels last body ls xs env is l d =
      ap (λ u. does_by_parts e go runs u env) is
      ∙ ap (λ ys. and_then (go t env) (λ v. and_then (place_of (λ u. go u env) (λ u. binary_of e binary.Equal v u) labels.items last) (λ k. chosen runs (slice_get ys k) env))) (items_hidden-the_row-Statement-0 body ∙ sym d)
      ∙ ap (λ ys. and_then (go t env) (λ v. and_then (place_of (λ u. go u env) (λ u. binary_of e binary.Equal v u) ys last) (λ k. chosen runs (slice_get xs k) env))) (sym l)

  pub does_repeat : (s : Statement) (k : ℕ) (a b c condition until : Term) (body : Vec Statement Global) (xs : List Statement) (env : List Val) → s ≡ Repeat k a b c condition until body → xs ≡ body.items → does_by_parts e go runs s env ≡ and_then (go a env) (λ v. and_then (go b env) (λ w. and_then (go c env) (λ u. loop (turn_of (go condition) (go until) (block runs xs)) k v w u env)))
  does_repeat s k a b c condition until body xs env is d =
      ap (λ u. does_by_parts e go runs u env) is
      ∙ ap (λ ys. and_then (go a env) (λ v. and_then (go b env) (λ w. and_then (go c env) (λ u. loop (turn_of (go condition) (go until) (block runs ys)) k v w u env)))) (items_hidden-the_row-Statement-0 body ∙ sym d)

  pub does_block : (s : Statement) (body : Vec Statement Global) (xs : List Statement) (env : List Val) → s ≡ Block body → xs ≡ body.items → does_by_parts e go runs s env ≡ block runs xs env
  does_block s body xs env is d =
      ap (λ u. does_by_parts e go runs u env) is ∙ ap (λ ys. block runs ys env) (items_hidden-the_row-Statement-0 body ∙ sym d)

-- the next turn
turns_next : (turn : List Val → Outcome Step) (k : ℕ) (first step : Val) (i n : ℕ) (env : List Val) → i < n → turns turn k first step i (n - i) env ≡ and_then (turn (slice_set env k (stepped_of first step i))) (afterwards (turns turn k first step (i + 1) (n - (i + 1))))
turns_next turn k first step i n env lt = let e : n - i ≡ suc (n - (i + 1)) = omega arith in rw e refl

-- a turn of a loop, at the variables with its number
pub turn : (body : List Val → Outcome Step) (k : ℕ) (first step : Val) (i n : ℕ) (env env' : List Val) (all : Outcome Step) → all ≡ turns body k first step i (n - i) env → i < n → env' ≡ slice_set env k (stepped_of first step i) → all ≡ and_then (body env') (afterwards (turns body k first step (i + 1) (n - (i + 1))))
turn body k first step i n env env' all h lt e =
    h ∙ turns_next body k first step i n env lt ∙ ap (λ (x : List Val). and_then (body x) (afterwards (turns body k first step (i + 1) (n - (i + 1))))) (sym e)

-- a turn behind which the loop ends, or goes on
left_is : (f : List Val → Outcome Step) (end left : End) (slots : List Value) → leaves end ≡ Some left → afterwards f (step_of end slots) ≡ gives (step_of left slots)
left_is f GoesOn left slots h = absurd (cc)
left_is f Skips left slots h = absurd (cc)
left_is f Escapes left slots h = let e : GoesOn ≡ left = cc in ap (λ x. gives (step_of x slots)) e
left_is f (Returns v) left slots h = let e : Returns v ≡ left = cc in ap (λ x. gives (step_of x slots)) e

stays_is : (f : List Val → Outcome Step) (end : End) (slots : List Value) → leaves end ≡ None → afterwards f (step_of end slots) ≡ f (map plain slots)
stays_is f GoesOn slots h = refl
stays_is f Skips slots h = refl
stays_is f Escapes slots h = absurd (cc)
stays_is f (Returns v) slots h = absurd (cc)

pub turn_leaves : (body f : List Val → Outcome Step) (all : Outcome Step) (env : List Val) (end left : End) (slots : List Value) → all ≡ and_then (body env) (afterwards f) → body env ≡ gives (step_of end slots) → leaves end ≡ Some left → all ≡ gives (step_of left slots)
turn_leaves body f all env end left slots h e l = h ∙ ap (λ o. and_then o (afterwards f)) e ∙ left_is f end left slots l

pub turn_stays : (body f : List Val → Outcome Step) (all : Outcome Step) (env : List Val) (end : End) (slots : List Value) → all ≡ and_then (body env) (afterwards f) → body env ≡ gives (step_of end slots) → leaves end ≡ None → all ≡ f (map plain slots)
turn_stays body f all env end slots h e l = h ∙ ap (λ o. and_then o (afterwards f)) e ∙ stays_is f end slots l

module _ (e : ℕ → ℕ → Truth) (go : Term → List Val → Outcome Val) (runs : Statement → List Val → Outcome Step) where
  -- a CASE whose value is there
  pub does_case_of : (s : Statement) (t : Term) (labels : Vec Label Global) (last : ℕ) (body : Vec Statement Global) (ls : List Label) (xs : List Statement) (env env' : List Val) (v : Val) → s ≡ Case t labels last body → ls ≡ labels.items → xs ≡ body.items → go t env ≡ gives v → env' ≡ env → does_by_parts e go runs s env ≡ and_then (place_of (λ u. go u env') (λ u. binary_of e binary.Equal v u) ls last) (λ k. chosen runs (slice_get xs k) env')
  does_case_of s t labels last body ls xs env env' v is l d h same =
      does_case e go runs s t labels last body ls xs env is l d
      ∙ ap (λ o. and_then o (λ v. and_then (place_of (λ u. go u env) (λ u. binary_of e binary.Equal v u) ls last) (λ k. chosen runs (slice_get xs k) env))) h
      ∙ ap (λ (n : List Val). and_then (place_of (λ u. go u n) (λ u. binary_of e binary.Equal v u) ls last) (λ k. chosen runs (slice_get xs k) n)) (sym same)

  -- and whose place is found
  pub does_case_at : (s : Statement) (t : Term) (labels : Vec Label Global) (last : ℕ) (body : Vec Statement Global) (ls : List Label) (xs : List Statement) (env env' env'' : List Val) (v : Val) (k : ℕ) → s ≡ Case t labels last body → ls ≡ labels.items → xs ≡ body.items → go t env ≡ gives v → env' ≡ env → place_of (λ u. go u env') (λ u. binary_of e binary.Equal v u) ls last ≡ gives k → env'' ≡ env' → does_by_parts e go runs s env ≡ chosen runs (slice_get xs k) env''
  does_case_at s t labels last body ls xs env env' env'' v k is l d h same p same' =
      does_case_of s t labels last body ls xs env env' v is l d h same
      ∙ ap (λ o. and_then o (λ j. chosen runs (slice_get xs j) env')) p
      ∙ ap (chosen runs (slice_get xs k)) (sym same')

  -- a REPEAT whose first bound is there, then the second, and then the step
  pub does_repeat_first : (s : Statement) (k : ℕ) (a b c condition until : Term) (body : Vec Statement Global) (xs : List Statement) (env env' : List Val) (v : Val) → s ≡ Repeat k a b c condition until body → xs ≡ body.items → go a env ≡ gives v → env' ≡ env → does_by_parts e go runs s env ≡ and_then (go b env') (λ w. and_then (go c env') (λ u. loop (turn_of (go condition) (go until) (block runs xs)) k v w u env'))
  does_repeat_first s k a b c condition until body xs env env' v is d h same =
      does_repeat e go runs s k a b c condition until body xs env is d
      ∙ ap (λ o. and_then o (λ v. and_then (go b env) (λ w. and_then (go c env) (λ u. loop (turn_of (go condition) (go until) (block runs xs)) k v w u env)))) h
      ∙ ap (λ (n : List Val). and_then (go b n) (λ w. and_then (go c n) (λ u. loop (turn_of (go condition) (go until) (block runs xs)) k v w u n))) (sym same)

  pub does_repeat_last : (s : Statement) (k : ℕ) (a b c condition until : Term) (body : Vec Statement Global) (xs : List Statement) (env env' env'' : List Val) (v w : Val) → s ≡ Repeat k a b c condition until body → xs ≡ body.items → go a env ≡ gives v → env' ≡ env → go b env' ≡ gives w → env'' ≡ env' → does_by_parts e go runs s env ≡ and_then (go c env'') (λ u. loop (turn_of (go condition) (go until) (block runs xs)) k v w u env'')
  does_repeat_last s k a b c condition until body xs env env' env'' v w is d h same h' same' =
      does_repeat_first s k a b c condition until body xs env env' v is d h same
      ∙ ap (λ o. and_then o (λ w. and_then (go c env') (λ u. loop (turn_of (go condition) (go until) (block runs xs)) k v w u env'))) h'
      ∙ ap (λ (n : List Val). and_then (go c n) (λ u. loop (turn_of (go condition) (go until) (block runs xs)) k v w u n)) (sym same')

  pub does_repeat_step : (s : Statement) (k : ℕ) (a b c condition until : Term) (body : Vec Statement Global) (xs : List Statement) (env env' env'' env3 : List Val) (v w u : Val) → s ≡ Repeat k a b c condition until body → xs ≡ body.items → go a env ≡ gives v → env' ≡ env → go b env' ≡ gives w → env'' ≡ env' → go c env'' ≡ gives u → env3 ≡ env'' → does_by_parts e go runs s env ≡ loop (turn_of (go condition) (go until) (block runs xs)) k v w u env3
  does_repeat_step s k a b c condition until body xs env env' env'' env3 v w u is d h same h' same' h'' same'' =
      does_repeat_last s k a b c condition until body xs env env' env'' v w is d h same h' same'
      ∙ ap (λ o. and_then o (λ u. loop (turn_of (go condition) (go until) (block runs xs)) k v w u env'')) h''
      ∙ ap (loop (turn_of (go condition) (go until) (block runs xs)) k v w u) (sym same'')

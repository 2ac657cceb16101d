-- How the code's progress and its faults are put together.
use Rattle.std.proofs.Common.{◌≡◌, ◌≢◌, ℕ, suc, ◌+◌, Some, List, [], ◌∷◌, ◌++◌, refl, sym, ap, ◌∙◌}
use Rattle.p21_text.specs.Spelling.{Symbol}
use Rattle.p21_text.specs.Tokens.{Placed, First, TokensUpTo, Tokens, IsLast}
use Rattle.p21_text.specs.Tokens as text
use Rattle.p21_tree.specs.declared.source.Source.{Source}
use Rattle.p21_tree.specs.declared.faults.Fault.{Fault}
use Rattle.p21_tree.specs.declared.terminals.Terminal as source
use Rattle.p21_tree.specs.declared.terminals.Terminal.TheVariants as variants
use Rattle.p21_tree.specs.Fault.{Kind}
use Rattle.p21_tree.specs.Texts.{shift, shifted, fault_kind}
use Rattle.p21_tree.specs.Languages.{Language, Just, Then, Within, Many, Stuck, kind_now}
use Rattle.p21_tree.specs.Parts.{Is, Terminal}
use Rattle.p21_tree.specs.Terminals.{terminal_of, terminal_in}
use Rattle.p21_tree.specs.Progress.{Chain, Fails}
use Rattle.p21_tree.proofs.LanguageLemmas.{Inhabited, Grows, Once, Starts, stuck_first, stuck_second, stuck_within, stuck_now}
use Rattle.p21_tree.proofs.Combined.{Apart, starts_just, some_just, grows_just, once_just, starts_then, some_stop, stuck_left, stuck_right, stuck_many}

pub shifted_append : (base : ℕ) (a b : List Placed) → shifted base (a ++ b) ≡ shifted base a ++ shifted base b
shifted_append base [] b = refl
shifted_append base (t ∷ a) b = ap (λ x. shift base t ∷ x) (shifted_append base a b)

pub up_to_append : {bytes : List ℕ} {at mid end : ℕ} {a b : List Placed} → TokensUpTo bytes at a mid → TokensUpTo bytes mid b end → TokensUpTo bytes at (a ++ b) end
up_to_append text.none h = h
up_to_append (text.more f n r) h = text.more f n (up_to_append r h)

pub chain_none : (s : Source) (at : ℕ) → Chain s at [] at
chain_none s at = record { tokens = []; are = text.none; in_file = refl }

pub chain_one : (s : Source) (at : ℕ) (t : Placed) → First s.text.now at t → ¬ (IsLast t.token) → Chain s at (shift s.base t ∷ []) t.after
chain_one s at t f n = record { tokens = t ∷ []; are = text.more f n text.none; in_file = refl }

pub chain_then : (s : Source) (at mid end : ℕ) (a b : List Placed) → Chain s at a mid → Chain s mid b end → Chain s at (a ++ b) end
chain_then s at mid end a b p q = record {
  tokens = p.tokens ++ q.tokens;
  are = up_to_append p.are q.are;
  in_file = ap (λ x. x ++ b) p.in_file ∙ (ap (λ x. shifted s.base p.tokens ++ x) q.in_file ∙ sym (shifted_append s.base p.tokens q.tokens));
}

-- faults of a part as faults of the whole

pub fails_map : (L M : Language) (l m : ℕ) (s : Source) (at : ℕ) (f : Fault) → ((b : List Placed) (t : Placed) (k : Kind) → Stuck L l b t k → Stuck M m b t k) → Fails L l s at f → Fails M m s at f
fails_map L M l m s at f g h = record { before = h.before; place = h.place; token = h.token; kind = h.kind; chain = h.chain; next = h.next; stuck = g h.before (shift s.base h.token) h.kind h.stuck; place_is = h.place_is; kind_is = h.kind_is }

pub fails_behind : (L M : Language) (l m : ℕ) (s : Source) (at mid : ℕ) (a : List Placed) (f : Fault) → Chain s at a mid → ((b : List Placed) (t : Placed) (k : Kind) → Stuck L l b t k → Stuck M m (a ++ b) t k) → Fails L l s mid f → Fails M m s at f
fails_behind L M l m s at mid a f c g h = record { before = a ++ h.before; place = h.place; token = h.token; kind = h.kind; chain = chain_then s at mid h.place a h.before c h.chain; next = h.next; stuck = g h.before (shift s.base h.token) h.kind h.stuck; place_is = h.place_is; kind_is = h.kind_is }

pub fails_now : (L : Language) (l : ℕ) (s : Source) (at : ℕ) (t : Placed) (f : Fault) → First s.text.now at t → Stuck L l [] (shift s.base t) (kind_now t.token) → f.at ≡ s.base + t.start → f.kind ≡ fault_kind (kind_now t.token) → Fails L l s at f
fails_now L l s at t f n h p k = record { before = []; place = at; token = t; kind = kind_now t.token; chain = chain_none s at; next = n; stuck = h; place_is = p; kind_is = k }

pub fails_first : (P Q : Language) (l : ℕ) (s : Source) (at : ℕ) (f : Fault) → Inhabited Q l → Fails P l s at f → Fails (Then P Q) l s at f
fails_first P Q l s at f q h = fails_map P (Then P Q) l l s at f (λ b t k. stuck_first P Q l b t k q) h

pub fails_second : (P Q : Language) (l : ℕ) (s : Source) (at mid : ℕ) (a : List Placed) (f : Fault) → Once P → Grows P → Chain s at a mid → P l a → Fails Q l s mid f → Fails (Then P Q) l s at f
fails_second P Q l s at mid a f one grows c p h = fails_behind Q (Then P Q) l l s at mid a f c (λ b t k. stuck_second P Q l a b t k one grows p) h

-- after one token
pub fails_after : (T : Symbol → Type 0) (Q : Language) (l : ℕ) (s : Source) (at : ℕ) (t : Placed) (f : Fault) → First s.text.now at t → ¬ (IsLast t.token) → T t.token → Fails Q l s t.after f → Fails (Then (Just T) Q) l s at f
fails_after T Q l s at t f n last fits h = fails_second (Just T) Q l s at t.after (shift s.base t ∷ []) f (once_just T) (grows_just T) (chain_one s at t n last) (record { token = shift s.base t; alone = refl; fits = fits }) h

pub fails_within : (L : Language) (l : ℕ) (s : Source) (at : ℕ) (f : Fault) → Fails L l s at f → Fails (Within L) (suc l) s at f
fails_within L l s at f h = fails_map L (Within L) l (suc l) s at f (λ b t k. stuck_within L l b t k) h

-- the token that was wanted

pub terminal_is_in : (w : source.Terminal) → terminal_in (terminal_of w) ≡ Some w
terminal_is_in variants.Iso = refl
terminal_is_in variants.EndIso = refl
terminal_is_in variants.Header = refl
terminal_is_in variants.EndSec = refl
terminal_is_in variants.Data = refl
terminal_is_in variants.Open = refl
terminal_is_in variants.Equals = refl
terminal_is_in variants.Semi = refl
terminal_is_in variants.End = refl

pub terminal_fails : (w : Symbol) (l : ℕ) (s : Source) (at : ℕ) (t : Placed) (f : Fault) → First s.text.now at t → t.token ≢ w → f.at ≡ s.base + t.start → f.kind ≡ fault_kind (kind_now t.token) → Fails (Terminal w) l s at f
terminal_fails w l s at t f n no_ p k = fails_now (Terminal w) l s at t f n (stuck_now (Terminal w) (Is w) l (shift s.base t) (some_just (Is w) l w refl) (starts_just (Is w)) no_) p k

-- what is repeated

pub stuck_item : (P Q : Language) (T : Symbol → Type 0) (l : ℕ) (x : Placed) (b : List Placed) (t : Placed) (k : Kind) → Inhabited Q l → Starts Q T → ¬ (T x.token) → Stuck P l (x ∷ b) t k → Stuck (Many P Q) l (x ∷ b) t k
stuck_item P Q T l x b t k some_ starts no_ h =
    stuck_many P Q l (x ∷ b) t k (stuck_right Q (Then P (Many P Q)) T l x b t k starts no_ (stuck_first P (Many P Q) l (x ∷ b) t k (some_stop P Q l some_) h))

pub stuck_stop : (P Q : Language) (T : Symbol → Type 0) (l : ℕ) (x : Placed) (b : List Placed) (t : Placed) (k : Kind) → Starts P T → ¬ (T x.token) → Stuck Q l (x ∷ b) t k → Stuck (Many P Q) l (x ∷ b) t k
stuck_stop P Q T l x b t k starts no_ h =
    stuck_many P Q l (x ∷ b) t k (stuck_left Q (Then P (Many P Q)) T l x b t k (starts_then P (Many P Q) T starts) no_ h)

pub stuck_again : (P Q : Language) (T U : Symbol → Type 0) (l : ℕ) (a b : List Placed) (t : Placed) (k : Kind) → Starts P T → Starts Q U → Apart T U → Once P → Grows P → P l a → Stuck (Many P Q) l b t k → Stuck (Many P Q) l (a ++ b) t k
stuck_again P Q T U l [] b t k sp sq d one grows p h = absurd (sp l [] p)
stuck_again P Q T U l (x ∷ a) b t k sp sq d one grows p h =
    stuck_many P Q l (x ∷ (a ++ b)) t k (stuck_right Q (Then P (Many P Q)) U l x (a ++ b) t k sq (λ u. d x.token (sp l (x ∷ a) p) u) (stuck_second P (Many P Q) l (x ∷ a) b t k one grows p h))

pub fails_again : (P Q : Language) (T U : Symbol → Type 0) (l : ℕ) (s : Source) (at mid : ℕ) (a : List Placed) (f : Fault) → Starts P T → Starts Q U → Apart T U → Once P → Grows P → Chain s at a mid → P l a → Fails (Many P Q) l s mid f → Fails (Many P Q) l s at f
fails_again P Q T U l s at mid a f sp sq d one grows c p h =
    fails_behind (Many P Q) (Many P Q) l l s at mid a f c (λ b t k. stuck_again P Q T U l a b t k sp sq d one grows p) h

-- The loop over the tokens of parameters.
use Rattle.std.proofs.Common.{◌≡◌, ℕ, suc, zero, ◌+◌, List, [], ◌∷◌, ◌++◌, refl, sym, ap, ◌∙◌}
use Rattle.p21_text.specs.Spelling.{Symbol}
use Rattle.p21_text.specs.Spelling as token
use Rattle.p21_text.specs.Tokens.{Placed, First, IsLast, symbols}
use Rattle.p21_text.specs.Tokens as text
use Rattle.p21_tree.specs.declared.source.Source.{Source}
use Rattle.p21_tree.specs.declared.faults.Fault.{Fault}
use Rattle.p21_tree.specs.declared.nest.Frame.{Frame}
use Rattle.p21_tree.specs.declared.params.Param.{Param}
use Rattle.p21_tree.specs.Tree.{Trees}
use Rattle.p21_tree.specs.Plain.{plain_all}
use Rattle.p21_tree.specs.Fault.{too_deep}
use Rattle.p21_tree.specs.Texts.{shift, fault_kind}
use Rattle.p21_tree.specs.Languages.{kind_now}
use Rattle.p21_tree.specs.Parts.{IsClosed, Closed, IsArguments, Arguments, Is}
use Rattle.p21_tree.specs.Progress.{Covers, Fails}
use Rattle.p21_tree.specs.Opened.{opened_all}
use Rattle.p21_tree.specs.Machine.{Stack, Mode, State, base, list, typed, first, want, behind_key, after, other, go, closed, refused, deep, going, by_mode, step, run, start}
use Rattle.p21_tree.proofs.ProgressLemmas.{chain_none, chain_one, chain_then, fails_after}
use Rattle.p21_tree.proofs.ParamFaults.{run_none, run_go, run_closes, stuck_refused, stuck_deep}

pub new_state : (fs : List Frame) (ps : List Param) (room left : ℕ) → fs ≡ [] → ps ≡ [] → room ≡ left → record { mode = first; stack = opened_all base fs (plain_all ps); room = room } ≡ start left
new_state fs ps room left e f g = ap (λ x. record { mode = first; stack = opened_all base x (plain_all ps); room = room }) e ∙ (ap (λ x. record { mode = first; stack = base (plain_all x); room = room }) f ∙ ap start g)

-- the tokens so far lead to a state
abbrev pub Leads : ℕ → State → List Placed → Type 0
Leads left s ts = run (symbols ts) (start left) ≡ going s

pub covers_start : (s : Source) (at left : ℕ) (r : State) → r ≡ start left → Covers (Leads left r) s at at
covers_start s at left r e = record { tokens = []; chain = chain_none s at; are = run_none (start left) ∙ ap going (sym e) }

pub other_refused : (mode : Mode) (stack : Stack) (room : ℕ) → by_mode mode stack room other ≡ refused
other_refused first stack room = refl
other_refused want stack room = refl
other_refused (behind_key k) stack zero = refl
other_refused (behind_key k) stack (suc room) = refl
other_refused (after t) (base before) room = refl
other_refused (after t) (list before below) room = refl
other_refused (after t) (typed k below) room = refl

pub last_refused : (s : State) (t : Symbol) → IsLast t → step s t ≡ refused
last_refused s t text.at_end = other_refused s.mode s.stack s.room
last_refused s t text.at_bad = other_refused s.mode s.stack s.room

pub go_not_last : (s r : State) (t : Symbol) → step s t ≡ go r → ¬ (IsLast t)
go_not_last s r t e h = let f : refused ≡ go r = sym (last_refused s t h) ∙ e in cc

pub closed_not_last : (s : State) (found : Trees) (t : Symbol) → step s t ≡ closed found → ¬ (IsLast t)
closed_not_last s found t e h = let f : refused ≡ closed found = sym (last_refused s t h) ∙ e in cc

module _ (source : Source) (at place left : ℕ) (s : State) (t : Placed) where
  pub covers_go : (r : State) → Covers (Leads left s) source at place → First source.text.now place t → step s t.token ≡ go r → Covers (Leads left r) source at t.after
  covers_go r h n e = record {
    tokens = h.tokens ++ shift source.base t ∷ [];
    chain = chain_then source at place t.after h.tokens (shift source.base t ∷ []) h.chain (chain_one source place t n (go_not_last s r t.token e));
    are = run_go left h.tokens (shift source.base t) s r h.are e;
  }

  pub covers_closed : (found : Trees) → Covers (Leads left s) source at place → First source.text.now place t → step s t.token ≡ closed found → Covers (λ ts. IsClosed left (symbols ts) found) source at t.after
  covers_closed found h n e = record {
    tokens = h.tokens ++ shift source.base t ∷ [];
    chain = chain_then source at place t.after h.tokens (shift source.base t ∷ []) h.chain (chain_one source place t n (closed_not_last s found t.token e));
    are = run_closes left h.tokens (shift source.base t) s found h.are e;
  }

  pub fails_refused : (f : Fault) → Covers (Leads left s) source at place → First source.text.now place t → step s t.token ≡ refused → f.at ≡ source.base + t.start → f.kind ≡ fault_kind (kind_now t.token) → Fails Closed left source at f
  fails_refused f h n e p k = record { before = h.tokens; place = place; token = t; kind = kind_now t.token; chain = h.chain; next = n; stuck = stuck_refused left h.tokens (shift source.base t) s h.are e; place_is = p; kind_is = k }

  pub fails_deep : (f : Fault) → Covers (Leads left s) source at place → First source.text.now place t → step s t.token ≡ deep → f.at ≡ source.base + t.start → f.kind ≡ fault_kind too_deep → Fails Closed left source at f
  fails_deep f h n e p k = record { before = h.tokens; place = place; token = t; kind = too_deep; chain = h.chain; next = n; stuck = stuck_deep left h.tokens (shift source.base t) s h.are e; place_is = p; kind_is = k }

-- the parenthesis before them

pub open_not_last : (t : Symbol) → t ≡ token.lparen → ¬ (IsLast t)
open_not_last t e text.at_end = cc
open_not_last t e text.at_bad = cc

pub covers_arguments : (source : Source) (at end left : ℕ) (t : Placed) (found : Trees) → First source.text.now at t → t.token ≡ token.lparen → Covers (λ ts. IsClosed left (symbols ts) found) source t.after end → Covers (λ ts. IsArguments left ts found) source at end
covers_arguments source at end left t found n e h = record {
  tokens = shift source.base t ∷ h.tokens;
  chain = chain_then source at t.after end (shift source.base t ∷ []) h.tokens (chain_one source at t n (open_not_last t.token e)) h.chain;
  are = record { open_ = shift source.base t; rest = h.tokens; parts = refl; is_open = e; closed = h.are };
}

pub fails_arguments : (source : Source) (at left : ℕ) (t : Placed) (f : Fault) → First source.text.now at t → t.token ≡ token.lparen → Fails Closed left source t.after f → Fails Arguments left source at f
fails_arguments source at left t f n e h = fails_after (Is token.lparen) Closed left source at t f n (open_not_last t.token e) e h

-- Lists of names, as their loops read them.
use Rattle.std.proofs.Common.{◌≡◌, ℕ, ◌<◌, List, length, Some, None, refl, ◌∙◌}
use Rattle.p21_express.specs.Word.{Word, begins_symbol}
use Rattle.p21_express.specs.Grammar.{Naming}
use Rattle.p21_express.specs.Reader.{◌>>=◌, name_at, symbol_at, next_name, names_inside, naming_at, next_naming, namings_at}
use Rattle.p21_express.proofs.LoopLemmas.{list_at, list_same}
use Rattle.p21_express.proofs.GrammarLemmas.{next_name_sound, next_name_shorter, next_naming_sound, next_naming_shorter}

pub next_name_less : (ws mid : List Word) (n : List ℕ) → next_name ws ≡ Some (n, mid) → length mid < length ws
next_name_less ws mid n h = next_name_shorter ws mid n (next_name_sound ws (n, mid) h)

pub next_naming_less : (ws mid : List Word) (x : Naming) → next_naming ws ≡ Some (x, mid) → length mid < length ws
next_naming_less ws mid x h = next_naming_shorter ws mid x (next_naming_sound ws (x, mid) h)

names_by : (ws : List Word) → names_inside ws ≡ (list_at (begins_symbol 41) next_name (name_at ws) >>= λ ns. symbol_at 41 ns.1 >>= λ rest. Some (ns.0, rest))
unfolding names_inside
names_by ws = list_same (begins_symbol 41) next_name (name_at ws) (λ ns r. symbol_at 41 r >>= λ rest. Some (ns, rest))

pub names_fail : (ws : List Word) → list_at (begins_symbol 41) next_name (name_at ws) ≡ None → names_inside ws ≡ None
names_fail ws f = names_by ws ∙ rw f refl

pub names_none : (ws : List Word) → name_at ws ≡ None → names_inside ws ≡ None
unfolding names_inside
names_none ws h = rw h refl

pub names_end : (ws mid rest : List Word) (ns : List (List ℕ)) → list_at (begins_symbol 41) next_name (name_at ws) ≡ Some (ns, mid) → symbol_at 41 mid ≡ Some rest → names_inside ws ≡ Some (ns, rest)
names_end ws mid rest ns f g = names_by ws ∙ rw (f, g) refl

namings_by : (ws : List Word) → namings_at ws ≡ (list_at (begins_symbol 58) next_naming (naming_at ws) >>= λ xs. symbol_at 58 xs.1 >>= λ rest. Some (xs.0, rest))
unfolding namings_at
namings_by ws = list_same (begins_symbol 58) next_naming (naming_at ws) (λ xs r. symbol_at 58 r >>= λ rest. Some (xs, rest))

pub namings_fail : (ws : List Word) → list_at (begins_symbol 58) next_naming (naming_at ws) ≡ None → namings_at ws ≡ None
namings_fail ws f = namings_by ws ∙ rw f refl

pub namings_none : (ws : List Word) → naming_at ws ≡ None → namings_at ws ≡ None
unfolding namings_at
namings_none ws h = rw h refl

pub namings_end : (ws mid rest : List Word) (xs : List Naming) → list_at (begins_symbol 58) next_naming (naming_at ws) ≡ Some (xs, mid) → symbol_at 58 mid ≡ Some rest → namings_at ws ≡ Some (xs, rest)
namings_end ws mid rest xs f g = namings_by ws ∙ rw (f, g) refl

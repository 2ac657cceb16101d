-- What stands at a place of a list of parameters.
use Rattle.std.proofs.Common.{◌≡◌, ◌<◌, ◌∙◌, ℕ, zero, suc, false, List, [], ◌∷◌, Option, None, Some, length, slice_get, refl, ap, arith}
use Rattle.std.specs.Bool.{◌==◌}
use Rattle.std.specs.Option.{option_map}
use Rattle.std.proofs.lemmas.Bool.{false≢true}
use Rattle.p21_tree.specs.Plain.{plain, plain_all}
use Rattle.p21_tree.specs.Tree.{Tree, Trees, items, typed, nil, cons}
use Rattle.p21_tree.specs.declared.params.Param.{Param}
use Rattle.p21_json.specs.Where.{Where}
use Rattle.p21_json.specs.Where as where'
use Rattle.p21_query.specs.Path.{tree_at, at_path, behind}

pub tree_there : (ps : List Param) (i : ℕ) (p : Param) → slice_get ps i ≡ Some p → tree_at (plain_all ps) i ≡ Some (plain p)
tree_there [] i p e = absurd (cc)
tree_there (x ∷ ps) zero p e = ap (λ (q : Option Param). option_map plain q) e
tree_there (x ∷ ps) (suc i) p e = tree_there ps i p e

pub no_tree_there : (ps : List Param) (i : ℕ) → slice_get ps i ≡ None → tree_at (plain_all ps) i ≡ None
no_tree_there [] i e = refl
no_tree_there (x ∷ ps) zero e = absurd (cc)
no_tree_there (x ∷ ps) (suc i) e = no_tree_there ps i e

-- after a list or a typed parameter a path goes on in it
pub behind_items : (w : Where) (ts : Trees) (path : List ℕ) → 0 < length path → behind w (Some (items ts)) path ≡ at_path w ts path
behind_items w ts [] h = absurd (omega arith)
behind_items w ts (i ∷ is) h = refl

pub behind_typed : (w : Where) (k : List ℕ) (t : Tree) (path : List ℕ) → 0 < length path → behind w (Some (typed k t)) path ≡ at_path (where'.typed k) (cons t nil) path
behind_typed w k t [] h = absurd (omega arith)
behind_typed w k t (i ∷ is) h = refl

pub nonempty : (n : ℕ) → false ≡ (n == 0) → 0 < n
nonempty zero e = absurd (false≢true e)
nonempty (suc n) e = omega arith

-- what stands at a path from a list on
pub at_first : (w : Where) (ts : Trees) (path : List ℕ) (first : ℕ) (rest : List ℕ) (o : Option Tree) → path ≡ first ∷ rest → tree_at ts first ≡ o → at_path w ts path ≡ behind w o rest
at_first w ts path first rest o e t = ap (λ (p : List ℕ). at_path w ts p) e ∙ ap (λ (q : Option Tree). behind w q rest) t

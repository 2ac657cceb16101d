-- Parameters that have a name in them.
use Rattle.std.proofs.Common.{◌≡◌, ℕ, zero, suc, List, [], ◌∷◌, inl, inr, drop, sym, subst}
use Rattle.p21_tree.specs.Plain.{plain, plain_all}
use Rattle.p21_tree.specs.declared.params.Param.{Param}
use Rattle.p21_query.specs.Names.{HasName, HasNameIn}

in_drop : (n : ℕ) (ps : List Param) (i : ℕ) → HasNameIn n (plain_all (drop i ps)) → HasNameIn n (plain_all ps)
in_drop n ps zero h = h
in_drop n [] (suc i) h = h
in_drop n (p ∷ ps) (suc i) h = inr (in_drop n ps i h)

-- one that has it is among them
pub name_there : (n : ℕ) (ps rest : List Param) (i : ℕ) (p : Param) → drop i ps ≡ p ∷ rest → HasName n (plain p) → HasNameIn n (plain_all ps)
name_there n ps rest i p e h = in_drop n ps i (subst (λ (l : List Param). HasNameIn n (plain_all l)) (sym e) (inl h))

name_next : (n : ℕ) (rest : List Param) (p : Param) → ¬ (HasName n (plain p)) → HasNameIn n (plain_all (p ∷ rest)) → HasNameIn n (plain_all rest)
name_next n rest p none (inl h) = absurd (none h)
name_next n rest p none (inr h) = h

pub name_further : (n : ℕ) (l rest : List Param) (p : Param) → l ≡ p ∷ rest → ¬ (HasName n (plain p)) → HasNameIn n (plain_all l) → HasNameIn n (plain_all rest)
name_further n l rest p e none h = name_next n rest p none (subst (λ (k : List Param). HasNameIn n (plain_all k)) e h)

pub no_name_left : (n : ℕ) (l : List Param) → l ≡ [] → ¬ (HasNameIn n (plain_all l))
no_name_left n l e h = absurd (subst (λ (k : List Param). HasNameIn n (plain_all k)) e h)

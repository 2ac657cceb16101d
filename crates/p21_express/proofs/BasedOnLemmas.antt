-- BASED_ON after ENUMERATION or SELECT.
use Rattle.std.proofs.Common.{◌≡◌, true, List, [], ◌∷◌, None, refl}
use Rattle.std.specs.Prelude.{codes}
use Rattle.p21_express.specs.Word.{Word, begins_name}
use Rattle.p21_express.specs.Reader.{names_at, enumeration_at, select_at}
use Rattle.p21_express.proofs.WordLemmas.{name_true}

pub enumeration_none : (ws : List Word) → begins_name (codes "BASED_ON") ws ≡ true → enumeration_at ws ≡ None
unfolding enumeration_at
enumeration_none [] h = absurd cc
enumeration_none (w ∷ ws) h = rw (name_true (codes "BASED_ON") w h) refl

pub select_none : (ws : List Word) → begins_name (codes "BASED_ON") ws ≡ true → select_at ws ≡ None
unfolding select_at names_at
select_none [] h = absurd cc
select_none (w ∷ ws) h = rw (name_true (codes "BASED_ON") w h) refl

use Rattle.std.proofs.Common.{List, [], ◌++◌, sym, subst}
use Rattle.std.proofs.lemmas.List.{append-nil}
use Rattle.p21_json.specs.Parts.{Part, AreTokensOf, value_parts}
use Rattle.p21_json.proofs.SameLemmas.{same_value}
use Rattle.p21_json.proofs.laws.no_value_is_lost.Goals as goal

pub returns : goal.returns
returns c = λ s wf e w t u tokens o f g h k.
    let whole : (ps : List Part) → AreTokensOf s ps tokens → AreTokensOf s (ps ++ []) tokens = λ ps a. subst (λ (l : List Part). AreTokensOf s l tokens) (sym (append-nil ps)) a in
    (same_value s wf t u w w (λ l. l, λ l. l) (λ n. n (e, o, f.fits, g.fits)) f.spelled g.spelled [] [] tokens (whole (value_parts w t) h) (whole (value_parts w u) k)).0

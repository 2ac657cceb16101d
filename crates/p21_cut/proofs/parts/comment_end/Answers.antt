use Rattle.std.proofs.Common.{◌≡◌, ◌+◌, ◌-◌, ◌∷◌, drop, ap, subst, ◌∙◌, arith}
use Rattle.std.proofs.lemmas.List.{drop_more, take_rest}
use Rattle.p21_text.specs.Tokens.{Passes}
use Rattle.p21_cut.specs.Pieces.{PartsAre}
use Rattle.p21_cut.proofs.PartLemmas.{passed_parts, comment_missing}
use Rattle.p21_cut.proofs.parts.comment_end.Goals as goal

pub returns-then-passed-gt0-clause-parts : goal.returns-then-passed-gt0-clause-parts
returns-then-passed-gt0-clause-parts c =
    let rest = drop c.args.at c.args.file.now in
    let passes : Passes rest c.separators_len-passed.result = simp take_rest at c.separators_len-passed.ensures in
    let gap : c.separators_len-passed.result ≡ c.args.at + c.separators_len-passed.result - c.args.at = omega arith in
    subst (PartsAre rest) gap (passed_parts rest c.separators_len-passed.result passes)

pub returns-else-passed-gt0-clause-parts : goal.returns-else-passed-gt0-clause-parts
returns-else-passed-gt0-clause-parts c =
    let file = c.args.file.now in
    let at = c.args.at in
    let passes : Passes (drop at file) c.separators_len-passed.result = simp take_rest at c.separators_len-passed.ensures in
    let none : c.separators_len-passed.result ≡ 0 = omega arith in
    let second = drop_more file (at + 1) 0 c.requires.within ∙ ap (λ b. b ∷ drop (at + 1 + 1) file) c.requires.star in
    let here = drop_more file at 0 (omega arith) ∙ ap (λ b. b ∷ drop (at + 1) file) c.requires.solidus ∙ ap (λ l. 47 ∷ l) second in
    comment_missing (drop at file) (drop (at + 1 + 1) file) here (subst (Passes (drop at file)) none passes)

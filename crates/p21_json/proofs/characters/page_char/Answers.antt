use Rattle.std.proofs.Common.{◌≡◌, ◌+◌, ◌*◌, ◌∙◌, sym, arith}
use Rattle.p21_json.specs.Characters.{page_place}
use Rattle.p21_json.proofs.CharacterLemmas.{page_nowhere, page_there}
use Rattle.p21_json.proofs.characters.page_char.Goals as goal

pub returns-then-place-lt768 : goal.returns-then-place-lt768
returns-then-place-lt768 c =
    let place : 96 * c.saturating_sub-part.result + c.saturating_sub.result ≡ page_place c.args.letter c.args.number = omega arith in
    c.character.ensures ∙ sym (page_there c.args.letter c.args.number _ place c.if-place-lt768.true)

pub returns-else-place-lt768 : goal.returns-else-place-lt768
returns-else-place-lt768 c =
    let place : 96 * c.saturating_sub-part.result + c.saturating_sub.result ≡ page_place c.args.letter c.args.number = omega arith in
    sym (page_nowhere c.args.letter c.args.number _ place c.if-place-lt768.false)

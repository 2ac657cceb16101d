use Rattle.std.proofs.Common.{◌+◌, ◌∷◌, drop, ap, ◌∙◌}
use Rattle.std.proofs.lemmas.List.{drop_more}
use Rattle.p21_text.specs.Spelling.{symbol}
use Rattle.p21_text.specs.Tokens.{placed}
use Rattle.p21_cut.proofs.PartLemmas.{string_parts, string_missing, not_string}
use Rattle.p21_cut.proofs.parts.string_end.Goals as goal

pub returns-in-Str-clause-parts : goal.returns-in-Str-clause-parts
returns-in-Str-clause-parts c =
    let file = c.args.file.now in
    let at = c.args.at in
    let here = drop_more file at 0 c.requires.within ∙ ap (λ b. b ∷ drop (at + 1) file) c.requires.begins in
    string_parts file (drop (at + 1) file) c.in-Str.field-0.now at (placed c.next_token-lexed.result) here c.next_token-lexed.ensures.first (ap symbol c.in-Str.is)

pub returns-in_default : goal.returns-in_default
returns-in_default c =
    let file = c.args.file.now in
    let at = c.args.at in
    let here = drop_more file at 0 c.requires.within ∙ ap (λ b. b ∷ drop (at + 1) file) c.requires.begins in
    record {
      parts = string_missing file (drop (at + 1) file) at (placed c.next_token-lexed.result) here c.next_token-lexed.ensures.first (not_string c.next_token-lexed.result.token c.in_default.not-Str) (c.one_string.ensures (drop at file));
      advances = tt;
      within = tt;
    }

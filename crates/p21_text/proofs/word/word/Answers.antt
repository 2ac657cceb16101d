use Rattle.std.proofs.Common.{drop, refl, arith}
use Rattle.std.proofs.lemmas.Bool.{false≢true}
use Rattle.std.proofs.lemmas.Slice.Eq.{starts_is}
use Rattle.std.proofs.lemmas.Bool.Decides.{Decides-eqb}
use Rattle.p21_text.proofs.Shapes.{iso_word, end_iso_word}
use Rattle.p21_text.proofs.WordLemmas.{iso, end_iso, keyword, no_dash}
use Rattle.p21_text.proofs.word.word.Goals as goal
use Rattle.p21_text.proofs.word.word.Goals.{then-len-text+then-text-len-eq45+else-starts_with+else-starts_with-2, else-len-text, else-len-text-via-then-len-text+else-text-len-eq45, else-len-text-via-else-len-text}

pub returns-then-starts_with : goal.returns-then-starts_with
returns-then-starts_with c =
    let text = c.args.text.now in
    iso text c.name_run-len.result c.requires c.name_run-len.ensures (drop 12 text) ((starts_is Decides-eqb text iso_word _ c.if-starts_with.ensures.value).0 refl)

pub returns-then-starts_with-2 : goal.returns-then-starts_with-2
returns-then-starts_with-2 c =
    let text = c.args.text.now in
    end_iso text c.name_run-len.result c.requires c.name_run-len.ensures (drop 16 text) ((starts_is Decides-eqb text end_iso_word _ c.if-starts_with-2.ensures.value).0 refl)

pub returns : goal.returns
returns c =
    let text = c.args.text.now in
    let n = c.name_run-len.result in
    let r = c.name_run-len.ensures in
    elim c.if-len-text.branch [
      | then-len-text+then-text-len-eq45+else-starts_with+else-starts_with-2 w ↦
          keyword text n c.requires r (λ behind e. false≢true ((starts_is Decides-eqb text iso_word _ w.if-starts_with.ensures.value).1 behind e)) (λ behind e. false≢true ((starts_is Decides-eqb text end_iso_word _ w.if-starts_with-2.ensures.value).1 behind e))
      | else-len-text w ↦
          no_dash text n c.requires r (elim w.else-len-text.branch [
            | else-len-text-via-then-len-text+else-text-len-eq45 v ↦ λ d. v.if-text-len-eq45.false d.dash
            | else-len-text-via-else-len-text v ↦ λ d. (let past = v.if-len-text.false in let inside = d.inside in omega arith)
          ])
    ]

use Rattle.std.proofs.Common.{◌-◌, drop, false, get_or, length, refl, subst, sym}
use Rattle.p21_values.specs.Pattern.{IsRow}
use Rattle.p21_values.specs.Plain.{codes}
use Rattle.p21_values.specs.declared.pattern.Mark.{Mark}
use Rattle.p21_values.specs.declared.pattern.Mark.TheVariants as mark
use Rattle.p21_values.proofs.PatternLemmas.{end_longer, row_more}
use Rattle.p21_values.proofs.pattern.matches.Goals as goal

pub loop-done-preserved : goal.loop-done-preserved
loop-done-preserved c =
    let marks = c.args.marks.now in
    let done = c.loop-done.done in
    let missing : Mark = mark.Code 0 false in
    let here = get_or marks (length marks - 1 - done) missing in
    let rest = drop (length marks - done) marks in
    let t = codes c.args.text.now in
    let row : IsRow rest t c.deref.result.now = subst (IsRow rest t) (sym c.deref.ensures.value) c.loop-done.invariant in
    row_more t marks done here c.in_ok-row-2.row.items c.loop-done-test.true (end_longer marks done here missing c.loop-done-test.true refl) (c.in_ok-row-2.ensures rest row)

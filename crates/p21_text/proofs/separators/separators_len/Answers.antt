use Rattle.std.proofs.Common.{◌+◌, drop, arith, add-zero, add_assoc}
use Rattle.std.proofs.lemmas.List.{take_rest, length-drop, drop-drop}
use Rattle.p21_text.specs.Gaps.{UnitIs, HasNoUnit}
use Rattle.p21_text.proofs.SeparatorLemmas.{passes_none, passes_more}
use Rattle.p21_text.proofs.separators.separators_len.Goals as goal

pub loop-len-preserved : goal.loop-len-preserved
loop-len-preserved c =
    let text = c.args.text.now in
    let at = c.loop-len.at in
    let u : UnitIs (drop at text) c.in-Some.len = rw take_rest at c.in-Some.ensures in
    let fits = u.fits in
    record {
      within = (let within = c.loop-len.invariant.within in omega (arith, length-drop at text));
      goes = λ n p. rw add_assoc (c.loop-len.invariant.goes (c.in-Some.len + n) (passes_more (drop at text) c.in-Some.len n u (rw drop-drop p)));
    }

pub returns : goal.returns
returns c =
    let text = c.args.text.now in
    let at = c.loop-len.at in
    let none : HasNoUnit (drop at text) = rw take_rest at c.in_default.ensures in
    rw add-zero at (c.loop-len.invariant.goes 0 (passes_none (drop at text) none))

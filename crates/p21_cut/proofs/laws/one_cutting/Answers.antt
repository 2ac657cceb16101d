use Rattle.std.proofs.Common.{◌≤◌, ℕ, List, [], ◌∷◌, ◌∙◌, drop, length, subst}
use Rattle.p21_cut.specs.Cutter.{plain_piece}
use Rattle.p21_cut.proofs.CutterLemmas.{before_others}
use Rattle.p21_cut.proofs.OneCuttingLemmas.{from_each_number}
use Rattle.p21_cut.proofs.laws.one_cutting.Goals as goal

pub returns-in-Tail : goal.returns-in-Tail
returns-in-Tail c = λ number.
    let end = c.in-Tail.field-0 in
    let found = c.loop.invariant.goes [] end c.in-Tail.ensures.next.0 in
    from_each_number c.args.file.now c.args.at end number found.0 (λ k. c.one_string.ensures (drop k c.args.file.now)) found.1 (subst (λ (f : List ℕ). end ≤ length f) c.loop.invariant.same c.in-Tail.ensures.next.2)

pub loop-preserved : goal.loop-preserved
loop-preserved c = record {
  goes = λ ps end others.
      let p = plain_piece c.in_default.field-0 in
      c.loop.invariant.goes (p ∷ ps) end
      (before_others c.loop.cutter.file.now c.next.new.self.file.now c.loop.cutter.at c.loop.cutter.number c.next.new.self.at c.next.new.self.number end p ps c.in_default.ensures.file c.in_default.ensures.next.1 c.in_default.ensures.next.0 others);
  same = c.in_default.ensures.file ∙ c.loop.invariant.same;
}

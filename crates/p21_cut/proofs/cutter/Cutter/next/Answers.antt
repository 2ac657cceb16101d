use Rattle.std.proofs.Common.{◌≢◌, ◌+◌, ◌≤◌, ◌⊎◌, inl, inr, length, drop, slice_index, refl, arith}
use Rattle.std.proofs.lemmas.List.{take_rest, length-drop}
use Rattle.p21_text.specs.Tokens.{Passes}
use Rattle.p21_cut.specs.Pieces as pieces
use Rattle.p21_cut.proofs.PartLemmas.{not_before}
use Rattle.p21_cut.proofs.CutterLemmas.{piece_there}
use Rattle.p21_cut.proofs.cutter.Cutter.next.Goals.{then-start-self-via-then-start-self, then-start-self-via-else-start-self+then-self-start-ne35}
use Rattle.p21_cut.proofs.cutter.Cutter.next.Goals as goal

pub returns-then-start-self-clause-next : goal.returns-then-start-self-clause-next
returns-then-start-self-clause-next c =
    let file = c.args.self.now.file.now in
    let at = c.args.self.now.at in
    let start = at + c.separators_len.result in
    let gap : Passes (drop at file) c.separators_len.result = simp take_rest at c.separators_len.ensures in
    let stops : (length file ≤ start) ⊎ (slice_index file start ≢ 35) =
    elim c.then-start-self.branch [ then-start-self-via-then-start-self w ↦ inl w.if-start-self.true | then-start-self-via-else-start-self+then-self-start-ne35 w ↦ inr w.if-self-start-ne35.true ] in
    (pieces.tail gap (not_before 35 file start stops), refl, (let fits = gap.fits in let within = c.type_inv.self.0 in omega (arith, length-drop at file)))

pub returns-clause-next : goal.returns-clause-next
returns-clause-next c =
    let gap : Passes (drop c.args.self.now.at c.args.self.now.file.now) c.separators_len.result = simp take_rest at c.separators_len.ensures in
    (piece_there c.args.self.now.file.now c.args.self.now.at c.separators_len.result c.args.self.now.number c.piece_end-end.result gap c.piece_end-end.ensures.piece (let h = c.piece_end-end.ensures.advances in omega arith), refl)

use Rattle.std.proofs.Common.{◌≡◌, ◌≢◌, ◌+◌, ◌≤◌, ◌⊎◌, inl, inr, length, slice_index, arith}
use Rattle.p21_cut.proofs.PartLemmas.{lone_solidus, not_before}
use Rattle.p21_cut.proofs.parts.part_end.Goals.{else-at-file-via-then-at-file+else-file-at-eq42, else-at-file-via-else-at-file}
use Rattle.p21_cut.proofs.parts.part_end.Goals as goal

pub returns-else-at-file-clause-parts : goal.returns-else-at-file-clause-parts
returns-else-at-file-clause-parts c =
    let file = c.args.file.now in
    let at = c.args.at in
    let solidus : slice_index file at ≡ 47 = elim c.requires.begins [ inl e ↦ absurd (c.if-file-at-eq39.false e) | inr e ↦ e ] in
    let stops : (length file ≤ at + 1) ⊎ (slice_index file (at + 1) ≢ 42) =
    elim c.else-at-file.branch [ else-at-file-via-then-at-file+else-file-at-eq42 w ↦ inr w.if-file-at-eq42.false | else-at-file-via-else-at-file w ↦ inl (let h = w.if-at-file.false in omega arith) ] in
    lone_solidus file at c.requires.within solidus (not_before 42 file (at + 1) stops)

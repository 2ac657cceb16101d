use Rattle.std.proofs.Common.{◌≡◌, ◌≤◌, ◌<◌, ◌+◌, ◌-◌, inl, inr, length, take, drop, ap, subst, arith}
use Rattle.std.proofs.lemmas.List.{length-drop, drop_all, take_rest}
use Rattle.memchr.specs.Find.{Nowhere, Passes as FoundAt, is_byte3}
use Rattle.p21_cut.specs.Pieces.{HasNoPart, PartsAre, PieceIs}
use Rattle.p21_cut.specs.Pieces as pieces
use Rattle.p21_cut.proofs.PartLemmas.{up_to_mark, parts_to, closed_piece, open_piece, not_before, nothing_left}
use Rattle.p21_cut.proofs.parts.piece_end.Goals as goal

pub loop-len-init : goal.loop-len-init
loop-len-init c =
    let none : 0 ≡ c.args.start + 1 - (c.args.start + 1) = omega arith in
    record {
      behind = omega arith;
      within = omega arith;
      parts = subst (PartsAre (drop (c.args.start + 1) c.args.file.now)) none pieces.none;
    }

pub returns-then-file-mark-eq59-clause-piece : goal.returns-then-file-mark-eq59-clause-piece
returns-then-file-mark-eq59-clause-piece c =
    let file = c.args.file.now in
    let at = c.loop-len.at in
    let n = c.in-Some.len in
    let found = c.in-Some.ensures.0 in
    let rest : length (take (length file - at) (drop at file)) ≡ length (drop at file) = ap length (take_rest file at) in
    let fits : n < length (drop at file) = omega (arith, found.high, rest) in
    let inside : at + n < length file = omega (arith, fits, length-drop at file) in
    let parts = up_to_mark file c.args.start at n c.loop-len.invariant.behind c.loop-len.invariant.parts (omega (arith, fits)) found.before in
    closed_piece file c.args.start (at + n) c.requires.within c.requires.begins (omega (arith, c.loop-len.invariant.behind)) parts inside c.if-file-mark-eq59.true

pub loop-len-preserved : goal.loop-len-preserved
loop-len-preserved c =
    let file = c.args.file.now in
    let start = c.args.start in
    let at = c.loop-len.at in
    let n = c.in-Some.len in
    let end = c.in-Some-part_end.end in
    let found = c.in-Some.ensures.0 in
    let rest : length (take (length file - at) (drop at file)) ≡ length (drop at file) = ap length (take_rest file at) in
    let fits : n ≤ length (drop at file) = omega (arith, found.high, rest) in
    let behind : start + 1 ≤ at = c.loop-len.invariant.behind in
    let further : at + n < end = c.in-Some-part_end.ensures.advances in
    let parts = up_to_mark file start at n behind c.loop-len.invariant.parts fits found.before in
    record {
      behind = omega (arith, behind, further);
      within = c.in-Some-part_end.ensures.within;
      parts = parts_to file (start + 1) (at + n) end (omega (arith, behind)) (omega (arith, further)) parts c.in-Some-part_end.ensures.parts;
    }

pub returns-in-None-clause-piece : goal.returns-in-None-clause-piece
returns-in-None-clause-piece c =
    let file = c.args.file.now in
    let start = c.args.start in
    let at = c.loop-len.at in
    let n = c.in-Some.len in
    let found = c.in-Some.ensures.0 in
    let rest : length (take (length file - at) (drop at file)) ≡ length (drop at file) = ap length (take_rest file at) in
    let fits : n ≤ length (drop at file) = omega (arith, found.high, rest) in
    let behind : start + 1 ≤ at = c.loop-len.invariant.behind in
    let parts = up_to_mark file start at n behind c.loop-len.invariant.parts fits found.before in
    open_piece file start (at + n) c.requires.within c.requires.begins (omega (arith, behind)) parts (not_before 59 file (at + n) (inr c.if-file-mark-eq59.false)) c.in-None.ensures.parts

pub returns-clause-piece : goal.returns-clause-piece
returns-clause-piece c =
    let file = c.args.file.now in
    let start = c.args.start in
    let at = c.loop-len.at in
    let n = length (drop at file) in
    let rest : length (take (length file - at) (drop at file)) ≡ n = ap length (take_rest file at) in
    let nowhere = subst (λ j. Nowhere (FoundAt (is_byte3 59 39 47) (take (length file - at) (drop at file))) 0 j) rest c.in_default.ensures in
    let behind : start + 1 ≤ at = c.loop-len.invariant.behind in
    let end : length file ≤ at + n = omega (arith, length-drop at file) in
    let parts = up_to_mark file start at n behind c.loop-len.invariant.parts (omega arith) nowhere in
    open_piece file start (at + n) c.requires.within c.requires.begins (omega (arith, behind)) parts (not_before 59 file (at + n) (inl end)) (nothing_left (drop (at + n) file) (drop_all (at + n) file end))

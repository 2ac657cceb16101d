use Rattle.std.proofs.Common.{◌+◌, List, length, refl, sym, subst, ◌∙◌}
use Rattle.p21_check.specs.declared.referred.Reference.{Reference}
use Rattle.p21_check.specs.declared.piece_walk.Walked.{Walked}
use Rattle.p21_check.specs.WalkRecord.{SetOf, WalksParameters}
use Rattle.p21_check.proofs.PassedLemmas.{at_some}
use Rattle.p21_check.proofs.WalkPieceLemmas.{walked}
use Rattle.p21_check.proofs.piece_walk.walk_piece.Goals as goal

pub returns : goal.returns
returns c =
    let s = c.args.schema.now in
    let p = c.args.piece in
    let h = c.in-Some.head in
    let r = c.in-Some-2.passed in
    let os = c.in_ok-passed.ensures.attributes in
    let found = c.walk_parameters.new.into in
    let walks = at_some _ c.in-Some-2.is (c.in_ok-passed.ensures.walked c.args.alloc os.0 os.1) in
    let w : Walked = record { name = h.name; at = p.at + h.start; entity = h.entity; written = r.written; references = found } in
    walked s c.fits.ensures (sym c.distinct.ensures ∙ c.if-distinct.false) p h c.in-Some.ensures.head r os.0 os.1 found.items
    (subst (λ (old : List Reference). WalksParameters s (SetOf s h.entity) os.0 (length os.0) p.bytes.now h.after old found.items r) c.new-references.ensures.items walks) (c.is_closed.ensures c.if-not-is_closed.false) w refl refl refl refl refl

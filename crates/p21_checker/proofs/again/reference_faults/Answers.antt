use Rattle.std.proofs.Common.{◌≡◌, ◌+◌, ◌++◌, [], ◌<◌, ◌≤◌, false, true, List, length, drop, get_or, refl, rules, sym, ap, subst, ◌∙◌, arith, append-nil}
use Rattle.std.proofs.lemmas.List.{drop_all}
use Rattle.p21_tree.specs.declared.faults.Fault.{Fault}
use Rattle.p21_cut.specs.Cutter.{file_of, number_of, place_of, plain_piece}
use Rattle.p21_join.specs.Model.{plain_instances}
use Rattle.p21_outline.specs.Faultiness.{IsFaultiness}
use Rattle.p21_outline.specs.Outline.{outlined_instances}
use Rattle.p21_refs.specs.AllReferenceFaults.{AreReferenceFaults}
use Rattle.p21_refs.specs.AllReferenceFaults as reference
use Rattle.p21_checker.specs.Again.{AreTexts}
use Rattle.p21_checker.proofs.AgainLemmas.{at_place, fault_more, next_text, none_told, no_tail, sound_at, zip_length}
use Rattle.p21_checker.proofs.again.reference_faults.Goals as goal
use Rattle.p21_checker.proofs.again.reference_faults.Goals.{then-is_faulty+in_ok-fault_of+in_ok-push, else-is_faulty}

pub loop-is_faulty-init : goal.loop-is_faulty-init
loop-is_faulty-init g c =
    let all = plain_instances (outlined_instances c.args.outline.now) in
    (rw (c.new-cutter.ensures.file, c.new-cutter.ensures.place, c.new-cutter.ensures.number) c.requires.texts, λ fs h. rw c.new-faults.ensures.items h)

pub returns-then-not-contains : goal.returns-then-not-contains
returns-then-not-contains g c =
    let s = c.args.schema.now in
    let all = plain_instances (outlined_instances c.args.outline.now) in
    let off : c.contains.result ≡ false = search rules in
    rw c.new.ensures.items (none_told _ s all c.in_ok-faulty.faulty.items c.as_slice.result.now c.contains.result c.contains.ensures.value c.as_slice.ensures.value off refl c.in_ok-faulty.ensures)

pub unreachable-requires : goal.unreachable-requires
unreachable-requires g c =
    let s = c.args.schema.now in
    let all = plain_instances (outlined_instances c.args.outline.now) in
    let cutter = c.loop-is_faulty.cutter in
    let i = c.loop-is_faulty.is_faulty-index in
    let inside : i < length c.in_ok-faulty.faulty.items = subst (λ l. i < length l) c.as_slice-is_faulty-items.ensures.value c.loop-is_faulty-test.true in
    let one = at_place (IsFaultiness s all) i all c.in_ok-faulty.faulty.items false c.in_ok-faulty.ensures inside in
    no_tail (file_of cutter) (place_of cutter) (number_of cutter) c.in_default.field-0 one.0 (drop (i + 1) all) (c.pieces_are_unique.ensures.next (file_of cutter) (place_of cutter))
    (subst (AreTexts (file_of cutter) (place_of cutter) (number_of cutter)) one.1 c.loop-is_faulty.invariant.0) c.in_default.ensures.next.0

pub fault_of-requires-clause-instance : goal.fault_of-requires-clause-instance
fault_of-requires-clause-instance g c =
    let s = c.args.schema.now in
    let all = plain_instances (outlined_instances c.args.outline.now) in
    let cutter = c.loop-is_faulty.cutter in
    let i = c.loop-is_faulty.is_faulty-index in
    let inside : i < length c.in_ok-faulty.faulty.items = subst (λ l. i < length l) c.as_slice-is_faulty-items.ensures.value c.loop-is_faulty-test.true in
    let one = at_place (IsFaultiness s all) i all c.in_ok-faulty.faulty.items false c.in_ok-faulty.ensures inside in
    let next = next_text (file_of cutter) (place_of cutter) (number_of cutter) (place_of c.next.new.self) (plain_piece c.in-Piece.piece) one.0 (drop (i + 1) all) (c.pieces_are_unique.ensures.next (file_of cutter) (place_of cutter))
    (subst (AreTexts (file_of cutter) (place_of cutter) (number_of cutter)) one.1 c.loop-is_faulty.invariant.0) c.in-Piece.ensures.next.0 in
    let flag : get_or c.in_ok-faulty.faulty.items i false ≡ true = subst (λ l. get_or l i false ≡ true) c.as_slice-is_faulty-items.ensures.value c.if-is_faulty.true in
    (one.0, next.0, sound_at s all i one.0 (drop (i + 1) all) one.1 c.requires.outlined.sound, subst (IsFaultiness s all one.0) flag one.2)

pub loop-is_faulty-preserved : goal.loop-is_faulty-preserved
loop-is_faulty-preserved g c =
    let s = c.args.schema.now in
    let all = plain_instances (outlined_instances c.args.outline.now) in
    let cutter = c.loop-is_faulty.cutter in
    let i = c.loop-is_faulty.is_faulty-index in
    let found = c.loop-is_faulty.faults.items in
    let inside : i < length c.in_ok-faulty.faulty.items = subst (λ l. i < length l) c.as_slice-is_faulty-items.ensures.value c.loop-is_faulty-test.true in
    let one = at_place (IsFaultiness s all) i all c.in_ok-faulty.faulty.items false c.in_ok-faulty.ensures inside in
    let next = next_text (file_of cutter) (place_of cutter) (number_of cutter) (place_of c.next.new.self) (plain_piece c.in-Piece.piece) one.0 (drop (i + 1) all) (c.pieces_are_unique.ensures.next (file_of cutter) (place_of cutter))
    (subst (AreTexts (file_of cutter) (place_of cutter) (number_of cutter)) one.1 c.loop-is_faulty.invariant.0) c.in-Piece.ensures.next.0 in
    let new = c.next.new.self in
    let rest = drop (i + 1) all in
    let left : AreTexts (file_of new) (place_of new) (number_of new) rest =
    subst (λ f. AreTexts f (place_of new) (number_of new) rest) (sym c.in-Piece.ensures.file) (subst (λ n. AreTexts (file_of cutter) (place_of new) n rest) (sym c.in-Piece.ensures.next.1) next.1) in
    let goes = subst (λ l. (fs : List Fault) → AreReferenceFaults s all l fs → AreReferenceFaults s all all (found ++ fs)) one.1 c.loop-is_faulty.invariant.1 in
    elim c.if-is_faulty.branch [
      | then-is_faulty+in_ok-fault_of+in_ok-push w ↦ (
        left,
        λ fs h. rw w.faults-is (fault_more s all one.0 (drop (i + 1) all) found _ fs _ (w.in_ok-fault_of.ensures one.0 next.0) w.in_ok-push.ensures.items h goes),
      )
      | else-is_faulty w ↦ (
        left,
        λ fs h. rw w.faults-is (goes fs (reference.answered (subst (IsFaultiness s all one.0) (subst (λ l. get_or l i false ≡ false) c.as_slice-is_faulty-items.ensures.value w.if-is_faulty.false) one.2) h)),
      )
    ]

pub returns : goal.returns
returns g c =
    let s = c.args.schema.now in
    let all = plain_instances (outlined_instances c.args.outline.now) in
    let i = c.loop-is_faulty.is_faulty-index in
    let many = zip_length (IsFaultiness s all) all c.in_ok-faulty.faulty.items c.in_ok-faulty.ensures in
    let end : length c.as_slice-is_faulty-items.result.now ≤ i = omega (arith, c.loop-is_faulty-test.false) in
    let all_done : length all ≤ i = subst (λ n. n ≤ i) (ap length c.as_slice-is_faulty-items.ensures.value ∙ sym many) end in
    subst (AreReferenceFaults s all all) (append-nil c.loop-is_faulty.faults.items) (c.loop-is_faulty.invariant.1 [] (rw (drop_all i all all_done) reference.none))

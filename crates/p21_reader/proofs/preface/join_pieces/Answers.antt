use Rattle.std.proofs.Common.{◌≡◌, [], sym, subst, ◌∙◌}
use Rattle.p21_tree.specs.Views.{plain_preface}
use Rattle.p21_check.specs.EntityOf.{AreSimpleEntities}
use Rattle.p21_cut.specs.Cutter.{number_of, place_of, plain_piece}
use Rattle.p21_cut.specs.Pieces.{IsNext}
use Rattle.p21_join.specs.Joined.{joined}
use Rattle.p21_reader.specs.LocalFault.{IsLocalFaultOfFile}
use Rattle.p21_reader.specs.Steps.{IsReadUpTo}
use Rattle.p21_join.specs.Model.{plain_instances}
use Rattle.p21_reader.proofs.ExitLemmas.{exit_stop}
use Rattle.p21_reader.specs.Judged.{value_of}
use Rattle.p21_reader.proofs.EntityLemmas.{value_known}
use Rattle.p21_reader.proofs.ReadLemmas.{begins_opening, none_faultless, part_laws}
use Rattle.p21_reader.proofs.ValueLemmas.{value_read, value_stops}
use Rattle.p21_reader.proofs.preface.join_pieces.Goals as goal

pub loop-piece-init : goal.loop-piece-init
loop-piece-init c =
    let file = c.args.file.now in
    let o = plain_preface c.args.preface.now in
    let there : IsReadUpTo c.args.schema.now file o [] o.data_at = record { begins = begins_opening file o c.requires.begins; faultless = none_faultless c.args.schema.now } in
    let place : o.data_at ≡ place_of c.new-cutter.result = sym c.new-cutter.ensures.place in
    record {
      read = subst (λ is. IsReadUpTo c.args.schema.now file o (plain_instances is) (place_of c.new-cutter.result)) (sym c.with_key-joiner.ensures) (subst (IsReadUpTo c.args.schema.now file o []) place there);
      same = c.new-cutter.ensures.file;
      known = subst (λ is. AreSimpleEntities c.args.schema.now (plain_instances is) c.new-entities.result.items) (sym c.with_key-joiner.ensures) (subst (AreSimpleEntities c.args.schema.now []) (sym c.new-entities.ensures.items) tt);
    }

pub loop-piece-preserved : goal.loop-piece-preserved
loop-piece-preserved c =
    let s = c.args.schema.now in
    let file = c.args.file.now in
    let old = plain_instances (joined c.loop-piece.joiner) in
    let new = plain_instances (joined c.add_value.new.joiner) in
    let j = c.in_ok-judgement-in-Piece.judgement in
    let adds = c.in_ok-add_value-in-Piece.ensures.adds in
    let n = subst (λ f. IsNext f (place_of c.loop-piece.cutter) (number_of c.loop-piece.cutter) (plain_piece c.in-Piece.piece) (place_of c.next.new.self)) c.loop-piece.invariant.same c.in-Piece.ensures.next.0 in
    let laws = part_laws c.first_tokens_of_file.ensures.of_pieces c.first_tokens_of_file.ensures.of_tails c.parts_up_to_fault.ensures.of_pieces c.parts_up_to_fault.ensures.of_tails c.parts_up_to_fault.ensures.whole c.parts_up_to_fault.ensures.behind in
    record {
      read = value_read laws s file (plain_preface c.args.preface.now) old new (place_of c.loop-piece.cutter) (number_of c.loop-piece.cutter) (place_of c.next.new.self) c.in-Piece.piece (value_of j.judged) c.loop-piece.invariant.read n c.in_ok-judgement-in-Piece.ensures.judged adds;
      same = c.in-Piece.ensures.file ∙ c.loop-piece.invariant.same;
      known = value_known s old new c.loop-piece.entities.items c.add_value.new.entities.items (value_of j.judged) j.entity adds c.in_ok-judgement-in-Piece.ensures.entity c.in_ok-add_value-in-Piece.ensures.entities c.loop-piece.invariant.known;
    }

pub returns-in_err-add_value-in-Piece-clause-fault : goal.returns-in_err-add_value-in-Piece-clause-fault
returns-in_err-add_value-in-Piece-clause-fault c =
    let s = c.args.schema.now in
    let file = c.args.file.now in
    let e = c.in_err-add_value-in-Piece.field-0.0 in
    let n = subst (λ f. IsNext f (place_of c.loop-piece.cutter) (number_of c.loop-piece.cutter) (plain_piece c.in-Piece.piece) (place_of c.next.new.self)) c.loop-piece.invariant.same c.in-Piece.ensures.next.0 in
    let laws = part_laws c.first_tokens_of_file.ensures.of_pieces c.first_tokens_of_file.ensures.of_tails c.parts_up_to_fault.ensures.of_pieces c.parts_up_to_fault.ensures.of_tails c.parts_up_to_fault.ensures.whole c.parts_up_to_fault.ensures.behind in
    exit_stop (IsLocalFaultOfFile s file) c.from_residual-in_err-add_value-in-Piece.result e c.from_residual-in_err-add_value-in-Piece.ensures.1
    (value_stops laws s file (plain_preface c.args.preface.now) (plain_instances (joined c.loop-piece.joiner)) (plain_instances (joined c.add_value.new.joiner)) (place_of c.loop-piece.cutter) (number_of c.loop-piece.cutter) (place_of c.next.new.self) c.in-Piece.piece (value_of c.in_ok-judgement-in-Piece.judgement.judged)
    e c.loop-piece.invariant.read c.requires.header n c.in_ok-judgement-in-Piece.ensures.judged c.in_err-add_value-in-Piece.ensures.adds)

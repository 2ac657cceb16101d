use Rattle.std.proofs.Common.{sym, subst}
use Rattle.p21_tree.specs.Views.{plain_preface}
use Rattle.p21_join.specs.Joined.{joined}
use Rattle.p21_reader.specs.LocalFault.{IsOpeningFault, IsLocalFaultOfFile, HasNoLocalFault}
use Rattle.p21_reader.specs.LocalFault as fault
use Rattle.p21_join.specs.Model.{plain_instances}
use Rattle.p21_reader.specs.declared.stop.Stop.TheVariants as stop
use Rattle.p21_reader.proofs.ExitLemmas.{exit_stop, fault_gives}
use Rattle.p21_reader.proofs.ReadLemmas.{part_laws, file_read, tail_fault}
use Rattle.p21_reader.proofs.preface.local_model.Goals as goal

pub returns-in_err-preface-clause-fault : goal.returns-in_err-preface-clause-fault
returns-in_err-preface-clause-fault c =
    let s = c.args.schema.now in
    let file = c.args.file.now in
    let e = c.in_err-preface.field-0.0 in
    exit_stop (IsLocalFaultOfFile s file) c.from_residual.result e c.from_residual.ensures.1 (fault_gives (IsOpeningFault s file) (IsLocalFaultOfFile s file) e (λ f h. fault.in_opening h) c.in_err-preface.ensures.fault)

pub returns-in_err-read_tail-clause-fault : goal.returns-in_err-read_tail-clause-fault
returns-in_err-read_tail-clause-fault c =
    let laws = part_laws c.first_tokens_of_file.ensures.of_pieces c.first_tokens_of_file.ensures.of_tails c.parts_up_to_fault.ensures.of_pieces c.parts_up_to_fault.ensures.of_tails c.parts_up_to_fault.ensures.whole c.parts_up_to_fault.ensures.behind in
    let f = c.in_err-read_tail.field-0.0 in
    exit_stop (IsLocalFaultOfFile c.args.schema.now c.args.file.now) c.from_residual-in_err-read_tail.result (stop.Fault f) c.from_residual-in_err-read_tail.ensures.1
    (tail_fault laws c.args.schema.now c.args.file.now (plain_preface c.in_ok-preface.preface) (plain_instances (joined c.in_ok-joiner.joiner)) c.in_ok-joiner.tail f c.in_ok-joiner.ensures.ok c.in_ok-preface.ensures.header c.in_err-read_tail.ensures.fault)

pub returns-clause-ok : goal.returns-clause-ok
returns-clause-ok c =
    let laws = part_laws c.first_tokens_of_file.ensures.of_pieces c.first_tokens_of_file.ensures.of_tails c.parts_up_to_fault.ensures.of_pieces c.parts_up_to_fault.ensures.of_tails c.parts_up_to_fault.ensures.whole c.parts_up_to_fault.ensures.behind in
    let read = file_read laws c.args.schema.now c.args.file.now (plain_preface c.in_ok-preface.preface) (plain_instances (joined c.in_ok-joiner.joiner)) c.in_ok-joiner.tail c.in_ok-joiner.ensures.ok c.in_ok-preface.ensures.header c.in_ok-read_tail.ensures.ok in
    subst (λ is. HasNoLocalFault c.args.schema.now c.args.file.now (plain_instances is)) (sym c.into_model.ensures) read

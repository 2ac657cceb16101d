use Rattle.std.proofs.Common.{subst}
use Rattle.p21_tree.specs.Texts.{HasPieceFault, OnGrammar}
use Rattle.p21_tree.specs.Views.{plain_instance}
use Rattle.p21_reader.specs.Values.{grammar, whole}
use Rattle.p21_checker.specs.Checked.{sound_value}
use Rattle.p21_checker.proofs.GatheringLemmas.{on_ok}
use Rattle.p21_checker.proofs.ListLemmas.{stated_more}
use Rattle.p21_checker.proofs.checking.check.Goals as goal

pub returns-in-Ok : goal.returns-in-Ok
returns-in-Ok c =
    on_ok c.push_instance.result _ _
    (λ adds ps stated. stated_more c.args.schema.now ps c.args.piece (whole (record { instance = plain_instance c.in-Ok.instance; own = adds.0 })) c.args.checked.now c.push_instance.new.self (c.in-Ok.ensures.ok, adds.1) adds.2 stated)
    c.push_instance.ensures

pub returns-in-Err-Grammar : goal.returns-in-Err-Grammar
returns-in-Err-Grammar c =
    let fault : HasPieceFault c.args.piece c.in-Err-Grammar.fault = subst (λ e. OnGrammar e (HasPieceFault c.args.piece)) c.in-Err-Grammar.field-0-is c.in-Err-Grammar.ensures.fault in
    on_ok c.push.result _ _ (λ adds ps stated. stated_more c.args.schema.now ps c.args.piece (grammar c.in-Err-Grammar.fault) c.args.checked.now c.push.new.self fault (adds c.args.schema.now) stated) c.push.ensures

pub returns-in-Some : goal.returns-in-Some
returns-in-Some c =
    on_ok c.push_walked.result _ _
    (λ adds ps stated. stated_more c.args.schema.now ps c.args.piece (sound_value adds.0) c.args.checked.now c.push_walked.new.self (adds.1.text, adds.1.sound) adds.2 stated) c.push_walked.ensures

use Rattle.std.proofs.Common.{◌<◌, ap, arith}
use Rattle.p21_text.specs.Spelling.{symbol}
use Rattle.p21_text.specs.Spelling as token
use Rattle.p21_text.specs.Tokens.{placed}
use Rattle.p21_tree.specs.Views.{plain_instance}
use Rattle.p21_tree.specs.Parts.{EqualsOn, Bodies}
use Rattle.p21_tree.specs.Progress.{Fails}
use Rattle.p21_tree.proofs.DataLemmas.{covers_none, covers_named, covers_next, fails_one_instance, faults_next, finishes_body, is_name, not_last, name_goes}
use Rattle.p21_tree.proofs.ExitLemmas.{exit_fault, exit_error}
use Rattle.p21_tree.proofs.data_section.instances.Goals as goal

pub instances-init : goal.instances-init
instances-init c = record {
  within = c.requires;
  reads = covers_none c.args.source c.args.at c.new-instances.result.items c.new-instances.ensures.items;
  faults = λ f h. h;
}

pub close-requires-clause-no_name : goal.close-requires-clause-no_name
close-requires-clause-no_name c = λ n e. c.in_default.not-Name n (is_name c.token-lexed.result.token n e)

pub returns-in_err-close-clause-fault : goal.returns-in_err-close-clause-fault
returns-in_err-close-clause-fault c =
    exit_fault c.from_residual.result (Fails Bodies 64 c.args.source c.args.at) c.in_err-close.field-0.0 c.from_residual.ensures.1
    (c.instances.invariant.faults c.in_err-close.field-0.0 c.in_err-close.ensures.fault)

pub returns-in_err-read-clause-fault : goal.returns-in_err-read-clause-fault
returns-in_err-read-clause-fault c =
    exit_error c.from_residual-in_err-read.result (Fails EqualsOn 64 c.args.source c.token-lexed.result.after) (Fails Bodies 64 c.args.source c.args.at) c.in_err-read.field-0.0 c.from_residual-in_err-read.ensures.1
    (λ f h. c.instances.invariant.faults f (fails_one_instance c.args.source c.instances.place c.in-Name.name (placed c.token-lexed.result) c.token-lexed.ensures.first (ap symbol c.in-Name.is) f h)) c.in_err-read.ensures.fault

pub instances-smaller : goal.instances-smaller
instances-smaller c =
    let a : c.token-lexed.result.start < c.token-lexed.result.after = c.token-lexed.ensures.advances (not_last (symbol c.token-lexed.result.token) (token.name c.in-Name.name) (ap symbol c.in-Name.is) (name_goes c.in-Name.name)) in
    omega (arith, a, c.token-lexed.ensures.behind, c.in_ok-read.ensures.behind, c.in_ok-read.ensures.within)

pub instances-preserved : goal.instances-preserved
instances-preserved c =
    let h = covers_named c.args.source c.instances.place c.in-Name.name (placed c.token-lexed.result) c.token-lexed.ensures.first (ap symbol c.in-Name.is) c.in_ok-read.after (plain_instance c.in_ok-read.read) c.in_ok-read.ensures.ok in
    record {
      within = c.in_ok-read.ensures.within;
      reads = covers_next c.args.source c.args.at c.instances.place c.in_ok-read.after c.instances.instances.items c.push.new.self.items c.in_ok-read.read c.in_ok-push.ensures.items c.instances.invariant.reads h;
      faults = λ f g. c.instances.invariant.faults f (faults_next c.args.source c.instances.place c.in_ok-read.after (plain_instance c.in_ok-read.read) f h g);
    }

pub returns-in_default : goal.returns-in_default
returns-in_default c = record {
  ok = finishes_body c.args.source c.args.at c.instances.place c.instances.instances.items c.instances.invariant.reads c.in_ok-close.ensures.ok;
  fault = tt;
}

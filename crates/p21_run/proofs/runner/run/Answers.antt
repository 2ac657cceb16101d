use Rattle.p21_run.proofs.ClauseLemmas.{run_written, run_schema_bounded, run_file_bounded, run_unread, run_overlong_schema, run_overlong_file, run_schema_failed, run_file_failed, run_writer_failed, run_schema_remains, run_file_remains, run_unwritten, run_cause}
use Rattle.p21_run.proofs.runner.run.Goals as goal

pub returns-clause-written : goal.returns-clause-written
returns-clause-written g c = run_written c.args.all c.args.rules _ _ _ _ c.run_heard.ensures

pub returns-clause-schema_bounded : goal.returns-clause-schema_bounded
returns-clause-schema_bounded g c = run_schema_bounded c.args.all c.args.rules _ _ _ _ c.run_heard.ensures

pub returns-clause-file_bounded : goal.returns-clause-file_bounded
returns-clause-file_bounded g c = run_file_bounded c.args.all c.args.rules _ _ _ _ c.run_heard.ensures

pub returns-clause-unread : goal.returns-clause-unread
returns-clause-unread g c = run_unread c.args.all c.args.rules _ _ _ _ c.run_heard.ensures

pub returns-clause-overlong_schema : goal.returns-clause-overlong_schema
returns-clause-overlong_schema g c = run_overlong_schema c.args.all c.args.rules _ _ _ _ c.run_heard.ensures

pub returns-clause-overlong_file : goal.returns-clause-overlong_file
returns-clause-overlong_file g c = run_overlong_file c.args.all c.args.rules _ _ _ _ c.run_heard.ensures

pub returns-clause-schema_failed : goal.returns-clause-schema_failed
returns-clause-schema_failed g c = run_schema_failed c.args.all c.args.rules _ _ _ _ c.run_heard.ensures

pub returns-clause-file_failed : goal.returns-clause-file_failed
returns-clause-file_failed g c = run_file_failed c.args.all c.args.rules _ _ _ _ c.run_heard.ensures

pub returns-clause-writer_failed : goal.returns-clause-writer_failed
returns-clause-writer_failed g c = run_writer_failed c.args.all c.args.rules _ _ _ _ c.run_heard.ensures

pub returns-clause-schema_remains : goal.returns-clause-schema_remains
returns-clause-schema_remains g c = run_schema_remains c.args.all c.args.rules _ _ _ _ c.run_heard.ensures

pub returns-clause-file_remains : goal.returns-clause-file_remains
returns-clause-file_remains g c = run_file_remains c.args.all c.args.rules _ _ _ _ c.run_heard.ensures

pub returns-clause-unwritten : goal.returns-clause-unwritten
returns-clause-unwritten g c = run_unwritten c.args.all c.args.rules _ _ _ _ c.run_heard.ensures

pub returns-clause-cause : goal.returns-clause-cause
returns-clause-cause g c = run_cause c.args.all c.args.rules _ _ _ _ c.run_heard.ensures

use Rattle.std.proofs.Common.{Bor, List}
use Rattle.p21_express.specs.declared.word.Word as source
use Rattle.p21_express.specs.Reader.{words_of}
use Rattle.p21_expression.specs.declared.tree.Expression as source_tree
use Rattle.p21_expression.specs.Plain.{plain}
use Rattle.p21_expression.proofs.SoundLemmas.{ok_simple}
use Rattle.p21_expression.proofs.reader.simple_expression.Goals as goal

pub returns-clause-reading : goal.returns-clause-reading
returns-clause-reading c = ok_simple (λ (x : source_tree.Expression × Bor (List source.Word)). (plain x.0, words_of x.1.now)) c.nested.result (words_of c.args.words.now) c.nested.ensures

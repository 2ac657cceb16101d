use Rattle.std.proofs.Common.{Bor, List, map}
use Rattle.std.specs.Prelude.{Vec}
use Rattle.std.specs.declared.alloc.Global.{Global}
use Rattle.p21_express.specs.declared.word.Word as source
use Rattle.p21_express.specs.Reader.{words_of}
use Rattle.p21_expression.specs.declared.tree.Qualifier as source_qualifier
use Rattle.p21_expression.specs.Plain.{plain_qualifier}
use Rattle.p21_expression.proofs.SoundLemmas.{ok_qualifiers}
use Rattle.p21_expression.proofs.reader.qualifiers_after.Goals as goal

pub returns-clause-reading : goal.returns-clause-reading
returns-clause-reading c = ok_qualifiers (λ (x : Vec source_qualifier.Qualifier Global × Bor (List source.Word)). (map plain_qualifier x.0.items, words_of x.1.now)) c.qualifiers.result (words_of c.args.words.now) c.qualifiers.ensures

use Rattle.std.proofs.Common.{sym, ◌∙◌}
use Rattle.p21_express.specs.Reader.{words_of}
use Rattle.p21_express.proofs.BasedOnLemmas.{enumeration_none}
use Rattle.p21_express.proofs.type_decls.enumeration.Goals as goal

pub returns-then-begins_name : goal.returns-then-begins_name
returns-then-begins_name c = rw c.not_supported.ensures (enumeration_none (words_of c.args.words.now) (sym c.begins_name.ensures ∙ c.if-begins_name.true))

use Rattle.std.proofs.Common.{suc, length, arith}
use Rattle.p21_express.specs.Word.{begins_name}
use Rattle.p21_expression.specs.declared.operators.Precedence.TheVariants as precedence
use Rattle.p21_expression.specs.Reader.{ends_qualifiers, qualifier_at, reading}
use Rattle.p21_expression.specs.Rules.{rule_at}
use Rattle.p21_expression.proofs.LengthLemmas.{less, many_leaves}
use Rattle.p21_expression.proofs.ReaderLemmas.{qualifier_shrinks, reading_shrinks}
use Rattle.p21_expression.proofs.RuleLemmas.{rule_shrinks}
use Rattle.p21_expression.proofs.laws.reading_takes_words.Goals as goal

pub returns-clause-expression : goal.returns-clause-expression
returns-clause-expression c = λ ws x h. less (reading_shrinks 256 precedence.Relation) ws x.1 h

pub returns-clause-simple : goal.returns-clause-simple
returns-clause-simple c = λ ws x h. less (reading_shrinks 256 precedence.Sum) ws x.1 h

pub returns-clause-qualifiers : goal.returns-clause-qualifiers
returns-clause-qualifiers c = λ ws x h. let k = (many_leaves ends_qualifiers (qualifier_at (reading 256)) (qualifier_shrinks (reading_shrinks 256)) (suc (length ws)) _ ws (omega arith)).fewer x h in omega (arith, k)

pub returns-clause-rules : goal.returns-clause-rules
returns-clause-rules c = λ last ws x h. let k = (many_leaves (begins_name last) rule_at rule_shrinks (suc (length ws)) _ ws (omega arith)).fewer x h in omega (arith, k)

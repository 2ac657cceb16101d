-- What rules are run over may be looked at by several threads at once. Each part is shown by itself: all of it is too much for one search.
use denote.Param.Send.{IsSync, sendable}
use denote.Ref.{NamedLft}
use Rattle.std.proofs.Crossing.{crosses}
use Rattle.p21_evaluate.proofs.term.Statement.TheLaws.TheKnot as statement
use Rattle.p21_evaluate.proofs.term.Term.TheLaws.TheKnot as term
use Rattle.p21_evaluate.specs.contracts.term.Function as Function
use Rattle.p21_evaluate.specs.contracts.term.Label as Label
use Rattle.p21_evaluate.specs.contracts.term.Statement as Statement
use Rattle.p21_evaluate.specs.contracts.term.Term as Term
use Rattle.p21_schema.proofs.Crossing.{Schema-sync}
use Rattle.p21_world.proofs.Crossing.{FileWorld-sync, Names-sync}
use Rattle.p21_where.specs.contracts.asked.Asked as Asked
use Rattle.p21_where.specs.contracts.concerns.Concerns as Concerns
use Rattle.p21_where.specs.contracts.rules.RunRule as RunRule

-- as they lie in a list or behind a reference
pub Term-sync : (α : NamedLft) → IsSync (Term.the_row α)
Term-sync α = search (sendable, crosses, term.crosses) depth 80 fits 20000

Label-sync : (α : NamedLft) → IsSync (Label.the_row α)
Label-sync α = search (sendable, crosses, term.crosses) depth 80 fits 20000

Statement-sync : (α : NamedLft) → IsSync (Statement.the_row α)
Statement-sync α = search (sendable, crosses, statement.crosses, term.crosses, Label-sync) depth 80 fits 20000

pub Function-sync : (α : NamedLft) → IsSync (Function.the_row α)
Function-sync α = search (sendable, crosses, Statement-sync) depth 80 fits 20000

pub RunRule-sync : (α β : NamedLft) → IsSync (RunRule.the_row α β)
RunRule-sync α β = search (sendable, crosses, Term-sync) depth 80 fits 20000

pub Concerns-sync : IsSync Concerns.the_row
Concerns-sync = search (sendable, crosses) depth 80 fits 20000

pub Asked-sync : (α β : NamedLft) → IsSync (Asked.the_row α β)
Asked-sync α β = search (sendable, crosses, FileWorld-sync) depth 80 fits 20000

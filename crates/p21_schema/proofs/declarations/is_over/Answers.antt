use Rattle.std.proofs.Common.{◌<◌, sym, subst}
use Rattle.p21_schema.proofs.declarations.is_over.Goals as goal

pub has-requires-clause-row : goal.has-requires-clause-row
has-requires-clause-row c = subst (λ u. c.args.entity < u) (sym c.requires.known.ancestry.rows) c.requires.entity

pub has-requires-clause-column : goal.has-requires-clause-column
has-requires-clause-column c = subst (λ u. c.args.other < u) (sym c.requires.known.ancestry.columns) c.requires.other

pub returns : goal.returns
returns c =
    let row = c.requires.known.ancestry.holds c.args.entity c.args.other c.requires.entity c.requires.other in
    (λ r. row.0 (c.has.ensures.0 r), λ i. c.has.ensures.1 (row.1 i))

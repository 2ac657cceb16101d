use Rattle.std.proofs.Common.{◌≡◌, ◌<◌, [], length, get_or, sym, subst, ◌∙◌}
use Rattle.p21_express.specs.Schema.{Schema}
use Rattle.p21_graph.specs.Graph.{rows_of}
use Rattle.p21_graph.specs.GraphLaws.{row_is, row_count}
use Rattle.p21_schema.specs.Tables.{schema_of}
use Rattle.p21_schema.specs.Row.{IsAttributeOf}
use Rattle.p21_schema.proofs.DeclarationLemmas.{row_tells}
use Rattle.p21_schema.proofs.schema.Schema.declarations.Goals as goal

pub returns : goal.returns
returns c =
    let s = schema_of c.self.inside in
    let a = c.args.attribute in
    let la : IsAttributeOf s a = subst (λ (u : Schema). IsAttributeOf u a) (sym c.self.view_is) c.requires in
    let t = c.self.inside.attributes in
    let less : a.index < length t.items = subst (λ u. a.index < u) (sym c.self.invariant.attributes.count ∙ row_count t ∙ t.ok.0) la in
    let is : get_or (rows_of t) a.index [] ≡ c.deref.result.now = row_is t a.index c.index.result.now less c.index.ensures ∙ sym c.deref.ensures.value in
    rw (← c.self.view_is) (row_tells s (rows_of t) a.index c.deref.result.now c.self.invariant.attributes la is)

-- What an expression says.
use Rattle.std.specs.Prelude.{List, [], ◌∷◌, map}
use Rattle.p21_expression.specs.declared.tree.Name as source
use Rattle.p21_expression.specs.declared.tree.Expression as source_expression
use Rattle.p21_expression.specs.declared.tree.Expression.{fold-Expression, Expression-F}
use Rattle.p21_expression.specs.declared.tree.Operation.{Operation, fold-Operation}
use Rattle.p21_expression.specs.declared.tree.Element as source_element
use Rattle.p21_expression.specs.declared.tree.Element.{fold-Element}
use Rattle.p21_expression.specs.declared.tree.Qualifier as source_qualifier
use Rattle.p21_expression.specs.declared.tree.Qualifier.{fold-Qualifier}
use Rattle.p21_expression.specs.declared.tree.Element.TheOpen as level
use Rattle.p21_expression.specs.Tree.{Name, Tree, Qualifier, Step, Element, integer, real, text, binary, truth, constant, named, call, qualified, unary, operations, aggregate, interval, query, attribute, group, index, range, step, once, repeated, trees, qualifiers, steps, elements}

abbrev pub plain_name : source.Name → Name
plain_name n = record { text = n.text.now; place = n.place }

abbrev pub interval_level : level.Interval-F Element Tree Qualifier Tree Step → Tree
interval_level i = interval i.low i.above i.item i.below i.high

abbrev pub step_level : level.Operation-F Element Tree Qualifier Tree Step → Step
step_level o = step o.operator o.place o.right

abbrev pub element_level : level.Element-F Element Tree Qualifier Tree Step → Element
element_level (level.Once e) = once e
element_level (level.Repeated e n) = repeated e n

abbrev pub qualifier_level : level.Qualifier-F Element Tree Qualifier Tree Step → Qualifier
qualifier_level (level.Attribute n) = attribute (plain_name n)
qualifier_level (level.Group n) = group (plain_name n)
qualifier_level (level.Index e) = index e
qualifier_level (level.Range a b) = range a b

abbrev pub plain_level : Expression-F Element Tree Qualifier Tree Step → Tree
plain_level (level.Integer v p) = integer v p
plain_level (level.Real p) = real p
plain_level (level.Text p) = text p
plain_level (level.Binary p) = binary p
plain_level (level.Truth t) = truth t
plain_level (level.Constant c) = constant c
plain_level (level.Name n) = named (plain_name n)
plain_level (level.Call n es) = call (plain_name n) (trees es.items)
plain_level (level.Qualified e qs) = qualified e.value (qualifiers qs.items)
plain_level (level.Unary o e) = unary o e.value
plain_level (level.Operations e os) = operations e.value (steps os.items)
plain_level (level.Aggregate es) = aggregate (elements es.items)
plain_level (level.Interval i) = i.value
plain_level (level.Query n a c) = query (plain_name n) a.value c.value

abbrev pub plain : source_expression.Expression → Tree
plain e = fold-Expression Element Tree Qualifier Tree Step element_level plain_level qualifier_level interval_level step_level e

abbrev pub plain_operation : Operation → Step
plain_operation o = fold-Operation Element Tree Qualifier Tree Step element_level plain_level qualifier_level interval_level step_level o

abbrev pub plain_qualifier : source_qualifier.Qualifier → Qualifier
plain_qualifier q = fold-Qualifier Element Tree Qualifier Tree Step element_level plain_level qualifier_level interval_level step_level q

abbrev pub plain_element : source_element.Element → Element
plain_element e = fold-Element Element Tree Qualifier Tree Step element_level plain_level qualifier_level interval_level step_level e

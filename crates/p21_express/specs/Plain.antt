-- The declarations of the code as plain values.
use Rattle.std.specs.Prelude.{false, map, option_map}
use Rattle.p21_express.specs.declared.declarations.Declarations.{Declarations}
use Rattle.p21_express.specs.declared.declarations.EntityDecl.{EntityDecl}
use Rattle.p21_express.specs.declared.declarations.AttrDecl.{AttrDecl}
use Rattle.p21_express.specs.declared.declarations.DeriveDecl.{DeriveDecl}
use Rattle.p21_express.specs.declared.declarations.TypeDecl.{TypeDecl}
use Rattle.p21_express.specs.declared.declarations.Under.{Under}
use Rattle.p21_express.specs.declared.declarations.Under.TheVariants as under
use Rattle.p21_express.specs.declared.declarations.TypeExpr.{TypeExpr, fold-TypeExpr, TypeExpr-F}
use Rattle.p21_express.specs.declared.declarations.TypeExpr.TheOpen as level
use Rattle.p21_express.specs.Schema.{Schema, Entity, Attribute, Derived, Defined, Underlying, Expr, items, select, plain, integer, number, boolean, logical, real, text, binary, aggregate, named, array, list, set, bag}

abbrev pub plain_level : TypeExpr-F Expr → Expr
plain_level level.Integer = integer
plain_level level.Number = number
plain_level level.Boolean = boolean
plain_level level.Logical = logical
plain_level level.Real = real
plain_level (level.Text w) = text w
plain_level (level.Binary w) = binary w
plain_level (level.Array b o e) = aggregate (array b o) e.value
plain_level (level.List b u e) = aggregate (list b u) e.value
plain_level (level.Set b e) = aggregate (set b) e.value
plain_level (level.Bag b e) = aggregate (bag b) e.value
plain_level (level.Named n) = named n.items

abbrev pub plain_expr : TypeExpr → Expr
plain_expr e = fold-TypeExpr Expr plain_level e

abbrev pub plain_attribute : AttrDecl → Attribute
plain_attribute a = record { name = a.name.items; of = option_map (λ n. n.items) a.of; optional = a.optional; texpr = plain_expr a.texpr }

abbrev pub plain_derived : DeriveDecl → Derived
plain_derived d = record { name = d.name.items; of = option_map (λ n. n.items) d.of }

abbrev pub plain_entity : EntityDecl → Entity
plain_entity e = record { name = e.name.items; is_abstract = e.is_abstract; supertypes = map (λ n. n.items) e.supertypes.items; attributes = map plain_attribute e.attributes.items; derived = map plain_derived e.derived.items }

abbrev pub plain_under : Under → Underlying
plain_under (under.Items ns) = items (map (λ n. n.items) ns.items)
plain_under (under.Select ns) = select (map (λ n. n.items) ns.items)
plain_under (under.Plain e) = plain (plain_expr e)

abbrev pub plain_type : TypeDecl → Defined
plain_type t = record { name = t.name.items; under = plain_under t.under }

abbrev pub plain_schema : Declarations → Schema
plain_schema d = record { name = d.name.items; entities = map plain_entity d.entities.items; types = map plain_type d.types.items; distinct = false }

-- The tables of a schema belong to its declarations.
use Rattle.std.specs.Prelude.{◌≡◌, map}
use Rattle.p21_express.specs.Plain.{plain_schema}
use Rattle.p21_express.specs.Schema.{Schema}
use Rattle.p21_express.specs.WellFormed.{IsWellFormed}
use Rattle.p21_graph.specs.Graph.{rows_of}
use Rattle.p21_schema.specs.declared.schema.Schema.TheInside.{Inside}
use Rattle.p21_schema.specs.Rules.{with_rules}
use Rattle.p21_schema.specs.RowTable.{IsOwnTable, IsRowTable}
use Rattle.p21_schema.specs.Under.{AreEnds, AreResolved}
use Rattle.p21_schema.specs.Ancestry.{IsSupertypeTable, IsAncestryTable}
use Rattle.p21_schema.specs.Declaration.{written}
use Rattle.p21_schema.specs.DeclarationTable.{IsDeclarationTable}
use Rattle.p21_schema.specs.SelectTable.{AreSelectTables}

-- the schema that the tables are of
abbrev pub schema_of : Inside → Schema
schema_of a = with_rules (plain_schema a.declarations) a.rules

pub record AreTables (a : Inside) : Type 0 where
  pub well_formed : IsWellFormed (schema_of a)
  pub names : a.entity_names ≡ map (λ e. e.name) (schema_of a).entities
  pub types : a.type_names ≡ map (λ t. t.name) (schema_of a).types
  pub supertypes : IsSupertypeTable (schema_of a) (rows_of a.supertypes)
  pub ancestry : IsAncestryTable (schema_of a) a.ancestry
  pub own : IsOwnTable (schema_of a) a.own.items
  pub rows : IsRowTable (schema_of a) a.rows
  pub attributes : IsDeclarationTable (schema_of a) (written (schema_of a).entities) (rows_of a.attributes)
  pub ends : AreEnds (schema_of a) a.ends.items
  pub resolved : AreResolved (map (λ e. e.name) (schema_of a).entities) (map (λ t. t.name) (schema_of a).types) a.unders.items (schema_of a).types
  pub selects : AreSelectTables (schema_of a) a.selects

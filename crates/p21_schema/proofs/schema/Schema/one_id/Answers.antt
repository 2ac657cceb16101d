use Rattle.p21_schema.proofs.IdLemmas.{one_entity, one_attribute, one_type}
use Rattle.p21_schema.specs.Tables.{schema_of}
use Rattle.p21_schema.proofs.schema.Schema.one_id.Goals as goal

pub returns-clause-entities : goal.returns-clause-entities
returns-clause-entities c = rw (← c.self.view_is) (one_entity (schema_of c.self.inside) c.self.invariant.well_formed)

pub returns-clause-attributes : goal.returns-clause-attributes
returns-clause-attributes c = rw (← c.self.view_is) (one_attribute (schema_of c.self.inside) c.self.invariant.well_formed)

pub returns-clause-types : goal.returns-clause-types
returns-clause-types c = rw (← c.self.view_is) (one_type (schema_of c.self.inside) c.self.invariant.well_formed)

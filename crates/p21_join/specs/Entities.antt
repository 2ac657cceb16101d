-- Of which model, and by which schema, the entities of instances are.
use Rattle.p21_express.specs.Schema.{Schema}
use Rattle.p21_join.specs.declared.entities.EntityView.{EntityView}
use Rattle.p21_join.specs.declared.entities.ModelEntities.{ModelEntities}
use Rattle.p21_join.specs.declared.model.Model.{Model}

-- the model whose instances they are
abbrev pub model_of : ModelEntities → Model
model_of made = made.model.now

-- the schema whose entities they are
abbrev pub schema_of : ModelEntities → Schema
schema_of made = made.schema.now

-- the same of a view

abbrev pub viewed_model : EntityView → Model
viewed_model view = view.model.now

abbrev pub viewed_schema : EntityView → Schema
viewed_schema view = view.schema.now

-- The instances of a file may be asked by several threads at once. Each part is shown by itself: all of it is too much for one search.
use denote.Param.Send.{IsSync, sendable}
use denote.Ref.{NamedLft}
use Rattle.std.proofs.Crossing.{crosses}
use Rattle.p21_join.proofs.Crossing.{Model-sync}
use Rattle.p21_names.specs.contracts.names.Names as Names
use Rattle.p21_schema.proofs.Crossing.{Schema-sync}
use Rattle.p21_world.specs.contracts.attributes.Attribute as Attribute
use Rattle.p21_world.specs.contracts.dictionary.Dictionary as Dictionary
use Rattle.p21_world.specs.contracts.entities.RecordEntities as RecordEntities
use Rattle.p21_world.specs.contracts.mentions.Mentions as Mentions
use Rattle.p21_world.specs.contracts.selects.TypeGraph as TypeGraph
use Rattle.p21_world.specs.contracts.texts.Texts as Texts
use Rattle.p21_world.specs.contracts.world.FileWorld as FileWorld

pub Names-sync : IsSync Names.the_row
Names-sync = search (sendable, crosses) depth 80 fits 20000

-- as it lies in a list
Attribute-sync : IsSync Attribute.the_row
Attribute-sync = search (sendable, crosses) depth 80 fits 20000

-- as they lie in another type
TypeGraph-sync : IsSync TypeGraph.the_field.row
TypeGraph-sync = search (sendable, crosses) depth 80 fits 20000

Texts-sync : IsSync Texts.the_field.row
Texts-sync = search (sendable, crosses) depth 80 fits 20000

RecordEntities-sync : IsSync RecordEntities.the_field.row
RecordEntities-sync = search (sendable, crosses) depth 80 fits 20000

Mentions-sync : IsSync Mentions.the_field.row
Mentions-sync = search (sendable, crosses) depth 80 fits 20000

Dictionary-sync : (α : NamedLft) → IsSync (Dictionary.the_row α)
Dictionary-sync α = search (sendable, crosses, Schema-sync, Names-sync, Attribute-sync, TypeGraph-sync, Texts-sync) depth 80 fits 20000

pub FileWorld-sync : (α β : NamedLft) → IsSync (FileWorld.the_row α β)
FileWorld-sync α β = search (sendable, crosses, Dictionary-sync, Model-sync, RecordEntities-sync, Mentions-sync) depth 80 fits 20000

-- What is compared of records, instances and prefaces: their vectors by their elements, their texts by their
-- bytes.
use Rattle.std.specs.Prelude.{map}
use Rattle.p21_tree.specs.declared.instances.Record.{Record}
use Rattle.p21_tree.specs.declared.instances.RawInstance.{RawInstance}
use Rattle.p21_tree.specs.declared.headers.HeaderEntity.{HeaderEntity}
use Rattle.p21_tree.specs.declared.headers.Preface.{Preface}
use Rattle.p21_tree.specs.Plain.{plain_all}
use Rattle.p21_tree.specs.Grammar.{Entry}
use Rattle.p21_tree.specs.Sentence.{Instance, Opening}

-- its keyword's bytes, and its parameters
abbrev pub plain_record : Record → Entry
plain_record r = record { keyword = r.keyword.now; params = plain_all r.params }

-- the same of a header entity
abbrev pub plain_entity : HeaderEntity → Entry
plain_entity e = record { keyword = e.keyword.now; params = plain_all e.params }

-- its name, its place, whether it is complex, and its records
abbrev pub plain_instance : RawInstance → Instance
plain_instance i = record { name = i.name; at = i.at; complex = i.complex; records = map plain_record i.records }

-- its places, and its entities
abbrev pub plain_preface : Preface → Opening
plain_preface p = record { header_at = p.header_at; entities = map plain_entity p.entities.items; data_at = p.data_at }

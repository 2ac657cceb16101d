use Rattle.std.proofs.Common.{◌≡◌, map, take}
use Rattle.p21_schema.specs.Row.{attributes_of}
use Rattle.p21_json.specs.Keys.{AreByEntities, origin_of}
use Rattle.p21_json.proofs.keys.all_declared.Given as goal

-- the attributes of the entities so far
abbrev pub invariant-loop-place : goal.invariant-loop-place
invariant-loop-place l = (map (origin_of l.schema) l.all.items ≡ attributes_of (take l.place l.schema.entities)) × AreByEntities l.schema l.all.items

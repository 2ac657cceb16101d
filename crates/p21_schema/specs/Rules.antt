-- A schema under rules.
use Rattle.p21_express.specs.Schema.{Schema}
use Rattle.p21_schema.specs.declared.rules.Rules.{Rules}

-- the same declarations, under these rules
abbrev pub with_rules : Schema → Rules → Schema
with_rules s r = record { name = s.name; entities = s.entities; types = s.types; distinct = r.distinct }

use Rattle.std.proofs.Common.{◌≡◌, map, take, string_bytes}
use Rattle.p21_json.specs.Spelled.{text_of}
use Rattle.p21_json.proofs.terms.texts.Given as goal

abbrev pub invariant-loop-name : goal.invariant-loop-name
invariant-loop-name l = map string_bytes l.texts.items ≡ map (λ v. text_of v.items) (take l.name-index l.names)

use Rattle.p21_json.proofs.MemberLemmas.{keys_differ}
use Rattle.p21_json.proofs.WordLemmas.{read_names}
use Rattle.p21_json.proofs.laws.keys_are_distinct.Goals as goal

pub returns : goal.returns
returns c = record { names = read_names; keys = keys_differ }

use Rattle.p21_json.proofs.LossLemmas.{same_by_keys, same_instance}
use Rattle.p21_json.proofs.MemberLemmas.{members_written}
use Rattle.p21_json.proofs.laws.nothing_is_lost.Goals as goal

pub returns : goal.returns
returns c = record { tokens = same_instance; members = same_by_keys; written = members_written }

use denote.RattleType.{RattleType}
use denote.Param.Send.{IsSync, sendable}
use denote.Ref.{NamedLft}
use Rattle.std.proofs.Crossing.{crosses}
use Rattle.p21_crew_tests.specs.contracts.meeting.Meeting as Meeting
use Rattle.p21_reader.specs.contracts.judged.LocalReader as LocalReader
use Rattle.p21_run_tests.specs.contracts.judges.MeetingReader as MeetingReader
use Rattle.p21_schema.proofs.Crossing.{Schema-sync}
use Rattle.p21_run_tests.proofs.lanes_tests.read_meeting_within.Goals as goal

-- A judge that meets others may be asked by several threads at once: so may the two that are its fields.
LocalReader-sync : (α : NamedLft) → IsSync (LocalReader.the_field α).row
LocalReader-sync α = search (sendable, crosses, Schema-sync) depth 40

Meeting-sync : (α : NamedLft) (R : RattleType) → IsSync R → IsSync (Meeting.the_row α R)
Meeting-sync α R s = search (sendable, crosses) depth 40

MeetingReader-sync : (α β : NamedLft) (R : RattleType) → IsSync R → IsSync (MeetingReader.the_row α β R)
MeetingReader-sync α β R s = search (sendable, LocalReader-sync, Meeting-sync) depth 40

pub read_by-requires-sync-J : goal.read_by-requires-sync-J
read_by-requires-sync-J g c κs within = search (sendable, MeetingReader-sync) depth 20

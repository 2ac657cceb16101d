-- A handle may go to another thread, and be asked by several at once. Each part is shown by itself: all of it is too much for one search.
use mathlib.Core.List.{[]}
use base.Shift.{Keyless}
use denote.Param.Send.{IsSend, IsSync, AllSend, owning_send, struct_send, sendable}
use denote.RattleType.{RattleType}
use denote.RawPtr.{Ptr, block_ptr, null_ptr}
use denote.Ref.{NamedLft}
use denote.Struct.Owning.{shape, fields, to}
use denote.Struct.Struct.{exits_of}
use Rattle.std.proofs.Crossing.{crosses}
use Rattle.std_alloc.proofs.SendSync.{quiet, seen}
use Rattle.p21_join.specs.contracts.model.Model as Model
use Rattle.p21_schema.proofs.Crossing.{Schema-sync}
use Rattle.p21_tree.proofs.Crossing.{RawInstance-sync}
use Rattle.p21_json.specs.contracts.terms.Terms as Terms
use Rattle.p21_mend.specs.contracts.mending.MendedText as MendedText
use Rattle.p21_rule_text.specs.contracts.rules.Rules as Rules
use Rattle.p21_spelling.specs.contracts.declared.Spellings as Spellings
use Rattle.p21_where_findings.specs.contracts.findings.WhereRule as WhereRule
use Rattle.p21_c.specs.contracts.handle.Handle as Handle
use Rattle.p21_c.specs.contracts.held.Held as Held
use Rattle.p21_c.specs.contracts.held.HeldModel as HeldModel
use Rattle.p21_c.specs.contracts.held.HeldRules as HeldRules
use Rattle.p21_c.specs.contracts.held.HeldSchema as HeldSchema
use Rattle.p21_c.specs.Lent.{lent}

Spellings-sync : IsSync Spellings.the_field.row
Spellings-sync = search (sendable, crosses) depth 80 fits 20000

Terms-sync : (α : NamedLft) → IsSync (Terms.the_field α).row
Terms-sync α = search (sendable, crosses, Schema-sync) depth 80 fits 20000

HeldSchema-sync : IsSync HeldSchema.the_field.row
HeldSchema-sync = search (sendable, crosses, Schema-sync, Spellings-sync) depth 80 fits 20000

Model-sync : (α : NamedLft) → IsSync (Model.the_field α).row
Model-sync α = search (sendable, crosses, RawInstance-sync) depth 80 fits 20000

HeldModel-sync : IsSync HeldModel.the_field.row
HeldModel-sync = search (sendable, crosses, Terms-sync, Model-sync) depth 80 fits 20000

Rules-sync : IsSync Rules.the_field.row
Rules-sync = search (sendable, crosses) depth 80 fits 20000

WhereRule-sync : IsSync WhereRule.the_row
WhereRule-sync = search (sendable, crosses) depth 80 fits 20000

HeldRules-sync : IsSync HeldRules.the_field.row
HeldRules-sync = search (sendable, crosses, HeldSchema-sync, Rules-sync, WhereRule-sync) depth 80 fits 20000

MendedText-sync : IsSync MendedText.the_field.row
MendedText-sync = search (sendable, crosses) depth 80 fits 20000

Held-sync : IsSync Held.the_row
Held-sync = search (sendable, crosses, HeldSchema-sync, HeldModel-sync, HeldRules-sync, MendedText-sync) depth 80 fits 20000

lent-Keyless : (R : RattleType) → IsSync R → (p : Ptr) (x : R.Denot) → Keyless (lent R p x)
lent-Keyless R y (block_ptr b o) x = seen R y (block_ptr b o) x []
lent-Keyless R y null_ptr x = tt

pub Handle-send : IsSend Handle.the_row
Handle-send =
    let O = Handle.the_type in
    let all : AllSend (fields O) = (search sendable, tt) in
    owning_send O all (λ d. lent-Keyless Held.the_row Held-sync d.at d.held) (λ k. quiet (to O) (exits_of k (fields O)) ((struct_send (shape O) all).leaving k))

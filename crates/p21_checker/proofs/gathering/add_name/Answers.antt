use Rattle.std.proofs.Common.{Ok, subst}
use Rattle.p21_join.specs.InstanceNames.{AddsName}
use Rattle.p21_checker.proofs.NameLemmas.{named_fault, names_kept, names_new, repeated_fault}
use Rattle.p21_checker.proofs.gathering.add_name.Goals as goal

pub returns-then-branch-clause-fault : goal.returns-then-branch-clause-fault
returns-then-branch-clause-fault c = λ is i e h.
    let old = c.args.names.now in
    let new = c.add.new.self in
    named_fault old new is i c.args.name e h c.args.own (subst (λ b. AddsName old c.args.name (Ok b) new) c.if-branch.true c.in_ok-add.ensures)

pub returns-then-branch-clause-names : goal.returns-then-branch-clause-names
returns-then-branch-clause-names c = λ is i e h.
    let old = c.args.names.now in
    let new = c.add.new.self in
    names_new old new is i c.args.name e h (subst (λ b. AddsName old c.args.name (Ok b) new) c.if-branch.true c.in_ok-add.ensures)

pub returns-else-branch-clause-fault : goal.returns-else-branch-clause-fault
returns-else-branch-clause-fault c = λ is i e h.
    let old = c.args.names.now in
    let new = c.add.new.self in
    repeated_fault old new is i c.args.name e h c.args.own (subst (λ b. AddsName old c.args.name (Ok b) new) c.if-branch.false c.in_ok-add.ensures)

pub returns-else-branch-clause-names : goal.returns-else-branch-clause-names
returns-else-branch-clause-names c = λ is i e h.
    let old = c.args.names.now in
    let new = c.add.new.self in
    names_kept old new is i c.args.name e h (subst (λ b. AddsName old c.args.name (Ok b) new) c.if-branch.false c.in_ok-add.ensures)

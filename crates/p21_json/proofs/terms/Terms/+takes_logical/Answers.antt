use Rattle.std.proofs.Common.{rules, arith, sym, subst}
use Rattle.p21_schema.specs.declared.resolved.ResolvedExpr.{ResolvedExpr}
use Rattle.p21_json.specs.Terms.{IsExpr}
use Rattle.p21_json.proofs.ExprLemmas.{deeper, array_part, list_part, set_part, bag_part, target_part, aggregate_by, named_by, boolean_is, logical_is, integer_is_not, number_is_not, real_is_not, text_is_not, binary_is_not}
use Rattle.p21_json.proofs.terms.Terms.+takes_logical.Goals as goal

pub takes_logical-requires : goal.takes_logical-requires
takes_logical-requires t c =
    let p = array_part c.args.self.now c.args.texpr.now _ _ _ c.requires.0 c.requires.1 c.in-Array.is in
    let known = subst (λ (x : ResolvedExpr). IsExpr c.args.self.now x p.0) (sym c.deref.ensures) p.1 in
    let less = deeper c.args.self.now c.args.texpr.now c.deref.result.now _ c.requires.0 p.0 c.requires.1 known p.2 in
    (omega arith, (p.0, known))

pub takes_logical-requires-in-List : goal.takes_logical-requires-in-List
takes_logical-requires-in-List t c =
    let p = list_part c.args.self.now c.args.texpr.now _ _ _ c.requires.0 c.requires.1 c.in-List.is in
    let known = subst (λ (x : ResolvedExpr). IsExpr c.args.self.now x p.0) (sym c.deref-in-List.ensures) p.1 in
    let less = deeper c.args.self.now c.args.texpr.now c.deref-in-List.result.now _ c.requires.0 p.0 c.requires.1 known p.2 in
    (omega arith, (p.0, known))

pub takes_logical-requires-in-Set : goal.takes_logical-requires-in-Set
takes_logical-requires-in-Set t c =
    let p = set_part c.args.self.now c.args.texpr.now _ _ c.requires.0 c.requires.1 c.in-Set.is in
    let known = subst (λ (x : ResolvedExpr). IsExpr c.args.self.now x p.0) (sym c.deref-in-Set.ensures) p.1 in
    let less = deeper c.args.self.now c.args.texpr.now c.deref-in-Set.result.now _ c.requires.0 p.0 c.requires.1 known p.2 in
    (omega arith, (p.0, known))

pub takes_logical-requires-in-Bag : goal.takes_logical-requires-in-Bag
takes_logical-requires-in-Bag t c =
    let p = bag_part c.args.self.now c.args.texpr.now _ _ c.requires.0 c.requires.1 c.in-Bag.is in
    let known = subst (λ (x : ResolvedExpr). IsExpr c.args.self.now x p.0) (sym c.deref-in-Bag.ensures) p.1 in
    let less = deeper c.args.self.now c.args.texpr.now c.deref-in-Bag.result.now _ c.requires.0 p.0 c.requires.1 known p.2 in
    (omega arith, (p.0, known))

pub returns-in-Boolean : goal.returns-in-Boolean
returns-in-Boolean t c = λ e k. (λ _. boolean_is c.args.self.now c.args.texpr.now e k c.in-Boolean.is, λ _. search rules)

pub returns-in-Logical : goal.returns-in-Logical
returns-in-Logical t c = λ e k. (λ _. logical_is c.args.self.now c.args.texpr.now e k c.in-Logical.is, λ _. search rules)

pub returns-in-Array : goal.returns-in-Array
returns-in-Array t c = λ e k.
    let p = array_part c.args.self.now c.args.texpr.now _ _ _ e k c.in-Array.is in
    aggregate_by c.args.self.now _ e p.0 c.takes_logical.result p.2 (c.takes_logical.ensures p.0 (subst (λ (x : ResolvedExpr). IsExpr c.args.self.now x p.0) (sym c.deref.ensures) p.1))

pub returns-in-List : goal.returns-in-List
returns-in-List t c = λ e k.
    let p = list_part c.args.self.now c.args.texpr.now _ _ _ e k c.in-List.is in
    aggregate_by c.args.self.now _ e p.0 c.takes_logical-in-List.result p.2 (c.takes_logical-in-List.ensures p.0 (subst (λ (x : ResolvedExpr). IsExpr c.args.self.now x p.0) (sym c.deref-in-List.ensures) p.1))

pub returns-in-Set : goal.returns-in-Set
returns-in-Set t c = λ e k.
    let p = set_part c.args.self.now c.args.texpr.now _ _ e k c.in-Set.is in
    aggregate_by c.args.self.now _ e p.0 c.takes_logical-in-Set.result p.2 (c.takes_logical-in-Set.ensures p.0 (subst (λ (x : ResolvedExpr). IsExpr c.args.self.now x p.0) (sym c.deref-in-Set.ensures) p.1))

pub returns-in-Bag : goal.returns-in-Bag
returns-in-Bag t c = λ e k.
    let p = bag_part c.args.self.now c.args.texpr.now _ _ e k c.in-Bag.is in
    aggregate_by c.args.self.now _ e p.0 c.takes_logical-in-Bag.result p.2 (c.takes_logical-in-Bag.ensures p.0 (subst (λ (x : ResolvedExpr). IsExpr c.args.self.now x p.0) (sym c.deref-in-Bag.ensures) p.1))

pub returns-in-Integer : goal.returns-in-Integer
returns-in-Integer t c = λ e k. integer_is_not c.args.self.now c.args.texpr.now e k c.in-Integer.is

pub returns-in-Number : goal.returns-in-Number
returns-in-Number t c = λ e k. number_is_not c.args.self.now c.args.texpr.now e k c.in-Number.is

pub returns-in-Real : goal.returns-in-Real
returns-in-Real t c = λ e k. real_is_not c.args.self.now c.args.texpr.now e k c.in-Real.is

pub returns-in-Text : goal.returns-in-Text
returns-in-Text t c = λ e k. text_is_not c.args.self.now c.args.texpr.now _ e k c.in-Text.is

pub returns-in-Binary : goal.returns-in-Binary
returns-in-Binary t c = λ e k. binary_is_not c.args.self.now c.args.texpr.now _ e k c.in-Binary.is

pub returns-in-Named : goal.returns-in-Named
returns-in-Named t c = λ e k.
    let p = target_part c.args.self.now c.args.texpr.now _ e k c.in-Named.is in
    named_by c.args.self.now e p.0 c.is_logical_target.result p.2 (c.is_logical_target.ensures p.0 p.1)

pub is_logical_target-requires : goal.is_logical_target-requires
is_logical_target-requires t c =
    let p = target_part c.args.self.now c.args.texpr.now _ c.requires.0 c.requires.1 c.in-Named.is in
    (p.0, p.1)

use Rattle.std.proofs.Common.{◌≡◌, ◌<◌, ◌-◌, inr, suc, refl, sym, ap, subst, arith}
use Rattle.p21_tree.specs.Plain.{plain}
use Rattle.p21_text.specs.Tokens.{First, placed}
use Rattle.p21_check.proofs.PassedLemmas.{close_not_last, leaf_bodies, leaf_counts, leaf_stands, open_not_last, value_typed}
use Rattle.p21_check.proofs.walk_value.walk_typed.Goals as goal

pub is_defined-requires-clause-bodies : goal.is_defined-requires-clause-bodies
is_defined-requires-clause-bodies c = leaf_bodies c.in-Some-leaf_of.ensures.is_leaf c.next_token-lexed.ensures.content

pub returns-clause-walked : goal.returns-clause-walked
returns-clause-walked c g e optional from key is first is_key at =
    let s = c.args.schema.now in
    let left = c.args.left in
    let text = c.args.text.now in
    let leaf = c.in-Some-leaf_of.leaf in
    let open_first = subst (λ n. First text n (placed c.next_token-open.result)) (sym at) c.next_token-open.ensures.first in
    value_typed g s optional e c.args.wanted c.inside-asked.result left text from c.args.into.now.items c.push_asked_of_leaf.new.into.items (record { after = c.next_token-lexed.result.after; written = leaf.written }) c.args.keyword c.in-Some.inner key (placed c.next_token-open.result) (placed c.next_token-close.result) leaf.param
    (omega (arith, c.if-left-eq0.false)) (c.in-Some.ensures.takes e is) c.inside-asked.ensures first is_key open_first (c.if-not-is_open.ensures refl)
    (leaf_stands (left - 1) text c.next_token-open.result.after (placed c.next_token-lexed.result) leaf c.next_token-lexed.ensures.first c.in-Some-leaf_of.ensures c.next_token-lexed.ensures.content)
    c.next_token-close.ensures.first (c.if-not-is_close.ensures refl) (c.is_defined.ensures.0 c.if-not-is_defined.false) c.in_ok-push_asked_of_leaf.ensures

pub returns-clause-counts : goal.returns-clause-counts
returns-clause-counts c =
    let leaf = leaf_counts _ c.in-Some-leaf_of.leaf c.next_token-lexed.result.start c.next_token-lexed.result.after c.in-Some-leaf_of.ensures c.next_token-lexed.ensures.advances in
    omega (arith, leaf, c.next_token-open.ensures.behind, c.next_token-open.ensures.ordered, c.next_token-lexed.ensures.behind, c.next_token-close.ensures.behind, c.next_token-close.ensures.ordered)

use Rattle.std.proofs.Common.{arith}
use Rattle.p21_text.specs.Tokens.{placed}
use Rattle.p21_check.proofs.PassedLemmas.{leaf_bodies, leaf_counts, leaf_stands}
use Rattle.p21_check.proofs.walk_value.walk_leaf.Goals as goal

pub is_element-requires-clause-bodies : goal.is_element-requires-clause-bodies
is_element-requires-clause-bodies c = leaf_bodies c.in-Some.ensures.is_leaf c.requires.content

pub returns-clause-walked : goal.returns-clause-walked
returns-clause-walked c text at left e first is = record {
  param = c.in-Some.leaf.param;
  stands = leaf_stands left text at (placed c.args.lexed) c.in-Some.leaf first c.in-Some.ensures c.requires.content;
  fits = (c.is_element.ensures e is).0 c.if-not-is_element.false;
  refers = c.in_ok-push_asked_of_leaf.ensures;
}

pub returns-clause-counts : goal.returns-clause-counts
returns-clause-counts c = leaf_counts _ c.in-Some.leaf c.args.lexed.start c.args.lexed.after c.in-Some.ensures c.requires.advances

use Rattle.std.proofs.Common.{subst, sym}
use Rattle.indexmap.specs.IndexMap.{IsUnique}
use Rattle.p21_counts.specs.Tally.{key_eq}
use Rattle.p21_counts.proofs.TallyLemmas.{IsAdded, added_none, added_more, added_all, entries_are}
use Rattle.p21_counts.proofs.tally.add_keywords.Goals as goal

pub loop-keyword-init : goal.loop-keyword-init
loop-keyword-init c = λ ks js counts more unique.
    subst (IsAdded c.args.keywords.now ks js c.args.more.now.entries) (sym c.into_iter-keyword-iterator.ensures.into_iter_gives.0)
    (added_none c.args.keywords.now ks js c.args.more.now.entries counts (entries_are c.args.more.now js more unique))

pub loop-keyword-preserved : goal.loop-keyword-preserved
loop-keyword-preserved c = λ ks js counts more unique.
    added_more c.loop-keyword.keywords c.add_count.new.keywords ks js c.args.more.now.entries c.next.new.self (c.in-Some.keyword.now, c.in-Some.count.now)
    (subst (IsAdded c.loop-keyword.keywords ks js c.args.more.now.entries) c.in-Some.ensures.steps (c.loop-keyword.invariant ks js counts more unique)) c.in_ok-add_count.ensures

pub returns : goal.returns
returns c = λ ks js counts more.
    let unique : IsUnique key_eq c.args.more.now = c.into_iter-keyword-iterator.ensures.into_iter_gives.4 in
    added_all c.loop-keyword.keywords c.args.more.now ks js more unique
    (subst (IsAdded c.loop-keyword.keywords ks js c.args.more.now.entries) c.in-None.ensures.steps.0 (c.loop-keyword.invariant ks js counts more unique))

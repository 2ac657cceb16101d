use Rattle.std.proofs.Common.{List, ℕ}
use Rattle.indexmap.specs.IndexMap.{IsUnique}
use Rattle.p21_counts.specs.Tally.{CountsOf, key_eq}
use Rattle.p21_counts.proofs.TallyLemmas.{IsAdded}
use Rattle.p21_counts.proofs.tally.add_keywords.Given as goal

abbrev pub invariant-loop-keyword : goal.invariant-loop-keyword
invariant-loop-keyword l = (ks js : List (List ℕ)) → CountsOf l.initial.keywords ks → CountsOf l.more js → IsUnique key_eq l.more → IsAdded l.keywords ks js l.more.entries l.keyword-iterator

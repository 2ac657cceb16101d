use Rattle.std.proofs.Common.{◌-◌, ◌≤◌, length}
use Rattle.std.specs.List.{AllByRecursion}
use Rattle.p21_express.specs.Reader.{words_of}
use Rattle.p21_express.proofs.ScanLemmas.{Scans}
use Rattle.p21_express.proofs.words.scan.Given as goal

abbrev pub invariant-loop-word : goal.invariant-loop-word
invariant-loop-word l = Scans l.text l.at (words_of l.words.items) × AllByRecursion (λ place. place ≤ length l.text) l.places.items

abbrev pub decreases-loop-word : goal.decreases-loop-word
decreases-loop-word l = length l.text - l.at

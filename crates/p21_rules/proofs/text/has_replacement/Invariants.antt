use Rattle.std.proofs.Common.{◌≡◌, drop}
use Rattle.p21_rules.specs.Text.{has_replacement}
use Rattle.p21_rules.proofs.text.has_replacement.Given as goal

-- it stands somewhere where it does in the bytes that are left
abbrev pub invariant-loop-place : goal.invariant-loop-place
invariant-loop-place l = has_replacement l.text ≡ has_replacement (drop l.place l.text)

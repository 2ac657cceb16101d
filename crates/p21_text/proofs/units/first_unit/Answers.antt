use Rattle.std.proofs.Common.{◌≡◌, ◌-◌, ℕ, List, ◌≤◌, take, drop, length, ap, ◌∙◌, arith}
use Rattle.std.proofs.lemmas.List.{take_rest}
use Rattle.p21_text.specs.Values.{hex_from}
use Rattle.p21_text.specs.Meanings.{item_of}
use Rattle.p21_text.proofs.UnitLemmas.{gives_wide, gives_pair, gives_lone, not_high, not_low}
use Rattle.p21_text.proofs.units.first_unit.Goals as goal
use Rattle.p21_text.proofs.units.first_unit.Goals.{then-is_high+then-digits-ge8+else-is_low, else-is_high, else-is_high-via-then-is_high+else-digits-ge8, else-is_high-via-else-is_high}

behind : (digits : List ℕ) (v : ℕ) → v ≡ hex_from 0 (take 4 (take (length digits - 4) (drop 4 digits))) → v ≡ hex_from 0 (take 4 (drop 4 digits))
behind digits v e = e ∙ ap (λ l. hex_from 0 (take 4 l)) (take_rest digits 4)

pub returns-then-wide-clause-value : goal.returns-then-wide-clause-value
returns-then-wide-clause-value c =
    gives_wide c.args.digits.now c.args.wide c.wide_value.result (item_of c.lone.result) c.if-wide.true c.requires.some c.requires.groups.whole c.wide_value.ensures c.lone.ensures

pub returns-then-is_low-clause-value : goal.returns-then-is_low-clause-value
returns-then-is_low-clause-value c =
    gives_pair c.args.digits.now c.args.wide c.is_high.result c.is_low.result c.group_value-high.result c.group_value-low.result (item_of c.pair.result) c.if-wide.false c.if-digits-ge8.true
    c.group_value-high.ensures.value (behind c.args.digits.now c.group_value-low.result c.group_value-low.ensures.value) c.is_high.ensures c.if-is_high.true c.is_low.ensures c.if-is_low.true c.pair.ensures

pub returns-clause-value : goal.returns-clause-value
returns-clause-value c =
    gives_lone c.args.digits.now c.args.wide c.group_value-high.result (item_of c.lone-2.result) c.if-wide.false c.requires.some c.requires.groups.whole c.group_value-high.ensures.value c.lone-2.ensures
    (λ (long : 8 ≤ length c.args.digits.now).
    elim c.if-is_high.branch [
      | then-is_high+then-digits-ge8+else-is_low w ↦
          not_low c.args.digits.now w.group_value-low.result w.is_low.result (behind c.args.digits.now w.group_value-low.result w.group_value-low.ensures.value) w.is_low.ensures w.if-is_low.false
      | else-is_high w ↦
          elim w.else-is_high.branch [
            | else-is_high-via-then-is_high+else-digits-ge8 v ↦ absurd (omega arith)
            | else-is_high-via-else-is_high v ↦ not_high c.args.digits.now c.group_value-high.result c.is_high.result c.group_value-high.ensures.value c.is_high.ensures v.if-is_high.false
          ]
    ])

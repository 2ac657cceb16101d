use Rattle.std.proofs.Common.{◌≡◌, ◌+◌, ◌-◌, ◌<◌, ◌∙◌, ap, arith, length, get_or, slice_index_or, false}
use Rattle.std.proofs.lemmas.Grind.{common_steps}
use Rattle.std.proofs.lemmas.List.{get_or_default}
use Rattle.p21_values.specs.Pattern.{leads_of}
use Rattle.p21_values.specs.Plain.{codes}
use Rattle.p21_values.proofs.PatternLemmas.{row_next}
use Rattle.p21_values.proofs.pattern.next_row.Goals as goal

pub loop-at-preserved : goal.loop-at-preserved
loop-at-preserved c =
    let t = codes c.args.text.now in
    let at = c.loop-at.at in
    let row = c.args.row.now in
    let made = c.loop-at.made.items in
    let lt : at < length t = omega arith in
    let code : c.code_at-code.result ≡ get_or t (length t - 1 - at) 0 = c.code_at-code.ensures ∙ ap (λ n. get_or t (n - 1 - at) 0) c.len.ensures.value in
    let inside : at < length made = omega (arith, c.loop-at.invariant.long) in
    let after : c.index-after.result.now ≡ get_or made at false = c.index-after.ensures ∙ get_or_default made at c.index-after.result.now false inside in
    let e = c.leads.ensures ∙ ap (leads_of c.args.mark c.code_at-code.result (get_or row at false) (get_or row (at + 1) false)) after in
    record {
      long = grind (arith, common_steps);
      rows = λ ms is j le. ap (λ xs. slice_index_or xs j false) c.in_ok-push-2.ensures.items ∙ row_next c.args.mark ms t row made at c.code_at-code.result c.leads.result lt code is c.loop-at.invariant.long e (c.loop-at.invariant.rows ms is) j le;
    }

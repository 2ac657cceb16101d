use Rattle.std.proofs.Common.{◌∙◌, ◌++◌, List, ap, subst, sym}
use Rattle.json.specs.Token.{Token}
use Rattle.json.specs.Print.{print}
use Rattle.p21_tree.specs.Plain.{plain}
use Rattle.p21_json.specs.Parts.{value_parts, AreTokensOf}
use Rattle.p21_json.proofs.values.write_value.Goals as goal

pub returns : goal.returns
returns c = λ w h.
    let made = c.in_ok-value.ensures w h in
    let tokens = c.value.new.self.out.tokens in
    let before = made.before ∙ c.new-line.ensures.before ∙ c.new.ensures.items in
    record {
      tokens = tokens;
      are = subst (AreTokensOf c.args.terms.now (value_parts w (plain c.args.param.now))) (sym (made.added ∙ ap (λ (ts : List Token). ts ++ made.tokens) c.new-line.ensures.tokens)) made.are;
      printed = c.text.ensures.text ∙ ap (λ bs. bs ++ print tokens) before;
      reads_back = c.text.ensures.reads_back;
    }

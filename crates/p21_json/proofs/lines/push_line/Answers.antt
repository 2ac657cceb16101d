use Rattle.std.proofs.Common.{◌≡◌, ◌++◌, ◌∷◌, [], List, ℕ, Vec, Global, ap, ◌∙◌}
use Rattle.json.specs.Print.{print}
use Rattle.p21_tree.specs.Views.{plain_instance}
use Rattle.p21_json.specs.Instances.{IsInstanceParts}
use Rattle.p21_json.specs.Lines.{IsLine}
use Rattle.p21_json.proofs.LineLemmas.{line_of, map_ok}
use Rattle.p21_json.proofs.lines.push_line.Goals as goal

pub returns : goal.returns
returns c =
    let s = c.args.terms.now in
    let i = plain_instance c.args.instance.now in
    let made = c.in_ok-instance.ensures in
    let line : List ℕ = print c.instance.new.self.out.tokens ++ 10 ∷ [] in
    let is = line_of s (IsInstanceParts s i) c.new-line.result.out c.instance.new.self.out c.new-line.ensures.tokens made c.end.ensures.reads_back in
    let before = made.2.before ∙ c.new-line.ensures.before in
    map_ok c.end.result (λ (v : Vec ℕ Global). v.items ≡ c.instance.new.self.out.before ++ line) (λ (v : Vec ℕ Global). (x : List ℕ) × (IsLine s i x × (v.items ≡ c.args.text.items ++ x)))
    (λ v e. (line, (is, e ∙ ap (λ (bs : List ℕ). bs ++ line) before))) c.end.ensures.text

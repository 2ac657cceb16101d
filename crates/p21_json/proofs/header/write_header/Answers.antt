use Rattle.std.proofs.Common.{◌≡◌, ◌++◌, ◌∷◌, [], List, ℕ, Vec, Global, map, ap, subst, sym, refl, ◌∙◌}
use Rattle.json.specs.Print.{print}
use Rattle.p21_tree.specs.Views.{plain_entity, plain_preface}
use Rattle.p21_json.specs.Header.{IsHeaderParts, header_parts}
use Rattle.p21_json.specs.Lines.{IsLineOf}
use Rattle.p21_json.proofs.HeaderLemmas.{first_three}
use Rattle.p21_json.proofs.LineLemmas.{line_of, map_ok}
use Rattle.p21_json.proofs.header.write_header.Goals as goal

pub returns : goal.returns
returns c =
    let s = c.args.terms.now in
    let o = plain_preface c.args.preface.now in
    let d = c.description-item.result in
    let n = c.name-item.result in
    let f = c.schema-item.result in
    let line : List ℕ = print c.header.new.self.out.tokens ++ 10 ∷ [] in
    let three = first_three c.as_slice.result.now d n f c.in-len3-up.len_at_least c.description-item.is c.name-item.is c.schema-item.is in
    let such : IsHeaderParts o (header_parts (plain_entity d) (plain_entity n) (plain_entity f)) = record {
      description = plain_entity d;
      name = plain_entity n;
      schema = plain_entity f;
      others = three.0;
      entities = ap (map plain_entity) (sym c.as_slice.ensures.value) ∙ three.1;
      is = refl;
    } in
    let is = line_of s (IsHeaderParts o) c.new-line.result.out c.header.new.self.out c.new-line.ensures.tokens (header_parts (plain_entity d) (plain_entity n) (plain_entity f), such, c.in_ok-header.ensures) c.end.ensures.reads_back in
    let before : c.header.new.self.out.before ≡ [] = c.in_ok-header.ensures.before ∙ c.new-line.ensures.before ∙ c.new.ensures.items in
    map_ok c.end.result (λ (v : Vec ℕ Global). v.items ≡ c.header.new.self.out.before ++ line) (λ (v : Vec ℕ Global). IsLineOf s (IsHeaderParts o) v.items)
    (λ v e. subst (IsLineOf s (IsHeaderParts o)) (sym (e ∙ ap (λ (bs : List ℕ). bs ++ line) before)) is) c.end.ensures.text

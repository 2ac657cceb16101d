use Rattle.std.proofs.Common.{◌≡◌, ℕ, List, [], ◌∷◌, ◌++◌, ap, append_assoc, ◌∙◌}
use Rattle.std.specs.Prelude.{codes, decimal}
use Rattle.p21_render.specs.FaultLine.{detail_of, name_of, number_of}
use Rattle.p21_render.proofs.fault_text.push_fault.Goals as goal

-- eight texts after another
all_behind : (old a b c d e f g h u v w x y z t new : List ℕ) → u ≡ old ++ a → v ≡ u ++ b → w ≡ v ++ c → x ≡ w ++ d → y ≡ x ++ e → z ≡ y ++ f → t ≡ z ++ g → new ≡ t ++ h → new ≡ old ++ (a ++ (b ++ (c ++ (d ++ (e ++ (f ++ (g ++ h)))))))
all_behind old a b c d e f g h u v w x y z t new p q r s k l m n = rw (n, m, l, k, s, r, q, p) (simp append_assoc)

pub returns : goal.returns
returns c =
    let f = c.args.fault.now in
    let u = c.push.new.text.items in
    let v = c.push_number.new.text.items in
    let w = c.push-2.new.text.items in
    let x = c.push-3.new.text.items in
    let y = c.push-4.new.text.items in
    let z = c.push_number-2.new.text.items in
    let t = c.push_detail.new.line.items in
    let number = c.in_ok-push_number.ensures ∙ ap (λ n. u ++ decimal n) (c.from.ensures ∙ c.number.ensures) in
    let name = c.in_ok-push-3.ensures ∙ ap (λ n. w ++ n) c.kind_name.ensures in
    all_behind c.args.text.now.items (codes "fault ") (decimal (number_of f.kind)) (32 ∷ []) (name_of f.kind) (codes " at ") (decimal f.at) (detail_of f.kind) (10 ∷ []) u v w x y z t c.push-5.new.text.items
    c.in_ok-push.ensures number c.in_ok-push-2.ensures name c.in_ok-push-4.ensures c.in_ok-push_number-2.ensures c.in_ok-push_detail.ensures c.in_ok-push-5.ensures

-- A string that has the items of one list at most.
use Rattle.std.proofs.Common.{◌≡◌, ◌↔◌, ℕ, List, Option, Some, length, Bool, IsTrue, sym, subst, ap, ◌∙◌}
use Rattle.std.specs.Prelude.{IfSome}
use Rattle.p21_text.specs.Items.{Item, ItemsOf}
use Rattle.p21_express.specs.declared.declarations.Width.{Width}
use Rattle.p21_check.specs.Conforms.{IsAllowed, IsString}

pub wide : (w : Width) (raw : List ℕ) (n count : ℕ) (found : List Item) (allowed : Bool) → w.count ≡ Some n → ((a b : List Item) → ItemsOf raw a → ItemsOf raw b → a ≡ b) → ItemsOf raw found → count ≡ length found → IsTrue allowed ↔ IsAllowed w.fixed n count → IsTrue allowed ↔ IsString w raw
wide w raw n count found allowed e unique are long h =
    subst (λ (o : Option ℕ). IsTrue allowed ↔ IfSome o (λ width. (characters : List Item) × (ItemsOf raw characters × IsAllowed w.fixed width (length characters)))) (sym e) (
      λ t. (found, (are, subst (IsAllowed w.fixed n) long (h.0 t))),
      λ x. h.1 (subst (IsAllowed w.fixed n) (ap length (unique x.0 found x.1.0 are) ∙ sym long) x.1.1),
    )

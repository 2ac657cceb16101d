-- The values of an aggregate, as a list.
use Rattle.std.proofs.Common.{◌≡◌, List, [], ◌∷◌, map, refl, ap, sym, ◌∙◌, Vec, Global}
use Rattle.std.specs.declared.rc.Rc.{Rc}
use mathlib.Core.Former.{Count}
use Rattle.p21_values.specs.Plain.{several, more, plain, plains, plain_all}
use Rattle.p21_values.specs.declared.kind.Kind.{Kind}
use Rattle.p21_values.specs.declared.value.Value.{Value, Aggregate', Row_of-Value, end_of-Value, more_of-Value, items-the_row-Value, items_hidden-the_row-Value-0}
use Rattle.p21_values.specs.declared.value.Value.TheVariants.{Aggregate}

plains_row : {m : _} (row : Row_of-Value m) → plains row ≡ plain_all (items-the_row-Value m row)
plains_row end_of-Value = refl
plains_row (more_of-Value v rest) = ap (more (plain v)) (plains_row rest)

abbrev row_of : Value → (n : Count) × Row_of-Value n
row_of (Aggregate' k p s row) = (_, row)
row_of _ = (_, end_of-Value)

pub plain_aggregate : (k : Kind) (r : Rc (Vec Value Global) Global) → plain (Aggregate k r) ≡ several k (plain_all r.value.items)
plain_aggregate k r = ap (several k) (plains_row (row_of (Aggregate k r)).1 ∙ ap plain_all (items_hidden-the_row-Value-0 r.value))

-- what an aggregate is, by the values that were read of it
pub plain_aggregate_is : (v : Value) (k : Kind) (r : Rc (Vec Value Global) Global) (w : Vec Value Global) (xs : List Value) → v ≡ Aggregate k r → w ≡ r.value → xs ≡ w.items → plain v ≡ several k (plain_all xs)
plain_aggregate_is v k r w xs e f g =
    ap plain e ∙ plain_aggregate k r ∙ sym (ap (λ ys. several k (plain_all ys)) (g ∙ ap (λ (u : Vec Value Global). u.items) f))

-- Names among instances.
use Rattle.std.proofs.Common.{◌≡◌, ℕ, ◌<◌, List, length, get_or, sym, ap, ◌∙◌, arith}
use Rattle.std.proofs.lemmas.List.{get_or-map, length-map}
use Rattle.p21_tree.specs.declared.instances.RawInstance.{RawInstance}
use Rattle.p21_tree.specs.Views.{plain_instance}
use Rattle.p21_join.specs.Joined.{IsNewIn, IsNamedIn}
use Rattle.p21_reader.specs.InstanceFault.{IsRepeated}
use Rattle.p21_join.specs.Model.{plain_instances}

pub is_repeated : (is : List RawInstance) (i : RawInstance) → IsNamedIn is i → IsRepeated (plain_instances is) (plain_instance i)
is_repeated is i h =
    let k : ℕ = h.1.0 in
    let less : k < length (plain_instances is) = (let l = h.1.1 in omega (arith, length-map is plain_instance)) in
    (plain_instance h.0, (k, less, get_or-map plain_instance is k h.0 (plain_instance h.0) h.1.1 ∙ ap plain_instance h.1.2), h.2)

pub is_not_repeated : (is : List RawInstance) (i : RawInstance) → IsNewIn is i → ¬ (IsRepeated (plain_instances is) (plain_instance i))
is_not_repeated is i h r =
    let k : ℕ = r.1.0 in
    let less : k < length is = (let l = r.1.1 in omega (arith, length-map is plain_instance)) in
    let found : RawInstance = get_or is k i in
    let same : plain_instance found ≡ r.0 = sym (get_or-map plain_instance is k i r.0 less) ∙ r.1.2 in
    h k i less (ap (λ x. x.name) same ∙ r.2)

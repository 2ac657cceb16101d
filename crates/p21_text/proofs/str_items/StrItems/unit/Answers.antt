use Rattle.std.proofs.Common.{◌≡◌, ◌-◌, ◌++◌, ◌∷◌, [], take, drop, length, ap, ◌∙◌, subst, sym}
use Rattle.std.proofs.lemmas.List.{take_rest}
use Rattle.p21_text.specs.Meanings.{AreGroups, item_of}
use Rattle.p21_text.specs.Values.{read, units}
use Rattle.p21_text.proofs.ItemsLemmas.{hex_all_of, hex_list, left_fits}
use Rattle.p21_text.proofs.str_items.StrItems.unit.Goals as goal

pub first_unit-item-requires-clause-groups : goal.first_unit-item-requires-clause-groups
first_unit-item-requires-clause-groups c = let s = c.args.self.now in record { hex = hex_all_of s.digits.now s.hex; whole = s.whole }

pub invariant_of-self : goal.invariant_of-self
invariant_of-self c =
    let s = c.args.self.now in
    let size = c.first_unit-item.result.1 in
    let left = take (length s.digits.now - size) (drop size s.digits.now) in
    let same : left ≡ drop size s.digits.now = take_rest s.digits.now size in
    let groups : AreGroups s.wide left = subst (AreGroups s.wide) (sym same) c.first_unit-item.ensures.groups in
    let yields : units s.wide s.digits.now ++ read (length s.rest.now) s.part s.rest.now ≡ (item_of c.first_unit-item.result.0 ∷ []) ++ (units s.wide left ++ read (length s.rest.now) s.part s.rest.now) =
    ap (λ u. u ++ read (length s.rest.now) s.part s.rest.now) (c.first_unit-item.ensures.value ∙ ap (λ d. item_of c.first_unit-item.result.0 ∷ units s.wide d) (sym same)) in
    record {
      bytes = s.bytes;
      readable = s.readable;
      known = s.known;
      hex = hex_list left groups.hex;
      whole = groups.whole;
      fits = left_fits (item_of c.first_unit-item.result.0 ∷ []) (units s.wide s.digits.now ++ read (length s.rest.now) s.part s.rest.now) (units s.wide left ++ read (length s.rest.now) s.part s.rest.now) yields s.fits;
    }

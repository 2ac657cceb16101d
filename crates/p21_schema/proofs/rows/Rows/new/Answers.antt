use Rattle.std.proofs.Common.{◌≡◌, ◌<◌, ◌-◌, ◌++◌, ℕ, List, [], None, Some, length, get_or, take, refl, sym, ap, subst, ◌∙◌, arith}
use Rattle.p21_schema.specs.Draft.{AreMarks}
use Rattle.std.proofs.lemmas.List.{take_all, length-set, length-replicate}
use Rattle.p21_express.specs.WellFormed.{IsIn}
use Rattle.p21_graph.specs.Graph.{plain_graph}
use Rattle.p21_graph.specs.GraphLaws.{row_is, row_count}
use Rattle.p21_schema.specs.declared.ids.AttrId.{AttrId}
use Rattle.p21_schema.specs.RowTable.{no_own, joined, row_of, all_kept, ids_from, BeginsWithFirst, IsRowOver}
use Rattle.p21_schema.proofs.SharedRowLemmas.{none_done, begins_next, supertypes_below, one_done, one_whole, within_set}
use Rattle.p21_schema.proofs.RowLemmas.{all_alike}
use Rattle.p21_schema.proofs.rows.Rows.new.Goals as goal

pub loop-place-init : goal.loop-place-init
loop-place-init c =
    let rows = c.in_ok-rows.rows.items in
    record {
      count = c.in_ok-rows.ensures.count ∙ c.len.ensures ∙ sym (row_count c.args.supertypes.now);
      within = λ e a i. let l = c.in_ok-rows.ensures.within e a i in absurd (omega (arith, l));
      size = ap length c.in_ok-draft.ensures.marks ∙ length-replicate c.args.count 0;
      upto = λ k. let z : get_or c.in_ok-draft.draft.marks.items k 0 ≡ 0 = ap (λ (u : List ℕ). get_or u k 0) c.in_ok-draft.ensures.marks ∙ all_alike c.args.count k 0 in omega (arith, z);
      number = let z = c.in_ok-draft.ensures.number in omega (arith, z);
      draft = λ e is. let both : None ≡ Some e = sym c.in_ok-draft.ensures.of ∙ is in absurd cc;
      done = (none_done (plain_graph c.args.supertypes.now) c.args.own.now rows _ c.in_ok-rows.ensures.over, λ e is. let both : None ≡ Some e = sym c.in_ok-draft.ensures.of ∙ is in absurd cc);
    }

pub fill-requires-clause-rows : goal.fill-requires-clause-rows
fill-requires-clause-rows c =
    let g = plain_graph c.args.supertypes.now in
    let order = c.args.order.now in
    let i = c.loop-place.place in
    let inv = c.loop-place.invariant in
    let k = get_or order i 0 in
    let less : k < length c.args.supertypes.now.items = rw (← c.args.supertypes.now.ok.0, ← (row_count c.args.supertypes.now)) (c.requires.order i c.loop-place-test.true).0 in
    let above : get_or g k [] ≡ c.index-above.result.now.items = row_is c.args.supertypes.now k c.index-above.result.now less c.index-above.ensures in
    rw (c.deref.ensures.value, c.deref-in-loop-place.ensures.value) (inv.done.0.all, (inv.done.0.over, λ e m. supertypes_below g c.args.own.now order i c.loop-place-test.true c.requires.order c.requires.distinct c.loop-place.rows.items inv.count inv.done.0 e (subst (λ (u : List ℕ). IsIn u e) (sym above) m)))

pub begun-requires : goal.begun-requires
begun-requires c =
    let g = plain_graph c.args.supertypes.now in
    let order = c.args.order.now in
    let i = c.loop-place.place in
    let inv = c.loop-place.invariant in
    let all = inv.done.0.all in
    let k = get_or order i 0 in
    let own = get_or c.args.own.now k no_own in
    let less : k < length c.args.supertypes.now.items = rw (← c.args.supertypes.now.ok.0, ← (row_count c.args.supertypes.now)) (c.requires.order i c.loop-place-test.true).0 in
    let above : get_or g k [] ≡ c.index-above.result.now.items = row_is c.args.supertypes.now k c.index-above.result.now less c.index-above.ensures in
    let made = c.in_ok-fill.ensures.made all (rw c.deref.ensures.value inv.done.0.over) inv.done.1 in
    let ids : c.fill.new.self.ids.items ≡ all_kept [] (joined (row_of all) (get_or g k []) ++ ids_from own.from (own.to - own.from)) = made.ids ∙ ap (λ (u : List ℕ). all_kept [] (joined (row_of all) u ++ ids_from own.from (own.to - own.from))) (c.deref-in-loop-place.ensures.value ∙ sym above) in
    let begins : BeginsWithFirst all c.index-above.result.now.items c.fill.new.self.ids.items = subst (λ (u : List ℕ). BeginsWithFirst all u c.fill.new.self.ids.items) above (subst (λ (u : List AttrId). BeginsWithFirst all (get_or g k []) u) (sym ids) (begins_next g c.args.own.now order i c.loop-place-test.true c.requires.order c.requires.distinct c.loop-place.rows.items inv.count inv.done.0)) in
    rw (c.deref-in-loop-place-2.ensures.value, c.deref-in-loop-place-3.ensures.value, c.deref-in-loop-place-4.ensures.value) (all, (inv.done.0.over, ((λ e m. supertypes_below g c.args.own.now order i c.loop-place-test.true c.requires.order c.requires.distinct c.loop-place.rows.items inv.count inv.done.0 e (subst (λ (u : List ℕ). IsIn u e) (sym above) m)), begins)))

pub loop-place-preserved : goal.loop-place-preserved
loop-place-preserved c =
    let g = plain_graph c.args.supertypes.now in
    let order = c.args.order.now in
    let i = c.loop-place.place in
    let inv = c.loop-place.invariant in
    let all = inv.done.0.all in
    let k = get_or order i 0 in
    let own = get_or c.args.own.now k no_own in
    let rows = c.loop-place.rows.items in
    let row = c.in_ok-rows-2.field-0 in
    let less : k < length c.args.supertypes.now.items = rw (← c.args.supertypes.now.ok.0, ← (row_count c.args.supertypes.now)) (c.requires.order i c.loop-place-test.true).0 in
    let there : k < length rows = subst (λ u. k < u) (sym inv.count) (c.requires.order i c.loop-place-test.true).0 in
    let above : get_or g k [] ≡ c.index-above.result.now.items = row_is c.args.supertypes.now k c.index-above.result.now less c.index-above.ensures in
    let made = c.in_ok-fill.ensures.made all (rw c.deref.ensures.value inv.done.0.over) inv.done.1 in
    let ids : c.fill.new.self.ids.items ≡ all_kept [] (joined (row_of all) (get_or g k []) ++ ids_from own.from (own.to - own.from)) = made.ids ∙ ap (λ (u : List ℕ). all_kept [] (joined (row_of all) u ++ ids_from own.from (own.to - own.from))) (c.deref-in-loop-place.ensures.value ∙ sym above) in
    let begins : BeginsWithFirst all c.index-above.result.now.items c.fill.new.self.ids.items = subst (λ (u : List ℕ). BeginsWithFirst all u c.fill.new.self.ids.items) above (subst (λ (u : List AttrId). BeginsWithFirst all (get_or g k []) u) (sym ids) (begins_next g c.args.own.now order i c.loop-place-test.true c.requires.order c.requires.distinct rows inv.count inv.done.0)) in
    let this : IsRowOver all rows c.fill.new.self.ids.items row = rw (c.deref-in-loop-place-2.ensures.value, c.deref-in-loop-place-3.ensures.value, c.deref-in-loop-place-4.ensures.value) at c.in_ok-rows-2.ensures.over all inv.done.0.over begins in
    record {
      count = length-set rows k row ∙ inv.count;
      within = within_set c.args.count rows k row there inv.within (λ a m. subst (λ u. a.index < u) (made.count ∙ inv.size) (made.marks.known a (subst (λ (u : List AttrId). IsIn u a) (c.deref-in-loop-place-4.ensures.value ∙ made.ids) (c.in_ok-rows-2.ensures.among a m))));
      size = made.count ∙ inv.size;
      upto = λ k. let m = made.marks.upto k in let n = c.in_ok-fill.ensures.number in omega (arith, m, n);
      number = c.in_ok-fill.ensures.number;
      draft = λ e is. subst (λ (u : List AttrId). AreMarks c.fill.new.self.marks.items c.fill.new.self.number u) (sym made.ids) made.marks;
      done = (one_done g c.args.own.now order i c.loop-place-test.true c.requires.order c.requires.distinct rows inv.count inv.done.0 c.fill.new.self.ids.items row ids this, one_whole g c.args.own.now order i c.loop-place-test.true c.requires.order c.requires.distinct rows inv.count inv.done.0 c.fill.new.self.ids.items row ids this c.fill.new.self refl c.in_ok-fill.ensures.of);
    }

pub returns : goal.returns
returns c = λ s formed named owns.
    let done = c.loop-place.invariant.done.0 in
    let last : take c.loop-place.place c.args.order.now ≡ c.args.order.now = take_all c.loop-place.place c.args.order.now c.loop-place-test.false in
    record {
      all = done.all;
      over = done.over;
      count = done.over.count ∙ c.loop-place.invariant.count ∙ named.count;
      rows = λ v l. done.are s formed named owns v (subst (λ (u : List ℕ). IsIn u v) (sym last) (c.requires.all v (subst (λ u. v < u) (sym named.count) l)));
    }

-- The next of the items that are kept, one that leaves the ring alone, the first of some that leave it together, or the end.
use Rattle.std.proofs.Common.{◌≡◌, ◌++◌, [], ◌∷◌, List, false, sym, ap, subst, ◌∙◌}
use Rattle.std.proofs.lemmas.List.{nil_from_length}
use Rattle.std.specs.Vec.Iter.{into_iter_items}
use Rattle.std.specs.Option.{option_to_list}
use Rattle.rtrb.specs.Ring.{received as popped}
use Rattle.p21_lanes.specs.History.{messages_in, has_end, EndsWith}
use Rattle.p21_lanes.proofs.ParcelLemmas.{takes_kept, takes_single, takes_first, takes_end, leave_together, ends_with_rest, EndsWith-none, took_the_end, took_nothing}
use Rattle.p21_lanes.proofs.lane_out.LaneOut.take.Goals as goal

pub invariant_of-self : goal.invariant_of-self
invariant_of-self g c =
    let self = c.args.self.now in
    let t = takes_kept (messages_in (popped self.consumer)) (into_iter_items self.together) (into_iter_items c.next.new.self) c.in-Some.item c.in-Some.ensures.items self.kept self.history in
    record { history = t.form; end_taken = self.end_taken; kept = t.kept }

pub returns-in-Some-clause-took : goal.returns-in-Some-clause-took
returns-in-Some-clause-took g c =
    let self = c.args.self.now in
    let t = takes_kept (messages_in (popped self.consumer)) (into_iter_items self.together) (into_iter_items c.next.new.self) c.in-Some.item c.in-Some.ensures.items self.kept self.history in
    (t.received, t.items, t.open_before, t.open_after)

pub returns-in-Some-clause-again : goal.returns-in-Some-clause-again
returns-in-Some-clause-again g c ended =
    let self = c.args.self.now in
    let t = takes_kept (messages_in (popped self.consumer)) (into_iter_items self.together) (into_iter_items c.next.new.self) c.in-Some.item c.in-Some.ensures.items self.kept self.history in
    let open_ = t.open_before in
    cc

pub invariant_of-self-in-One-1 : goal.invariant_of-self-in-One-1
invariant_of-self-in-One-1 g c =
    let self = c.args.self.now in
    let none : has_end (messages_in (popped self.consumer)) ≡ false = c.in-Ok-One.ensures.ok.2 in
    let t = takes_single (popped self.consumer) c.in-Ok-One.item (popped c.pop.new.self) (c.in-Ok-One.ensures.ok.0 ∙ ap (λ p. popped self.consumer ++ p ∷ []) c.in-Ok-One.field-0-is) self.history none in
    let empty : into_iter_items c.next.new.self ≡ [] = nil_from_length (into_iter_items c.next.new.self) (sym c.next.new.self.rest.ok.0 ∙ c.in_default.ensures.cases.1) in
    record {
      history = t.form;
      end_taken = self.end_taken ∙ (none ∙ sym t.open_now);
      kept = subst (λ (xs : List g.row.T.Denot). EndsWith (messages_in (popped c.pop.new.self)) xs) (sym empty) (EndsWith-none (messages_in (popped c.pop.new.self)));
    }

pub invariant_of-self-in-Ok-Together : goal.invariant_of-self-in-Ok-Together
invariant_of-self-in-Ok-Together g c =
    let self = c.args.self.now in
    let none : has_end (messages_in (popped self.consumer)) ≡ false = c.in-Ok-Together.ensures.ok.2 in
    let items = c.in-Ok-Together.items.items in
    let left = leave_together (popped self.consumer) (popped c.pop.new.self) (c.in-Ok-Together.field-0 ∷ []) items c.in-Ok-Together.ensures.ok.0 (ap (λ p. messages_in (p ∷ [])) c.in-Ok-Together.field-0-is) self.history none in
    record {
      history = left.1;
      end_taken = self.end_taken ∙ (none ∙ sym left.2);
      kept = ends_with_rest (messages_in (popped c.pop.new.self)) (messages_in (popped self.consumer)) items (option_to_list c.next-in-Ok-Together.result) (into_iter_items c.next-in-Ok-Together.new.self) left.0 (sym c.into_iter.ensures.rest ∙ c.next-in-Ok-Together.ensures.items);
    }

pub invariant_of-self-in-Ok-Last : goal.invariant_of-self-in-Ok-Last
invariant_of-self-in-Ok-Last g c =
    let self = c.args.self.now in
    let none : has_end (messages_in (popped self.consumer)) ≡ false = c.in-Ok-Last.ensures.ok.2 in
    let t = takes_end (popped self.consumer) (popped c.pop.new.self) (c.in-Ok-Last.ensures.ok.0 ∙ ap (λ p. popped self.consumer ++ p ∷ []) c.in-Ok-Last.field-0-is) self.history none in
    let empty : into_iter_items c.next.new.self ≡ [] = nil_from_length (into_iter_items c.next.new.self) (sym c.next.new.self.rest.ok.0 ∙ c.in_default.ensures.cases.1) in
    record {
      history = t.1;
      end_taken = sym t.2;
      kept = subst (λ (xs : List g.row.T.Denot). EndsWith (messages_in (popped c.pop.new.self)) xs) (sym empty) (EndsWith-none (messages_in (popped c.pop.new.self)));
    }

pub returns-in-Ok-One-clause-took : goal.returns-in-Ok-One-clause-took
returns-in-Ok-One-clause-took g c =
    let self = c.args.self.now in
    let none : has_end (messages_in (popped self.consumer)) ≡ false = c.in-Ok-One.ensures.ok.2 in
    let t = takes_single (popped self.consumer) c.in-Ok-One.item (popped c.pop.new.self) (c.in-Ok-One.ensures.ok.0 ∙ ap (λ p. popped self.consumer ++ p ∷ []) c.in-Ok-One.field-0-is) self.history none in
    let empty : into_iter_items c.next.new.self ≡ [] = nil_from_length (into_iter_items c.next.new.self) (sym c.next.new.self.rest.ok.0 ∙ c.in_default.ensures.cases.1) in
    let before : into_iter_items self.together ≡ [] = nil_from_length (into_iter_items self.together) (sym self.together.rest.ok.0 ∙ c.in_default.ensures.cases.0) in
    rw (empty, before) (t.received, t.items, t.open_before, t.open_after)

pub returns-in-Some-next-clause-took : goal.returns-in-Some-next-clause-took
returns-in-Some-next-clause-took g c =
    let self = c.args.self.now in
    let none : has_end (messages_in (popped self.consumer)) ≡ false = c.in-Ok-Together.ensures.ok.2 in
    let t = takes_first (popped self.consumer) (popped c.pop.new.self) (c.in-Ok-Together.field-0 ∷ []) c.in-Ok-Together.items.items (into_iter_items c.next-in-Ok-Together.new.self) c.in-Some-next.item c.in-Ok-Together.ensures.ok.0 (ap (λ p. messages_in (p ∷ [])) c.in-Ok-Together.field-0-is) (sym c.into_iter.ensures.rest ∙ c.in-Some-next.ensures.items) self.history none in
    let before : into_iter_items self.together ≡ [] = nil_from_length (into_iter_items self.together) (sym self.together.rest.ok.0 ∙ c.in_default.ensures.cases.0) in
    rw before (t.received, t.items, t.open_before, t.open_after)

pub returns-in-None-clause-took : goal.returns-in-None-clause-took
returns-in-None-clause-took g c =
    let self = c.args.self.now in
    let none : has_end (messages_in (popped self.consumer)) ≡ false = c.in-Ok-Together.ensures.ok.2 in
    let items = c.in-Ok-Together.items.items in
    let left = leave_together (popped self.consumer) (popped c.pop.new.self) (c.in-Ok-Together.field-0 ∷ []) items c.in-Ok-Together.ensures.ok.0 (ap (λ p. messages_in (p ∷ [])) c.in-Ok-Together.field-0-is) self.history none in
    let empty : into_iter_items c.next-in-Ok-Together.new.self ≡ [] = nil_from_length (into_iter_items c.next-in-Ok-Together.new.self) (sym c.next-in-Ok-Together.new.self.rest.ok.0 ∙ c.in-None.ensures.cases.1) in
    let before : into_iter_items self.together ≡ [] = nil_from_length (into_iter_items self.together) (sym self.together.rest.ok.0 ∙ c.in_default.ensures.cases.0) in
    let all : items ≡ [] = sym c.into_iter.ensures.rest ∙ (c.in-None.ensures.items ∙ empty) in
    took_nothing (messages_in (popped self.consumer)) (messages_in (popped c.pop.new.self)) (into_iter_items self.together) (into_iter_items c.next-in-Ok-Together.new.self) items before empty all left.0 none

pub returns-in-Ok-Last-clause-took : goal.returns-in-Ok-Last-clause-took
returns-in-Ok-Last-clause-took g c =
    let self = c.args.self.now in
    let none : has_end (messages_in (popped self.consumer)) ≡ false = c.in-Ok-Last.ensures.ok.2 in
    let t = takes_end (popped self.consumer) (popped c.pop.new.self) (c.in-Ok-Last.ensures.ok.0 ∙ ap (λ p. popped self.consumer ++ p ∷ []) c.in-Ok-Last.field-0-is) self.history none in
    let empty : into_iter_items c.next.new.self ≡ [] = nil_from_length (into_iter_items c.next.new.self) (sym c.next.new.self.rest.ok.0 ∙ c.in_default.ensures.cases.1) in
    let before : into_iter_items self.together ≡ [] = nil_from_length (into_iter_items self.together) (sym self.together.rest.ok.0 ∙ c.in_default.ensures.cases.0) in
    took_the_end (messages_in (popped self.consumer)) (messages_in (popped c.pop.new.self)) (into_iter_items self.together) (into_iter_items c.next.new.self) before empty t.0 none

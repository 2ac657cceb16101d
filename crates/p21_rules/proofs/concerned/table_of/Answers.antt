use Rattle.std.proofs.Common.{◌≡◌, ◌<◌, ◌+◌, ◌∷◌, ◌∙◌, [], ℕ, Some, length, ap, subst, sym}
use Rattle.std.specs.Prelude.{slice_get}
use Rattle.std.proofs.lemmas.List.{length-append}
use Rattle.p21_schema.specs.Place.{entity_name}
use Rattle.p21_rules.specs.Named.{AreNamed}
use Rattle.p21_rules.proofs.ConcernedLemmas.{named_there, table_more}
use Rattle.p21_rules.proofs.concerned.table_of.Goals as goal

pub number_rules-requires-clause-named : goal.number_rules-requires-clause-named
number_rules-requires-clause-named c =
    let s = c.args.schema.now in
    let place = c.loop-place.place in
    let n = entity_name s (record { index = place }) in
    let less : place < length s.entities = subst (λ m. place < m) c.entity_count-place-end.ensures c.loop-place-test.true in
    let named = named_there s place c.entity_at-own.result c.entity_at-own.ensures less in
    (n ∷ [], subst (AreNamed s (n ∷ [])) (sym c.from_ref.ensures.value) (named, tt))

pub loop-place-preserved : goal.loop-place-preserved
loop-place-preserved c =
    let s = c.args.schema.now in
    let place = c.loop-place.place in
    let n = entity_name s (record { index = place }) in
    let table = c.loop-place.table.items in
    let new = c.number_rules.new.numbers in
    let less : place < length s.entities = subst (λ m. place < m) c.entity_count-place-end.ensures c.loop-place-test.true in
    let named = named_there s place c.entity_at-own.result c.entity_at-own.ensures less in
    let here = c.in_ok-number_rules.ensures (n ∷ []) (subst (AreNamed s (n ∷ [])) (sym c.from_ref.ensures.value) (named, tt)) in
    let pushed = c.in_ok-push.ensures.items in
    record {
      long = ap length pushed ∙ length-append table (new ∷ []) ∙ ap (λ (m : ℕ). m + 1) c.loop-place.invariant.long;
      each = λ e ns there. table_more s c.args.wanted.now table new place c.loop-place.invariant.long c.loop-place.invariant.each here e ns (subst (λ l. slice_get l e.index ≡ Some ns) pushed there);
    }

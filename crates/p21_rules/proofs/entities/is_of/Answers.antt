use Rattle.std.proofs.Common.{◌<◌, ◌≤◌, List, ℕ, None, Option, length, refl, sym, ◌∙◌, arith}
use Rattle.std.proofs.lemmas.Bool.{false≢true}
use Rattle.p21_schema.specs.declared.ids.EntityId.{EntityId}
use Rattle.p21_schema.specs.Place.{entity_name}
use Rattle.p21_rules.specs.Named.{IsBelow, IsNamed}
use Rattle.p21_rules.proofs.ParameterLemmas.{zip_drop, zip_end, any_there, any_further, none_left}
use Rattle.p21_rules.proofs.entities.is_of.Goals as goal

pub is_below-requires-clause-named : goal.is_below-requires-clause-named
is_below-requires-clause-named c =
    let s = c.args.schema.now in
    let less : c.loop-place.place < length c.args.named.now = omega arith in
    let at = zip_drop (λ (e : Option EntityId) (k : List ℕ). IsNamed s k e) c.args.named.now c.requires.named.0 c.loop-place.place None c.requires.named.1 less in
    (at.0, at.2)

pub returns-then-is_below : goal.returns-then-is_below
returns-then-is_below c = λ ks h.
    let s = c.args.schema.now in
    let less : c.loop-place.place < length c.args.named.now = omega arith in
    let at = zip_drop (λ (e : Option EntityId) (k : List ℕ). IsNamed s k e) c.args.named.now ks c.loop-place.place None h less in
    (λ _. any_there (IsBelow s (entity_name s c.args.entity)) ks _ c.loop-place.place at.0 at.1 ((c.is_below.ensures at.0 at.2).0 c.if-is_below.true), λ _. refl)

pub loop-place-preserved : goal.loop-place-preserved
loop-place-preserved c = λ ks h any.
    let s = c.args.schema.now in
    let less : c.loop-place.place < length c.args.named.now = omega arith in
    let at = zip_drop (λ (e : Option EntityId) (k : List ℕ). IsNamed s k e) c.args.named.now ks c.loop-place.place None h less in
    any_further (IsBelow s (entity_name s c.args.entity)) _ _ at.0 at.1 (λ p. false≢true (sym c.if-is_below.false ∙ (c.is_below.ensures at.0 at.2).1 p)) (c.loop-place.invariant ks h any)

pub returns : goal.returns
returns c = λ ks h.
    let s = c.args.schema.now in
    let past : length c.args.named.now ≤ c.loop-place.place = omega arith in
    let none = zip_end (λ (e : Option EntityId) (k : List ℕ). IsNamed s k e) c.args.named.now ks c.loop-place.place h past in
    (λ f. absurd (false≢true f), λ any. absurd (none_left (IsBelow s (entity_name s c.args.entity)) _ none (c.loop-place.invariant ks h any)))

use Rattle.std.proofs.Common.{◌≡◌, ◌<◌, ◌≤◌, List, ℕ, None, Option, length, refl, sym, ◌∙◌, arith}
use Rattle.std.proofs.lemmas.Bool.{false≢true}
use Rattle.p21_schema.specs.declared.ids.EntityId.{EntityId}
use Rattle.p21_schema.specs.Place.{entity_name}
use Rattle.p21_rules.specs.Named.{IsNamed}
use Rattle.p21_rules.proofs.ParameterLemmas.{zip_drop, zip_end, any_there, any_further, none_left}
use Rattle.p21_rules.proofs.SlotLemmas.{named_this}
use Rattle.p21_rules.proofs.entities.is_named.Goals as goal

pub returns-then-is_this : goal.returns-then-is_this
returns-then-is_this c = λ ks h.
    let s = c.args.schema.now in
    let less : c.loop-place.place < length c.args.named.now = omega arith in
    let at = zip_drop (λ (e : Option EntityId) (k : List ℕ). IsNamed s k e) c.args.named.now ks c.loop-place.place None h less in
    let this = named_this s c.one_id.ensures.entities c.args.entity c.requires.entity at.0 _ at.2 in
    (λ _. any_there (λ (k : List ℕ). entity_name s c.args.entity ≡ k) ks _ c.loop-place.place at.0 at.1 (this.0 (c.is_this.ensures.0 c.if-is_this.true)), λ _. refl)

pub loop-place-preserved : goal.loop-place-preserved
loop-place-preserved c = λ ks h any.
    let s = c.args.schema.now in
    let less : c.loop-place.place < length c.args.named.now = omega arith in
    let at = zip_drop (λ (e : Option EntityId) (k : List ℕ). IsNamed s k e) c.args.named.now ks c.loop-place.place None h less in
    let this = named_this s c.one_id.ensures.entities c.args.entity c.requires.entity at.0 _ at.2 in
    any_further (λ (k : List ℕ). entity_name s c.args.entity ≡ k) _ _ at.0 at.1 (λ p. false≢true (sym c.if-is_this.false ∙ c.is_this.ensures.1 (this.1 p))) (c.loop-place.invariant ks h any)

pub returns : goal.returns
returns c = λ ks h.
    let s = c.args.schema.now in
    let past : length c.args.named.now ≤ c.loop-place.place = omega arith in
    let none = zip_end (λ (e : Option EntityId) (k : List ℕ). IsNamed s k e) c.args.named.now ks c.loop-place.place h past in
    (λ f. absurd (false≢true f), λ any. absurd (none_left (λ (k : List ℕ). entity_name s c.args.entity ≡ k) _ none (c.loop-place.invariant ks h any)))

use Rattle.std.proofs.Common.{◌<◌, ℕ, List, Some, None, true, length, sym, ap, subst, ◌∙◌, arith}
use Rattle.p21_express.specs.WellFormed.{IsIn}
use Rattle.p21_tree.specs.Plain.{plain_all}
use Rattle.p21_tree.specs.declared.params.Param.{Param}
use Rattle.p21_schema.specs.Place.{entity_name}
use Rattle.p21_check.specs.LocalFault.{HasBadAttribute}
use Rattle.p21_check.specs.Attributes.{AreAttributes}
use Rattle.p21_check.specs.Sets.{HasEntity}
use Rattle.p21_check.specs.Instances.{complex_instance, IsFirstUnfit}
use Rattle.p21_check.proofs.AttributeLemmas.{none_more, none_all}
use Rattle.p21_check.proofs.ComplexLemmas.{at_index, bad_here, unfit_there, no_bad_behind}
use Rattle.p21_check.proofs.complex.first_bad_attribute.Goals as goal

pub known-entity-requires : goal.known-entity-requires
known-entity-requires c =
    let rs = c.args.records.now in
    let k = c.loop-k.k in
    let x = c.index-records-k.result in
    let less : k < length rs = omega arith in
    let among : IsIn rs x = subst (IsIn rs) (sym c.index-records-k.is) (at_index rs k x less) in
    c.requires.known x among

pub first_unfit-requires-clause-count : goal.first_unfit-requires-clause-count
first_unfit-requires-clause-count c =
    let rs = c.args.records.now in
    let k = c.loop-k.k in
    let x = c.index-records-k.result in
    let less : k < length rs = omega arith in
    let among : IsIn rs x = subst (IsIn rs) (sym c.index-records-k.is) (at_index rs k x less) in
    let right = c.requires.right x among in
    let are : AreAttributes c.args.schema.now true (entity_name c.args.schema.now c.known-entity.result) right.0 = subst (λ n. AreAttributes c.args.schema.now true n right.0) (sym c.known-entity.ensures.1) right.1.0 in
    (right.0, (are, ap length c.as_slice.ensures ∙ right.1.1))

pub returns-in-Some : goal.returns-in-Some
returns-in-Some c = λ name at.
    let rs = c.args.records.now in
    let k = c.loop-k.k in
    let x = c.index-records-k.result in
    let less : k < length rs = omega arith in
    let among : IsIn rs x = subst (IsIn rs) (sym c.index-records-k.is) (at_index rs k x less) in
    let right = c.requires.right x among in
    let are : AreAttributes c.args.schema.now true (entity_name c.args.schema.now c.known-entity.result) right.0 = subst (λ n. AreAttributes c.args.schema.now true n right.0) (sym c.known-entity.ensures.1) right.1.0 in
    let unfit = subst (λ (l : List Param). IsFirstUnfit c.args.schema.now (HasEntity c.args.schema.now c.args.set.now) right.0 (plain_all l) (Some c.in-Some.attr)) c.as_slice.ensures (c.in-Some.ensures right.0 are) in (
      bad_here c.args.schema.now c.fits.ensures name at rs k x less c.index-records-k.is right.0 right.1.0 c.in-Some.attr c.args.set.now c.requires.of unfit.0,
      c.loop-k.invariant name at,
      λ b h bad. unfit.1 b h (unfit_there c.args.schema.now c.fits.ensures name at rs k x less c.index-records-k.is right.0 right.1.0 b c.args.set.now c.requires.of bad),
    )

pub loop-k-preserved : goal.loop-k-preserved
loop-k-preserved c = λ name at q b h bad.
    let rs = c.args.records.now in
    let k = c.loop-k.k in
    let x = c.index-records-k.result in
    let less : k < length rs = omega arith in
    let among : IsIn rs x = subst (IsIn rs) (sym c.index-records-k.is) (at_index rs k x less) in
    let right = c.requires.right x among in
    let are : AreAttributes c.args.schema.now true (entity_name c.args.schema.now c.known-entity.result) right.0 = subst (λ n. AreAttributes c.args.schema.now true n right.0) (sym c.known-entity.ensures.1) right.1.0 in
    let fit = subst (λ (l : List Param). IsFirstUnfit c.args.schema.now (HasEntity c.args.schema.now c.args.set.now) right.0 (plain_all l) None) c.as_slice.ensures (c.in_default.ensures right.0 are) in
    none_more (λ (q : ℕ). (b : ℕ) × HasBadAttribute c.args.schema.now (complex_instance name at rs) q b) k (λ q l u. c.loop-k.invariant name at q u.0 l u.1)
    (λ u. fit u.0 (unfit_there c.args.schema.now c.fits.ensures name at rs k x less c.index-records-k.is right.0 right.1.0 u.0 c.args.set.now c.requires.of u.1)) q h (b, bad)

pub returns : goal.returns
returns c = λ name at q b bad.
    let rs = c.args.records.now in
    none_all (λ (q : ℕ). (b : ℕ) × HasBadAttribute c.args.schema.now (complex_instance name at rs) q b) c.loop-k.k (λ q l u. c.loop-k.invariant name at q u.0 l u.1) (λ q l u. no_bad_behind c.args.schema.now name at rs q u.0 (omega arith) u.1) q (b, bad)

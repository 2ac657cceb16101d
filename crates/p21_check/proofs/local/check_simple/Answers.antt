use Rattle.std.proofs.Common.{◌≡◌, ◌≢◌, List, Some, None, false, length, refl, sym, subst, ◌∙◌, arith}
use Rattle.std.proofs.lemmas.Bool.{false≢true}
use Rattle.p21_express.specs.WellFormed.{IsEntity}
use Rattle.p21_tree.specs.Plain.{plain_all}
use Rattle.p21_tree.specs.Views.{plain_record}
use Rattle.p21_tree.specs.declared.params.Param.{Param}
use Rattle.p21_check.specs.EntitySet.{IsInSet}
use Rattle.p21_check.specs.LocalFault.{IsAbstract}
use Rattle.p21_check.specs.declared.entity_set.EntitySet.TheVariants as set
use Rattle.p21_check.specs.Attributes.{AreAttributes}
use Rattle.p21_check.specs.Sets.{HasEntity}
use Rattle.p21_check.specs.Instances.{simple_instance, IsFirstUnfit}
use Rattle.p21_check.proofs.SetLemmas.{is_entity}
use Rattle.p21_check.proofs.ElementLemmas.{count_all}
use Rattle.p21_check.proofs.LocalLemmas.{abstract_entity, wrong_count, bad_attribute, distinct_answer}
use Rattle.p21_check.proofs.InstanceLemmas.{abstract_by, wrong_at, not_wrong_at, bad_at, unfit_at, unfit_along, simple_known, simple_abstract, simple_concrete, simple_whole, simple_counted, simple_fit, simple_set}
use Rattle.p21_check.proofs.local.check_simple.Goals as goal

pub returns-then-is_abstract : goal.returns-then-is_abstract
returns-then-is_abstract c = λ name at.
    let s = c.args.schema.now in
    let e = plain_record c.args.entry.now in
    let i = simple_instance name at e in
    let id = c.args.entity in
    let known = simple_known s name at e (subst (IsEntity s) c.requires.named (is_entity s id c.requires.entity)) in
    let abstract_ = abstract_by s c.fits.ensures id c.is_abstract.result c.requires.entity c.is_abstract.ensures in
    abstract_entity s i known (simple_abstract s name at e (subst (IsAbstract s) c.requires.named (abstract_.0 c.if-is_abstract.true)))

pub returns-then-attribute_count-len : goal.returns-then-attribute_count-len
returns-then-attribute_count-len c = λ name at.
    let s = c.args.schema.now in
    let e = plain_record c.args.entry.now in
    let i = simple_instance name at e in
    let id = c.args.entity in
    let known = simple_known s name at e (subst (IsEntity s) c.requires.named (is_entity s id c.requires.entity)) in
    let abstract_ = abstract_by s c.fits.ensures id c.is_abstract.result c.requires.entity c.is_abstract.ensures in
    let concrete = simple_concrete s name at e (λ h. false≢true (sym c.if-is_abstract.false ∙ abstract_.1 (subst (IsAbstract s) (sym c.requires.named) h))) in
    let whole = simple_whole s name at e in
    let count = c.attribute_count.ensures in
    let are : AreAttributes s false e.keyword count.0 = subst (λ n. AreAttributes s false n count.0) c.requires.named count.1.0 in
    let long : c.len.result ≡ length c.args.entry.now.params = c.len.ensures in
    let differ : length c.args.entry.now.params ≢ length count.0 = λ f. c.if-attribute_count-len.true (count.1.1 ∙ sym f ∙ sym long) in
    wrong_count s i known concrete whole 0 (wrong_at s c.fits.ensures i 0 e refl count.0 are (λ f. differ (sym (count_all c.args.entry.now.params) ∙ f))) (λ q h. absurd (omega arith))

pub returns-in-Some : goal.returns-in-Some
returns-in-Some c = λ name at.
    let s = c.args.schema.now in
    let e = plain_record c.args.entry.now in
    let i = simple_instance name at e in
    let id = c.args.entity in
    let known = simple_known s name at e (subst (IsEntity s) c.requires.named (is_entity s id c.requires.entity)) in
    let abstract_ = abstract_by s c.fits.ensures id c.is_abstract.result c.requires.entity c.is_abstract.ensures in
    let concrete = simple_concrete s name at e (λ h. false≢true (sym c.if-is_abstract.false ∙ abstract_.1 (subst (IsAbstract s) (sym c.requires.named) h))) in
    let whole = simple_whole s name at e in
    let count = c.attribute_count.ensures in
    let are : AreAttributes s false e.keyword count.0 = subst (λ n. AreAttributes s false n count.0) c.requires.named count.1.0 in
    let long : c.len.result ≡ length c.args.entry.now.params = c.len.ensures in
    let same : length c.args.entry.now.params ≡ length count.0 = sym long ∙ sym c.if-attribute_count-len.false ∙ count.1.1 in
    let counted = simple_counted s name at e (not_wrong_at s c.fits.ensures i 0 e refl count.0 are (count_all c.args.entry.now.params ∙ same)) in
    let S = HasEntity s (set.Simple id) in
    let there = simple_set s name at e id c.requires.entity c.requires.named in
    let a = c.in-Some.attr in
    let unfit = subst (λ (l : List Param). IsFirstUnfit s S count.0 (plain_all l) (Some a)) c.as_slice.ensures (c.in-Some.ensures count.0 count.1.0) in
    bad_attribute s i known concrete whole counted 0 a
    (bad_at s c.fits.ensures i 0 e refl count.0 are a (unfit_along s S (IsInSet s i) count.0 e.params a there unfit.0))
    (λ q b h. absurd (omega arith))
    (λ b h bad. unfit.1 b h (unfit_along s (IsInSet s i) S count.0 e.params b (λ n. ((there n).1, (there n).0)) (unfit_at s c.fits.ensures i 0 e refl count.0 are b bad)))

pub returns-in-None : goal.returns-in-None
returns-in-None c = λ name at.
    let s = c.args.schema.now in
    let e = plain_record c.args.entry.now in
    let i = simple_instance name at e in
    let id = c.args.entity in
    let known = simple_known s name at e (subst (IsEntity s) c.requires.named (is_entity s id c.requires.entity)) in
    let abstract_ = abstract_by s c.fits.ensures id c.is_abstract.result c.requires.entity c.is_abstract.ensures in
    let concrete = simple_concrete s name at e (λ h. false≢true (sym c.if-is_abstract.false ∙ abstract_.1 (subst (IsAbstract s) (sym c.requires.named) h))) in
    let whole = simple_whole s name at e in
    let count = c.attribute_count.ensures in
    let are : AreAttributes s false e.keyword count.0 = subst (λ n. AreAttributes s false n count.0) c.requires.named count.1.0 in
    let long : c.len.result ≡ length c.args.entry.now.params = c.len.ensures in
    let same : length c.args.entry.now.params ≡ length count.0 = sym long ∙ sym c.if-attribute_count-len.false ∙ count.1.1 in
    let counted = simple_counted s name at e (not_wrong_at s c.fits.ensures i 0 e refl count.0 are (count_all c.args.entry.now.params ∙ same)) in
    let S = HasEntity s (set.Simple id) in
    let there = simple_set s name at e id c.requires.entity c.requires.named in
    let fit = subst (λ (l : List Param). IsFirstUnfit s S count.0 (plain_all l) None) c.as_slice.ensures (c.in-None.ensures count.0 count.1.0) in
    let fits = simple_fit s name at e (λ b bad. fit b (unfit_along s (IsInSet s i) S count.0 e.params b (λ n. ((there n).1, (there n).0)) (unfit_at s c.fits.ensures i 0 e refl count.0 are b bad))) in
    distinct_answer s i known concrete whole counted fits c.check_simple_distinct.result (c.check_simple_distinct.ensures name at)

pub check_simple_distinct-requires-clause-count : goal.check_simple_distinct-requires-clause-count
check_simple_distinct-requires-clause-count c =
    let count = c.attribute_count.ensures in
    let long : c.len.result ≡ length c.args.entry.now.params = c.len.ensures in
    (count.0, (count.1.0, sym long ∙ sym c.if-attribute_count-len.false ∙ count.1.1))

use Rattle.std.proofs.Common.{◌≡◌, ◌≢◌, ◌∷◌, [], length, sym, ap, subst, ◌∙◌}
use Rattle.p21_tree.specs.Tree.{items, str}
use Rattle.p21_tree.specs.Plain.{plain_all}
use Rattle.p21_tree.specs.Views.{plain_preface}
use Rattle.p21_check.specs.Header.{BeginsWith, only}
use Rattle.p21_check.proofs.HeaderParams.{same_params, one_param, not_one, items_param, strings, str_param, one_string, string_body}
use Rattle.p21_check.proofs.header.schema_string.Goals as goal

pub returns-in_err-schema : goal.returns-in_err-schema
returns-in_err-schema c = rw c.from_residual.ensures (λ body h. c.in_err-schema.ensures (only (items (only (str body)))) h)

pub returns-in_err-names : goal.returns-in_err-names
returns-in_err-names c =
    let ps = c.in_ok-schema.schema.now.params in
    let few : length ps ≢ 1 = λ e. c.in_err-names.ensures (ap length c.as_slice.ensures ∙ e) in
    rw c.from_residual-in_err-names.ensures
    (λ body h. not_one ps (items (only (str body))) few (same_params (plain_preface c.args.preface.now) (plain_all ps) (only (items (only (str body)))) c.in_ok-schema.ensures h))

pub returns-in_default : goal.returns-in_default
returns-in_default c body h =
    let ps = c.in_ok-schema.schema.now.params in
    let p = c.in_ok-names.field-0.now in
    let same = same_params (plain_preface c.args.preface.now) (plain_all ps) (only (items (only (str body)))) c.in_ok-schema.ensures h in
    let found = items_param p (only (str body)) (one_param p ps (items (only (str body))) (sym c.as_slice.ensures ∙ c.in_ok-names.ensures) same) in
    c.in_default.not-Items found.0 found.1

pub returns-in_err-body : goal.returns-in_err-body
returns-in_err-body c =
    let ps = c.in_ok-schema.schema.now.params in
    let p = c.in_ok-names.field-0.now in
    let qs = c.in-Items.names.items in
    let few : length qs ≢ 1 = λ e. c.in_err-body.ensures (ap length c.deref.ensures.value ∙ e) in
    rw c.from_residual-in_err-body.ensures
    (λ body h. not_one qs (str body) few
    (strings ps p c.in-Items.names body (sym c.as_slice.ensures ∙ c.in_ok-names.ensures) c.in-Items.is
    (same_params (plain_preface c.args.preface.now) (plain_all ps) (only (items (only (str body)))) c.in_ok-schema.ensures h)))

pub returns-in_default-2 : goal.returns-in_default-2
returns-in_default-2 c body h =
    let ps = c.in_ok-schema.schema.now.params in
    let p = c.in_ok-names.field-0.now in
    let q = c.in_ok-body.field-0.now in
    let qs = c.in-Items.names.items in
    let same = strings ps p c.in-Items.names body (sym c.as_slice.ensures ∙ c.in_ok-names.ensures) c.in-Items.is (same_params (plain_preface c.args.preface.now) (plain_all ps) (only (items (only (str body)))) c.in_ok-schema.ensures h) in
    let found = str_param q body (one_param q qs (str body) (sym c.deref.ensures.value ∙ c.in_ok-body.ensures) same) in
    c.in_default-2.not-Str found.0 found.1

pub returns : goal.returns
returns c =
    let ps = c.in_ok-schema.schema.now.params in
    let p = c.in_ok-names.field-0.now in
    let one : ps ≡ p ∷ [] = sym c.as_slice.ensures ∙ c.in_ok-names.ensures in
    let same = one_string ps p c.in_ok-body.field-0.now c.in-Items.names c.in-Str.body one c.in-Items.is (sym c.deref.ensures.value ∙ c.in_ok-body.ensures) c.in-Str.is in
    (subst (BeginsWith (plain_preface c.args.preface.now)) same c.in_ok-schema.ensures, string_body ps p c.in-Str.body.now c.in_ok-schema.schema.now.bodies one same)

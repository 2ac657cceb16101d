use Rattle.std.proofs.lemmas.Bool.{false≢true}
use Rattle.std.proofs.Common.{sym, ◌∙◌}
use Rattle.p21_query.proofs.JoinLemmas.{is_joined, joined_is}
use Rattle.p21_query.proofs.attributes.is_joined.Goals as goal

pub returns-then-eq_ignore_ascii_case : goal.returns-then-eq_ignore_ascii_case
returns-then-eq_ignore_ascii_case c =
    let f = c.args.front.now in
    let b = c.args.back.now in
    let n = c.args.name.now in
    let g = c.in-Some.begin.now in
    let e = c.in-Some.end.now in
    let split = c.in-Some.ensures.cases in (
      λ t. joined_is f b n g e split (c.eq_ignore_ascii_case.ensures.test.0 c.if-eq_ignore_ascii_case.true) (c.is_after_point.ensures.0 t),
      λ h. c.is_after_point.ensures.1 (is_joined f b n g e split h).1,
    )

pub returns-else-eq_ignore_ascii_case : goal.returns-else-eq_ignore_ascii_case
returns-else-eq_ignore_ascii_case c =
    let f = c.args.front.now in
    let b = c.args.back.now in
    let n = c.args.name.now in
    let g = c.in-Some.begin.now in
    let e = c.in-Some.end.now in
    let split = c.in-Some.ensures.cases in (
      λ t. absurd (false≢true (sym c.if-eq_ignore_ascii_case.false ∙ t)),
      λ h. c.eq_ignore_ascii_case.ensures.test.1 (is_joined f b n g e split h).0,
    )

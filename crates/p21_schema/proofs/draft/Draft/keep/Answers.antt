use Rattle.std.proofs.Common.{◌≡◌, ◌<◌, ◌∙◌, ℕ, List, length, get_or, refl, sym}
use Rattle.std.proofs.lemmas.List.{get_or_default}
use Rattle.p21_schema.proofs.DraftLemmas.{put_made, left_made}
use Rattle.p21_schema.proofs.draft.Draft.keep.Goals as goal

is : (xs : List ℕ) (k x : ℕ) → k < length xs → x ≡ get_or xs k x → x ≡ get_or xs k 0
is xs k x less at = at ∙ get_or_default xs k x 0 less

pub returns-in_ok-push : goal.returns-in_ok-push
returns-in_ok-push c = put_made c.args.self.now _ c.args.attribute c.requires.draft c.requires.known (λ e. c.if-index-self.true (is c.args.self.now.marks.items c.args.attribute.index c.index.result.now c.requires.known c.index.ensures ∙ e)) c.in_ok-push.ensures.items refl refl

pub returns-else-index-self : goal.returns-else-index-self
returns-else-index-self c = left_made c.args.self.now _ c.args.attribute c.requires.draft c.requires.known (sym (is c.args.self.now.marks.items c.args.attribute.index c.index.result.now c.requires.known c.index.ensures) ∙ c.if-index-self.false) refl refl refl

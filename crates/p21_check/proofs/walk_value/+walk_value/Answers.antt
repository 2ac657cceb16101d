use Rattle.std.proofs.Common.{◌≡◌, ◌+◌, ◌-◌, ◌<◌, ◌≤◌, ◌^◌, ℕ, length, refl, sym, ap, subst, arith}
use Rattle.p21_text.specs.Spelling.{symbol}
use Rattle.p21_text.specs.Tokens.{placed}
use Rattle.p21_express.specs.Schema.{Expr}
use Rattle.std.specs.declared.alloc.Global.{Global}
use Rattle.p21_check.specs.Known.{IsExpr}
use Rattle.p21_check.specs.declared.leaf.Passed.{Passed}
use Rattle.p21_check.specs.Passed.{WalksElements, WalksValue}
use Rattle.p21_check.proofs.PassedLemmas.{at_some, comma_not_last, elements_first, elements_then, ok_some, value_listed}
use Rattle.p21_check.proofs.walk_value.+walk_value.Goals as goal

pub walk_list-walk_value-requires : goal.walk_list-walk_value-requires
walk_list-walk_value-requires t c =
    let takes = c.in-Some-elements_of.ensures c.requires.known.0 c.requires.known.1 in
    (omega (arith, c.in-Some.ensures), (c.requires.place, ((takes.item, takes.is), c.elements-of_elements.ensures.asked_)))

pub walk_list-walk_value-requires-in-Comma : goal.walk_list-walk_value-requires-in-Comma
walk_list-walk_value-requires-in-Comma t c =
    let takes = c.in-Some-elements_of.ensures c.requires.known.0 c.requires.known.1 in
    (omega (arith, c.in-Some.ensures), (c.next_token-lexed.ensures.within, ((takes.item, takes.is), c.elements-of_elements.ensures.asked_)))

pub walk_list-elements-init : goal.walk_list-elements-init
walk_list-elements-init t c =
    let s = c.args.schema.now in
    let els = c.in-Some-elements_of.elements in
    record {
      within = at_some _ c.in-Some-2.is c.in_ok-first.ensures.within;
      counts = at_some _ c.in-Some-2.is c.in_ok-first.ensures.counts;
      few = omega arith;
      walks = λ g e is. elements_first s els.optional e c.elements-of_elements.result c.in-Some.room c.args.text.now c.args.at c.args.into.now.items c.walk_value.new.into.items c.in-Some-2.first (at_some _ c.in-Some-2.is c.in_ok-first.ensures.walked g e is);
    }

pub walk_list-elements-smaller : goal.walk_list-elements-smaller
walk_list-elements-smaller t c =
    let on : c.next_token-lexed.result.start < c.next_token-lexed.result.after = c.next_token-lexed.ensures.advances (comma_not_last (ap symbol c.in-Comma.is)) in
    let counts = at_some _ c.in-Some-3.is c.in_ok-next-in-Comma.ensures.counts in
    let within = at_some _ c.in-Some-3.is c.in_ok-next-in-Comma.ensures.within in
    omega (arith, on, counts, within, c.next_token-lexed.ensures.behind)

pub walk_list-elements-preserved : goal.walk_list-elements-preserved
walk_list-elements-preserved t c =
    let s = c.args.schema.now in
    let els = c.in-Some-elements_of.elements in
    let on : c.next_token-lexed.result.start < c.next_token-lexed.result.after = c.next_token-lexed.ensures.advances (comma_not_last (ap symbol c.in-Comma.is)) in
    let more = at_some _ c.in-Some-3.is c.in_ok-next-in-Comma.ensures.counts in
    record {
      within = at_some _ c.in-Some-3.is c.in_ok-next-in-Comma.ensures.within;
      counts = omega (arith, on, more, c.elements.invariant.counts, c.next_token-lexed.ensures.behind);
      few = omega (arith, on, more, c.elements.invariant.few, c.next_token-lexed.ensures.behind);
      walks = λ g e is.
          elements_then s els.optional e c.elements-of_elements.result c.in-Some.room c.args.text.now c.args.at c.elements.count c.args.into.now.items c.elements.into.items c.walk_value-in-Comma.new.into.items
          (record { after = c.elements.place; written = c.elements.written }) c.in-Some-3.next (placed c.next_token-lexed.result) (c.elements.invariant.walks g e is) c.next_token-lexed.ensures.first (ap symbol c.in-Comma.is) (at_some _ c.in-Some-3.is c.in_ok-next-in-Comma.ensures.walked g e is);
    }

pub walk_list-returns-in-RParen-clause-walked : goal.walk_list-returns-in-RParen-clause-walked
walk_list-returns-in-RParen-clause-walked t c g e optional from open_ is first is_open at =
    let s = c.args.schema.now in
    let els = c.in-Some-elements_of.elements in
    let inner = c.elements-of_elements.result in
    let text = c.args.text.now in
    let left = c.args.left in
    let old = c.args.into.now.items in
    let new = c.elements.into.items in
    let r : Passed = record { after = c.elements.place; written = c.elements.written } in
    let takes = c.in-Some-elements_of.ensures e is in
    let room : c.in-Some.room ≡ left - 1 = omega (arith, c.in-Some.ensures) in
    let walks = c.elements.invariant.walks g takes.item takes.is in
    value_listed g s optional e c.args.wanted inner left text from c.elements.count old new r els open_ (placed c.next_token-lexed.result) (omega (arith, c.in-Some.ensures)) takes c.elements-of_elements.ensures (omega (arith, c.if-count-gt-MOST_ELEMENTS.false)) (c.is_count.ensures c.if-not-is_count.false) first is_open
    (subst (λ n. WalksElements s els.optional takes.item inner n text open_.after c.elements.count old new r) room (subst (λ n. WalksElements s els.optional takes.item inner c.in-Some.room text n c.elements.count old new r) (sym at) walks))
    c.next_token-lexed.ensures.first (ap symbol c.in-RParen.is)

pub walk_value-returns-in-LParen-clause-walked : goal.walk_value-returns-in-LParen-clause-walked
walk_value-returns-in-LParen-clause-walked t c =
    let s = c.args.schema.now in
    ok_some _ (λ p. (g : Global) (e : Expr) → IsExpr s c.args.texpr.now e → WalksValue s c.args.optional e c.args.wanted c.args.left c.args.text.now c.args.at c.args.into.now.items c.walk_list.new.into.items p) c.walk_list.result c.walk_list.ensures.walked
    (λ p h g e is. h g e c.args.optional c.args.at (placed c.next_token-lexed.result) is c.next_token-lexed.ensures.first (ap symbol c.in-LParen.is) refl)

pub walk_value-returns-in-Keyword-clause-walked : goal.walk_value-returns-in-Keyword-clause-walked
walk_value-returns-in-Keyword-clause-walked t c =
    let s = c.args.schema.now in
    ok_some _ (λ p. (g : Global) (e : Expr) → IsExpr s c.args.texpr.now e → WalksValue s c.args.optional e c.args.wanted c.args.left c.args.text.now c.args.at c.args.into.now.items c.walk_typed.new.into.items p) c.walk_typed.result c.walk_typed.ensures.walked
    (λ p h g e is. h g e c.args.optional c.args.at (placed c.next_token-lexed.result) is c.next_token-lexed.ensures.first (ap symbol c.in-Keyword.is) refl)

pub walk_value-returns-in_default : goal.walk_value-returns-in_default
walk_value-returns-in_default t c =
    let s = c.args.schema.now in
    record {
      walked = ok_some _ (λ p. (g : Global) (e : Expr) → IsExpr s c.args.texpr.now e → WalksValue s c.args.optional e c.args.wanted c.args.left c.args.text.now c.args.at c.args.into.now.items c.walk_leaf.new.into.items p) c.walk_leaf.result c.walk_leaf.ensures.walked
          (λ p h g e is. h c.args.text.now c.args.at c.args.left e c.next_token-lexed.ensures.first is);
      counts = ok_some _ (λ p. p.written + c.args.at ≤ p.after) c.walk_leaf.result c.walk_leaf.ensures.counts (λ p h. omega (arith, h, c.next_token-lexed.ensures.behind));
      within = ok_some _ (λ p. p.after ≤ length c.args.text.now) c.walk_leaf.result c.walk_leaf.ensures.after (λ p h. omega (arith, h, c.next_token-lexed.ensures.within));
    }

use Rattle.std.proofs.Common.{◌≡◌, ◌+◌, ◌++◌, ◌∷◌, ◌∙◌, ℕ, Global, List, [], Vec, drop, get_or, append_assoc, ap, subst, sym}
use Rattle.std.proofs.lemmas.Bool.{false≢true}
use Rattle.std.proofs.lemmas.List.{append-nil, drop_all, drop_more}
use Rattle.p21_schema.specs.declared.ids.EntityId.{EntityId}
use Rattle.p21_rules.specs.Concerned.{AreConcerned}
use Rattle.p21_rules.specs.Concerned as concerned
use Rattle.p21_rules.proofs.ConcernedLemmas.{no_wanted}
use Rattle.p21_rules.proofs.concerned.number_rules.Goals as goal
use Rattle.p21_rules.proofs.concerned.number_rules.Goals.{then-is_of+in_ok-push, else-is_of}

pub loop-number-preserved : goal.loop-number-preserved
loop-number-preserved c = λ ks named ns h.
    let s = c.args.schema.now in
    let ws = c.args.wanted.now in
    let k = c.loop-number.number in
    let w = get_or ws k no_wanted in
    let left : drop k ws ≡ w ∷ drop (k + 1) ws = drop_more ws k no_wanted c.loop-number-test.true in
    let numbers = c.loop-number.numbers.items in
    elim c.if-is_of.branch [
      | then-is_of+in_ok-push b ↦
          (let one : AreConcerned s ks k (w ∷ drop (k + 1) ws) (k ∷ ns) = concerned.listed ((c.is_of.ensures ks named).0 b.if-is_of.true) h in
          let whole = c.loop-number.invariant ks named (k ∷ ns) (subst (λ (l : List EntityId). AreConcerned s ks k l (k ∷ ns)) (sym left) one) in
          subst (λ (l : List ℕ). AreConcerned s ks 0 ws (l ++ ns)) (sym (ap (λ (v : Vec ℕ Global). v.items) b.numbers-is ∙ b.in_ok-push.ensures.items)) (subst (AreConcerned s ks 0 ws) (sym (append_assoc numbers (k ∷ []) ns)) whole))
      | else-is_of b ↦
          (let one : AreConcerned s ks k (w ∷ drop (k + 1) ws) ns = concerned.passed (λ any. false≢true (sym b.if-is_of.false ∙ (c.is_of.ensures ks named).1 any)) h in
          let whole = c.loop-number.invariant ks named ns (subst (λ (l : List EntityId). AreConcerned s ks k l ns) (sym left) one) in
          subst (λ (v : Vec ℕ Global). AreConcerned s ks 0 ws (v.items ++ ns)) (sym b.numbers-is) whole)
    ]

pub returns : goal.returns
returns c = λ ks named.
    let s = c.args.schema.now in
    let ws = c.args.wanted.now in
    let k = c.loop-number.number in
    let none : AreConcerned s ks k (drop k ws) [] = subst (λ (l : List EntityId). AreConcerned s ks k l []) (sym (drop_all k ws c.loop-number-test.false)) concerned.none in
    subst (AreConcerned s ks 0 ws) (append-nil c.loop-number.numbers.items) (c.loop-number.invariant ks named [] none)

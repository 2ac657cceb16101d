use Rattle.std.proofs.Common.{◌≡◌, ◌<◌, ◌++◌, ◌∷◌, [], ℕ, List, length, reverse, refl, sym, ap, subst, ◌∙◌, inl, rules}
use Rattle.std.proofs.lemmas.List.{get_or-map}
use Rattle.p21_express.specs.WellFormed.{IsIn}
use Rattle.p21_graph.specs.MemberLaws.{in_left, in_right}
use Rattle.p21_schema.specs.declared.ids.AttrId.{AttrId}
use Rattle.p21_schema.specs.declared.rows.Row.{Row}
use Rattle.p21_schema.specs.RowTable.{joined, rest_of, all_kept}
use Rattle.p21_schema.proofs.DraftLemmas.{all_kept_append, made_next}
use Rattle.p21_schema.proofs.SharedRowLemmas.{joined_front}
use Rattle.p21_schema.proofs.draft.Draft.keep_row.Goals as goal

-- what is taken off the end stands among the parts
taken : (old new : List ℕ) (e n : ℕ) → old ≡ new ++ e ∷ [] → ((k : ℕ) → IsIn old k → k < n) → e < n
taken old new e n is h = h e (subst (λ (u : List ℕ). IsIn u e) (sym is) (in_right new (e ∷ []) e (inl refl)))

pub bounds-rows-part : goal.bounds-rows-part
bounds-rows-part c = taken c.loop-part.parts.items c.pop.new.self.items c.in-Some.part (length c.args.rows.now) c.in-Some.ensures.items c.loop-part.invariant.within

pub offset_bounds-rows-part : goal.offset_bounds-rows-part
offset_bounds-rows-part c =
    let less : c.in-Some.part < length c.args.rows.now = taken c.loop-part.parts.items c.pop.new.self.items c.in-Some.part (length c.args.rows.now) c.in-Some.ensures.items c.loop-part.invariant.within in
    search rules

pub keep_all-requires-clause-known : goal.keep_all-requires-clause-known
keep_all-requires-clause-known c = λ a i.
    let part = c.in-Some.part in
    let less : part < length c.args.rows.now = taken c.loop-part.parts.items c.pop.new.self.items part (length c.args.rows.now) c.in-Some.ensures.items c.loop-part.invariant.within in
    let rest : rest_of c.args.rows.now part ≡ c.deref.result.now = get_or-map (λ (r : Row). r.rest.items) c.args.rows.now part c.index-rows-part.result [] less ∙ sym c.deref.ensures.value in
    subst (λ u. a.index < u) (sym c.loop-part.invariant.made.count) (c.requires.known part a (subst (λ (u : List AttrId). IsIn u a) (sym rest) i))

pub loop-part-preserved : goal.loop-part-preserved
loop-part-preserved c =
    let rows = c.args.rows.now in
    let part = c.in-Some.part in
    let inv = c.loop-part.invariant in
    let less : part < length rows = taken c.loop-part.parts.items c.pop.new.self.items part (length rows) c.in-Some.ensures.items inv.within in
    let this = c.in_ok-keep_all.ensures in
    let row : rest_of rows part ≡ c.deref.result.now = get_or-map (λ (r : Row). r.rest.items) rows part c.index-rows-part.result [] less ∙ sym c.deref.ensures.value in
    record {
      made = made_next _ _ c.loop-part.self.ids.items _ (λ r. all_kept r c.deref.result.now) c.loop-part.self c.keep_all.new.self inv.made c.in_ok-keep_all.ensures (sym this.ids);
      within = λ e i. inv.within e (subst (λ (u : List ℕ). IsIn u e) (sym c.in-Some.ensures.items) (in_left c.pop.new.self.items (part ∷ []) e i));
      left = λ all t.
          let rests = rest_of rows in
          let ids = c.loop-part.self.ids.items in
          let others = joined rests (reverse c.pop.new.self.items) in
          let next : joined rests (reverse c.loop-part.parts.items) ≡ rests part ++ others = ap (λ (u : List ℕ). joined rests (reverse u)) c.in-Some.ensures.items ∙ joined_front rests c.pop.new.self.items part in
          ap (λ (u : List AttrId). all_kept u others) (this.ids ∙ ap (λ (u : List AttrId). all_kept ids u) (sym row)) ∙ sym (all_kept_append ids (rests part) others) ∙ ap (λ (u : List AttrId). all_kept ids u) (sym next) ∙ inv.left all t;
    }

use Rattle.std.proofs.Common.{◌≡◌, ◌-◌, ◌++◌, ◌∷◌, ℕ, List, [], Some, true, length, refl, sym, ap, subst, ◌∙◌}
use Rattle.p21_schema.specs.declared.ids.AttrId.{AttrId}
use Rattle.p21_schema.specs.declared.draft.Draft.{Draft}
use Rattle.p21_schema.specs.Draft.{IsMade}
use Rattle.p21_schema.specs.RowTable.{joined, row_of, all_kept, ids_from}
use Rattle.p21_schema.proofs.DraftLemmas.{all_kept_append, made_next, goes_on, made_of}
use Rattle.p21_schema.proofs.draft.Draft.fill.Goals as goal
use Rattle.p21_schema.proofs.draft.Draft.fill.Goals.{then-not-is_of+in_ok-keep_rows, else-not-is_of}

pub returns-clause-made : goal.returns-clause-made
returns-clause-made c = λ all t whole.
    let old = c.if-not-is_of.self in
    let new = c.keep_own.new.self in
    let size = length c.args.self.now.marks.items in
    let own = ids_from c.args.own.from (c.args.own.to - c.args.own.from) in
    let this = c.in_ok-keep_own.ensures in
    elim c.if-not-is_of.branch [
      | then-not-is_of+in_ok-keep_rows w ↦
          let rows = all_kept [] (joined (row_of all) c.args.supertypes.now) in
          let made : IsMade size c.args.number rows old = subst (λ (d : Draft). IsMade size c.args.number rows d) (sym w.self-is) (w.in_ok-keep_rows.ensures all t) in
          made_of size c.args.number _ new (Some c.args.entity) (made_next size c.args.number rows _ (λ r. all_kept r own) old new made this (sym (all_kept_append [] (joined (row_of all) c.args.supertypes.now) own)))
      | else-not-is_of w ↦
          let one = w.if-not-is_of.ensures refl in
          let only = whole one.0 one.1.0 in
          let ids : all_kept old.ids.items own ≡ all_kept [] (joined (row_of all) c.args.supertypes.now ++ own) =
          ap (λ (d : Draft). all_kept d.ids.items own) w.self-is ∙ ap (λ (u : List AttrId). all_kept u own) only.0 ∙ goes_on all one.0 own only.1 ∙ ap (λ (u : List ℕ). all_kept [] (joined (row_of all) u ++ own)) (sym one.1.1) in
          let made : IsMade size old.number (all_kept [] (joined (row_of all) c.args.supertypes.now ++ own)) new = subst (λ (d : Draft). IsMade (length d.marks.items) old.number (all_kept [] (joined (row_of all) c.args.supertypes.now ++ own)) new) w.self-is (subst (λ (u : List AttrId). IsMade (length old.marks.items) old.number u new) ids this) in
          made_of size old.number _ new (Some c.args.entity) made
    ]

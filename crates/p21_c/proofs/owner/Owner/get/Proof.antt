-- `get` returns `None` at null, and else a `&mut` to what C gives up.
use Rattle.std.proofs.Common.{List, [], ◌∷◌, refl, lit<}
use Rattle.std.proofs.raw_atomic.Walks.{proved}
use seplogic.Ra.Ura.{Ura}
use mir.Val.{Val, vptr, vstruct, vcons, vnil, of_list}
use base.Fraction.{full_share}
use base.Logic.{SProp, ent}
use base.Fml.{ftrue, fsep, fauth}
use prog.Memory.{Memory}
use prog.Routine.{Routine}
use prog.Wp.{Calls, Loops, WpFn}
use types.Logic.{Logic, sem}
use contract.Monad.{Fun}
use contract.Running.{tables}
use types.Kit.{‵, ◌⊛◌, at_ret, ◌$◌, ◌∵◌, !, qed, by, move, keep, drop, use0, use1, split, join, fsplit, fjoin, fjoin3, fpack, feq_i, suffices, done}
use types.Match.{live}
use types.Part.{agg, sub, whole}
use types.Run.{bin, lit, addr, stop, fld, of_opd, and_then, no_more, first, blocks, skips, branches, exec, returns, returns_within, enter}
use types.Tokens.{name_new, bor_new}
use types.ByLocal.{alloc_all, pass_all, free_all, look_at, get, get_in, through, sets, sets_last, env}
use denote.Builtin.{RefMutOf}
use denote.Exit.{yes}
use denote.Memory.{mem}
use denote.RattleType.{RattleType, owns}
use denote.RawPtr.{Ptr, block_ptr, null_ptr, ptr_val, Testable, lies_at, tests_null}
use denote.Ref.{MutBor}
use denote.Signature.{plain, type_at}
use denote.Steps.{nothing}
use denote.Triple.Walked.{says, Stays, stay_dropped, walk_of, ends_at, Goes-dropped}
use Rattle.std.specs.declared.option.Option.TheVariants.{None, Some}
use Rattle.std.specs.contracts.option.Option as option
use Rattle.std.proofs.option.Made.{Some-of, none_of}
use Rattle.p21_c.specs.Lent.{given}
use Rattle.p21_c.specs.declared.owner.Owner.{Owner}
use Rattle.p21_c.specs.contracts.owner.Owner as owner
use Rattle.p21_c.specs.contracts.owner.Owner.get as f
use Rattle.p21_c.specs.contracts.held.Held as held
use Rattle.p21_c.proofs.owner.Owner.TheLaws.{lowers}
use Rattle.p21_c.proofs.owner.Owner.get.Statement.{statement}
use Rattle.p21_c.proofs.owner.Owner.get.Code as code

abbrev stayed : Stays f.ended.signature.params f.ended.kept
stayed = (stay_dropped (plain (λ _. owner.the_row)) yes, tt)

abbrev R : RattleType
R = held.the_row

abbrev Lent : RattleType
Lent = type_at {n = 0} (RefMutOf [] tt (plain (λ _. R)) (λ _. tt)) tt

abbrev word : Ptr → Val
word p = vstruct (vcons (ptr_val p) vnil)

module _ {M : Type 1} {𝓤 : Ura M} (𝓛 : Logic 𝓤) (at_mem : Memory → SProp 𝓤) (run : Routine → Fun 𝓤) (C : Calls 𝓤 𝓛.H) (Λ : Loops 𝓤 𝓛.H) (d : Owner) where
  abbrev bound : (walk_of 𝓛 f.ended stayed (f.clauses 𝓛 at_mem run)).Ghost
  bound = ((tt, tt, tt, (d, tt), (word d.at ∷ [], tt)), tt)

  abbrev Post : Val → SProp 𝓤
  Post = (walk_of 𝓛 f.ended stayed (f.clauses 𝓛 at_mem run)).post bound

  at : (p : Ptr) → Testable p → ent 𝓤 (sem 𝓛 (given R p d.held)) (WpFn 𝓤 𝓛.H C Λ code.function (word p ∷ []) Post)
  at null_ptr may =
      qed 𝓛 (‵ ftrue ∷ []) ∵ drop ! $ enter ! C Λ code.function (word null_ptr ∷ []) _ $ alloc_all ! (λ l. pass_all ! refl ((tt, (record { fits = lit< tt }, tt)), tt) $
      sets ! (of_opd ! (get_in ! (fld ! refl (stop !)) (sub ! 0 refl (whole !)))) refl (tt, record { fits = lit< tt }) $
      sets ! (of_opd ! (get ! refl)) refl (tt, record { fits = lit< tt }) $
      sets ! (bin ! (get ! refl) (lit ! tt) (tests_null null_ptr may)) refl (tt, tt) $
      first ! $ branches ! (get ! refl)
      (λ t. sets ! (agg ! (and_then ! (lit ! tt) (no_more !))) refl (tt, (record { fits = lit< tt }, tt)) $
      returns_within ! Post refl (look_at ! 0 refl) $ free_all ! refl $
      use0 𝓛 (‵ ((option.the_row Lent).own_val None (live 0 (of_list []) ∷ []))) (none_of 𝓛 Lent) $
      suffices ! _ (ends_at 𝓛 f.ended stayed (f.clauses 𝓛 at_mem run) bound (live 0 (of_list [])) None (tt, tt) (tt, tt)) $ says ! tt $
      nothing ! $ nothing ! $ join ! $ nothing ! $ done !)
      (λ t. absurd t))
  at (block_ptr b o) may =
      let v : Val = vptr b o in
      qed 𝓛 (‵ (lies_at R full_share (block_ptr b o) d.held) ∷ []) ∵ enter ! C Λ code.function (word (block_ptr b o) ∷ []) _ $ alloc_all ! (λ l. pass_all ! refl ((tt, (tt, tt)), tt) $
      name_new ! tt (R.coded.code d.held) (λ γ. move ! (2 ∷ 1 ∷ []) $ fjoin ! $ fpack ! R.Denot (λ y. fsep ((mem R).own_at y b o) (fauth γ (R.coded.code y))) d.held $ bor_new ! tt [] $ move ! (1 ∷ []) $ drop ! $
      move ! (1 ∷ 0 ∷ []) $ feq_i ! (List Val) (v ∷ []) (v ∷ []) refl $ fjoin3 ! $
      let r : MutBor R.Denot = record { ref_ptr = (b, o); ghost_name = γ; now = d.held } in
      use1 𝓛 (‵ ((option.the_row Lent).own_val (Some r) (live 1 (of_list (v ∷ [])) ∷ []))) (Some-of 𝓛 Lent r v) $
      sets ! (of_opd ! (get_in ! (fld ! refl (stop !)) (sub ! 0 refl (whole !)))) refl (tt, tt) $
      sets ! (of_opd ! (get ! refl)) refl (tt, tt) $
      sets ! (bin ! (get ! refl) (lit ! tt) (tests_null (block_ptr b o) may)) refl (tt, tt) $
      first ! $ branches ! (get ! refl) (λ t. absurd t)
      (λ t. skips ! $ exec ! C Λ (env (code.function).locals l) code.Mir.t-5 (at_ret (env (code.function).locals l) Post) $
      first ! $ blocks ! $ sets ! (of_opd ! (get ! refl)) refl (tt, tt) $ sets ! (of_opd ! (get ! refl)) refl (tt, tt) $
      sets_last ! (addr ! (through ! refl (stop !))) refl (tt, tt) $
      exec ! C Λ (env (code.function).locals l) code.Mir.t-6 (at_ret (env (code.function).locals l) Post) $
      sets ! (of_opd ! (get ! refl)) refl (tt, tt) $
      sets ! (agg ! (and_then ! (lit ! tt) (and_then ! (get ! refl) (no_more !)))) refl (tt, (record { fits = lit< tt }, (tt, tt))) $
      returns ! (look_at ! 0 refl) $ free_all ! refl $
      suffices ! _ (ends_at 𝓛 f.ended stayed (f.clauses 𝓛 at_mem run) bound (live 1 (of_list (v ∷ []))) (Some r) (tt, tt) (tt, tt)) $ says ! refl $
      nothing ! $ nothing ! $ join ! $ nothing ! $ done !)))

pub get_spec : {M : Type 1} → statement M
get_spec 𝓤 𝓛 𝓜 𝓡 wired =
    let 𝓣 = tables 𝓤 𝓛.H 𝓜 𝓡 𝓡.env in
    proved 𝓛 f.ended stayed (f.clauses 𝓛 𝓜.mem 𝓡.returns) 𝓜 𝓡 (Goes-dropped 𝓛 0 (plain (λ _. owner.the_row)) yes (λ κs x w. refl), tt)
    f.Key.name code.function (code.unfolded 𝓤 𝓛.H 𝓜 𝓡 wired)
    (λ κs. ((λ d. word d.at ∷ []), tt)) (λ κs. (lowers.val_is, tt)) (λ κs qs bounds a g are.
    qed 𝓛 ((‵ ftrue ⊛ ‵ (owns (owner.the_row ∷ []) a (word a.0.at ∷ [], tt))) ∷ ‵ ftrue ∷ []) ∵ split ! $ drop ! $ fsplit ! $ fsplit ! $ keep ! (1 ∷ []) $
    by ! (at 𝓛 𝓜.mem 𝓡.returns 𝓣.C 𝓣.Λ a.0 a.0.at a.0.comparable))

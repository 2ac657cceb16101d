-- The result has no bytes, so its ghost field may be any value.
use Rattle.std.proofs.Common.{[], ◌∷◌, refl}
use Rattle.std.proofs.raw_atomic.Walks.{proved}
use base.Fml.{Fml}
use mir.Syntax.{named}
use mir.Val.{Val, vstruct, vcons, vnil}
use types.Kit.{‵, raw, ◌⊛◌, ◌$◌, ◌∵◌, !, qed, move, keep, split, join, fjoin, use0, suffices, done}
use types.Part.{agg}
use types.Run.{no_more, and_then, returns, enter}
use types.ByLocal.{alloc_all, pass_all, free_all, look_at, get, sets}
use denote.Builtin.{RefOf}
use denote.Exit.{yes}
use denote.RattleType.{RattleType, owns}
use denote.Ref.{shr_vals, shr_Tells}
use denote.Shadow.{makes_shadow}
use denote.Signature.{Slot, named_lft, plain, types_at, type_at}
use denote.Steps.{nothing, heard}
use denote.Triple.Entry.{Res, alive}
use denote.Triple.Walked.{says, Stays, stay_dropped, walk_of, ends_at, Goes-dropped}
use Rattle.p21_outline.specs.contracts.walked.Found as found
use Rattle.p21_outline.specs.contracts.walked.passed as f
use Rattle.p21_outline.proofs.walked.passed.Statement.{statement}
use Rattle.p21_outline.proofs.walked.passed.Code as code

abbrev slot : Slot f.ended.signature.lifetimes
slot = RefOf (0 ∷ []) tt (plain (λ κs. found.the_row (named_lft 4 1 tt κs) (named_lft 4 2 tt κs))) (λ κs. tt)

abbrev stayed : Stays f.ended.signature.params f.ended.kept
stayed = (stay_dropped slot yes, tt)

pub passed_spec : {M : Type 1} → statement M
passed_spec 𝓤 𝓛 𝓜 𝓡 wired =
    let c = f.clauses 𝓛 𝓜.mem 𝓡.returns in let W = walk_of 𝓛 f.ended stayed c in
    proved 𝓛 f.ended stayed c 𝓜 𝓡 (Goes-dropped 𝓛 4 slot yes (λ κs x w. refl), tt)
    f.Key.name code.function (code.unfolded 𝓤 𝓛.H 𝓜 𝓡 wired)
    (λ κs. (shr_vals, tt)) (λ κs. (shr_Tells (named 0) κs.0 (found.the_row (named_lft 4 1 tt κs) (named_lft 4 2 tt κs)), tt)) (λ κs qs bounds a n are.
    let v : Val = vstruct (vcons (vstruct vnil) vnil) in
    let y : W.Ghost = ((κs, qs, bounds, a, (shr_vals a.0, tt)), n) in
    qed 𝓛 ((raw (alive 𝓛 f.ended.signature κs qs) ⊛ ‵ (owns (types_at f.ended.signature.params κs) a (shr_vals a.0, tt))) ∷ raw ((c κs a).requires n) ∷ []) ∵ move ! (1 ∷ []) $ heard ! _ (λ there.
    let r : Res f.ended.signature κs = record { marker = record {}; value = there.0 } in
    let O : Fml = (type_at f.ended.signature.result κs).own_val r (v ∷ []) in
    split ! $ keep ! (0 ∷ []) $
    enter ! _ _ _ _ _ $ alloc_all ! (λ l. pass_all ! refl ((tt, tt), tt) $
    sets ! (agg ! (no_more !)) refl (tt, tt) $ sets ! (agg ! (and_then ! (get ! refl) (no_more !))) refl (tt, (tt, tt)) $
    returns ! (look_at ! 0 refl) $ free_all ! refl $
    use0 𝓛 (‵ O) (makes_shadow 𝓛 O ((λ vss. (tt, ((λ uss. (tt, tt)), tt))), tt) (((vstruct vnil ∷ [], tt), (refl, ((tt, (refl, tt)), tt))), tt)) $
    suffices ! _ (ends_at 𝓛 f.ended stayed c y v r (tt, tt) (tt, tt)) $ says ! there.1 $
    nothing ! $ nothing ! $ fjoin ! $ join ! $ move ! (1 ∷ 0 ∷ []) $ join ! $ done !)))

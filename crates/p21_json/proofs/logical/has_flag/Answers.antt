use Rattle.std.proofs.Common.{◌≡◌, ℕ, true, false, get_or, subst, sym}
use Rattle.std.proofs.lemmas.Bool.{false≢true}
use Rattle.p21_json.proofs.FlagLemmas.{flag_at, flag_of_type}
use Rattle.p21_json.proofs.logical.has_flag.Goals as goal

pub returns-in-Some : goal.returns-in-Some
returns-in-Some c = (
  λ f. record {
    place = c.in-Some.id.index;
    below = c.in-Some.ensures.0;
    named = c.in-Some.ensures.1;
    flagged = subst (λ (k : ℕ). get_or c.args.flags.now k false ≡ true) c.place.ensures f;
  },
  λ h. subst (λ (k : ℕ). get_or c.args.flags.now k false ≡ true) (sym c.place.ensures)
      (flag_at c.args.schema.now c.args.flags.now c.args.name.now c.in-Some.id c.one_id.ensures.types c.in-Some.ensures.0 c.in-Some.ensures.1 h),
)

pub returns-in-None : goal.returns-in-None
returns-in-None c = (λ f. absurd (false≢true f), λ h. absurd (c.in-None.ensures (flag_of_type c.args.schema.now c.args.flags.now c.args.name.now h)))

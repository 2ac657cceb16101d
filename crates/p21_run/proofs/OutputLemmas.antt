-- What some calls of `write` took is a front of the text.
use Rattle.std.proofs.Common.{◌≡◌, ℕ, ◌+◌, ◌-◌, ◌≤◌, Bool, false, ◌||◌, List, ◌++◌, Option, Result, Ok, Err, length, take, drop, arith, refl, sym, ap, subst, ◌∙◌}
use Rattle.std.proofs.Math.Seq.{take-add}
use Rattle.std.proofs.lemmas.List.{drop-drop, length-drop, take_all}
use Rattle.std.proofs.lemmas.Bool.Decides.{nat_tests}
use Rattle.std.specs.Io.KnownBytes.{WriteAppends, Appends}
use Rattle.std.proofs.KnownBytes.{Appends-nil, Appends-trans, Appends-kept}
use Rattle.p21_run.specs.Marks.{is_fault_or_nothing}

-- all of the text but the rest was taken
pub record IsWritten (a b : Option (List ℕ)) (text rest : List ℕ) : Type 0 where
  pub count : ℕ
  pub within : count ≤ length text
  pub rest_is : rest ≡ drop count text
  pub taken : Appends a b (take count text)

pub written_none : (a : Option (List ℕ)) (text : List ℕ) → IsWritten a a text text
written_none a text = record { count = 0; within = omega (arith); rest_is = refl; taken = Appends-nil a }

module _ {E : Type 0} where
  pub written_more : (a b c : Option (List ℕ)) (r : Result ℕ E) (n : ℕ) (text rest : List ℕ) → IsWritten a b text rest → WriteAppends b c r rest → r ≡ Ok n → n ≤ length rest → IsWritten a c text (drop n rest)
  written_more a b c r n text rest w appends is le =
      let len : length rest ≡ length text - w.count = ap length w.rest_is ∙ length-drop w.count text in
      let whole : take (w.count + n) text ≡ take w.count text ++ take n (drop w.count text) = take-add w.count n text in
      record {
        count = w.count + n;
        within = omega (arith, len, le, w.within);
        rest_is = ap (drop n) w.rest_is ∙ drop-drop n w.count text;
        taken = subst (Appends a c) (sym (whole ∙ ap (λ l. take w.count text ++ take n l) (sym w.rest_is))) (Appends-trans a b c (take w.count text) (take n rest) w.taken (subst (λ x. WriteAppends b c x rest) is appends));
      }

  pub written_again : (a b c : Option (List ℕ)) (r : Result ℕ E) (e : E) (text rest : List ℕ) → IsWritten a b text rest → WriteAppends b c r rest → r ≡ Err e → IsWritten a c text rest
  written_again a b c r e text rest w appends is = record { count = w.count; within = w.within; rest_is = w.rest_is; taken = Appends-kept a b c (take w.count text) w.taken (subst (λ x. WriteAppends b c x rest) is appends) }

  -- a call that set no mark took a byte of some
  pub unmarked_write : (old new : Bool) (r : Result ℕ E) (n : ℕ) (from : List ℕ) → new ≡ (old || is_fault_or_nothing r from) → new ≡ false → r ≡ Ok n → ¬ (length from ≡ 0) → 1 ≤ n
  unmarked_write old new r n from is unset ok some = grind (arith, nat_tests)

pub written_whole : (a b : Option (List ℕ)) (text rest : List ℕ) → IsWritten a b text rest → length rest ≡ 0 → Appends a b text
written_whole a b text rest w none_left =
    let len : length rest ≡ length text - w.count = ap length w.rest_is ∙ length-drop w.count text in
    subst (Appends a b) (take_all w.count text (omega (arith, len, none_left, w.within))) w.taken

-- What each clause says of a run whose task is a check.
use Rattle.std.proofs.Common.{◌≡◌, ◌<◌, ◌≤◌, ◌⊎◌, inl, inr, ℕ, Bool, true, false, List, Option, None, Some, length, refl, sym, ap, subst, ◌∙◌, arith}
use Rattle.std.specs.Io.KnownBytes.{IsAtEnd, Keeps}
use Rattle.std.proofs.lemmas.Bool.{false≢true}
use Rattle.p21_express.specs.Answer.{HasNoReading}
use Rattle.p21_express.specs.Reading.{IsReading}
use Rattle.p21_express.specs.Schema.{Schema}
use Rattle.p21_schema.specs.Rules.{with_rules}
use Rattle.p21_schema.specs.declared.rules.Rules.{Rules}
use Rattle.p21_run.specs.Check.{check}
use Rattle.p21_run.specs.Due.{IsDue, IsLong, IsLongText, IsRefusal, IsReport, Writes, most_calls, most_file_bytes, most_schema_bytes}
use Rattle.p21_run.specs.Run.{Change, IsAnswered, IsBegun, IsRead, IsRefused, IsRun, IsSame, IsStopped, IsTold, IsUnread, outcome_without}
use Rattle.p21_run.specs.declared.outcome.Outcome.{Outcome}
use Rattle.p21_run.specs.declared.outcome.Outcome.TheVariants.{Complete, Faulty, SchemaRefused, Device, Memory}
use Rattle.p21_run.proofs.DueLemmas.{of_some, report_due, written}

-- it gives up by one of these
abbrev IsLost : Outcome → Type 0
IsLost o = (o ≡ Device) ⊎ (o ≡ Memory)

not_both : (o : Outcome) {P : Type 0} → IsLost o → (o ≡ Complete) ⊎ ((o ≡ Faulty) ⊎ (o ≡ SchemaRefused)) → P
not_both o (inl d) (inl c) = cc
not_both o (inr m) (inl c) = cc
not_both o (inl d) (inr (inl f)) = cc
not_both o (inr m) (inr (inl f)) = cc
not_both o (inl d) (inr (inr r)) = cc
not_both o (inr m) (inr (inr r)) = cc

of_file_too : {o : Outcome} → (o ≡ Complete) ⊎ (o ≡ Faulty) → (o ≡ Complete) ⊎ ((o ≡ Faulty) ⊎ (o ≡ SchemaRefused))
of_file_too (inl c) = inl c
of_file_too (inr f) = inr (inl f)

refused_not_of_file : (o : Outcome) {P : Type 0} → o ≡ SchemaRefused → (o ≡ Complete) ⊎ (o ≡ Faulty) → P
refused_not_of_file o r (inl c) = cc
refused_not_of_file o r (inr f) = cc

of_file_not_device : (due o : Outcome) {P : Type 0} → (due ≡ Complete) ⊎ (due ≡ Faulty) → o ≡ due → o ≡ Device → P
of_file_not_device due o (inl c) e d = cc
of_file_not_device due o (inr f) e d = cc

refused_not_device : (o : Outcome) {P : Type 0} → o ≡ SchemaRefused → o ≡ Device → P
refused_not_device o r d = cc

memory_not_device : (o : Outcome) {P : Type 0} → o ≡ Memory → o ≡ Device → P
memory_not_device o m d = cc

kept : (known : Option (List ℕ)) → Keeps known known
kept None = tt
kept (Some bytes) = refl

keeps : {X : Type 0} (out : Change X) → IsSame out → Keeps (out.bytes out.old) (out.bytes out.new)
keeps out same = subst (λ x. Keeps (out.bytes out.old) (out.bytes x)) (sym same) (kept (out.bytes out.old))

same_failed : {X : Type 0} {P : Type 0} (c : Change X) → IsSame c → c.failed c.old ≡ false → c.failed c.new ≡ true → P
same_failed c same was is = absurd (false≢true (sym was ∙ ap c.failed (sym same) ∙ is))

bytes_are : {X : Type 0} {input : Change X} {most : ℕ} {bytes : List ℕ} (all : List ℕ) → IsRead input most bytes → input.bytes input.old ≡ Some all → bytes ≡ all
bytes_are {X} {input} {most} {bytes} all read is = of_some (input.bytes input.old) all (λ x. bytes ≡ x) read.whole is

within : {X : Type 0} {input : Change X} {most : ℕ} {bytes : List ℕ} (all : List ℕ) → IsRead input most bytes → input.bytes input.old ≡ Some all → length all ≤ most
within {X} {input} {most} all read is = subst (λ x. length x ≤ most) (bytes_are all read is) read.bounded

overlong : {X : Type 0} {P : Type 0} {input : Change X} {most : ℕ} {bytes : List ℕ} (all : List ℕ) → IsRead input most bytes → input.bytes input.old ≡ Some all → most < length all → P
overlong all read is long = let bound = within all read is in absurd (omega (arith, bound, long))

-- what is due with an outcome, and told

refusal_due : (all : Bool) (rules : Rules) (schema_text line whole file : List ℕ) → IsRefused (check all).refuses rules schema_text line → schema_text ≡ whole → IsDue all rules whole file SchemaRefused line
refusal_due all rules schema_text line whole file (IsRefused.of_text refusal) is = subst (λ x. IsRefusal x line) is refusal
refusal_due all rules schema_text line whole file (IsRefused.of_schema s fault reading refuses told) is = absurd refuses

undeclared : {P : Type 0} (all : Bool) (rules : Rules) (schema_text line whole : List ℕ) (s : Schema) → IsRefused (check all).refuses rules schema_text line → schema_text ≡ whole → IsReading whole s → P
undeclared all rules schema_text line whole s (IsRefused.of_text refusal) is reading = absurd (refusal.declares_nothing s (subst (λ x. IsReading x s) (sym is) reading))
undeclared all rules schema_text line whole s (IsRefused.of_schema d fault declared refuses told) is reading = absurd refuses

answer_due : {S F : Type 0} (all : Bool) (rules : Rules) (schema : Change S) (file : Change F) (s : Schema) (schema_text bytes st fl line : List ℕ) (due : Outcome) → IsBegun rules schema file s schema_text bytes → IsReport all s bytes due line → schema.bytes schema.old ≡ Some st → file.bytes file.old ≡ Some fl → IsDue all rules st fl due line
answer_due all rules schema file s schema_text bytes st fl line due begun report is is_file =
    report_due all rules begun.declared st fl line due (subst (λ x. IsReading x begun.declared) (bytes_are st begun.schema_read is) begun.reading)
    (subst (λ x. IsReport all x fl due line) begun.under (subst (λ x. IsReport all s x due line) (bytes_are fl begun.file_read is_file) report))

writes_nothing : {K : Type 0} (all : Bool) (rules : Rules) (schema_text file : List ℕ) (o : Outcome) (out : Change K) → IsLost o → IsSame out → Writes all rules schema_text file o (out.bytes out.old) (out.bytes out.new)
writes_nothing all rules schema_text file o out (inl d) same = subst (λ x. Writes all rules schema_text file x (out.bytes out.old) (out.bytes out.new)) (sym d) (inl (keeps out same))
writes_nothing all rules schema_text file o out (inr m) same = subst (λ x. Writes all rules schema_text file x (out.bytes out.old) (out.bytes out.new)) (sym m) (keeps out same)

writes_told : {K : Type 0} (all : Bool) (rules : Rules) (schema_text file line : List ℕ) (due o : Outcome) (out : Change K) → IsDue all rules schema_text file due line → IsTold out line due o → Writes all rules schema_text file o (out.bytes out.old) (out.bytes out.new)
writes_told all rules schema_text file line due o out is_due (IsTold.whole is appends unfailed none) = subst (λ x. Writes all rules schema_text file x (out.bytes out.old) (out.bytes out.new)) (sym is) (written all rules schema_text file line due (out.bytes out.old) (out.bytes out.new) is_due appends)
writes_told all rules schema_text file line due o out is_due (IsTold.front n is appends cause) = subst (λ x. Writes all rules schema_text file x (out.bytes out.old) (out.bytes out.new)) (sym is) (inr (due, line, n, is_due, appends))

told_failed : {K : Type 0} {line : List ℕ} {due : Outcome} (o : Outcome) (out : Change K) → IsTold out line due o → out.failed out.old ≡ false → out.failed out.new ≡ true → o ≡ Device
told_failed o out (IsTold.whole is appends unfailed none) was fails = absurd (false≢true (sym was ∙ sym unfailed ∙ fails))
told_failed o out (IsTold.front n is appends cause) was fails = is

-- a text that is told, with an outcome that is not Device where it is whole, is long for Device
told_long : {K : Type 0} (all : Bool) (rules : Rules) (schema_text file line : List ℕ) (due o : Outcome) (out : Change K) → IsDue all rules schema_text file due line → (o ≡ due → o ≡ Device → ⊥) → IsTold out line due o → o ≡ Device → out.marked out.new ≡ false → IsLongText all rules schema_text file
told_long all rules schema_text file line due o out is_due other (IsTold.whole is appends unfailed none) d unmarked = absurd (other is d)
told_long all rules schema_text file line due o out is_due other (IsTold.front n is appends cause) d unmarked = (due, line, is_due, cause unmarked)

module _ {S F K : Type 0} (all : Bool) (rules : Rules) (schema : Change S) (file : Change F) (out : Change K) (o : Outcome) where
  abbrev IsCheck : Type 0
  IsCheck = IsRun (check all) rules schema file tt tt out o

  pub run_written : IsCheck → (st fl : List ℕ) → schema.bytes schema.old ≡ Some st → file.bytes file.old ≡ Some fl → Writes all rules st fl o (out.bytes out.old) (out.bytes out.new)
  run_written (IsRun.stopped (IsStopped.unread not f t) w) st fl s l = writes_nothing all rules st fl o out not.ends t
  run_written (IsRun.stopped (IsStopped.refused text line read refused told f) w) st fl s l = writes_told all rules st fl line SchemaRefused o out (refusal_due all rules text line st fl refused (bytes_are st read s)) told
  run_written (IsRun.stopped (IsStopped.untold text read memory f t) w) st fl s l = writes_nothing all rules st fl o out (inr memory) t
  run_written (IsRun.stopped (IsStopped.file_unread text d read reading not t) w) st fl s l = writes_nothing all rules st fl o out not.ends t
  run_written (IsRun.begun d text bytes b (IsAnswered.answered due line report of told)) st fl s l = writes_told all rules st fl line due o out (answer_due all rules schema file d text bytes st fl line due b report s l) told
  run_written (IsRun.begun d text bytes b (IsAnswered.given_up cause memory is t)) st fl s l = writes_nothing all rules st fl o out (inr (is ∙ ap outcome_without memory)) t

  pub run_schema_bounded : IsCheck → (o ≡ Complete) ⊎ ((o ≡ Faulty) ⊎ (o ≡ SchemaRefused)) → (st : List ℕ) → schema.bytes schema.old ≡ Some st → length st ≤ most_schema_bytes
  run_schema_bounded (IsRun.stopped (IsStopped.unread not f t) w) ends st s = not_both o not.ends ends
  run_schema_bounded (IsRun.stopped (IsStopped.refused text line read refused told f) w) ends st s = within st read s
  run_schema_bounded (IsRun.stopped (IsStopped.untold text read memory f t) w) ends st s = within st read s
  run_schema_bounded (IsRun.stopped (IsStopped.file_unread text d read reading not t) w) ends st s = within st read s
  run_schema_bounded (IsRun.begun d text bytes b answered) ends st s = within st b.schema_read s

  pub run_file_bounded : IsCheck → (o ≡ Complete) ⊎ (o ≡ Faulty) → (fl : List ℕ) → file.bytes file.old ≡ Some fl → length fl ≤ most_file_bytes
  run_file_bounded (IsRun.stopped (IsStopped.unread not f t) w) ends fl l = not_both o not.ends (of_file_too ends)
  run_file_bounded (IsRun.stopped (IsStopped.refused text line read refused (IsTold.whole is appends unfailed none) f) w) ends fl l = refused_not_of_file o is ends
  run_file_bounded (IsRun.stopped (IsStopped.refused text line read refused (IsTold.front n is appends cause) f) w) ends fl l = not_both o (inl is) (of_file_too ends)
  run_file_bounded (IsRun.stopped (IsStopped.untold text read memory f t) w) ends fl l = not_both o (inr memory) (of_file_too ends)
  run_file_bounded (IsRun.stopped (IsStopped.file_unread text d read reading not t) w) ends fl l = not_both o not.ends (of_file_too ends)
  run_file_bounded (IsRun.begun d text bytes b answered) ends fl l = within fl b.file_read l

  pub run_unread : IsCheck → (st : List ℕ) → schema.bytes schema.old ≡ Some st → HasNoReading st ⊎ (most_schema_bytes < length st) → file.new ≡ file.old
  run_unread (IsRun.stopped (IsStopped.unread not f t) w) st s bad = f
  run_unread (IsRun.stopped (IsStopped.refused text line read refused told f) w) st s bad = f
  run_unread (IsRun.stopped (IsStopped.untold text read memory f t) w) st s bad = f
  run_unread (IsRun.stopped (IsStopped.file_unread text d read reading not t) w) st s (inl none) = absurd (none d (subst (λ x. IsReading x d) (bytes_are st read s) reading))
  run_unread (IsRun.stopped (IsStopped.file_unread text d read reading not t) w) st s (inr long) = overlong st read s long
  run_unread (IsRun.begun d text bytes b answered) st s (inl none) = absurd (none b.declared (subst (λ x. IsReading x b.declared) (bytes_are st b.schema_read s) b.reading))
  run_unread (IsRun.begun d text bytes b answered) st s (inr long) = overlong st b.schema_read s long

  -- what keeps a schema from being read whole
  schema_unread : IsCheck → ((text : List ℕ) → IsRead schema most_schema_bytes text → ⊥) → IsUnread schema o × (file.new ≡ file.old) × (out.new ≡ out.old)
  schema_unread (IsRun.stopped (IsStopped.unread not f t) w) bad = (not, f, t)
  schema_unread (IsRun.stopped (IsStopped.refused text line read refused told f) w) bad = absurd (bad text read)
  schema_unread (IsRun.stopped (IsStopped.untold text read memory f t) w) bad = absurd (bad text read)
  schema_unread (IsRun.stopped (IsStopped.file_unread text d read reading not t) w) bad = absurd (bad text read)
  schema_unread (IsRun.begun d text bytes b answered) bad = absurd (bad text b.schema_read)

  pub run_overlong_schema : IsCheck → (st : List ℕ) → schema.bytes schema.old ≡ Some st → most_schema_bytes < length st → IsLost o × (out.new ≡ out.old)
  run_overlong_schema run st s long = let found = schema_unread run (λ text read. overlong st read s long) in (found.0.ends, found.2)

  pub run_schema_failed : IsCheck → schema.failed schema.old ≡ false → schema.failed schema.new ≡ true → (o ≡ Device) × (file.new ≡ file.old) × (out.new ≡ out.old)
  run_schema_failed run was fails = let found = schema_unread run (λ text read. read.unfailed was fails) in (found.0.failed was fails, found.1, found.2)

  pub run_schema_remains : IsCheck → ¬ (IsAtEnd (schema.bytes schema.new)) → IsLost o × (file.new ≡ file.old) × (out.new ≡ out.old)
  run_schema_remains run remains = let found = schema_unread run (λ text read. remains read.at_end) in (found.0.ends, found.1, found.2)

  -- what keeps a file from being read whole, of a schema that is declared
  file_unread : IsCheck → (st : List ℕ) (s : Schema) → schema.bytes schema.old ≡ Some st → IsReading st s → ((bytes : List ℕ) → IsRead file most_file_bytes bytes → ⊥) → IsLost o × (out.new ≡ out.old)
  file_unread (IsRun.stopped (IsStopped.unread not f t) w) st s is declared bad = (not.ends, t)
  file_unread (IsRun.stopped (IsStopped.refused text line read refused told f) w) st s is declared bad = undeclared all rules text line st s refused (bytes_are st read is) declared
  file_unread (IsRun.stopped (IsStopped.untold text read memory f t) w) st s is declared bad = (inr memory, t)
  file_unread (IsRun.stopped (IsStopped.file_unread text d read reading not t) w) st s is declared bad = (not.ends, t)
  file_unread (IsRun.begun d text bytes b answered) st s is declared bad = absurd (bad bytes b.file_read)

  pub run_overlong_file : IsCheck → (st fl : List ℕ) → (s : Schema) → schema.bytes schema.old ≡ Some st → IsReading st s → file.bytes file.old ≡ Some fl → most_file_bytes < length fl → IsLost o × (out.new ≡ out.old)
  run_overlong_file run st fl s is declared l long = file_unread run st s is declared (λ bytes whole. overlong fl whole l long)

  pub run_file_remains : IsCheck → (st fl : List ℕ) → (s : Schema) → schema.bytes schema.old ≡ Some st → IsReading st s → file.bytes file.old ≡ Some fl → ¬ (IsAtEnd (file.bytes file.new)) → IsLost o × (out.new ≡ out.old)
  run_file_remains run st fl s is declared l remains = file_unread run st s is declared (λ bytes whole. remains whole.at_end)

  pub run_file_failed : IsCheck → file.failed file.old ≡ false → file.failed file.new ≡ true → (o ≡ Device) × (out.new ≡ out.old)
  run_file_failed (IsRun.stopped (IsStopped.unread not f t) w) was fails = same_failed file f was fails
  run_file_failed (IsRun.stopped (IsStopped.refused text line read refused told f) w) was fails = same_failed file f was fails
  run_file_failed (IsRun.stopped (IsStopped.untold text read memory f t) w) was fails = same_failed file f was fails
  run_file_failed (IsRun.stopped (IsStopped.file_unread text d read reading not t) w) was fails = (not.failed was fails, t)
  run_file_failed (IsRun.begun d text bytes b answered) was fails = absurd (b.file_read.unfailed was fails)

  pub run_writer_failed : IsCheck → out.failed out.old ≡ false → out.failed out.new ≡ true → o ≡ Device
  run_writer_failed (IsRun.stopped (IsStopped.unread not f t) w) was fails = same_failed out t was fails
  run_writer_failed (IsRun.stopped (IsStopped.refused text line read refused told f) w) was fails = told_failed o out told was fails
  run_writer_failed (IsRun.stopped (IsStopped.untold text read memory f t) w) was fails = same_failed out t was fails
  run_writer_failed (IsRun.stopped (IsStopped.file_unread text d read reading not t) w) was fails = same_failed out t was fails
  run_writer_failed (IsRun.begun d text bytes b (IsAnswered.answered due line report of told)) was fails = told_failed o out told was fails
  run_writer_failed (IsRun.begun d text bytes b (IsAnswered.given_up cause memory is t)) was fails = same_failed out t was fails

  -- for Device, what is not told: an input was not read; or a text that is due is long
  device : IsCheck → o ≡ Device → out.marked out.new ≡ false → (st fl : List ℕ) → schema.bytes schema.old ≡ Some st → file.bytes file.old ≡ Some fl → (IsSame out × (IsUnread schema o ⊎ IsUnread file o)) ⊎ IsLongText all rules st fl
  device (IsRun.stopped (IsStopped.unread not f t) w) d unmarked st fl s l = inl (t, inl not)
  device (IsRun.stopped (IsStopped.refused text line read refused told f) w) d unmarked st fl s l = inr (told_long all rules st fl line SchemaRefused o out (refusal_due all rules text line st fl refused (bytes_are st read s)) (λ e x. refused_not_device o e x) told d unmarked)
  device (IsRun.stopped (IsStopped.untold text read memory f t) w) d unmarked st fl s l = memory_not_device o memory d
  device (IsRun.stopped (IsStopped.file_unread text c read reading not t) w) d unmarked st fl s l = inl (t, inr not)
  device (IsRun.begun c text bytes b (IsAnswered.answered due line report of told)) d unmarked st fl s l =
      inr (told_long all rules st fl line due o out (answer_due all rules schema file c text bytes st fl line due b report s l) (λ e x. of_file_not_device due o of e x) told d unmarked)
  device (IsRun.begun c text bytes b (IsAnswered.given_up cause memory is t)) d unmarked st fl s l = memory_not_device o (is ∙ ap outcome_without memory) d

  pub run_unwritten : IsCheck → o ≡ Device → out.marked out.new ≡ false → (st fl : List ℕ) → schema.bytes schema.old ≡ Some st → file.bytes file.old ≡ Some fl → Keeps (out.bytes out.old) (out.bytes out.new) ⊎ IsLongText all rules st fl
  run_unwritten run d unmarked st fl s l = keeps_or_long (device run d unmarked st fl s l) where
    keeps_or_long : (IsSame out × (IsUnread schema o ⊎ IsUnread file o)) ⊎ IsLongText all rules st fl → Keeps (out.bytes out.old) (out.bytes out.new) ⊎ IsLongText all rules st fl
    keeps_or_long (inl same) = inl (keeps out same.0)
    keeps_or_long (inr long) = inr long

  pub run_cause : IsCheck → o ≡ Device → schema.marked schema.new ≡ false → file.marked file.new ≡ false → out.marked out.new ≡ false → (st fl : List ℕ) → schema.bytes schema.old ≡ Some st → file.bytes file.old ≡ Some fl → IsLong all rules st fl
  run_cause run d m n unmarked st fl s l = cause_of (device run d unmarked st fl s l) where
    cause_of : (IsSame out × (IsUnread schema o ⊎ IsUnread file o)) ⊎ IsLongText all rules st fl → IsLong all rules st fl
    cause_of (inl (same, inl not)) = inl (of_some (schema.bytes schema.old) st (λ x. most_calls ≤ length x) (not.cause d m) s)
    cause_of (inl (same, inr not)) = inr (inl (of_some (file.bytes file.old) fl (λ x. most_calls ≤ length x) (not.cause d n) l))
    cause_of (inr long) = inr (inr long)

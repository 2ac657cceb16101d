-- Declarations of a text.
use Rattle.std.proofs.Common.{◌≡◌, ◌≤◌, ℕ, Bool, true, false, List, length, map, Some, None, inl, inr, refl, sym, ap, subst, ◌∙◌}
use Rattle.std.specs.Prelude.{IsTrue}
use Rattle.std.specs.Char.{to_ascii_uppercase}
use Rattle.std.specs.List.{AllByRecursion}
use Rattle.std.proofs.lemmas.List.{length-map}
use Rattle.p21_express.specs.Word.{Word}
use Rattle.p21_express.specs.Words.{UpperWords}
use Rattle.p21_express.specs.Schema.{Schema}
use Rattle.p21_express.specs.Reader.{schema_at, if_whole, Fails}
use Rattle.p21_express.specs.Lexer.{HasNoWords}
use Rattle.p21_express.specs.declared.misfit.Misfit.{Misfit}
use Rattle.p21_express.specs.declared.misfit.Misfit.TheVariants as misfit
use Rattle.p21_express.specs.declared.misfit.Unfit.{Unfit}
use Rattle.p21_express.specs.declared.misfit.Unfit.TheVariants as unfit
use Rattle.p21_express.specs.declared.refusal.Kind.{Kind}
use Rattle.p21_express.specs.declared.refusal.Kind.TheVariants as kind
use Rattle.p21_express.specs.declared.refusal.Refusal.{Refusal}
use Rattle.p21_express.specs.declared.refusal.Refusal.TheVariants as refusal
use Rattle.p21_express.specs.declared.error.SchemaError.{SchemaError}
use Rattle.p21_express.specs.declared.error.SchemaError.TheVariants as errors
use Rattle.p21_express.specs.WellFormed.{IsWellFormed}
use Rattle.p21_express.specs.Reading.{IsReading}
use Rattle.p21_express.specs.Answer.{IsForm, HasNoForm, HasNoReading, OnRefusal, OnRefused}
use Rattle.p21_express.specs.Misfit.{OnUnfit, IsMisfit, form_error, misfit_error, IsRefusedAs, IsUnfitAs}
use Rattle.p21_express.specs.SchemaFault.{IsSchemaFault}
use Rattle.p21_express.proofs.WellFormedLemmas.{not_well_formed}
use Rattle.p21_express.proofs.WordLemmas.{some_is}
use Rattle.p21_express.proofs.ScanLemmas.{words_once}
use Rattle.p21_express.proofs.DeclarationLemmas.{schema_sound, schema_complete}

form_by : (text : List ℕ) (b : Bool) (words : List Word) (s : Schema) → (IsTrue b → UpperWords (map to_ascii_uppercase text) words) → if_whole b (schema_at words) ≡ Some s → IsForm text s
form_by text true words s w h = record { words = words; are_words = w refl; is_schema = schema_sound words s h }
form_by text false words s w h = absurd cc

pub is_form : (text upper : List ℕ) (b : Bool) (words : List Word) (s : Schema) → upper ≡ map to_ascii_uppercase text → (IsTrue b → UpperWords upper words) → if_whole b (schema_at words) ≡ Some s → IsForm text s
is_form text upper b words s e w h = form_by text b words s (subst (λ (v : List ℕ). IsTrue b → UpperWords v words) e w) h

pub form_once : (text : List ℕ) (s t : Schema) → IsForm text s → IsForm text t → s ≡ t
form_once text s t f g =
    let e = words_once f.are_words g.are_words in
    some_is s t (sym (schema_complete f.is_schema) ∙ (ap schema_at e ∙ schema_complete g.is_schema))

form_of : (text : List ℕ) (s : Schema) → IsReading text s → IsForm text s
form_of text s r = record { words = r.words; are_words = r.are_words; is_schema = r.is_schema }

pub reading_once : (text : List ℕ) (s t : Schema) → IsReading text s → IsReading text t → s ≡ t
reading_once text s t f g = form_once text s t (form_of text s f) (form_of text t g)

no_form_by : (text : List ℕ) (b : Bool) (words : List Word) → (IsTrue b → UpperWords (map to_ascii_uppercase text) words) → (b ≡ false → HasNoWords (map to_ascii_uppercase text)) → if_whole b (schema_at words) ≡ None → HasNoForm text
no_form_by text true words w n h = λ s f.
    let e : schema_at words ≡ Some s = ap schema_at (words_once (w refl) f.are_words) ∙ schema_complete f.is_schema in
    absurd (let k = sym h ∙ e in cc)
no_form_by text false words w n h = λ s f. n refl f.words f.are_words

has_no_form : (text upper : List ℕ) (b : Bool) (words : List Word) → upper ≡ map to_ascii_uppercase text → (IsTrue b → UpperWords upper words) → (b ≡ false → HasNoWords upper) → if_whole b (schema_at words) ≡ None → HasNoForm text
has_no_form text upper b words e w n h = no_form_by text b words (subst (λ (v : List ℕ). IsTrue b → UpperWords v words) e w) (subst (λ (v : List ℕ). b ≡ false → HasNoWords v) e n) h

fails_by : (r : Refusal) (text upper : List ℕ) (b : Bool) (words : List Word) → upper ≡ map to_ascii_uppercase text → (IsTrue b → UpperWords upper words) → (b ≡ false → HasNoWords upper) → Fails r (if_whole b (schema_at words)) → OnRefused r (HasNoForm text)
fails_by refusal.Memory text upper b words e w n h = tt
fails_by (refusal.Refused k l) text upper b words e w n h = has_no_form text upper b words e w n h

on_form : (k : Kind) (at : ℕ) (P : Type 0) → P → OnRefusal (form_error k at) P
on_form kind.Syntax at P h = h
on_form kind.NotSupported at P h = h

refusal_by : (n : ℕ) (r : Refusal) (e : SchemaError) (P : Type 0) → IsRefusedAs n r e → OnRefused r P → OnRefusal e P
refusal_by n refusal.Memory e P same h = subst (λ (x : SchemaError). OnRefusal x P) (sym same) tt
refusal_by n (refusal.Refused k l) e P same h = subst (λ (x : SchemaError). OnRefusal x P) (sym same.1) (on_form k same.0 P h)

-- words that are no schema, and the error that says so
pub no_form : (n : ℕ) (r : Refusal) (e : SchemaError) (text upper : List ℕ) (b : Bool) (words : List Word) → IsRefusedAs n r e → upper ≡ map to_ascii_uppercase text → (IsTrue b → UpperWords upper words) → (b ≡ false → HasNoWords upper) → Fails r (if_whole b (schema_at words)) → OnRefusal e (HasNoForm text)
no_form n r e text upper b words same u w o h = refusal_by n r e (HasNoForm text) same (fails_by r text upper b words u w o h)

form_fault : (text : List ℕ) (k : Kind) (at : ℕ) → HasNoForm text → at ≤ length text → IsSchemaFault text (form_error k at)
form_fault text kind.Syntax at h within = (h, within)
form_fault text kind.NotSupported at h within = (inl h, within)

fault_by : (text : List ℕ) (r : Refusal) (e : SchemaError) → IsRefusedAs (length text) r e → OnRefused r (HasNoForm text) → IsSchemaFault text e
fault_by text refusal.Memory e same h = subst (IsSchemaFault text) (sym same) tt
fault_by text (refusal.Refused k l) e same h = subst (IsSchemaFault text) (sym same.1) (form_fault text k same.0 h same.2)

pub no_form_fault : (r : Refusal) (e : SchemaError) (text upper : List ℕ) (b : Bool) (words : List Word) → IsRefusedAs (length text) r e → upper ≡ map to_ascii_uppercase text → (IsTrue b → UpperWords upper words) → (b ≡ false → HasNoWords upper) → Fails r (if_whole b (schema_at words)) → IsSchemaFault text e
no_form_fault r e text upper b words same u w o h = fault_by text r e same (fails_by r text upper b words u w o h)

-- places up to the end of a text in upper case
pub within_text : (text upper : List ℕ) (places : List ℕ) → upper ≡ map to_ascii_uppercase text → AllByRecursion (λ place. place ≤ length upper) places → AllByRecursion (λ place. place ≤ length text) places
within_text text upper places e h = subst (λ (n : ℕ). AllByRecursion (λ (place : ℕ). place ≤ n) places) (ap length e ∙ length-map text to_ascii_uppercase) h

-- ---- readings

pub is_reading : (text : List ℕ) (s : Schema) → IsForm text s → IsWellFormed s → IsReading text s
is_reading text s f w = record { words = f.words; are_words = f.are_words; is_schema = f.is_schema; is_well_formed = w }

on_any : (e : SchemaError) (P : Type 0) → P → OnRefusal e P
on_any (errors.Syntax at) P h = h
on_any (errors.NotSupported at) P h = h
on_any (errors.Repeated at) P h = h
on_any (errors.UnknownName at) P h = h
on_any (errors.Cycle at) P h = h
on_any (errors.BadRedeclaration at) P h = h
on_any errors.Memory P h = tt

-- a text without a form has no reading
pub no_reading : (e : SchemaError) (text : List ℕ) → OnRefusal e (HasNoForm text) → OnRefusal e (HasNoReading text)
no_reading (errors.Syntax at) text h = λ s r. h s (form_of text s r)
no_reading (errors.NotSupported at) text h = λ s r. h s (form_of text s r)
no_reading (errors.Repeated at) text h = λ s r. h s (form_of text s r)
no_reading (errors.UnknownName at) text h = λ s r. h s (form_of text s r)
no_reading (errors.Cycle at) text h = λ s r. h s (form_of text s r)
no_reading (errors.BadRedeclaration at) text h = λ s r. h s (form_of text s r)
no_reading errors.Memory text h = tt

-- a text whose declarations do not fit together has no reading
unread : (text : List ℕ) (s : Schema) → IsForm text s → ¬ (IsWellFormed s) → HasNoReading text
unread text s f h = λ t r. h (subst IsWellFormed (form_once text t s (form_of text t r) f) r.is_well_formed)

pub badly_formed : (n : ℕ) (u : Unfit) (e : SchemaError) (text : List ℕ) (s : Schema) → IsUnfitAs n u e → IsForm text s → OnUnfit u (IsMisfit s) → OnRefusal e (HasNoReading text)
badly_formed n unfit.Memory e text s same f h = subst (λ (x : SchemaError). OnRefusal x (HasNoReading text)) (sym same) tt
badly_formed n (unfit.Found m left) e text s same f h = on_any e (HasNoReading text) (unread text s f (not_well_formed s m h))

misfit_fault : (text : List ℕ) (s : Schema) (m : Misfit) (at : ℕ) → IsForm text s → IsMisfit s m → at ≤ length text → IsSchemaFault text (misfit_error m at)
misfit_fault text s misfit.Repeated at f h within = ((s, f, h), within)
misfit_fault text s misfit.UnknownName at f h within = ((s, f, h), within)
misfit_fault text s misfit.LoneSelect at f h within = (inr (s, f, h), within)
misfit_fault text s misfit.Cycle at f h within = ((s, f, h), within)
misfit_fault text s misfit.BadRedeclaration at f h within = ((s, f, h), within)

pub unfit_fault : (u : Unfit) (e : SchemaError) (text : List ℕ) (s : Schema) → IsUnfitAs (length text) u e → IsForm text s → OnUnfit u (IsMisfit s) → IsSchemaFault text e
unfit_fault unfit.Memory e text s same f h = subst (IsSchemaFault text) (sym same) tt
unfit_fault (unfit.Found m left) e text s same f h = subst (IsSchemaFault text) (sym same.1) (misfit_fault text s m same.0 f h same.2)

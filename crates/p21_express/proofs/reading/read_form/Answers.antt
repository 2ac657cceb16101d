use Rattle.std.proofs.Common.{length, ◌∙◌}
use Rattle.p21_express.specs.Plain.{plain_schema}
use Rattle.p21_express.specs.Reader.{words_of}
use Rattle.p21_express.proofs.ReadingLemmas.{is_form, no_form, no_form_fault, within_text}
use Rattle.p21_express.proofs.reading.read_form.Goals as goal

pub returns-in-Ok : goal.returns-in-Ok
returns-in-Ok c =
    let upper = c.deref.ensures.value ∙ c.in_ok-upper.ensures in
    record {
      ok = is_form c.args.text.now c.deref.result.now c.in_ok-scanned.scanned.is_whole (words_of c.in_ok-scanned.scanned.words.items) (plain_schema c.in-Ok.declarations) upper c.in_ok-scanned.ensures.whole c.in-Ok.ensures;
      places = within_text c.args.text.now c.deref.result.now c.in_ok-scanned.scanned.places.items upper c.in_ok-scanned.ensures.places;
      err = tt;
      fault = tt;
    }

pub returns : goal.returns
returns c =
    let upper = c.deref.ensures.value ∙ c.in_ok-upper.ensures in
    let same = c.refused_as.ensures (length c.args.text.now) (rw c.deref-in-Err.ensures.value (within_text c.args.text.now c.deref.result.now c.in_ok-scanned.scanned.places.items upper c.in_ok-scanned.ensures.places)) in
    record {
      ok = tt;
      places = tt;
      err = no_form (length c.args.text.now) c.in-Err.refusal c.refused_as.result c.args.text.now c.deref.result.now c.in_ok-scanned.scanned.is_whole (words_of c.in_ok-scanned.scanned.words.items) same upper c.in_ok-scanned.ensures.whole c.in_ok-scanned.ensures.broken c.in-Err.ensures;
      fault = no_form_fault c.in-Err.refusal c.refused_as.result c.args.text.now c.deref.result.now c.in_ok-scanned.scanned.is_whole (words_of c.in_ok-scanned.scanned.words.items) same upper c.in_ok-scanned.ensures.whole c.in_ok-scanned.ensures.broken c.in-Err.ensures;
    }

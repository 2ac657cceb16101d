use Rattle.p21_json.proofs.AttributeLemmas.{explicit_type}
use Rattle.p21_json.proofs.attributes.form_is_logical.Goals as goal

pub takes_logical-requires : goal.takes_logical-requires
takes_logical-requires c = explicit_type c.args.terms.now c.args.form.now _ _ c.requires.0 c.requires.1 c.in-Explicit.is

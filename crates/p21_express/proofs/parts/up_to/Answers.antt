use Rattle.std.proofs.Common.{refl}
use Rattle.p21_express.specs.Reader.{up_to}
use Rattle.p21_express.proofs.TokenLemmas.{before_same}
use Rattle.p21_express.proofs.parts.up_to.Goals as goal

pub returns : goal.returns
unfolding up_to
returns c = rw (c.in_ok-rest.ensures.same, before_same c.args.words.now c.in_ok-rest.rest.now) refl

use Rattle.p21_json.proofs.ExprLemmas.{depth_in}
use Rattle.p21_json.proofs.terms.Terms.+takes_logical.Given as goal

abbrev pub decreases-takes_logical : goal.decreases-takes_logical
decreases-takes_logical l = depth_in l.self.now l.texpr.now

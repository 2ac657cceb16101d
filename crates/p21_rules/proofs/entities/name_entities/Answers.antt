use Rattle.std.proofs.Common.{List, ℕ, ◌+◌, ◌++◌, ◌∷◌, [], Option, take, sym, subst}
use Rattle.p21_schema.specs.declared.ids.EntityId.{EntityId}
use Rattle.p21_check.specs.Sets.{keywords_of}
use Rattle.p21_rules.specs.Named.{AreNamed, IsNamed}
use Rattle.p21_rules.proofs.ParameterLemmas.{zip_more, named_as, keywords_more}
use Rattle.p21_rules.proofs.entities.name_entities.Goals as goal

pub loop-record-preserved : goal.loop-record-preserved
loop-record-preserved c =
    let s = c.args.schema.now in
    let rs = c.args.records.now in
    let i = c.loop-record.record-index in
    let r = c.record-item.result in
    let more = zip_more (λ (e : Option EntityId) (k : List ℕ). IsNamed s k e) c.loop-record.named.items (keywords_of (take i rs)) c.entity.result r.keyword.now c.loop-record.invariant (named_as s r.keyword.now c.entity.result c.entity.ensures) in
    let names = subst (λ (ks : List (List ℕ)). AreNamed s ks (c.loop-record.named.items ++ c.entity.result ∷ [])) (sym (keywords_more rs i r c.loop-record-test.true c.record-item.is)) more in
    subst (AreNamed s (keywords_of (take (i + 1) rs))) (sym c.in_ok-push.ensures.items) names

use Rattle.std.proofs.Common.{◌+◌, ◌*◌, ◌∙◌, refl, ap, set}
use Rattle.std.specs.Int.Bits.{bit_or}
use Rattle.std.proofs.lemmas.List.{get_or_default}
use Rattle.p21_graph.proofs.BitLemmas.{holds_more, word_within}
use Rattle.p21_graph.proofs.bits.Bits.add.Goals as goal

pub returns-clause-holds : goal.returns-clause-holds
returns-clause-holds c =
    let t = c.args.self.now in
    let at = c.args.row * t.width + c.args.place in
    let within = word_within t c.args.row c.args.place c.requires.row c.requires.place in
    let word = c.index_mut.ensures.value ∙ get_or_default t.words.items at c.index_mut.result.now 0 within in
    holds_more t _ c.args.row c.args.place c.args.word refl c.requires.place within (ap (λ u. set t.words.items at (bit_or u c.args.word)) word)

use Rattle.std.proofs.Common.{◌<◌, drop, length, arith, length-take, ◌-◌}
use Rattle.std.proofs.lemmas.List.{take_rest}
use Rattle.p21_text.proofs.StringLemmas.{closes_here, closes_next, never_here, never_next}
use Rattle.p21_text.proofs.string.body_len.Goals as goal

pub returns-then-byte_at-eq39-clause-found : goal.returns-then-byte_at-eq39-clause-found
returns-then-byte_at-eq39-clause-found c =
    closes_here c.args.tail.now _ c.loop-rest.at c.item_len-len.result c.byte_at.result (take_rest c.args.tail.now c.loop-rest.at) c.item_len-len.ensures.shape c.if-len-eq0.true c.byte_at.ensures c.if-byte_at-eq39.true c.loop-rest.invariant.closes

pub returns-else-byte_at-eq39-clause-found : goal.returns-else-byte_at-eq39-clause-found
returns-else-byte_at-eq39-clause-found c =
    never_here c.args.tail.now _ c.loop-rest.at c.item_len-len.result c.byte_at.result (take_rest c.args.tail.now c.loop-rest.at) c.item_len-len.ensures.shape c.if-len-eq0.true c.byte_at.ensures c.if-byte_at-eq39.false c.loop-rest.invariant.never

pub loop-rest-preserved : goal.loop-rest-preserved
loop-rest-preserved c =
    let some : 0 < c.item_len-len.result = omega arith in
    record {
      within = omega (arith, length-take (length c.args.tail.now - c.loop-rest.at) (drop c.loop-rest.at c.args.tail.now), c.item_len-len.ensures.within);
      closes = closes_next c.args.tail.now _ c.loop-rest.at c.item_len-len.result (take_rest c.args.tail.now c.loop-rest.at) c.item_len-len.ensures.shape some c.loop-rest.invariant.closes;
      never = never_next c.args.tail.now _ c.loop-rest.at c.item_len-len.result (take_rest c.args.tail.now c.loop-rest.at) c.item_len-len.ensures.shape some c.loop-rest.invariant.never;
    }

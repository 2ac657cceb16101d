use Rattle.std.proofs.Common.{◌∙◌, ◌++◌, ap, drop, arith}
use Rattle.std.proofs.lemmas.List.{take_rest}
use Rattle.p21_rules.specs.Bits.{nibbles}
use Rattle.p21_rules.specs.Code.{bytes_code}
use Rattle.p21_rules.proofs.BitsLemmas.{unused_of, bits_pushed}
use Rattle.p21_rules.proofs.PushLemmas.{on_ok}
use Rattle.p21_rules.proofs.binary.push_binary.Goals as goal

pub overflow_sub-body : goal.overflow_sub-body
overflow_sub-body c = (unused_of c.args.body.now c.requires).least

pub push_nibble-requires : goal.push_nibble-requires
push_nibble-requires c = let most = (unused_of c.args.body.now c.requires).most in let from = c.from.ensures in omega arith

pub returns : goal.returns
returns c =
    let body = c.args.body.now in
    let most = (unused_of body c.requires).most in
    on_ok
    c.push_nibbles.result
    (λ x e. bits_pushed body _ _ _ _ _ _ c.if-body-lt2.false most c.hex_value.ensures c.from.ensures c.in_ok-push.ensures.items (c.in_ok-push_nibble.ensures (nibbles (drop 2 body))) (e ∙ ap (λ l. c.push_nibble.new.code.items ++ bytes_code (nibbles l)) (take_rest body 2)))
    c.push_nibbles.ensures

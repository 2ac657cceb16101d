use Rattle.std.proofs.Common.{◌-◌, ◌++◌, take, drop, length}
use Rattle.std.proofs.lemmas.List.{take_rest}
use Rattle.std.specs.Option.{option_to_list, option_map}
use Rattle.p21_text.specs.Values.{items_at, part_after, units, read}
use Rattle.p21_text.specs.Meanings.{item_of}
use Rattle.p21_text.proofs.ItemsLemmas.{Advanced, advanced, step_of, left_fits, yields_one}
use Rattle.p21_text.proofs.str_items.StrItems.advance.Goals as goal

pub meaning_of-requires-clause-some : goal.meaning_of-requires-clause-some
meaning_of-requires-clause-some c =
    let s = c.args.self.now in (step_of s.part s.rest.now s.bytes s.readable c.requires.some).some

pub invariant_of-self : goal.invariant_of-self
invariant_of-self c =
    let s = c.args.self.now in
    let p = c.progress-progress.result in
    let left = take (length s.rest.now - c.item_len.result) (drop c.item_len.result s.rest.now) in
    let next : Advanced s.rest.now s.digits.now s.part s.wide p left =
    advanced s.rest.now s.digits.now s.part s.wide c.item_len.result p left s.bytes s.readable s.known c.requires.run c.requires.some c.item_len.ensures.shape
    (c.progress-progress.ensures (items_at s.part s.rest.now) (part_after s.part s.rest.now) c.meaning_of.ensures) (take_rest s.rest.now c.item_len.result) in
    record {
      bytes = next.bytes;
      readable = next.readable;
      known = next.known;
      hex = next.hex;
      whole = next.whole;
      fits = left_fits (option_to_list (option_map item_of p.item)) (units s.wide s.digits.now ++ read (length s.rest.now) s.part s.rest.now) (units p.wide p.digits.now ++ read (length left) p.part left) next.yields s.fits;
    }

pub returns-clause-yields : goal.returns-clause-yields
returns-clause-yields c =
    let s = c.args.self.now in
    let p = c.progress-progress.result in
    let left = take (length s.rest.now - c.item_len.result) (drop c.item_len.result s.rest.now) in
    let next : Advanced s.rest.now s.digits.now s.part s.wide p left =
    advanced s.rest.now s.digits.now s.part s.wide c.item_len.result p left s.bytes s.readable s.known c.requires.run c.requires.some c.item_len.ensures.shape
    (c.progress-progress.ensures (items_at s.part s.rest.now) (part_after s.part s.rest.now) c.meaning_of.ensures) (take_rest s.rest.now c.item_len.result) in
    yields_one p.item (units s.wide s.digits.now ++ read (length s.rest.now) s.part s.rest.now) (units p.wide p.digits.now ++ read (length left) p.part left) next.yields

pub returns-clause-shorter : goal.returns-clause-shorter
returns-clause-shorter c =
    let s = c.args.self.now in
    let p = c.progress-progress.result in
    let left = take (length s.rest.now - c.item_len.result) (drop c.item_len.result s.rest.now) in
    let next : Advanced s.rest.now s.digits.now s.part s.wide p left =
    advanced s.rest.now s.digits.now s.part s.wide c.item_len.result p left s.bytes s.readable s.known c.requires.run c.requires.some c.item_len.ensures.shape
    (c.progress-progress.ensures (items_at s.part s.rest.now) (part_after s.part s.rest.now) c.meaning_of.ensures) (take_rest s.rest.now c.item_len.result) in
    next.shorter

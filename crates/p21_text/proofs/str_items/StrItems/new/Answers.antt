use Rattle.std.proofs.Common.{◌≤◌, ◌<◌, ◌^◌, length, refl, arith}
use Rattle.p21_text.specs.Values.{read}
use Rattle.p21_text.proofs.StringLemmas.{bytes_of}
use Rattle.p21_text.proofs.ItemsLemmas.{items_fewer, items_of_readable}
use Rattle.p21_text.proofs.str_items.StrItems.new.Goals as goal

pub invariant_of-result : goal.invariant_of-result
invariant_of-result c =
    let raw = c.args.raw.now in
    let bytes = bytes_of raw c.type_inv.raw in
    let few : length (read (length raw) 1 raw) ≤ length raw = items_fewer 1 raw (read (length raw) 1 raw) (items_of_readable 1 raw bytes c.requires) in
    let long : length raw < 2 ^ 64 = omega arith in
    record { bytes = bytes; readable = c.requires; known = omega arith; hex = refl; whole = refl; fits = omega (arith, few, long) }

pub returns : goal.returns
returns c = items_of_readable 1 c.args.raw.now (bytes_of c.args.raw.now c.type_inv.raw) c.requires

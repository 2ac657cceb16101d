-- Names as plain values.
use Rattle.std.specs.Prelude.{ℕ, List, map, option_map, Vec}
use Rattle.p21_express.specs.declared.names.AttrName as source
use Rattle.p21_express.specs.Grammar.{Naming}
use Rattle.std.specs.declared.alloc.Global.{Global}

abbrev pub texts : List (Vec ℕ Global) → List (List ℕ)
texts ns = map (λ n. n.items) ns

abbrev pub plain_naming : source.AttrName → Naming
plain_naming x = record { name = x.name.now; of = option_map (λ n. n.now) x.of }

abbrev pub plain_namings : List source.AttrName → List Naming
plain_namings xs = map plain_naming xs

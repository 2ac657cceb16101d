-- An aggregate without its element, as a plain value.
use Rattle.p21_express.specs.Schema.{Aggregate, array, list, set, bag}
use Rattle.p21_express.specs.declared.layer.Layer.{Layer}
use Rattle.p21_express.specs.declared.layer.Layer.TheVariants as layer

abbrev pub plain_layer : Layer → Aggregate
plain_layer (layer.Array b o) = array b o
plain_layer (layer.List b u) = list b u
plain_layer (layer.Set b) = set b
plain_layer (layer.Bag b) = bag b

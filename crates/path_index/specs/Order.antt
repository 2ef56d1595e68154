-- An order of the paths of both trees: shorter ones first, and those of one length by the numbers that their bits spell.
use Rattle.std.specs.Prelude.{◌≡◌, ℕ, ◌+◌, ◌*◌, ◌^◌, ◌<◌, Bool, List}
use Rattle.std.specs.declared.cmp.Ordering.{Ordering}
use Rattle.std.specs.declared.cmp.Ordering.TheVariants.{Less, Equal, Greater}
use Rattle.tree_keys.specs.Bits.{bit_value}
use Rattle.tree_keys.specs.Path.{depth, tree_of, key_of}

-- A number by which a path comes in the order: its length, the number of up to 128 bits that its bits spell, and its tree. No
-- other path of a tree has that number.
unfoldable pub order_of : List Bool → ℕ
order_of path = depth path * 2 ^ 129 + key_of path * 2 + bit_value (tree_of path)

-- what an answer says of how a path lies to another in the order
abbrev pub Compared : Ordering → List Bool → List Bool → Type 0
Compared Less path other = order_of path < order_of other
Compared Equal path other = path ≡ other
Compared Greater path other = order_of other < order_of path

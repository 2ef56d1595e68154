-- The same entries in any order, and in the order of the texts of their paths.
use Rattle.std.specs.Prelude.{◌≡◌, ◌<◌, Bool, List, [], ◌∷◌, length}
use Rattle.path_index.specs.Order.{order_of}
use Rattle.verifier_cache.specs.declared.entry.Entry.{Entry}
use Rattle.verifier_cache.specs.Cache.{entry_of, AreDistinct}

-- the same entries, perhaps in another order: of each path the same is found, and there are as many
pub record AreAlike (entries others : List Entry) : Type 0 where
  pub distinct : AreDistinct entries
  pub distinct_others : AreDistinct others
  pub found : (path : List Bool) → entry_of path others ≡ entry_of path entries
  pub len : length others ≡ length entries

-- each path comes before the next, where the first comes behind that of another entry
abbrev pub RisesFrom : Entry → List Entry → Type 0
RisesFrom before [] = Unit {0}
RisesFrom before (entry ∷ entries) = (order_of before.path < order_of entry.path) × RisesFrom entry entries

-- each path comes before the next: a shorter one first, and those of one length by the numbers that their bits spell, as
-- their texts do
abbrev pub Rises : List Entry → Type 0
Rises [] = Unit {0}
Rises (entry ∷ entries) = RisesFrom entry entries

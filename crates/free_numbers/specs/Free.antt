-- The lowest free number, by a list that says of each number whether it is free.
use Rattle.std.specs.Prelude.{ℕ, suc, Bool, true, false, List, [], ◌∷◌, Option, Some, None}
use Rattle.std.specs.Option.{option_map}

-- the lowest free number, if one is free
abbrev pub lowest_free : List Bool → Option ℕ
lowest_free [] = None
lowest_free (true ∷ more) = Some 0
lowest_free (false ∷ more) = option_map (λ number. suc number) (lowest_free more)

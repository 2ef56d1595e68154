-- What is found of a command's flags.
use Rattle.std.specs.Prelude.{Bool, false, List, Option, codes}
use Rattle.std.specs.Option.{option_map_or}
use Rattle.std.specs.Str.{bytes_eq}
use Rattle.clap.specs.Walk.{Row, Text, one_of}

-- a flag was given where the text that is found of it is `true`
abbrev pub is_set : Option Text → Bool
is_set text = option_map_or (λ word. bytes_eq word (codes "true")) text false

-- whether the flag of this name was given
abbrev pub flag_in : Text → List Row → Bool
flag_in name rows = is_set (one_of name rows)

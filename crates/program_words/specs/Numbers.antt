-- The numbers that words spell, and those of a command's options.
use Rattle.std.specs.Prelude.{ℕ, ◌==◌, ◌&&◌, not, nat_le, Bool, true, false, List, [], ◌∷◌, Option, Some, None, option_and_then, if◌then◌else◌}
use Rattle.std.specs.List.{list_all}
use Rattle.std.specs.Option.{option_map}
use Rattle.std.specs.Char.{is_ascii_digit}
use Rattle.std.specs.Str.Parse.{digits_value}
use Rattle.clap.specs.Walk.{Text}

-- a first digit, which is no zero where others follow it
abbrev pub begins_well : List ℕ → Bool
begins_well [] = false
begins_well (digit ∷ []) = true
begins_well (digit ∷ next ∷ digits) = not (digit == 48)

-- decimal digits, without a sign or a leading zero
abbrev pub is_numeral : List ℕ → Bool
is_numeral word = begins_well word && list_all is_ascii_digit word

-- a number, if it is in this range
abbrev pub in_range : ℕ → ℕ → ℕ → Option ℕ
in_range least most number = if nat_le least number && nat_le number most then Some number else None

-- the number that a word spells in decimal, if it is in this range
unfoldable pub number_between : ℕ → ℕ → List ℕ → Option ℕ
number_between least most word = if is_numeral word then in_range least most (digits_value 10 word) else None

-- the number of an option that is to be given, if it is in this range
abbrev pub needed_in : ℕ → ℕ → Option Text → Option ℕ
needed_in least most word = option_and_then (number_between least most) word

-- the number of an option that may be given, if it is; where it is given and out of this range there is no answer
abbrev pub optional_in : ℕ → ℕ → Option Text → Option (Option ℕ)
optional_in least most None = Some None
optional_in least most (Some word) = option_map Some (number_between least most word)

-- the same as `option_and_then`, read from left to right
abbrev pub given : {A B : Type 0} → Option A → (A → Option B) → Option B
given None behind = None
given (Some value) behind = behind value

-- The lines of operations, part by part.
use Rattle.std.proofs.Common.{◌≡◌, ℕ, ◌+◌, ◌*◌, ◌≤◌, List, [], ◌∷◌, ◌++◌, length, min, drop, length-take, length-drop, refl, sym, ◌∙◌, ap, append_assoc, append-nil, take-append-drop, arith}
use Rattle.std.proofs.lemmas.Grind.{flat_map-append}
use Rattle.std.proofs.lemmas.List.{drop-drop, drop_all}
use Rattle.record_hash.specs.Functions.{DigestFunctions}
use Rattle.record_text.specs.declared.operation.Operation.{Operation}
use Rattle.certified_epochs.specs.declared.telling.Telling.{Telling}
use Rattle.certified_epochs.specs.declared.telling.Telling.TheVariants.{Nothing}
use Rattle.certified_epochs.specs.Telling.{line_by}
use Rattle.certified_epochs.specs.Pieces.{part_at, lines_of}

-- what stands behind so many parts is the next part, and what stands behind that
part_next : {X : Type 0} (size number : ℕ) (xs : List X) → part_at size number xs ++ drop ((number + 1) * size) xs ≡ drop (number * size) xs
part_next size number xs =
    let at : (number + 1) * size ≡ number * size + size = omega arith in
    ap (λ (n : ℕ). part_at size number xs ++ drop n xs) at
    ∙ ap (λ (rest : List _). part_at size number xs ++ rest) (sym (drop-drop size (number * size) xs))
    ∙ take-append-drop size (drop (number * size) xs)

module _ {D : Type 0} (functions : D → DigestFunctions) (telling : Telling D) where
  -- the lines of a part more
  pub lines-part : (size number : ℕ) (operations : List Operation) (text whole : List ℕ)
      → text ++ lines_of functions telling (drop (number * size) operations) ≡ whole
      → (text ++ lines_of functions telling (part_at size number operations)) ++ lines_of functions telling (drop ((number + 1) * size) operations) ≡ whole
  lines-part size number operations text whole left =
      let own = part_at size number operations in
      let rest = drop ((number + 1) * size) operations in
      append_assoc text (lines_of functions telling own) (lines_of functions telling rest)
      ∙ ap (λ (l : List ℕ). text ++ l)
      (sym (flat_map-append (line_by functions telling) own rest) ∙ ap (lines_of functions telling) (part_next size number operations))
      ∙ left

  -- behind the last part there are none
  pub lines-past : (size number : ℕ) (operations : List Operation) (text whole : List ℕ) → length operations ≤ number * size
      → text ++ lines_of functions telling (drop (number * size) operations) ≡ whole → text ≡ whole
  lines-past size number operations text whole past left =
      sym (append-nil text)
      ∙ ap (λ (rest : List Operation). text ++ lines_of functions telling rest) (sym (drop_all (number * size) operations past))
      ∙ left

  -- of two parts, one behind the other
  pub lines-append : (front rest : List Operation) → lines_of functions telling (front ++ rest) ≡ lines_of functions telling front ++ lines_of functions telling rest
  lines-append front rest = flat_map-append (line_by functions telling) front rest

  -- those of some operations and of those that are left, and of the next of these
  pub lines-all : (told left whole : List Operation) → told ++ left ≡ whole → lines_of functions telling told ++ lines_of functions telling left ≡ lines_of functions telling whole
  lines-all told left whole all = sym (lines-append told left) ∙ ap (lines_of functions telling) all

  pub lines-next : (told left group rest whole : List Operation) → told ++ left ≡ whole → left ≡ group ++ rest
      → (lines_of functions telling told ++ lines_of functions telling group) ++ lines_of functions telling rest ≡ lines_of functions telling whole
  lines-next told left group rest whole all next =
      append_assoc (lines_of functions telling told) (lines_of functions telling group) (lines_of functions telling rest)
      ∙ ap (λ (lines : List ℕ). lines_of functions telling told ++ lines) (sym (lines-append group rest) ∙ ap (lines_of functions telling) (sym next))
      ∙ lines-all told left whole all

-- where nothing is told there are no lines
pub lines-none : {D : Type 0} (functions : D → DigestFunctions) (operations : List Operation) → lines_of functions Nothing operations ≡ []
lines-none functions [] = refl
lines-none functions (operation ∷ operations) = lines-none functions operations

pub lines-nothing : {D : Type 0} (functions : D → DigestFunctions) (telling : Telling D) (operations : List Operation) → telling ≡ Nothing
    → lines_of functions telling operations ≡ []
lines-nothing {D} functions telling operations is =
    ap (λ (t : Telling D). lines_of functions t operations) is ∙ lines-none functions operations

-- a part is no longer than the whole, nor than a part may be
pub part-length : {X : Type 0} (size number : ℕ) (xs : List X) → length (part_at size number xs) ≤ min size (length xs)
part-length size number xs =
    let taken = length-take size (drop (number * size) xs) in
    let dropped = length-drop (number * size) xs in
    omega (arith, taken, dropped)

-- The setup of the shards.
use Rattle.std.proofs.Common.{◌≡◌, ◌≢◌, ◌⊎◌, ℕ, zero, suc, ◌+◌, ◌-◌, ◌*◌, ◌/◌, ◌^◌, ◌<◌, ◌≤◌, Bool, true, false, List, [], ◌∷◌, ◌++◌, length, refl, sym, ◌∙◌, ap, inl, inr, append_assoc, arith}
use Rattle.std.proofs.Math.Nat.{pow-le-pow_right, eq-or-lt_of_le, mul-div_cancel}
use Rattle.std.proofs.lemmas.Nat.{pow_below, pow_pos}
use Rattle.std.proofs.lemmas.Bool.{cases_lt}
use Rattle.std.proofs.lemmas.List.{map-append}
use Rattle.std.specs.List.{AllByRecursion}
use Rattle.std.specs.Prelude.{map}
use Rattle.tree_keys.specs.Bits.{number_of}
use Rattle.tree_keys.specs.Path.{key_bits, depth, tree_of, IsPath, IsNodePath, root_of, key_of, word_of}
use Rattle.tree_keys.proofs.BitsLaws.{number_of-lt}
use Rattle.tree_keys.proofs.TreeLaws.{node-path, depth-child}
use Rattle.record_text.specs.declared.value.Value.{Value}
use Rattle.record_text.specs.Value.{initial_value}
use Rattle.record_text.specs.Element.{IsStamp}
use Rattle.record_text.proofs.ValueTextLaws.{initial_value-kind}
use Rattle.record_text.specs.Longest.{longest_blob}
use Rattle.log_codec.specs.declared.command.Command.{Command}
use Rattle.log_codec.specs.declared.command.Command.TheVariants.{AddM, EvictM}
use Rattle.log_codec.specs.Command.{IsPathCommand}
use Rattle.host_shard.specs.Content.{Content}
use Rattle.host_plan.specs.Setup.{child, first_stamp, first_content, set_up, setup_commands, paths_below}
use Rattle.host_plan.proofs.TypedLemmas.{AllByRecursion-append}

-- the exponent of a power of two
pub exponent : (n r bits : ℕ) → n ≡ 2 ^ bits → 2 ^ r ≤ n → n < 2 * 2 ^ r → r ≡ bits
exponent n r bits is low high = go (cases_lt r bits)
  where
    too_low : r < bits → ⊥
    too_low below =
        let more : 2 ^ suc r ≤ 2 ^ bits = pow-le-pow_right {n = 2} (omega arith) {i = suc r} {j = bits} (omega arith) in
        let twice : 2 ^ suc r ≡ 2 * 2 ^ r = omega arith in
        omega arith

    or_equal : (bits ≡ r) ⊎ (bits < r) → r ≡ bits
    or_equal (inl same) = sym same
    or_equal (inr above) = let more : 2 ^ bits < 2 ^ r = pow_below bits r above in absurd (omega arith)

    go : (r < bits) ⊎ (bits ≤ r) → r ≡ bits
    go (inl below) = absurd (too_low below)
    go (inr above) = or_equal (eq-or-lt_of_le {n = bits} {m = r} above)

-- a path to which at most ten bits lead is a node's
pub few_node : (path : List Bool) → depth path ≤ 10 → IsNodePath path
few_node [] few = tt
few_node (true ∷ bits) few = omega arith
few_node (false ∷ bits) few = omega arith

few_path : (path : List Bool) → depth path ≤ 10 → IsPath path
few_path path few = node-path path (few_node path few)

-- below a root a bit more is a bit deeper
pub deeper : (path : List Bool) (on : Bool) → 0 < depth path → depth (child path on) ≡ suc (depth path)
deeper [] on below = absurd (omega arith)
deeper (wide ∷ bits) on below = depth-child wide (wide ∷ bits) on refl

-- the number of a path to which at most ten bits lead
pub few_numbers : (path : List Bool) → depth path ≤ 10 → key_of path < 1024
few_numbers [] few = omega arith
few_numbers (wide ∷ bits) few =
    let small = number_of-lt bits in
    let more : 2 ^ length bits ≤ 2 ^ 10 = pow-le-pow_right {n = 2} (omega arith) {i = length bits} {j = 10} few in
    omega arith

-- how many bits of its word such a path leaves unused
pub unused_bits : (wide : Bool) (bits len : ℕ) → bits ≡ key_bits wide → 0 < len → len ≤ 10 → (len ≤ bits) × (bits - len < 128)
unused_bits true bits len is some few = (omega arith, omega arith)
unused_bits false bits len is some few = (omega arith, omega arith)

-- the number of a path, from its word
pub number_in_word : (path : List Bool) (word bits len : ℕ) → word ≡ word_of path → bits ≡ key_bits (tree_of path) → len ≡ depth path → word / 2 ^ (bits - len) ≡ key_of path
number_in_word path word bits len is many long =
    ap (λ (w : ℕ). w / 2 ^ (bits - len)) is
    ∙ ap (λ (n : ℕ). word_of path / 2 ^ (n - len)) many
    ∙ ap (λ (n : ℕ). word_of path / 2 ^ (key_bits (tree_of path) - n)) long
    ∙ whole path
  where
    whole : (p : List Bool) → word_of p / 2 ^ (key_bits (tree_of p) - depth p) ≡ key_of p
    whole [] = refl
    whole (wide ∷ more) = mul-div_cancel (number_of more) {n = 2 ^ (key_bits wide - length more)} (pow_pos (key_bits wide - length more))

-- a number that isn't 0 is one more than the one before
pub one_before : (n : ℕ) → n ≢ 0 → suc (n - 1) ≡ n
one_before n some = omega arith

-- the visit of a path above others
pub set_up-levels : (first levels : ℕ) (path parent : List Bool) → levels ≢ 0
    → set_up first levels path parent
    ≡ AddM path (initial_value path) parent ∷ (set_up first (levels - 1) (child path false) path ++ (set_up first (levels - 1) (child path true) path ++ EvictM path parent ∷ []))
set_up-levels first levels path parent some =
    ap (λ (n : ℕ). set_up first n path parent) (sym (one_before levels some))

pub paths_below-levels : (levels : ℕ) (path : List Bool) → levels ≢ 0 → paths_below levels path ≡ paths_below (levels - 1) (child path false) ++ paths_below (levels - 1) (child path true)
paths_below-levels levels path some = ap (λ (n : ℕ). paths_below n path) (sym (one_before levels some))

-- what was pushed in turn, joined
joined : {A : Type 0} (start one two three all below above : List A) (first last : A)
    → one ≡ start ++ first ∷ [] → two ≡ one ++ below → three ≡ two ++ above → all ≡ three ++ last ∷ []
    → all ≡ start ++ (first ∷ (below ++ (above ++ last ∷ [])))
joined {A} start one two three all below above first last is_one is_two is_three is_all =
    is_all ∙ ap (λ (l : List A). l ++ last ∷ []) (is_three ∙ ap (λ (l : List A). l ++ above) (is_two ∙ ap (λ (l : List A). l ++ below) is_one))
    ∙ simp append_assoc

-- the visit of a path above others, as it is logged
pub visited : (first levels : ℕ) (path parent low high : List Bool) (value : Value) (start one two three all : List Command) → levels ≢ 0
    → value ≡ initial_value path → low ≡ child path false → high ≡ child path true
    → one ≡ start ++ AddM path value parent ∷ [] → two ≡ one ++ set_up first (levels - 1) low path → three ≡ two ++ set_up first (levels - 1) high path
    → all ≡ three ++ EvictM path parent ∷ []
    → all ≡ start ++ set_up first levels path parent
visited first levels path parent low high value start one two three all some initial is_low is_high is_one is_two is_three is_all =
    joined start one two three all _ _ (AddM path (initial_value path) parent) (EvictM path parent)
    (is_one ∙ ap (λ (v : Value). start ++ AddM path v parent ∷ []) initial)
    (is_two ∙ ap (λ (p : List Bool). one ++ set_up first (levels - 1) p path) is_low)
    (is_three ∙ ap (λ (p : List Bool). two ++ set_up first (levels - 1) p path) is_high)
    is_all
    ∙ ap (λ (l : List Command). start ++ l) (sym (set_up-levels first levels path parent some))

-- the contents below a path, as they come
pub come : (first levels : ℕ) (path low high : List Bool) (start two three : List Content) → levels ≢ 0
    → low ≡ child path false → high ≡ child path true
    → two ≡ start ++ map (first_content first) (paths_below (levels - 1) low)
    → three ≡ two ++ map (first_content first) (paths_below (levels - 1) high)
    → three ≡ start ++ map (first_content first) (paths_below levels path)
come first levels path low high start two three some is_low is_high is_two is_three =
    let make : List Bool → Content = first_content first in
    let below : List Bool → List (List Bool) = paths_below (levels - 1) in
    is_three
    ∙ ap (λ (l : List Content). l ++ map make (below high)) is_two
    ∙ append_assoc start (map make (below low)) (map make (below high))
    ∙ ap (λ (l : List Content). start ++ l)
    (sym (map-append make (below low) (below high))
    ∙ ap (λ (p : List Bool). map make (below p ++ below high)) is_low
    ∙ ap (λ (p : List Bool). map make (below (child path false) ++ below p)) is_high
    ∙ ap (map make) (sym (paths_below-levels levels path some)))

-- ---- each is a command

first_typed : (first : ℕ) (path : List Bool) → first < 2 ^ 32 → depth path ≤ 10 → IsStamp (first_stamp first path)
first_typed first path small few = record {
  epoch = small;
  counter = let number = few_numbers path few in omega arith;
}

set_up_typed : (first levels : ℕ) (path parent : List Bool) → first < 2 ^ 32 → 0 < depth path → depth path + levels ≤ 10 → depth parent ≤ 10
    → AllByRecursion (IsPathCommand longest_blob) (set_up first levels path parent)
set_up_typed first zero path parent small some few above =
    let own : IsPath path = few_path path (omega arith) in
    let over : IsPath parent = few_path parent above in
    ((initial_value-kind longest_blob path own, over), ((own, over, first_typed first path small (omega arith)), tt))
set_up_typed first (suc levels) path parent small some few above =
    let own : IsPath path = few_path path (omega arith) in
    let over : IsPath parent = few_path parent above in
    let below : (on : Bool) → 0 < depth (child path on) = λ on. omega (arith, deeper path on some) in
    let longer : (on : Bool) → depth (child path on) + levels ≤ 10 = λ on. omega (arith, deeper path on some) in (
      (initial_value-kind longest_blob path own, over),
      AllByRecursion-append (IsPathCommand longest_blob) (set_up first levels (child path false) path) _
          (set_up_typed first levels (child path false) path small (below false) (longer false) (omega arith))
          (AllByRecursion-append (IsPathCommand longest_blob) (set_up first levels (child path true) path) _
          (set_up_typed first levels (child path true) path small (below true) (longer true) (omega arith))
          ((own, over), tt)),
    )

pub setup_typed : (wide : Bool) (first bits : ℕ) → first < 2 ^ 32 → bits ≤ 10 → AllByRecursion (IsPathCommand longest_blob) (setup_commands wide first bits)
setup_typed wide first zero small few = tt
setup_typed wide first (suc levels) small few =
    AllByRecursion-append (IsPathCommand longest_blob) (set_up first levels (child (root_of wide) false) (root_of wide)) _
    (set_up_typed first levels (child (root_of wide) false) (root_of wide) small (omega arith) (omega arith) (omega arith))
    (set_up_typed first levels (child (root_of wide) true) (root_of wide) small (omega arith) (omega arith) (omega arith))

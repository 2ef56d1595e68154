-- The text of a path: what was read as one is spelled so, and what is spelled so is read.
use Rattle.std.proofs.Common.{◌≡◌, ℕ, ◌+◌, ◌-◌, ◌*◌, ◌/◌, ◌%◌, ◌^◌, ◌<◌, ◌≤◌, ◌==◌, ◌&&◌, Bool, true, false, cond, leb, List, [], ◌∷◌, ◌++◌, length, take, Option, Some, None, IsTrue, Ok, refl, sym, ap, subst, ◌∙◌, arith}
use Rattle.std.specs.Int.{byte_len, from_be_bytes, to_be_bytes}
use Rattle.std.proofs.lemmas.Bool.{leb-true, le-leb, eqb-true, eq-eqb, and_parts, and_from}
use Rattle.std.proofs.lemmas.Nat.{shr_split, shr_high, mod_low, pow_pos}
use Rattle.tree_keys.specs.Bits.{bits_of, number_of}
use Rattle.tree_keys.specs.BitsLaws.{length-bits_of, number_back}
use Rattle.tree_keys.specs.Path.{key_bits, depth, tree_of, IsIn, IsPath, word_of, path_in_word, is_prefix}
use Rattle.tree_keys.proofs.BitsLaws.{bits_of-number_of, first_below}
use Rattle.tree_keys.proofs.TreeLaws.{tree-in, word_of-lt}
use Rattle.record_text.specs.Tree.{word_width}
use Rattle.record_text.specs.Reading.{path_in, path_at, if_below, path_below_in, path_below_at}
use Rattle.record_text.specs.Texts.{path_text}
use Rattle.record_text.proofs.FieldLaws.{AreBytes, AreBytes-rest, Begins, field_begins, field_again}
use Rattle.record_text.proofs.WideWordLaws.{wide_word}

-- ---- a path in a word

chosen : {A : Type 0} (b : Bool) (x y : A) → cond b (Some x) None ≡ Some y → (b ≡ true) × (x ≡ y)
chosen true x y e = (refl, cc)
chosen false x y e = absurd (cc)

-- a path that a word holds is of the word's tree, and the word again
word_of-path_in_word : (wide : Bool) (count word : ℕ) (path : List Bool) → word < 2 ^ key_bits wide → path_in_word wide count word ≡ Some path
    → (depth path ≡ count) × IsPath path × (word_of path ≡ word) × IsIn wide path
word_of-path_in_word wide count word path small e =
    let bits : List Bool = bits_of count (word / 2 ^ (key_bits wide - count)) in
    let c = chosen (leb count (key_bits wide) && (word % 2 ^ (key_bits wide - count) == 0)) (wide ∷ bits_of count (word / 2 ^ (key_bits wide - count))) path e in
    let tests = and_parts _ _ c.0 in
    let within : count ≤ key_bits wide = leb-true _ _ tests.0 in
    let empty : word % 2 ^ (key_bits wide - count) ≡ 0 = eqb-true _ _ tests.1 in
    let len : length bits ≡ count = length-bits_of count (word / 2 ^ (key_bits wide - count)) in
    let number : number_of bits ≡ word / 2 ^ (key_bits wide - count) = number_back count (word / 2 ^ (key_bits wide - count)) (first_below word (key_bits wide) count within small) in
    let whole : word / 2 ^ (key_bits wide - count) * 2 ^ (key_bits wide - count) ≡ word = omega (arith, shr_split word (key_bits wide - count)) in
    let again : number_of bits * 2 ^ (key_bits wide - length bits) ≡ word =
    ap (λ (n : ℕ). n * 2 ^ (key_bits wide - length bits)) number ∙ (ap (λ (n : ℕ). word / 2 ^ (key_bits wide - count) * 2 ^ (key_bits wide - n)) len ∙ whole) in
    let fits : length bits ≤ key_bits wide = omega arith in
    subst (λ (p : List Bool). (depth p ≡ count) × IsPath p × (word_of p ≡ word) × IsIn wide p) c.1 (len, fits, again, refl)

-- the word of a path of a tree holds it
path_in_word-word_of : (wide : Bool) (path : List Bool) → IsIn wide path → IsPath path → path_in_word wide (depth path) (word_of path) ≡ Some path
path_in_word-word_of wide [] within fits = absurd within
path_in_word-word_of wide (first ∷ bits) within fits =
    let unused : ℕ = key_bits first - length bits in
    let more : number_of bits * 2 ^ (key_bits first - length bits) ≡ number_of bits * 2 ^ (key_bits first - length bits) + 0 = omega arith in
    let high : number_of bits * 2 ^ (key_bits first - length bits) / 2 ^ (key_bits first - length bits) ≡ number_of bits =
    ap (λ (n : ℕ). n / 2 ^ (key_bits first - length bits)) more ∙ shr_high (number_of bits) unused 0 (pow_pos unused) in
    let low : number_of bits * 2 ^ (key_bits first - length bits) % 2 ^ (key_bits first - length bits) ≡ 0 =
    ap (λ (n : ℕ). n % 2 ^ (key_bits first - length bits)) more ∙ mod_low (number_of bits) unused 0 (pow_pos unused) in
    let tests : leb (length bits) (key_bits first) && (number_of bits * 2 ^ (key_bits first - length bits) % 2 ^ (key_bits first - length bits) == 0) ≡ true = and_from _ _ (le-leb _ _ fits) (eq-eqb _ _ low) in
    let here : path_in_word first (length bits) (word_of (first ∷ bits)) ≡ Some (first ∷ bits) = rw (tests, high, bits_of-number_of bits) refl in
    subst (λ (tree : Bool). path_in_word tree (length bits) (word_of (first ∷ bits)) ≡ Some (first ∷ bits)) within here

-- ---- a path's text

-- a field in the range of a tree's paths is the path's text
path_in-text : (wide : Bool) (text : List ℕ) (path : List Bool) → length text ≡ 1 + byte_len (word_width wide) → AreBytes text → path_in wide text ≡ Some path → (text ≡ path_text path) × IsPath path × IsIn wide path
path_in-text wide [] path len fits e = absurd (omega arith)
path_in-text wide (count ∷ bytes) path len fits e =
    let tail_fits = AreBytes-rest count bytes fits in
    let word = wide_word wide in
    let held = word_of-path_in_word wide count (from_be_bytes (word_width wide) bytes) path (word.below bytes tail_fits) e in
    let spelled : to_be_bytes (word_width (tree_of path)) (word_of path) ≡ bytes =
    ap (λ (tree : Bool). to_be_bytes (word_width tree) (word_of path)) (tree-in wide path held.3)
    ∙ (ap (to_be_bytes (word_width wide)) held.2 ∙ word.back bytes (omega arith) tail_fits) in
    (ap (λ (n : ℕ). n ∷ bytes) (sym held.0) ∙ ap (λ (word : List ℕ). depth path ∷ word) (sym spelled), held.1, held.3)

-- a path's text is in the range of its tree's paths
path_text-in : (wide : Bool) (path : List Bool) → IsIn wide path → IsPath path → path_in wide (path_text path) ≡ Some path
path_text-in wide path within fits =
    let tree : tree_of path ≡ wide = tree-in wide path within in
    let small : word_of path < 2 ^ key_bits wide = subst (λ (b : Bool). word_of path < 2 ^ key_bits b) tree (word_of-lt path fits) in
    ap (λ (b : Bool). path_in_word wide (depth path) (from_be_bytes (word_width wide) (to_be_bytes (word_width b) (word_of path)))) tree
    ∙ (ap (λ (word : ℕ). path_in_word wide (depth path) word) ((wide_word wide).again (word_of path) small)
    ∙ path_in_word-word_of wide path within fits)

path_text-length : (wide : Bool) (path : List Bool) → IsIn wide path → length (path_text path) ≡ 1 + byte_len (word_width wide)
path_text-length wide path within =
    let len : length (to_be_bytes (word_width (tree_of path)) (word_of path)) ≡ byte_len (word_width wide) =
    ap (λ (b : Bool). length (to_be_bytes (word_width b) (word_of path))) (tree-in wide path within) ∙ (wide_word wide).len (word_of path) in
    omega arith

pub path_begins : (wide : Bool) (bytes : List ℕ) (path : List Bool) (rest : List ℕ) → AreBytes bytes → path_at wide bytes ≡ Ok (path, rest) → Begins bytes (path_text path) rest × IsPath path × IsIn wide path
unfolding path_at
path_begins wide bytes path rest fits e =
    let f = field_begins (1 + byte_len (word_width wide)) (path_in wide) bytes path rest fits e in
    let text = path_in-text wide (take (1 + byte_len (word_width wide)) bytes) path f.1 f.3 f.2 in
    (subst (λ (t : List ℕ). Begins bytes t rest) text.0 f.0, text.1, text.2)

pub path_again : (wide : Bool) (path : List Bool) (rest : List ℕ) → IsIn wide path → IsPath path → path_at wide (path_text path ++ rest) ≡ Ok (path, rest)
unfolding path_at
path_again wide path rest within fits =
    field_again (1 + byte_len (word_width wide)) (path_in wide) (path_text path) rest path (path_text-length wide path within) (path_text-in wide path within fits)

-- ---- a path below a prefix

if_below-some : (prefix : List Bool) (found : Option (List Bool)) (path : List Bool) → if_below prefix found ≡ Some path → (found ≡ Some path) × (is_prefix prefix path ≡ true)
if_below-some prefix None path e = absurd (cc)
if_below-some prefix (Some other) path e =
    let c = chosen (is_prefix prefix other) other path e in
    (ap (λ (x : List Bool). Some x) c.1, subst (λ (x : List Bool). is_prefix prefix x ≡ true) c.1 c.0)

pub path_below_begins : (prefix : List Bool) (bytes : List ℕ) (path : List Bool) (rest : List ℕ) → AreBytes bytes → path_below_at prefix bytes ≡ Ok (path, rest)
    → Begins bytes (path_text path) rest × IsPath path × IsTrue (is_prefix prefix path)
unfolding path_below_at
path_below_begins prefix bytes path rest fits e =
    let f = field_begins (1 + byte_len (word_width (tree_of prefix))) (path_below_in prefix) bytes path rest fits e in
    let below = if_below-some prefix (path_in (tree_of prefix) (take (1 + byte_len (word_width (tree_of prefix))) bytes)) path f.2 in
    let text = path_in-text (tree_of prefix) (take (1 + byte_len (word_width (tree_of prefix))) bytes) path f.1 f.3 below.0 in
    (subst (λ (t : List ℕ). Begins bytes t rest) text.0 f.0, text.1, below.1)

pub path_below_again : (prefix path : List Bool) (rest : List ℕ) → IsIn (tree_of prefix) path → IsPath path → IsTrue (is_prefix prefix path) → path_below_at prefix (path_text path ++ rest) ≡ Ok (path, rest)
unfolding path_below_at
path_below_again prefix path rest within fits below =
    let found : path_below_in prefix (path_text path) ≡ Some path =
    ap (if_below prefix) (path_text-in (tree_of prefix) path within fits) ∙ ap (λ (b : Bool). cond b (Some path) None) below in
    field_again (1 + byte_len (word_width (tree_of prefix))) (path_below_in prefix) (path_text path) rest path (path_text-length (tree_of prefix) path within) found

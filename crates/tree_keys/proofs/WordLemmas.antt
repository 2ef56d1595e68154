-- A path in a word: its own bits first.
use Rattle.std.proofs.Common.{◌≡◌, ◌≢◌, ℕ, ◌+◌, ◌-◌, ◌*◌, ◌/◌, ◌%◌, ◌^◌, ◌<◌, ◌≤◌, ◌==◌, ◌&&◌, nat_le, Bool, true, false, List, ◌∷◌, length, Some, None, if◌then◌else◌, refl, sym, ◌∙◌, ap, subst, arith}
use Rattle.std.proofs.lemmas.Nat.{shl_whole, shr_split, shr_high, mod-pow-add, mod_below, pow_pos}
use Rattle.std.proofs.Math.Pow.{mod-mod-pow}
use Rattle.std.proofs.lemmas.Bool.{le-leb, lt-leb, eqb-true, eq-eqb}
use Rattle.tree_keys.specs.Bits.{bits_of, number_of}
use Rattle.tree_keys.specs.BitsLaws.{length-bits_of, number_back, mod_small}
use Rattle.tree_keys.proofs.BitsLaws.{bits_of-same}
use Rattle.tree_keys.specs.Path.{key_bits, word_of, path_in_word}

-- the bits of no key are more than a word of 128 has
key_bits-le : (wide : Bool) → key_bits wide ≤ 128
key_bits-le true = omega arith
key_bits-le false = omega arith

pub word_is : (wide : Bool) (len bits : ℕ) → len ≤ key_bits wide → bits < 2 ^ len → bits * 2 ^ (key_bits wide - len) % 2 ^ 128 ≡ word_of (wide ∷ bits_of len bits)
word_is wide len bits fits small =
    shl_whole bits len (key_bits wide - len) 128 small (omega (arith, key_bits-le wide))
    ∙ sym (ap (λ (n : ℕ). n * 2 ^ (key_bits wide - length (bits_of len bits))) (number_back len bits small) ∙ ap (λ (n : ℕ). bits * 2 ^ (key_bits wide - n)) (length-bits_of len bits))

pub word_of_root : (wide : Bool) (len bits : ℕ) → len ≡ 0 → word_of (wide ∷ bits_of len bits) ≡ 0
unfolding bits_of number_of
word_of_root wide len bits empty =
    let none : 0 * 2 ^ (key_bits wide - 0) ≡ 0 = omega arith in
    ap (λ (n : ℕ). word_of (wide ∷ bits_of n bits)) empty ∙ none

pub ruleset word_view = (word_is, word_of_root)

pub not_a_path : (wide : Bool) (len word : ℕ) → key_bits wide < len → path_in_word wide len word ≡ None
not_a_path wide len word long =
    ap (λ (b : Bool). if b && (word % 2 ^ (key_bits wide - len) == 0) then Some (wide ∷ bits_of len (word / 2 ^ (key_bits wide - len))) else None) (lt-leb len (key_bits wide) long)

-- the unused bits of a word are those of its low part
unused_bits : (len shift word : ℕ) → word % 2 ^ (len + shift) % 2 ^ shift ≡ word % 2 ^ shift
unused_bits len shift word = mod-mod-pow word len shift

-- and so are the bits of a path in it
used_bits : (len shift word : ℕ) → bits_of len (word % 2 ^ (len + shift) / 2 ^ shift) ≡ bits_of len (word / 2 ^ shift)
used_bits len shift word =
    let low = mod_below word (2 ^ shift) (pow_pos shift) in
    let own : word % 2 ^ (len + shift) / 2 ^ shift ≡ word / 2 ^ shift % 2 ^ len =
    ap (λ (n : ℕ). n / 2 ^ shift) (mod-pow-add word len shift) ∙ shr_high (word / 2 ^ shift % 2 ^ len) shift (word % 2 ^ shift) low in
    bits_of-same len _ _ (ap (λ (n : ℕ). n % 2 ^ len) own ∙ mod_small len (word / 2 ^ shift % 2 ^ len) (mod_below (word / 2 ^ shift) (2 ^ len) (pow_pos len)))

-- a word holds the path that its low part holds, as many bits as its tree's keys have
own_word : (wide : Bool) (len word : ℕ) → len ≤ key_bits wide → path_in_word wide len (word % 2 ^ key_bits wide) ≡ path_in_word wide len word
own_word wide len word fits =
    let shift : ℕ = key_bits wide - len in
    let whole : len + (key_bits wide - len) ≡ key_bits wide = omega arith in
    let rest = subst (λ (n : ℕ). word % 2 ^ n % 2 ^ (key_bits wide - len) ≡ word % 2 ^ (key_bits wide - len)) whole (unused_bits len (key_bits wide - len) word) in
    let path = subst (λ (n : ℕ). bits_of len (word % 2 ^ n / 2 ^ (key_bits wide - len)) ≡ bits_of len (word / 2 ^ (key_bits wide - len))) whole (used_bits len (key_bits wide - len) word) in
    ap (λ (n : ℕ). if nat_le len (key_bits wide) && (n == 0) then Some (wide ∷ bits_of len (word % 2 ^ key_bits wide / 2 ^ (key_bits wide - len))) else None) rest
    ∙ ap (λ (bits : List Bool). if nat_le len (key_bits wide) && (word % 2 ^ (key_bits wide - len) == 0) then Some (wide ∷ bits) else None) path

there : (wide : Bool) (len word : ℕ) → len ≤ key_bits wide → word / 2 ^ (key_bits wide - len) * 2 ^ (key_bits wide - len) ≡ word
    → path_in_word wide len word ≡ Some (wide ∷ bits_of len (word / 2 ^ (key_bits wide - len)))
there wide len word fits whole =
    let rest : word % 2 ^ (key_bits wide - len) ≡ 0 = omega (arith, shr_split word (key_bits wide - len)) in
    ap (λ (b : Bool). if b && (word % 2 ^ (key_bits wide - len) == 0) then Some (wide ∷ bits_of len (word / 2 ^ (key_bits wide - len))) else None) (le-leb len (key_bits wide) fits)
    ∙ ap (λ (b : Bool). if b then Some (wide ∷ bits_of len (word / 2 ^ (key_bits wide - len))) else None) (eq-eqb _ _ rest)

spoilt : (wide : Bool) (len word : ℕ) → len ≤ key_bits wide → word / 2 ^ (key_bits wide - len) * 2 ^ (key_bits wide - len) ≢ word → path_in_word wide len word ≡ None
spoilt wide len word fits apart = go (word % 2 ^ (key_bits wide - len) == 0) refl
  where
    go : (u : Bool) → (word % 2 ^ (key_bits wide - len) == 0) ≡ u → path_in_word wide len word ≡ None
    go true is =
        let rest : word % 2 ^ (key_bits wide - len) ≡ 0 = eqb-true _ _ is in
        absurd (apart (omega (arith, shr_split word (key_bits wide - len))))
    go false is =
        ap (λ (b : Bool). if b && (word % 2 ^ (key_bits wide - len) == 0) then Some (wide ∷ bits_of len (word / 2 ^ (key_bits wide - len))) else None) (le-leb len (key_bits wide) fits)
        ∙ ap (λ (b : Bool). if b then Some (wide ∷ bits_of len (word / 2 ^ (key_bits wide - len))) else None) is

-- ---- the same of the low part

pub path_there : (wide : Bool) (len word own : ℕ) → len ≤ key_bits wide → own ≡ word % 2 ^ key_bits wide → own / 2 ^ (key_bits wide - len) * 2 ^ (key_bits wide - len) ≡ own
    → path_in_word wide len word ≡ Some (wide ∷ bits_of len (own / 2 ^ (key_bits wide - len)))
path_there wide len word own fits is whole =
    sym (own_word wide len word fits) ∙ (ap (path_in_word wide len) (sym is) ∙ there wide len own fits whole)

pub path_spoilt : (wide : Bool) (len word own : ℕ) → len ≤ key_bits wide → own ≡ word % 2 ^ key_bits wide → own / 2 ^ (key_bits wide - len) * 2 ^ (key_bits wide - len) ≢ own
    → path_in_word wide len word ≡ None
path_spoilt wide len word own fits is apart =
    sym (own_word wide len word fits) ∙ (ap (path_in_word wide len) (sym is) ∙ spoilt wide len own fits apart)

pub ruleset of_word_view = (not_a_path, path_there, path_spoilt, length-bits_of, number_back)

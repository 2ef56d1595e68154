-- The numbers of parts: how large they are, and that they add up to those of the joined sums.
use Rattle.std.proofs.Common.{◌≡◌, ℕ, zero, suc, ◌+◌, ◌-◌, ◌^◌, ◌<◌, ◌≤◌, ◌==◌, ◌&&◌, Bool, List, [], ◌∷◌, ◌++◌, length, take, drop, map, fold, refl, sym, ap, ◌∙◌, subst, arith, mul-le-mul_right}
use Rattle.std.specs.Prelude.{slice_index}
use Rattle.std.specs.Str.{bytes_eq}
use Rattle.std.proofs.Math.ListN.{get_or-append}
use Rattle.std.proofs.Math.Seq.{get_or-append_right}
use Rattle.std.proofs.Math.Bool.{and-true, and_assoc}
use Rattle.std.proofs.lemmas.List.{get_or-append-add}
use mathlib.Core.Logic.{dite}
use native.Mathlib.Decide.{dec_lt, ℕ_discrete}
use Rattle.multiset_sum.specs.declared.part.Part.{Part}
use Rattle.multiset_sum.specs.Tally.{Tally, IsTally}
use Rattle.multiset_sum.specs.Sum.{zero_sum, joined, eight}
use Rattle.multiset_sum.proofs.SumLaws.{eight-slice_index}
use Rattle.epoch_gather.specs.Parts.{total}
use Rattle.epoch_gather.specs.Verdict.{same_tally}
use Rattle.epoch_book.specs.Words.{column}
use Rattle.epoch_book.specs.Numbers.{numbers_of, numbers_of_sum, numbers_of_sums}

-- ---- the numbers of a sum at their places

eight-at : (f : ℕ → ℕ) (lane : ℕ) → lane < 8 → slice_index (eight f) lane ≡ f lane
eight-at f zero within = refl
eight-at f (suc zero) within = refl
eight-at f (suc (suc zero)) within = refl
eight-at f (suc (suc (suc zero))) within = refl
eight-at f (suc (suc (suc (suc zero)))) within = refl
eight-at f (suc (suc (suc (suc (suc zero))))) within = refl
eight-at f (suc (suc (suc (suc (suc (suc zero)))))) within = refl
eight-at f (suc (suc (suc (suc (suc (suc (suc zero))))))) within = refl
eight-at f (suc (suc (suc (suc (suc (suc (suc (suc lane)))))))) within = absurd (omega arith)

eight-same : (f g : ℕ → ℕ) → ((lane : ℕ) → lane < 8 → f lane ≡ g lane) → eight f ≡ eight g
eight-same f g same = cc (same 0 (omega arith), same 1 (omega arith), same 2 (omega arith), same 3 (omega arith), same 4 (omega arith), same 5 (omega arith), same 6 (omega arith), same 7 (omega arith))

added-lane : (a e : Tally) (lane : ℕ) → lane < 8 → slice_index (numbers_of_sums a e) lane ≡ slice_index a.lanes lane
added-lane a e lane within = get_or-append (eight (slice_index a.lanes)) (a.count ∷ numbers_of_sum e) 0 lane within ∙ eight-at (slice_index a.lanes) lane within

evicted-lane : (a e : Tally) (lane : ℕ) → lane < 8 → slice_index (numbers_of_sums a e) (9 + lane) ≡ slice_index e.lanes lane
evicted-lane a e lane within =
    get_or-append-add (numbers_of_sum a) (numbers_of_sum e) lane 0
    ∙ get_or-append (eight (slice_index e.lanes)) (e.count ∷ []) 0 lane within
    ∙ eight-at (slice_index e.lanes) lane within

-- ---- how large they are

lane-bounded : (s : Tally) → IsTally s → s.count < 2 ^ 25 → (lane : ℕ) → lane < 8 → slice_index s.lanes lane ≤ 2 ^ 57
lane-bounded s tally few lane within =
    let bound = tally.bounded lane (omega (arith, tally.eight)) in
    let count : s.count ≤ 2 ^ 25 = omega arith in
    let most = mul-le-mul_right (2 ^ 32 - 1) count in
    omega (arith, bound, most)

past-end : (xs : List ℕ) (k : ℕ) → length xs ≤ k → slice_index xs k ≡ 0
past-end [] k past = refl
past-end (x ∷ xs) zero past = absurd (omega arith)
past-end (x ∷ xs) (suc k) past = past-end xs k (omega arith)

sum-bounded : (s : Tally) → IsTally s → s.count < 2 ^ 25 → (k : ℕ) → slice_index (numbers_of_sum s) k ≤ 2 ^ 57
sum-bounded s tally few k =
    dite (dec_lt k 8)
    (λ lane. omega (arith, get_or-append (eight (slice_index s.lanes)) (s.count ∷ []) 0 k lane, eight-at (slice_index s.lanes) k lane, lane-bounded s tally few k lane))
    (λ apart. dite (ℕ_discrete k 8)
    (λ last. subst (λ (j : ℕ). slice_index (numbers_of_sum s) j ≤ 2 ^ 57) (sym last) (omega arith))
    (λ past. omega (arith, past-end (numbers_of_sum s) k (omega arith))))

-- no number of a part is more than 2^57
pub numbers-bounded : (part : Part) → IsTally part.added → IsTally part.evicted → part.added.count < 2 ^ 25 → part.evicted.count < 2 ^ 25 → (word : ℕ) → slice_index (numbers_of part) word ≤ 2 ^ 57
numbers-bounded part added evicted few_added few_evicted word =
    dite (dec_lt word 9)
    (λ first. omega (arith, get_or-append (numbers_of_sum part.added) (numbers_of_sum part.evicted) 0 word first, sum-bounded part.added added few_added word))
    (λ later. omega (arith, get_or-append_right (numbers_of_sum part.added) (numbers_of_sum part.evicted) word 0 (omega arith), sum-bounded part.evicted evicted few_evicted (word - 9)))

-- ---- what they add up to

fold-map : {A B C : Type 0} (f : B → A → B) (g : C → A) (b : B) (cs : List C) → fold f b (map g cs) ≡ fold (λ b c. f b (g c)) b cs
fold-map f g b [] = refl
fold-map f g b (c ∷ cs) = fold-map f g (f b (g c)) cs

fold-same : {A : Type 0} (f g : A → ℕ) (n : ℕ) (xs : List A) → ((x : A) → f x ≡ g x) → fold (λ a x. a + f x) n xs ≡ fold (λ a x. a + g x) n xs
fold-same f g n [] same = refl
fold-same f g n (x ∷ xs) same = ap (λ (k : ℕ). fold (λ a y. a + f y) (n + k) xs) (same x) ∙ fold-same f g (n + g x) xs same

-- where a word has some number of each part, it adds up to the sum of these
column-numbers : (number : Part → ℕ) (word : ℕ) (parts : List Part) → ((part : Part) → slice_index (numbers_of part) word ≡ number part) → column word (map numbers_of parts) ≡ fold (λ a part. a + number part) 0 parts
column-numbers number word parts same =
    fold-map (λ a row. a + slice_index row word) numbers_of 0 parts
    ∙ fold-same (λ part. slice_index (numbers_of part) word) number 0 parts same

total-lane : (side : Part → Tally) (lane : ℕ) → lane < 8 → (sum : Tally) (parts : List Part)
    → slice_index (fold (λ s part. joined s (side part)) sum parts).lanes lane ≡ fold (λ a part. a + slice_index (side part).lanes lane) (slice_index sum.lanes lane) parts
total-lane side lane within sum [] = refl
total-lane side lane within sum (part ∷ parts) =
    total-lane side lane within (joined sum (side part)) parts
    ∙ ap (λ (k : ℕ). fold (λ a p. a + slice_index (side p).lanes lane) k parts) (eight-at (λ l. slice_index sum.lanes l + slice_index (side part).lanes l) lane within)

total-count : (side : Part → Tally) (sum : Tally) (parts : List Part) → (fold (λ s part. joined s (side part)) sum parts).count ≡ fold (λ a part. a + (side part).count) sum.count parts
total-count side sum [] = refl
total-count side sum (part ∷ parts) = total-count side (joined sum (side part)) parts

zero-lane : (lane : ℕ) → lane < 8 → slice_index zero_sum.lanes lane ≡ 0
zero-lane lane within = eight-at (λ _. 0) lane within

abbrev added-of : List Part → Tally
added-of parts = total (λ part. part.added) parts

abbrev evicted-of : List Part → Tally
evicted-of parts = total (λ part. part.evicted) parts

added-column : (parts : List Part) (lane : ℕ) → lane < 8 → column lane (map numbers_of parts) ≡ slice_index (added-of parts).lanes lane
added-column parts lane within =
    column-numbers (λ part. slice_index part.added.lanes lane) lane parts (λ part. added-lane part.added part.evicted lane within)
    ∙ sym (total-lane (λ part. part.added) lane within zero_sum parts ∙ ap (λ (k : ℕ). fold (λ a part. a + slice_index part.added.lanes lane) k parts) (zero-lane lane within))

evicted-column : (parts : List Part) (lane : ℕ) → lane < 8 → column (9 + lane) (map numbers_of parts) ≡ slice_index (evicted-of parts).lanes lane
evicted-column parts lane within =
    column-numbers (λ part. slice_index part.evicted.lanes lane) (9 + lane) parts (λ part. evicted-lane part.added part.evicted lane within)
    ∙ sym (total-lane (λ part. part.evicted) lane within zero_sum parts ∙ ap (λ (k : ℕ). fold (λ a part. a + slice_index part.evicted.lanes lane) k parts) (zero-lane lane within))

-- eighteen words are those of the sums of all parts, where each is the sum of the parts' numbers there
eighteen : (words : List ℕ) → length words ≡ 18 → words ≡ (eight (slice_index words) ++ slice_index words 8 ∷ []) ++ (eight (λ lane. slice_index words (9 + lane)) ++ slice_index words 17 ∷ [])
eighteen (a ∷ b ∷ c ∷ d ∷ e ∷ f ∷ g ∷ h ∷ i ∷ j ∷ k ∷ l ∷ m ∷ n ∷ o ∷ p ∷ q ∷ r ∷ []) count = refl
eighteen words count = absurd (omega arith)

pub words-are : (words : List ℕ) (parts : List Part) → length words ≡ 18 → ((word : ℕ) → word < 18 → slice_index words word ≡ column word (map numbers_of parts)) → words ≡ numbers_of_sums (added-of parts) (evicted-of parts)
words-are words parts count sums =
    let added = eight-same (slice_index words) (slice_index (added-of parts).lanes) (λ lane within. sums lane (omega arith) ∙ added-column parts lane within) in
    let evicted = eight-same (λ lane. slice_index words (9 + lane)) (slice_index (evicted-of parts).lanes) (λ lane within. sums (9 + lane) (omega arith) ∙ evicted-column parts lane within) in
    let added_count : slice_index words 8 ≡ (added-of parts).count = sums 8 (omega arith) ∙ column-numbers (λ part. part.added.count) 8 parts (λ part. refl) ∙ sym (total-count (λ part. part.added) zero_sum parts) in
    let evicted_count : slice_index words 17 ≡ (evicted-of parts).count = sums 17 (omega arith) ∙ column-numbers (λ part. part.evicted.count) 17 parts (λ part. refl) ∙ sym (total-count (λ part. part.evicted) zero_sum parts) in
    eighteen words count
    ∙ ap (λ (xs : List ℕ). (xs ++ slice_index words 8 ∷ []) ++ (eight (λ lane. slice_index words (9 + lane)) ++ slice_index words 17 ∷ [])) added
    ∙ ap (λ (n : ℕ). (eight (slice_index (added-of parts).lanes) ++ n ∷ []) ++ (eight (λ lane. slice_index words (9 + lane)) ++ slice_index words 17 ∷ [])) added_count
    ∙ ap (λ (xs : List ℕ). numbers_of_sum (added-of parts) ++ (xs ++ slice_index words 17 ∷ [])) evicted
    ∙ ap (λ (n : ℕ). numbers_of_sum (added-of parts) ++ (eight (slice_index (evicted-of parts).lanes) ++ n ∷ [])) evicted_count

-- ---- whether two sums are one

snoc-same : (xs ys : List ℕ) (m n : ℕ) → length xs ≡ length ys → bytes_eq (xs ++ m ∷ []) (ys ++ n ∷ []) ≡ (bytes_eq xs ys && m == n)
snoc-same [] [] m n same = and-true (m == n)
snoc-same [] (y ∷ ys) m n same = absurd (omega arith)
snoc-same (x ∷ xs) [] m n same = absurd (omega arith)
snoc-same (x ∷ xs) (y ∷ ys) m n same = ap (λ (b : Bool). x == y && b) (snoc-same xs ys m n (omega arith)) ∙ sym (and_assoc (x == y) (bytes_eq xs ys) (m == n))

total-eight : (side : Part → Tally) (sum : Tally) (parts : List Part) → length sum.lanes ≡ 8 → length (fold (λ s part. joined s (side part)) sum parts).lanes ≡ 8
total-eight side sum [] count = count
total-eight side sum (part ∷ parts) count = total-eight side (joined sum (side part)) parts refl

-- the two halves of the words of all parts are one exactly where the two sums are
pub halves-are : (words : List ℕ) (parts : List Part) → length words ≡ 18 → ((word : ℕ) → word < 18 → slice_index words word ≡ column word (map numbers_of parts)) → bytes_eq (take 9 words) (drop 9 words) ≡ same_tally (added-of parts) (evicted-of parts)
halves-are words parts count sums =
    let added = eight-slice_index (added-of parts).lanes (total-eight (λ part. part.added) zero_sum parts refl) in
    let evicted = eight-slice_index (evicted-of parts).lanes (total-eight (λ part. part.evicted) zero_sum parts refl) in
    ap (λ (ws : List ℕ). bytes_eq (take 9 ws) (drop 9 ws)) (words-are words parts count sums)
    ∙ snoc-same (eight (slice_index (added-of parts).lanes)) (eight (slice_index (evicted-of parts).lanes)) (added-of parts).count (evicted-of parts).count refl
    ∙ ap (λ (xs : List ℕ). bytes_eq xs (eight (slice_index (evicted-of parts).lanes)) && (added-of parts).count == (evicted-of parts).count) added
    ∙ ap (λ (ys : List ℕ). bytes_eq (added-of parts).lanes ys && (added-of parts).count == (evicted-of parts).count) evicted

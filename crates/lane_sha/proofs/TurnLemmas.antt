-- How the words and the rounds of a block go on, by turns of sixteen.
use Rattle.std.proofs.Common.{◌≡◌, ℕ, zero, suc, ◌<◌, ◌+◌, ◌-◌, ◌*◌, ◌/◌, ◌%◌, List, slice_index, arith, ap, sym, subst, ◌∙◌}
use Rattle.sha2.specs.Sha256.{add32, next_word, round, rounds, round_constants, schedule, small_sigma0, small_sigma1, word_at}
use Rattle.sha2.proofs.Schedule256.{rounds_next, slice_index-schedule_first, slice_index-schedule_next}
use Rattle.lane_sha.proofs.WordLemmas.{below_eight}

-- what holds of each of the sixteen words of a turn
pub below_sixteen : (P : ℕ → Type 0) → P 0 → P 1 → P 2 → P 3 → P 4 → P 5 → P 6 → P 7
    → P 8 → P 9 → P 10 → P 11 → P 12 → P 13 → P 14 → P 15 → (i : ℕ) → i < 16 → P i
below_sixteen P p0 p1 p2 p3 p4 p5 p6 p7 p8 p9 p10 p11 p12 p13 p14 p15 i h =
    let place : 8 * (i / 8) + i % 8 ≡ i = omega arith in
    subst P place (below_two (λ half. (k : ℕ) → k < 8 → P (8 * half + k))
    (below_eight _ p0 p1 p2 p3 p4 p5 p6 p7) (below_eight _ p8 p9 p10 p11 p12 p13 p14 p15)
    (i / 8) (omega arith) (i % 8) (omega arith))
  where
    below_two : (Q : ℕ → Type 0) → Q 0 → Q 1 → (n : ℕ) → n < 2 → Q n
    below_two Q q0 q1 zero below = q0
    below_two Q q0 q1 (suc zero) below = q1
    below_two Q q0 q1 (suc (suc n)) below = absurd (omega arith)

-- the words of the first turn are the block's
pub first_is : (b : List ℕ) (i x : ℕ) → i < 16 → x ≡ word_at b (4 * i) → x ≡ slice_index (schedule b 48) (16 * 0 + i)
first_is b i x below is =
    is ∙ sym (slice_index-schedule_first b 48 i below) ∙ ap (slice_index (schedule b 48)) (omega arith)

-- a word of the turn after this one
pub next_is : (b : List ℕ) (turn i : ℕ) (before_16 before_15 before_7 before_2 x : ℕ) → turn < 3 → i < 16
    → before_16 ≡ slice_index (schedule b 48) (16 * turn + i)
    → before_15 ≡ slice_index (schedule b 48) (16 * turn + (i + 1))
    → before_7 ≡ slice_index (schedule b 48) (16 * turn + (i + 9))
    → before_2 ≡ slice_index (schedule b 48) (16 * turn + (i + 14))
    → x ≡ add32 (add32 (add32 (small_sigma1 before_2) before_7) (small_sigma0 before_15)) before_16
    → x ≡ slice_index (schedule b 48) (16 * (turn + 1) + i)
next_is b turn i before_16 before_15 before_7 before_2 x last below is_16 is_15 is_7 is_2 is =
    let t : ℕ = 16 * (turn + 1) + i in
    let at_16 : 16 * turn + i ≡ t - 16 = omega arith in
    let at_15 : 16 * turn + (i + 1) ≡ t - 15 = omega arith in
    let at_7 : 16 * turn + (i + 9) ≡ t - 7 = omega arith in
    let at_2 : 16 * turn + (i + 14) ≡ t - 2 = omega arith in
    let follows : slice_index (schedule b 48) t ≡ next_word (schedule b 48) t =
    slice_index-schedule_next b 48 t (omega arith) (omega arith) in
    is ∙ rw (is_16, is_15, is_7, is_2, at_16, at_15, at_7, at_2) (sym follows)

-- a word of the turn after this one, counted from this turn
pub counted_on : (b : List ℕ) (turn i x : ℕ) → x ≡ slice_index (schedule b 48) (16 * (turn + 1) + i)
    → x ≡ slice_index (schedule b 48) (16 * turn + (i + 16))
counted_on b turn i x is = is ∙ ap (slice_index (schedule b 48)) (omega arith)

-- one round more
pub round_is : (b h v : List ℕ) (turn place k x : ℕ) (next : List ℕ)
    → v ≡ rounds h (schedule b 48) (16 * turn + place)
    → k ≡ slice_index round_constants (16 * turn + place)
    → x ≡ slice_index (schedule b 48) (16 * turn + place)
    → next ≡ round v k x
    → next ≡ rounds h (schedule b 48) (16 * turn + (place + 1))
round_is b h v turn place k x next v_is k_is x_is is =
    let t : ℕ = 16 * turn + place in
    let on : t + 1 ≡ 16 * turn + (place + 1) = omega arith in
    let follows : round v k x ≡ rounds h (schedule b 48) (t + 1) = rw (v_is, k_is, x_is) (sym (rounds_next h (schedule b 48) t)) in
    is ∙ rw on at follows

-- the same rounds, with k places and one counted together
pub counted : (b h v : List ℕ) (turn place k : ℕ) → v ≡ rounds h (schedule b 48) (16 * turn + (place + k + 1))
    → v ≡ rounds h (schedule b 48) (16 * turn + (place + (k + 1)))
counted b h v turn place k is =
    let same : place + k + 1 ≡ place + (k + 1) = omega arith in
    rw same at is

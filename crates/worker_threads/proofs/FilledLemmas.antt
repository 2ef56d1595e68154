-- The contents of all places: by the number of a place, and put back.
use Rattle.std.proofs.Common.{◌≡◌, ℕ, zero, suc, ◌+◌, ◌*◌, ◌<◌, List, [], ◌∷◌, ◌++◌, length, take, drop, get_or, refl, sym, ◌∙◌, ap, arith}
use Rattle.std.proofs.lemmas.List.{length-append, length-take-le, take-append-drop, get_or_append_left, get_or-append-add, take_at, drop_at}
use Rattle.host_core.specs.World.{Seats, unmoved}
use Rattle.host_world.specs.Lending.{all_contents, filled}
use Rattle.worker_threads.proofs.ShapeLemmas.{AreShaped}

module _ {C : Type 0} where
  -- Shards are filled with what shards of their shape have.
  pub filled_back : (xs ys : List (Seats C)) → AreShaped xs ys → filled xs (all_contents ys) ≡ ys
  filled_back [] [] same = refl
  filled_back [] (y ∷ ys) same = absurd same
  filled_back (x ∷ xs) [] same = absurd same
  filled_back (x ∷ xs) (y ∷ ys) same =
      let front = take_at y.contents (all_contents ys) (length x.contents) same.0 in
      let back = drop_at y.contents (all_contents ys) (length x.contents) same.0 in
      (λ k. record { contents = front k; moved = sym same.1 k } ∷ filled xs (back k))
      ∙ ap (λ (more : List (Seats C)). y ∷ more) (filled_back xs ys same.2)

  -- ---- the number of a place

  -- each shard has five seats
  abbrev pub HaveFive : List (Seats C) → Type 0
  HaveFive shards = (s : ℕ) → s < length shards → length (get_or shards s (unmoved [])).contents ≡ 5

  pub all_count : (shards : List (Seats C)) → HaveFive shards → length (all_contents shards) ≡ length shards * 5
  all_count [] five = refl
  all_count (seats ∷ shards) five =
      let own : length seats.contents ≡ 5 = five 0 (omega arith) in
      let rest = all_count shards (λ s there. five (suc s) (omega (arith, there))) in
      omega (arith, own, rest, length-append seats.contents (all_contents shards))

  -- What is at a seat stands at the number of its place.
  pub all_at : (shards : List (Seats C)) → HaveFive shards → (s seat n : ℕ) (d : C) → s < length shards → seat < 5 → n ≡ s * 5 + seat
      → get_or (all_contents shards) n d ≡ get_or (get_or shards s (unmoved [])).contents seat d
  all_at [] five s seat n d there few is = absurd (omega (arith, there))
  all_at (seats ∷ shards) five zero seat n d there few is =
      let own : length seats.contents ≡ 5 = five 0 (omega arith) in
      let same : n ≡ seat = omega (arith, is) in
      ap (λ (k : ℕ). get_or (seats.contents ++ all_contents shards) k d) same
      ∙ get_or_append_left seats.contents (all_contents shards) d seat (omega (arith, own, few))
  all_at (seats ∷ shards) five (suc s) seat n d there few is =
      let own : length seats.contents ≡ 5 = five 0 (omega arith) in
      let same : n ≡ length seats.contents + (s * 5 + seat) = omega (arith, is, own) in
      ap (λ (k : ℕ). get_or (seats.contents ++ all_contents shards) k d) same
      ∙ get_or-append-add seats.contents (all_contents shards) (s * 5 + seat) d
      ∙ all_at shards (λ t within. five (suc t) (omega (arith, within))) s seat (s * 5 + seat) d (omega (arith, there)) few refl

  -- ---- lent places

  -- What is put into places first does not matter,
  pub filled_again : (shards : List (Seats C)) (first second : List C) → length first ≡ length (all_contents shards)
      → filled (filled shards first) second ≡ filled shards second
  filled_again [] first second many = refl
  filled_again (seats ∷ shards) first second many =
      let n = length seats.contents in
      let all = length-append seats.contents (all_contents shards) in
      let own : length (take n first) ≡ n = length-take-le n first (omega (arith, many, all)) in
      let cut = ap (λ (xs : List C). length xs) (take-append-drop n first) in
      let both = length-append (take n first) (drop n first) in
      (λ k. record { contents = take (own k) second; moved = seats.moved } ∷ filled (filled shards (drop n first)) (drop (own k) second))
      ∙ ap (λ (more : List (Seats C)). record { contents = take n second; moved = seats.moved } ∷ more)
      (filled_again shards (drop n first) (drop n second) (omega (arith, many, all, own, cut, both)))

  -- and there are as many.
  pub filled_count : (shards : List (Seats C)) (contents : List C) → length contents ≡ length (all_contents shards)
      → length (all_contents (filled shards contents)) ≡ length (all_contents shards)
  filled_count [] contents many = refl
  filled_count (seats ∷ shards) contents many =
      let n = length seats.contents in
      let all = length-append seats.contents (all_contents shards) in
      let own : length (take n contents) ≡ n = length-take-le n contents (omega (arith, many, all)) in
      let cut = ap (λ (xs : List C). length xs) (take-append-drop n contents) in
      let both = length-append (take n contents) (drop n contents) in
      let rest = filled_count shards (drop n contents) (omega (arith, many, all, own, cut, both)) in
      let joined = length-append (take n contents) (all_contents (filled shards (drop n contents))) in
      omega (arith, all, own, rest, joined)

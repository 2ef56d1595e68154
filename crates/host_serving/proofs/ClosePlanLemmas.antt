-- How far the loops of a close are with the events of its form.
use Rattle.std.proofs.Common.{◌≡◌, ℕ, zero, suc, ◌+◌, ◌-◌, ◌<◌, ◌≤◌, ◌%◌, ◌↔◌, Bool, true, false, List, [], ◌∷◌, ◌++◌, length, Option, Some, None, if◌then◌else◌, refl, sym, ◌∙◌, ap, subst, mod-eq_of_lt, arith}
use Rattle.std.proofs.lemmas.Bool.{eq-eqb, ne_eqb}
use Rattle.host_core.specs.Host.{Host}
use Rattle.host_core.specs.World.{World}
use Rattle.host_core.specs.WorldEvent.{WorldEvent, advances, moves, opens, IsLast, IsEnabled, step, run_events}
use Rattle.host_order.specs.Close.{advances_from}
use Rattle.host_world.specs.declared.fault.ClockEnd.{ClockEnd}
use Rattle.host_world.specs.Ending.{end_of}
use Rattle.host_serving.specs.Leading.{first_of, LeadsBy, LeadsAs, LeadsByFront}
use Rattle.host_serving.specs.Form.{AreOfClose, until_end, own_moves_from, all_advance, own_moves, moves_of_each, all_move, events_of_shards, events_of_close}
use Rattle.host_serving.proofs.LeadingLaws.{by-none, by-one}
use Rattle.host_serving.proofs.MoveLemmas.{next_own}
use Rattle.host_serving.proofs.PlanLemmas.{IsPartDone, part-none, part-whole, part-front, part-left, GoesOn, part-next, part-then, part-then_front, unless-stopped, unless-on, unless-on_front, unless-front}

-- ---- a worker's own shards

-- where none of so many shards is the worker's, it moves the same of those behind them
skip : {R : Type 0} (n i : ℕ) (k t c : ℕ) → ((u : ℕ) → t ≤ u → u < t + k → u % n ≡ i → ⊥)
    → own_moves_from {R = R} n i t c ≡ own_moves_from {R = R} n i (t + k) (c - k)
skip {R = R} n i zero t c none' =
    let there : t ≡ t + 0 = omega arith in
    let many : c ≡ c - 0 = omega arith in
    ap (λ (u : ℕ). own_moves_from {R = R} n i u c) there ∙ ap (λ (m : ℕ). own_moves_from {R = R} n i (t + 0) m) many
skip {R = R} n i (suc k) t zero none' =
    let many : 0 ≡ 0 - suc k = omega arith in
    ap (λ (m : ℕ). own_moves_from {R = R} n i (t + suc k) m) many
skip {R = R} n i (suc k) t (suc c) none' =
    let there : suc t + k ≡ t + suc k = omega arith in
    let many : c - k ≡ suc c - suc k = omega arith in
    ap (λ (b : Bool). if b then moves i t ∷ own_moves_from {R = R} n i (suc t) c else own_moves_from {R = R} n i (suc t) c)
    (ne_eqb (t % n) i (none' t (omega arith) (omega arith)))
    ∙ skip {R = R} n i k (suc t) c (λ u above below. none' u (omega (arith, above)) (omega (arith, below)))
    ∙ ap (λ (u : ℕ). own_moves_from {R = R} n i u (c - k)) there
    ∙ ap (λ (m : ℕ). own_moves_from {R = R} n i (t + suc k) m) many

-- the first is of the worker's number
first_own : {R : Type 0} (n i shards : ℕ) → i < n → own_moves_from {R = R} n i 0 shards ≡ own_moves_from {R = R} n i i (shards - i)
first_own {R = R} n i shards there =
    let begin : 0 + i ≡ i = omega arith in
    skip {R = R} n i i 0 shards (λ u above below own.
    let less : u < n = omega (arith, below, there) in
    omega (arith, below, own, mod-eq_of_lt less))
    ∙ ap (λ (u : ℕ). own_moves_from {R = R} n i u (shards - i)) begin

-- behind one of its own comes the next that is so many further
next_moves : {R : Type 0} (n i s shards : ℕ) → i < n → s % n ≡ i → s < shards
    → own_moves_from {R = R} n i s (shards - s) ≡ moves i s ∷ own_moves_from {R = R} n i (s + n) (shards - (s + n))
next_moves {R = R} n i s shards there own less =
    let many : shards - s ≡ suc (shards - suc s) = omega (arith, less) in
    let behind : suc s + (n - 1) ≡ s + n = omega (arith, there) in
    let fewer : (shards - suc s) - (n - 1) ≡ shards - (s + n) = omega (arith, there) in
    ap (λ (m : ℕ). own_moves_from {R = R} n i s m) many
    ∙ ap (λ (b : Bool). if b then moves i s ∷ own_moves_from {R = R} n i (suc s) (shards - suc s) else own_moves_from {R = R} n i (suc s) (shards - suc s)) (eq-eqb (s % n) i own)
    ∙ ap (λ (rest : List (WorldEvent R)). moves i s ∷ rest)
    (skip {R = R} n i (n - 1) (suc s) (shards - suc s) (λ u above below own'.
    let near : u < s + n = omega (arith, below, there) in
    let from : s ≤ u = omega (arith, above) in
    omega (arith, above, next_own s u n i own own' from near))
    ∙ ap (λ (u : ℕ). own_moves_from {R = R} n i u ((shards - suc s) - (n - 1))) behind
    ∙ ap (λ (m : ℕ). own_moves_from {R = R} n i (s + n) m) fewer)

module _ {C R : Type 0} (host : Host C R) (world : World C) where
  abbrev workers : ℕ
  workers = length world.workers

  -- ---- all advance

  -- the workers below one have, and the others are left
  abbrev pub AdvancesLeft : World C → ℕ → Type 0
  AdvancesLeft now j = IsPartDone host world now None (all_advance host world) (until_end host now (advances_from j (workers - j)))

  pub advances-first : AdvancesLeft world 0
  advances-first =
      let all : workers ≡ workers - 0 = omega arith in
      part-left host world world None (all_advance host world) (all_advance host world) (until_end host world (advances_from 0 (workers - 0)))
      (ap (λ (n : ℕ). until_end host world (advances_from 0 n)) all)
      (part-none host world (all_advance host world))

  pub advances-all : (now : World C) (j : ℕ) → workers ≤ j → AdvancesLeft now j → LeadsBy host world now None (all_advance host world)
  advances-all now j past left =
      let none' : workers - j ≡ 0 = omega (arith, past) in
      part-whole host world now None (all_advance host world)
      (part-left host world now None (all_advance host world) (until_end host now (advances_from j (workers - j))) []
      (ap (λ (n : ℕ). until_end host now (advances_from j n)) none') left)

  pub advances-front : (now : World C) (j : ℕ) → AdvancesLeft now j → LeadsByFront host world now (all_advance host world)
  advances-front now j left = part-front host world now None (all_advance host world) (until_end host now (advances_from j (workers - j))) left

  -- the next did, or there was no epoch to come
  abbrev pub AdvancesOn : World C → ℕ → Option ClockEnd → Type 0
  AdvancesOn new j None = AdvancesLeft new (suc j)
  AdvancesOn new j (Some end) = LeadsBy host world new (Some end) (all_advance host world)

  pub advances-next : (now new : World C) (j : ℕ) (end : Option ClockEnd) → j < workers → AdvancesLeft now j → IsEnabled host now (advances j)
      → new ≡ step host now (advances j) → end ≡ end_of host now (advances j) → AdvancesOn new j end
  advances-next now new j end there left may is ends =
      go end (part-next host world now new (all_advance host world) (advances j) (advances_from (suc j) (workers - suc j)) end
      (part-left host world now None (all_advance host world) (until_end host now (advances_from j (workers - j)))
      (until_end host now (advances j ∷ advances_from (suc j) (workers - suc j)))
      (ap (λ (n : ℕ). until_end host now (advances_from j n)) more) left) may is ends)
    where
      more : workers - j ≡ suc (workers - suc j)
      more = omega (arith, there)

      go : (end : Option ClockEnd) → GoesOn host world new (all_advance host world) (advances_from (suc j) (workers - suc j)) end
          → AdvancesOn new j end
      go None part = part
      go (Some end) way = way

  -- ---- a worker moves its own

  module _ (i : ℕ) where
    -- its shards below one are moved, and the others are left
    abbrev pub MovesLeft : World C → ℕ → Type 0
    MovesLeft now s = IsPartDone host world now None (own_moves host world i) (until_end host now (own_moves_from workers i s (length world.shards - s)))

    pub moves-first : i < workers → MovesLeft world i
    moves-first there =
        part-left host world world None (own_moves host world i) (own_moves host world i) (until_end host world (own_moves_from workers i i (length world.shards - i)))
        (ap (until_end host world) (first_own workers i (length world.shards) there))
        (part-none host world (own_moves host world i))

    pub moves-all : (now : World C) (s : ℕ) → length world.shards ≤ s → MovesLeft now s → LeadsBy host world now None (own_moves host world i)
    moves-all now s past left =
        let none' : length world.shards - s ≡ 0 = omega (arith, past) in
        part-whole host world now None (own_moves host world i)
        (part-left host world now None (own_moves host world i) (until_end host now (own_moves_from workers i s (length world.shards - s))) []
        (ap (λ (n : ℕ). until_end host now (own_moves_from workers i s n)) none') left)

    pub moves-front : (now : World C) (s : ℕ) → MovesLeft now s → LeadsByFront host world now (own_moves host world i)
    moves-front now s left =
        part-front host world now None (own_moves host world i) (until_end host now (own_moves_from workers i s (length world.shards - s))) left

    -- the next is, or the worker's clock ended
    abbrev pub MovesOn : World C → ℕ → Option ClockEnd → Type 0
    MovesOn new s None = MovesLeft new (s + workers)
    MovesOn new s (Some end) = LeadsBy host world new (Some end) (own_moves host world i)

    pub moves-next : (now new : World C) (s : ℕ) (end : Option ClockEnd) → i < workers → s % workers ≡ i → s < length world.shards → MovesLeft now s
        → IsEnabled host now (moves i s) → new ≡ step host now (moves i s) → end ≡ end_of host now (moves i s) → MovesOn new s end
    moves-next now new s end there own less left may is ends =
        go end (part-next host world now new (own_moves host world i) (moves i s) rest end
        (part-left host world now None (own_moves host world i) (until_end host now (own_moves_from workers i s (length world.shards - s)))
        (until_end host now (moves i s ∷ rest))
        (ap (until_end host now) (next_moves workers i s (length world.shards) there own less)) left) may is ends)
      where
        rest : List (WorldEvent R)
        rest = own_moves_from workers i (s + workers) (length world.shards - (s + workers))

        go : (end : Option ClockEnd) → GoesOn host world new (own_moves host world i) (own_moves_from workers i (s + workers) (length world.shards - (s + workers))) end
            → MovesOn new s end
        go None part = part
        go (Some end) way = way

  -- ---- each moves its own

  -- the workers below one have, and the others are left
  abbrev pub EachLeft : World C → Option ClockEnd → ℕ → Type 0
  EachLeft now end j = IsPartDone host world now end (all_move host world) (moves_of_each host now j (workers - j))

  pub each-first : EachLeft world None 0
  each-first =
      let all : workers ≡ workers - 0 = omega arith in
      part-left host world world None (all_move host world) (all_move host world) (moves_of_each host world 0 (workers - 0))
      (ap (moves_of_each host world 0) all)
      (part-none host world (all_move host world))

  pub each-all : (now : World C) (end : Option ClockEnd) (j : ℕ) → workers ≤ j → EachLeft now end j → LeadsBy host world now end (all_move host world)
  each-all now end j past left =
      let none' : workers - j ≡ 0 = omega (arith, past) in
      part-whole host world now end (all_move host world)
      (part-left host world now end (all_move host world) (moves_of_each host now j (workers - j)) [] (ap (moves_of_each host now j) none') left)

  module _ (now new : World C) (end : Option ClockEnd) (j : ℕ) (there : j < workers) (left : EachLeft now end j) where
    next-left : IsPartDone host world now end (all_move host world) (own_moves host now j ++ moves_of_each host (run_events host now (own_moves host now j)) (suc j) (workers - suc j))
    next-left =
        let more : workers - j ≡ suc (workers - suc j) = omega (arith, there) in
        part-left host world now end (all_move host world) (moves_of_each host now j (workers - j))
        (own_moves host now j ++ moves_of_each host (run_events host now (own_moves host now j)) (suc j) (workers - suc j))
        (ap (moves_of_each host now j) more) left

    pub each-next : (own : Option ClockEnd) → LeadsBy host now new own (own_moves host now j) → EachLeft new (first_of end own) (suc j)
    each-next own way =
        part-left host world new (first_of end own) (all_move host world)
        (moves_of_each host (run_events host now (own_moves host now j)) (suc j) (workers - suc j)) (moves_of_each host new (suc j) (workers - suc j))
        (ap (λ (w : World C). moves_of_each host w (suc j) (workers - suc j)) (sym way.is))
        (part-then host world now new end own (all_move host world) (own_moves host now j)
        (moves_of_each host (run_events host now (own_moves host now j)) (suc j) (workers - suc j)) next-left way)

    pub each-front : LeadsByFront host now new (own_moves host now j) → LeadsByFront host world new (all_move host world)
    each-front some =
        part-then_front host world now new end None (all_move host world) (own_moves host now j)
        (moves_of_each host (run_events host now (own_moves host now j)) (suc j) (workers - suc j)) next-left some

-- ---- the whole close

module _ {C R : Type 0} (host : Host C R) (world : World C) (last : Bool) where
  -- what follows the moves
  abbrev pub behind_moves : World C → List (WorldEvent R)
  behind_moves moved = if last then all_advance host moved else opens ∷ []

  pub as_close : (later : World C) (end : Option ClockEnd) → (last ≡ true) ↔ IsLast host world → LeadsBy host world later end (events_of_close host world last)
      → LeadsAs AreOfClose host world later end
  as_close later end is way = record {
    events = events_of_close host world last;
    enabled = way.enabled;
    is = way.is;
    first = way.first;
    form = record { last = last; is_last = is; are = refl };
  }

  -- a clock ended before
  pub close-stopped : (later : World C) (end : ClockEnd) → LeadsBy host world later (Some end) (events_of_shards host world)
      → LeadsBy host world later (Some end) (events_of_close host world last)
  close-stopped later end way = unless-stopped host world (events_of_shards host world) behind_moves later end way

  pub close-front : (later : World C) → LeadsByFront host world later (events_of_shards host world) → LeadsByFront host world later (events_of_close host world last)
  close-front later some = unless-front host world (events_of_shards host world) behind_moves later some

  module _ (middle later : World C) (way : LeadsBy host world middle None (events_of_shards host world)) where
    -- a last close
    pub close-last : (end : Option ClockEnd) → last ≡ true → LeadsBy host middle later end (all_advance host middle)
        → LeadsBy host world later end (events_of_close host world last)
    close-last end is more =
        unless-on host world (events_of_shards host world) behind_moves middle way later end
        (subst (λ (b : Bool). LeadsBy host middle later end (if b then all_advance host middle else opens ∷ [])) (sym is) more)

    pub close-last_front : last ≡ true → LeadsByFront host middle later (all_advance host middle) → LeadsByFront host world later (events_of_close host world last)
    close-last_front is some =
        unless-on_front host world (events_of_shards host world) behind_moves middle way later
        (subst (λ (b : Bool). LeadsByFront host middle later (if b then all_advance host middle else opens ∷ [])) (sym is) some)

    -- another
    pub close-opened : (end : Option ClockEnd) → last ≡ false → IsEnabled host middle opens → later ≡ step host middle opens → end ≡ end_of host middle opens
        → LeadsBy host world later end (events_of_close host world last)
    close-opened end is may stepped ends =
        unless-on host world (events_of_shards host world) behind_moves middle way later end
        (subst (λ (b : Bool). LeadsBy host middle later end (if b then all_advance host middle else opens ∷ [])) (sym is)
        (by-one host middle later opens end may stepped ends))

    pub close-unopened : later ≡ middle → LeadsByFront host world later (events_of_close host world last)
    close-unopened kept =
        unless-on_front host world (events_of_shards host world) behind_moves middle way later
        (subst (λ (w : World C). LeadsByFront host middle w (behind_moves middle)) (sym kept)
        (record { front = []; rest = behind_moves middle; parts = refl; end = None; way = by-none host middle }))

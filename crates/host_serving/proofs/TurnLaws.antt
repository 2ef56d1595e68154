-- What a script asks of a worker, turn by turn: what is next, and that nothing of a phase is left behind its last turn.
use Rattle.std.proofs.Common.{◌≡◌, ◌⊎◌, inl, inr, ℕ, zero, suc, ◌+◌, ◌<◌, ◌≤◌, ◌==◌, Bool, true, false, List, [], ◌∷◌, ◌++◌, map, filter, length, take, drop, get_or, slice_get, Some, None, if◌then◌else◌, refl, sym, ◌∙◌, ap, subst, append_assoc, length-append, take_all, arith}
use Rattle.std.proofs.lemmas.Bool.{eq-eqb, ne_eqb}
use Rattle.std.proofs.lemmas.Option.{none-some, same_Some}
use Rattle.host_core.specs.Host.{Host, asked_in, asked_from, asked}
use Rattle.host_core.specs.World.{World, worker_at}
use Rattle.host_core.specs.WorldEvent.{IsRoundOver}
use Rattle.host_serving.specs.Standing.{turns_of, asked_by, IsServedUpTo, IsServedOut}

-- where nothing is found, there is no more
past_end : {X : Type 0} (xs : List X) (n : ℕ) → slice_get xs n ≡ None → length xs ≤ n
past_end [] n none' = omega arith
past_end (x ∷ xs) zero none' = absurd (none-some x (sym none'))
past_end (x ∷ xs) (suc n) none' = omega (arith, past_end xs n none')

-- nothing is behind the whole
drop_all : {X : Type 0} (n : ℕ) (xs : List X) → length xs ≤ n → drop n xs ≡ []
drop_all zero [] short = refl
drop_all zero (x ∷ xs) short = absurd (omega (arith, short))
drop_all (suc n) [] short = refl
drop_all (suc n) (x ∷ xs) short = drop_all n xs (omega (arith, short))

-- what is found behind a list
pub slice_get-behind : {X : Type 0} (xs ys : List X) (n at : ℕ) → at ≡ length xs + n → slice_get (xs ++ ys) at ≡ slice_get ys n
slice_get-behind [] ys n at is = let same : at ≡ n = omega (arith, is) in ap (slice_get ys) same
slice_get-behind (x ∷ xs) ys n zero is = absurd (omega (arith, is))
slice_get-behind (x ∷ xs) ys n (suc at) is = slice_get-behind xs ys n at (omega (arith, is))

module _ {R : Type 0} where
  -- ---- one turn of a phase

  -- what a phase asks of the worker of a turn: what it asks before, this request, and what it asks behind
  turn-around : (i phase k : ℕ) (turns : List (ℕ × R)) (request : R) → slice_get turns k ≡ Some (i, request)
      → asked_in i phase turns ≡ asked_in i phase (take k turns) ++ (phase, request) ∷ asked_in i phase (drop (suc k) turns)
  turn-around i phase k [] request is = absurd (none-some (i, request) is)
  turn-around i phase zero (turn ∷ turns) request is =
      ap (λ (t : ℕ × R). asked_in i phase (t ∷ turns)) (same_Some turn (i, request) is)
      ∙ ap (λ (b : Bool). map (λ turn. (phase, turn.1)) (if b then (i, request) ∷ filter (λ turn. turn.0 == i) turns else filter (λ turn. turn.0 == i) turns)) (eq-eqb i i refl)
  turn-around i phase (suc k) (turn ∷ turns) request is = go (turn.0 == i) (turn-around i phase k turns request is)
    where
      go : (b : Bool) → asked_in i phase turns ≡ asked_in i phase (take k turns) ++ (phase, request) ∷ asked_in i phase (drop (suc k) turns)
          → map (λ turn. (phase, turn.1)) (if b then turn ∷ filter (λ turn. turn.0 == i) turns else filter (λ turn. turn.0 == i) turns)
          ≡ map (λ turn. (phase, turn.1)) (if b then turn ∷ filter (λ turn. turn.0 == i) (take k turns) else filter (λ turn. turn.0 == i) (take k turns))
          ++ (phase, request) ∷ asked_in i phase (drop (suc k) turns)
      go true rest = ap (λ (asks : List (ℕ × R)). (phase, turn.1) ∷ asks) rest
      go false rest = rest

  -- Its worker is asked one request more up to behind it,
  own-turn : (i phase k : ℕ) (turns : List (ℕ × R)) (request : R) → slice_get turns k ≡ Some (i, request)
      → length (asked_in i phase (take (suc k) turns)) ≡ suc (length (asked_in i phase (take k turns)))
  own-turn i phase k [] request is = absurd (none-some (i, request) is)
  own-turn i phase zero (turn ∷ turns) request is =
      ap (λ (t : ℕ × R). length (asked_in i phase (t ∷ []))) (same_Some turn (i, request) is)
      ∙ ap (λ (b : Bool). length {A = ℕ × R} (map (λ (turn : ℕ × R). (phase, turn.1)) (if b then (i, request) ∷ [] else []))) (eq-eqb i i refl)
  own-turn i phase (suc k) (turn ∷ turns) request is = go (turn.0 == i) (own-turn i phase k turns request is)
    where
      go : (b : Bool) → length (asked_in i phase (take (suc k) turns)) ≡ suc (length (asked_in i phase (take k turns)))
          → length {A = ℕ × R} (map (λ turn. (phase, turn.1)) (if b then turn ∷ filter (λ turn. turn.0 == i) (take (suc k) turns) else filter (λ turn. turn.0 == i) (take (suc k) turns)))
          ≡ suc (length {A = ℕ × R} (map (λ turn. (phase, turn.1)) (if b then turn ∷ filter (λ turn. turn.0 == i) (take k turns) else filter (λ turn. turn.0 == i) (take k turns))))
      go true rest = ap suc rest
      go false rest = rest

  -- and another worker as many as before.
  other-turn : (j phase k : ℕ) (turns : List (ℕ × R)) (turn : ℕ × R) → slice_get turns k ≡ Some turn → (turn.0 ≡ j → ⊥)
      → length (asked_in j phase (take (suc k) turns)) ≡ length (asked_in j phase (take k turns))
  other-turn j phase k [] turn is other = absurd (none-some turn is)
  other-turn j phase zero (first ∷ turns) turn is other =
      ap (λ (t : ℕ × R). length (asked_in j phase (t ∷ []))) (same_Some first turn is)
      ∙ ap (λ (b : Bool). length {A = ℕ × R} (map (λ (turn : ℕ × R). (phase, turn.1)) (if b then turn ∷ [] else []))) (ne_eqb turn.0 j other)
  other-turn j phase (suc k) (first ∷ turns) turn is other = go (first.0 == j) (other-turn j phase k turns turn is other)
    where
      go : (b : Bool) → length (asked_in j phase (take (suc k) turns)) ≡ length (asked_in j phase (take k turns))
          → length {A = ℕ × R} (map (λ turn. (phase, turn.1)) (if b then first ∷ filter (λ turn. turn.0 == j) (take (suc k) turns) else filter (λ turn. turn.0 == j) (take (suc k) turns)))
          ≡ length {A = ℕ × R} (map (λ turn. (phase, turn.1)) (if b then first ∷ filter (λ turn. turn.0 == j) (take k turns) else filter (λ turn. turn.0 == j) (take k turns)))
      go true rest = ap suc rest
      go false rest = rest

  -- ---- one phase of a script

  -- what a script asks of a worker: in the phases before this one, in this one, and in those behind
  pub asked-around : (i first phase at : ℕ) (script : List (List (ℕ × R))) → at ≡ first + phase → phase < length script
      → asked_from i first script
      ≡ asked_from i first (take phase script) ++ (asked_in i at (get_or script phase []) ++ asked_from i (suc at) (drop (suc phase) script))
  asked-around i first phase at [] is there = absurd (omega (arith, there))
  asked-around i first zero at (turns ∷ script) is there =
      let same : first ≡ at = omega (arith, is) in
      ap (λ (n : ℕ). asked_in i n turns ++ asked_from i (suc n) script) same
  asked-around i first (suc phase) at (turns ∷ script) is there =
      ap (λ (more : List (ℕ × R)). asked_in i first turns ++ more)
      (asked-around i (suc first) phase at script (omega (arith, is)) (omega (arith, there)))
      ∙ sym (append_assoc (asked_in i first turns) (asked_from i (suc first) (take phase script))
      (asked_in i at (get_or script phase []) ++ asked_from i (suc at) (drop (suc phase) script)))

  -- the first request of a phase and of those behind it is of none before
  later_in : (i first : ℕ) (more : List (ℕ × R)) (ask : ℕ × R) → (slice_get more 0 ≡ Some ask → first ≤ ask.0) → (turns : List (ℕ × R))
      → slice_get (asked_in i first turns ++ more) 0 ≡ Some ask → first ≤ ask.0
  later_in i first more ask behind [] is = behind is
  later_in i first more ask behind (turn ∷ turns) is = go (turn.0 == i) is (later_in i first more ask behind turns)
    where
      go : (b : Bool) → slice_get (map (λ turn. (first, turn.1)) (if b then turn ∷ filter (λ turn. turn.0 == i) turns else filter (λ turn. turn.0 == i) turns) ++ more) 0 ≡ Some ask
          → (slice_get (asked_in i first turns ++ more) 0 ≡ Some ask → first ≤ ask.0) → first ≤ ask.0
      go true here rest = let same : first ≡ ask.0 = ap (λ (a : ℕ × R). a.0) (same_Some (first, turn.1) ask here) in omega (arith, same)
      go false here rest = rest here

  later_only : (i first : ℕ) (script : List (List (ℕ × R))) (ask : ℕ × R) → slice_get (asked_from i first script) 0 ≡ Some ask → first ≤ ask.0
  later_only i first [] ask is = absurd (none-some ask is)
  later_only i first (turns ∷ script) ask is =
      later_in i first (asked_from i (suc first) script) ask
      (λ rest. let later : suc first ≤ ask.0 = later_only i (suc first) script ask rest in omega (arith, later)) turns is

module _ {C R : Type 0} (host : Host C R) where
  -- The next request of a turn's worker is the turn's.
  pub next_turn : (i phase k : ℕ) (request : R) → phase < length host.script → slice_get (turns_of host phase) k ≡ Some (i, request)
      → slice_get (asked host i) (asked_by host i phase k) ≡ Some (phase, request)
  next_turn i phase k request there turn =
      let turns = turns_of host phase in
      let front = asked_from i 0 (take phase host.script) in
      let before = asked_in i phase (take k turns) in
      let behind = asked_in i phase (drop (suc k) turns) in
      let more = asked_from i (suc phase) (drop (suc phase) host.script) in
      ap (λ (asks : List (ℕ × R)). slice_get asks (length front + length before)) (asked-around i 0 phase phase host.script (omega arith) there)
      ∙ slice_get-behind front (asked_in i phase turns ++ more) (length before) (length front + length before) refl
      ∙ ap (λ (asks : List (ℕ × R)). slice_get (asks ++ more) (length before)) (turn-around i phase k turns request turn)
      ∙ ap (λ (asks : List (ℕ × R)). slice_get asks (length before)) (append_assoc before ((phase, request) ∷ behind) more)
      ∙ slice_get-behind before ((phase, request) ∷ behind ++ more) 0 (length before) (omega arith)

  -- Behind the turn its worker is asked one request more, and another as many as before.
  pub one_more : (i phase k next : ℕ) (request : R) → next ≡ suc k → slice_get (turns_of host phase) k ≡ Some (i, request)
      → asked_by host i phase next ≡ suc (asked_by host i phase k)
  one_more i phase k next request is turn =
      let front = length (asked_from i 0 (take phase host.script)) in
      ap (λ (n : ℕ). asked_by host i phase n) is
      ∙ ap (λ (n : ℕ). front + n) (own-turn i phase k (turns_of host phase) request turn)
      ∙ omega arith

  pub no_more : (j phase k next : ℕ) (turn : ℕ × R) → next ≡ suc k → slice_get (turns_of host phase) k ≡ Some turn → (turn.0 ≡ j → ⊥)
      → asked_by host j phase next ≡ asked_by host j phase k
  no_more j phase k next turn is at other =
      let front = length (asked_from j 0 (take phase host.script)) in
      ap (λ (n : ℕ). asked_by host j phase n) is
      ∙ ap (λ (n : ℕ). front + n) (other-turn j phase k (turns_of host phase) turn at other)

  -- Behind all turns of a phase nothing of it is next.
  pub nothing_left : (i phase : ℕ) (request : R) → phase < length host.script
      → slice_get (asked host i) (asked_by host i phase (length (turns_of host phase))) ≡ Some (phase, request) → ⊥
  nothing_left i phase request there is =
      let turns = turns_of host phase in
      let front = asked_from i 0 (take phase host.script) in
      let inside = asked_in i phase turns in
      let more = asked_from i (suc phase) (drop (suc phase) host.script) in
      let all : take (length turns) turns ≡ turns = take_all (length turns) turns (omega arith) in
      let next : slice_get more 0 ≡ Some (phase, request) =
      sym (ap (λ (asks : List (ℕ × R)). slice_get asks (length front + length inside)) (asked-around i 0 phase phase host.script (omega arith) there)
      ∙ slice_get-behind front (inside ++ more) (length inside) (length front + length inside) refl
      ∙ slice_get-behind inside more 0 (length inside) (omega arith))
      ∙ ap (λ (some : List (ℕ × R)). slice_get (asked host i) (length front + length (asked_in i phase some))) (sym all)
      ∙ is in
      let later : suc phase ≤ phase = later_only i (suc phase) (drop (suc phase) host.script) (phase, request) next in
      absurd (omega (arith, later))

  -- Behind all turns of the last phase there are as many as are asked.
  asked_whole : (i phase : ℕ) → phase < length host.script → length host.script ≤ suc phase
      → asked_by host i phase (length (turns_of host phase)) ≡ length (asked host i)
  asked_whole i phase there last =
      let turns = turns_of host phase in
      let front = asked_from i 0 (take phase host.script) in
      let inside = asked_in i phase turns in
      let none' : drop (suc phase) host.script ≡ [] = drop_all (suc phase) host.script last in
      let more : length (asked_from i (suc phase) (drop (suc phase) host.script)) ≡ 0 =
      ap (λ (script : List (List (ℕ × R))). length (asked_from i (suc phase) script)) none' in
      let around : length (asked host i) ≡ length (front ++ (inside ++ asked_from i (suc phase) (drop (suc phase) host.script))) =
      ap length (asked-around i 0 phase phase host.script (omega arith) there) in
      let one = length-append front (inside ++ asked_from i (suc phase) (drop (suc phase) host.script)) in
      let two = length-append inside (asked_from i (suc phase) (drop (suc phase) host.script)) in
      let all : length (asked_in i phase (take (length turns) turns)) ≡ length inside =
      ap (λ (ts : List (ℕ × R)). length (asked_in i phase ts)) (take_all (length turns) turns (omega arith)) in
      omega (arith, around, one, two, more, all)

-- All turns are served, so no worker has more to do.
pub phase_served : {C R : Type 0} (host : Host C R) (world : World C) (k : ℕ) → (host.rolling ≡ true → IsRoundOver host world)
    → IsServedUpTo host world world.phase k → k ≡ length (turns_of host world.phase) → IsServedOut host world
phase_served {C} {R} host world k settled so_far all = record {
  served = served;
  over = λ i there. ((served.each i there).idle, through i there (served.each i there).served);
  settled = settled;
}
  where
    served : IsServedUpTo host world world.phase (length (turns_of host world.phase))
    served = subst (IsServedUpTo host world world.phase) all so_far

    through : (i : ℕ) → i < length world.workers
        → ((worker_at host world i).stopped ≡ true) ⊎ (((worker_at host world i).stopped ≡ false) × ((worker_at host world i).served ≡ asked_by host i world.phase (length (turns_of host world.phase))))
        → ((worker_at host world i).stopped ≡ true) ⊎ ((request : R) → slice_get (asked host i) (worker_at host world i).served ≡ Some (world.phase, request) → ⊥)
    through i there (inl stopped) = inl stopped
    through i there (inr count) =
        inr (λ request is. nothing_left host i world.phase request so_far.within (ap (slice_get (asked host i)) (sym count.1) ∙ is))

-- The round of a rolling host is over, and no worker holds a place or has served more than it is asked; so it is served out.
pub round_served : {C R : Type 0} (host : Host C R) (world : World C) → world.over ≡ false → world.closing ≡ false
    → world.phase < length host.script → length host.script ≤ suc world.phase
    → ((i : ℕ) → i < length world.workers
    → ((worker_at host world i).holds ≡ None) × ((worker_at host world i).stuck ≡ false) × ((worker_at host world i).served ≤ length (asked host i)))
    → IsRoundOver host world → IsServedOut host world
round_served {C} {R} host world going open_still within last each over = record {
  served = record {
    going = going;
    phase = open_still;
    within = within;
    each = λ i there. record {
      idle = (each i there).0;
      going = (each i there).1;
      served = inr ((over i there).0, count i there);
    };
  };
  over = λ i there. ((each i there).0, inr (λ request next. absurd (none-some (world.phase, request) (sym (over i there).1 ∙ next))));
  settled = λ _. over;
}
  where
    count : (i : ℕ) → i < length world.workers → (worker_at host world i).served ≡ asked_by host i world.phase (length (turns_of host world.phase))
    count i there =
        let most = (each i there).2 in
        let least = past_end (asked host i) (worker_at host world i).served (over i there).1 in
        let all = asked_whole host i world.phase within last in
        omega (arith, most, least, all)

-- Phase by phase the turns of a rolling host's only worker are what the script asks.
use Rattle.std.proofs.Common.{◌≡◌, ◌≢◌, ◌⊎◌, inl, inr, ℕ, zero, suc, ◌+◌, ◌-◌, ◌<◌, ◌≤◌, List, [], ◌∷◌, ◌++◌, map, length, drop, get_or, slice_get, replicate, Option, Some, None, refl, sym, ◌∙◌, ap, subst, append-nil, arith}
use Rattle.std.proofs.lemmas.Bool.{cases_eq, cases_lt}
use Rattle.std.proofs.lemmas.Option.{none-some, same_Some}
use Rattle.log_codec.specs.declared.command.Command.TheVariants.{NextEpoch}
use Rattle.host_core.specs.Host.{Host, asked, asked_from}
use Rattle.host_core.specs.World.{World}
use Rattle.host_core.specs.WorldEvent.{AreFrom}
use Rattle.round_order.specs.Turn.{Turn, IsAsked, IsWorkerChain, served_more, served_behind}
use Rattle.round_order.proofs.GoingLaws.{on_to-there}
use Rattle.host_serving.specs.Loop.{MayBeScanned, AreInOrderBehind, AreNoLater, serving_epoch}
use Rattle.one_worker.specs.Deeds.{Deed, own_turns, served_in, renewals, new_epoch, phases_behind, phases, acts_of, Standing, IsServed, IsRenewed, AreDone}
use Rattle.one_worker.proofs.ShapeLemmas.{IsKnown, get_first, rest_of, IsSeated}
use Rattle.one_worker.proofs.TurnLemmas.{contents_in, first_in, Waits, turn_there, turn_moves, put, put_tells, put_waits, put_still, met_serving, met_scanning, Tells}
use Rattle.one_worker.proofs.LoopLemmas.{head_of, tail_of, none_left, left_is, asked_later, at_end, lost, rises, not_past}
use Rattle.one_worker.proofs.RollLemmas.{IsFree, free_behind, Rolls, behind, rolls_on, turn_served, turn_renewed, turned, rolls_turned}

-- the same elements at the same places
pub same_lists : {X : Type 0} (xs ys : List X) (d : X) → length xs ≡ length ys → ((i : ℕ) → i < length ys → get_or xs i d ≡ get_or ys i d) → xs ≡ ys
same_lists [] [] d count each = refl
same_lists [] (y ∷ ys) d count each = absurd (omega (arith, count))
same_lists (x ∷ xs) [] d count each = absurd (omega (arith, count))
same_lists (x ∷ xs) (y ∷ ys) d count each =
    let head : x ≡ y = each 0 (omega arith) in
    let tail : xs ≡ ys = same_lists xs ys d (omega (arith, count)) (λ i there. each (suc i) (omega (arith, there))) in
    λ k. head k ∷ tail k

module _ {C R : Type 0} (host : Host C R) (world : World C) (known : IsKnown host (contents_in world)) (last : Standing C) (top : ℕ)
    (one : length world.workers ≡ 1) (some : 0 < length (contents_in world)) (last_count : length last.shards ≡ length (contents_in world))
    (last_are : (s : ℕ) → s < length (contents_in world) → get_or last.shards s [] ≡ first_in host last.shards s ∷ rest_of host (contents_in world) s)
    (reached : (s : ℕ) → s < length (contents_in world) → AreFrom top (host.pending (first_in host last.shards s))) where
  abbrev count : ℕ
  count = length (contents_in world)

  -- what waits in all shards is of the epoch
  abbrev pub AreAt : List (List C) → ℕ → Type 0
  AreAt shards epoch = (s : ℕ) → s < count → Waits host (first_in host shards s) epoch

  -- the shards below one are of the epoch behind this, the others of this
  abbrev pub ArePartAt : List (List C) → ℕ → ℕ → Type 0
  ArePartAt shards k epoch = (s : ℕ) → s < count → (s < k → Waits host (first_in host shards s) (suc epoch)) × (k ≤ s → Waits host (first_in host shards s) epoch)

  -- A worker in an epoch, where all is of it: its turns from here, and what is left to ask of it.
  pub record IsLevelAt (from : Standing C) (served : ℕ) (turns : List (Turn C R)) (epoch : ℕ) (left : List (ℕ × R)) : Type 0 where
    pub rolls : Rolls host world known last top one reached from served turns
    pub free : IsFree turns
    pub serving : ℕ
    pub no_later : AreNoLater host served serving turns
    pub since : serving ≤ epoch
    pub epoch_is : from.clock.at.epoch ≡ epoch
    pub level : AreAt from.shards epoch
    pub left_is : drop served (asked host 0) ≡ left

  abbrev pub DoesFrom : Standing C → List (Deed R) → Type 0
  DoesFrom from deeds = AreDone (acts_of host) from deeds last

  -- ---- the requests of a phase

  level_put : (from : Standing C) (served : ℕ) (turn : Turn C R) (turns : List (Turn C R)) (epoch : ℕ)
      → (rolls : Rolls host world known last top one reached from served (turn ∷ turns)) → AreAt from.shards epoch → turn.clock.at.epoch ≡ epoch
      → AreAt (behind host world known last top one reached from turn).shards epoch
  level_put from served turn turns epoch rolls level is u there = go (cases_eq u turn.place.shard)
    where
      go : (u ≡ turn.place.shard) ⊎ (u ≢ turn.place.shard) → Waits host (first_in host (behind host world known last top one reached from turn).shards u) epoch
      go (inl same) = subst (λ (n : ℕ). Waits host (first_in host (behind host world known last top one reached from turn).shards n) epoch) (sym same)
          (subst (Waits host (first_in host (behind host world known last top one reached from turn).shards turn.place.shard)) is
          (put_waits host world known from.shards last.shards turn turns rolls.tells))
      go (inr apart) = put_still host world known from.shards last.shards turn turns rolls.tells u epoch apart (level u there)

  -- what is next of a worker is the head of what is left
  next_is : (served phase phase' : ℕ) (request request' : R) (rest : List (ℕ × R)) → drop served (asked host 0) ≡ (phase, request) ∷ rest
      → slice_get (asked host 0) served ≡ Some (phase', request') → ◌≡◌ {A = ℕ × R} (phase', request') (phase, request)
  next_is served phase phase' request request' rest left next =
      same_Some (phase', request') (phase, request) (sym next ∙ head_of (asked host 0) served (phase, request) rest left)

  serve_on : (own more : List (ℕ × R)) (phase epoch : ℕ) (deeds : List (Deed R)) → host.header.first + phase ≡ epoch
      → ((from : Standing C) (served : ℕ) (turns : List (Turn C R)) → IsLevelAt from served turns epoch more → DoesFrom from deeds)
      → (from : Standing C) (served : ℕ) (turns : List (Turn C R)) → IsLevelAt from served turns epoch (map (λ turn. (phase, turn.1)) own ++ more)
      → DoesFrom from (served_in own ++ deeds)
  serve_on [] more phase epoch deeds of then from served turns at = then from served turns at
  serve_on (ask ∷ own) more phase epoch deeds of then from served [] at =
      absurd (none-some (phase, ask.1) (sym at.rolls.all ∙ head_of (asked host 0) served (phase, ask.1) (map (λ turn. (phase, turn.1)) own ++ more) at.left_is))
  serve_on (ask ∷ own) more phase epoch deeds of then from served (turn ∷ turns) at =
      go turn.request refl (serve_on own more phase epoch deeds of then (behind host world known last top one reached from turn) (suc served) turns)
    where
      rest : List (ℕ × R)
      rest = map (λ turn. (phase, turn.1)) own ++ more

      next : slice_get (asked host 0) served ≡ Some (phase, ask.1)
      next = head_of (asked host 0) served (phase, ask.1) rest at.left_is

      waits : Waits host (first_in host from.shards turn.place.shard) epoch
      waits = at.level turn.place.shard (turn_there host world known from.shards last.shards turn turns at.rolls.tells)

      scanned : turn.request ≡ None → ⊥
      scanned asks =
          let met = met_scanning host world known from.shards last.shards turn turns at.rolls.tells epoch asks waits in
          let moved = (turn_moves host world known from.shards last.shards turn turns at.rolls.tells).epoch in
          not_past host world known last.shards top reached turns (put host world known from.shards last.shards turn turns at.rolls.tells) served turn.done.clock at.serving epoch phase ask.1
          (put_tells host world known from.shards last.shards turn turns at.rolls.tells)
          (subst (λ (asks : Option R). IsWorkerChain host 0 turn.done.clock (served_more served asks) turns) asks at.rolls.chain.3)
          (subst (λ (asks : Option R). AreNoLater host (served_more served asks) (serving_epoch at.serving turn asks) turns) asks at.no_later.1)
          next (omega (arith, of)) at.since (omega (arith, met, moved))
          (subst (λ (asks : Option R). slice_get (asked host 0) (served_behind (served_more served asks) turns) ≡ None) asks at.rolls.all)

      go : (request : Option R) → turn.request ≡ request
          → (IsLevelAt (behind host world known last top one reached from turn) (suc served) turns epoch rest
          → DoesFrom (behind host world known last top one reached from turn) (served_in own ++ deeds))
          → DoesFrom from (served_in (ask ∷ own) ++ deeds)
      go None asks again = absurd (scanned asks)
      go (Some request) asks again =
          (behind host world known last top one reached from turn, subst (λ (r : R). IsServed (acts_of host) from r (behind host world known last top one reached from turn)) is (turn_served host world known last top one reached from served turn turns at.rolls same request asks), again level)
        where
          here : epoch ≡ turn.clock.at.epoch
          here = met_serving host world known from.shards last.shards turn turns at.rolls.tells request epoch asks waits

          same : turn.clock.at.epoch ≡ from.clock.at.epoch
          same = omega (arith, here, at.epoch_is)

          asked' : IsAsked host 0 served turn.clock.at.epoch (Some request)
          asked' = subst (IsAsked host 0 served turn.clock.at.epoch) asks at.rolls.chain.2

          is : request ≡ ask.1
          is = ap (λ (a : ℕ × R). a.1) (next_is served phase asked'.0 ask.1 request rest at.left_is asked'.1)

          moved : turn.done.clock.at.epoch ≡ turn.clock.at.epoch
          moved = (turn_moves host world known from.shards last.shards turn turns at.rolls.tells).epoch

          level : IsLevelAt (behind host world known last top one reached from turn) (suc served) turns epoch rest
          level = record {
            rolls = subst (λ (asks : Option R). Rolls host world known last top one reached (behind host world known last top one reached from turn) (served_more served asks) turns) asks
                (rolls_on host world known last top one reached from served turn turns at.rolls same);
            free = free_behind at.free.0 turn turns at.free.1;
            serving = turn.clock.at.epoch;
            no_later = subst (λ (asks : Option R). AreNoLater host (served_more served asks) (serving_epoch at.serving turn asks) turns) asks at.no_later.1;
            since = omega (arith, here);
            epoch_is = omega (arith, moved, here);
            level = level_put from served turn turns epoch at.rolls at.level (sym here);
            left_is = tail_of (asked host 0) served (phase, ask.1) rest at.left_is;
          }

  -- ---- the shards of an epoch

  -- the turn before is of the epoch, or no shard was scanned yet
  abbrev pub HasBegun : ℕ → ℕ → List (Turn C R) → Type 0
  HasBegun k epoch turns = (k ≡ 0) ⊎ ((before : Option ℕ) × (prev : Turn C R) × (prev.done.clock.at.epoch ≡ epoch) × AreInOrderBehind before prev turns)

  -- A worker in an epoch, which has scanned the shards below one.
  pub record IsPartAt (from : Standing C) (served : ℕ) (turns : List (Turn C R)) (k epoch : ℕ) (left : List (ℕ × R)) : Type 0 where
    pub rolls : Rolls host world known last top one reached from served turns
    pub free : IsFree turns
    pub begun : HasBegun k (suc epoch) turns
    pub serving : ℕ
    pub no_later : AreNoLater host served serving turns
    pub since : serving ≤ suc epoch
    pub epoch_is : from.clock.at.epoch ≡ suc epoch
    pub within : suc epoch ≤ top
    pub level : ArePartAt from.shards k epoch
    pub left_is : drop served (asked host 0) ≡ left

  -- the next turn scans the next shard
  module _ (from : Standing C) (served : ℕ) (turn : Turn C R) (turns : List (Turn C R)) (k epoch : ℕ) (left : List (ℕ × R))
      (at : IsPartAt from served (turn ∷ turns) k epoch left) (there : k < count) where
    t_there : turn.place.shard < count
    t_there = turn_there host world known from.shards last.shards turn turns at.rolls.tells

    waits_k : Waits host (first_in host from.shards k) epoch
    waits_k = (at.level k there).1 (omega arith)

    t_moved : turn.done.clock.at.epoch ≡ turn.clock.at.epoch
    t_moved = (turn_moves host world known from.shards last.shards turn turns at.rolls.tells).epoch

    -- where another turn is next, the shard is lost
    is_lost : (before : Option ℕ) → turn.place.shard ≢ k → AreInOrderBehind before turn turns → suc epoch ≤ turn.clock.at.epoch
        → (turn.clock.at.epoch ≡ suc epoch → MayBeScanned before turn turn.request k → ⊥) → ⊥
    is_lost before apart order on passed =
        lost host world known last.shards top reached turns (put host world known from.shards last.shards turn turns at.rolls.tells) (served_more served turn.request) turn.done.clock
        before turn k epoch (suc epoch) there
        (put_still host world known from.shards last.shards turn turns at.rolls.tells k epoch (λ same. apart (sym same)) waits_k) (omega arith) at.within
        (put_tells host world known from.shards last.shards turn turns at.rolls.tells) at.rolls.chain.3 (omega arith) (omega (arith, on, t_moved)) order (λ is. passed (sym t_moved ∙ is))

    from_here : suc epoch ≤ turn.clock.at.epoch
    from_here = omega (arith, at.epoch_is, at.rolls.chain.1)

    not_serving : (request : R) → turn.request ≡ Some request → ⊥
    not_serving request asks = go (cases_lt turn.place.shard k) at.begun at.rolls.tells
      where
        go : (turn.place.shard < k) ⊎ (k ≤ turn.place.shard) → HasBegun k (suc epoch) (turn ∷ turns) → Tells host world known from.shards last.shards (turn ∷ turns) → ⊥
        go (inr above) begun tells =
            let met = met_serving host world known from.shards last.shards turn turns at.rolls.tells request epoch asks ((at.level turn.place.shard t_there).1 above) in
            absurd (omega (arith, met, from_here))
        go (inl below) (inl none') tells = absurd (omega (arith, below, none'))
        go (inl below) (inr prev) tells =
            let met = met_serving host world known from.shards last.shards turn turns at.rolls.tells request (suc epoch) asks ((at.level turn.place.shard t_there).0 below) in
            is_lost (Some prev.1.done.clock.at.epoch) (λ same. absurd (omega (arith, below, same))) prev.3.1 from_here
            (λ is may. subst (λ (asks : Option R). MayBeScanned (Some prev.1.done.clock.at.epoch) turn asks k) asks may (prev.2 ∙ sym is))

    next_shard : turn.request ≡ None → turn.place.shard ≡ k
    next_shard asks = go (cases_eq turn.place.shard k)
      where
        passed : turn.place.shard ≢ k → (turn.place.shard < k) ⊎ (k ≤ turn.place.shard) → turn.clock.at.epoch ≡ suc epoch → MayBeScanned at.free.0 turn turn.request k → ⊥
        passed apart (inl below) is may =
            let met = met_scanning host world known from.shards last.shards turn turns at.rolls.tells (suc epoch) asks ((at.level turn.place.shard t_there).0 below) in
            absurd (omega (arith, met, is))
        passed apart (inr above) is may =
            let lower : turn.place.shard < k = subst (λ (asks : Option R). MayBeScanned at.free.0 turn asks k) asks may in
            absurd (omega (arith, lower, above))

        go : (turn.place.shard ≡ k) ⊎ (turn.place.shard ≢ k) → turn.place.shard ≡ k
        go (inl same) = same
        go (inr apart) = absurd (is_lost at.free.0 apart at.free.1 from_here (passed apart (cases_lt turn.place.shard k)))

    t_epoch : turn.request ≡ None → turn.place.shard ≡ k → turn.clock.at.epoch ≡ suc epoch
    t_epoch asks same = met_scanning host world known from.shards last.shards turn turns at.rolls.tells epoch asks
        ((at.level turn.place.shard t_there).1 (omega (arith, same)))

    part_put : turn.request ≡ None → turn.place.shard ≡ k → ArePartAt (behind host world known last top one reached from turn).shards (suc k) epoch
    part_put asks same u within = (below (cases_eq u turn.place.shard), above)
      where
        still : u ≢ turn.place.shard → (x : ℕ) → Waits host (first_in host from.shards u) x
            → Waits host (first_in host (behind host world known last top one reached from turn).shards u) x
        still apart x waits = put_still host world known from.shards last.shards turn turns at.rolls.tells u x apart waits

        below : (u ≡ turn.place.shard) ⊎ (u ≢ turn.place.shard) → u < suc k → Waits host (first_in host (behind host world known last top one reached from turn).shards u) (suc epoch)
        below (inl is) less = subst (λ (n : ℕ). Waits host (first_in host (behind host world known last top one reached from turn).shards n) (suc epoch)) (sym is)
            (subst (Waits host (first_in host (behind host world known last top one reached from turn).shards turn.place.shard)) (t_epoch asks same)
            (put_waits host world known from.shards last.shards turn turns at.rolls.tells))
        below (inr apart) less = still apart (suc epoch) ((at.level u within).0 (omega (arith, less, apart, same)))

        above : suc k ≤ u → Waits host (first_in host (behind host world known last top one reached from turn).shards u) epoch
        above more = still (λ is. absurd (omega (arith, is, more, same))) epoch ((at.level u within).1 (omega (arith, more)))

    part_on : (asks : turn.request ≡ None) (same : turn.place.shard ≡ k) → IsPartAt (behind host world known last top one reached from turn) served turns (suc k) epoch left
    part_on asks same = record {
      rolls = subst (λ (asks : Option R). Rolls host world known last top one reached (behind host world known last top one reached from turn) (served_more served asks) turns) asks
          (rolls_on host world known last top one reached from served turn turns at.rolls (t_epoch asks same ∙ sym at.epoch_is));
      free = free_behind at.free.0 turn turns at.free.1;
      begun = inr (at.free.0, turn, t_moved ∙ t_epoch asks same, at.free.1);
      serving = at.serving;
      no_later = subst (λ (asks : Option R). AreNoLater host (served_more served asks) (serving_epoch at.serving turn asks) turns) asks at.no_later.1;
      since = at.since;
      epoch_is = t_moved ∙ t_epoch asks same;
      within = at.within;
      level = part_put asks same;
      left_is = at.left_is;
    }

    renewed : (asks : turn.request ≡ None) (same : turn.place.shard ≡ k) → IsRenewed (acts_of host) from k (behind host world known last top one reached from turn)
    renewed asks same = subst (λ (n : ℕ). IsRenewed (acts_of host) from n (behind host world known last top one reached from turn)) same
        (turn_renewed host world known last top one reached from served turn turns at.rolls (t_epoch asks same ∙ sym at.epoch_is) asks)

  scan_on : (more k epoch : ℕ) (left : List (ℕ × R)) (deeds : List (Deed R)) → k + more ≡ count
      → ((from : Standing C) (served : ℕ) (turns : List (Turn C R)) → IsLevelAt from served turns (suc epoch) left → DoesFrom from deeds)
      → (from : Standing C) (served : ℕ) (turns : List (Turn C R)) → IsPartAt from served turns k epoch left → DoesFrom from (renewals k more ++ deeds)
  scan_on zero k epoch left deeds sum then from served turns at = then from served turns (record {
    rolls = at.rolls;
    free = at.free;
    serving = at.serving;
    no_later = at.no_later;
    since = at.since;
    epoch_is = at.epoch_is;
    level = λ s there. (at.level s there).0 (omega (arith, sum, there));
    left_is = at.left_is;
  })
  scan_on (suc more) k epoch left deeds sum then from served [] at =
      let there : k < count = omega (arith, sum) in
      let end = at_end host world known last.shards top reached from.shards k epoch there at.rolls.tells ((at.level k there).1 (omega arith)) in
      absurd (omega (arith, end, at.within))
  scan_on (suc more) k epoch left deeds sum then from served (turn ∷ turns) at =
      go turn.request refl (scan_on more (suc k) epoch left deeds (omega (arith, sum)) then (behind host world known last top one reached from turn) served turns)
    where
      there : k < count
      there = omega (arith, sum)

      go : (request : Option R) → turn.request ≡ request
          → (IsPartAt (behind host world known last top one reached from turn) served turns (suc k) epoch left
          → DoesFrom (behind host world known last top one reached from turn) (renewals (suc k) more ++ deeds))
          → DoesFrom from (renewals k (suc more) ++ deeds)
      go (Some request) asks again = absurd (not_serving from served turn turns k epoch left at there request asks)
      go None asks again =
          let same = next_shard from served turn turns k epoch left at there asks in
          (behind host world known last top one reached from turn, renewed from served turn turns k epoch left at there asks same, again (part_on from served turn turns k epoch left at there asks same))

  -- ---- from epoch to epoch

  -- Where what is left is of later phases, the worker goes on to the next epoch and renews all shards.
  turn_on : (phase epoch : ℕ) (left : List (ℕ × R)) (deeds : List (Deed R)) → host.header.first + phase ≡ epoch → suc epoch ≤ top
      → ((q : ℕ) (request : R) (rest : List (ℕ × R)) → left ≡ (q, request) ∷ rest → suc phase ≤ q)
      → ((from : Standing C) (served : ℕ) (turns : List (Turn C R)) → IsLevelAt from served turns (suc epoch) left → DoesFrom from deeds)
      → (from : Standing C) (served : ℕ) (turns : List (Turn C R)) → IsLevelAt from served turns epoch left → DoesFrom from (new_epoch count ++ deeds)
  turn_on phase epoch left deeds of within later then from served [] at =
      let end = at_end host world known last.shards top reached from.shards 0 epoch some at.rolls.tells (at.level 0 some) in
      absurd (omega (arith, end, within))
  turn_on phase epoch left deeds of within later then from served (turn ∷ turns) at = go turn.request refl
    where
      waits : Waits host (first_in host from.shards turn.place.shard) epoch
      waits = at.level turn.place.shard (turn_there host world known from.shards last.shards turn turns at.rolls.tells)

      go : (request : Option R) → turn.request ≡ request → DoesFrom from (new_epoch count ++ deeds)
      go (Some request) asks =
          let met = met_serving host world known from.shards last.shards turn turns at.rolls.tells request epoch asks waits in
          let asked' : IsAsked host 0 served turn.clock.at.epoch (Some request) = subst (IsAsked host 0 served turn.clock.at.epoch) asks at.rolls.chain.2 in
          let next = left_is (asked host 0) served (asked'.0, request) asked'.1 in
          let more = later asked'.0 request next.0 (sym at.left_is ∙ next.1) in
          absurd (omega (arith, met, asked'.2, more, of))
      go None asks =
          let met = met_scanning host world known from.shards last.shards turn turns at.rolls.tells epoch asks waits in
          let next : turn.clock.at.epoch ≡ suc from.clock.at.epoch = omega (arith, met, at.epoch_is) in
          let to : Standing C = turned host world known last top one reached from served turn turns at.rolls in (
            to,
            refl,
            scan_on count 0 epoch left deeds (omega arith) then to served (turn ∷ turns) (record {
              rolls = rolls_turned host world known last top one reached from served turn turns at.rolls next;
              free = at.free;
              begun = inl refl;
              serving = at.serving;
              no_later = at.no_later;
              since = omega (arith, at.since);
              epoch_is = omega (arith, at.epoch_is);
              within = within;
              level = λ s there. ((λ less. absurd (omega (arith, less))), (λ more. at.level s there));
              left_is = at.left_is;
            }),
          )

  -- ---- the end

  same_standing : (a b : Standing C) → a.shards ≡ b.shards → a.clock ≡ b.clock → a.log ≡ b.log → a ≡ b
  same_standing a b shards clock log = λ k. record { shards = shards k; clock = clock k; log = log k }

  -- In the last epoch, with nothing left to ask, nothing is done any more.
  done_all : (from : Standing C) (served : ℕ) (turns : List (Turn C R)) → IsLevelAt from served turns top [] → from ≡ last
  done_all from served [] at =
      same_standing from last
      (same_lists from.shards last.shards [] (at.rolls.tells.shaped.count ∙ sym last_count) each)
      (sym (on_to-there top from.clock (omega (arith, at.epoch_is))) ∙ at.rolls.clock)
      (sym (append-nil from.log) ∙ ap (λ (n : ℕ). from.log ++ replicate n NextEpoch) none' ∙ at.rolls.log)
    where
      none' : 0 ≡ top - from.clock.at.epoch
      none' = omega (arith, at.epoch_is)

      first_of : (shards : List (List C)) (s : ℕ) (seated : IsSeated host (contents_in world) s (get_or shards s [])) → first_in host shards s ≡ seated.content
      first_of shards s seated = get_first (get_or shards s []) seated.content (rest_of host (contents_in world) s) 0 host.vacant seated.are refl

      each : (s : ℕ) → s < length last.shards → get_or from.shards s [] ≡ get_or last.shards s []
      each s there =
          let within : s < count = omega (arith, there, last_count) in
          let one' = at.rolls.tells.shaped.seated s within in
          one'.are
          ∙ ap (λ (c : C). c ∷ rest_of host (contents_in world) s) (sym (first_of from.shards s one') ∙ at.rolls.tells.ends s within)
          ∙ sym (last_are s within)
  done_all from served (turn ∷ turns) at = go turn.request refl
    where
      waits : Waits host (first_in host from.shards turn.place.shard) top
      waits = at.level turn.place.shard (turn_there host world known from.shards last.shards turn turns at.rolls.tells)

      go : (request : Option R) → turn.request ≡ request → from ≡ last
      go (Some request) asks =
          let asked' : IsAsked host 0 served turn.clock.at.epoch (Some request) = subst (IsAsked host 0 served turn.clock.at.epoch) asks at.rolls.chain.2 in
          absurd (none-some (asked'.0, request) (sym (none_left (asked host 0) served at.left_is) ∙ asked'.1))
      go None asks =
          let met = met_scanning host world known from.shards last.shards turn turns at.rolls.tells top asks waits in
          let moved = (turn_moves host world known from.shards last.shards turn turns at.rolls.tells).epoch in
          let rest = rises host world known last.shards top reached turns (put host world known from.shards last.shards turn turns at.rolls.tells) (served_more served turn.request) turn.done.clock
          (put_tells host world known from.shards last.shards turn turns at.rolls.tells) at.rolls.chain.3 in
          absurd (omega (arith, met, moved, rest, at.rolls.within))

  -- ---- phase by phase

  phases_on : (script : List (List (ℕ × R))) (phase epoch : ℕ) → host.header.first + phase ≡ epoch → epoch + length script ≡ top
      → (from : Standing C) (served : ℕ) (turns : List (Turn C R)) → IsLevelAt from served turns epoch (asked_from 0 (suc phase) script)
      → DoesFrom from (phases_behind count script)
  phases_on [] phase epoch of sum from served turns at =
      let same : epoch ≡ top = omega (arith, sum) in
      done_all from served turns (subst (λ (n : ℕ). IsLevelAt from served turns n []) same at)
  phases_on (ask ∷ script) phase epoch of sum from served turns at =
      turn_on phase epoch (asked_from 0 (suc phase) (ask ∷ script)) (served_in (own_turns ask) ++ phases_behind count script) of (omega (arith, sum))
      (λ q request rest is. asked_later (ask ∷ script) (suc phase) q request rest is)
      (serve_on (own_turns ask) (asked_from 0 (suc (suc phase)) script) (suc phase) (suc epoch) (phases_behind count script) (omega (arith, of))
      (phases_on script (suc phase) (suc epoch) (omega (arith, of)) (omega (arith, sum))))
      from served turns at

  -- From the first epoch on the turns are those of all phases.
  pub phases_done : (script : List (List (ℕ × R))) → top ≡ host.header.first + (length script - 1)
      → (from : Standing C) (served : ℕ) (turns : List (Turn C R)) → IsLevelAt from served turns host.header.first (asked_from 0 0 script)
      → DoesFrom from (phases count script)
  phases_done [] is from served turns at =
      let same : host.header.first ≡ top = omega (arith, is) in
      done_all from served turns (subst (λ (n : ℕ). IsLevelAt from served turns n []) same at)
  phases_done (ask ∷ script) is from served turns at =
      serve_on (own_turns ask) (asked_from 0 1 script) 0 host.header.first (phases_behind count script) (omega arith)
      (phases_on script 0 host.header.first (omega arith) (omega (arith, is))) from served turns at

-- A world that is ready for turns in a row, and ready still once its workers have gone on to the epoch of the first.
use Rattle.std.proofs.Common.{◌≡◌, ◌⊎◌, ℕ, suc, ◌+◌, ◌-◌, ◌<◌, ◌≤◌, ◌%◌, Bool, List, [], ◌∷◌, ◌++◌, filter, length, get_or, replicate, Option, Some, None, refl, sym, ◌∙◌, ap, subst, inl, inr, append_assoc, arith}
use Rattle.std.specs.List.{flat_map, AllByRecursion}
use Rattle.std.proofs.lemmas.Bool.{cases_lt}
use Rattle.stamp_order.proofs.InOrderLaws.{every-weaker, every-filter, every-append}
use Rattle.lamport_clocks.specs.Reading.{Reading}
use Rattle.record_text.specs.declared.element.Element.{Element}
use Rattle.log_codec.specs.declared.command.Command.{Command}
use Rattle.log_codec.specs.declared.command.Command.TheVariants.{NextEpoch}
use Rattle.host_core.specs.Host.{Host}
use Rattle.host_core.specs.World.{Place, Worker, Seats, World, unmoved, worker_at, shard_at}
use Rattle.host_core.specs.WorldEvent.{IsPlace}
use Rattle.host_core.specs.Deeds.{pending_of}
use Rattle.round_order.specs.Turn.{Turn, is_at, is_by, on_to, served_more, IsPlaceChain, IsWorkerChain, content_behind, clock_behind, logged, content_at}
use Rattle.round_order.specs.Steady.{MovesOn, scanned_done}
use Rattle.round_order.specs.Told.{IsDid, IsTaken, others_in}
use Rattle.round_order.proofs.GoingLaws.{aim, aim-within, aim-past, gone_on, on_to-epoch, on_to-then, replicate-more}
use Rattle.round_order.proofs.ClimbLemmas.{IsUp, HaveReached, Climbs}

-- ---- lists

module _ {C E : Type 0} (P : E → Type 0) (f : C → List E) where
  -- what holds of all that comes of each content
  pub every-content : (contents : List C) (d : C) → ((seat : ℕ) → seat < length contents → AllByRecursion P (f (get_or contents seat d)))
      → AllByRecursion P (flat_map f contents)
  every-content [] d each = tt
  every-content (content ∷ contents) d each =
      every-append P (f content) (flat_map f contents) (each 0 (omega arith)) (every-content contents d (λ seat there. each (suc seat) (omega (arith, there))))

module _ {C R : Type 0} where
  -- each of no earlier epoch than the one before, from one on
  abbrev pub RisesIn : ℕ → List (Turn C R) → Type 0
  RisesIn epoch [] = Unit {0}
  RisesIn epoch (turn ∷ turns) = (epoch ≤ turn.clock.at.epoch) × RisesIn turn.clock.at.epoch turns

  abbrev pub AreIn : ℕ → List (Turn C R) → Type 0
  AreIn epoch turns = AllByRecursion (λ turn. epoch ≤ turn.clock.at.epoch) turns

  pub rises-all : (low epoch : ℕ) (turns : List (Turn C R)) → low ≤ epoch → RisesIn epoch turns → AreIn low turns
  rises-all low epoch [] less rises = tt
  rises-all low epoch (turn ∷ turns) less rises =
      (omega (arith, less, rises.0), rises-all low turn.clock.at.epoch turns (omega (arith, less, rises.0)) rises.1)

  -- ---- a worker's turns, once it has gone on

  behind-on : (to final : ℕ) (clock : Reading) (turns : List (Turn C R)) → to ≤ final
      → on_to final (clock_behind (on_to to clock) turns) ≡ on_to final (clock_behind clock turns)
  behind-on to final clock [] within = on_to-then to final clock within
  behind-on to final clock (turn ∷ turns) within = refl

  logged-on : (to final : ℕ) (clock : Reading) (turns : List (Turn C R)) → clock.at.epoch ≤ to → to ≤ final → AreIn to turns
      → replicate (to - clock.at.epoch) NextEpoch ++ logged final (on_to to clock) turns ≡ logged final clock turns
  logged-on to final clock [] from within all =
      let sum : (to - clock.at.epoch) + (final - to) ≡ final - clock.at.epoch = omega (arith, from, within) in
      ap (λ (n : ℕ). replicate (to - clock.at.epoch) NextEpoch ++ replicate (final - n) NextEpoch) (on_to-epoch to clock from)
      ∙ replicate-more (to - clock.at.epoch) (final - to) NextEpoch
      ∙ ap (λ (n : ℕ). replicate n NextEpoch) sum
  logged-on to final clock (turn ∷ turns) from within all =
      let rest : List Command = turn.done.commands ++ logged final turn.done.clock turns in
      let sum : (to - clock.at.epoch) + (turn.clock.at.epoch - to) ≡ turn.clock.at.epoch - clock.at.epoch = omega (arith, from, all.0) in
      ap (λ (n : ℕ). replicate (to - clock.at.epoch) NextEpoch ++ (replicate (turn.clock.at.epoch - n) NextEpoch ++ rest)) (on_to-epoch to clock from)
      ∙ sym (append_assoc (replicate (to - clock.at.epoch) NextEpoch) (replicate (turn.clock.at.epoch - to) NextEpoch) rest)
      ∙ ap (λ (xs : List Command). xs ++ rest) (replicate-more (to - clock.at.epoch) (turn.clock.at.epoch - to) NextEpoch)
      ∙ ap (λ (n : ℕ). replicate n NextEpoch ++ rest) sum

  pub worker-behind : (to final : ℕ) (clock : Reading) (turns : List (Turn C R)) → clock.at.epoch ≤ to → to ≤ final → AreIn to turns
      → (on_to final (clock_behind (on_to to clock) turns) ≡ on_to final (clock_behind clock turns))
      × (replicate (to - clock.at.epoch) NextEpoch ++ logged final (on_to to clock) turns ≡ logged final clock turns)
  worker-behind to final clock turns from within all = (behind-on to final clock turns within, logged-on to final clock turns from within all)

module _ {C R : Type 0} (host : Host C R) where
  chain-on : (i to served : ℕ) (clock : Reading) (turns : List (Turn C R)) → clock.at.epoch ≤ to → AreIn to turns
      → IsWorkerChain host i clock served turns → IsWorkerChain host i (on_to to clock) served turns
  chain-on i to served clock [] from all chain = tt
  chain-on i to served clock (turn ∷ turns) from all chain = (
    chain.0 ∙ sym (on_to-then to turn.clock.at.epoch clock all.0),
    omega (arith, on_to-epoch to clock from, all.0),
    chain.2,
    chain.3,
  )

  -- what is done at a turn moves the clock on
  abbrev pub IsMoving : Turn C R → Type 0
  IsMoving turn = MovesOn host turn.clock turn.before turn.done

  pub chain-rises : (i : ℕ) (turns : List (Turn C R)) (served : ℕ) (clock : Reading) → IsWorkerChain host i clock served turns → AllByRecursion IsMoving turns
      → clock.at.epoch ≤ (clock_behind clock turns).at.epoch
  chain-rises i [] served clock chain moving = omega arith
  chain-rises i (turn ∷ turns) served clock chain moving =
      omega (arith, chain.1, moving.0.epoch, chain-rises i turns (served_more served turn.request) turn.done.clock chain.3 moving.1)

  module _ (scans : Bool) (top : ℕ) (finals : ℕ → ℕ) where
    -- Each worker's part and each place's part of the turns is a chain, and each ends in its last epoch or before.
    pub record Ready (world : World C) (epoch : ℕ) (turns : List (Turn C R)) : Type 0 where
      pub up : IsUp host top finals world epoch
      pub each : AllByRecursion (IsTaken host scans world) turns
      pub moving : AllByRecursion IsMoving turns
      pub rising : RisesIn epoch turns
      pub workers : (i : ℕ) → IsWorkerChain host i (worker_at host world i).clock (worker_at host world i).served (filter (is_by i) turns)
      pub places : (place : Place) → IsPlaceChain (content_at host world place) (filter (is_at place) turns)
      pub final : (i : ℕ) → i < length world.workers → (clock_behind (worker_at host world i).clock (filter (is_by i) turns)).at.epoch ≤ finals i
      pub ends : (place : Place) → IsPlace world place
          → AllByRecursion (λ (element : Element). top ≤ suc element.stamp.epoch) (host.pending (content_behind (content_at host world place) (filter (is_at place) turns)))

    module _ (world : World C) (epoch : ℕ) (turns : List (Turn C R)) (ready : Ready world epoch turns) (to : ℕ) (from : epoch ≤ to) (within : to ≤ top)
        (all : AreIn to turns) where
      -- what waits has come to the epoch before
      place_reached : (place : Place) → IsPlace world place → AllByRecursion (λ (element : Element). to ≤ suc element.stamp.epoch) (host.pending (content_at host world place))
      place_reached place at =
          go (filter (is_at place) turns) (ready.places place) (every-filter (IsTaken host scans world) (is_at place) turns ready.each)
          (every-filter (λ turn. to ≤ turn.clock.at.epoch) (is_at place) turns all) (ready.ends place at)
        where
          go : (part : List (Turn C R)) → IsPlaceChain (content_at host world place) part → AllByRecursion (IsTaken host scans world) part → AreIn to part
              → AllByRecursion (λ (element : Element). top ≤ suc element.stamp.epoch) (host.pending (content_behind (content_at host world place) part))
              → AllByRecursion (λ (element : Element). to ≤ suc element.stamp.epoch) (host.pending (content_at host world place))
          go [] chain each all ends =
              every-weaker (λ (element : Element). top ≤ suc element.stamp.epoch) (λ (element : Element). to ≤ suc element.stamp.epoch)
              (λ element above. omega (arith, above, within)) (host.pending (content_at host world place)) ends
          go (turn ∷ part) chain each all ends =
              subst (λ (c : C). AllByRecursion (λ (element : Element). to ≤ suc element.stamp.epoch) (host.pending c)) chain.0
              (every-weaker (λ (element : Element). turn.clock.at.epoch ≤ suc element.stamp.epoch) (λ (element : Element). to ≤ suc element.stamp.epoch)
              (λ element above. omega (arith, above, all.0)) (host.pending turn.before) each.0.near)

      pub reached : HaveReached host top finals world to
      reached s there =
          every-content (λ (element : Element). to ≤ suc element.stamp.epoch) host.pending (shard_at world s).contents host.vacant
          (λ seat within. place_reached (record { shard = s; seat = seat }) (there, within))

      module _ (later : World C) (climbs : Climbs host top finals world later to) (up : IsUp host top finals later to) where
        contents_same : (s : ℕ) → shard_at later s ≡ shard_at world s
        contents_same s = ap (λ (shards : List (Seats C)). get_or shards s (unmoved [])) climbs.shards

        pub content_same : (place : Place) → content_at host later place ≡ content_at host world place
        content_same place = ap (λ (seats : Seats C). get_or seats.contents place.seat host.vacant) (contents_same place.shard)

        pub place_same : (place : Place) → IsPlace later place → IsPlace world place
        place_same place at = (
          omega (arith, at.0, ap (λ (shards : List (Seats C)). length shards) climbs.shards),
          omega (arith, at.1, ap (λ (seats : Seats C). length seats.contents) (contents_same place.shard)),
        )

        pub place_on : (place : Place) → IsPlace world place → IsPlace later place
        place_on place at = (
          omega (arith, at.0, ap (λ (shards : List (Seats C)). length shards) climbs.shards),
          omega (arith, at.1, ap (λ (seats : Seats C). length seats.contents) (contents_same place.shard)),
        )

        -- what a worker shows but for its log and clock
        pub shown_same : {A : Type 0} (show : Worker → A) → ((n : ℕ) (w : Worker) → show (gone_on n w) ≡ show w) → (i : ℕ)
            → show (worker_at host later i) ≡ show (worker_at host world i)
        shown_same show same i = go (cases_lt i (length world.workers))
          where
            go : (i < length world.workers) ⊎ (length world.workers ≤ i) → show (worker_at host later i) ≡ show (worker_at host world i)
            go (inl there) = ap show (climbs.own i there) ∙ same (aim to (finals i)) (worker_at host world i)
            go (inr past) = ap show (climbs.others i past)

        taken_on : (turn : Turn C R) → IsTaken host scans world turn → IsTaken host scans later turn
        taken_on turn is = record {
          there = omega (arith, is.there, climbs.count);
          at = place_on turn.place is.at;
          running = shown_same (λ w. w.stopped) (λ n w. refl) turn.worker ∙ is.running;
          reached = is.reached;
          near = is.near;
          alone = is.alone;
          did = did turn.request is.did;
        }
          where
            did : (request : Option R) → IsDid host scans world turn request → IsDid host scans later turn request
            did None scan = record {
              rolling = scan.rolling;
              scanned = scan.scanned;
              first = scan.first;
              own = subst (λ (n : ℕ). turn.place.shard % n ≡ turn.worker) (sym climbs.count) scan.own;
              alone = ap (λ (seats : Seats C). pending_of host (others_in seats.contents)) (contents_same turn.place.shard) ∙ scan.alone;
              waits = scan.waits;
              before = scan.before;
              turned = scan.turned;
              earlier = scan.earlier;
              moves = subst (λ (seats : Seats C). host.move turn.worker turn.clock turn.place.shard (turn.before ∷ others_in seats.contents) ≡ Some (scanned_done (others_in seats.contents) turn.done))
                  (sym (contents_same turn.place.shard)) scan.moves;
            }
            did (Some request) owned =
                (ap (λ (seats : Seats C). host.owns turn.place.shard seats.contents turn.place.seat request) (contents_same turn.place.shard) ∙ owned.0, owned.1)

        aim_bounds : (i : ℕ) → i < length world.workers
            → ((worker_at host world i).clock.at.epoch ≤ aim to (finals i)) × (aim to (finals i) ≤ to) × (aim to (finals i) ≤ finals i)
        aim_bounds i there = go (cases_lt (finals i) epoch) (cases_lt (finals i) to)
          where
            go : (finals i < epoch) ⊎ (epoch ≤ finals i) → (finals i < to) ⊎ (to ≤ finals i)
                → ((worker_at host world i).clock.at.epoch ≤ aim to (finals i)) × (aim to (finals i) ≤ to) × (aim to (finals i) ≤ finals i)
            go (inl first) second =
                let own = ready.up.clocks i there in
                let low = aim-past epoch (finals i) (omega (arith, first)) in
                let high = aim-past to (finals i) (omega (arith, first, from)) in
                (omega (arith, own, low, high), omega (arith, high, first, from), omega (arith, high))
            go (inr first) (inl second) =
                let own = ready.up.clocks i there in
                let low = aim-within epoch (finals i) first in
                let high = aim-past to (finals i) (omega (arith, second)) in
                (omega (arith, own, low, high, first), omega (arith, high, second), omega (arith, high))
            go (inr first) (inr second) =
                let own = ready.up.clocks i there in
                let low = aim-within epoch (finals i) first in
                let high = aim-within to (finals i) second in
                (omega (arith, own, low, high, from), omega (arith, high), omega (arith, high, second))

        part_in : (i : ℕ) → i < length world.workers → AreIn (aim to (finals i)) (filter (is_by i) turns)
        part_in i there =
            every-weaker (λ turn. to ≤ turn.clock.at.epoch) (λ turn. aim to (finals i) ≤ turn.clock.at.epoch)
            (λ turn above. omega (arith, above, (aim_bounds i there).1)) (filter (is_by i) turns)
            (every-filter (λ turn. to ≤ turn.clock.at.epoch) (is_by i) turns all)

        -- what a worker's turns leave is the same from where it has gone on to
        pub part_behind : (i : ℕ) → i < length world.workers
            → (on_to (finals i) (clock_behind (worker_at host later i).clock (filter (is_by i) turns)) ≡ on_to (finals i) (clock_behind (worker_at host world i).clock (filter (is_by i) turns)))
            × ((worker_at host later i).log ++ logged (finals i) (worker_at host later i).clock (filter (is_by i) turns)
            ≡ (worker_at host world i).log ++ logged (finals i) (worker_at host world i).clock (filter (is_by i) turns))
        part_behind i there =
            let was : Worker = worker_at host world i in
            let bounds = aim_bounds i there in
            let part = filter (is_by i) turns in
            let both = worker-behind (aim to (finals i)) (finals i) was.clock part bounds.0 bounds.2 (part_in i there) in (
              ap (λ (w : Worker). on_to (finals i) (clock_behind w.clock part)) (climbs.own i there) ∙ both.0,
              ap (λ (w : Worker). w.log ++ logged (finals i) w.clock part) (climbs.own i there)
                  ∙ append_assoc was.log (replicate (aim to (finals i) - was.clock.at.epoch) NextEpoch) (logged (finals i) (on_to (aim to (finals i)) was.clock) part)
                  ∙ ap (λ (xs : List Command). was.log ++ xs) both.1,
            )

        -- It is ready still.
        pub ready_on : RisesIn to turns → Ready later to turns
        ready_on rising = record {
          up = up;
          each = every-weaker (IsTaken host scans world) (IsTaken host scans later) taken_on turns ready.each;
          moving = ready.moving;
          rising = rising;
          workers = λ i. worker_chain i (cases_lt i (length world.workers));
          places = λ place. subst (λ (c : C). IsPlaceChain c (filter (is_at place) turns)) (sym (content_same place)) (ready.places place);
          final = λ i there. last i (omega (arith, there, climbs.count));
          ends = λ place at. subst (λ (c : C). AllByRecursion (λ (element : Element). top ≤ suc element.stamp.epoch) (host.pending (content_behind c (filter (is_at place) turns))))
              (sym (content_same place)) (ready.ends place (place_same place at));
        }
          where
            Chain : ℕ → Worker → Type 0
            Chain i w = IsWorkerChain host i w.clock w.served (filter (is_by i) turns)

            worker_chain : (i : ℕ) → (i < length world.workers) ⊎ (length world.workers ≤ i) → Chain i (worker_at host later i)
            worker_chain i (inl there) =
                subst (Chain i) (sym (climbs.own i there))
                (chain-on i (aim to (finals i)) (worker_at host world i).served (worker_at host world i).clock (filter (is_by i) turns) (aim_bounds i there).0 (part_in i there) (ready.workers i))
            worker_chain i (inr past) = subst (Chain i) (sym (climbs.others i past)) (ready.workers i)

            last : (i : ℕ) → i < length world.workers → (clock_behind (worker_at host later i).clock (filter (is_by i) turns)).at.epoch ≤ finals i
            last i there =
                subst (λ (w : Worker). (clock_behind w.clock (filter (is_by i) turns)).at.epoch ≤ finals i) (sym (climbs.own i there))
                (go (filter (is_by i) turns) (ready.final i there))
              where
                go : (part : List (Turn C R)) → (clock_behind (worker_at host world i).clock part).at.epoch ≤ finals i
                    → (clock_behind (gone_on (aim to (finals i)) (worker_at host world i)).clock part).at.epoch ≤ finals i
                go [] is = omega (arith, on_to-epoch (aim to (finals i)) (worker_at host world i).clock (aim_bounds i there).0, (aim_bounds i there).2)
                go (turn ∷ part) is = is

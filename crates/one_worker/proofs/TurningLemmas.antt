-- A whole run of a rolling host with one worker is what the script asks, deed by deed.
use Rattle.std.proofs.Common.{◌≡◌, ℕ, zero, suc, ◌+◌, ◌-◌, ◌<◌, ◌≤◌, ◌==◌, ◌&&◌, Bool, true, false, List, [], ◌∷◌, ◌++◌, map, filter, length, get_or, if◌then◌else◌, refl, sym, ◌∙◌, ap, subst, arith}
use Rattle.std.specs.List.{AllByRecursion}
use Rattle.std.proofs.lemmas.Bool.{ne_eqb}
use Rattle.std.proofs.lemmas.List.{length-map}
use Rattle.record_text.specs.declared.element.Element.{Element}
use Rattle.stamp_order.proofs.InOrderLaws.{every-weaker}
use Rattle.host_core.specs.Host.{Host}
use Rattle.host_core.specs.World.{Place, Worker, Seats, World, fresh, set_up, worker_at, shard_at}
use Rattle.host_core.specs.WorldEvent.{AreFrom, run_events}
use Rattle.host_core.specs.Deeds.{pending_of}
use Rattle.round_order.specs.Turn.{Turn, is_at, is_by, content_behind, clock_behind, logged, on_to, content_at, in_one_order}
use Rattle.round_order.specs.Told.{IsTaken, IsWholeRound, joined, list_of, past_of, round_events, finishes_from, whole_events}
use Rattle.round_order.proofs.ChainLaws.{Led}
use Rattle.host_serving.specs.Loop.{KeepsToLoop}
use Rattle.one_worker.specs.Deeds.{phases, acts_of, Standing, standing_in, AreDone}
use Rattle.one_worker.proofs.ShapeLemmas.{IsKnown, get_first, rest_of, IsSeated}
use Rattle.one_worker.proofs.TurnLemmas.{first_place, contents_in, contents_at, first_in, Waits, Tells}
use Rattle.one_worker.proofs.RollLemmas.{order_free, Rolls}
use Rattle.one_worker.proofs.ToldLemmas.{all_front, filter_none, IsSetUp, IsToldOn, still_noted}
use Rattle.one_worker.proofs.ToldLemmas as from_told
use Rattle.one_worker.proofs.RollingLemmas.{same_lists, phases_done}

module _ {C R : Type 0} (host : Host C R) where
  module _ (rolling : host.rolling ≡ true) (is : IsSetUp host) (top : ℕ) (finals : ℕ → ℕ) (lists : List (List (Turn C R))) (pasts : List (List (List (Turn C R))))
      (told : IsToldOn host top finals lists pasts) (whole : IsWholeRound host (set_up host) top finals lists pasts)
      (loop : KeepsToLoop host 0 host.header.first (list_of lists 0)) where
    abbrev world : World C
    world = set_up host

    abbrev list : List (Turn C R)
    list = list_of lists 0

    workers_one : length world.workers ≡ 1
    workers_one = from_told.workers_one host is

    origin_is : contents_in world ≡ host.setup.after
    origin_is = from_told.origin_is host is

    abbrev known : IsKnown host (contents_in world)
    known = from_told.known host is

    abbrev led : Led host true known.steady top finals world (in_one_order (joined lists)) (round_events finals (length world.workers) top host.header.first (in_one_order (joined lists)))
    led = from_told.led host is rolling top finals lists pasts told

    abbrev later : World C
    later = led.later

    there : 0 < length world.workers
    there = omega (arith, workers_one)

    part_is : filter (is_by 0) (in_one_order (joined lists)) ≡ list
    part_is = from_told.part_is host is top finals lists pasts told.told

    all_taken : AllByRecursion (IsTaken host true world) (in_one_order (joined lists))
    all_taken = from_told.all_taken host is top finals lists pasts told.told

    order_is : in_one_order (joined lists) ≡ list
    order_is = from_told.order_is host is top finals lists pasts told.told

    past_is : (place : Place) → past_of pasts place ≡ filter (is_at place) list
    past_is = from_told.past_is host is top finals lists pasts told.told

    -- ---- contents

    shards_there : (s : ℕ) → s < length (contents_in world) → s < length world.shards
    shards_there = from_told.shards_there host is

    later_there : (s : ℕ) → s < length (contents_in world) → s < length later.shards
    later_there s within = omega (arith, shards_there s within, led.leads.shards)

    before_is : (s : ℕ) → s < length (contents_in world) → content_at host world (first_place s) ≡ first_in host (contents_in world) s
    before_is = from_told.before_is host is

    behind_is : (s : ℕ) → s < length (contents_in world) → content_at host later (first_place s) ≡ first_in host (contents_in later) s
    behind_is s within = ap (λ (cs : List C). get_or cs 0 host.vacant) (sym (contents_at later s (later_there s within)))

    seated : (s : ℕ) → s < length (contents_in world) → IsSeated host (contents_in world) s (get_or (contents_in world) s [])
    seated = from_told.seated host is

    ends_at : (s : ℕ) → s < length (contents_in world) → content_behind (first_in host (contents_in world) s) (filter (is_at (first_place s)) list) ≡ first_in host (contents_in later) s
    ends_at s within =
        ap (λ (c : C). content_behind c (filter (is_at (first_place s)) list)) (sym (before_is s within))
        ∙ ap (λ (ts : List (Turn C R)). content_behind (content_at host world (first_place s)) (filter (is_at (first_place s)) ts)) (sym order_is)
        ∙ sym (led.leads.contents (first_place s))
        ∙ behind_is s within

    tells : Tells host world known (contents_in world) (contents_in later) list
    tells = from_told.tells_to host is top finals lists pasts told.told loop.fresh (contents_in later) ends_at

    reached : (s : ℕ) → s < length (contents_in world) → AreFrom top (host.pending (first_in host (contents_in later) s))
    reached s within =
        subst (λ (c : C). AreFrom top (host.pending c))
        (ap (content_behind (content_at host world (first_place s))) (past_is (first_place s))
        ∙ ap (λ (c : C). content_behind c (filter (is_at (first_place s)) list)) (before_is s within) ∙ ends_at s within)
        (whole.reached (first_place s) (
          shards_there s within,
          subst (λ (cs : List C). 0 < length cs) (sym (seated s within).are ∙ contents_at world s (shards_there s within)) (omega arith),
        ))

    last_count : length (contents_in later) ≡ length (contents_in world)
    last_count = length-map later.shards (λ (shard : Seats C). shard.contents) ∙ led.leads.shards ∙ sym (length-map world.shards (λ (shard : Seats C). shard.contents))

    -- the other seats are as they were
    no_turn : (s k : ℕ) → filter (is_at (record { shard = s; seat = suc k })) (in_one_order (joined lists)) ≡ []
    no_turn s k = filter_none (is_at (record { shard = s; seat = suc k })) (in_one_order (joined lists))
        (every-weaker (IsTaken host true world) (λ turn. is_at (record { shard = s; seat = suc k }) turn ≡ false) (λ turn taken. elsewhere turn taken) (in_one_order (joined lists)) all_taken)
      where
        never : (b : Bool) → (b && false) ≡ false
        never true = refl
        never false = refl

        elsewhere : (turn : Turn C R) → IsTaken host true world turn → is_at (record { shard = s; seat = suc k }) turn ≡ false
        elsewhere turn taken =
            ap (λ (b : Bool). (turn.place.shard == s) && b) (ne_eqb turn.place.seat (suc k) (λ same. omega (arith, same, taken.alone refl)))
            ∙ never (turn.place.shard == s)

    last_are : (s : ℕ) → s < length (contents_in world) → get_or (contents_in later) s [] ≡ first_in host (contents_in later) s ∷ rest_of host (contents_in world) s
    last_are s within =
        contents_at later s (later_there s within)
        ∙ same_lists (shard_at later s).contents (first_in host (contents_in later) s ∷ rest_of host (contents_in world) s) host.vacant counted each
      where
        before : (shard_at world s).contents ≡ (seated s within).content ∷ rest_of host (contents_in world) s
        before = sym (contents_at world s (shards_there s within)) ∙ (seated s within).are

        counted : length (shard_at later s).contents ≡ length (first_in host (contents_in later) s ∷ rest_of host (contents_in world) s)
        counted = led.leads.seats s ∙ ap (λ (cs : List C). length cs) before ∙ omega arith

        each : (k : ℕ) → k < length (first_in host (contents_in later) s ∷ rest_of host (contents_in world) s)
            → get_or (shard_at later s).contents k host.vacant ≡ get_or (first_in host (contents_in later) s ∷ rest_of host (contents_in world) s) k host.vacant
        each zero inside = behind_is s within
        each (suc k) inside =
            led.leads.contents (record { shard = s; seat = suc k })
            ∙ ap (content_behind (content_at host world (record { shard = s; seat = suc k }))) (no_turn s k)
            ∙ ap (λ (cs : List C). get_or cs (suc k) host.vacant) before

    -- ---- the phases

    rolls : Rolls host world known (standing_in host later) top workers_one reached (standing_in host world) 0 list
    rolls = record {
      tells = tells;
      chain = told.told.workers 0;
      log = sym (led.leads.logs 0 there
          ∙ ap (λ (n : ℕ). (worker_at host world 0).log ++ logged n (worker_at host world 0).clock (filter (is_by 0) (in_one_order (joined lists)))) (whole.come 0 there)
          ∙ ap (λ (ts : List (Turn C R)). (worker_at host world 0).log ++ logged top (worker_at host world 0).clock ts) part_is);
      clock = sym (led.leads.clocks 0 there
          ∙ ap (λ (n : ℕ). on_to n (clock_behind (worker_at host world 0).clock (filter (is_by 0) (in_one_order (joined lists))))) (whole.come 0 there)
          ∙ ap (λ (ts : List (Turn C R)). on_to top (clock_behind (worker_at host world 0).clock ts)) part_is);
      within = omega (arith, (told.told.final 0 there).0, whole.come 0 there);
      all = whole.served 0 there;
    }

    waits_first : (s : ℕ) → s < length (contents_in world) → Waits host (first_in host (contents_in world) s) host.header.first
    waits_first s within =
        let one = (seated s within).one in
        (one.0, ap host.pending first ∙ one.1, at_first)
      where
        first : first_in host (contents_in world) s ≡ (seated s within).content
        first = get_first (get_or (contents_in world) s []) (seated s within).content (rest_of host (contents_in world) s) 0 host.vacant (seated s within).are refl

        all : AllByRecursion (λ element. element.stamp.epoch ≡ host.header.first) (pending_of host ((seated s within).content ∷ rest_of host (contents_in world) s))
        all = subst (λ (cs : List C). AllByRecursion (λ element. element.stamp.epoch ≡ host.header.first) (pending_of host cs)) (seated s within).are
            (subst (λ (cs : List (List C)). (s : ℕ) → s < length cs → AllByRecursion (λ element. element.stamp.epoch ≡ host.header.first) (pending_of host (get_or cs s [])))
            (sym origin_is) is.waits s within)

        at_first : (seated s within).one.0.stamp.epoch ≡ host.header.first
        at_first = (subst (λ (es : List Element). AllByRecursion (λ element. element.stamp.epoch ≡ host.header.first) es) (seated s within).one.1
            (all_front (λ (element : Element). element.stamp.epoch ≡ host.header.first) (host.pending (seated s within).content) (pending_of host (rest_of host (contents_in world) s)) all)).0

    some_there : 0 < length (contents_in world)
    some_there = subst (λ (cs : List (List C)). 0 < length cs) (sym origin_is) is.some

    top_is : top ≡ host.header.first + (length host.script - 1)
    top_is = whole.last ∙ ap (λ (b : Bool). host.header.first + (if b then length host.script - 1 else 0)) rolling

    later_done : AreDone (acts_of host) (standing_in host world) (phases (length (contents_in world)) host.script) (standing_in host later)
    later_done = phases_done host world known (standing_in host later) top workers_one some_there last_count last_are reached host.script top_is (standing_in host world) 0 list (record {
      rolls = rolls;
      free = order_free list loop.in_order;
      serving = host.header.first;
      no_later = loop.no_later;
      since = omega arith;
      epoch_is = is.first;
      level = waits_first;
      left_is = refl;
    })

    -- ---- the whole round

    abbrev whole_run : World C
    whole_run = run_events host world (whole_events world finals top host.header.first lists)

    noted_is : whole_run ≡ run_events host later (finishes_from 0 (length world.workers))
    noted_is = from_told.noted_is host is rolling top finals lists pasts told

    standing_is : standing_in host later ≡ standing_in host whole_run
    standing_is =
        let still = still_noted host later 0 (length world.workers) in
        (λ k. record {
          shards = map (λ shard. shard.contents) ((sym still.0) k);
          clock = (get_or ((sym still.1) k) 0 (fresh host.header)).clock;
          log = (get_or ((sym still.1) k) 0 (fresh host.header)).log;
        }) ∙ ap (standing_in host) (sym noted_is)

    -- The round is all phases.
    pub round_done : AreDone (acts_of host) (standing_in host world) (phases (length host.setup.after) host.script) (standing_in host whole_run)
    round_done =
        subst (λ (to : Standing C). AreDone (acts_of host) (standing_in host world) (phases (length host.setup.after) host.script) to) standing_is
        (subst (λ (cs : List (List C)). AreDone (acts_of host) (standing_in host world) (phases (length cs) host.script) (standing_in host later)) origin_is later_done)

    pub round_phase : length host.script ≤ suc whole_run.phase
    round_phase =
        let phase : whole_run.phase ≡ world.phase = ap (λ (w : World C). w.phase) noted_is ∙ (still_noted host later 0 (length world.workers)).2 ∙ led.leads.phase in
        let first : world.phase ≡ length host.script - 1 = ap (λ (b : Bool). if b then length host.script - 1 else 0) rolling in
        omega (arith, phase, first)

    pub round_count : length whole_run.workers ≡ 1
    round_count = ap (λ (w : World C). length w.workers) noted_is ∙ ap (λ (ws : List Worker). length ws) (still_noted host later 0 (length world.workers)).1 ∙ led.leads.count ∙ workers_one

    pub round_shards : length whole_run.shards ≡ length host.setup.after
    round_shards = ap (λ (w : World C). length w.shards) noted_is ∙ ap (λ (ss : List (Seats C)). length ss) (still_noted host later 0 (length world.workers)).0 ∙ led.leads.shards ∙ from_told.shards_count host is

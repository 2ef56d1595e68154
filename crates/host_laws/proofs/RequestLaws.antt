-- The plan of a request runs, for a key of a shard and for a hot key.
use Rattle.std.proofs.Common.{◌≡◌, ℕ, suc, ◌+◌, ◌<◌, ◌≤◌, Bool, true, false, not, ◌&&◌, List, [], ◌∷◌, ◌++◌, length, Option, Some, None, IsSome, Ok, Err, append-nil, if◌then◌else◌, refl, sym, ◌∙◌, ap, subst, inl, inr, arith}
use Rattle.std.specs.List.{AllByRecursion}
use Rattle.tree_keys.specs.Path.{side, IsBelow, key_path}
use Rattle.tree_keys.proofs.TreeLaws.{key_path-data}
use Rattle.lamport_clocks.specs.declared.stamp.Stamp.{Stamp}
use Rattle.lamport_clocks.specs.Stamp.{IsLater}
use Rattle.lamport_clocks.specs.Reading.{Reading}
use Rattle.lamport_clocks.specs.Clock.{is_open}
use Rattle.lamport_clocks.proofs.ClockLaws.{received-above, sent-later}
use Rattle.record_text.specs.declared.element.Element.{Element}
use Rattle.record_text.specs.declared.request.Request.{Request}
use Rattle.record_text.specs.declared.value.Value.{Value}
use Rattle.record_text.specs.declared.value.Value.TheVariants as values
use Rattle.record_text.specs.Value.{IsOf}
use Rattle.record_text.specs.declared.refusal.Refusal.TheVariants as refusals
use Rattle.log_codec.specs.declared.command.Command.{Command}
use Rattle.log_codec.specs.declared.command.Command.TheVariants.{Absent}
use Rattle.verifier_cache.specs.declared.entry.Hold.TheVariants.{B}
use Rattle.verifier_commands.specs.declared.state.State.{State}
use Rattle.verifier_commands.specs.Change.{Change}
use Rattle.verifier_commands.specs.Transition.{Rules, is_root}
use Rattle.soundness.specs.Certified.{evicted_by}
use Rattle.host_shard.specs.declared.link.Link.{Link}
use Rattle.host_shard.specs.declared.content.HotRecord.{HotRecord}
use Rattle.host_shard.specs.Chain.{IsChain, last_value, end_path, ends_new}
use Rattle.host_shard.specs.Shard.{key_path_in, wide_in, Shard, tree_of, pending_shard, rehashed, touched}
use Rattle.host_shard.specs.Content.{hot_path, Content, cold, hot, vacant, pending, pending_hot}
use Rattle.host_plan.specs.Moments.{taking, renewing}
use Rattle.host_plan.specs.Request.{command_of, value_after, is_missed, links_known, links_gone, value_before, end_command, gone_along, served, served_hot}
use Rattle.host_plan.specs.Visit.{visit}
use Rattle.host_plan.specs.Plan.{IsServable, CanServe, IsPastEnd, AreLinks, commands_of, IsPlan}
use Rattle.host_plan.specs.declared.plans.Plan.{Plan}
use Rattle.host_laws.specs.Running.{Told, Access, run, added_told, evicted_told, accesses_told}
use Rattle.host_laws.specs.Carried.{IsCarried, carried}
use Rattle.host_laws.specs.Served.{IsResting, CanTake, IsWithin, waiting, kept_in, PlanRuns}
use Rattle.host_laws.proofs.DepthLaws.{not_root, some_path, depth_in, some_bits, key_deep}
use Rattle.host_laws.proofs.ToldLaws.{added_told-append, evicted_told-append, accesses_told-append, carried-append, all-append}
use Rattle.host_laws.proofs.EndLemmas.{IsEnd, access_by, change_by, told_request, works_request}
use Rattle.host_laws.proofs.WorksLaws.{Works}
use Rattle.host_laws.proofs.ChainLaws.{LeadTo}
use Rattle.host_laws.proofs.VisitLemmas.{Visited, visited}
use Rattle.host_laws.proofs.MissLemmas.{known_few, missed_access, missed_visit}
use Rattle.host_laws.proofs.StayLaws.{known_stay, found_gone}
use Rattle.host_laws.proofs.MomentLaws.{received-taken, sent-given}
use Rattle.host_laws.proofs.FrontierLaws.{leads, frontier_there, frontier_of, frontier_based, chain_length}
use Rattle.host_laws.proofs.BetweenLaws.{clear-bare, length-bare, told_between, between_runs, between_ends}

-- ---- stamps

later-trans : (s t u : Stamp) → IsLater t s → IsLater u t → IsLater u s
later-trans s t u (inl a) (inl b) = inl (omega arith)
later-trans s t u (inl a) (inr b) = inl (omega arith)
later-trans s t u (inr a) (inl b) = inl (omega arith)
later-trans s t u (inr a) (inr b) = inr (a.0 ∙ b.0, omega arith)

-- what is told of an element that is taken in and handed out is within its stamps
pub within_between : (rules : Rules) (element left : Element) (new : Value) (clock : Reading) (told : Told) → is_open clock element.stamp.epoch ≡ true
    → (renewing clock element.stamp).at.counter ≤ clock.end → left.stamp ≡ (renewing clock element.stamp).at
    → AllByRecursion (λ (one : Stamp × Change). one.0 ≡ (taking clock element.stamp).at) told
    → AllByRecursion (λ (one : Stamp × Change). IsWithin (Some element) (Some left) one.0) (told_between rules element new clock told)
within_between rules element left new clock told is_taken within is_left at_clock =
    (here, all-append (λ (one : Stamp × Change). IsWithin (Some element) (Some left) one.0) told _ (inside told at_clock) (last, tt))
  where
    taken : Reading
    taken = taking clock element.stamp

    first : IsLater taken.at element.stamp
    first = received-above clock taken element.stamp (received-taken clock element.stamp is_taken (omega arith))

    second : IsLater (renewing clock element.stamp).at taken.at
    second = sent-later taken (renewing clock element.stamp) (renewing clock element.stamp).at (sent-given taken within)

    here : IsWithin (Some element) (Some left) taken.at
    here = (first, inl (subst (λ (s : Stamp). IsLater s taken.at) (sym is_left) second))

    last : IsWithin (Some element) (Some left) (renewing clock element.stamp).at
    last = (later-trans element.stamp taken.at (renewing clock element.stamp).at first second, inr is_left)

    inside : (told : Told) → AllByRecursion (λ (one : Stamp × Change). one.0 ≡ taken.at) told
        → AllByRecursion (λ (one : Stamp × Change). IsWithin (Some element) (Some left) one.0) told
    inside [] all = tt
    inside (one ∷ more) all = (subst (IsWithin (Some element) (Some left)) (sym all.0) here, inside more all.1)

-- the access of a request for a key of a tree with this answer
abbrev answered : Bool → Request → Value → List Access
answered wide request value = record { put = request.put; path = key_path wide request.key; value = value } ∷ []

-- an element alone
abbrev handed_out : List Bool → Stamp → ℕ → Value → List Element
handed_out path stamp number value = record { path = path; value = value; stamp = stamp; verifier = number } ∷ []

-- ---- a key of a shard

-- what a request's commands do behind the shard's frontier, whether it misses its key or not
record Way (rules : Rules) (shard : Shard) (links : List Link) (request : Request) (clock : Reading) (missed : Bool) : Type 0 where
  pub told : Told
  pub works : Works rules (length (links_gone shard links request missed)) shard.frontier B shard.value clock
      (visit shard.frontier (links_gone shard links request missed) (end_command shard links request missed ∷ [])) told
      (gone_along rules.scheme.digest shard links request missed).value clock
  pub added : added_told told ≡ []
  pub evicted : evicted_told told ≡ []
  pub accesses : accesses_told told ≡ answered (wide_in shard) request (value_after request (value_before shard links missed))
  pub at_clock : AllByRecursion (λ (one : Stamp × Change). one.0 ≡ clock.at) told
  pub outside : (path : List Bool) → side shard.frontier path ≡ None → carried path told ≡ []
  pub once : (path : List Bool) → IsCarried path (shard.records path) ((gone_along rules.scheme.digest shard links request missed).records path) (carried path told)

module _ (rules : Rules) (clock : Reading) (shard : Shard) (request : Request) (links : List Link)
    (servable : IsServable rules.scheme.format.longest rules.scheme.digest shard (key_path_in shard request.key))
    (chain : IsChain (tree_of shard) (key_path_in shard request.key) shard.frontier shard.value links) where
  abbrev asked : List Bool
  asked = key_path_in shard request.key

  lead : LeadTo rules.scheme.format.longest rules.scheme.digest (tree_of shard) asked
  lead = leads rules.scheme.format.longest rules.scheme.digest shard asked servable

  some : 0 < length shard.frontier
  some = some_path shard.frontier servable.fits.below_root

  kind : IsOf rules.scheme.format.longest shard.frontier shard.value
  kind = servable.fits.kinds shard.frontier shard.value (frontier_there shard)

  -- along the chain
  found_way : Way rules shard links request clock false
  found_way =
      let found = last_value shard.value links in
      let did : Visited rules shard.records shard.frontier B shard.value links clock (command_of (wide_in shard) request found) (access_by (wide_in shard) request found) (value_after request found) =
      visited rules (wide_in shard) (tree_of shard) shard.records clock request lead shard.frontier B shard.value links some kind (frontier_of shard) (frontier_based shard) chain in
      let left : Shard = record (rehashed rules.scheme.digest shard links (value_after request found)) { touches = touched shard.touches asked } in
      let is : gone_along rules.scheme.digest shard links request false ≡ left = found_gone rules.scheme.format.longest rules.scheme.digest shard links request servable chain in
      record {
        told = did.told;
        works = subst (λ (s : Shard). Works rules (length links) shard.frontier B shard.value clock (visit shard.frontier links (command_of (wide_in shard) request found ∷ [])) did.told s.value clock)
            (sym is) did.works;
        added = did.added;
        evicted = did.evicted;
        accesses = did.accesses;
        at_clock = did.at_clock;
        outside = did.outside;
        once = λ path. subst (λ (s : Shard). IsCarried path (shard.records path) (s.records path) (carried path did.told)) (sym is) (did.once path);
      }

  -- a get's answer, where its key was missed
  get_misses : request.put ≡ false → answered (wide_in shard) request (value_after request (values.Blob None)) ≡ missed_access asked ∷ []
  get_misses get = ap answering get
    where
      answering : Bool → List Access
      answering put = record { put = put; path = asked; value = if put then values.Blob request.value else values.Blob None } ∷ []

  -- along the records on the way
  missed_way : request.put ≡ false → ends_new asked shard.frontier shard.value links ≡ true → Way rules shard links request clock true
  missed_way get new =
      let known = links_known shard links request in
      let did : Visited rules shard.records shard.frontier B shard.value known clock (Absent asked (end_path shard.frontier known)) (missed_access asked) (last_value shard.value known) =
      missed_visit rules (tree_of shard) shard.records clock asked lead shard.frontier B shard.value links some kind (frontier_of shard) (frontier_based shard) chain new in
      let stay = known_stay rules.scheme.format.longest rules.scheme.digest (tree_of shard) shard.records asked lead shard.frontier shard.value links kind (frontier_of shard) (frontier_based shard) chain in
      record {
        told = did.told;
        works = subst (λ (v : Value). Works rules (length known) shard.frontier B shard.value clock (visit shard.frontier known (Absent asked (end_path shard.frontier known) ∷ [])) did.told v clock)
            stay.0 did.works;
        added = did.added;
        evicted = did.evicted;
        accesses = did.accesses ∙ sym (get_misses get);
        at_clock = did.at_clock;
        outside = did.outside;
        once = λ path. subst (λ (after : Option Value). IsCarried path (shard.records path) after (carried path did.told)) (stay.1 path) (did.once path);
      }

  cold_way : (absent : Bool) → Way rules shard links request clock (is_missed absent shard links request)
  cold_way absent = go absent request.put (ends_new asked shard.frontier shard.value links) refl refl
    where
      go : (a p n : Bool) → request.put ≡ p → ends_new asked shard.frontier shard.value links ≡ n → Way rules shard links request clock ((a && not p) && n)
      go true false true get new = missed_way get new
      go true false false get old = found_way
      go true true n put new = found_way
      go false p n is new = found_way

-- the links that a request goes along are no more than the chain's
gone_few : (shard : Shard) (links : List Link) (request : Request) (missed : Bool) → length (links_gone shard links request missed) ≤ length links
gone_few shard links request true = known_few (key_path_in shard request.key) shard.frontier shard.value links
gone_few shard links request false = omega arith

-- there is room for them
cold_roomy : (rules : Rules) (state : State) (shard : Shard) (request : Request) (links : List Link) (missed : Bool) → IsResting rules state (cold shard)
    → IsServable rules.scheme.format.longest rules.scheme.digest shard (key_path_in shard request.key)
    → IsChain (tree_of shard) (key_path_in shard request.key) shard.frontier shard.value links
    → suc (length state.cache.entries + length (links_gone shard links request missed)) ≤ state.cache.room
cold_roomy rules state shard request links missed rest servable chain =
    let few = length-bare state.cache.entries rest.bare in
    let short = chain_length rules.scheme.format.longest rules.scheme.digest (tree_of shard) (key_path_in shard request.key)
    (leads rules.scheme.format.longest rules.scheme.digest shard (key_path_in shard request.key) servable) shard.frontier shard.value links
    (servable.fits.kinds shard.frontier shard.value (frontier_there shard)) (frontier_of shard) chain in
    omega (arith, gone_few shard links request missed, depth_in shard.frontier servable.fits.below_root, servable.fits.below_root, key_path-data (wide_in shard) request.key, rest.room)

cold_runs : (absent : Bool) (rules : Rules) (state : State) (shard : Shard) (after : Content) (request : Request) (plan : Plan) (later : Reading)
    → CanTake rules state (cold shard) → IsServable rules.scheme.format.longest rules.scheme.digest shard (key_path_in shard request.key)
    → IsPlan absent rules.scheme.digest rules.number (cold shard) request state.clock plan after later
    → PlanRuns rules state (cold shard) after request plan later
cold_runs absent rules state shard after request plan later can servable is = record {
  told = told;
  runs = ap (λ (c : List Command). run rules state c) is.commands
      ∙ (between_runs rules state (pending_shard shard) (length (links_gone shard is.links request missed)) _ way.told new apart (clear-bare state.cache.entries shard.frontier can.rest.bare servable.fits.below_root) roomy
      (can.rest.known (pending_shard shard) refl) can.rest.open_epoch can.counters way.works
      ∙ ap (λ (r : Reading). Ok (told, record state { clock = r })) (sym is.clock));
  added = ap (λ (xs : List Element). pending_shard shard ∷ xs) (added_told-append way.told _ ∙ ap (λ (xs : List Element). xs ++ []) way.added);
  evicted = evicted_told-append way.told _
      ∙ (ap (λ (xs : List Element). xs ++ pending_shard left ∷ []) way.evicted
      ∙ ap (λ (c : Content). waiting (pending c)) (sym is.content));
  access = accesses_told-append way.told _
      ∙ (ap (λ (xs : List Access). xs ++ []) way.accesses
      ∙ ap (answered (wide_in shard) request) (sym is.answer));
  once = λ path. subst (λ (c : Content). IsCarried path (shard.records path) (kept_in c path) (carried path told)) (sym is.content)
      (subst (IsCarried path (shard.records path) (left.records path)) (sym (carried_way path)) (way.once path));
  own = λ path not_below. carried_way path ∙ way.outside path (not_there path not_below);
  within = subst (λ (c : Content). AllByRecursion (λ (one : Stamp × Change). IsWithin (Some (pending_shard shard)) (pending c) one.0) told) (sym is.content)
      (within_between rules (pending_shard shard) (pending_shard left) new state.clock way.told can.rest.open_epoch can.counters refl way.at_clock);
}
  where
    longest : ℕ
    longest = rules.scheme.format.longest

    apart : is_root shard.frontier ≡ false
    apart = not_root shard.frontier servable.fits.below_root

    missed : Bool
    missed = is_missed absent shard is.links request

    way : Way rules shard is.links request (taking state.clock shard.stamp) missed
    way = cold_way rules (taking state.clock shard.stamp) shard request is.links servable is.way absent

    new : Value
    new = (gone_along rules.scheme.digest shard is.links request missed).value

    left : Shard
    left = served rules.scheme.digest rules.number shard is.links request state.clock missed

    told : Told
    told = told_between rules (pending_shard shard) new state.clock way.told

    roomy : suc (length state.cache.entries + length (links_gone shard is.links request missed)) ≤ state.cache.room
    roomy = cold_roomy rules state shard request is.links missed can.rest servable is.way

    carried_way : (path : List Bool) → carried path told ≡ carried path way.told
    carried_way path = carried-append path way.told _ ∙ append-nil (carried path way.told)

    not_there : (path : List Bool) → (IsBelow shard.frontier path → ⊥) → side shard.frontier path ≡ None
    not_there path not_below = go (side shard.frontier path) not_below
      where
        go : (s : Option Bool) → (IsSome s → ⊥) → s ≡ None
        go None none = refl
        go (Some on) none = absurd (none refl)

-- ---- a hot key

put_or_stay : (b : Bool) (new old : Option (List ℕ)) → ◌≡◌ {A = Value} (if b then values.Blob new else values.Blob old) (values.Blob (if b then new else old))
put_or_stay true new old = refl
put_or_stay false new old = refl

-- at the hot key itself
hot_end : (rules : Rules) (clock : Reading) (found : HotRecord) (request : Request) → found.key ≡ request.key
    → IsEnd rules found.wide (hot_path found) (values.Blob found.value) clock request B
hot_end rules clock found request same =
    subst (λ (key : ℕ). IsEnd rules found.wide (key_path found.wide key) (values.Blob found.value) clock request B) (sym same)
    (works_request rules found.wide (values.Blob found.value) clock request B (key_path-data found.wide request.key))

hot_apart : (found : HotRecord) → is_root (hot_path found) ≡ false
hot_apart found = not_root (hot_path found) (key_deep found.wide found.key)

hot_roomy : (rules : Rules) (state : State) (found : HotRecord) → IsResting rules state (hot found) → suc (length state.cache.entries + 0) ≤ state.cache.room
hot_roomy rules state found rest =
    let few = length-bare state.cache.entries rest.bare in
    omega (arith, rest.room, some_bits found.wide)

hot_runs : (absent : Bool) (rules : Rules) (state : State) (found : HotRecord) (after : Content) (request : Request) (plan : Plan) (later : Reading)
    → CanTake rules state (hot found) → found.key ≡ request.key
    → IsPlan absent rules.scheme.digest rules.number (hot found) request state.clock plan after later
    → PlanRuns rules state (hot found) after request plan later
hot_runs absent rules state found after request plan later can same is = record {
  told = told;
  runs = ap (λ (c : List Command). run rules state c) is.commands
      ∙ (between_runs rules state element 0 _ inner new apart (clear-bare state.cache.entries path can.rest.bare (key_deep found.wide found.key)) roomy
      (can.rest.known element refl) can.rest.open_epoch can.counters at_end.works
      ∙ ap (λ (r : Reading). Ok (told, record state { clock = r })) (sym is.clock));
  added = ap (λ (xs : List Element). element ∷ xs) at_end.added;
  evicted = ap (λ (xs : List Element). xs ++ handed_out path (renewing state.clock found.stamp).at rules.number new) (sym (append-nil (evicted_by (change_by request path B (values.Blob found.value)))) ∙ at_end.evicted)
      ∙ (ap (handed_out path (renewing state.clock found.stamp).at rules.number) (put_or_stay request.put request.value found.value)
      ∙ ap (λ (c : Content). waiting (pending c)) (sym is.content));
  access = at_end.accesses ∙ ap (answered found.wide request) (sym is.answer);
  once = λ k. subst (λ (c : Content). IsCarried k None (kept_in c k) (carried k told)) (sym is.content) (inl (carried_none k, refl));
  own = λ k not_below. carried_none k;
  within = subst (λ (c : Content). AllByRecursion (λ (one : Stamp × Change). IsWithin (Some element) (pending c) one.0) told) (sym is.content)
      (within_between rules element (pending_hot left) new state.clock inner can.rest.open_epoch can.counters refl (refl, tt));
}
  where
    longest : ℕ
    longest = rules.scheme.format.longest

    element : Element
    element = pending_hot found

    path : List Bool
    path = hot_path found

    apart : is_root path ≡ false
    apart = hot_apart found

    at_end : IsEnd rules found.wide path (values.Blob found.value) (taking state.clock found.stamp) request B
    at_end = hot_end rules (taking state.clock found.stamp) found request same

    inner : Told
    inner = told_request request path B (values.Blob found.value) (taking state.clock found.stamp)

    new : Value
    new = value_after request (values.Blob found.value)

    left : HotRecord
    left = served_hot rules.number found request state.clock

    told : Told
    told = told_between rules element new state.clock inner

    roomy : suc (length state.cache.entries + 0) ≤ state.cache.room
    roomy = hot_roomy rules state found can.rest

    carried_none : (k : List Bool) → carried k told ≡ []
    carried_none k = at_end.carried_none k

-- The plan of a request runs.
pub plan_runs : (absent : Bool) (rules : Rules) (state : State) (content after : Content) (request : Request) (plan : Plan) (later : Reading)
    → CanTake rules state content → CanServe rules.scheme.format.longest rules.scheme.digest content request.key
    → IsPlan absent rules.scheme.digest rules.number content request state.clock plan after later
    → PlanRuns rules state content after request plan later
plan_runs absent rules state (cold shard) after request plan later can serves is = cold_runs absent rules state shard after request plan later can serves is
plan_runs absent rules state (hot found) after request plan later can serves is = hot_runs absent rules state found after request plan later can serves is
plan_runs absent rules state vacant after request plan later can serves is = absurd serves

-- Where its counters would pass the end, a request is refused for that.
pub request_ends : (absent : Bool) (rules : Rules) (state : State) (content : Content) (request : Request) (links : List Link)
    → IsResting rules state content → CanServe rules.scheme.format.longest rules.scheme.digest content request.key → AreLinks content request.key links
    → IsPastEnd content state.clock → run rules state (commands_of absent content links request state.clock) ≡ Err refusals.ClockEnd
request_ends absent rules state (cold shard) request links rest servable way past =
    let apart = not_root shard.frontier servable.fits.below_root in
    let missed = is_missed absent shard links request in
    let did = cold_way rules (taking state.clock shard.stamp) shard request links servable way absent in
    between_ends rules state (pending_shard shard) (length (links_gone shard links request missed)) _ did.told _ apart (clear-bare state.cache.entries shard.frontier rest.bare servable.fits.below_root)
    (cold_roomy rules state shard request links missed rest servable way) (rest.known (pending_shard shard) refl) rest.open_epoch past did.works
request_ends absent rules state (hot found) request links rest same way past =
    let apart = hot_apart found in
    let did = hot_end rules (taking state.clock found.stamp) found request same in
    between_ends rules state (pending_hot found) 0 _ _ _ apart (clear-bare state.cache.entries (hot_path found) rest.bare (key_deep found.wide found.key))
    (hot_roomy rules state found rest) (rest.known (pending_hot found) refl) rest.open_epoch past did.works
request_ends absent rules state vacant request links rest serves way past = absurd serves

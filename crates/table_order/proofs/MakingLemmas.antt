-- What a world lends can be made a table, where all that waits is of one epoch: at rest, and where it is level.
use Rattle.std.proofs.Common.{◌≡◌, ◌⊎◌, ℕ, zero, suc, ◌<◌, ◌≤◌, List, [], ◌∷◌, ◌++◌, length, map, get_or, Option, Some, None, inl, inr, refl, sym, ◌∙◌, ap, subst, arith}
use Rattle.std.specs.List.{flat_map, AllByRecursion}
use Rattle.std.proofs.lemmas.List.{length-map, length-append}
use Rattle.std.proofs.lemmas.Nat.{pow_pos}
use Rattle.std.proofs.lemmas.List.Concat.{flat_map-append}
use Rattle.std.proofs.Math.ListN.{get_or-map}
use Rattle.std.proofs.lemmas.Option.{none-some, same_Some}
use Rattle.lamport_clocks.specs.declared.header.Header.{Header}
use Rattle.record_hash.specs.Functions.{DigestFunctions}
use Rattle.record_text.specs.declared.element.Element.{Element}
use Rattle.record_text.specs.declared.request.Request.{Request}
use Rattle.record_text.specs.Longest.{longest_of}
use Rattle.script_text.specs.declared.task.Task.{Task}
use Rattle.verifier_commands.proofs.TickLaws.{IsUpTo}
use Rattle.stamp_order.proofs.InOrderLaws.{every-weaker}
use Rattle.host_core.specs.Core.{pending_in, AreAccepted, IsEven, IsStanding}
use Rattle.host_core.specs.Deeds as deeds
use Rattle.host_core.specs.Deeds.{pending_of, IsClock}
use Rattle.host_core.specs.Host.{Host}
use Rattle.host_core.specs.World.{Seats, World, unmoved, worker_at, shard_at, epoch_of}
use Rattle.host_order.specs.Told.{IsAtRest}
use Rattle.round_order.specs.Told.{IsLevel}
use Rattle.host_shard.specs.declared.content.Content as code
use Rattle.host_shard.specs.declared.content.Content.TheVariants.{Cold, Hot, Vacant}
use Rattle.host_shard.specs.Shard.{Shard}
use Rattle.host_shard.specs.Content.{Content, cold, vacant, pending}
use Rattle.host_shard.specs.Shown.{shown_content}
use Rattle.host_laws.specs.Served.{waiting}
use Rattle.host_table.specs.Terms.{epoch_in, IsStampOf, IsStamped, IsMaking}
use Rattle.shipped_host.specs.declared.settings.Settings.{Settings}
use Rattle.host_world.specs.Behind.{IsBehindSetup}
use Rattle.host_world.specs.Lending.{all_contents}
use Rattle.host_fits.specs.Mirroring.{PlacesMirror}
use Rattle.shipped_host.specs.Seated.{SeatsMirror}
use Rattle.shipped_host.specs.ShippedHost.{shipped_host}
use Rattle.table_order.proofs.ComeLemmas.{HasComeUp, stand_of, pending_come}
use Rattle.table_order.proofs.ListLemmas.{all-flat, all-part}

-- ---- how many there are

some_contents : {C : Type 0} (shards : List (Seats C)) → 0 < length shards
    → ((s : ℕ) → s < length shards → 0 < length (get_or shards s (unmoved [])).contents) → 0 < length (all_contents shards)
some_contents [] some each = absurd (omega (arith, some))
some_contents (seats ∷ shards) some each =
    omega (arith, length-append seats.contents (all_contents shards), each 0 some)

-- ---- what waits

-- the elements with which a content waits: one, or none
abbrev waits_with : Content → List Element
waits_with content = waiting (pending content)

-- what waits in shards waits in all their contents
waits_in_all : {C : Type 0} (waits : C → List Element) (shards : List (Seats C))
    → flat_map (λ (seats : Seats C). flat_map waits seats.contents) shards ≡ flat_map waits (all_contents shards)
waits_in_all waits [] = refl
waits_in_all waits (seats ∷ shards) =
    ap (λ (more : List Element). flat_map waits seats.contents ++ more) (waits_in_all waits shards)
    ∙ sym (flat_map-append waits seats.contents (all_contents shards))

pub of_waiting : (P : Element → Type 0) (found : Option Element) (element : Element) → found ≡ Some element → AllByRecursion P (waiting found) → P element
of_waiting P None element is all = absurd (none-some element is)
of_waiting P (Some first) element is all = subst P (same_Some first element is) all.0

-- all is of one epoch: it is that of the first content that waits, or none waits
first_epoch : (epoch : ℕ) (contents : List code.Content)
    → AllByRecursion (λ (element : Element). element.stamp.epoch ≡ epoch) (flat_map waits_with (map shown_content contents))
    → (epoch_in contents ≡ epoch) ⊎ ((place : ℕ) → shown_content (get_or contents place Vacant) ≡ vacant)
first_epoch epoch [] all = inr (λ place. refl)
first_epoch epoch (Cold shard ∷ contents) all = inl all.0
first_epoch epoch (Hot found ∷ contents) all = inl all.0
first_epoch epoch (Vacant ∷ contents) all = go (first_epoch epoch contents all)
  where
    at : ((place : ℕ) → shown_content (get_or contents place Vacant) ≡ vacant) → (place : ℕ) → shown_content (get_or (Vacant ∷ contents) place Vacant) ≡ vacant
    at none_waits zero = refl
    at none_waits (suc place) = none_waits place

    go : (epoch_in contents ≡ epoch) ⊎ ((place : ℕ) → shown_content (get_or contents place Vacant) ≡ vacant)
        → (epoch_in (Vacant ∷ contents) ≡ epoch) ⊎ ((place : ℕ) → shown_content (get_or (Vacant ∷ contents) place Vacant) ≡ vacant)
    go (inl same) = inl same
    go (inr none_waits) = inr (at none_waits)

epochs_of : (header : Header) (epoch : ℕ) (elements : List Element) → AllByRecursion (λ (element : Element). IsStampOf header epoch element.stamp element.verifier) elements
    → AllByRecursion (λ (element : Element). element.stamp.epoch ≡ epoch) elements
epochs_of header epoch [] good = tt
epochs_of header epoch (element ∷ elements) good = (good.0.epoch_is, epochs_of header epoch elements good.1)

-- Where all that waits is stamped of one epoch, it is of the contents' epoch.
stamped_in : (header : Header) (epoch : ℕ) (contents : List code.Content)
    → AllByRecursion (λ (element : Element). IsStampOf header epoch element.stamp element.verifier) (flat_map waits_with (map shown_content contents))
    → (place : ℕ) → place < length contents → IsStamped header (epoch_in contents) (shown_content (get_or contents place Vacant))
stamped_in header epoch contents all place there = λ element waits. go element waits (first_epoch epoch contents (epochs_of header epoch _ all))
  where
    IsGood : Element → Type 0
    IsGood element = IsStampOf header epoch element.stamp element.verifier

    here : AllByRecursion IsGood (waits_with (shown_content (get_or contents place Vacant)))
    here =
        subst (λ (content : Content). AllByRecursion IsGood (waits_with content)) (get_or-map shown_content contents place Vacant)
        (all-part IsGood waits_with vacant (map shown_content contents) place (omega (arith, there, length-map contents shown_content)) all)

    go : (element : Element) → pending (shown_content (get_or contents place Vacant)) ≡ Some element
        → (epoch_in contents ≡ epoch) ⊎ ((other : ℕ) → shown_content (get_or contents other Vacant) ≡ vacant)
        → IsStampOf header (epoch_in contents) element.stamp element.verifier
    go element waits (inl same) =
        subst (λ (e : ℕ). IsStampOf header e element.stamp element.verifier) (sym same)
        (of_waiting IsGood (pending (shown_content (get_or contents place Vacant))) element waits here)
    go element waits (inr none_waits) = absurd (none-some element (ap pending (sym (none_waits place)) ∙ waits))

-- the first content of all is that of the first shard
first_cold : (shards : List (Seats Content)) (shard : Shard) (places : List Content) → 0 < length shards → (get_or shards 0 (unmoved [])).contents ≡ cold shard ∷ places
    → get_or (all_contents shards) 0 vacant ≡ cold shard
first_cold [] shard places some is = absurd (omega (arith, some))
first_cold (seats ∷ shards) shard places some is = ap (λ (xs : List Content). get_or (xs ++ all_contents shards) 0 vacant) is

not_vacant : (shard : Shard) → cold shard ≡ vacant → ⊥
not_vacant shard is = cc

-- ---- a world behind the setup

module _ (functions : DigestFunctions) (settings : Settings) (script : List (List Task)) (world : World Content)
    (standing : IsStanding (PlacesMirror functions settings) (shipped_host functions settings script) world) (shards : length world.shards ≡ settings.shards)
    (behind : IsBehindSetup functions settings script world) where
  abbrev host : Host Content Request
  host = shipped_host functions settings script

  some_shards : 0 < length world.shards
  some_shards = let count = behind.settings_fit.shards in omega (arith, shards, count.power, pow_pos count.bits)

  some_seats : (s : ℕ) → s < length world.shards → 0 < length (shard_at world s).contents
  some_seats s there = omega (arith, ap (λ (xs : List Content). length xs) (standing.mirrored s there).mirrors.is)

  -- the element is stamped of the epoch
  abbrev IsGood : ℕ → Element → Type 0
  IsGood epoch element = IsStampOf settings.header epoch element.stamp element.verifier

  module _ (epoch : ℕ) (good : AllByRecursion (IsGood epoch) (pending_in host world)) (contents : List code.Content) (shows : map shown_content contents ≡ all_contents world.shards) where
    all_good : AllByRecursion (IsGood epoch) (flat_map waits_with (map shown_content contents))
    all_good =
        subst (λ (xs : List Content). AllByRecursion (IsGood epoch) (flat_map waits_with xs)) (sym shows)
        (subst (AllByRecursion (IsGood epoch)) (waits_in_all waits_with world.shards) good)

    -- What a world lends can be made a table, where all that waits is stamped of one epoch.
    pub making_of : IsMaking settings.header (length world.workers) contents
    making_of = record {
      places = omega (
        arith,
        length-map contents shown_content,
        ap (λ (xs : List Content). length xs) shows,
        some_contents world.shards some_shards some_seats,
      );
      some = omega (arith, standing.workers, behind.settings_fit.header.some_verifiers);
      few = omega (arith, standing.workers);
      stamped = stamped_in settings.header epoch contents all_good;
    }

    -- Its epoch is that one.
    pub epoch_of_making : epoch_in contents ≡ epoch
    epoch_of_making = go (first_epoch epoch contents (epochs_of settings.header epoch (flat_map waits_with (map shown_content contents)) all_good))
      where
        mirrors : SeatsMirror (longest_of settings.header) functions.digest (shard_at world 0).contents
        mirrors = (standing.mirrored 0 some_shards).mirrors

        first_is : shown_content (get_or contents 0 Vacant) ≡ cold mirrors.shard
        first_is =
            sym (get_or-map shown_content contents 0 Vacant) ∙ ap (λ (xs : List Content). get_or xs 0 vacant) shows
            ∙ first_cold world.shards mirrors.shard mirrors.places some_shards mirrors.is

        go : (epoch_in contents ≡ epoch) ⊎ ((place : ℕ) → shown_content (get_or contents place Vacant) ≡ vacant) → epoch_in contents ≡ epoch
        go (inl same) = same
        go (inr none_waits) = absurd (not_vacant mirrors.shard (sym first_is ∙ none_waits 0))

  module _ (epoch : ℕ) (level : IsLevel host world epoch) (accepted : AreAccepted host world) (even : IsEven host world) where
    of_epoch : AllByRecursion (λ (element : Element). element.stamp.epoch ≡ epoch) (pending_in host world)
    of_epoch = all-flat (λ (element : Element). element.stamp.epoch ≡ epoch) (λ (seats : Seats Content). pending_of host seats.contents) (unmoved []) world.shards level.waits

    level_good : (elements : List Element) → AllByRecursion (HasComeUp (length world.workers) (stand_of host world)) elements
        → AllByRecursion (λ (element : Element). element.stamp.epoch ≡ epoch) elements → AllByRecursion (IsGood epoch) elements
    level_good [] come same = tt
    level_good (element ∷ elements) come same = (
      record {
        verifier = omega (arith, come.0.0, standing.workers);
        epoch_is = same.0;
        counter = low come.0.1;
      },
      level_good elements come.1 same.1,
    )
      where
        clock : IsClock host (worker_at host world element.verifier).clock
        clock = standing.clocks element.verifier come.0.0

        low : IsUpTo element.stamp (stand_of host world element.verifier) → element.stamp.counter ≤ settings.header.end
        low (inl earlier) = absurd (let here = level.clocks element.verifier come.0.0 in omega (arith, earlier, here, same.0))
        low (inr up) = let end = clock.end in let less = clock.reading.within in omega (arith, up.1, end, less)

    -- What it lends can be made a table of its epoch.
    pub level_making : (contents : List code.Content) → map shown_content contents ≡ all_contents world.shards
        → IsMaking settings.header (length world.workers) contents × (epoch_in contents ≡ epoch)
    level_making contents shows =
        let good = level_good (pending_in host world) (pending_come host world accepted even) of_epoch in
        (making_of epoch good contents shows, epoch_of_making epoch good contents shows)

  -- A world at rest is level, in the epoch of its phase.
  pub rest_level : IsAtRest host world → IsLevel host world (epoch_of host world)
  rest_level rest = record {
    going = rest.going;
    phase = rest.phase;
    idle = rest.idle;
    clocks = (rest.epochs rest.phase).0;
    waits = λ s there. every-weaker (deeds.IsStamped host (epoch_of host world)) (λ (element : Element). element.stamp.epoch ≡ epoch_of host world) (λ element is. is.1)
        (pending_of host (shard_at world s).contents) ((rest.epochs rest.phase).1 s there);
  }

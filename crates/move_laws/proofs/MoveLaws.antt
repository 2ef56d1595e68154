-- The move of a stage: the touched hot records are renewed, then the transfers are done while the frontier stands in the cache.
use Rattle.std.proofs.Common.{◌≡◌, ◌⊎◌, ℕ, ◌+◌, ◌<◌, ◌≤◌, Bool, true, false, List, [], ◌∷◌, ◌++◌, map, take, length, Option, Some, Ok, refl, sym, ◌∙◌, ap, subst, inl, inr, arith, append-nil}
use Rattle.std.specs.Prelude.{IfSome}
use Rattle.std.specs.List.{AllByRecursion, flat_map}
use Rattle.std.proofs.lemmas.Bool.{false≢true, cases_lt}
use Rattle.std.proofs.lemmas.List.Concat.{flat_map-append}
use Rattle.tree_keys.proofs.TreeLaws.{key_path-data}
use Rattle.tree_keys.specs.Path.{IsIn}
use Rattle.lamport_clocks.specs.declared.stamp.Stamp.{Stamp}
use Rattle.lamport_clocks.specs.Reading.{Reading}
use Rattle.lamport_clocks.specs.Stamp.{IsLater}
use Rattle.lamport_clocks.specs.Clock.{is_open}
use Rattle.lamport_clocks.proofs.ClockLaws.{received-above, sent-later}
use Rattle.record_text.specs.declared.element.Element.{Element}
use Rattle.record_text.specs.Value.{IsBlob}
use Rattle.log_codec.specs.declared.command.Command.{Command}
use Rattle.log_codec.specs.declared.command.Command.TheVariants.{EvictB}
use Rattle.merkle_records.specs.Merkle.{Digest, GivesDigests}
use Rattle.verifier_cache.specs.Cache.{Held}
use Rattle.verifier_cache.specs.declared.entry.Hold.TheVariants.{B}
use Rattle.verifier_cache.specs.Entry.{new_entry}
use Rattle.verifier_commands.specs.Change.{Change}
use Rattle.verifier_commands.specs.Transition.{Rules, is_root}
use Rattle.soundness.specs.Certified.{sealed_by}
use Rattle.soundness.specs.Permutation.{count_of}
use Rattle.soundness.specs.Typed.{IsPathTypedIn}
use Rattle.host_shard.specs.declared.content.HotRecord.{HotRecord}
use Rattle.host_shard.specs.Shard.{wide_in, pending_shard}
use Rattle.host_shard.specs.Content.{hot_path, pending_hot}
use Rattle.host_shard.specs.Mirrors.{IsKeyOf}
use Rattle.host_plan.specs.Moments.{taking, giving, renewing}
use Rattle.host_laws.specs.Running.{Told, Access, run, added_told, evicted_told, accesses_told}
use Rattle.host_laws.specs.Carried.{carried, carries}
use Rattle.host_laws.specs.Served.{IsWithin}
use Rattle.host_laws.proofs.DepthLaws.{not_root, some_bits}
use Rattle.host_laws.proofs.MomentLaws.{received-taken, sent-given}
use Rattle.host_laws.proofs.BetweenLaws.{clear-bare, length-bare}
use Rattle.host_laws.proofs.FrontierLaws.{key_in, frontier_there}
use Rattle.host_laws.proofs.RunLaws.{run-append}
use Rattle.host_laws.proofs.ToldLaws.{added_told-append, evicted_told-append, accesses_told-append, carried-append, all-append}
use Rattle.host_laws.proofs.WorksLaws.{IsClear, standing}
use Rattle.protection_moves.specs.Stage.{Stage, hot_records, vacancies, touched_in, untouched_in}
use Rattle.protection_moves.specs.Renewing.{renewing_each, renewing_commands}
use Rattle.protection_moves.specs.Transfer.{Transfer, demotes, promotes, ArePromotable, transfers_of, clock_needed}
use Rattle.protection_moves.specs.Descent.{Descent, AreDescents, done_by_each}
use Rattle.protection_moves.specs.Move.{IsMove, begun, handed_out, moved, move_commands}
use Rattle.protection_moves.proofs.RenewingLaws.{renewing-up, renewing_each-open, renewing_each-end, renewing_each-epoch}
use Rattle.protection_moves.proofs.TouchedLaws.{touched_all}
use Rattle.move_laws.specs.Kept.{AreCarried}
use Rattle.move_laws.specs.Stages.{StageMirrors, IsTakable, IsOne}
use Rattle.move_laws.specs.Transfers.{IsBetween, adds_by, holding}
use Rattle.move_laws.proofs.CountLaws.{weight, count-front, count-append}
use Rattle.move_laws.proofs.PlaceLaws.{AreApart, all-are, all-map}
use Rattle.move_laws.proofs.KeyLaws.{have_keys-on}
use Rattle.move_laws.proofs.VacantLaws.{all-images, images-all}
use Rattle.move_laws.proofs.AroundLaws.{told_in, told_out, takes_in, hands_out}
use Rattle.move_laws.specs.Moved.{waiting_in, CanMove, IsOfClock, MoveRuns, at_stage}
use Rattle.move_laws.proofs.RenewLaws.{told_renewing, renewing-runs, renewed_each, added-renewing, evicted-renewing, no_access-renewing, unsealed-renewing, carried-renewing, carries-renewing, renewed-weight}
use Rattle.move_laws.proofs.TransferLaws.{hot_own}
use Rattle.move_laws.proofs.StageLemmas.{weight_split, all_untouched, apart_touched}
use Rattle.move_laws.proofs.DescentLaws.{adds_by_each, evicts_by_each, apart_by_number, descents_mirror, descents_typed, descents-weight, DescentsRun, descents_run, each-up, each-epoch, each-end, each-frontier}
use Rattle.move_laws.proofs.FitLaws.{GoWell, all_go, begun-ready, begun_mirrors}
use Rattle.move_laws.proofs.CounterLaws.{move_clock}

-- later than what is later
later-trans : (s t u : Stamp) → IsLater t s → IsLater u t → IsLater u s
later-trans s t u (inl a) (inl b) = inl (omega arith)
later-trans s t u (inl a) (inr b) = inl (omega arith)
later-trans s t u (inr a) (inl b) = inl (omega arith)
later-trans s t u (inr a) (inr b) = inr (a.0 ∙ b.0, omega arith)

not_past : (counter end : ℕ) → (end < counter → ⊥) → counter ≤ end
not_past counter end past = go (cases_lt end counter)
  where
    go : (end < counter) ⊎ (counter ≤ end) → counter ≤ end
    go (inl over) = absurd (past over)
    go (inr within) = within

-- ---- the stage once the frontier is handed out

-- it mirrors
handed_mirrors : (longest : ℕ) (digest : Digest) (worker : ℕ) (stage : Stage) → StageMirrors longest digest stage
    → StageMirrors longest digest (handed_out worker stage)
handed_mirrors longest digest worker stage mirrors = record {
  shard = record {
    fits = record { below_root = mirrors.shard.fits.below_root; no_data = mirrors.shard.fits.no_data; kinds = mirrors.shard.fits.kinds };
    mirrors = record {
      kept = mirrors.shard.mirrors.kept;
      waits = mirrors.shard.mirrors.waits;
      reached = mirrors.shard.mirrors.reached;
      hot_waits = mirrors.shard.mirrors.hot_waits;
      hot_keys = mirrors.shard.mirrors.hot_keys;
      touched = mirrors.shard.mirrors.touched;
    };
  };
  blobs = mirrors.blobs;
  in_range = have_keys-on stage.shard (handed_out worker stage).shard refl (hot_records stage.places) mirrors.in_range;
}

-- ---- what transfers add

-- those of the records that come back
adds_back : (longest : ℕ) (digest : Digest) (worker : ℕ) (back : List HotRecord) (keys : List ℕ) (descents : List Descent)
    → map (λ (descent : Descent). descent.transfer) descents ≡ map demotes back ++ map promotes keys
    → adds_by_each longest digest worker descents ≡ map pending_hot back
adds_back longest digest worker back keys descents is = by_transfers descents ∙ (ap (λ (transfers : List Transfer). flat_map adds_by transfers) is ∙ of_transfers back)
  where
    by_transfers : (some : List Descent) → adds_by_each longest digest worker some ≡ flat_map adds_by (map (λ (descent : Descent). descent.transfer) some)
    by_transfers [] = refl
    by_transfers (descent ∷ some) = ap (λ (xs : List Element). adds_by descent.transfer ++ xs) (by_transfers some)

    none_added : (some : List ℕ) → flat_map adds_by (map promotes some) ≡ []
    none_added [] = refl
    none_added (key ∷ some) = none_added some

    of_transfers : (some : List HotRecord) → flat_map adds_by (map demotes some ++ map promotes keys) ≡ map pending_hot some
    of_transfers [] = none_added keys
    of_transfers (found ∷ some) = ap (λ (xs : List Element). pending_hot found ∷ xs) (of_transfers some)

-- ---- a move

module _ (longest : ℕ) (digest : Digest) (worker : ℕ) (threshold : Option ℕ) (old : Stage) (promotable : List ℕ) (descents : List Descent) where
  -- What is known of a move: a threshold is at least one touch, and these descents are its transfers.
  pub record IsGiven : Type 0 where
    pub digests : GivesDigests digest
    pub some : IfSome threshold (λ least. 0 < least)
    pub mirrors : StageMirrors longest digest old
    pub are_promotable : ArePromotable old threshold promotable
    pub transfers : map (λ (descent : Descent). descent.transfer) descents ≡ transfers_of old promotable
    pub ways : AreDescents digest worker (begun worker old) descents

  module _ (given : IsGiven) where
    pub go_well : GoWell longest digest worker old.clock.at.epoch (begun worker old) descents
    go_well =
        all_go longest digest worker old.clock.at.epoch (untouched_in old.places) (take (vacancies old.places + length (untouched_in old.places)) promotable) descents (begun worker old)
        given.transfers (begun-ready longest digest worker threshold old promotable given.some given.mirrors (apart_by_number longest digest worker old given.mirrors) given.are_promotable)

    pub begins : StageMirrors longest digest (begun worker old)
    begins = begun_mirrors longest digest worker old given.mirrors

    -- the stage mirrors again behind it
    pub mirrors_again : StageMirrors longest digest (moved digest worker old descents)
    mirrors_again = handed_mirrors longest digest worker _ (descents_mirror longest digest worker (begun worker old) descents given.digests begins go_well.fit given.ways)

    -- what it logs is of the frontier's tree and typed
    pub all_typed : (wide : Bool) → IsIn wide old.shard.frontier → AllByRecursion (IsPathTypedIn wide longest) (move_commands digest worker old descents)
    all_typed wide within =
        all-append (IsPathTypedIn wide longest) (renewing_commands old.clock (touched_in old.places)) _
        (renewing-typed old.clock (touched_in old.places) (touched_all (λ found. IsBlob longest found.value) old.places given.mirrors.blobs)
        (touched_all (λ found. IsKeyOf old.shard (hot_path found)) old.places (hot_own longest digest old given.mirrors))) (
          (within, given.mirrors.shard.fits.kinds old.shard.frontier old.shard.value (frontier_there old.shard)),
          all-append (IsPathTypedIn wide longest) _ _ (descents_typed longest digest worker wide (begun worker old) descents within given.digests begins go_well.fit given.ways) ((within, tt), tt),
        )
      where
        renewing-typed : (clock : Reading) (records : List HotRecord) → AllByRecursion (λ found. IsBlob longest found.value) records
            → AllByRecursion (λ found. IsKeyOf old.shard (hot_path found)) records
            → AllByRecursion (IsPathTypedIn wide longest) (renewing_commands clock records)
        renewing-typed clock [] blobs own = tt
        renewing-typed clock (found ∷ more) blobs own =
            let below = key_in wide old.shard (hot_path found) own.0 within in
            ((below, (key_path-data found.wide found.key, blobs.0)), ((below, tt), renewing-typed (renewing clock found.stamp) more blobs.1 own.1))

-- ---- it runs

module _ (rules : Rules) (cache : Held) (threshold : Option ℕ) (old : Stage) (promotable : List ℕ) (descents : List Descent)
    (given : IsGiven rules.scheme.format.longest rules.scheme.digest rules.number threshold old promotable descents) (can : CanMove rules cache threshold old)
    (within : (moved rules.scheme.digest rules.number old descents).clock.at.counter ≤ old.clock.end) where
  abbrev longest : ℕ
  longest = rules.scheme.format.longest

  abbrev digest : Digest
  digest = rules.scheme.digest

  abbrev touched : List HotRecord
  touched = touched_in old.places

  abbrev start : Stage
  start = begun rules.number old

  abbrev last : Stage
  last = done_by_each rules.scheme.digest rules.number (begun rules.number old) descents

  abbrev new : Stage
  new = moved rules.scheme.digest rules.number old descents

  -- the clock once the touched hot records are renewed
  abbrev renewed : Reading
  renewed = renewing_each old.clock (touched_in old.places)

  abbrev element : Element
  element = pending_shard old.shard

  apart : is_root old.shard.frontier ≡ false
  apart = not_root old.shard.frontier given.mirrors.shard.fits.below_root

  clear : IsClear old.shard.frontier cache.entries
  clear = clear-bare cache.entries old.shard.frontier can.bare given.mirrors.shard.fits.below_root

  open_still : is_open (renewing_each old.clock (touched_in old.places)) old.shard.stamp.epoch ≡ true
  open_still = renewing_each-open old.clock (touched_in old.places) old.shard.stamp.epoch ∙ can.takable.0.1

  ends : (renewing_each old.clock (touched_in old.places)).end ≡ old.clock.end
  ends = renewing_each-end old.clock (touched_in old.places)

  last_end : last.clock.end ≡ old.clock.end
  last_end = each-end longest digest rules.number start descents ∙ ends

  counters : (taking (renewing_each old.clock (touched_in old.places)) old.shard.stamp).at.counter ≤ last.clock.at.counter
  counters = each-up longest digest rules.number start descents

  takable : AllByRecursion (λ found. IsTakable rules old.clock (pending_hot found)) (hot_records old.places)
  takable = all-images pending_hot (IsTakable rules old.clock) (hot_records old.places) can.takable.1

  -- what comes back can be taken in
  back_takable : AllByRecursion (IsTakable rules start.clock) (adds_by_each rules.scheme.format.longest rules.scheme.digest rules.number descents)
  back_takable =
      subst (AllByRecursion (IsTakable rules start.clock)) (sym (adds_back longest digest rules.number (untouched_in old.places) _ descents given.transfers))
      (images-all pending_hot (IsTakable rules start.clock) (untouched_in old.places)
      (all-map (λ found. IsTakable rules old.clock (pending_hot found)) (λ found. IsTakable rules start.clock (pending_hot found))
      (λ found is. (is.0, renewing_each-open old.clock touched found.stamp.epoch ∙ is.1)) (untouched_in old.places)
      (all_untouched (λ found. IsTakable rules old.clock (pending_hot found)) old.places takable)))

  done : DescentsRun rules cache.entries cache.room (begun rules.number old) descents
  done =
      descents_run rules cache.entries cache.room given.digests can.bare start descents can.room (begins longest digest rules.number threshold old promotable descents given)
      (go_well longest digest rules.number threshold old promotable descents given).fit given.ways back_takable (omega (arith, within, ends))

  -- what is told of the move
  abbrev told_all : Told
  told_all =
      told_renewing rules old.clock (touched_in old.places)
      ++ (told_in (renewing_each old.clock (touched_in old.places)) (pending_shard old.shard)
      ++ (done.told ++ told_out rules.number last.clock old.shard.frontier last.shard.value))

  same_frontier : last.shard.frontier ≡ old.shard.frontier
  same_frontier = each-frontier longest digest rules.number start descents

  -- how often an element waits in hot places: of those that were renewed, and of those that came back and went
  old-weight : (x : Element) → weight x (hot_records old.places)
      ≡ weight x (touched_in old.places) + count_of x (adds_by_each rules.scheme.format.longest rules.scheme.digest rules.number descents)
  old-weight x =
      omega (
        arith,
        weight_split x old.places,
        ap (λ (xs : List Element). count_of x xs) (adds_back longest digest rules.number (untouched_in old.places) _ descents given.transfers),
      )

  new-weight : (x : Element) → weight x (hot_records last.places)
      ≡ weight x (renewed_each rules.number old.clock (touched_in old.places))
      + count_of x (evicts_by_each rules.scheme.format.longest rules.scheme.digest rules.number (begun rules.number old) descents)
  new-weight x =
      omega (
        arith,
        descents-weight longest digest rules.number x start descents given.digests (begins longest digest rules.number threshold old promotable descents given)
            (go_well longest digest rules.number threshold old promotable descents given).fit given.ways,
        renewed-weight rules.number x old.clock old.places touched apart_hot
            (touched_all (IsOne (hot_records old.places)) old.places (all-are (hot_records old.places))) (apart_touched old.places apart_hot),
        old-weight x,
      )
    where
      apart_hot : AreApart (hot_records old.places)
      apart_hot = apart_by_number rules.scheme.format.longest rules.scheme.digest rules.number old given.mirrors

  added_all : (x : Element) → count_of x (added_told told_all) ≡ count_of x (waiting_in old)
  added_all x =
      ap (λ (xs : List Element). count_of x xs)
      (added_told-append (told_renewing rules old.clock touched) _
      ∙ (ap (λ (xs : List Element). xs ++ element ∷ added_told (done.told ++ told_out rules.number last.clock old.shard.frontier last.shard.value)) (added-renewing rules old.clock touched)
      ∙ ap (λ (xs : List Element). map pending_hot touched ++ element ∷ xs) (added_told-append done.told _ ∙ (append-nil (added_told done.told) ∙ done.added))))
      ∙ omega (
        arith,
        count-append x (map pending_hot touched) (element ∷ adds_by_each longest digest rules.number descents),
        count-front x element (adds_by_each longest digest rules.number descents),
        count-front x element (map pending_hot (hot_records old.places)),
        old-weight x,
      )

  evicted_all : (x : Element) → count_of x (evicted_told told_all) ≡ count_of x (waiting_in new)
  evicted_all x =
      ap (λ (xs : List Element). count_of x xs)
      (evicted_told-append (told_renewing rules old.clock touched) _
      ∙ (ap (λ (xs : List Element). xs ++ evicted_told (done.told ++ told_out rules.number last.clock old.shard.frontier last.shard.value)) (evicted-renewing rules old.clock touched)
      ∙ ap (λ (xs : List Element). map pending_hot (renewed_each rules.number old.clock touched) ++ xs)
      (evicted_told-append done.told _
      ∙ (ap (λ (xs : List Element). xs ++ out ∷ []) done.evicted
      ∙ ap (λ (k : List Bool). evicts_by_each longest digest rules.number start descents ++ record { path = k; value = last.shard.value; stamp = (giving last.clock).at; verifier = rules.number } ∷ []) (sym same_frontier)))))
      ∙ omega (
        arith,
        count-append x (map pending_hot (renewed_each rules.number old.clock touched)) (evicts_by_each longest digest rules.number start descents ++ pending_shard new.shard ∷ []),
        count-append x (evicts_by_each longest digest rules.number start descents) (pending_shard new.shard ∷ []),
        count-front x (pending_shard new.shard) (map pending_hot (hot_records new.places)),
        new-weight x,
      )
    where
      out : Element
      out = record { path = old.shard.frontier; value = last.shard.value; stamp = (giving last.clock).at; verifier = rules.number }

  carried_all : (path : List Bool) → carried path told_all ≡ carried path done.told
  carried_all path =
      carried-append path (told_renewing rules old.clock touched) _
      ∙ (ap (λ (xs : List Change). xs ++ carried path (done.told ++ told_out rules.number last.clock old.shard.frontier last.shard.value)) (carried-renewing rules old.clock touched path)
      ∙ (carried-append path done.told _ ∙ append-nil (carried path done.told)))

  -- ---- stamps

  first_later : IsLater (taking (renewing_each old.clock (touched_in old.places)) old.shard.stamp).at old.shard.stamp
  first_later = received-above renewed (taking renewed old.shard.stamp) old.shard.stamp (received-taken renewed old.shard.stamp open_still (omega (arith, within, counters, ends)))

  last_later : IsLater (giving last.clock).at last.clock.at
  last_later = sent-later last.clock (giving last.clock) (giving last.clock).at (sent-given last.clock (omega (arith, within, last_end)))

  between_later : (at : Stamp) → IsBetween start.clock last.clock at → IsWithin (Some (pending_shard old.shard)) (Some (pending_shard new.shard)) at
  between_later at is = (from_first first_later, inl to_last)
    where
      -- not before the first, in its epoch
      from_first : IsLater start.clock.at old.shard.stamp → IsLater at old.shard.stamp
      from_first (inl epoch) = inl (omega (arith, epoch, is.0))
      from_first (inr counter) = inr (counter.0 ∙ sym is.0, omega (arith, counter.1, is.1))

      to_last : IsLater (giving last.clock).at at
      to_last = inr (is.0 ∙ sym (each-epoch longest digest rules.number start descents), omega (arith, is.2))

  within_all : (path : List Bool) → AllByRecursion
      (λ (one : Stamp × Change). carries path one.1 ≡ true → IsWithin (Some (pending_shard old.shard)) (Some (pending_shard new.shard)) one.0) told_all
  within_all path =
      all-append _ (told_renewing rules old.clock touched) _
      (carries-renewing (IsWithin (Some (pending_shard old.shard)) (Some (pending_shard new.shard))) rules old.clock touched path)
      (λ is. absurd (false≢true is), all-append _ done.told _ (each done.told done.within) (λ is. absurd (false≢true is), tt))
    where
      each : (told : Told) → AllByRecursion (λ (one : Stamp × Change). IsBetween start.clock last.clock one.0) told
          → AllByRecursion (λ (one : Stamp × Change). carries path one.1 ≡ true → IsWithin (Some (pending_shard old.shard)) (Some (pending_shard new.shard)) one.0) told
      each [] all = tt
      each (one ∷ told) all = ((λ is. between_later one.0 all.0), each told all.1)

  -- A move runs.
  pub is_run : MoveRuns rules cache old (moved rules.scheme.digest rules.number old descents)
      (move_commands rules.scheme.digest rules.number old descents)
  is_run = record {
    told = told_all;
    runs = run-append rules (at_stage cache old) _ _ _ _ (record { cache = cache; clock = renewed }) (at_stage cache new)
        (renewing-runs rules (at_stage cache old) touched can.bare (omega (arith, can.room, some_bits (wide_in old.shard)))
        (touched_all (λ found. IsTakable rules old.clock (pending_hot found)) old.places takable)
        (omega (arith, within, counters, ends, renewing-up renewed old.shard.stamp)))
        (run-append rules (record { cache = cache; clock = renewed }) _ _ _ _ (holding cache.entries cache.room start) (at_stage cache new)
        (takes_in rules cache.entries cache.room renewed element apart clear (omega (arith, length-bare cache.entries can.bare, can.room, some_bits (wide_in old.shard)))
        can.takable.0.0 open_still (omega (arith, within, counters, ends)))
        (run-append rules (holding cache.entries cache.room start) _ _ _ _ (holding cache.entries cache.room last) (at_stage cache new) done.runs
        (subst (λ (k : List Bool). run rules (standing cache.entries cache.room last.clock (new_entry k last.shard.value B)) (EvictB old.shard.frontier (giving last.clock).at ∷ [])
        ≡ Ok (told_out rules.number last.clock old.shard.frontier last.shard.value, at_stage cache new)) (sym same_frontier)
        (hands_out rules cache.entries cache.room last.clock old.shard.frontier last.shard.value apart clear (omega (arith, within, last_end))))));
    added = added_all;
    evicted = evicted_all;
    renewed = (
      (refl, each-epoch longest digest rules.number start descents ∙ renewing_each-epoch old.clock touched),
      images-all pending_hot (IsOfClock rules old.clock) (hot_records new.places) (go_well longest digest rules.number threshold old promotable descents given).fresh,
    );
    no_access = accesses_told-append (told_renewing rules old.clock touched) _
        ∙ (ap (λ (xs : List Access). xs ++ accesses_told (done.told ++ told_out rules.number last.clock old.shard.frontier last.shard.value)) (no_access-renewing rules old.clock touched)
        ∙ (accesses_told-append done.told _ ∙ (append-nil (accesses_told done.told) ∙ done.no_access)));
    unsealed = flat_map-append (λ (one : Stamp × Change). sealed_by one.1) (told_renewing rules old.clock touched) _
        ∙ (ap (λ (xs : List ℕ). xs ++ flat_map (λ (one : Stamp × Change). sealed_by one.1) (done.told ++ told_out rules.number last.clock old.shard.frontier last.shard.value)) (unsealed-renewing rules old.clock touched)
        ∙ (flat_map-append (λ (one : Stamp × Change). sealed_by one.1) done.told _ ∙ (append-nil _ ∙ done.unsealed)));
    kept = λ path. subst (AreCarried path (old.shard.records path) (new.shard.records path)) (sym (carried_all path)) (done.kept path);
    own = λ path is. carried_all path ∙ done.own path is;
    within = within_all;
    rises = later-trans old.shard.stamp start.clock.at new.shard.stamp first_later
        (later_or_same start.clock.at last.clock.at (giving last.clock).at (each-epoch longest digest rules.number start descents) counters last_later);
  }
    where
      later_or_same : (s t u : Stamp) → t.epoch ≡ s.epoch → s.counter ≤ t.counter → IsLater u t → IsLater u s
      later_or_same s t u epoch counter (inl after) = inl (omega (arith, epoch, after))
      later_or_same s t u epoch counter (inr after) = inr (sym epoch ∙ after.0, omega (arith, counter, after.1))

-- ---- the laws

module _ (longest : ℕ) (digest : Digest) (worker : ℕ) (threshold : Option ℕ) (old new : Stage) (commands : List Command)
    (is : IsMove digest worker threshold old commands new) (digests : GivesDigests digest) (some : IfSome threshold (λ least. 0 < least))
    (mirrors : StageMirrors longest digest old) where
  abbrev pub move_given : IsGiven longest digest worker threshold old is.promotable is.descents
  move_given = record { digests = digests; some = some; mirrors = mirrors; are_promotable = is.are_promotable; transfers = is.transfers; ways = is.ways }

-- A verifier at rest accepts the commands of a move.
pub move_runs : (rules : Rules) (cache : Held) (threshold : Option ℕ) (old new : Stage) (commands : List Command)
    → GivesDigests rules.scheme.digest → IfSome threshold (λ least. 0 < least) → CanMove rules cache threshold old
    → StageMirrors rules.scheme.format.longest rules.scheme.digest old
    → IsMove rules.scheme.digest rules.number threshold old commands new
    → MoveRuns rules cache old new commands
move_runs rules cache threshold old new commands digests some can mirrors is =
    subst (λ (log : List Command). MoveRuns rules cache old new log) (sym is.commands)
    (subst (λ (stage : Stage). MoveRuns rules cache old stage (move_commands rules.scheme.digest rules.number old is.descents)) (sym is.after)
    (is_run rules cache threshold old is.promotable is.descents
    (move_given rules.scheme.format.longest rules.scheme.digest rules.number threshold old new commands is digests some mirrors) can
    (subst (λ (stage : Stage). stage.clock.at.counter ≤ old.clock.end) is.after
    (subst (λ (clock : Reading). clock.at.counter ≤ old.clock.end) (sym (move_clock _ rules.number threshold old new commands is))
    (not_past (clock_needed old is.promotable).at.counter old.clock.end (λ over. can.counters (record { promotable = is.promotable; are_promotable = is.are_promotable; past = over })))))))

-- The stage mirrors again behind it.
pub move_mirrors : (longest : ℕ) (digest : Digest) (worker : ℕ) (threshold : Option ℕ) (old new : Stage) (commands : List Command)
    → GivesDigests digest → IfSome threshold (λ least. 0 < least) → StageMirrors longest digest old
    → IsMove digest worker threshold old commands new → StageMirrors longest digest new
move_mirrors longest digest worker threshold old new commands digests some mirrors is =
    subst (StageMirrors longest digest) (sym is.after)
    (mirrors_again longest digest worker threshold old is.promotable is.descents (move_given longest digest worker threshold old new commands is digests some mirrors))

-- The paths that its commands name are of the frontier's tree, and the values that they bring in are of their paths' kinds.
pub move_typed : (wide : Bool) (longest : ℕ) (digest : Digest) (worker : ℕ) (threshold : Option ℕ) (old new : Stage) (commands : List Command)
    → IsIn wide old.shard.frontier → GivesDigests digest → IfSome threshold (λ least. 0 < least) → StageMirrors longest digest old
    → IsMove digest worker threshold old commands new → AllByRecursion (IsPathTypedIn wide longest) commands
move_typed wide longest digest worker threshold old new commands within digests some mirrors is =
    subst (AllByRecursion (IsPathTypedIn wide longest)) (sym is.commands)
    (all_typed longest digest worker threshold old is.promotable is.descents (move_given longest digest worker threshold old new commands is digests some mirrors) wide within)

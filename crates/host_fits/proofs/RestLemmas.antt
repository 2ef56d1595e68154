-- A shard that is moved at a close fits, and is clear.
use Rattle.std.proofs.Common.{◌≡◌, ℕ, suc, ◌<◌, ◌≤◌, Bool, true, false, List, [], ◌∷◌, map, length, nat_lt, Some, refl, sym, ◌∙◌, ap, subst, arith}
use Rattle.std.specs.List.{AllByRecursion}
use Rattle.std.proofs.lemmas.Bool.Decides.{nat_tests}
use Rattle.tree_keys.specs.Path.{key_bits, IsIn, key_of}
use Rattle.lamport_clocks.specs.Reading.{Reading}
use Rattle.lamport_clocks.specs.Clock.{is_open}
use Rattle.record_text.specs.declared.element.Element.{Element}
use Rattle.record_text.specs.declared.operation.Operation.{Operation}
use Rattle.record_text.specs.Longest.{longest_of}
use Rattle.record_text.specs.Tree.{wide_of}
use Rattle.merkle_records.specs.Merkle.{Digest}
use Rattle.verifier_cache.specs.Cache.{Held}
use Rattle.verifier_commands.specs.Transition.{Rules}
use Rattle.soundness.specs.StateHistory.{rules_under}
use Rattle.soundness.specs.Permutation.{count_of}
use Rattle.host_shard.specs.Shard.{pending_shard}
use Rattle.host_shard.specs.Content.{Content, cold}
use Rattle.host_core.specs.Host.{Done, scheme, resting}
use Rattle.host_core.specs.Deeds.{IsStamped, IsReady, IsDeed, MoveFits, request_of}
use Rattle.host_core.specs.Clear.{IsClearDeed}
use Rattle.protection_moves.specs.Stage.{Stage, touched_in}
use Rattle.protection_moves.specs.Move.{begun}
use Rattle.protection_moves.proofs.RenewingLaws.{renewing_each-end}
use Rattle.move_laws.specs.Stages.{StageMirrors, IsTakable}
use Rattle.move_laws.specs.Moved.{MoveRuns, CanMove, waiting_in}
use Rattle.move_laws.specs.Deed.{IsMoveDeed, IsClearMove}
use Rattle.move_laws.proofs.CounterLaws.{move_clock}
use Rattle.move_laws.proofs.DeedLaws.{move_deed, clear_move}
use Rattle.move_laws.proofs.MoveLaws.{move_runs, move_typed}
use Rattle.move_laws.proofs.DescentLaws.{each-end, each-frontier}
use Rattle.shipped_host.specs.Planned.{IsMoved}
use Rattle.shipped_host.specs.Seated.{SeatsMirror, IsHotPlace, wide_among, waiting_at}
use Rattle.shipped_host.proofs.PlaceLaws.{waits-hot, hot-moved}
use Rattle.shipped_host.proofs.SeatLaws.{stage_at, stage_mirrors, MoveKeeps, move_keeps, seats_moved}
use Rattle.host_fits.specs.Mirroring.{front_of, frontier_in}
use Rattle.host_fits.proofs.Keeping.{Setting, IsSetting, bits_in, ranged, PlacesMirror, keeping_of}
use Rattle.host_fits.proofs.PlaceLemmas.{all-each, shard_tree, home-below}
use Rattle.host_fits.proofs.ServeLemmas.{bare_at_rest}

open_before : (clock : Reading) (first epoch stamp : ℕ) → clock.first ≡ first → clock.at.epoch ≡ suc epoch → stamp ≡ epoch → first ≤ epoch → is_open clock stamp ≡ true
open_before clock first epoch stamp one two three four = grind (arith, nat_tests)

not_past : (end counter : ℕ) → (end < counter → ⊥) → counter ≤ end
not_past end counter within = go (nat_lt end counter) refl
  where
    go : (b : Bool) → nat_lt end counter ≡ b → counter ≤ end
    go true past = absurd (within (grind (arith, nat_tests)))
    go false is = grind (arith, nat_tests)

-- a worker that moves a shard of the epoch before
pub record Moves (setting : Setting) (worker epoch : ℕ) (clock : Reading) (s : ℕ) (contents : List Content) (found : Done (List Content)) : Type 0 where
  pub settled : IsSetting setting
  pub ready : IsReady (PlacesMirror setting) (ranged setting) worker clock epoch s contents
  pub turned : clock.at.epoch ≡ suc epoch
  pub is : (ranged setting).move worker clock s contents ≡ Some found

module _ (setting : Setting) (worker epoch : ℕ) (clock : Reading) (s : ℕ) (contents : List Content) (found : Done (List Content))
    (moves : Moves setting worker epoch clock s contents found) where
  abbrev longest : ℕ
  longest = longest_of setting.settings.header

  abbrev digest : Digest
  digest = setting.functions.digest

  abbrev rules : Rules
  rules = rules_under (scheme (ranged setting)) setting.settings.header worker

  abbrev cache : Held
  cache = (ranged setting).cache worker

  abbrev mirrors : SeatsMirror longest digest contents
  mirrors = moves.ready.mirrored.mirrors

  abbrev old : Stage
  old = stage_at mirrors.shard mirrors.places clock

  there : StageMirrors longest digest old
  there = stage_mirrors longest digest contents clock mirrors

  moved_so : IsMoved digest worker setting.settings.hot old found
  moved_so = seats_moved longest digest worker setting.settings.hot clock contents found moves.settled.digests moves.settled.threshold mirrors moves.is

  keeps : MoveKeeps longest (wide_among contents) digest worker clock found
  keeps = move_keeps longest digest worker setting.settings.hot clock contents found moves.settled.digests moves.settled.threshold mirrors moves.is

  abbrev new : Stage
  new = moved_so.new

  -- the elements of seats are those of their stage
  waits_there : waiting_at contents ≡ waiting_in old
  waits_there =
      ap waiting_at mirrors.is
      ∙ ap (λ (xs : List Element). pending_shard mirrors.shard ∷ xs) (waits-hot mirrors.places mirrors.hot_alone)

  stamped : AllByRecursion (IsStamped (ranged setting) epoch) (waiting_in old)
  stamped = subst (AllByRecursion (IsStamped (ranged setting) epoch)) waits_there moves.ready.stamped

  from_first : setting.settings.header.first ≤ epoch
  from_first =
      let since : setting.settings.header.first ≤ mirrors.shard.stamp.epoch = subst (λ (cs : List Content). setting.settings.header.first ≤ (front_of cs).epoch) mirrors.is moves.ready.mirrored.from_first in
      omega (arith, since, stamped.0.1)

  can : CanMove rules cache setting.settings.hot old
  can = record {
    bare = bare_at_rest setting worker;
    room = subst (λ (w : Bool). key_bits w < setting.settings.header.cache) (sym (shard_tree setting s contents moves.ready.mirrored mirrors)) moves.settled.room;
    takable = all-each (IsStamped (ranged setting) epoch) (IsTakable rules clock)
        (λ element is. (is.0, open_before clock setting.settings.header.first epoch element.stamp.epoch moves.ready.is_clock.first moves.turned is.1 from_first))
        (waiting_in old) stamped;
    counters = moved_so.within;
  }

  runs : MoveRuns rules cache old new found.commands
  runs = move_runs rules cache setting.settings.hot old new found.commands moves.settled.digests moves.settled.threshold can there moved_so.is

  deed : IsMoveDeed rules cache old new found.commands
  deed = move_deed rules cache old new found.commands runs

  clears : IsClearMove rules cache old new found.commands
  clears = clear_move rules cache old new found.commands runs

  -- the new places have no shard
  still_alone : AllByRecursion IsHotPlace new.places
  still_alone = subst (λ (st : Stage). AllByRecursion IsHotPlace st.places) (sym moved_so.is.after) (hot-moved digest worker old moved_so.is.descents mirrors.hot_alone)

  waits_then : waiting_at found.after ≡ waiting_in new
  waits_then =
      ap waiting_at moved_so.after
      ∙ ap (λ (xs : List Element). pending_shard new.shard ∷ xs) (waits-hot new.places still_alone)

  clock_end : found.clock.end ≡ clock.end
  clock_end =
      ap (λ (c : Reading). c.end) (moved_so.clock ∙ ap (λ (st : Stage). st.clock) moved_so.is.after)
      ∙ (each-end longest digest worker (begun worker old) moved_so.is.descents ∙ renewing_each-end clock (touched_in mirrors.places))

  counters : found.clock.at.counter ≤ clock.end
  counters =
      subst (λ (c : Reading). c.at.counter ≤ clock.end)
      (sym (moved_so.clock ∙ move_clock digest worker setting.settings.hot old new found.commands moved_so.is))
      (not_past clock.end _ (λ past. moved_so.within (record { promotable = moved_so.is.promotable; are_promotable = moved_so.is.are_promotable; past = past })))

  tree : IsIn (wide_of setting.settings.header) mirrors.shard.frontier
  tree = subst (λ (cs : List Content). IsIn (wide_of setting.settings.header) (frontier_in cs)) mirrors.is moves.ready.mirrored.tree

  rest_deed : IsDeed (ranged setting) worker (resting (ranged setting) worker clock) found.commands found.clock contents found.after []
  rest_deed = record {
    typed = move_typed (wide_of setting.settings.header) longest digest worker setting.settings.hot old new found.commands tree moves.settled.digests moves.settled.threshold there moved_so.is;
    accepted = deed.accepted;
    rests = deed.rests ∙ ap (λ (c : Reading). resting (ranged setting) worker c) (sym moved_so.clock);
    is_clock = record {
      first = keeps.same_epoch.first ∙ moves.ready.is_clock.first;
      end = clock_end ∙ moves.ready.is_clock.end;
      reading = record {
        within = omega (arith, counters, clock_end);
        from_first = omega (arith, keeps.same_epoch.first, keeps.same_epoch.epoch, moves.ready.is_clock.reading.from_first);
      };
    };
    epoch = keeps.same_epoch.epoch;
    stamped = all-each (λ (element : Element). (element.verifier ≡ worker) × (element.stamp.epoch ≡ clock.at.epoch)) (IsStamped (ranged setting) found.clock.at.epoch)
        (λ element is. (subst (λ (n : ℕ). n < setting.settings.header.verifiers) (sym is.0) moves.ready.known, is.1 ∙ sym keeps.same_epoch.epoch))
        (waiting_at found.after) keeps.waits;
    added = λ index x. deed.added worker index x ∙ ap (λ (xs : List Element). count_of x xs) (sym waits_there);
    evicted = λ index x. deed.evicted worker index x ∙ ap (λ (xs : List Element). count_of x xs) (sym waits_then);
    answered = λ index. ap (λ (operations : List Operation). map (λ (operation : Operation). (operation.stamp.epoch, request_of operation)) operations) (deed.unanswered worker index);
    unsealed = λ index. deed.unsealed worker index;
  }

  frontier_new : frontier_in found.after ≡ frontier_in contents
  frontier_new =
      ap frontier_in moved_so.after
      ∙ (ap (λ (st : Stage). st.shard.frontier) moved_so.is.after
      ∙ (each-frontier longest digest worker (begun worker old) moved_so.is.descents ∙ ap frontier_in (sym mirrors.is)))

  rest_mirrors : PlacesMirror setting s found.after
  rest_mirrors = record {
    mirrors = keeps.mirrors;
    tree = subst (IsIn (wide_of setting.settings.header)) (sym frontier_new) moves.ready.mirrored.tree;
    levels = ap (λ (path : List Bool). length path) frontier_new ∙ moves.ready.mirrored.levels;
    number = ap key_of frontier_new ∙ moves.ready.mirrored.number;
    from_first = subst (λ (cs : List Content). setting.settings.header.first ≤ (front_of cs).epoch) (sym moved_so.after)
        (subst (λ (n : ℕ). setting.settings.header.first ≤ n) (sym since) (omega (arith, from_first, moves.turned)));
  }
    where
      since : new.shard.stamp.epoch ≡ clock.at.epoch
      since = (subst (AllByRecursion (λ (element : Element). (element.verifier ≡ worker) × (element.stamp.epoch ≡ clock.at.epoch))) waits_then keeps.waits).0.1

  levels : length mirrors.shard.frontier ≡ suc (bits_in setting)
  levels = subst (λ (cs : List Content). length (frontier_in cs) ≡ suc (bits_in setting)) mirrors.is moves.ready.mirrored.levels

  number : key_of mirrors.shard.frontier ≡ s
  number = subst (λ (cs : List Content). key_of (frontier_in cs) ≡ s) mirrors.is moves.ready.mirrored.number

  clear_there : IsClearDeed (PlacesMirror setting) (keeping_of setting) (ranged setting) worker (resting (ranged setting) worker clock) found.commands s
      (cold mirrors.shard ∷ mirrors.places) (cold new.shard ∷ new.places)
  clear_there = record {
    apart = λ index path not_home. clears.apart worker index path (λ below. not_home (home-below (wide_of setting.settings.header) mirrors.shard.frontier path (suc (bits_in setting)) s tree levels number below));
    clear = λ index path last home kept. clears.clear worker index path last kept;
    keeps = λ index path last home kept. clears.keeps worker index path last kept;
    behind = λ index path. clears.behind worker index path;
    up_to = λ index path. clears.up_to worker index path;
    rises = clears.rises;
  }

  rest_clear : IsClearDeed (PlacesMirror setting) (keeping_of setting) (ranged setting) worker (resting (ranged setting) worker clock) found.commands s contents found.after
  rest_clear =
      subst (λ (cs : List Content). IsClearDeed (PlacesMirror setting) (keeping_of setting) (ranged setting) worker (resting (ranged setting) worker clock) found.commands s cs found.after) (sym mirrors.is)
      (subst (λ (cs : List Content). IsClearDeed (PlacesMirror setting) (keeping_of setting) (ranged setting) worker (resting (ranged setting) worker clock) found.commands s (cold mirrors.shard ∷ mirrors.places) cs) (sym moved_so.after)
      clear_there)

  -- It fits, and is clear.
  pub both_move : MoveFits (PlacesMirror setting) (ranged setting) worker clock s contents found
      × IsClearDeed (PlacesMirror setting) (keeping_of setting) (ranged setting) worker (resting (ranged setting) worker clock) found.commands s contents found.after
  both_move = (record { deed = rest_deed; mirrored = rest_mirrors }, rest_clear)

-- What a worker does for a shard at a close.
pub rest_any : (setting : Setting) (worker epoch : ℕ) (clock : Reading) (s : ℕ) (contents : List Content) (found : Done (List Content))
    → IsSetting setting → IsReady (PlacesMirror setting) (ranged setting) worker clock epoch s contents → clock.at.epoch ≡ suc epoch
    → (ranged setting).move worker clock s contents ≡ Some found
    → MoveFits (PlacesMirror setting) (ranged setting) worker clock s contents found
    × IsClearDeed (PlacesMirror setting) (keeping_of setting) (ranged setting) worker (resting (ranged setting) worker clock) found.commands s contents found.after
rest_any setting worker epoch clock s contents found settled ready turned is =
    both_move setting worker epoch clock s contents found (record { settled = settled; ready = ready; turned = turned; is = is })

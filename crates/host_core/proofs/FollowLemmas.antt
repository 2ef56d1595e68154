-- Things that are followed in the merged order, each at one shard: what is so of the setup, and what each deed goes on with, is so behind
-- every event.
use Rattle.std.proofs.Common.{◌≡◌, ◌⊎◌, ℕ, zero, suc, ◌+◌, ◌<◌, Bool, true, false, List, [], ◌∷◌, ◌++◌, map, length, get_or, set, replicate, Option, Some, None, refl, sym, ◌∙◌, ap, subst, inl, inr, append_assoc, append-nil, ◌-◌, arith}
use Rattle.std.specs.List.{AllByRecursion}
use Rattle.std.specs.Prelude.{filter, ◌==◌}
use Rattle.std.proofs.lemmas.Bool.{cases_eq, cond-false}
use Rattle.std.proofs.lemmas.Bool.Decides.{nat_tests}
use Rattle.std.proofs.lemmas.List.{get_or-set_same, get_or-set_other}
use Rattle.std.proofs.lemmas.List.Elements.{filter-append}
use Rattle.std.proofs.lemmas.Option.{none-some, same_Some}
use Rattle.lamport_clocks.specs.Stamp.{IsLater}
use Rattle.lamport_clocks.specs.Reading.{Reading}
use Rattle.lamport_clocks.specs.Clock.{last_epoch, sealed_by_advancing}
use Rattle.lamport_clocks.specs.declared.stamp.Stamp.{Stamp}
use Rattle.log_codec.specs.declared.command.Command.{Command}
use Rattle.log_codec.specs.declared.command.Command.TheVariants.{NextEpoch}
use Rattle.stamp_order.specs.declared.moment.Moment.{Moment}
use Rattle.stamp_order.specs.Moment.{is_before}
use Rattle.stamp_order.specs.Merged.{comes_before, merged, IsMerged}
use Rattle.stamp_order.proofs.InOrderLaws.{every-weaker, every-append, IsInOrder-filter}
use Rattle.stamp_order.proofs.MergedLaws.{merged-fixed}
use Rattle.stamp_order.proofs.MomentLaws.{comes_before-order}
use Rattle.verifier_commands.specs.Change.{Change, did_next_epoch}
use Rattle.verifier_commands.proofs.TickLaws.{up_to-trans}
use Rattle.soundness.specs.History.{Event}
use Rattle.soundness.specs.PathHistory.{path_log_events}
use Rattle.soundness.specs.Certified.{event_moment}
use Rattle.soundness.proofs.HistoryLaws.{events-merged, path_log-merged}
use Rattle.soundness.proofs.PathHistoryLaws.{path_events-tick}
use Rattle.host_core.specs.Host.{Host, Done, scheme, resting}
use Rattle.host_core.specs.World.{Seats, unmoved, fresh, set_up}
use Rattle.host_core.specs.WorldEvent.{next_clock}
use Rattle.host_core.specs.Deeds.{IsReady, IsReadyAt, IsFit}
use Rattle.host_core.specs.Clear.{IsNotAfter}
use Rattle.host_core.proofs.Books.{get_or-mapped, Account, account_of, Books, books_of, seats_at, with_more, IsOwn, Progress, stays, serves_one, moves_one, advances_one, opens_next, raises_newest, finishes_one}
use Rattle.host_core.proofs.AccountLemmas.{events_at, log-grown, advance_events}
use Rattle.host_core.proofs.Right.{IsRight}
use Rattle.host_core.proofs.ReadyLemmas.{own_right, serve_ready, IsMoveReady, move_ready}
use Rattle.host_core.proofs.EvenLemmas.{all_from, none_of}
use Rattle.host_core.proofs.LastLemmas.{AreAfter, in_order-last}

-- ---- all logs, where one has more events

-- two lists of events, the second with more in between
pub record IsSplit (old new more : List Event) : Type 0 where
  pub front : List Event
  pub back : List Event
  pub was : old ≡ front ++ back
  pub is : new ≡ front ++ (more ++ back)

module _ {C R : Type 0} (host : Host C R) where
  -- where a log has more events, all logs have them in between
  pub split-set : (number : ℕ) (accounts : List Account) (i : ℕ) (next d : Account) (more : List Event) → i < length accounts
      → path_log_events (scheme host) host.header (number + i) next.log
      ≡ path_log_events (scheme host) host.header (number + i) (get_or accounts i d).log ++ more
      → IsSplit (all_from host number accounts) (all_from host number (set accounts i next)) more
  split-set number [] i next d more within grown = absurd (omega (arith, within))
  split-set number (account ∷ accounts) zero next d more within grown =
      let rest = all_from host (suc number) accounts in
      let old = path_log_events (scheme host) host.header number account.log in
      record {
        front = old;
        back = rest;
        was = refl;
        is = ap (λ (events : List Event). events ++ rest)
            (subst (λ (n : ℕ). path_log_events (scheme host) host.header n next.log ≡ path_log_events (scheme host) host.header n account.log ++ more)
            (omega arith) grown)
            ∙ append_assoc old more rest;
      }
  split-set number (account ∷ accounts) (suc i) next d more within grown =
      let old = path_log_events (scheme host) host.header number account.log in
      let behind = split-set (suc number) accounts i next d more (omega (arith, within))
      (subst (λ (n : ℕ). path_log_events (scheme host) host.header n next.log ≡ path_log_events (scheme host) host.header n (get_or accounts i d).log ++ more)
      (omega arith) grown) in
      record {
        front = old ++ behind.front;
        back = behind.back;
        was = ap (λ (events : List Event). old ++ events) behind.was ∙ sym (append_assoc old behind.front behind.back);
        is = ap (λ (events : List Event). old ++ events) behind.is ∙ sym (append_assoc old behind.front (more ++ behind.back));
      }

module _ {C R : Type 0} (mirrors : ℕ → List C → Type 0) (host : Host C R) (fit : IsFit mirrors host) (old : Books C) (right : IsRight mirrors host old) where
  -- what more commands of one worker are among all events
  pub one-split : (i : ℕ) (account : Account) → IsOwn host old i account → (commands : List Command) (next : Account) → next.log ≡ account.log ++ commands
      → IsSplit (all_from host 0 old.accounts) (all_from host 0 (set old.accounts i next)) (events_at host i (0 + length account.log) account.clock commands)
  one-split i account own commands next is =
      split-set host 0 old.accounts i next (account_of (fresh host.header)) (events_at host i (0 + length account.log) account.clock commands) own.there
      (subst (λ (n : ℕ). path_log_events (scheme host) host.header n next.log
      ≡ path_log_events (scheme host) host.header n (get_or old.accounts i (account_of (fresh host.header))).log
      ++ events_at host i (0 + length account.log) account.clock commands) {x = i} (omega arith)
      (ap (path_log_events (scheme host) host.header i) is
      ∙ log-grown host i account (own_right mirrors host fit old right i account own) commands
      ∙ ap (λ (a : Account). path_log_events (scheme host) host.header i a.log ++ events_at host i (0 + length account.log) account.clock commands)
      (sym own.is)))

-- ---- what is followed

-- Which changes are about a thing, the shard that has it, and the stamp since which it waits there.
pub record Followed (X Content : Type 0) : Type 0 where
  pub about : X → Change → Bool
  pub home : X → Option ℕ
  pub since : X → List Content → Stamp

-- the events about a thing
abbrev pub about_it : {X C : Type 0} → Followed X C → X → List Event → List Event
about_it followed x events = filter (λ event. followed.about x event.change) events

-- the same in the merged order
abbrev pub followed_in : {X C : Type 0} → Followed X C → X → List Event → List Event
followed_in followed x events = merged event_moment (about_it followed x events)

-- an event with a later stamp comes after
comes_after : (stamp : Stamp) (x y : Event) → IsNotAfter x.at stamp → IsLater y.at stamp
    → (comes_before event_moment x y ≡ true) × (comes_before event_moment y x ≡ false)
comes_after stamp x y not_after later =
    let first = earlier (event_moment x) (event_moment y) stamp not_after later in
    (first, (comes_before-order event_moment).one_way x y first)
  where
    earlier : (m n : Moment) (stamp : Stamp) → IsNotAfter m.at stamp → IsLater n.at stamp → is_before m n ≡ true
    earlier m n stamp (inl a) (inl b) = grind (arith, nat_tests)
    earlier m n stamp (inl a) (inr b) = grind (arith, nat_tests)
    earlier m n stamp (inr a) (inl b) = grind (arith, nat_tests)
    earlier m n stamp (inr a) (inr b) = grind (arith, nat_tests)

all_after : (stamp : Stamp) (lasts xs : List Event) → AllByRecursion (λ event. IsNotAfter event.at stamp) xs
    → AllByRecursion (λ event. IsLater event.at stamp) lasts → AreAfter (comes_before event_moment) lasts xs
all_after stamp lasts [] early late = tt
all_after stamp lasts (x ∷ xs) early late = (
  every-weaker (λ event. IsLater event.at stamp)
      (λ last. (comes_before event_moment x last ≡ true) × (comes_before event_moment last x ≡ false))
      (λ last later. comes_after stamp x last early.0 later) lasts late,
  all_after stamp lasts xs early.1 late,
)

module _ {X C : Type 0} (followed : Followed X C) (Told : X → List Event → Type 0) (Kept : X → ℕ → List Event → List C → Type 0) where
  -- Of a thing: what holds of the events about it, and of these with the contents of its shard; and all of them were up to the
  -- stamp since which it waits.
  pub record IsFollowed (x : X) (events : List Event) (contents : ℕ → List C) : Type 0 where
    pub told_so : Told x (followed_in followed x events)
    pub kept : (s : ℕ) → followed.home x ≡ Some s → Kept x s (followed_in followed x events) (contents s)
    pub up_to : (s : ℕ) → followed.home x ≡ Some s
        → AllByRecursion (λ event. IsNotAfter event.at (followed.since x (contents s))) (about_it followed x events)

  -- Events of a deed at a shard are about its things alone, behind the stamp since which each waited and up to that since which it then
  -- waits; and what holds goes on.
  pub record GoesOn (events : List Event) (s : ℕ) (old new : List C) : Type 0 where
    pub apart : (x : X) → (followed.home x ≡ Some s → ⊥) → about_it followed x events ≡ []
    pub goes_on : (x : X) (before : List Event) → followed.home x ≡ Some s → Told x before → Kept x s before old
        → Told x (before ++ about_it followed x events) × Kept x s (before ++ about_it followed x events) new
    pub behind : (x : X) → followed.home x ≡ Some s → AllByRecursion (λ event. IsLater event.at (followed.since x old)) (about_it followed x events)
    pub up_to : (x : X) → followed.home x ≡ Some s → AllByRecursion (λ event. IsNotAfter event.at (followed.since x new)) (about_it followed x events)
    pub rises : (x : X) → followed.home x ≡ Some s → IsNotAfter (followed.since x old) (followed.since x new)

  about-append : (x : X) (xs ys : List Event) → about_it followed x (xs ++ ys) ≡ about_it followed x xs ++ about_it followed x ys
  about-append x xs ys = filter-append (λ event. followed.about x event.change) xs ys

  abbrev pub contents_in : List (Seats C) → ℕ → List C
  contents_in shards s = (get_or shards s (unmoved [])).contents

  -- ---- a thing that nothing more is about

  untold : (x : X) (old new more : List Event) → IsSplit old new more → about_it followed x more ≡ [] → about_it followed x new ≡ about_it followed x old
  untold x old new more split none =
      ap (about_it followed x) split.is
      ∙ about-append x split.front (more ++ split.back)
      ∙ ap (λ (zs : List Event). about_it followed x split.front ++ zs)
      (about-append x more split.back ∙ ap (λ (zs : List Event). zs ++ about_it followed x split.back) none)
      ∙ sym (about-append x split.front split.back)
      ∙ sym (ap (about_it followed x) split.was)

  pub same_followed : (x : X) (old new : List Event) (before after : ℕ → List C) → about_it followed x new ≡ about_it followed x old
      → ((s : ℕ) → followed.home x ≡ Some s → after s ≡ before s)
      → IsFollowed x old before → IsFollowed x new after
  same_followed x old new before after same contents was = record {
    told_so = subst (λ (zs : List Event). Told x (merged event_moment zs)) (sym same) was.told_so;
    kept = λ s home.
        subst (λ (zs : List Event). Kept x s (merged event_moment zs) (after s)) (sym same)
        (subst (λ (cs : List C). Kept x s (followed_in followed x old) cs) (sym (contents s home))
        (was.kept s home));
    up_to = λ s home.
        subst (AllByRecursion (λ event. IsNotAfter event.at (followed.since x (after s)))) (sym same)
        (subst (λ (cs : List C). AllByRecursion (λ event. IsNotAfter event.at (followed.since x cs)) (about_it followed x old)) (sym (contents s home))
        (was.up_to s home));
  }

  -- ---- a thing of the shard

  -- what comes behind stands in order
  own_followed : (x : X) (s : ℕ) (old new events : List Event) (before after : ℕ → List C)
      → followed.home x ≡ Some s → IsSplit old new events → IsMerged event_moment (about_it followed x events)
      → GoesOn events s (before s) (after s)
      → IsFollowed x old before → IsFollowed x new after
  own_followed x s old new events before after own split sorted deed was = record {
    told_so = subst (Told x) (sym order) onward.0;
    kept = λ t home.
        subst (λ (k : ℕ). Kept x k (followed_in followed x new) (after k)) (same t home)
        (subst (λ (zs : List Event). Kept x s zs (after s)) (sym order) onward.1);
    up_to = λ t home.
        subst (λ (k : ℕ). AllByRecursion (λ event. IsNotAfter event.at (followed.since x (after k))) (about_it followed x new)) (same t home)
        (subst (AllByRecursion (λ event. IsNotAfter event.at (followed.since x (after s)))) (sym new_is)
        (every-append (λ event. IsNotAfter event.at (followed.since x (after s))) front (more ++ back) risen.0
        (every-append (λ event. IsNotAfter event.at (followed.since x (after s))) more back (deed.up_to x own) risen.1)));
  }
    where
      more : List Event
      more = about_it followed x events

      front : List Event
      front = about_it followed x split.front

      back : List Event
      back = about_it followed x split.back

      same : (t : ℕ) → followed.home x ≡ Some t → s ≡ t
      same t home = same_Some s t (sym own ∙ home)

      new_is : about_it followed x new ≡ front ++ (more ++ back)
      new_is = ap (about_it followed x) split.is ∙ about-append x split.front (events ++ split.back)
          ∙ ap (λ (zs : List Event). front ++ zs) (about-append x events split.back)

      old_is : about_it followed x old ≡ front ++ back
      old_is = ap (about_it followed x) split.was ∙ about-append x split.front split.back

      early : AllByRecursion (λ event. IsNotAfter event.at (followed.since x (before s))) (front ++ back)
      early = subst (AllByRecursion (λ event. IsNotAfter event.at (followed.since x (before s)))) old_is (was.up_to s own)

      order : followed_in followed x new ≡ followed_in followed x old ++ more
      order = ap (merged event_moment) new_is
          ∙ in_order-last (comes_before event_moment) front more back sorted
          (all_after (followed.since x (before s)) more (front ++ back) early (deed.behind x own))
          ∙ ap (λ (zs : List Event). merged event_moment zs ++ more) (sym old_is)

      onward : Told x (followed_in followed x old ++ more) × Kept x s (followed_in followed x old ++ more) (after s)
      onward = deed.goes_on x (followed_in followed x old) own was.told_so (was.kept s own)

      parts : (xs ys : List Event) → AllByRecursion (λ event. IsNotAfter event.at (followed.since x (before s))) (xs ++ ys)
          → AllByRecursion (λ event. IsNotAfter event.at (followed.since x (after s))) xs
          × AllByRecursion (λ event. IsNotAfter event.at (followed.since x (after s))) ys
      parts [] ys all = (
        tt,
        every-weaker (λ event. IsNotAfter event.at (followed.since x (before s))) (λ event. IsNotAfter event.at (followed.since x (after s)))
            (λ event up. up_to-trans event.at (followed.since x (before s)) (followed.since x (after s)) up (deed.rises x own)) ys all,
      )
      parts (z ∷ xs) ys all =
          let rest = parts xs ys all.1 in
          ((up_to-trans z.at (followed.since x (before s)) (followed.since x (after s)) all.0 (deed.rises x own), rest.0), rest.1)

      risen : AllByRecursion (λ event. IsNotAfter event.at (followed.since x (after s))) front
          × AllByRecursion (λ event. IsNotAfter event.at (followed.since x (after s))) back
      risen = parts front back early

  -- ---- each event keeps it

  -- contents of which one shard's are replaced
  contents-same : (shards : List (Seats C)) (s : ℕ) (seats : Seats C) → s < length shards → contents_in (set shards s seats) s ≡ seats.contents
  contents-same shards s seats there = ap (λ (z : Seats C). z.contents) (get_or-set_same shards s seats (unmoved []) there)

  contents-other : (shards : List (Seats C)) (s : ℕ) (seats : Seats C) (t : ℕ) → (t ≡ s → ⊥) → contents_in (set shards s seats) t ≡ contents_in shards t
  contents-other shards s seats t apart = ap (λ (z : Seats C). z.contents) (get_or-set_other shards s t seats (unmoved []) apart)

  -- a deed at a shard goes on with each thing
  deed_followed : (s : ℕ) (seats : Seats C) (shards : List (Seats C)) (old new events : List Event)
      → s < length shards → IsSplit old new events → ((x : X) → IsMerged event_moment (about_it followed x events))
      → GoesOn events s (contents_in shards s) seats.contents
      → ((x : X) → IsFollowed x old (contents_in shards))
      → (x : X) → IsFollowed x new (contents_in (set shards s seats))
  deed_followed s seats shards old new events there split sorted deed was x = go (followed.home x) refl
    where
      elsewhere : (followed.home x ≡ Some s → ⊥) → IsFollowed x new (contents_in (set shards s seats))
      elsewhere apart =
          same_followed x old new (contents_in shards) (contents_in (set shards s seats))
          (untold x old new events split (deed.apart x apart))
          (λ t home. contents-other shards s seats t (λ same. apart (home ∙ ap Some same)))
          (was x)

      go : (o : Option ℕ) → followed.home x ≡ o → IsFollowed x new (contents_in (set shards s seats))
      go None is = elsewhere (λ home. absurd (none-some s (sym is ∙ home)))
      go (Some t) is = by (cases_eq t s)
        where
          by : (t ≡ s) ⊎ (t ≡ s → ⊥) → IsFollowed x new (contents_in (set shards s seats))
          by (inl same) =
              own_followed x s old new events (contents_in shards) (contents_in (set shards s seats)) (is ∙ ap Some same) split (sorted x)
              (subst (GoesOn events s (contents_in shards s)) (sym (contents-same shards s seats there)) deed)
              (was x)
          by (inr apart) = elsewhere (λ home. apart (same_Some t s (sym is ∙ home)))

module _ {X C R : Type 0} (followed : Followed X C) (Told : X → List Event → Type 0) (Kept : X → ℕ → List Event → List C → Type 0)
    (mirrors : ℕ → List C → Type 0) (host : Host C R) where
  abbrev pub AreFollowed : Books C → Type 0
  AreFollowed books = (x : X) → IsFollowed followed Told Kept x (all_from host 0 books.accounts) (contents_in followed Told Kept books.shards)

  -- whatever the host does goes on with each thing, and advancing a clock is about none
  pub record AllGoOn : Type 0 where
    pub serve : (i index : ℕ) (clock : Reading) (s seat : ℕ) (contents : List C) (request : R) (done : Done C)
        → IsReadyAt mirrors host i clock s seat contents → seat < length contents → host.owns s contents seat request ≡ true
        → host.serve i clock (get_or contents seat host.vacant) request ≡ Some done
        → GoesOn followed Told Kept (events_at host i index clock done.commands) s contents (set contents seat done.after)
    pub move : (i index epoch : ℕ) (clock : Reading) (s : ℕ) (contents : List C) (done : Done (List C))
        → IsReady mirrors host i clock epoch s contents → clock.at.epoch ≡ suc epoch
        → host.move i clock s contents ≡ Some done
        → GoesOn followed Told Kept (events_at host i index clock done.commands) s contents done.after
    pub advance : (x : X) (sealed : Option ℕ) → followed.about x (did_next_epoch sealed) ≡ false

  -- the events of a deed stand in order
  deed_sorted : (i index : ℕ) (clock : Reading) (commands : List Command) (x : X)
      → IsMerged event_moment (about_it followed x (events_at host i index clock commands))
  deed_sorted i index clock commands x =
      IsInOrder-filter (comes_before event_moment) (comes_before-order event_moment) (λ event. followed.about x event.change)
      (events_at host i index clock commands)
      (events-merged i index clock (events_at host i index clock commands)
      (path_events-tick (scheme host) host.header i index (resting host i clock) commands))

  module _ (fit : IsFit mirrors host) (all : AllGoOn) (old : Books C) (right : IsRight mirrors host old) where
    opened_same : (shards : List (Seats C)) (s : ℕ) → contents_in followed Told Kept (map (λ shard. unmoved shard.contents) shards) s ≡ contents_in followed Told Kept shards s
    opened_same shards s = ap (λ (z : Seats C). z.contents) (get_or-mapped (λ (shard : Seats C). unmoved shard.contents) shards s (unmoved []))

    advanced_none : (x : X) (i index : ℕ) (clock : Reading) → (clock.at.epoch == last_epoch) ≡ false
        → about_it followed x (events_at host i index clock (NextEpoch ∷ [])) ≡ []
    advanced_none x i index clock more =
        ap (about_it followed x) (advance_events host i index clock more)
        ∙ cond-false (followed.about x (did_next_epoch (sealed_by_advancing clock))) _ _ (all.advance x (sealed_by_advancing clock))

    -- Each event goes on with each thing.
    pub progress_followed : (new : Books C) → Progress host old new → AreFollowed old → AreFollowed new
    progress_followed new (stays is) was = subst AreFollowed (sym is) was
    progress_followed new (serves_one i account s seat request done did is) was =
        subst AreFollowed (sym is)
        (deed_followed followed Told Kept s
        (record (seats_at old s) { contents = set (seats_at old s).contents seat done.after }) old.shards
        (all_from host 0 old.accounts) (all_from host 0 (set old.accounts i (with_more account done.commands done.clock 1)))
        (events_at host i (0 + length account.log) account.clock done.commands) did.shard
        (one-split mirrors host fit old right i account did.own done.commands (with_more account done.commands done.clock 1) refl)
        (deed_sorted i (0 + length account.log) account.clock done.commands)
        (all.serve i (0 + length account.log) account.clock s seat (seats_at old s).contents request done
        (serve_ready mirrors host fit old right i account s seat request done did) did.inside did.owns did.did)
        was)
    progress_followed new (moves_one i account s moved done did is) was =
        subst AreFollowed (sym is)
        (deed_followed followed Told Kept s
        (record { contents = done.after; moved = moved }) old.shards
        (all_from host 0 old.accounts) (all_from host 0 (set old.accounts i (with_more account done.commands done.clock 0)))
        (events_at host i (0 + length account.log) account.clock done.commands) did.shard
        (one-split mirrors host fit old right i account did.own done.commands (with_more account done.commands done.clock 0) refl)
        (deed_sorted i (0 + length account.log) account.clock done.commands)
        (all.move i (0 + length account.log) is_ready.epoch account.clock s (seats_at old s).contents done is_ready.ready is_ready.turned did.did)
        was)
      where
        is_ready : IsMoveReady mirrors host fit old right i account s
        is_ready = move_ready mirrors host fit old right i account s moved done did
    progress_followed new (advances_one i account closing did is) was =
        subst AreFollowed (sym is)
        (λ x. same_followed followed Told Kept x (all_from host 0 old.accounts)
        (all_from host 0 (set old.accounts i (with_more account (NextEpoch ∷ []) (next_clock account.clock) 0)))
        (contents_in followed Told Kept old.shards) (contents_in followed Told Kept old.shards)
        (untold followed Told Kept x (all_from host 0 old.accounts)
        (all_from host 0 (set old.accounts i (with_more account (NextEpoch ∷ []) (next_clock account.clock) 0)))
        (events_at host i (0 + length account.log) account.clock (NextEpoch ∷ []))
        (one-split mirrors host fit old right i account did.own (NextEpoch ∷ []) (with_more account (NextEpoch ∷ []) (next_clock account.clock) 0) refl)
        (advanced_none x i (0 + length account.log) account.clock did.more))
        (λ s home. refl) (was x))
    progress_followed new (opens_next did is) was =
        subst AreFollowed (sym is)
        (λ x. same_followed followed Told Kept x (all_from host 0 old.accounts) (all_from host 0 old.accounts)
        (contents_in followed Told Kept old.shards) (contents_in followed Told Kept (map (λ shard. unmoved shard.contents) old.shards)) refl
        (λ s home. opened_same old.shards s) (was x))
    progress_followed new (raises_newest i account did is) was = subst AreFollowed (sym is) was
    progress_followed new (finishes_one i account did is) was = subst AreFollowed (sym is) was

  -- ---- the setup

  -- what the setup did to each thing of a shard: nothing; and what holds of its commands holds of the others
  pub record SetupGoesOn : Type 0 where
    pub told_so : (x : X) → Told x (about_it followed x (path_log_events (scheme host) host.header 0 host.setup.commands))
    pub apart : (x : X) (s : ℕ) → followed.home x ≡ Some s
        → about_it followed x (path_log_events (scheme host) host.header 0 host.setup.commands) ≡ []
    pub kept : (x : X) (s : ℕ) → followed.home x ≡ Some s → Kept x s [] (get_or host.setup.after s [])

  pub setup_followed : SetupGoesOn → AreFollowed (books_of (set_up host))
  setup_followed begins x = record {
    told_so = subst (Told x) (sym ordered) (begins.told_so x);
    kept = λ s home.
        subst (λ (zs : List Event). Kept x s zs (contents_in followed Told Kept (map unmoved host.setup.after) s)) (sym (ordered ∙ begins.apart x s home))
        (subst (λ (cs : List C). Kept x s [] cs) (sym (contents_is s)) (begins.kept x s home));
    up_to = λ s home.
        subst (AllByRecursion (λ event. IsNotAfter event.at (followed.since x (contents_in followed Told Kept (map unmoved host.setup.after) s))))
        (sym (whole ∙ begins.apart x s home)) tt;
  }
    where
      setup : List Event
      setup = path_log_events (scheme host) host.header 0 host.setup.commands

      others : List Event
      others = all_from host 1 (map account_of (replicate (host.header.verifiers - 1) (fresh host.header)))

      whole : about_it followed x (setup ++ others) ≡ about_it followed x setup
      whole = ap (λ (zs : List Event). about_it followed x (setup ++ zs)) (none_of host (host.header.verifiers - 1) 1)
          ∙ ap (about_it followed x) (append-nil setup)

      sorted : IsMerged event_moment (about_it followed x setup)
      sorted = IsInOrder-filter (comes_before event_moment) (comes_before-order event_moment) (λ event. followed.about x event.change)
          setup (path_log-merged (scheme host) host.header 0 host.setup.commands)

      ordered : followed_in followed x (setup ++ others) ≡ about_it followed x setup
      ordered = ap (merged event_moment) whole ∙ merged-fixed event_moment (about_it followed x setup) sorted

      contents_is : (s : ℕ) → contents_in followed Told Kept (map unmoved host.setup.after) s ≡ get_or host.setup.after s []
      contents_is s = ap (λ (z : Seats C). z.contents) (get_or-mapped unmoved host.setup.after s [])

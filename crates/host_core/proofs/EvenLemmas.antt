-- All evicted elements together are all added ones with the pending elements of all contents, each as often.
use Rattle.std.proofs.Common.{◌≡◌, ℕ, zero, suc, ◌+◌, ◌-◌, ◌<◌, Bool, List, [], ◌∷◌, ◌++◌, map, length, get_or, set, replicate, refl, sym, ◌∙◌, ap, subst, arith}
use Rattle.std.specs.List.{flat_map}
use Rattle.std.proofs.lemmas.Grind.{flat_map-append}
use Rattle.record_text.specs.declared.element.Element.{Element}
use Rattle.log_codec.specs.declared.command.Command.{Command}
use Rattle.log_codec.specs.declared.command.Command.TheVariants.{NextEpoch}
use Rattle.soundness.specs.History.{Event}
use Rattle.soundness.specs.PathHistory.{path_log_events, path_histories_from}
use Rattle.soundness.specs.StateHistory.{events_from}
use Rattle.soundness.specs.Certified.{all_events, added_by, evicted_by}
use Rattle.soundness.specs.Timed.{added_among, evicted_among}
use Rattle.soundness.specs.Permutation.{count_of}
use Rattle.host_core.specs.Host.{Host, Done, scheme}
use Rattle.host_core.specs.World.{Seats, unmoved, fresh, set_up}
use Rattle.host_core.specs.WorldEvent.{next_clock}
use Rattle.host_core.specs.Deeds.{pending_of, ServeFits, MoveFits, IsFit}
use Rattle.host_core.proofs.CountLemmas.{count-append, count-set}
use Rattle.host_core.proofs.Books.{Account, account_of, Books, books_of, seats_at, with_more, served_books, moved_books, advanced_books, IsOwn, DidServe, DidMove, DidAdvance, Progress, stays, serves_one, moves_one, advances_one, opens_next, raises_newest, finishes_one}
use Rattle.host_core.proofs.AccountLemmas.{told, events_at, log-grown, advance_added, advance_evicted}
use Rattle.host_core.proofs.Right.{IsRight}
use Rattle.host_core.proofs.ReadyLemmas.{own_right, serve_fits, move_fits}

-- ---- what is counted over all logs

-- a number that is told of events, and of events behind events is the sum
pub record IsSum (f : List Event → ℕ) : Type 0 where
  pub none_there : f [] ≡ 0
  pub joined : (xs ys : List Event) → f (xs ++ ys) ≡ f xs + f ys

pub counts_added : (x : Element) → IsSum (λ events. count_of x (added_among events))
counts_added x = record {
  none_there = refl;
  joined = λ xs ys. ap (count_of x) (flat_map-append (λ (event : Event). added_by event.change) xs ys)
      ∙ count-append x (added_among xs) (added_among ys);
}

pub counts_evicted : (x : Element) → IsSum (λ events. count_of x (evicted_among events))
counts_evicted x = record {
  none_there = refl;
  joined = λ xs ys. ap (count_of x) (flat_map-append (λ (event : Event). evicted_by event.change) xs ys)
      ∙ count-append x (evicted_among xs) (evicted_among ys);
}

module _ {C R : Type 0} (host : Host C R) where
  -- the events of all logs, the first of which is of the worker of this number
  abbrev pub all_from : ℕ → List Account → List Event
  all_from number accounts = all_events (path_histories_from (scheme host) host.header number (map (λ account. account.log) accounts))

  -- where a log has more events, all logs have
  pub sum-set : (f : List Event → ℕ) → IsSum f → (number : ℕ) (accounts : List Account) (i : ℕ) (next d : Account) (more : List Event)
      → i < length accounts
      → path_log_events (scheme host) host.header (number + i) next.log
      ≡ path_log_events (scheme host) host.header (number + i) (get_or accounts i d).log ++ more
      → f (all_from number (set accounts i next)) ≡ f (all_from number accounts) + f more
  sum-set f sums number [] i next d more within grown = absurd (omega (arith, within))
  sum-set f sums number (account ∷ accounts) zero next d more within grown =
      let rest = all_from (suc number) accounts in
      let old = path_log_events (scheme host) host.header number account.log in
      let here : path_log_events (scheme host) host.header number next.log ≡ old ++ more =
      subst (λ (n : ℕ). path_log_events (scheme host) host.header n next.log ≡ path_log_events (scheme host) host.header n account.log ++ more)
      (omega arith) grown in
      omega (
        arith,
        sums.joined (path_log_events (scheme host) host.header number next.log) rest,
        ap f here,
        sums.joined old more,
        sums.joined old rest,
      )
  sum-set f sums number (account ∷ accounts) (suc i) next d more within grown =
      let old = path_log_events (scheme host) host.header number account.log in
      omega (
        arith,
        sums.joined old (all_from (suc number) (set accounts i next)),
        sums.joined old (all_from (suc number) accounts),
        sum-set f sums (suc number) accounts i next d more (omega (arith, within))
            (subst (λ (n : ℕ). path_log_events (scheme host) host.header n next.log ≡ path_log_events (scheme host) host.header n (get_or accounts i d).log ++ more)
            (omega arith) grown),
      )

  -- the pending elements of shards
  abbrev pub pending_in_all : List (Seats C) → List Element
  pending_in_all shards = flat_map (λ shard. pending_of host shard.contents) shards

  -- each element is evicted as often as it is added or waits
  abbrev pub IsCounted : Books C → Type 0
  IsCounted books = (x : Element)
      → count_of x (evicted_among (all_from 0 books.accounts))
      ≡ count_of x (added_among (all_from 0 books.accounts)) + count_of x (pending_in_all books.shards)

module _ {C R : Type 0} (mirrors : ℕ → List C → Type 0) (host : Host C R) (fit : IsFit mirrors host) (old : Books C)
    (right : IsRight mirrors host old) where
  -- what more commands of one worker tell of all logs
  pub one-grown : (f : List Event → ℕ) → IsSum f → (i : ℕ) (account : Account) → IsOwn host old i account
      → (commands : List Command) (next : Account) → next.log ≡ account.log ++ commands
      → f (all_from host 0 (set old.accounts i next))
      ≡ f (all_from host 0 old.accounts) + f (events_at host i (0 + length account.log) account.clock commands)
  one-grown f sums i account own commands next is =
      sum-set host f sums 0 old.accounts i next (account_of (fresh host.header))
      (events_at host i (0 + length account.log) account.clock commands) own.there
      (subst (λ (n : ℕ). path_log_events (scheme host) host.header n next.log
      ≡ path_log_events (scheme host) host.header n (get_or old.accounts i (account_of (fresh host.header))).log
      ++ events_at host i (0 + length account.log) account.clock commands) (omega arith)
      (ap (path_log_events (scheme host) host.header i) is
      ∙ log-grown host i account (own_right mirrors host fit old right i account own) commands
      ∙ ap (λ (a : Account). path_log_events (scheme host) host.header i a.log ++ events_at host i (0 + length account.log) account.clock commands)
      (sym own.is)))

  serve_counted : (i : ℕ) (account : Account) (s seat : ℕ) (request : R) (done : Done C)
      → DidServe host old i account s seat request done → IsCounted host old → IsCounted host (served_books host old i account s seat done)
  serve_counted i account s seat request done did counted x =
      let fits : ServeFits mirrors host i account.clock s seat (seats_at old s).contents request done =
      serve_fits mirrors host fit old right i account s seat request done did in
      let next = with_more account done.commands done.clock 1 in
      let shard : Seats C = record (seats_at old s) { contents = set (seats_at old s).contents seat done.after } in
      omega (
        arith,
        counted x,
        one-grown (λ events. count_of x (added_among events)) (counts_added x) i account did.own done.commands next refl,
        one-grown (λ events. count_of x (evicted_among events)) (counts_evicted x) i account did.own done.commands next refl,
        fits.deed.added (0 + length account.log) x,
        fits.deed.evicted (0 + length account.log) x,
        count-append x (host.pending (get_or (seats_at old s).contents seat host.vacant)) [],
        count-append x (host.pending done.after) [],
        count-set (λ (shard : Seats C). pending_of host shard.contents) x old.shards s shard (unmoved []) did.shard,
        count-set host.pending x (seats_at old s).contents seat done.after host.vacant did.inside,
      )

  move_counted : (i : ℕ) (account : Account) (s : ℕ) (moved : Bool) (done : Done (List C))
      → DidMove host old i account s moved done → IsCounted host old → IsCounted host (moved_books host old i account s moved done)
  move_counted i account s moved done did counted x =
      let fits : MoveFits mirrors host i account.clock s (seats_at old s).contents done =
      move_fits mirrors host fit old right i account s moved done did in
      let next = with_more account done.commands done.clock 0 in
      let shard : Seats C = record { contents = done.after; moved = moved } in
      omega (
        arith,
        counted x,
        one-grown (λ events. count_of x (added_among events)) (counts_added x) i account did.own done.commands next refl,
        one-grown (λ events. count_of x (evicted_among events)) (counts_evicted x) i account did.own done.commands next refl,
        fits.deed.added (0 + length account.log) x,
        fits.deed.evicted (0 + length account.log) x,
        count-set (λ (shard : Seats C). pending_of host shard.contents) x old.shards s shard (unmoved []) did.shard,
      )

  advance_counted : (i : ℕ) (account : Account) (closing : Bool) → DidAdvance host old i account closing → IsCounted host old
      → IsCounted host (advanced_books host old i account closing)
  advance_counted i account closing did counted x =
      let next = with_more account (NextEpoch ∷ []) (next_clock account.clock) 0 in
      omega (
        arith,
        counted x,
        one-grown (λ events. count_of x (added_among events)) (counts_added x) i account did.own (NextEpoch ∷ []) next refl,
        one-grown (λ events. count_of x (evicted_among events)) (counts_evicted x) i account did.own (NextEpoch ∷ []) next refl,
        ap (count_of x) (advance_added host i (0 + length account.log) account.clock did.more),
        ap (count_of x) (advance_evicted host i (0 + length account.log) account.clock did.more),
      )

  -- the pending elements of shards that are not moved any more are the same
  pub pending-opened : (shards : List (Seats C)) → pending_in_all host (map (λ shard. unmoved shard.contents) shards) ≡ pending_in_all host shards
  pending-opened [] = refl
  pending-opened (shard ∷ shards) = ap (λ (rest : List Element). pending_of host shard.contents ++ rest) (pending-opened shards)

  -- Each event keeps the count.
  pub progress_counted : (new : Books C) → Progress host old new → IsCounted host old → IsCounted host new
  progress_counted new (stays is) counted = subst (IsCounted host) (sym is) counted
  progress_counted new (serves_one i account s seat request done did is) counted =
      subst (IsCounted host) (sym is) (serve_counted i account s seat request done did counted)
  progress_counted new (moves_one i account s moved done did is) counted =
      subst (IsCounted host) (sym is) (move_counted i account s moved done did counted)
  progress_counted new (advances_one i account closing did is) counted =
      subst (IsCounted host) (sym is) (advance_counted i account closing did counted)
  progress_counted new (opens_next did is) counted =
      subst (IsCounted host) (sym is)
      (λ x. counted x ∙ ap (λ (zs : List Element). count_of x (added_among (all_from host 0 old.accounts)) + count_of x zs)
      (sym (pending-opened old.shards)))
  progress_counted new (raises_newest i account did is) counted = subst (IsCounted host) (sym is) counted
  progress_counted new (finishes_one i account did is) counted = subst (IsCounted host) (sym is) counted

-- workers that logged nothing have no events
pub none_of : {C R : Type 0} (host : Host C R) (n number : ℕ) → all_from host number (map account_of (replicate n (fresh host.header))) ≡ []
unfolding events_from
none_of host zero number = refl
none_of host (suc n) number = none_of host n (suc number)

-- So it is behind the setup.
pub setup_counted : {C R : Type 0} (mirrors : ℕ → List C → Type 0) (host : Host C R) → IsFit mirrors host
    → IsCounted host (books_of (set_up host))
setup_counted {C} {R} mirrors host fit x =
    omega (
      arith,
      (counts_added x).joined (path_log_events (scheme host) host.header 0 host.setup.commands) (others (host.header.verifiers - 1) 1),
      (counts_evicted x).joined (path_log_events (scheme host) host.header 0 host.setup.commands) (others (host.header.verifiers - 1) 1),
      ap (λ (events : List Event). count_of x (added_among events)) (told host 0 host.setup.commands),
      ap (λ (events : List Event). count_of x (evicted_among events)) (told host 0 host.setup.commands),
      fit.setup.added 0 x,
      fit.setup.evicted 0 x,
      ap (λ (zs : List Element). count_of x zs) (pending_all host.setup.after),
      ap (λ (events : List Event). count_of x (added_among events)) (none_of host (host.header.verifiers - 1) 1),
      ap (λ (events : List Event). count_of x (evicted_among events)) (none_of host (host.header.verifiers - 1) 1),
    )
  where
    -- the events of the other workers
    others : ℕ → ℕ → List Event
    others n number = all_from host number (map account_of (replicate n (fresh host.header)))

    pending_all : (shards : List (List C)) → pending_in_all host (map unmoved shards) ≡ pending_of host (flat_map (λ contents. contents) shards)
    pending_all [] = refl
    pending_all (contents ∷ shards) =
        ap (λ (rest : List Element). pending_of host contents ++ rest) (pending_all shards)
        ∙ sym (flat_map-append host.pending contents (flat_map (λ contents. contents) shards))

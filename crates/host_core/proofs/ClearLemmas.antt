-- Of each path, the records come back as they left: so it is of what touches it in the merged order, behind every event.
use Rattle.std.proofs.Common.{◌≡◌, ℕ, Bool, List, [], Option, Some, None, refl, sym, ◌∙◌, ap, subst}
use Rattle.soundness.specs.History.{Event}
use Rattle.soundness.specs.PathHistory.{path_log_events}
use Rattle.soundness.specs.Clash.{LastEvicted, none_evicted, first_clash}
use Rattle.soundness.specs.World.{changes_in, last_evicted_behind}
use Rattle.host_core.specs.Host.{Host, scheme}
use Rattle.host_core.specs.World.{set_up}
use Rattle.host_core.specs.Deeds.{IsFit}
use Rattle.host_core.specs.Clear.{Keeping, touches, touching, IsKept, IsClearDeed, IsClear}
use Rattle.host_core.proofs.Books.{Books, books_of, Progress}
use Rattle.host_core.proofs.AccountLemmas.{told, events_at}
use Rattle.host_core.proofs.Right.{IsRight}
use Rattle.host_core.proofs.ClashLemmas.{clash-append, last-append}
use Rattle.host_core.proofs.FollowLemmas.{Followed, GoesOn, AllGoOn, AreFollowed, progress_followed, setup_followed}
use Rattle.lamport_clocks.specs.Reading.{Reading}
use Rattle.log_codec.specs.declared.command.Command.{Command}
use Rattle.host_core.specs.Host.{resting}

module _ {C R : Type 0} (mirrors : ℕ → List C → Type 0) (keeping : Keeping C) (host : Host C R) where
  -- paths are followed
  abbrev pub paths : Followed (List Bool) C
  paths = record { about = touches; home = keeping.home; since = λ path contents. keeping.front contents }

  -- the records of a path come back as they left
  abbrev pub ComesBack : List Bool → List Event → Type 0
  ComesBack path events = first_clash none_evicted (changes_in events) ≡ None

  -- and what is kept of it is what was last evicted
  abbrev pub IsLast : List Bool → ℕ → List Event → List C → Type 0
  IsLast path s events contents = IsKept (last_evicted_behind none_evicted (changes_in events)) path (keeping.kept s contents path)

  abbrev pub AreClear : Books C → Type 0
  AreClear books = AreFollowed paths ComesBack IsLast mirrors host books

  -- a clear deed goes on with each path
  clear_goes_on : (i index : ℕ) (clock : Reading) (commands : List Command) (s : ℕ) (old new : List C)
      → IsClearDeed mirrors keeping host i (resting host i clock) commands s old new
      → GoesOn paths ComesBack IsLast (events_at host i index clock commands) s old new
  clear_goes_on i index clock commands s old new deed = record {
    apart = λ path apart. deed.apart index path apart;
    goes_on = λ path before home clear kept.
        let last = last_evicted_behind none_evicted (changes_in before) in (
          clash-append none_evicted before (touching path (events_at host i index clock commands)) clear (deed.clear index path last home kept),
          subst (λ (l : LastEvicted). IsKept l path (keeping.kept s new path))
              (sym (last-append none_evicted before (touching path (events_at host i index clock commands))))
              (deed.keeps index path last home kept),
        );
    behind = λ path home. deed.behind index path;
    up_to = λ path home. deed.up_to index path;
    rises = λ path home. deed.rises;
  }

  all_go_on : IsClear mirrors keeping host → AllGoOn paths ComesBack IsLast mirrors host
  all_go_on clear = record {
    serve = λ i index clock s seat contents request done ready within owns serves.
        clear_goes_on i index clock done.commands s contents _ (clear.serve i clock s seat contents request done ready within owns serves);
    move = λ i index epoch clock s contents done ready turned moves.
        clear_goes_on i index clock done.commands s contents done.after (clear.move i epoch clock s contents done ready turned moves);
    advance = λ path sealed. refl;
  }

  -- Each event keeps each path clear.
  pub progress_clear : IsFit mirrors host → IsClear mirrors keeping host → (old : Books C) → IsRight mirrors host old
      → (new : Books C) → Progress host old new → AreClear old → AreClear new
  progress_clear fit clear old right new did was =
      progress_followed paths ComesBack IsLast mirrors host fit (all_go_on clear) old right new did was

  pub setup_clear : IsClear mirrors keeping host → AreClear (books_of (set_up host))
  setup_clear clear =
      setup_followed paths ComesBack IsLast mirrors host (record {
        told_so = λ path. go path (keeping.home path) refl;
        apart = λ path s home. apart path s home;
        kept = λ path s home. subst (IsKept none_evicted path) (sym (clear.setup_apart path s home).1) tt;
      })
    where
      setup : List Event
      setup = path_log_events (scheme host) host.header 0 host.setup.commands

      apart : (path : List Bool) (s : ℕ) → keeping.home path ≡ Some s → touching path setup ≡ []
      apart path s home = ap (touching path) (told host 0 host.setup.commands) ∙ (clear.setup_apart path s home).0

      go : (path : List Bool) (o : Option ℕ) → keeping.home path ≡ o → ComesBack path (touching path setup)
      go path None is =
          ap (λ (events : List Event). first_clash none_evicted (changes_in (touching path events))) (told host 0 host.setup.commands)
          ∙ clear.setup_clear path is
      go path (Some s) is = ap (λ (zs : List Event). first_clash none_evicted (changes_in zs)) (apart path s is)

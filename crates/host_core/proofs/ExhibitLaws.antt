-- There is nothing to exhibit of what a clear host logged, so its certified answers are serial.
use Rattle.std.proofs.Common.{◌≡◌, ℕ, zero, suc, ◌+◌, ◌<◌, List, [], ◌∷◌, map, length, get_or, Option, None, refl, sym, ◌∙◌, ap, subst, inl, inr, arith}
use Rattle.std.specs.List.{AllByRecursion}
use Rattle.record_text.specs.declared.exhibit.Exhibit.{Exhibit}
use Rattle.record_text.specs.declared.exhibit.Exhibit.TheVariants.{Clean}
use Rattle.record_text.specs.declared.operation.Operation.{Operation}
use Rattle.record_text.specs.Tree.{wide_of}
use Rattle.record_text.specs.Longest.{longest_of}
use Rattle.stamp_order.proofs.MergedLaws.{merged-filter, merged-sorts}
use Rattle.stamp_order.specs.Serial.{IsSerial}
use Rattle.soundness.specs.History.{Event}
use Rattle.soundness.specs.Certified.{event_moment, all_events, order_of, order_within, certified_count, sealed_by_all}
use Rattle.soundness.specs.Clash.{none_evicted, first_clash}
use Rattle.soundness.specs.Exhibit.{first_uneven, exhibit_by}
use Rattle.soundness.specs.Collision.{Collides}
use Rattle.soundness.specs.Sound.{IsSerialOrCollides}
use Rattle.soundness.specs.Typed.{ArePathsTyped, IsPathTypedIn}
use Rattle.soundness.specs.World.{changes_in}
use Rattle.soundness.proofs.CertifiedLaws.{counted_balanced}
use Rattle.soundness.proofs.SplitLaws.{split_up_to}
use Rattle.soundness.proofs.SoundLaws.{path_sound}
use Rattle.soundness.proofs.TypedLaws.{commands_typed}
use Rattle.host_core.specs.Host.{Host, scheme}
use Rattle.host_core.specs.World.{World, Worker, set_up}
use Rattle.host_core.specs.WorldEvent.{WorldEvent, AreEnabled, run_events}
use Rattle.host_core.specs.Deeds.{IsFit}
use Rattle.host_core.specs.Core.{histories}
use Rattle.host_core.specs.Clear.{Keeping, touches, IsClear, HasNothingToShow, IsServedSerially, HoldsWhereClear}
use Rattle.host_core.proofs.Books.{Account, account_of, books_of, histories_in, histories_are}
use Rattle.host_core.proofs.BehindLemmas.{behind}
use Rattle.host_core.proofs.EvenLemmas.{all_from}
use Rattle.host_core.proofs.PromiseLemmas.{IsSound, sound_behind, some_worker, none_uneven, all_certified}
use Rattle.host_core.proofs.ClashLemmas.{by_paths, clash-front}
use Rattle.host_core.proofs.ClearLemmas.{AreClear, progress_clear, setup_clear}

module _ {C R : Type 0} (mirrors : ℕ → List C → Type 0) (keeping : Keeping C) (host : Host C R) (world : World C)
    (sound_world : IsSound mirrors host world) (some : 0 < length world.workers) (clear : AreClear mirrors keeping host (books_of world)) where
  -- ---- nothing to exhibit

  abbrev accounts : List Account
  accounts = map account_of world.workers

  -- no record came back with another text, in all of the merged order
  order_clear : first_clash none_evicted (changes_in (order_of (histories_in host accounts))) ≡ None
  order_clear =
      by_paths none_evicted (λ path. none_evicted) (order_of (histories_in host accounts)) (λ path. refl)
      (λ path. ap (λ (zs : List Event). first_clash none_evicted (changes_in zs))
      (merged-filter event_moment (λ event. touches path event.change) (all_from host 0 accounts))
      ∙ (clear path).told_so)

  -- nor of any number of epochs
  within_clear : (hs : List (List Event)) (count : ℕ) → first_clash none_evicted (changes_in (order_of hs)) ≡ None
      → first_clash none_evicted (changes_in (order_within host.header.first count hs)) ≡ None
  within_clear hs zero none = refl
  within_clear hs (suc count) none =
      let split = split_up_to event_moment (host.header.first + count) (order_of hs) (merged-sorts event_moment (all_events hs)) in
      clash-front none_evicted (order_within host.header.first (suc count) hs) split.0
      (ap (λ (zs : List Event). first_clash none_evicted (changes_in zs)) (sym split.1) ∙ none)

  -- There is nothing to show.
  pub nothing_to_show : HasNothingToShow host world
  nothing_to_show =
      let hs = histories host world in
      let count = certified_count (scheme host) host.header.first hs in
      let even : first_uneven (order_of hs) host.header.first count ≡ None =
      ap (first_uneven (order_of hs) host.header.first) (all_certified mirrors host world sound_world some)
      ∙ none_uneven mirrors host world sound_world some in
      let none : first_clash none_evicted (changes_in (order_within host.header.first count hs)) ≡ None =
      within_clear hs count
      (ap (λ (hs : List (List Event)). first_clash none_evicted (changes_in (order_of hs))) (histories_are host world)
      ∙ order_clear) in
      ap (λ (o : Option ℕ). exhibit_by (order_of hs) o (first_clash none_evicted (changes_in (order_within host.header.first count hs)))) even
      ∙ ap (exhibit_by (order_of hs) None) none

  -- ---- serial

  -- the logs of right accounts are typed
  typed_logs : (workers : List Worker) (d : Account)
      → ((i : ℕ) → i < length (map account_of workers) → AllByRecursion (IsPathTypedIn (wide_of host.header) (longest_of host.header)) (get_or (map account_of workers) i d).log)
      → ArePathsTyped (longest_of host.header) (map (λ worker. worker.log) workers)
  typed_logs [] d all = tt
  typed_logs (worker ∷ workers) d all =
      (commands_typed (wide_of host.header) (longest_of host.header) worker.log (all 0 (omega arith)), typed_logs workers d (λ i within. all (suc i) (omega (arith, within))))

  -- The certified answers are serial.
  pub served_serially : IsServedSerially host world
  served_serially digests =
      go _ _ nothing_to_show
      (path_sound host.functions host.header (map (λ worker. worker.log) world.workers) count digests
      (typed_logs world.workers _ (λ i within. (sound_world.right.each i within).typed))
      (counted_balanced (scheme host) (order_of hs) host.header.first (sealed_by_all hs)))
    where
      hs : List (List Event)
      hs = histories host world

      count : ℕ
      count = certified_count (scheme host) host.header.first hs

      go : (exhibit : Exhibit) (operations : List Operation) → exhibit ≡ Clean → IsSerialOrCollides (scheme host) exhibit operations → IsSerial operations
      go exhibit operations clean (inl serial) = serial.1
      go exhibit operations clean (inr collides) = absurd (subst (Collides (scheme host)) clean collides)

module _ {C R : Type 0} (mirrors : ℕ → List C → Type 0) (keeping : Keeping C) (host : Host C R) where
  -- each path is clear behind every list of events
  always_clear : IsFit mirrors host → IsClear mirrors keeping host → (events : List (WorldEvent R)) → AreEnabled host (set_up host) events
      → AreClear mirrors keeping host (books_of (run_events host (set_up host) events))
  always_clear fit clear events enabled =
      (behind mirrors host fit (AreClear mirrors keeping host) (setup_clear mirrors keeping host clear)
      (λ old new right did was. progress_clear mirrors keeping host fit clear old right new did was) events enabled).1

  pub always_nothing_to_show : HoldsWhereClear mirrors keeping host (HasNothingToShow host)
  always_nothing_to_show fit clear events enabled =
      let sound_world = sound_behind mirrors host fit events enabled in
      nothing_to_show mirrors keeping host (run_events host (set_up host) events) sound_world
      (some_worker mirrors host fit (run_events host (set_up host) events) sound_world) (always_clear fit clear events enabled)

  pub always_served_serially : HoldsWhereClear mirrors keeping host (IsServedSerially host)
  always_served_serially fit clear events enabled =
      let sound_world = sound_behind mirrors host fit events enabled in
      served_serially mirrors keeping host (run_events host (set_up host) events) sound_world
      (some_worker mirrors host fit (run_events host (set_up host) events) sound_world) (always_clear fit clear events enabled)

-- The laws of the world, for whatever says that a shard mirrors: a type of its contents, or a test.
use Rattle.std.proofs.Common.{◌≡◌, ℕ, suc, ◌<◌, Bool, true, false, List, [], ◌∷◌, map, length, get_or, arith}
use Rattle.std.specs.List.{AllByRecursion}
use Rattle.record_text.specs.Tree.{wide_of}
use Rattle.record_text.specs.Longest.{longest_of}
use Rattle.soundness.specs.Typed.{IsPathTypedIn, ArePathsTypedIn}
use Rattle.host_core.specs.Host.{Host}
use Rattle.host_core.specs.World.{Worker, logs_of, set_up}
use Rattle.host_core.specs.WorldEvent.{run_events}
use Rattle.host_core.specs.Core.{HoldsBehind, AreAccepted, AreAnswered, AreAnsweredInTime, IsDone, IsRoundDone, IsEven, IsInPhase, IsDueInPhase, IsInRound, IsLevelBehindRound, IsBehindClose, AreSealed, SealedArePermuted, AllCertified, IsWhole}
use Rattle.host_core.proofs.Books.{Account, account_of}
use Rattle.host_core.proofs.BehindLemmas.{behind}
use Rattle.host_core.proofs.ScriptLemmas.{AllServed, progress_served, setup_served, is_done, is_round_done}
use Rattle.host_core.proofs.PromiseLemmas.{sound_behind, some_worker, are_accepted, are_answered_in_time, are_answered, are_sealed, is_even, is_in_phase, is_due_in_phase, is_in_round, is_level_behind_round, is_behind_close, sealed_permuted, all_certified, is_whole}

-- the logs of typed accounts are typed
typed_logs : (wide : Bool) (longest : ℕ) (workers : List Worker) (d : Account)
    → ((i : ℕ) → i < length (map account_of workers) → AllByRecursion (IsPathTypedIn wide longest) (get_or (map account_of workers) i d).log)
    → ArePathsTypedIn wide longest (map (λ worker. worker.log) workers)
typed_logs wide longest [] d all = tt
typed_logs wide longest (worker ∷ workers) d all =
    (all 0 (omega arith), typed_logs wide longest workers d (λ i within. all (suc i) (omega (arith, within))))

module _ {C R : Type 0} (mirrors : ℕ → List C → Type 0) (host : Host C R) where
  -- each command of a log is typed, and of the header's tree
  pub always_typed : HoldsBehind mirrors host (λ world. ArePathsTypedIn (wide_of host.header) (longest_of host.header) (logs_of world))
  always_typed fit events enabled =
      typed_logs (wide_of host.header) (longest_of host.header) (run_events host (set_up host) events).workers _
      (λ i within. ((sound_behind mirrors host fit events enabled).right.each i within).typed)

  pub always_accepted : HoldsBehind mirrors host (AreAccepted host)
  always_accepted fit events enabled = are_accepted mirrors host _ (sound_behind mirrors host fit events enabled)

  pub always_answered : host.rolling ≡ false → HoldsBehind mirrors host (AreAnswered host)
  always_answered plain fit events enabled = are_answered mirrors host _ (sound_behind mirrors host fit events enabled) plain

  pub always_answered_in_time : HoldsBehind mirrors host (AreAnsweredInTime host)
  always_answered_in_time fit events enabled = are_answered_in_time mirrors host _ (sound_behind mirrors host fit events enabled)

  pub always_done : host.rolling ≡ false → HoldsBehind mirrors host (IsDone host)
  always_done plain fit events enabled =
      is_done host (run_events host (set_up host) events) plain (sound_behind mirrors host fit events enabled).right.left
      (always_answered plain fit events enabled)

  pub always_round_done : host.rolling ≡ true → HoldsBehind mirrors host (IsRoundDone host)
  always_round_done rolling fit events enabled =
      is_round_done host (run_events host (set_up host) events) rolling
      (behind mirrors host fit (AllServed host) (setup_served host) (λ old new right did served. progress_served host old new did served) events enabled).1
      (always_answered_in_time fit events enabled)

  pub always_even : HoldsBehind mirrors host (IsEven host)
  always_even fit events enabled = is_even mirrors host _ (sound_behind mirrors host fit events enabled)

  pub always_in_phase : host.rolling ≡ false → HoldsBehind mirrors host (IsInPhase host)
  always_in_phase plain fit events enabled =
      let sound = sound_behind mirrors host fit events enabled in
      is_in_phase mirrors host _ sound (some_worker mirrors host fit _ sound) plain

  pub always_due_in_phase : host.rolling ≡ false → HoldsBehind mirrors host (IsDueInPhase host)
  always_due_in_phase plain fit events enabled =
      let sound = sound_behind mirrors host fit events enabled in
      is_due_in_phase mirrors host _ sound (some_worker mirrors host fit _ sound) plain

  pub always_in_round : host.rolling ≡ true → HoldsBehind mirrors host (IsInRound host)
  always_in_round rolling fit events enabled =
      let sound = sound_behind mirrors host fit events enabled in
      is_in_round mirrors host _ sound (some_worker mirrors host fit _ sound) rolling

  pub always_level_behind_round : HoldsBehind mirrors host (IsLevelBehindRound host)
  always_level_behind_round fit events enabled =
      let sound = sound_behind mirrors host fit events enabled in
      is_level_behind_round mirrors host _ sound (some_worker mirrors host fit _ sound)

  pub always_behind_close : HoldsBehind mirrors host (IsBehindClose host)
  always_behind_close fit events enabled = is_behind_close mirrors host _ (sound_behind mirrors host fit events enabled)

  pub always_sealed : HoldsBehind mirrors host (AreSealed host)
  always_sealed fit events enabled = are_sealed mirrors host _ (sound_behind mirrors host fit events enabled)

  pub always_permuted : HoldsBehind mirrors host (SealedArePermuted host)
  always_permuted fit events enabled =
      let sound = sound_behind mirrors host fit events enabled in
      sealed_permuted mirrors host _ sound (some_worker mirrors host fit _ sound)

  pub always_certified : HoldsBehind mirrors host (AllCertified host)
  always_certified fit events enabled =
      let sound = sound_behind mirrors host fit events enabled in
      all_certified mirrors host _ sound (some_worker mirrors host fit _ sound)

  pub always_whole : HoldsBehind mirrors host (IsWhole host)
  always_whole fit events enabled =
      let sound = sound_behind mirrors host fit events enabled in
      is_whole mirrors host _ sound (some_worker mirrors host fit _ sound)

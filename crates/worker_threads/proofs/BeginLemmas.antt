-- A world in which a round begins is level: all clocks and all that waits are of the epoch of the round's first phase.
use Rattle.std.proofs.Common.{◌≡◌, ℕ, ◌+◌, ◌<◌, ◌%◌, Bool, true, false, List, [], ◌∷◌, length, if◌then◌else◌, refl, sym, ◌∙◌, ap, mod-lt, arith}
use Rattle.std.specs.List.{AllByRecursion}
use Rattle.log_codec.specs.declared.command.Command.{Command}
use Rattle.record_text.specs.declared.element.Element.{Element}
use Rattle.host_core.specs.Core.{IsInPhase, IsInRound}
use Rattle.host_core.specs.Deeds.{IsStamped, pending_of}
use Rattle.host_core.specs.Host.{Host}
use Rattle.host_core.specs.World.{Worker, World, fresh, worker_at, shard_at, scanned_at}
use Rattle.host_core.specs.WorldEvent.{AreFrom, AreUpTo}
use Rattle.round_order.specs.Told.{IsLevel}
use Rattle.stamp_order.proofs.InOrderLaws.{every-weaker}
use Rattle.host_world.specs.Behind.{with_logs}
use Rattle.host_world.proofs.FrontLaws.{same_unlogged, length-before_each}
use Rattle.host_serving.specs.Standing.{BeginsRound}
use Rattle.worker_threads.specs.Round.{begun_at}

-- what is from an epoch and up to the same is of it
between : (low high epoch : ℕ) → low ≡ epoch → high ≡ epoch → (elements : List Element) → AreFrom low elements → AreUpTo high elements
    → AllByRecursion (λ element. element.stamp.epoch ≡ epoch) elements
between low high epoch one two [] from to = tt
between low high epoch one two (element ∷ elements) from to = (
  let least = from.0 in let most = to.0 in omega (arith, least, most, one, two),
  between low high epoch one two elements from.1 to.1,
)

module _ {C R : Type 0} (host : Host C R) (logs : List (List Command)) (world : World C) (begins : BeginsRound host world) (some : 0 < length world.workers)
    (in_phase : host.rolling ≡ false → IsInPhase host (with_logs logs world)) (in_round : host.rolling ≡ true → IsInRound host (with_logs logs world)) where
  abbrev before : World C
  before = with_logs logs world

  count : length before.workers ≡ length world.workers
  count = length-before_each logs world.workers

  first_is : (b : Bool) → host.rolling ≡ b → begun_at host world ≡ host.header.first + (if b then 0 else world.phase)
  first_is b is = ap (λ (c : Bool). host.header.first + (if c then 0 else world.phase)) is

  clock_is : (i : ℕ) → i < length before.workers → (b : Bool) → host.rolling ≡ b → (worker_at host before i).clock.at.epoch ≡ begun_at host world
  clock_is i there false plain = (in_phase plain begins.served.phase).0 i there ∙ sym (first_is false plain)
  clock_is i there true rolling =
      let bounds = (in_round rolling begins.served.phase).0.scanned i there in
      let mark = begins.marks rolling i (omega (arith, there, count)) in
      let newest = begins.newest rolling in
      omega (arith, bounds.1, bounds.2, mark, newest, first_is true rolling)

  waits_are : (s : ℕ) → s < length before.shards → (b : Bool) → host.rolling ≡ b
      → AllByRecursion (λ (element : Element). element.stamp.epoch ≡ begun_at host world) (pending_of host (shard_at before s).contents)
  waits_are s there false plain =
      every-weaker (IsStamped host (host.header.first + world.phase)) (λ (element : Element). element.stamp.epoch ≡ begun_at host world)
      (λ element stamped. stamped.1 ∙ sym (first_is false plain)) (pending_of host (shard_at before s).contents) ((in_phase plain begins.served.phase).1 s there)
  waits_are s there true rolling =
      let waits = (in_round rolling begins.served.phase).0.waits s there in
      let own : s % length before.workers < length before.workers = mod-lt s (omega (arith, some, count)) in
      let mark = begins.marks rolling (s % length before.workers) (omega (arith, own, count)) in
      let newest = begins.newest rolling in
      between (scanned_at host before (s % length before.workers)) before.newest (begun_at host world)
      (omega (arith, mark, first_is true rolling)) (omega (arith, newest, first_is true rolling)) (pending_of host (shard_at before s).contents) waits.0 waits.1

  pub level : IsLevel host before (begun_at host world)
  level = record {
    going = begins.served.going;
    phase = begins.served.phase;
    idle = λ i there.
        ap (λ (w : Worker). w.holds) (same_unlogged logs world.workers i (fresh host.header))
        ∙ (begins.served.each i (omega (arith, there, count))).idle;
    clocks = λ i there. clock_is i there host.rolling refl;
    waits = λ s there. waits_are s there host.rolling refl;
  }

-- The clock of a verifier: Lamport's rules for sending and receiving (1978), and the step to the next epoch.
use Rattle.std.specs.Prelude.{ℕ, ◌+◌, ◌-◌, max, Bool, not, ◌==◌, ◌&&◌, ◌||◌, nat_lt, nat_le, if◌then◌else◌, Option, Some, None, Result, Ok}
use Rattle.lamport_clocks.specs.declared.stamp.Stamp.{Stamp}
use Rattle.lamport_clocks.specs.declared.clock.ClockFault.{ClockFault}
use Rattle.lamport_clocks.specs.declared.clock.ClockFault.TheVariants.{BadEpoch, StampNotLater, ClockEnd}
use Rattle.base_words.specs.Steps.{test}
use Rattle.lamport_clocks.specs.Reading.{Reading}

-- at the start of the first epoch
abbrev pub opening_reading : ℕ → ℕ → Reading
opening_reading first end = record { first = first; end = end; at = record { epoch = first; counter = 0 } }

-- at a stamp
abbrev pub reading_at : ℕ → ℕ → Stamp → Reading
reading_at first end at = record { first = first; end = end; at = at }

-- the epochs of which stamps are taken in: the clock's and, past the first, the one before
abbrev pub is_open : Reading → ℕ → Bool
is_open clock epoch = epoch == clock.at.epoch || (nat_lt clock.first clock.at.epoch && epoch + 1 == clock.at.epoch)

-- the clock's counter or, if that is greater, the counter of a stamp of the clock's epoch
abbrev pub greater_counter : Stamp → Stamp → ℕ
greater_counter at t = max at.counter (if t.epoch == at.epoch then t.counter else 0)

-- Taking in what is stamped t, as on receipt of a message: the clock goes above itself and above t.
abbrev pub received : Reading → Stamp → Result Reading ClockFault
received clock t =
    let counter = 1 + greater_counter clock.at t in
    test (not (is_open clock t.epoch)) BadEpoch
    (test (nat_lt clock.end counter) ClockEnd
    (Ok (record clock { at = record { epoch = clock.at.epoch; counter = counter } })))

-- Handing away what is stamped t, as on sending a message: the clock goes to t, which is above it.
abbrev pub sent : Reading → Stamp → Result Reading ClockFault
sent clock t =
    test (not (t.epoch == clock.at.epoch)) BadEpoch
    (test (nat_le t.counter clock.at.counter) StampNotLater
    (test (nat_lt clock.end t.counter) ClockEnd
    (Ok (record clock { at = t }))))

-- the epoch that is sealed when the clock leaves its epoch: the one before, of which no stamp is open from then on
abbrev pub sealed_by_advancing : Reading → Option ℕ
sealed_by_advancing clock = if nat_lt clock.first clock.at.epoch then Some (clock.at.epoch - 1) else None

-- the last epoch that a clock can stand in: 2^32 - 1
abbrev pub last_epoch : ℕ
last_epoch = 4294967295

-- Turning to the next epoch: the counter begins at 0 again.
abbrev pub advanced : Reading → Result (Option ℕ × Reading) ClockFault
advanced clock =
    test (clock.at.epoch == last_epoch) ClockEnd
    (Ok (sealed_by_advancing clock, record clock { at = record { epoch = clock.at.epoch + 1; counter = 0 } }))

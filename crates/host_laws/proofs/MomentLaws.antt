-- The clock takes in and hands out what doesn't pass its end.
use Rattle.std.proofs.Common.{◌≡◌, ◌+◌, ◌≤◌, Bool, true, not, nat_le, nat_lt, eq-eqb, ◌<◌, Ok, Err, refl, ap, arith}
use Rattle.std.specs.Prelude.{◌==◌}
use Rattle.std.proofs.lemmas.Bool.Decides.{nat_tests}
use Rattle.base_words.specs.Steps.{test}
use Rattle.lamport_clocks.specs.declared.stamp.Stamp.{Stamp}
use Rattle.lamport_clocks.specs.declared.clock.ClockFault.TheVariants as faults
use Rattle.lamport_clocks.specs.Reading.{Reading}
use Rattle.lamport_clocks.specs.Clock.{is_open, received, sent}
use Rattle.host_plan.specs.Moments.{taking, giving}
use Rattle.host_laws.proofs.StepLemmas.{test-passed}

-- a stamp of an open epoch is taken in, where the counter doesn't pass the end
pub received-taken : (clock : Reading) (stamp : Stamp) → is_open clock stamp.epoch ≡ true → (taking clock stamp).at.counter ≤ clock.end
    → received clock stamp ≡ Ok (taking clock stamp)
received-taken clock stamp is_taken within =
    test-passed (not (is_open clock stamp.epoch)) faults.BadEpoch _ _ (ap (λ (b : Bool). not b) is_taken)
    (test-passed (nat_lt clock.end (taking clock stamp).at.counter) faults.ClockEnd _ _ (grind (arith, nat_tests)) refl)

-- the next counter is handed out, where it doesn't pass the end
pub sent-given : (clock : Reading) → (giving clock).at.counter ≤ clock.end → sent clock (giving clock).at ≡ Ok (giving clock)
sent-given clock within =
    test-passed (not (clock.at.epoch == clock.at.epoch)) faults.BadEpoch _ _ (ap (λ (b : Bool). not b) (eq-eqb clock.at.epoch clock.at.epoch refl))
    (test-passed (nat_le (1 + clock.at.counter) clock.at.counter) faults.StampNotLater _ _ (grind (arith, nat_tests))
    (test-passed (nat_lt clock.end (1 + clock.at.counter)) faults.ClockEnd _ _ (grind (arith, nat_tests)) refl))

-- what passes the end is refused
pub received-ended : (clock : Reading) (stamp : Stamp) → is_open clock stamp.epoch ≡ true → clock.end < (taking clock stamp).at.counter
    → received clock stamp ≡ Err faults.ClockEnd
received-ended clock stamp is_taken past =
    let over : nat_lt clock.end (taking clock stamp).at.counter ≡ true = grind (arith, nat_tests) in
    test-passed (not (is_open clock stamp.epoch)) faults.BadEpoch _ _ (ap (λ (b : Bool). not b) is_taken)
    (ap (λ (b : Bool). test b faults.ClockEnd (Ok (taking clock stamp))) over)

pub sent-ended : (clock : Reading) → clock.end < (giving clock).at.counter → sent clock (giving clock).at ≡ Err faults.ClockEnd
sent-ended clock past =
    let over : nat_lt clock.end (1 + clock.at.counter) ≡ true = grind (arith, nat_tests) in
    test-passed (not (clock.at.epoch == clock.at.epoch)) faults.BadEpoch _ _ (ap (λ (b : Bool). not b) (eq-eqb clock.at.epoch clock.at.epoch refl))
    (test-passed (nat_le (1 + clock.at.counter) clock.at.counter) faults.StampNotLater _ _ (grind (arith, nat_tests))
    (ap (λ (b : Bool). test b faults.ClockEnd (Ok (giving clock))) over))

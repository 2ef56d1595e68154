-- A worker that goes on from epoch to epoch: its clock, and what it logs.
use Rattle.std.proofs.Common.{◌≡◌, ◌⊎◌, ℕ, zero, suc, ◌+◌, ◌-◌, ◌<◌, ◌≤◌, List, [], ◌∷◌, ◌++◌, replicate, nat_lt, if◌then◌else◌, sym, ◌∙◌, ap, inl, inr, append_assoc, append-nil, arith}
use Rattle.std.proofs.lemmas.Bool.{cases_lt, cond-true, cond-false, lt-ltb, le-ltb}
use Rattle.lamport_clocks.specs.Reading.{Reading}
use Rattle.log_codec.specs.declared.command.Command.{Command}
use Rattle.log_codec.specs.declared.command.Command.TheVariants.{NextEpoch}
use Rattle.host_core.specs.World.{Worker}
use Rattle.host_core.specs.WorldEvent.{logging, next_clock}
use Rattle.round_order.specs.Turn.{on_to}

-- the epoch that a worker comes to on the way to this one, if its last is `final`
abbrev pub aim : ℕ → ℕ → ℕ
aim epoch final = if nat_lt final epoch then final else epoch

pub aim-within : (epoch final : ℕ) → epoch ≤ final → aim epoch final ≡ epoch
aim-within epoch final within = cond-false (nat_lt final epoch) final epoch (le-ltb final epoch within)

pub aim-past : (epoch final : ℕ) → final ≤ epoch → aim epoch final ≡ final
aim-past epoch final past = go (cases_lt final epoch)
  where
    go : (final < epoch) ⊎ (epoch ≤ final) → aim epoch final ≡ final
    go (inl less) = cond-true (nat_lt final epoch) final epoch (lt-ltb final epoch less)
    go (inr least) = aim-within epoch final least ∙ omega (arith, past, least)

-- ---- clocks

-- the clock at the beginning of an epoch
abbrev pub at_start : ℕ → Reading → Reading
at_start epoch clock = record clock { at = record { epoch = epoch; counter = 0 } }

pub on_to-later : (epoch : ℕ) (clock : Reading) → clock.at.epoch < epoch → on_to epoch clock ≡ at_start epoch clock
on_to-later epoch clock less = cond-true (nat_lt clock.at.epoch epoch) (at_start epoch clock) clock (lt-ltb clock.at.epoch epoch less)

pub on_to-there : (epoch : ℕ) (clock : Reading) → epoch ≤ clock.at.epoch → on_to epoch clock ≡ clock
on_to-there epoch clock there = cond-false (nat_lt clock.at.epoch epoch) (at_start epoch clock) clock (le-ltb clock.at.epoch epoch there)

-- it is of the epoch
pub on_to-epoch : (epoch : ℕ) (clock : Reading) → clock.at.epoch ≤ epoch → (on_to epoch clock).at.epoch ≡ epoch
on_to-epoch epoch clock within = go (cases_lt clock.at.epoch epoch)
  where
    go : (clock.at.epoch < epoch) ⊎ (epoch ≤ clock.at.epoch) → (on_to epoch clock).at.epoch ≡ epoch
    go (inl less) = ap (λ (c : Reading). c.at.epoch) (on_to-later epoch clock less)
    go (inr there) = ap (λ (c : Reading). c.at.epoch) (on_to-there epoch clock there) ∙ omega (arith, within, there)

-- to a later epoch by way of an earlier one
pub on_to-then : (middle epoch : ℕ) (clock : Reading) → middle ≤ epoch → on_to epoch (on_to middle clock) ≡ on_to epoch clock
on_to-then middle epoch clock within = go (cases_lt clock.at.epoch middle) (cases_lt middle epoch)
  where
    go : (clock.at.epoch < middle) ⊎ (middle ≤ clock.at.epoch) → (middle < epoch) ⊎ (epoch ≤ middle) → on_to epoch (on_to middle clock) ≡ on_to epoch clock
    go (inl first) (inl second) =
        let less : clock.at.epoch < epoch = omega (arith, first, second) in
        ap (on_to epoch) (on_to-later middle clock first)
        ∙ on_to-later epoch (at_start middle clock) second
        ∙ sym (on_to-later epoch clock less)
    go (inl first) (inr second) =
        let same : middle ≡ epoch = omega (arith, second, within) in
        let less : clock.at.epoch < epoch = omega (arith, first, same) in
        ap (on_to epoch) (on_to-later middle clock first)
        ∙ on_to-there epoch (at_start middle clock) second
        ∙ ap (λ (n : ℕ). at_start n clock) same
        ∙ sym (on_to-later epoch clock less)
    go (inr there) second = ap (on_to epoch) (on_to-there middle clock there)

-- ---- workers

-- the worker, once it has gone on to the epoch
abbrev pub gone_on : ℕ → Worker → Worker
gone_on epoch worker = record worker {
  log = worker.log ++ replicate (epoch - worker.clock.at.epoch) NextEpoch;
  clock = on_to epoch worker.clock;
}

same_entries : (a b : Worker) (log : List Command) (clock : Reading) → a.log ≡ log → a.clock ≡ clock
    → record b { log = a.log; clock = a.clock } ≡ record b { log = log; clock = clock }
same_entries a b log clock logs clocks = λ k. record b { log = logs k; clock = clocks k }

-- so many of one thing, and so many more
pub replicate-more : {X : Type 0} (a b : ℕ) (x : X) → replicate a x ++ replicate b x ≡ replicate (a + b) x
replicate-more zero b x = let same : b ≡ 0 + b = omega arith in ap (λ (n : ℕ). replicate n x) same
replicate-more {X} (suc a) b x =
    let same : suc (a + b) ≡ suc a + b = omega arith in
    ap (λ (xs : List X). x ∷ xs) (replicate-more a b x) ∙ ap (λ (n : ℕ). replicate n x) same

-- to where it is
pub gone_on-there : (epoch : ℕ) (worker : Worker) → epoch ≤ worker.clock.at.epoch → gone_on epoch worker ≡ worker
gone_on-there epoch worker there =
    let none' : epoch - worker.clock.at.epoch ≡ 0 = omega (arith, there) in
    λ k. record worker {
      log = (ap (λ (n : ℕ). worker.log ++ replicate n NextEpoch) none' ∙ append-nil worker.log) k;
      clock = on_to-there epoch worker.clock there k;
    }

-- by one epoch
pub gone_on-one : (epoch : ℕ) (worker : Worker) → worker.clock.at.epoch ≡ epoch → logging worker (NextEpoch ∷ []) (next_clock worker.clock) ≡ gone_on (suc epoch) worker
gone_on-one epoch worker is =
    let one : 1 ≡ suc epoch - worker.clock.at.epoch = omega (arith, is) in
    let next : worker.clock.at.epoch + 1 ≡ suc epoch = omega (arith, is) in
    λ k. record worker {
      log = worker.log ++ (ap (λ (n : ℕ). replicate n NextEpoch) one) k;
      clock = (ap (λ (n : ℕ). at_start n worker.clock) next ∙ sym (on_to-later (suc epoch) worker.clock (omega (arith, is)))) k;
    }

-- to a later epoch by way of an earlier one
pub gone_on-then : (middle epoch : ℕ) (worker : Worker) → worker.clock.at.epoch ≤ middle → middle ≤ epoch → gone_on epoch (gone_on middle worker) ≡ gone_on epoch worker
gone_on-then middle epoch worker first second =
    let own : ℕ = worker.clock.at.epoch in
    let come : (on_to middle worker.clock).at.epoch ≡ middle = on_to-epoch middle worker.clock first in
    let sum : (middle - own) + (epoch - middle) ≡ epoch - own = omega (arith, first, second) in
    λ k. record worker {
      log = (append_assoc worker.log (replicate (middle - own) NextEpoch) (replicate (epoch - (on_to middle worker.clock).at.epoch) NextEpoch)
          ∙ ap (λ (n : ℕ). worker.log ++ (replicate (middle - own) NextEpoch ++ replicate (epoch - n) NextEpoch)) come
          ∙ ap (λ (xs : List Command). worker.log ++ xs) (replicate-more (middle - own) (epoch - middle) NextEpoch)
          ∙ ap (λ (n : ℕ). worker.log ++ replicate n NextEpoch) sum) k;
      clock = on_to-then middle epoch worker.clock second k;
    }

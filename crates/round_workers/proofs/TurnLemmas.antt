-- What a worker logs and where its clock stands, with one epoch or one turn more.
use Rattle.std.proofs.Common.{◌≡◌, ◌⊎◌, ℕ, ◌+◌, ◌-◌, ◌<◌, ◌≤◌, List, [], ◌∷◌, ◌++◌, replicate, refl, sym, ◌∙◌, ap, inl, inr, append_assoc, append-nil, arith}
use Rattle.std.proofs.lemmas.Bool.{cases_lt}
use Rattle.std.proofs.lemmas.List.{replicate_more}
use Rattle.lamport_clocks.specs.Reading.{Reading}
use Rattle.log_codec.specs.declared.command.Command.{Command}
use Rattle.log_codec.specs.declared.command.Command.TheVariants.{NextEpoch}
use Rattle.host_core.specs.WorldEvent.{next_clock}
use Rattle.round_order.specs.Turn.{Turn, on_to, clock_behind, logged, served_behind, served_more}
use Rattle.round_order.proofs.GoingLaws.{at_start, on_to-later, on_to-there, on_to-then}

-- ---- the log

module _ {C R : Type 0} where
  pub logged-epoch : (final : ℕ) (clock : Reading) (turns : List (Turn C R)) → (clock_behind clock turns).at.epoch ≤ final
      → logged (final + 1) clock turns ≡ logged final clock turns ++ NextEpoch ∷ []
  logged-epoch final clock [] below =
      let one : (final + 1) - clock.at.epoch ≡ (final - clock.at.epoch) + 1 = omega (arith, below) in
      ap (λ (n : ℕ). replicate n NextEpoch) one ∙ sym (replicate_more (final - clock.at.epoch) NextEpoch)
  logged-epoch final clock (turn ∷ turns) below =
      let turned : List Command = replicate (turn.clock.at.epoch - clock.at.epoch) NextEpoch in
      ap (λ (commands : List Command). turned ++ (turn.done.commands ++ commands)) (logged-epoch final turn.done.clock turns below)
      ∙ ap (λ (commands : List Command). turned ++ commands) (sym (append_assoc turn.done.commands (logged final turn.done.clock turns) (NextEpoch ∷ [])))
      ∙ sym (append_assoc turned (turn.done.commands ++ logged final turn.done.clock turns) (NextEpoch ∷ []))

  pub logged-turn : (final : ℕ) (clock : Reading) (turns : List (Turn C R)) (turn : Turn C R) → turn.clock.at.epoch ≡ final → turn.done.clock.at.epoch ≡ final
      → logged final clock (turns ++ turn ∷ []) ≡ logged final clock turns ++ turn.done.commands
  logged-turn final clock [] turn from to =
      let none' : final - turn.done.clock.at.epoch ≡ 0 = omega (arith, to) in
      ap (λ (n : ℕ). replicate (turn.clock.at.epoch - clock.at.epoch) NextEpoch ++ (turn.done.commands ++ replicate n NextEpoch)) none'
      ∙ ap (λ (commands : List Command). replicate (turn.clock.at.epoch - clock.at.epoch) NextEpoch ++ commands) (append-nil turn.done.commands)
      ∙ ap (λ (n : ℕ). replicate (n - clock.at.epoch) NextEpoch ++ turn.done.commands) from
  logged-turn final clock (first ∷ turns) turn from to =
      let turned : List Command = replicate (first.clock.at.epoch - clock.at.epoch) NextEpoch in
      ap (λ (commands : List Command). turned ++ (first.done.commands ++ commands)) (logged-turn final first.done.clock turns turn from to)
      ∙ ap (λ (commands : List Command). turned ++ commands) (sym (append_assoc first.done.commands (logged final first.done.clock turns) turn.done.commands))
      ∙ sym (append_assoc turned (first.done.commands ++ logged final first.done.clock turns) turn.done.commands)

  -- ---- behind a turn more

  pub clock-turn : (clock : Reading) (turns : List (Turn C R)) (turn : Turn C R) → clock_behind clock (turns ++ turn ∷ []) ≡ turn.done.clock
  clock-turn clock [] turn = refl
  clock-turn clock (first ∷ turns) turn = clock-turn first.done.clock turns turn

  pub served-turn : (served : ℕ) (turns : List (Turn C R)) (turn : Turn C R) → served_behind served (turns ++ turn ∷ []) ≡ served_more (served_behind served turns) turn.request
  served-turn served [] turn = refl
  served-turn served (first ∷ turns) turn = served-turn (served_more served first.request) turns turn

-- ---- the clock in the next epoch

-- a clock that came to an epoch was not behind it
pub on_to-below : (epoch : ℕ) (clock : Reading) → (on_to epoch clock).at.epoch ≡ epoch → clock.at.epoch ≤ epoch
on_to-below epoch clock come = go (cases_lt clock.at.epoch epoch)
  where
    go : (clock.at.epoch < epoch) ⊎ (epoch ≤ clock.at.epoch) → clock.at.epoch ≤ epoch
    go (inl less) = omega (arith, less)
    go (inr there) = let same : clock.at.epoch ≡ epoch = sym (ap (λ (c : Reading). c.at.epoch) (on_to-there epoch clock there)) ∙ come in omega (arith, same)

pub on_to-next : (epoch : ℕ) (clock now : Reading) → now ≡ on_to epoch clock → now.at.epoch ≡ epoch → next_clock now ≡ on_to (epoch + 1) clock
on_to-next epoch clock now is here =
    ap (λ (n : ℕ). at_start n now) (omega (arith, here)) ∙ sym (on_to-later (epoch + 1) now (omega (arith, here)))
    ∙ ap (on_to (epoch + 1)) is ∙ on_to-then epoch (epoch + 1) clock (omega arith)

-- a clock that begins a later epoch, or goes on in its own
pub on_to-own : (epoch : ℕ) (clock now : Reading) → now ≡ on_to epoch clock → now.at.epoch ≡ epoch → now ≡ on_to now.at.epoch clock
on_to-own epoch clock now is here = is ∙ ap (λ (n : ℕ). on_to n clock) (sym here)

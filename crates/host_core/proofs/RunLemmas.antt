-- Commands behind commands: what they leave, why they are refused, and their events.
use Rattle.std.proofs.Common.{◌≡◌, ℕ, suc, ◌+◌, List, [], ◌∷◌, ◌++◌, length, None, Result, Ok, Err, refl, sym, ◌∙◌, ap, arith}
use Rattle.std.proofs.lemmas.Option.{none-some}
use Rattle.record_text.specs.declared.refusal.Refusal.{Refusal}
use Rattle.verifier_commands.specs.Change.{Change}
use Rattle.soundness.specs.History.{Event}
use Rattle.soundness.specs.StateHistory.{Machinery, events_behind, events_from, refusal_behind, refusal_from}
use Rattle.host_core.specs.Accepted.{state_behind, state_from, IsAccepted}

module _ {S C : Type 0} (machinery : Machinery S C) where
  -- Behind commands that are accepted, the next commands begin in the state that they leave.
  pub accepted-append : (state : S) (xs ys : List C) → IsAccepted machinery state xs
      → IsAccepted machinery (state_from machinery state xs) ys → IsAccepted machinery state (xs ++ ys)
  unfolding state_from refusal_from
  accepted-append state [] ys first next = next
  accepted-append state (x ∷ xs) ys first next =
      go (machinery.step state x) (λ after. accepted-append after xs ys) first next
    where
      go : (step : Result (Change × S) Refusal)
          → ((after : S) → IsAccepted machinery after xs → IsAccepted machinery (state_from machinery after xs) ys → IsAccepted machinery after (xs ++ ys))
          → refusal_behind step (λ after. refusal_from machinery after xs) ≡ None
          → IsAccepted machinery (state_behind state step (λ after. state_from machinery after xs)) ys
          → refusal_behind step (λ after. refusal_from machinery after (xs ++ ys)) ≡ None
      go (Ok done) further first next = further done.1 first next
      go (Err refusal) further first next = absurd (none-some refusal (sym first))

  pub state-append : (state : S) (xs ys : List C) → IsAccepted machinery state xs
      → state_from machinery state (xs ++ ys) ≡ state_from machinery (state_from machinery state xs) ys
  unfolding state_from refusal_from
  state-append state [] ys first = refl
  state-append state (x ∷ xs) ys first = go (machinery.step state x) (λ after. state-append after xs ys) first
    where
      go : (step : Result (Change × S) Refusal)
          → ((after : S) → IsAccepted machinery after xs → state_from machinery after (xs ++ ys) ≡ state_from machinery (state_from machinery after xs) ys)
          → refusal_behind step (λ after. refusal_from machinery after xs) ≡ None
          → state_behind state step (λ after. state_from machinery after (xs ++ ys))
          ≡ state_from machinery (state_behind state step (λ after. state_from machinery after xs)) ys
      go (Ok done) further first = further done.1 first
      go (Err refusal) further first = absurd (none-some refusal (sym first))

  pub events-append : (verifier index : ℕ) (state : S) (xs ys : List C) → IsAccepted machinery state xs
      → events_from machinery verifier index state (xs ++ ys)
      ≡ events_from machinery verifier index state xs ++ events_from machinery verifier (index + length xs) (state_from machinery state xs) ys
  unfolding state_from refusal_from events_from
  events-append verifier index state [] ys first =
      ap (λ (n : ℕ). events_from machinery verifier n state ys) (omega arith)
  events-append verifier index state (x ∷ xs) ys first =
      go (machinery.step state x) (λ after. events-append verifier (suc index) after xs ys) first
    where
      go : (step : Result (Change × S) Refusal)
          → ((after : S) → IsAccepted machinery after xs
          → events_from machinery verifier (suc index) after (xs ++ ys)
          ≡ events_from machinery verifier (suc index) after xs ++ events_from machinery verifier (suc index + length xs) (state_from machinery after xs) ys)
          → refusal_behind step (λ after. refusal_from machinery after xs) ≡ None
          → events_behind machinery verifier index step (λ after. events_from machinery verifier (suc index) after (xs ++ ys))
          ≡ events_behind machinery verifier index step (λ after. events_from machinery verifier (suc index) after xs)
          ++ events_from machinery verifier (index + suc (length xs)) (state_behind state step (λ after. state_from machinery after xs)) ys
      go (Ok done) further first =
          ap (λ (rest : List Event). record { verifier = verifier; index = index; at = machinery.clock done.1; change = done.0 } ∷ rest)
          (further done.1 first
          ∙ ap (λ (n : ℕ). events_from machinery verifier (suc index) done.1 xs ++ events_from machinery verifier n (state_from machinery done.1 xs) ys)
          (omega arith))
      go (Err refusal) further first = absurd (none-some refusal (sym first))

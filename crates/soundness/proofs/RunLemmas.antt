-- A list of events of several verifiers as one run of all caches.
use Rattle.std.proofs.Common.{◌≡◌, ◌≢◌, ◌⊎◌, ℕ, Bool, eqb, if◌then◌else◌, List, [], ◌∷◌, ◌++◌, refl, sym, ap, subst, inl, inr}
use Rattle.std.proofs.lemmas.Bool.{cond-true, cond-false, eq-eqb, ne_eqb, cases_eq}
use Rattle.merkle_records.specs.Merkle.{Digest}
use Rattle.stamp_order.specs.Merged.{of_verifier}
use Rattle.soundness.specs.History.{Event}
use Rattle.soundness.specs.Certified.{event_moment}
use Rattle.soundness.specs.Showing.{Shown, HasDone, shown_after, IsFresh}
use Rattle.soundness.specs.IsHistory.{IsChain}
use Rattle.soundness.specs.World.{AllShown, with_shown}

-- Each event does what it tells to what its verifier's cache shows, from these caches on, as long as adds are of paths that
-- aren't shown.
abbrev pub IsRun : ℕ → Digest → AllShown → List Event → Type 0
IsRun longest digest shown [] = Unit {0}
IsRun longest digest shown (event ∷ events) =
    let next = shown_after (shown event.verifier) event.change in
    HasDone longest digest (shown event.verifier) next event.change
    × (IsFresh (shown event.verifier) event.change → IsRun longest digest (with_shown shown event.verifier next) events)

-- ---- runs from chains

-- A front of a chain is a chain.
pub chain_front : (longest : ℕ) (digest : Digest) (shown : Shown) (front back : List Event)
    → IsChain longest digest shown (front ++ back) → IsChain longest digest shown front
chain_front longest digest shown [] back chain = tt
chain_front longest digest shown (event ∷ front) back chain =
    (chain.0, λ fresh. chain_front longest digest (shown_after shown event.change) front back (chain.1 fresh))

-- the first event and those of its verifier behind it are its verifier's part
pub own_part : (event : Event) (events : List Event)
    → of_verifier event_moment event.verifier (event ∷ events) ≡ event ∷ of_verifier event_moment event.verifier events
own_part event events = cond-true (eqb event.verifier event.verifier) _ _ (eq-eqb event.verifier event.verifier refl)

-- another verifier's part is without the first event
pub other_part : (event : Event) (events : List Event) (v : ℕ) → v ≢ event.verifier
    → of_verifier event_moment v (event ∷ events) ≡ of_verifier event_moment v events
other_part event events v apart =
    cond-false (eqb event.verifier v) _ _ (ne_eqb event.verifier v (λ same. apart (sym same)))

-- Where each verifier's part of the events is a chain of its own, the events are a run.
pub run_of_parts : (longest : ℕ) (digest : Digest) (shown : AllShown) (events : List Event)
    → ((v : ℕ) → IsChain longest digest (shown v) (of_verifier event_moment v events))
    → IsRun longest digest shown events
run_of_parts longest digest shown [] parts = tt
run_of_parts longest digest shown (event ∷ events) parts =
    (own.0, λ fresh. run_of_parts longest digest (with_shown shown event.verifier next) events (further fresh))
  where
    next : Shown
    next = shown_after (shown event.verifier) event.change

    own : IsChain longest digest (shown event.verifier) (event ∷ of_verifier event_moment event.verifier events)
    own = subst (IsChain longest digest (shown event.verifier)) (own_part event events) (parts event.verifier)

    further : IsFresh (shown event.verifier) event.change → (v : ℕ)
        → IsChain longest digest (with_shown shown event.verifier next v) (of_verifier event_moment v events)
    further fresh v = go (cases_eq v event.verifier)
      where
        go : (v ≡ event.verifier) ⊎ (v ≡ event.verifier → ⊥)
            → IsChain longest digest (with_shown shown event.verifier next v) (of_verifier event_moment v events)
        go (inl same) =
            subst (λ (s : Shown). IsChain longest digest s (of_verifier event_moment v events))
            (sym (ap (λ (b : Bool). if b then next else shown v) (eq-eqb v event.verifier same)))
            (subst (λ (w : ℕ). IsChain longest digest next (of_verifier event_moment w events)) (sym same) (own.1 fresh))
        go (inr apart) =
            subst (λ (s : Shown). IsChain longest digest s (of_verifier event_moment v events))
            (sym (ap (λ (b : Bool). if b then next else shown v) (ne_eqb v event.verifier apart)))
            (subst (IsChain longest digest (shown v)) (other_part event events v apart) (parts v))

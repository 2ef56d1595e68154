-- The merged order of all histories: each verifier's part is its history, so the events up to an epoch are a run.
use Rattle.std.proofs.Common.{◌≡◌, ◌≢◌, ◌⊎◌, ℕ, suc, ◌<◌, nat_le, eqb, Bool, true, false, if◌then◌else◌, List, [], ◌∷◌, ◌++◌, append-nil, refl, sym, ◌∙◌, ap, subst, inl, inr, filter, arith}
use Rattle.std.specs.List.{AllByRecursion}
use Rattle.std.proofs.lemmas.Bool.{cond-true, cond-false, eq-eqb, ne_eqb, cases_eq}
use Rattle.std.proofs.lemmas.List.Elements.{filter-append}
use Rattle.lamport_clocks.specs.declared.header.Header.{Header}
use Rattle.merkle_records.specs.Merkle.{Digest}
use Rattle.stamp_order.specs.Merged.{comes_before, IsMerged, up_to, of_verifier}
use Rattle.stamp_order.proofs.InOrderLaws.{every-weaker, every-append, every-in_order}
use Rattle.stamp_order.proofs.MergedLaws.{merged-sorts, merged-of_verifier}
use Rattle.soundness.specs.History.{Event}
use Rattle.soundness.specs.Certified.{event_moment, all_events, order_of, order_up_to}
use Rattle.soundness.specs.Showing.{opening_shown}
use Rattle.soundness.specs.Timed.{IsTimed, AreTimed}
use Rattle.soundness.specs.IsHistory.{IsChain, IsTimely, IsHistory, EachByNumber, AreTimely, AreHistories}
use Rattle.soundness.proofs.RunLemmas.{IsRun, run_of_parts}
use Rattle.soundness.proofs.HistoryLaws.{timely-merged, timely-whose}
use Rattle.soundness.proofs.TimedLemmas.{timely_timed}
use Rattle.soundness.proofs.SplitLaws.{SplitsAt, split_up_to, chain_up_to}

-- ---- filters

module _ {X : Type 0} where
  -- a first member that passes the test stays
  filter-kept : (p : X → Bool) (x : X) (xs : List X) → p x ≡ true → filter p (x ∷ xs) ≡ x ∷ filter p xs
  filter-kept p x xs passes = cond-true (p x) (x ∷ filter p xs) (filter p xs) passes

  -- one that doesn't goes
  filter-dropped : (p : X → Bool) (x : X) (xs : List X) → p x ≡ false → filter p (x ∷ xs) ≡ filter p xs
  filter-dropped p x xs fails = cond-false (p x) (x ∷ filter p xs) (filter p xs) fails

  -- all members pass the test
  pub filter-all : (p : X → Bool) (xs : List X) → AllByRecursion (λ x. p x ≡ true) xs → filter p xs ≡ xs
  filter-all p [] all = refl
  filter-all p (x ∷ xs) all = filter-kept p x xs all.0 ∙ ap (λ zs. x ∷ zs) (filter-all p xs all.1)

  -- none does
  pub filter-none : (p : X → Bool) (xs : List X) → AllByRecursion (λ x. p x ≡ false) xs → filter p xs ≡ []
  filter-none p [] all = refl
  filter-none p (x ∷ xs) all = filter-dropped p x xs all.0 ∙ filter-none p xs all.1

  -- two filters, whichever goes first
  pub filter-swap : (p q : X → Bool) (xs : List X) → filter p (filter q xs) ≡ filter q (filter p xs)
  filter-swap p q [] = refl
  filter-swap p q (x ∷ xs) = go (p x) (q x) refl refl (filter-swap p q xs)
    where
      go : (a b : Bool) → p x ≡ a → q x ≡ b → filter p (filter q xs) ≡ filter q (filter p xs)
          → filter p (filter q (x ∷ xs)) ≡ filter q (filter p (x ∷ xs))
      go true true passes too rest =
          ap (filter p) (filter-kept q x xs too) ∙ filter-kept p x (filter q xs) passes ∙ ap (λ zs. x ∷ zs) rest
          ∙ sym (filter-kept q x (filter p xs) too) ∙ sym (ap (filter q) (filter-kept p x xs passes))
      go true false passes not_too rest =
          ap (filter p) (filter-dropped q x xs not_too) ∙ rest
          ∙ sym (filter-dropped q x (filter p xs) not_too) ∙ sym (ap (filter q) (filter-kept p x xs passes))
      go false true fails other rest =
          ap (filter p) (filter-kept q x xs other) ∙ filter-dropped p x (filter q xs) fails ∙ rest
          ∙ sym (ap (filter q) (filter-dropped p x xs fails))
      go false false fails other rest =
          ap (filter p) (filter-dropped q x xs other) ∙ rest ∙ sym (ap (filter q) (filter-dropped p x xs fails))

-- ---- each verifier's part

-- the history of verifier v, where the first is of the verifier of this number; none where no history is v's
abbrev pub history_of : ℕ → List (List Event) → ℕ → List Event
history_of number [] v = []
history_of number (history ∷ histories) v = if eqb number v then history else history_of (suc number) histories v

-- What holds of each history holds of v's, if it holds of none.
history_each : (holds : ℕ → List Event → Type 0) → ((v : ℕ) → holds v []) → (number : ℕ) (histories : List (List Event))
    → EachByNumber holds number histories → (v : ℕ) → holds v (history_of number histories v)
history_each holds none number [] each v = none v
history_each holds none number (history ∷ histories) each v =
    go (cases_eq number v) (history_each holds none (suc number) histories each.1 v)
  where
    behind : List Event
    behind = history_of (suc number) histories v

    go : (number ≡ v) ⊎ (number ≡ v → ⊥) → holds v behind → holds v (if eqb number v then history else behind)
    go (inl same) rest =
        subst (λ (b : Bool). holds v (if b then history else behind)) (sym (eq-eqb number v same))
        (subst (λ (n : ℕ). holds n history) same each.0)
    go (inr apart) rest =
        subst (λ (b : Bool). holds v (if b then history else behind)) (sym (ne_eqb number v apart)) rest

-- What holds of each event of histories holds of each in the merged order.
pub order_each : (P : Event → Type 0) (holds : ℕ → List Event → Type 0)
    → ((number : ℕ) (events : List Event) → holds number events → AllByRecursion P events)
    → (number : ℕ) (histories : List (List Event)) → EachByNumber holds number histories
    → AllByRecursion P (order_of histories)
order_each P holds every number histories each =
    every-in_order (comes_before event_moment) P (all_events histories) (all_each number histories each)
  where
    all_each : (number : ℕ) (histories : List (List Event)) → EachByNumber holds number histories
        → AllByRecursion P (all_events histories)
    all_each number [] each = tt
    all_each number (history ∷ histories) each =
        every-append P history (all_events histories) (every number history each.0)
        (all_each (suc number) histories each.1)

-- Histories are timely.
pub are_timely : (longest : ℕ) (digest : Digest) (header : Header) (number : ℕ) (histories : List (List Event))
    → AreHistories longest digest header number histories → AreTimely header number histories
are_timely longest digest header number [] are = tt
are_timely longest digest header number (history ∷ histories) are =
    (are.0.timely, are_timely longest digest header (suc number) histories are.1)

-- where all events are of one verifier, all are its part
part_own : (number v : ℕ) (events : List Event) → number ≡ v
    → AllByRecursion (λ event. event.verifier ≡ number) events
    → of_verifier event_moment v events ≡ events
part_own number v events same all =
    filter-all (λ event. eqb event.verifier v) events
    (every-weaker (λ event. event.verifier ≡ number) (λ event. eqb event.verifier v ≡ true)
    (λ event own. eq-eqb event.verifier v (own ∙ same)) events all)

-- and none another's
part_other : (number v : ℕ) (events : List Event) → number ≢ v
    → AllByRecursion (λ event. event.verifier ≡ number) events
    → of_verifier event_moment v events ≡ []
part_other number v events apart all =
    filter-none (λ event. eqb event.verifier v) events
    (every-weaker (λ event. event.verifier ≡ number) (λ event. eqb event.verifier v ≡ false)
    (λ event own. ne_eqb event.verifier v (λ same. apart (sym own ∙ same))) events all)

module _ (header : Header) where
  -- a verifier before the first has no part
  part_before : (number : ℕ) (histories : List (List Event)) → AreTimely header number histories → (v : ℕ) → v < number
      → of_verifier event_moment v (all_events histories) ≡ []
  part_before number [] timely v below = refl
  part_before number (history ∷ histories) timely v below =
      let others = all_events histories in
      filter-append (λ event. eqb event.verifier v) history others
      ∙ ap (λ zs. zs ++ of_verifier event_moment v others)
      (part_other number v history (λ same. absurd (omega arith)) (timely-whose header number history timely.0))
      ∙ part_before (suc number) histories timely.1 v (omega arith)

  -- A verifier's part of all events is its history.
  pub part_of_all : (number : ℕ) (histories : List (List Event)) → AreTimely header number histories → (v : ℕ)
      → of_verifier event_moment v (all_events histories) ≡ history_of number histories v
  part_of_all number [] timely v = refl
  part_of_all number (history ∷ histories) timely v =
      go (cases_eq number v) (part_of_all (suc number) histories timely.1 v)
    where
      others : List Event
      others = all_events histories

      behind : List Event
      behind = history_of (suc number) histories v

      go : (number ≡ v) ⊎ (number ≡ v → ⊥) → of_verifier event_moment v others ≡ behind
          → of_verifier event_moment v (history ++ others) ≡ (if eqb number v then history else behind)
      go (inl same) rest =
          filter-append (λ event. eqb event.verifier v) history others
          ∙ ap (λ zs. zs ++ of_verifier event_moment v others)
          (part_own number v history same (timely-whose header number history timely.0))
          ∙ ap (λ zs. history ++ zs) (part_before (suc number) histories timely.1 v (omega arith))
          ∙ append-nil history
          ∙ sym (ap (λ (b : Bool). if b then history else behind) (eq-eqb number v same))
      go (inr apart) rest =
          filter-append (λ event. eqb event.verifier v) history others
          ∙ ap (λ zs. zs ++ of_verifier event_moment v others)
          (part_other number v history apart (timely-whose header number history timely.0))
          ∙ rest
          ∙ sym (ap (λ (b : Bool). if b then history else behind) (ne_eqb number v apart))

  -- Each verifier's history is timely.
  pub timely_of : (histories : List (List Event)) → AreTimely header 0 histories → (v : ℕ)
      → IsTimely header v (history_of 0 histories v)
  timely_of histories timely = history_each (IsTimely header) (λ v. record { ticks = tt; own = tt }) 0 histories timely

  -- A verifier's part of the merged order is its history.
  pub part_of_order : (histories : List (List Event)) → AreTimely header 0 histories → (v : ℕ)
      → of_verifier event_moment v (order_of histories) ≡ history_of 0 histories v
  part_of_order histories timely v =
      let events = all_events histories in
      let part = part_of_all 0 histories timely v in
      merged-of_verifier event_moment v events
      (subst (IsMerged event_moment) (sym part)
      (timely-merged header v (history_of 0 histories v) (timely_of histories timely v))) ∙ part

  -- And so it is up to an epoch.
  pub part_up_to : (histories : List (List Event)) → AreTimely header 0 histories → (epoch v : ℕ)
      → of_verifier event_moment v (order_up_to epoch histories) ≡ up_to event_moment epoch (history_of 0 histories v)
  part_up_to histories timely epoch v =
      filter-swap (λ event. eqb event.verifier v) (λ event. nat_le event.at.epoch epoch) (order_of histories)
      ∙ ap (up_to event_moment epoch) (part_of_order histories timely v)

  -- The events of all histories up to an epoch, in the merged order, are a run from the opening.
  pub order_run : (longest : ℕ) (digest : Digest) (histories : List (List Event)) (epoch : ℕ)
      → AreHistories longest digest header 0 histories
      → IsRun longest digest (opening_shown header) (order_up_to epoch histories)
  order_run longest digest histories epoch are =
      let timely = are_timely longest digest header 0 histories are in
      let history = history_each (IsHistory longest digest header)
      (λ v. record { timely = record { ticks = tt; own = tt }; chain = tt }) 0 histories are in
      run_of_parts longest digest (opening_shown header) (order_up_to epoch histories)
      (λ v. subst (IsChain longest digest (opening_shown header v)) (sym (part_up_to histories timely epoch v))
      (chain_up_to longest digest header v epoch (history_of 0 histories v) (history v)))

  -- The elements of all events in the merged order are timed.
  pub order_timed : (histories : List (List Event)) → AreTimely header 0 histories
      → AreTimed header.first (order_of histories)
  order_timed histories timely =
      order_each (λ event. IsTimed header.first event.at event.change) (IsTimely header) (timely_timed header) 0 histories
      timely

-- ---- the order of any histories

-- The merged order is in order.
pub order_sorted : (histories : List (List Event)) → IsMerged event_moment (order_of histories)
order_sorted histories = merged-sorts event_moment (all_events histories)

-- It begins with the events up to any epoch, and those of later epochs stand behind.
pub order_splits : (epoch : ℕ) (histories : List (List Event)) → SplitsAt event_moment epoch (order_of histories)
order_splits epoch histories = split_up_to event_moment epoch (order_of histories) (order_sorted histories)

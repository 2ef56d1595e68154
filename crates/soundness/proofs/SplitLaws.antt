-- What stands in the order of its moments begins with what is in the epochs up to any one.
use Rattle.std.proofs.Common.{◌≡◌, ◌⊎◌, ℕ, ◌<◌, ◌≤◌, nat_le, Bool, true, false, List, [], ◌∷◌, ◌++◌, refl, sym, ◌∙◌, ap, subst, inl, inr, arith}
use Rattle.std.specs.List.{AllByRecursion}
use Rattle.std.proofs.lemmas.Bool.{true≢false, cases_lt, cond-true, cond-false}
use Rattle.std.proofs.lemmas.Bool.Decides.{nat_tests}
use Rattle.lamport_clocks.specs.declared.header.Header.{Header}
use Rattle.merkle_records.specs.Merkle.{Digest}
use Rattle.stamp_order.specs.declared.moment.Moment.{Moment}
use Rattle.stamp_order.specs.Moment.{is_before}
use Rattle.stamp_order.specs.Merged.{comes_before, IsMerged, up_to}
use Rattle.stamp_order.proofs.InOrderLaws.{every-weaker}
use Rattle.stamp_order.proofs.MomentLaws.{is_before-epoch}
use Rattle.soundness.specs.History.{Event}
use Rattle.soundness.specs.Certified.{event_moment}
use Rattle.soundness.specs.Showing.{opening_shown}
use Rattle.soundness.specs.IsHistory.{IsChain, IsHistory}
use Rattle.soundness.proofs.HistoryLaws.{timely-merged}
use Rattle.soundness.proofs.RunLemmas.{chain_front}

-- what doesn't come before a moment is not in an earlier epoch
pub epoch_not_before : (m n : Moment) → is_before m n ≡ false → n.at.epoch ≤ m.at.epoch
epoch_not_before m n after = go (cases_lt m.at.epoch n.at.epoch)
  where
    go : (m.at.epoch < n.at.epoch) ⊎ (n.at.epoch ≤ m.at.epoch) → n.at.epoch ≤ m.at.epoch
    go (inl earlier) = absurd (true≢false (sym (is_before-epoch m n earlier) ∙ after))
    go (inr not_earlier) = not_earlier

module _ {X : Type 0} (at : X → Moment) where
  -- all are in later epochs than this one
  abbrev pub AreLater : ℕ → List X → Type 0
  AreLater epoch xs = AllByRecursion (λ x. epoch < (at x).at.epoch) xs

  -- none of them is in an epoch up to it
  pub up_to-later : (epoch : ℕ) (xs : List X) → AreLater epoch xs → up_to at epoch xs ≡ []
  up_to-later epoch [] later = refl
  up_to-later epoch (x ∷ xs) later =
      let head : epoch < (at x).at.epoch = later.0 in
      let past : nat_le (at x).at.epoch epoch ≡ false = grind (arith, nat_tests) in
      cond-false (nat_le (at x).at.epoch epoch) _ _ past ∙ up_to-later epoch xs later.1

  -- the members in the epochs up to this one, then a rest in later epochs
  abbrev pub SplitsAt : ℕ → List X → Type 0
  SplitsAt epoch xs = (rest : List X) × (xs ≡ up_to at epoch xs ++ rest) × AreLater epoch rest

  -- What stands in order splits at each epoch.
  pub split_up_to : (epoch : ℕ) (xs : List X) → IsMerged at xs → SplitsAt epoch xs
  split_up_to epoch [] sorted = ([], refl, tt)
  split_up_to epoch (x ∷ xs) sorted = go (nat_le (at x).at.epoch epoch) refl (split_up_to epoch xs sorted.1)
    where
      go : (b : Bool) → nat_le (at x).at.epoch epoch ≡ b → SplitsAt epoch xs → SplitsAt epoch (x ∷ xs)
      go true within behind =
          let front = cond-true (nat_le (at x).at.epoch epoch) (x ∷ up_to at epoch xs) (up_to at epoch xs) within in
          (behind.0, ap (λ zs. x ∷ zs) behind.1 ∙ ap (λ zs. zs ++ behind.0) (sym front), behind.2)
      go false past behind =
          let head : epoch < (at x).at.epoch = grind (arith, nat_tests) in
          let all : AreLater epoch (x ∷ xs) = (
            head,
            every-weaker (λ y. comes_before at y x ≡ false) (λ y. epoch < (at y).at.epoch)
                (λ y after. omega (arith, head, epoch_not_before (at y) (at x) after)) xs sorted.0,
          ) in
          (x ∷ xs, ap (λ zs. zs ++ x ∷ xs) (sym (up_to-later epoch (x ∷ xs) all)), all)

-- The events of a history in the epochs up to one are a chain.
pub chain_up_to : (longest : ℕ) (digest : Digest) (header : Header) (number epoch : ℕ) (events : List Event)
    → IsHistory longest digest header number events
    → IsChain longest digest (opening_shown header number) (up_to event_moment epoch events)
chain_up_to longest digest header number epoch events history =
    let split = split_up_to event_moment epoch events (timely-merged header number events history.timely) in
    chain_front longest digest (opening_shown header number) (up_to event_moment epoch events) split.0
    (subst (IsChain longest digest (opening_shown header number)) split.1 history.chain)

-- Elements that wait: what holds of all of them, of those at one place and of those of one shard; and which a clock can take in.
use Rattle.std.proofs.Common.{◌≡◌, ◌⊎◌, ℕ, zero, suc, ◌+◌, ◌<◌, ◌≤◌, true, List, [], ◌∷◌, ◌++◌, length, get_or, set, refl, subst, inl, inr, arith}
use Rattle.std.specs.List.{flat_map, AllByRecursion}
use Rattle.std.proofs.lemmas.Grind.{flat_map-append}
use Rattle.std.proofs.lemmas.Bool.{cases_lt}
use Rattle.std.proofs.lemmas.Bool.Decides.{nat_tests}
use Rattle.stamp_order.proofs.InOrderLaws.{every-append}
use Rattle.lamport_clocks.specs.Clock.{is_open}
use Rattle.lamport_clocks.specs.Reading.{Reading}
use Rattle.record_text.specs.declared.element.Element.{Element}
use Rattle.host_core.specs.Host.{Host}
use Rattle.host_core.specs.Deeds.{pending_of, IsStamped, AreStamped}

-- what holds of each of two lists joined, holds of each of the first and of each of the second
module _ {X : Type 0} (P : X → Type 0) where
  pub every-front : (xs ys : List X) → AllByRecursion P (xs ++ ys) → AllByRecursion P xs
  every-front [] ys all = tt
  every-front (x ∷ xs) ys all = (all.0, every-front xs ys all.1)

  pub every-back : (xs ys : List X) → AllByRecursion P (xs ++ ys) → AllByRecursion P ys
  every-back [] ys all = all
  every-back (x ∷ xs) ys all = every-back xs ys all.1

-- what is said of the elements of one list, two things
pub both-all : (P Q S : Element → Type 0) → ((x : Element) → P x → Q x → S x) → (xs : List Element) → AllByRecursion P xs → AllByRecursion Q xs
    → AllByRecursion S xs
both-all P Q S both [] ps qs = tt
both-all P Q S both (x ∷ xs) ps qs = (both x ps.0 qs.0, both-all P Q S both xs ps.1 qs.1)

-- where something waits, what holds of all of it holds of some
pub some-waits : (P : Element → Type 0) (xs : List Element) → (xs ≡ [] → ⊥) → AllByRecursion P xs → (x : Element) × P x
some-waits P [] some all = absurd (some refl)
some-waits P (x ∷ xs) some all = (x, all.0)

-- an element of a clock's epoch or of the one before can be taken in
pub open_near : (clock : Reading) (epoch : ℕ) → epoch ≤ clock.at.epoch → clock.at.epoch ≤ epoch + 1 → clock.first ≤ epoch → is_open clock epoch ≡ true
open_near clock epoch up near from = go (cases_lt epoch clock.at.epoch)
  where
    go : (epoch < clock.at.epoch) ⊎ (clock.at.epoch ≤ epoch) → is_open clock epoch ≡ true
    go (inl before) =
        let same : epoch + 1 ≡ clock.at.epoch = omega (arith, before, near) in
        let past : clock.first < clock.at.epoch = omega (arith, before, from) in
        grind (arith, nat_tests)
    go (inr not_before) =
        let same : epoch ≡ clock.at.epoch = omega (arith, not_before, up) in
        grind (arith, nat_tests)

module _ {C R : Type 0} (host : Host C R) where
  -- what holds of all that waits, where one content is replaced by one of which it holds
  pub waits-set : (P : Element → Type 0) (contents : List C) (seat : ℕ) (after : C) → AllByRecursion P (pending_of host contents)
      → AllByRecursion P (host.pending after) → AllByRecursion P (pending_of host (set contents seat after))
  waits-set P [] seat after all new = tt
  waits-set P (content ∷ contents) zero after all new =
      every-append P (host.pending after) (pending_of host contents) new
      (every-back P (host.pending content) (pending_of host contents) all)
  waits-set P (content ∷ contents) (suc seat) after all new =
      every-append P (host.pending content) (pending_of host (set contents seat after))
      (every-front P (host.pending content) (pending_of host contents) all)
      (waits-set P contents seat after
      (every-back P (host.pending content) (pending_of host contents) all) new)

  -- what holds of all that waits, holds of what waits at a seat
  pub waits-at : (P : Element → Type 0) (contents : List C) (seat : ℕ) (d : C) → seat < length contents → AllByRecursion P (pending_of host contents)
      → AllByRecursion P (host.pending (get_or contents seat d))
  waits-at P [] seat d inside all = absurd (omega (arith, inside))
  waits-at P (content ∷ contents) zero d inside all = every-front P (host.pending content) (pending_of host contents) all
  waits-at P (content ∷ contents) (suc seat) d inside all =
      waits-at P contents seat d (omega (arith, inside)) (every-back P (host.pending content) (pending_of host contents) all)

  -- a shard's part of elements that are all stamped
  pub stamped-part : (epoch : ℕ) (shards : List (List C)) (s : ℕ) → AreStamped host epoch (flat_map (λ contents. contents) shards)
      → AreStamped host epoch (get_or shards s [])
  stamped-part epoch [] s all = tt
  stamped-part epoch (contents ∷ shards) s all = go s (λ s all. stamped-part epoch shards s all)
    where
      rest : List C
      rest = flat_map (λ contents. contents) shards

      split : AllByRecursion (IsStamped host epoch) (pending_of host contents ++ pending_of host rest)
      split = subst (AllByRecursion (IsStamped host epoch)) (flat_map-append host.pending contents rest) all

      go : (s : ℕ) → ((s : ℕ) → AreStamped host epoch rest → AreStamped host epoch (get_or shards s []))
          → AreStamped host epoch (get_or (contents ∷ shards) s [])
      go zero further = every-front (IsStamped host epoch) (pending_of host contents) (pending_of host rest) split
      go (suc s) further =
          further s (every-back (IsStamped host epoch) (pending_of host contents) (pending_of host rest) split)

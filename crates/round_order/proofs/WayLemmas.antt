-- Enabled events that lead from one world to another, one behind the other; and elements of lists by their places.
use Rattle.std.proofs.Common.{◌≡◌, ℕ, zero, suc, ◌≤◌, List, [], ◌∷◌, ◌++◌, length, get_or, set, refl, sym, ◌∙◌, ap, subst, arith}
use Rattle.host_core.specs.Host.{Host}
use Rattle.host_core.specs.World.{World}
use Rattle.host_core.specs.WorldEvent.{WorldEvent, IsEnabled, AreEnabled, step, run_events}
use Rattle.host_core.proofs.EventLaws.{enabled-append, run-append}

-- these events are enabled, and lead from the one world to the other
pub record Way {C R : Type 0} (host : Host C R) (world : World C) (events : List (WorldEvent R)) (later : World C) : Type 0 where
  pub enabled : AreEnabled host world events
  pub is : run_events host world events ≡ later

module _ {C R : Type 0} (host : Host C R) where
  pub way-none : (world : World C) → Way host world [] world
  way-none world = record { enabled = tt; is = refl }

  pub way-then : (world middle later : World C) (xs ys : List (WorldEvent R)) → Way host world xs middle → Way host middle ys later
      → Way host world (xs ++ ys) later
  way-then world middle later xs ys one two = record {
    enabled = enabled-append host world xs ys one.enabled (subst (λ (w : World C). AreEnabled host w ys) (sym one.is) two.enabled);
    is = run-append host world xs ys ∙ ap (λ (w : World C). run_events host w ys) one.is ∙ two.is;
  }

  pub way-cons : (world middle later : World C) (event : WorldEvent R) (events : List (WorldEvent R)) → IsEnabled host world event
      → step host world event ≡ middle → Way host middle events later → Way host world (event ∷ events) later
  way-cons world middle later event events may is rest = record {
    enabled = (may, subst (λ (w : World C). AreEnabled host w events) (sym is) rest.enabled);
    is = ap (λ (w : World C). run_events host w events) is ∙ rest.is;
  }

-- ---- elements by their places

module _ {X : Type 0} where
  pub get-at : (front : List X) (x : X) (rest : List X) (i : ℕ) (d : X) → i ≡ length front → get_or (front ++ x ∷ rest) i d ≡ x
  get-at [] x rest zero d is = refl
  get-at [] x rest (suc i) d is = absurd (omega (arith, is))
  get-at (y ∷ front) x rest zero d is = absurd (omega (arith, is))
  get-at (y ∷ front) x rest (suc i) d is = get-at front x rest i d (omega (arith, is))

  pub set-at : (front : List X) (x : X) (rest : List X) (i : ℕ) (new : X) → i ≡ length front → set (front ++ x ∷ rest) i new ≡ front ++ new ∷ rest
  set-at [] x rest zero new is = refl
  set-at [] x rest (suc i) new is = absurd (omega (arith, is))
  set-at (y ∷ front) x rest zero new is = absurd (omega (arith, is))
  set-at (y ∷ front) x rest (suc i) new is = ap (λ (xs : List X). y ∷ xs) (set-at front x rest i new (omega (arith, is)))

  -- there is nothing past the end
  pub get_or-past : (xs : List X) (i : ℕ) (d : X) → length xs ≤ i → get_or xs i d ≡ d
  get_or-past [] i d past = refl
  get_or-past (x ∷ xs) zero d past = absurd (omega (arith, past))
  get_or-past (x ∷ xs) (suc i) d past = get_or-past xs i d (omega (arith, past))

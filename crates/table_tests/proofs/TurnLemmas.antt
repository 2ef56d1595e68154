-- Workers and their hands.
use Rattle.std.proofs.Common.{◌≡◌, ℕ, zero, suc, ◌<◌, List, [], ◌∷◌, length, get_or, map, All, refl, sym, ap, ◌∙◌, subst, arith}
use Rattle.lamport_clocks.specs.Reading.{Reading}
use Rattle.atomic_table.specs.Seated.{TableId}
use Rattle.host_epochs.specs.declared.hand.Hand.{Hand}
use Rattle.host_table.specs.Calls.{AreAll, IsNew}
use Rattle.host_table.specs.Hands.{worker_of, IsFree}
use Rattle.host_table.specs.Terms.{Terms, IsClockOf}
use Rattle.host_table.specs.Told.{TakesUp}
use Rattle.table_tests.specs.declared.turns.Turn.{Turn}
use Rattle.table_tests.specs.Turns.{AreTurns, IsAtStart, hand_of}

hand_at : (turns : List Turn) (i : ℕ) (d : Turn) → get_or (map hand_of turns) i (hand_of d) ≡ hand_of (get_or turns i d)
hand_at [] i d = refl
hand_at (turn ∷ turns) zero d = refl
hand_at (turn ∷ turns) (suc i) d = hand_at turns i d

found : (turns : List Turn) (i : ℕ) (d : Hand) → i < length turns → (e : Turn) × (get_or (map hand_of turns) i d ≡ hand_of (get_or turns i e))
found [] i d below = absurd (omega arith)
found (turn ∷ turns) zero d below = (turn, refl)
found (turn ∷ turns) (suc i) d below = let f = found turns i d (omega arith) in (f.0, f.1)

as_many : (turns : List Turn) → length (map hand_of turns) ≡ length turns
as_many [] = refl
as_many (turn ∷ turns) = ap suc (as_many turns)

module _ (terms : Terms) (z : TableId) (turns : List Turn) where
  -- hands that were dealt just now
  pub turns_from : (clock : Reading) (hands : List Hand) → map hand_of turns ≡ hands → AreAll z terms.workers hands → All IsNew hands → All (IsAtStart clock) turns → IsClockOf terms clock
      → AreTurns terms z turns × (length turns ≡ terms.workers)
  turns_from clock hands same all new start is_clock =
      let count : length hands ≡ length turns = ap (λ (hs : List Hand). length hs) (sym same) ∙ as_many turns in
      let at : (i : ℕ) (d : Turn) → get_or hands i (hand_of d) ≡ hand_of (get_or turns i d) = λ i d. ap (λ (hs : List Hand). get_or hs i (hand_of d)) (sym same) ∙ hand_at turns i d in (
        record {
          each = λ i d below.
              let inside : i < length hands = omega (arith, below, count) in
              let fresh = subst IsNew (at i d) (new i (hand_of d) inside) in
              let begun = start i d below in
              record {
                free = subst (IsFree z) (at i d) (all.free i (hand_of d) inside);
                clock = subst (IsClockOf terms) (sym begun.at) is_clock;
                chained = subst (λ es. TakesUp es (get_or turns i d).clock) (sym fresh.services) tt;
                going = λ _. fresh.stop;
              };
          numbers = λ i d below. ap worker_of (sym (at i d)) ∙ all.numbers i (hand_of d) (omega (arith, below, count));
        },
        sym count ∙ all.count,
      )

  -- all hands again
  pub hands_of : (hands : List Hand) → hands ≡ map hand_of turns → AreTurns terms z turns → length turns ≡ terms.workers → AreAll z terms.workers hands
  hands_of hands same is count =
      let many : length hands ≡ length turns = ap (λ (hs : List Hand). length hs) same ∙ as_many turns in
      record {
        count = many ∙ count;
        numbers = λ i d below.
            let inside : i < length turns = omega (arith, below, many) in
            let f = found turns i d inside in
            ap worker_of (ap (λ (hs : List Hand). get_or hs i d) same ∙ f.1) ∙ is.numbers i f.0 inside;
        free = λ i d below.
            let inside : i < length turns = omega (arith, below, many) in
            let f = found turns i d inside in
            subst (IsFree z) (sym (ap (λ (hs : List Hand). get_or hs i d) same ∙ f.1)) (is.each i f.0 inside).free;
      }

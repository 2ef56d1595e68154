-- What a step of the clock that was taken says of the stamp and of the clock before and after it.
use Rattle.std.proofs.Common.{◌≡◌, ℕ, ◌+◌, ◌-◌, ◌<◌, ◌≤◌, ◌⊎◌, ◌↔◌, cond, Bool, true, false, not, IsTrue, Ok, Option, Some, None, refl, sym, ap, subst, inl, inr, ◌∙◌, arith}
use Rattle.std.specs.Prelude.{nat_lt, nat_le, ◌==◌}
use Rattle.std.proofs.lemmas.Bool.Decides.{nat_tests}
use Rattle.lamport_clocks.specs.declared.stamp.Stamp.{Stamp}
use Rattle.lamport_clocks.specs.declared.clock.ClockFault.TheVariants.{BadEpoch, StampNotLater, ClockEnd}
use Rattle.lamport_clocks.specs.Stamp.{IsLater}
use Rattle.lamport_clocks.specs.Reading.{Reading, IsReading, SameBounds}
use Rattle.lamport_clocks.specs.Clock.{last_epoch, received, sent, advanced, is_open, greater_counter, sealed_by_advancing}
use Rattle.base_words.proofs.StepLaws.{test-ok}

-- an add that was taken: its epoch is open, the counter doesn't pass its end, and this is the clock after it
pub received-ok : (clock after : Reading) (t : Stamp) → received clock t ≡ Ok after → (is_open clock t.epoch ≡ true) × (1 + greater_counter clock.at t ≤ clock.end) × (after ≡ record clock { at = record { epoch = clock.at.epoch; counter = 1 + greater_counter clock.at t } })
received-ok clock after t h =
    let open_epoch = test-ok (not (is_open clock t.epoch)) BadEpoch _ after h in
    let within = test-ok (nat_lt clock.end (1 + greater_counter clock.at t)) ClockEnd _ after open_epoch.1 in
    let e : after ≡ record clock { at = record { epoch = clock.at.epoch; counter = 1 + greater_counter clock.at t } } = cc in
    (grind (arith, nat_tests), grind (arith, nat_tests), e)

-- an evict that was taken: its stamp is of this epoch, above the clock and not past the end, and the clock after it is at the stamp
pub sent-ok : (clock after : Reading) (t : Stamp) → sent clock t ≡ Ok after → (t.epoch ≡ clock.at.epoch) × (clock.at.counter < t.counter) × (t.counter ≤ clock.end) × (after ≡ record clock { at = t })
sent-ok clock after t h =
    let same_epoch = test-ok (not (t.epoch == clock.at.epoch)) BadEpoch _ after h in
    let above = test-ok (nat_le t.counter clock.at.counter) StampNotLater _ after same_epoch.1 in
    let within = test-ok (nat_lt clock.end t.counter) ClockEnd _ after above.1 in
    let e : after ≡ record clock { at = t } = cc in
    (grind (arith, nat_tests), grind (arith, nat_tests), grind (arith, nat_tests), e)

-- a turn that was taken: it is not from the last epoch, and these are the epoch that it seals and the clock after it
pub advanced-ok : (clock after : Reading) (sealed : Option ℕ) → advanced clock ≡ Ok (sealed, after) → ((clock.at.epoch == last_epoch) ≡ false) × (sealed ≡ sealed_by_advancing clock) × (after ≡ record clock { at = record { epoch = clock.at.epoch + 1; counter = 0 } })
advanced-ok clock after sealed h =
    let on = test-ok (clock.at.epoch == last_epoch) ClockEnd _ (sealed, after) h in
    let e : ◌≡◌ {A = Option ℕ × Reading} (sealed, after) (sealed_by_advancing clock, record clock { at = record { epoch = clock.at.epoch + 1; counter = 0 } }) = cc in
    (on.0, ap (λ (p : Option ℕ × Reading). p.0) e, ap (λ (p : Option ℕ × Reading). p.1) e)

-- an open epoch is the clock's or, past the first, the one before
pub open_epochs : (clock : Reading) (epoch : ℕ) → is_open clock epoch ≡ true → (epoch ≡ clock.at.epoch) ⊎ ((clock.first < clock.at.epoch) × (epoch + 1 ≡ clock.at.epoch))
open_epochs clock epoch h = grind (arith, nat_tests)

pub greater_than_other : (at t : Stamp) → t.epoch ≡ at.epoch → t.counter ≤ greater_counter at t
greater_than_other at t h = grind (arith, nat_tests)

pub received-later : (clock after : Reading) (t : Stamp) → received clock t ≡ Ok after → IsLater after.at clock.at
received-later clock after t h =
    let r = received-ok clock after t h in
    let e = ap (λ (x : Reading). x.at.epoch) r.2 in
    let n = ap (λ (x : Reading). x.at.counter) r.2 in
    inr (sym e, omega arith)

pub received-above : (clock after : Reading) (t : Stamp) → received clock t ≡ Ok after → IsLater after.at t
received-above clock after t h =
    let r = received-ok clock after t h in
    let e = ap (λ (x : Reading). x.at.epoch) r.2 in
    let n = ap (λ (x : Reading). x.at.counter) r.2 in
    elim (open_epochs clock t.epoch r.0) [
      | inl same ↦ inr (same ∙ sym e, omega (arith, greater_than_other clock.at t same))
      | inr before ↦ inl (omega arith)
    ]

pub received-epoch : (clock after : Reading) (t : Stamp) → received clock t ≡ Ok after → after.at.epoch ≡ clock.at.epoch
received-epoch clock after t h = ap (λ (x : Reading). x.at.epoch) (received-ok clock after t h).2

pub received-open : (clock after : Reading) (t : Stamp) → received clock t ≡ Ok after → IsTrue (is_open clock t.epoch)
received-open clock after t h = (received-ok clock after t h).0

pub received-bounds : (clock after : Reading) (t : Stamp) → received clock t ≡ Ok after → SameBounds clock after
received-bounds clock after t h =
    let e = (received-ok clock after t h).2 in
    record { first = ap (λ (x : Reading). x.first) e; end = ap (λ (x : Reading). x.end) e }

pub received-reading : (clock after : Reading) (t : Stamp) → IsReading clock → received clock t ≡ Ok after → IsReading after
received-reading clock after t fits h =
    let r = received-ok clock after t h in
    let P : Reading → Type 0 = IsReading in
    subst P (sym r.2) (record { within = r.1; from_first = fits.from_first })

pub sent-later : (clock after : Reading) (t : Stamp) → sent clock t ≡ Ok after → IsLater after.at clock.at
sent-later clock after t h =
    let r = sent-ok clock after t h in
    let at = ap (λ (x : Reading). x.at) r.3 in
    let P : Stamp → Type 0 = λ s. IsLater s clock.at in
    subst P (sym at) (inr (sym r.0, r.1))

pub sent-at : (clock after : Reading) (t : Stamp) → sent clock t ≡ Ok after → after.at ≡ t
sent-at clock after t h = ap (λ (x : Reading). x.at) (sent-ok clock after t h).3

pub sent-above : (clock after : Reading) (t : Stamp) → sent clock t ≡ Ok after → IsLater t clock.at
sent-above clock after t h =
    let r = sent-ok clock after t h in
    inr (sym r.0, r.1)

pub sent-epoch : (clock after : Reading) (t : Stamp) → sent clock t ≡ Ok after → t.epoch ≡ clock.at.epoch
sent-epoch clock after t h = (sent-ok clock after t h).0

pub sent-bounds : (clock after : Reading) (t : Stamp) → sent clock t ≡ Ok after → SameBounds clock after
sent-bounds clock after t h =
    let e = (sent-ok clock after t h).3 in
    record { first = ap (λ (x : Reading). x.first) e; end = ap (λ (x : Reading). x.end) e }

pub sent-reading : (clock after : Reading) (t : Stamp) → IsReading clock → sent clock t ≡ Ok after → IsReading after
sent-reading clock after t fits h =
    let r = sent-ok clock after t h in
    let P : Reading → Type 0 = IsReading in
    subst P (sym r.3) (record { within = r.2; from_first = omega arith })

pub advanced-later : (clock after : Reading) (sealed : Option ℕ) → advanced clock ≡ Ok (sealed, after) → IsLater after.at clock.at
advanced-later clock after sealed h =
    let r = advanced-ok clock after sealed h in
    let e = ap (λ (x : Reading). x.at.epoch) r.2 in
    inl (omega arith)

pub advanced-at : (clock after : Reading) (sealed : Option ℕ) → advanced clock ≡ Ok (sealed, after) → after.at ≡ record { epoch = clock.at.epoch + 1; counter = 0 }
advanced-at clock after sealed h = ap (λ (x : Reading). x.at) (advanced-ok clock after sealed h).2

pub advanced-bounds : (clock after : Reading) (sealed : Option ℕ) → advanced clock ≡ Ok (sealed, after) → SameBounds clock after
advanced-bounds clock after sealed h =
    let e = (advanced-ok clock after sealed h).2 in
    record { first = ap (λ (x : Reading). x.first) e; end = ap (λ (x : Reading). x.end) e }

pub advanced-reading : (clock after : Reading) (sealed : Option ℕ) → IsReading clock → advanced clock ≡ Ok (sealed, after) → IsReading after
advanced-reading clock after sealed fits h =
    let r = advanced-ok clock after sealed h in
    let P : Reading → Type 0 = IsReading in
    subst P (sym r.2) (record { within = omega arith; from_first = omega arith })

chosen : (b : Bool) (n epoch : ℕ) → cond b (Some n) None ≡ Some epoch → (b ≡ true) × (n ≡ epoch)
chosen true n epoch h = (refl, cc)
chosen false n epoch h = absurd (cc)

taken : (b : Bool) (n epoch : ℕ) → b ≡ true → n ≡ epoch → cond b (Some n) None ≡ Some epoch
taken true n epoch h e = ap Some e
taken false n epoch h e = absurd (cc)

-- a turn seals the epoch before the one that it leaves, if that is one from the first on
pub sealed_epoch : (clock : Reading) (epoch : ℕ) → (sealed_by_advancing clock ≡ Some epoch) ↔ ((clock.first ≤ epoch) × (epoch + 1 ≡ clock.at.epoch))
sealed_epoch clock epoch = (
  λ h.
      let p = chosen (nat_lt clock.first clock.at.epoch) (clock.at.epoch - 1) epoch h in
      let past_first : clock.first < clock.at.epoch = grind (arith, nat_tests) in
      (omega arith, omega arith),
  λ p. taken (nat_lt clock.first clock.at.epoch) (clock.at.epoch - 1) epoch (grind (arith, nat_tests)) (omega arith),
)

-- the epoch that a turn seals is one from the first on, and two before the clock's new one
pub advanced-seals : (clock after : Reading) (sealed : Option ℕ) → advanced clock ≡ Ok (sealed, after) → (epoch : ℕ) → (sealed ≡ Some epoch) ↔ ((clock.first ≤ epoch) × (epoch + 2 ≡ after.at.epoch))
advanced-seals clock after sealed h epoch =
    let r = advanced-ok clock after sealed h in
    let e = ap (λ (x : Reading). x.at.epoch) r.2 in
    let own = sealed_epoch clock epoch in (
      λ seals. let p = own.0 (sym r.1 ∙ seals) in (p.0, omega arith),
      λ p. r.1 ∙ own.1 (p.0, omega arith),
    )

-- no stamp of a sealed epoch is open any more
pub advanced-closed : (clock after : Reading) (sealed : Option ℕ) → advanced clock ≡ Ok (sealed, after) → (epoch : ℕ) → sealed ≡ Some epoch → is_open after epoch ≡ false
advanced-closed clock after sealed h epoch seals =
    let two = (advanced-seals clock after sealed h epoch).0 seals in
    grind (arith, nat_tests)

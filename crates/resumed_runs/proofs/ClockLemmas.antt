-- The clock of a verifier stands where one may under its header.
use Rattle.std.proofs.Common.{◌≡◌, ℕ, ◌^◌, ◌<◌, ◌≤◌, Option, Ok, refl, sym, ap, subst, ◌∙◌, arith}
use Rattle.std.proofs.lemmas.Bool.{eqb-false}
use Rattle.lamport_clocks.specs.declared.header.Header.{Header}
use Rattle.lamport_clocks.specs.Header.{IsHeader}
use Rattle.lamport_clocks.specs.Reading.{Reading, IsReading}
use Rattle.lamport_clocks.specs.Clock.{opening_reading, last_epoch, received, sent, advanced}
use Rattle.lamport_clocks.proofs.ClockLaws.{received-epoch, received-reading, received-bounds, sent-at, sent-epoch, sent-reading, sent-bounds, advanced-ok, advanced-reading, advanced-bounds}
use Rattle.lamport_clocks.specs.declared.stamp.Stamp.{Stamp}
use Rattle.record_text.specs.Element.{IsStamp}
use Rattle.verifier_commands.specs.Change.{Change, did_add_m, did_evict_m, did_add_b, did_evict_b, did_evict_bm, did_get, did_put, did_next_epoch}
use Rattle.verifier_commands.specs.Ticks.{Ticks}

-- It has the header's bounds and has not passed them, and its epoch has 32 bits.
pub record ClockStands (header : Header) (clock : Reading) : Type 0 where
  pub first : clock.first ≡ header.first
  pub end : clock.end ≡ header.end
  pub fits : IsReading clock
  pub last : clock.at.epoch ≤ last_epoch

-- at the start
pub clock-opening : (header : Header) → header.first < 2 ^ 32 → ClockStands header (opening_reading header.first header.end)
clock-opening header small = record { first = refl; end = refl; fits = record { within = omega arith; from_first = omega arith }; last = omega (arith, small) }

-- its stamp has a text
pub clock-stamp : (header : Header) (clock : Reading) → IsHeader header → ClockStands header clock → IsStamp clock.at
clock-stamp header clock good stands = record {
  epoch = omega (arith, stands.last);
  counter = omega (arith, stands.fits.within, stands.end, good.end);
}

module _ (header : Header) (old new : Reading) (stands : ClockStands header old) where
  clock-same : new ≡ old → ClockStands header new
  clock-same is = subst (ClockStands header) (sym is) stands

  clock-received : (stamp : Stamp) → received old stamp ≡ Ok new → ClockStands header new
  clock-received stamp is =
      let bounds = received-bounds old new stamp is in
      record {
        first = bounds.first ∙ stands.first;
        end = bounds.end ∙ stands.end;
        fits = received-reading old new stamp stands.fits is;
        last = omega (arith, received-epoch old new stamp is, stands.last);
      }

  clock-sent : (stamp : Stamp) → sent old stamp ≡ Ok new → ClockStands header new
  clock-sent stamp is =
      let bounds = sent-bounds old new stamp is in
      record {
        first = bounds.first ∙ stands.first;
        end = bounds.end ∙ stands.end;
        fits = sent-reading old new stamp stands.fits is;
        last = omega (arith, ap (λ (s : Stamp). s.epoch) (sent-at old new stamp is), sent-epoch old new stamp is, stands.last);
      }

  clock-turned : (sealed : Option ℕ) → advanced old ≡ Ok (sealed, new) → ClockStands header new
  clock-turned sealed is =
      let bounds = advanced-bounds old new sealed is in
      let turn = advanced-ok old new sealed is in
      record {
        first = bounds.first ∙ stands.first;
        end = bounds.end ∙ stands.end;
        fits = advanced-reading old new sealed stands.fits is;
        last = omega (arith, ap (λ (r : Reading). r.at.epoch) turn.2, eqb-false old.at.epoch last_epoch turn.0, stands.last);
      }

  -- So it stands behind each change.
  pub clock_stands : (change : Change) → Ticks old new change → ClockStands header new
  clock_stands (did_add_m parent after child) is = clock-same is
  clock_stands (did_evict_m parent after child) is = clock-same is
  clock_stands (did_add_b child element) is = clock-received element.stamp is
  clock_stands (did_evict_b child element) is = clock-sent element.stamp is
  clock_stands (did_evict_bm parent after child element) is = clock-sent element.stamp is
  clock_stands (did_get entry) is = clock-same is
  clock_stands (did_put before after) is = clock-same is
  clock_stands (did_next_epoch sealed) is = clock-turned sealed is

-- Why a worker's stop is with cause.
use Rattle.std.proofs.Common.{◌≡◌, ℕ, ◌<◌, List, refl, sym, ap, ◌∙◌, subst, Bool, true, false, Option}
use Rattle.lamport_clocks.specs.Reading.{Reading}
use Rattle.lamport_clocks.specs.declared.stamp.Stamp.{Stamp}
use Rattle.record_text.specs.declared.request.Request.{Request}
use Rattle.atomic_table.specs.Seated.{TableId}
use Rattle.host_shard.specs.declared.content.Content.{Content}
use Rattle.host_epochs.specs.declared.hand.Hand.{Hand}
use Rattle.host_epochs.specs.declared.told.Entry.{Entry}
use Rattle.host_epochs.specs.declared.views.Held.{Held}
use Rattle.host_epochs.specs.declared.views.Held.TheVariants.{Has}
use Rattle.host_epochs.specs.declared.views.View.TheVariants.{Working}
use Rattle.host_epochs.specs.Calls.{HasCause, met_by}
use Rattle.host_epochs.specs.Hands.{desk_with, held, place, content, history}
use Rattle.host_epochs.specs.Plays.{Sat, held_in, place_of}
use Rattle.host_epochs.specs.Stops.{EndsSo, IsFor}
use Rattle.host_epochs.specs.Terms.{Terms, first_at, place_count}
use Rattle.host_epochs.specs.Told.{IsHad}

-- what a hand holds is what its desk says
pub held_is : (hand : Hand) (has : Held) (out : List (ℕ × Content)) → hand.seat.me ≡ (Working (desk_with hand has), out) → held hand ≡ has
held_is hand has out me = ap (λ (m : Sat). held_in m.0) me

-- the cause at what is held, or at the clock alone
pub has_cause : (terms : Terms) (table : TableId) (hand : Hand) (has : Held) (out : List (ℕ × Content)) (clock : Reading) (at : Bool) (request : Option Request)
    → hand.seat.me ≡ (Working (desk_with hand has), out) → HasCause terms table hand clock at → IsFor terms (place hand) request
    → (past : ℕ → List Entry)
    → ((there : ℕ) (x : Content) (own : List Entry) → has ≡ Has there x own → (there < place_count terms) × IsHad (first_at terms there) (past there) x)
    → EndsSo terms past clock (met_by hand at request)
has_cause terms table hand has out clock false request me cause asked past had = cause
has_cause terms table hand has out clock true request me cause asked past had =
    let holds : held hand ≡ Has cause.some.place (content hand) (history hand) = held_is hand (Has cause.some.place (content hand) (history hand)) _ cause.some.holds.me in
    let there : place hand ≡ cause.some.place = ap place_of holds in
    let found = had cause.some.place (content hand) (history hand) (sym (held_is hand has out me) ∙ holds) in
    record {
      there = subst (λ (p : ℕ). p < place_count terms) (sym there) found.0;
      had = subst (λ (p : ℕ). IsHad (first_at terms p) (past p) (content hand)) (sym there) found.1;
      ends = cause.ends;
      asked = asked;
    }

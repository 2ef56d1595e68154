-- The contents of a table with no further epoch, as an instance.
use Rattle.std.proofs.Common.{◌≡◌, ℕ, ◌<◌, ◌≤◌, List, [], ◌∷◌, ◌++◌, length, map, Option, Some, None, refl, sym, ◌∙◌, ap, subst, arith}
use Rattle.std.specs.List.{AllByRecursion}
use Rattle.std.proofs.lemmas.List.{length-map}
use lib.ListN.{get_elem?}
use mathlib.Core.Option.{some}
use Rattle.atomic_table.specs.Table.{State}
use Rattle.stamp_order.proofs.InOrderLaws.{every-weaker}
use Rattle.record_text.specs.declared.element.Element.{Element}
use Rattle.record_text.specs.declared.request.Request.{Request}
use Rattle.soundness.specs.Timed.{IsRising}
use Rattle.host_shard.specs.declared.content.Content as code
use Rattle.host_shard.specs.Content.{pending}
use Rattle.host_shard.specs.Shown.{shown_content}
use Rattle.host_laws.specs.Served.{waiting}
use Rattle.host_epochs.specs.declared.told.Entry.{Entry}
use Rattle.host_epochs.specs.declared.views.Desk.{Desk}
use Rattle.host_epochs.specs.declared.views.View.{View}
use Rattle.host_epochs.specs.declared.views.View.TheVariants.{Working}
use Rattle.host_epochs.specs.Rule.{IsKept}
use Rattle.host_table.specs.declared.told.Service.{Service}
use Rattle.host_table.specs.Services.{request_in, service_of, services_of}
use Rattle.host_table.specs.Terms.{Terms, place_count, first_at, round_of, phase_epoch, IsStampOf}
use Rattle.host_table.specs.Told.{IsServed, Leads}
use Rattle.host_table.proofs.PhaseLaws.{clock_back}
use Rattle.host_epochs.specs.Told as told
use Rattle.table_order.specs.Mirroring.{MirrorsAtMaking, AreInRange, HasRequestsInRange, IsAtHome, IsInHand, MirrorsAt, AreEvictsOf}
use Rattle.table_order.specs.Mirroring as phase
use Rattle.table_order.specs.RoundMirroring.{AreAsksInRange, IsAskInRange, HasAsksInRange, IsStampIn, MirrorsIn, AreEvictsIn, evicted_in}
use Rattle.table_order.proofs.KeptLemmas as kept_lemmas
use Rattle.table_order.proofs.MirrorLemmas.{Follows}
use Rattle.table_order.proofs.MirrorLemmas as mirror_lemmas

-- ---- back

stamp_back : (terms : Terms) (element : Element) → IsStampIn (round_of terms) element.stamp element.verifier → IsStampOf terms.header (phase_epoch terms) element.stamp element.verifier
stamp_back terms element is = let from = is.from in let to = is.to in record { verifier = is.verifier; epoch_is = omega (arith, from, to); counter = is.counter }

mirrors_back : (terms : Terms) (place : ℕ) (content : code.Content) → MirrorsIn (round_of terms) place content → MirrorsAt terms place content
mirrors_back terms place content is = record { mirrors = is.mirrors; stamped = λ element waits. stamp_back terms element (is.stamped element waits) }

evicted_same : (entries : List Entry) → phase.evicted_in (services_of entries) ≡ evicted_in entries
evicted_same [] = refl
evicted_same (entry ∷ entries) = ap (λ (more : List Element). waiting (pending (shown_content entry.after)) ++ more) (evicted_same entries)

evicts_back : (terms : Terms) (worker : ℕ) (entries : List Entry) → AreEvictsIn (round_of terms) worker entries → AreEvictsOf terms worker (services_of entries)
evicts_back terms worker entries is =
    let same = evicted_same entries in
    record {
      each = ap (λ (elements : List Element). length elements) same ∙ is.each ∙ sym (length-map entries service_of);
      own = subst (AllByRecursion (λ element. element.verifier ≡ worker)) (sym same) is.own;
      stamped = subst (AllByRecursion (λ element. IsStampOf terms.header (phase_epoch terms) element.stamp element.verifier)) (sym same)
          (every-weaker (λ (element : Element). IsStampIn (round_of terms) element.stamp element.verifier) _ (stamp_back terms) (evicted_in entries) is.stamped);
      rising = subst IsRising (sym same) is.rising;
    }

-- ---- there

asks_there : (terms : Terms) (entries : List Entry) → AreInRange terms (services_of entries) → AreAsksInRange (round_of terms) entries
asks_there terms [] small = tt
asks_there terms (entry ∷ entries) small = (go entry.request refl, asks_there terms entries small.1)
  where
    go : (request : Option Request) → entry.request ≡ request → IsAskInRange terms.header request
    go None is = tt
    go (Some request) is = subst (λ (r : Request). IsAskInRange terms.header (Some r)) (ap request_in is) small.0

scene_there : (terms : Terms) (s : State code.Content View) (kept : IsKept (round_of terms) s) → HasRequestsInRange terms kept.scene → HasAsksInRange (round_of terms) kept.scene
scene_there terms s kept small place there = asks_there terms (kept.scene.past place) (small place there)

-- a service as an entry
abbrev entry_of : Service → Entry
entry_of service = record {
  place = service.place;
  worker = service.worker;
  clock = service.clock;
  before = service.before;
  request = Some service.request;
  plan = service.plan;
  after = service.after;
  later = service.later;
}

service_asked : (terms : Terms) (service : Service) → IsServed terms service → told.IsAsked (round_of terms) (entry_of service)
service_asked terms service served = record {
  by = served.by;
  clock = clock_back (round_of terms) refl service.clock served.clock;
  work = record { at = served.at; value = served.value; plan = served.plan };
  within = served.within;
}

services_follow : (terms : Terms) (place : ℕ) (x : code.Content) (services : List Service) (y : code.Content) → Leads terms place x services y
    → Follows (round_of terms) place x (map entry_of services) y
services_follow terms place x [] y leads = leads
services_follow terms place x (service ∷ services) y leads =
    (leads.0, leads.1, service_asked terms service leads.2, services_follow terms place service.after services y leads.3)

range_there : (terms : Terms) (services : List Service) → AreInRange terms services → AreAsksInRange (round_of terms) (map entry_of services)
range_there terms [] small = tt
range_there terms (service ∷ services) small = (small.0, range_there terms services small.1)

-- ---- the laws

pub led : (terms : Terms) → MirrorsAtMaking terms → (place : ℕ) → place < place_count terms → (y : code.Content) (services : List Service)
    → Leads terms place (first_at terms place) services y → AreInRange terms services → MirrorsAt terms place y
led terms made place there y services leads small =
    mirrors_back terms place y (mirror_lemmas.led (round_of terms) made place there y (map entry_of services)
    (services_follow terms place (first_at terms place) services y leads) (range_there terms services small))

module _ (terms : Terms) (s : State code.Content View) (kept : IsKept (round_of terms) s) where
  pub home_mirrors : MirrorsAtMaking terms → HasRequestsInRange terms kept.scene → (place : ℕ) (content : code.Content) → place < place_count terms → IsAtHome s place content
      → MirrorsAt terms place content
  home_mirrors made small place content there home =
      mirrors_back terms place content (kept_lemmas.home_mirrors (round_of terms) s kept made (scene_there terms s kept small) place content there home)

  pub hand_mirrors : MirrorsAtMaking terms → HasRequestsInRange terms kept.scene → (place : ℕ) (content : code.Content) → IsInHand s place content → MirrorsAt terms place content
  hand_mirrors made small place content hand =
      mirrors_back terms place content (kept_lemmas.hand_mirrors (round_of terms) s kept made (scene_there terms s kept small) place content hand)

  pub desk_evicts : terms.workers ≤ terms.header.verifiers → (number : ℕ) (desk : Desk) → get_elem? s.views number ≡ some (Working desk)
      → AreEvictsOf terms desk.number (services_of desk.row.list)
  desk_evicts few number desk at = evicts_back terms desk.number desk.row.list (kept_lemmas.desk_evicts (round_of terms) s kept few number desk at)

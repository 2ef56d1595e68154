-- What one call and then another do to a hand in an attempt, and which plan is noted.
use Rattle.std.proofs.Common.{◌≡◌, ℕ, Bool, List, [], ◌∷◌, ◌++◌, append_assoc, refl, sym, ap, ◌∙◌, subst, Option, Some, None}
use Rattle.lamport_clocks.specs.declared.stamp.Stamp.{Stamp}
use Rattle.lamport_clocks.specs.Reading.{Reading}
use Rattle.record_text.specs.declared.request.Request.{Request}
use Rattle.merkle_records.specs.Merkle.{Digest}
use Rattle.host_shard.specs.Content.{Content}
use Rattle.host_shard.specs.Shown.{shown_content}
use Rattle.host_plan.specs.declared.plans.Plan.{Plan}
use Rattle.host_plan.specs.Plan.{IsPlan}
use Rattle.host_epochs.specs.declared.hand.Hand.{Hand}
use Rattle.host_epochs.specs.declared.told.Loss.{Loss}
use Rattle.host_table.specs.declared.told.Service.{Service}
use Rattle.host_table.specs.declared.told.Stop.{Stop}
use Rattle.host_table.specs.Calls.{IsAfter, clock_at}
use Rattle.host_table.specs.Terms.{Terms, IsClockOf}
use Rattle.host_table.specs.Told.{Continues, TakesUp}
use Rattle.host_table.proofs.PlanLaws.{plan_one}

pub after_then : (a b c : Hand) (es fs : List Service) (ls ms : List Loss) (s t : Option Stop) → IsAfter a b es ls s → IsAfter b c fs ms t → IsAfter a c (es ++ fs) (ls ++ ms) t
after_then a b c es fs ls ms s t one two = record {
  worker = two.worker ∙ one.worker;
  services = two.services ∙ (ap (λ xs. xs ++ fs) one.services ∙ append_assoc _ es fs);
  losses = two.losses ∙ (ap (λ xs. xs ++ ms) one.losses ∙ append_assoc _ ls ms);
  stop = two.stop;
}

-- a clock of the phase is told by its stamp
pub clock_told : (terms : Terms) (clock : Reading) (stamp : Stamp) → IsClockOf terms clock → stamp ≡ clock.at → clock_at terms stamp ≡ clock
clock_told terms clock stamp is at = λ i. record { first = sym is.first i; end = sym is.end i; at = at i }

-- a service's plan, where the request has this one
pub service_plan : (terms : Terms) (absent : Bool) (digest : Digest) (worker : ℕ) (x : Content) (request : Request) (clock : Reading) (plan : Plan) (after : Content) (later : Reading) (service : Service)
    → absent ≡ terms.absent → digest ≡ terms.digest → shown_content service.before ≡ x → service.request ≡ request → service.clock ≡ clock
    → IsPlan terms.absent terms.digest service.worker (shown_content service.before) service.request service.clock service.plan (shown_content service.after) service.later
    → IsPlan absent digest worker x request clock plan after later → (service.plan ≡ plan) × (service.later ≡ later)
service_plan terms absent digest worker x request clock plan after later service told same before asked at mine its =
    plan_one terms.absent terms.digest service.worker worker (shown_content service.before) service.request service.clock service.plan plan (shown_content service.after) after service.later later mine
    (subst (λ (t : Bool × Digest × Content × Request × Reading). IsPlan t.0 t.1 worker t.2 t.3 t.4 plan after later) (λ i. (told i, same i, sym before i, sym asked i, sym at i)) its)

continues_more : (clock : Reading) (services : List Service) (service : Service) → Continues clock services service.clock → Continues clock (services ++ service ∷ []) service.later
continues_more clock [] service goes = (goes, refl)
continues_more clock (first ∷ services) service goes = (goes.0, continues_more first.later services service goes.1)

pub takes_more : (services : List Service) (service : Service) → TakesUp services service.clock → TakesUp (services ++ service ∷ []) service.later
takes_more [] service goes = refl
takes_more (first ∷ services) service goes = continues_more first.later services service goes

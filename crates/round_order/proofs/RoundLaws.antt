-- The one order of a round: its turns by their moments, and between them the epochs that the workers go on by.
use Rattle.std.proofs.Common.{◌≡◌, ℕ, ◌<◌, ◌≤◌, List, ◌++◌, Bool, filter, length, refl, sym, ◌∙◌, ap, subst}
use Rattle.host_core.specs.Host.{Host}
use Rattle.host_core.specs.World.{World, worker_at}
use Rattle.round_order.specs.Turn.{Turn, is_by, on_to, content_behind, clock_behind, served_behind, logged, content_at, in_one_order}
use Rattle.round_order.specs.Steady.{IsSteady}
use Rattle.round_order.specs.Told.{IsLevel, CanRoll, AreTold, IsRaised, joined, list_of, round_events, EndsWith, HasOneOrder, OrdersRound}
use Rattle.round_order.proofs.ChainLaws.{LeadsTo, Led, replay, replay_raised}
use Rattle.round_order.proofs.ReadyLemmas.{Ready}
use Rattle.round_order.proofs.OrderLaws.{worker_part, place_part, order_ready}

module _ {C R : Type 0} (host : Host C R) (scans : Bool) (steady : IsSteady host scans) (world : World C) (epoch top : ℕ) (finals : ℕ → ℕ) (level : IsLevel host world epoch)
    (lists : List (List (Turn C R))) (pasts : List (List (List (Turn C R)))) (told : AreTold host scans world top finals lists pasts) where
  abbrev pub turns : List (Turn C R)
  turns = in_one_order (joined lists)

  pub round_ready : epoch ≤ top → (epoch < top → CanRoll host world epoch top) → Ready host scans top finals world epoch turns
  round_ready within roll = order_ready host scans steady world epoch top finals level lists pasts told within roll

  pub round_led : epoch ≤ top → (epoch < top → CanRoll host world epoch top)
      → Led host scans steady top finals world turns (round_events finals (length world.workers) top epoch turns)
  round_led within roll =
      replay host scans steady top finals (length world.workers) turns world epoch refl (order_ready host scans steady world epoch top finals level lists pasts told within roll)

  pub round_raised : (within : epoch ≤ top) (roll : epoch < top → CanRoll host world epoch top) → IsRaised host world (round_led within roll).later epoch top
  unfolding round_led
  round_raised within roll =
      replay_raised host scans steady top finals (length world.workers) turns world epoch refl (order_ready host scans steady world epoch top finals level lists pasts told within roll)

  -- Where the turns lead to is as it is told.
  pub ends_told : (later : World C) → LeadsTo host scans steady top finals world later turns → EndsWith host world later top finals lists pasts
  ends_told later leads = record {
    contents = λ place. leads.contents place
        ∙ ap (content_behind (content_at host world place)) (place_part host scans steady world epoch top finals level lists pasts told place);
    logs = λ i there. leads.logs i there
        ∙ ap (λ (zs : List (Turn C R)). (worker_at host world i).log ++ logged (finals i) (worker_at host world i).clock zs) (part i);
    clocks = λ i there. leads.clocks i there
        ∙ ap (λ (zs : List (Turn C R)). on_to (finals i) (clock_behind (worker_at host world i).clock zs)) (part i);
    served = λ i. leads.served i ∙ ap (served_behind (worker_at host world i).served) (part i);
    stuck = leads.stuck;
    counts = (leads.count, leads.shards, leads.marks);
    idle = λ i within. leads.up.idle i (subst (λ (n : ℕ). i < n) (sym leads.count) within);
    phase = (leads.phase, leads.up.phase, leads.up.going);
  }
    where
      part : (i : ℕ) → filter (is_by i) turns ≡ list_of lists i
      part i = worker_part host scans steady world epoch top finals level lists pasts told i

  pub one_order : epoch ≤ top → (epoch < top → CanRoll host world epoch top) → HasOneOrder host world epoch top finals lists pasts
  one_order within roll =
      let led = round_led within roll in
      record {
        enabled = led.way.enabled;
        ends = subst (λ (later : World C). EndsWith host world later top finals lists pasts) (sym led.way.is) (ends_told led.later led.leads);
        stopped = λ i. ap (λ (later : World C). (worker_at host later i).stopped) led.way.is ∙ led.leads.stopped i;
        raised = subst (λ (later : World C). IsRaised host world later epoch top) (sym led.way.is) (round_raised within roll);
      }

-- What is told of a round has one order.
pub orders_round : {C R : Type 0} (host : Host C R) → OrdersRound host
orders_round host scans world epoch top finals lists pasts steady level within roll told =
    one_order host scans steady world epoch top finals level lists pasts told within roll

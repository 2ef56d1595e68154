use Rattle.std.proofs.Common.{◌++◌, ◌∷◌, [], ℕ, List, sym, ◌∙◌, ap, map}
use Rattle.std.proofs.lemmas.List.{map_push}
use Rattle.std.proofs.lemmas.List.Elements.{All-push}
use Rattle.certified_epochs.specs.declared.fed_run.FedRun.{FedRun}
use Rattle.host_epochs.specs.declared.hand.Hand.{Hand}
use Rattle.host_world.specs.declared.worker.Worker.{Worker}
use Rattle.worker_threads.specs.Participants.{worker_in, hand_in, HaveAll}
use Rattle.worker_threads.specs.Pairs.{parcels_in, run_in}
use Rattle.worker_threads.proofs.pairing.take_apart.Goals as goal

pub loop-pair-preserved : goal.loop-pair-preserved
loop-pair-preserved c =
    let so_far = c.loop-pair.invariant in
    let gone = c.loop-pair.yielded in
    let pair = c.in-Some.pair in
    record {
      workers = c.in_ok-push.ensures.items ∙ ap (λ (ws : List Worker). ws ++ pair.thread.worker ∷ []) so_far.workers ∙ sym (map_push worker_in gone pair);
      hands = c.in_ok-push-2.ensures.items ∙ ap (λ (hs : List Hand). hs ++ pair.thread.hand ∷ []) so_far.hands ∙ sym (map_push hand_in gone pair);
      parcels = c.in_ok-push-3.ensures.items ∙ ap (λ (ns : List ℕ). ns ++ c.parcels.result ∷ []) so_far.parcels ∙ ap (λ (n : ℕ). map parcels_in gone ++ n ∷ []) c.parcels.ensures.value ∙ sym (map_push parcels_in gone pair);
      runs =
          c.in_ok-push-4.ensures.items ∙ ap (λ (rs : List FedRun). rs ++ c.in_ok-into_run.field-0 ∷ []) so_far.runs
          ∙ ap (λ (r : FedRun). map run_in gone ++ r ∷ []) c.in_ok-into_run.ensures.run ∙ sym (map_push run_in gone pair);
      served = All-push HaveAll gone pair so_far.served (record { worker = c.if-wanting.false; verifier = c.in_ok-into_run.ensures.fed });
    }

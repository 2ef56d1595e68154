use denote.Param.Send.{sendable}
use Rattle.std.proofs.Common.{◌≡◌, ◌∙◌, sym, ap, subst, arith}
use Rattle.std.proofs.lemmas.Bool.{eqb-true}
use Rattle.worker_threads.specs.declared.serving.Meets.{Meets}
use Rattle.worker_threads.specs.declared.worker_pair.WorkerPair.{WorkerPair}
use Rattle.worker_threads.specs.Pairs.{CanMeet, HasMet}
use Rattle.worker_threads.proofs.SendLemmas.{pair-send}
use Rattle.worker_threads.proofs.MeetLemmas.{all_before, all_met, none_met, of_last}
use Rattle.worker_threads.proofs.serving.+serve_in.Goals as goal

pub returns-in_ok-push-in-Ok : goal.returns-in_ok-push-in-Ok
returns-in_ok-push-in-Ok g t c =
    let functions = g.D.Digests.functions in
    let round = g.S.LeadsToRound.round c.args.shared.now in
    let done = c.join-pair.result in
    let kept = subst (λ (p : Meets g.row.D.Denot g.row.S.Denot). HasMet functions (g.S.LeadsToRound.round p.shared.now) p.pair.value done) c.in-Ok.ensures.ok c.join-pair.ensures in
    let meets = subst (λ (was : WorkerPair). HasMet functions round was done) c.of.ensures kept in
    record {
      met = all_met c.args.pairs.items c.pop.new.self.items c.in-Some.pair c.in-Some.ensures.items functions round
          c.in_ok-met-in-Ok.met.items c.push-in-Ok.new.self.items done c.in_ok-met-in-Ok.ensures.met meets c.in_ok-push-in-Ok.ensures.items;
    }

pub returns-in_ok-push-in-Err : goal.returns-in_ok-push-in-Err
returns-in_ok-push-in-Err g t c =
    let functions = g.D.Digests.functions in
    let round = g.S.LeadsToRound.round c.args.shared.now in
    let done = c.meet-pair.result in
    let meets =
    subst (λ (was : WorkerPair). HasMet functions round was done) (ap (λ f. f.3) c.in-Err.ensures.err)
    (subst (λ shared. HasMet functions (g.S.LeadsToRound.round shared.now) c.in-Err.refused.value.3 done) (ap (λ f. f.1) c.in-Err.ensures.err) c.meet-pair.ensures) in
    record {
      met = all_met c.args.pairs.items c.pop.new.self.items c.in-Some.pair c.in-Some.ensures.items functions round
          c.in_ok-met-in-Err.met.items c.push-in-Err.new.self.items done c.in_ok-met-in-Err.ensures.met meets c.in_ok-push-in-Err.ensures.items;
    }

pub returns-then-is_empty : goal.returns-then-is_empty
returns-then-is_empty g t c =
    let functions = g.D.Digests.functions in
    let round = g.S.LeadsToRound.round c.args.shared.now in
    let front = c.pop.new.self.items in
    let empty : c.pop.new.self.len ≡ 0 = eqb-true c.pop.new.self.len 0 (sym c.is_empty.ensures ∙ c.if-is_empty.true) in
    let none = none_met functions round front (omega (arith, empty, c.pop.new.self.ok)) in
    record {
      met = all_met c.args.pairs.items front c.in-Some.pair c.in-Some.ensures.items functions round
          front c.push.new.self.items c.serve_one.result none c.serve_one.ensures.met c.in_ok-push.ensures.items;
    }

pub spawn_with-requires-send-F : goal.spawn_with-requires-send-F
spawn_with-requires-send-F g t c κs within = search (pair-send, c.requires-raw, sendable) depth 20

pub spawn_with-requires-send-T : goal.spawn_with-requires-send-T
spawn_with-requires-send-T g t c κs within = search (pair-send, sendable)

pub spawn_with-requires-clause-runs : goal.spawn_with-requires-clause-runs
spawn_with-requires-clause-runs g t c κs within =
    let can = of_last c.args.pairs.items c.pop.new.self.items c.in-Some.pair c.in-Some.ensures.items (CanMeet g.D.Digests.functions (g.S.LeadsToRound.round c.args.shared.now)) c.requires.ready in
    (can, search (c.requires-raw, sendable))

pub serve_in-met-requires-clause-ready : goal.serve_in-met-requires-clause-ready
serve_in-met-requires-clause-ready g t c κs within =
    all_before c.args.pairs.items c.pop.new.self.items c.in-Some.pair c.in-Some.ensures.items (CanMeet g.D.Digests.functions (g.S.LeadsToRound.round c.args.shared.now)) c.requires.ready

pub meet-pair-requires-after_bounds : goal.meet-pair-requires-after_bounds
meet-pair-requires-after_bounds g t c κs within =
    let functions = g.D.Digests.functions in
    let can = of_last c.args.pairs.items c.pop.new.self.items c.in-Some.pair c.in-Some.ensures.items (CanMeet functions (g.S.LeadsToRound.round c.args.shared.now)) c.requires.ready in
    subst (λ (pair : WorkerPair). CanMeet functions (g.S.LeadsToRound.round c.in-Err.refused.value.1.now) pair) (sym (ap (λ f. f.3) c.in-Err.ensures.err))
    (subst (λ shared. CanMeet functions (g.S.LeadsToRound.round shared.now) c.in-Some.pair) (sym (ap (λ f. f.1) c.in-Err.ensures.err)) can)

pub serve_in-requires-clause-ready : goal.serve_in-requires-clause-ready
serve_in-requires-clause-ready g t c κs within =
    all_before c.args.pairs.items c.pop.new.self.items c.in-Some.pair c.in-Some.ensures.items (CanMeet g.D.Digests.functions (g.S.LeadsToRound.round c.args.shared.now)) c.requires.ready

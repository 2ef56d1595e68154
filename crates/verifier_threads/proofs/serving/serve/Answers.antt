use Rattle.std.proofs.Common.{inl, inr, refl, sym, ◌∙◌, arith}
use Rattle.std.proofs.lemmas.Bool.{cases_lt}
use Rattle.std.proofs.lemmas.Result.{err_from_is_err_and}
use Rattle.verifier_threads.proofs.RunningLemmas.{stops-so, came-so, finishes-so}
use Rattle.verifier_threads.proofs.serving.serve.Goals as goal

pub rounds-init : goal.rounds-init
rounds-init g c =
    let settings = c.args.settings.now in
    let made = c.in_ok-runner.ensures in
    record {
      stands = made.stands (g.O.Sink.held c.args.out.now);
      call = λ is. elim (cases_lt settings.header.end settings.shards) [
        | inl short ↦ let end = made.unserved short in cc
        | inr enough ↦ let first = made.begins enough in cc
      ];
      vault_counts = c.make.ensures.never_falls;
      out_counts = omega arith;
      name = c.make.ensures.name;
    }

pub round-requires-clause-next : goal.round-requires-clause-next
round-requires-clause-next g c κs within = sym c.next_call.ensures.value ∙ c.in-Round.is

pub round-requires-clause-serving : goal.round-requires-clause-serving
round-requires-clause-serving g c κs within = (_, _, _, _, _, c.rounds.invariant.stands, refl)

pub close_epoch-requires-clause-next : goal.close_epoch-requires-clause-next
close_epoch-requires-clause-next g c κs within = c.in_ok-round-in-Round.ensures.next

pub close_epoch-requires-clause-serving : goal.close_epoch-requires-clause-serving
close_epoch-requires-clause-serving g c κs within = (_, _, _, _, _, c.in_ok-round-in-Round.ensures.stands _ _ _ _ _ c.rounds.invariant.stands refl, refl)

pub rounds-preserved : goal.rounds-preserved
rounds-preserved g c =
    let inv = c.rounds.invariant in
    let behind = c.in_ok-round-in-Round.ensures.stands _ _ _ _ _ inv.stands refl in
    record {
      stands = c.in_ok-close_epoch-in-Round.ensures.stands _ _ _ _ _ behind refl refl;
      call = c.in_ok-close_epoch-in-Round.ensures.next;
      vault_counts = omega (arith, inv.vault_counts, c.round.ensures.never_falls, c.close_epoch.ensures.vault_never_falls);
      out_counts = omega (arith, inv.out_counts, c.close_epoch.ensures.never_falls);
      name = c.close_epoch.ensures.name ∙ c.round.ensures.name ∙ inv.name;
    }

pub returns-in_err-runner-clause-serves : goal.returns-in_err-runner-clause-serves
returns-in_err-runner-clause-serves g c =
    let p = err_from_is_err_and c.from_residual.result c.from_residual.ensures.1 in
    let out = g.O.Sink.held c.args.out.now in
    rw p.1
    (stops-so c.args.account (g.D.Digests.functions c.args.d.now) c.args.settings.now c.args.requests.now p.0 _
    (λ is. c.in_err-runner.ensures.failure.source (came-so p.0 _ _ p.2 is)) (λ is. c.in_err-runner.ensures.failure.limit (came-so p.0 _ _ p.2 is))
    (c.in_err-runner.ensures.cut out) (λ is. inl (c.in_err-runner.ensures.header out)) (λ is. absurd (c.in_err-runner.ensures.failure.sink (came-so p.0 _ _ p.2 is))))

pub returns-in_err-round-in-Round-clause-serves : goal.returns-in_err-round-in-Round-clause-serves
returns-in_err-round-in-Round-clause-serves g c =
    let p = err_from_is_err_and c.from_residual-in_err-round-in-Round.result c.from_residual-in_err-round-in-Round.ensures.1 in
    let says = c.in_err-round-in-Round.ensures in
    let stands = c.rounds.invariant.stands in
    rw p.1
    (stops-so c.args.account (g.D.Digests.functions c.args.d.now) c.args.settings.now c.args.requests.now p.0 _
    (λ is. says.failure.source (came-so p.0 _ _ p.2 is)) (λ is. says.failure.limit (came-so p.0 _ _ p.2 is))
    (says.cut _ _ _ _ _ stands refl) (λ is. inr (says.cut_round _ _ _ _ _ stands refl)) (λ is. absurd (says.failure.sink (came-so p.0 _ _ p.2 is))))

pub returns-in_err-close_epoch-in-Round-clause-serves : goal.returns-in_err-close_epoch-in-Round-clause-serves
returns-in_err-close_epoch-in-Round-clause-serves g c =
    let p = err_from_is_err_and c.from_residual-in_err-close_epoch-in-Round.result c.from_residual-in_err-close_epoch-in-Round.ensures.1 in
    let says = c.in_err-close_epoch-in-Round.ensures in
    let behind = c.in_ok-round-in-Round.ensures.stands _ _ _ _ _ c.rounds.invariant.stands refl in
    rw p.1
    (stops-so c.args.account (g.D.Digests.functions c.args.d.now) c.args.settings.now c.args.requests.now p.0 _
    (λ is. says.failure.source (came-so p.0 _ _ p.2 is)) (λ is. says.failure.limit (came-so p.0 _ _ p.2 is))
    (says.cut _ _ _ _ _ behind refl refl) (λ is. inr (says.cut_round _ _ _ _ _ behind refl refl (came-so p.0 _ _ p.2 is)))
    (λ is. says.lines _ _ _ _ _ behind (came-so p.0 _ _ p.2 is)))

pub returns-clause-serves : goal.returns-clause-serves
returns-clause-serves g c =
    let stands = c.rounds.invariant.stands in
    finishes-so c.args.account (g.D.Digests.functions c.args.d.now) c.args.settings.now c.args.requests.now c.finish.result _
    (c.finish.ensures.served _ _ _ _ _ stands refl) (c.finish.ensures.cut _ _ _ _ _ stands refl) c.finish.ensures.stop

pub rounds-smaller : goal.rounds-smaller
rounds-smaller g c = omega (arith, c.in_ok-close_epoch-in-Round.ensures.fewer, c.in_ok-round-in-Round.ensures.left)

pub finish-requires : goal.finish-requires
finish-requires g c =
    let inv = c.rounds.invariant in
    record {
      next = elim c.in-Close.is [
        | inl close ↦ absurd (inv.call (sym c.next_call.ensures.value ∙ close))
        | inr end ↦ sym c.next_call.ensures.value ∙ end
      ];
      serving = (_, (_, _, _, _, _, inv.stands, refl));
    }

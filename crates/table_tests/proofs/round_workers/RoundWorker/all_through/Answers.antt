use Rattle.std.proofs.Common.{◌≡◌, ℕ, suc, ◌+◌, ◌<◌, ◌≤◌, [], ◌∷◌, refl, sym, ap, subst, ⊎_elim, arith, rules}
use Rattle.std.proofs.lemmas.Bool.{cases_lt}
use Rattle.host_epochs.specs.declared.views.Row.{Row}
use Rattle.host_epochs.specs.Calls.{HasReached}
use Rattle.host_epochs.specs.Hands.{entered, row_of, seen}
use Rattle.host_epochs.specs.Table.{table, terms}
use Rattle.host_epochs.proofs.ScanLaws.{reached_more}
use Rattle.table_tests.proofs.RoundLemmas.{looked_on, seen_one}
use Rattle.table_tests.proofs.round_workers.RoundWorker.all_through.Goals as goal

pub returns-then-done-self-clause-goes : goal.returns-then-done-self-clause-goes
returns-then-done-self-clause-goes g c =
    looked_on (terms g.D.Digests.functions c.args.epochs.now) (table c.args.epochs.now) c.args.self.now c.loop-worker.self _ _ c.loop-worker.invariant.goes c.done.ensures.keeps c.done.ensures.after
    refl refl (λ goes. goes)

pub loop-worker-preserved : goal.loop-worker-preserved
loop-worker-preserved g c =
    let old = c.loop-worker.self in
    let now = c.done.new.hand in
    let same : entered now ≡ entered old.hand = ap (λ (r : Row). r.entered) c.done.ensures.after.row in
    let far : entered now ≤ c.done.result = search rules in
    record {
      goes = looked_on (terms g.D.Digests.functions c.args.epochs.now) (table c.args.epochs.now) c.args.self.now old _ _ c.loop-worker.invariant.goes c.done.ensures.keeps c.done.ensures.after
          refl refl (λ goes. goes);
      going = c.loop-worker.invariant.going;
      all = λ x below. ⊎_elim
          (λ (less : x < c.loop-worker.worker).
          subst (λ (n : ℕ). HasReached (seen now) x n) (sym same)
          (subst (λ xs. HasReached xs x (entered old.hand)) (sym c.done.ensures.after.seen) (reached_more (seen old.hand) _ x (entered old.hand) (c.loop-worker.invariant.all x less))))
          (λ (more : c.loop-worker.worker ≤ x).
          let is : c.loop-worker.worker ≡ x = omega (arith, more, below) in
          subst (λ (n : ℕ). HasReached (seen now) n (entered now)) is (seen_one (terms g.D.Digests.functions c.args.epochs.now) (table c.args.epochs.now) old.hand now (row_of old.hand) c.loop-worker.worker c.done.result c.done.ensures.after far))
          (cases_lt x c.loop-worker.worker);
    }

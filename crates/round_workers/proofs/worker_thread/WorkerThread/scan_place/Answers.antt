use Rattle.std.proofs.Common.{◌≡◌, ℕ, suc, ◌+◌, ◌/◌, ◌≤◌, true≢false, List, [], refl, sym, ◌∙◌, ap, subst, inl, inr, ⊎_elim, arith}
use Rattle.log_codec.specs.declared.command.Command.{Command}
use Rattle.host_shard.specs.Content.{vacant}
use Rattle.host_shard.specs.Shown.{shown_content}
use Rattle.host_epochs.specs.declared.hand.Hand.{Hand}
use Rattle.host_epochs.specs.declared.told.Reached.{Reached}
use Rattle.host_epochs.specs.Calls.{HasReached}
use Rattle.host_epochs.specs.Hands.{entered, history, left, row_of}
use Rattle.host_epochs.specs.Plays.{given_back}
use Rattle.host_epochs.specs.Scan.{IsStale}
use Rattle.host_epochs.specs.Table.{terms}
use Rattle.host_epochs.specs.Terms.{Terms, epoch_of, first_epoch}
use Rattle.host_epochs.proofs.ScanLaws.{reached_last}
use Rattle.host_world.specs.Workers.{shown_worker}
use Rattle.round_workers.specs.declared.worker_thread.WorkerThread.{WorkerThread}
use Rattle.host_epochs.specs.declared.views.Row.{Row}
use Rattle.round_workers.specs.Placed.{ScansAt, ScansFrom}
use Rattle.round_workers.specs.Working.{Keeps}
use Rattle.round_workers.proofs.ColdLemmas.{vacant_first}
use Rattle.round_workers.proofs.HandLemmas.{fresh_or_vacant, stands-after, stands-then, stands-waited}
use Rattle.round_workers.proofs.OrderLemmas.{scans-less}
use Rattle.round_workers.proofs.PartLemmas.{keeps-as, keeps-then}
use Rattle.round_workers.proofs.worker_thread.WorkerThread.scan_place.Goals as goal

pub returns-then-is_stale-clause-keeps : goal.returns-then-is_stale-clause-keeps
returns-then-is_stale-clause-keeps g c =
    let t : Terms = terms g.D.Digests.functions c.args.shared.now.epochs.now in
    let old : WorkerThread = c.args.self.now in
    let taken : WorkerThread = record old { worker = record (old.worker) { log = c.settle.new.self }; hand = c.take-content.new.hand } in
    let same : Keeps t old taken = keeps-as t old taken c.take-content.ensures.waited.row
    (ap (λ (commands : List Command). record (shown_worker old.worker) { log = commands }) c.settle.ensures.commands) in
    keeps-then t old taken c.renew.new.self same c.renew.ensures.keeps

pub renew-requires-clause-scans : goal.renew-requires-clause-scans
renew-requires-clause-scans g c =
    let t : Terms = terms g.D.Digests.functions c.args.shared.now.epochs.now in
    subst (λ (r : Row). ScansAt t r c.args.place) (sym c.take-content.ensures.waited.row) c.requires.scans

pub returns-clause-scans : goal.returns-clause-scans
returns-clause-scans g c = λ _.
    let t : Terms = terms g.D.Digests.functions c.args.shared.now.epochs.now in
    subst (λ (r : Row). ScansFrom t r (suc (c.args.place / 5))) (sym (c.give.ensures.gives.row ∙ c.take-content.ensures.waited.row))
    (scans-less t (row_of c.args.self.now.hand) (c.args.place / 5) (suc (c.args.place / 5)) (omega arith) c.requires.scans.1)

pub returns-clause-stands : goal.returns-clause-stands
returns-clause-stands g c = λ _.
    let held : Hand = c.take-content.new.hand in
    stands-then c.args.self.now.hand held c.give.new.hand (stands-waited c.args.self.now.hand held c.take-content.ensures.waited)
    (stands-after held c.give.new.hand (row_of held) [] _ [] c.give.ensures.gives refl refl)

pub returns-clause-renewed : goal.returns-clause-renewed
returns-clause-renewed g c = λ _.
    let t : Terms = terms g.D.Digests.functions c.args.shared.now.epochs.now in
    let old : WorkerThread = c.args.self.now in
    let held : Hand = c.take-content.new.hand in
    let taken = c.take-content.ensures.taken in
    let epoch : ℕ = c.at.result.epoch in
    let not : IsStale epoch (shown_content c.take-content.result) → ⊥ = λ stale. true≢false (sym (c.if-is_stale.ensures.stale.1 stale)) in
    let least : ℕ = first_epoch t + entered c.give.new.hand in
    let given : Reached = given_back c.args.place c.take-content.result in
    let stands = stands-then old.hand held c.give.new.hand (stands-waited old.hand held c.take-content.ensures.waited)
    (stands-after held c.give.new.hand (row_of held) [] _ [] c.give.ensures.gives refl refl) in
    let here = c.requires.going.behind.epoch in
    let at : epoch ≡ old.worker.clock.at.epoch = ap (λ stamp. stamp.epoch) c.at.ensures.value in
    ⊎_elim
    (λ (none' : shown_content c.take-content.result ≡ vacant). inl (vacant_first t c.args.place (history held) c.take-content.result taken.leads none'))
    (λ (far : epoch ≤ epoch_of (shown_content c.take-content.result)).
    inr (subst (λ (noted : List Reached). HasReached noted c.args.place least) (sym c.give.ensures.gives.left)
    (reached_last (left held) given c.args.place least refl (let same = stands.entered in omega (arith, same, far, here, at)))))
    (fresh_or_vacant epoch (shown_content c.take-content.result) not)

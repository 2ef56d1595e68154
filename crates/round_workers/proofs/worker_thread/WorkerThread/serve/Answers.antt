use Rattle.std.proofs.Common.{◌≡◌, ℕ, ◌≤◌, List, ◌∷◌, sym, ap, subst, arith}
use Rattle.record_text.specs.declared.request.Request.{Request}
use Rattle.log_codec.specs.declared.command.Command.{Command}
use Rattle.host_epochs.specs.declared.views.Row.{Row}
use Rattle.host_epochs.specs.Hands.{entered, row_of}
use Rattle.host_epochs.specs.Table.{terms}
use Rattle.host_epochs.specs.Terms.{Terms}
use Rattle.host_world.specs.Workers.{shown_worker}
use Rattle.round_workers.specs.declared.worker_thread.WorkerThread.{WorkerThread}
use Rattle.round_workers.specs.Working.{HasCome}
use Rattle.round_workers.proofs.PartLemmas.{come-as}
use Rattle.round_workers.proofs.worker_thread.WorkerThread.serve.Goals as goal

pub returns-then-not-branch-clause-ends : goal.returns-then-not-branch-clause-ends
returns-then-not-branch-clause-ends g c = λ _ asked rest start come.
    let turn : ℕ × Request = (c.args.turn.now.phase, c.args.turn.now.task.request) in
    (turn ∷ rest, c.in_ok-reach.ensures.keeps asked (turn ∷ rest) start (λ _. omega arith) come)

pub returns-then-not-branch-2-clause-ends : goal.returns-then-not-branch-2-clause-ends
returns-then-not-branch-2-clause-ends g c = λ _ asked rest start come.
    let turn : ℕ × Request = (c.args.turn.now.phase, c.args.turn.now.task.request) in
    (turn ∷ rest, c.in_ok-keep_up.ensures.keeps asked (turn ∷ rest) start (c.in_ok-reach.ensures.keeps asked (turn ∷ rest) start (λ _. omega arith) come))

pub returns-clause-serves : goal.returns-clause-serves
returns-clause-serves g c = λ on asked rest start come.
    let t : Terms = terms g.D.Digests.functions c.args.shared.now.epochs.now in
    let phase : ℕ = c.args.turn.now.phase in
    let turn : ℕ × Request = (phase, c.args.turn.now.task.request) in
    let kept : WorkerThread = c.keep_up.new.self in
    let taken : WorkerThread = record kept { worker = record (kept.worker) { log = c.settle.new.self }; hand = c.take-content.new.hand } in
    let so_far = come-as t asked (turn ∷ rest) start kept taken c.take-content.ensures.waited.row
    (ap (λ (commands : List Command). record (shown_worker kept.worker) { log = commands }) c.settle.ensures.commands)
    (c.in_ok-keep_up.ensures.keeps asked (turn ∷ rest) start (c.in_ok-reach.ensures.keeps asked (turn ∷ rest) start (λ _. omega arith) come)) in
    let begun : phase ≤ entered c.take-content.new.hand =
    (let reached = c.in_ok-reach.ensures.reached c.if-not-branch.false in
    let later = c.in_ok-keep_up.ensures.not_before c.if-not-branch-2.false in
    let same : entered c.take-content.new.hand ≡ entered kept.hand = ap (λ (r : Row). r.entered) c.take-content.ensures.waited.row in
    omega (arith, reached, later, same)) in
    come-as t asked rest start c.serve_taken.new.self c.offer.new.self (ap row_of c.offer.ensures.hand) c.offer.ensures.worker
    (c.in_ok-on.ensures.serves on phase begun asked rest start
    (subst (λ (r : Request). HasCome t asked ((phase, r) ∷ rest) start taken) (sym c.request-request.ensures.value) so_far))

pub returns-clause-ends : goal.returns-clause-ends
returns-clause-ends g c = λ on asked rest start come.
    let t : Terms = terms g.D.Digests.functions c.args.shared.now.epochs.now in
    let phase : ℕ = c.args.turn.now.phase in
    let turn : ℕ × Request = (phase, c.args.turn.now.task.request) in
    let kept : WorkerThread = c.keep_up.new.self in
    let taken : WorkerThread = record kept { worker = record (kept.worker) { log = c.settle.new.self }; hand = c.take-content.new.hand } in
    let so_far = come-as t asked (turn ∷ rest) start kept taken c.take-content.ensures.waited.row
    (ap (λ (commands : List Command). record (shown_worker kept.worker) { log = commands }) c.settle.ensures.commands)
    (c.in_ok-keep_up.ensures.keeps asked (turn ∷ rest) start (c.in_ok-reach.ensures.keeps asked (turn ∷ rest) start (λ _. omega arith) come)) in
    let begun : phase ≤ entered c.take-content.new.hand =
    (let reached = c.in_ok-reach.ensures.reached c.if-not-branch.false in
    let later = c.in_ok-keep_up.ensures.not_before c.if-not-branch-2.false in
    let same : entered c.take-content.new.hand ≡ entered kept.hand = ap (λ (r : Row). r.entered) c.take-content.ensures.waited.row in
    omega (arith, reached, later, same)) in
    let left = c.in_ok-on.ensures.ends on phase begun asked rest start
    (subst (λ (r : Request). HasCome t asked ((phase, r) ∷ rest) start taken) (sym c.request-request.ensures.value) so_far) in
    (left.0, come-as t asked left.0 start c.serve_taken.new.self c.offer.new.self (ap row_of c.offer.ensures.hand) c.offer.ensures.worker left.1)

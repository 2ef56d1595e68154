use Rattle.std.proofs.Common.{◌≡◌, ℕ, suc, ◌+◌, ◌≤◌, Bool, true, false, List, ◌∷◌, sym, ◌∙◌, ap, subst, arith}
use Rattle.host_shard.specs.declared.content.Content as code
use Rattle.host_shard.specs.Shown.{shown_content}
use Rattle.host_epochs.specs.declared.hand.Hand.{Hand}
use Rattle.host_epochs.specs.declared.told.Entry.{Entry}
use Rattle.host_epochs.specs.Hands.{worker_of, entered, done}
use Rattle.host_epochs.specs.Table.{table, terms}
use Rattle.host_epochs.specs.Terms.{Terms, IsNear, IsUpToDate, Waits, first_at, first_epoch}
use Rattle.host_epochs.specs.Told.{Leads}
use Rattle.host_epochs.proofs.HandLaws.{holds_still}
use Rattle.round_workers.specs.declared.worker_thread.WorkerThread.{WorkerThread}
use Rattle.round_workers.specs.Placed.{IsNewer}
use Rattle.round_workers.specs.Working.{EndsBy, Serves}
use Rattle.round_workers.proofs.HandLemmas.{kept_entered, newer_beside, newer_from, newer_near}
use Rattle.round_workers.proofs.PartLemmas.{if_ok}
use Rattle.round_workers.proofs.worker_thread.WorkerThread.serve_newer.Goals as goal

pub give-requires-clause-holds : goal.give-requires-clause-holds
give-requires-clause-holds g c =
    (holds_still (table c.args.shared.now.epochs.now) c.args.self.now.hand c.enter.new.self.hand c.args.place c.enter.ensures.seat c.requires.taken.holds).holds

pub give-requires-clause-may : goal.give-requires-clause-may
give-requires-clause-may g c =
    let still = holds_still (table c.args.shared.now.epochs.now) c.args.self.now.hand c.enter.new.self.hand c.args.place c.enter.ensures.seat c.requires.taken.holds in
    ap (λ (x : code.Content). shown_content x) (sym (still.content_is ∙ c.requires.taken.content_is))

pub answer-requires-clause-taken : goal.answer-requires-clause-taken
answer-requires-clause-taken g c =
    let t : Terms = terms g.D.Digests.functions c.args.shared.now.epochs.now in
    let hand : Hand = c.args.self.now.hand in
    let taken = c.requires.taken in
    let still = holds_still (table c.args.shared.now.epochs.now) hand c.enter.new.self.hand c.args.place c.enter.ensures.seat taken.holds in
    let turned : entered c.enter.new.self.hand ≡ suc (entered hand) = c.in-Ok.ensures.entered c.if-prove.false in
    record {
      there = taken.there;
      holds = still.holds;
      content_is = still.content_is ∙ taken.content_is;
      leads = subst (λ (past : List Entry). Leads t c.args.place (first_at t c.args.place) past c.args.content) (sym still.history_is) taken.leads;
      near = subst (λ (at : ℕ × ℕ). IsNear t at.0 at.1 c.args.content) (λ i. (sym turned i, sym c.in-Ok.ensures.through i))
          (newer_near t (entered hand) (done hand) c.args.content
          (subst (λ (n : ℕ). IsNewer n (shown_content c.args.content)) c.requires.on.going.behind.epoch c.requires.newer) taken.near);
      kept = subst (λ (at : ℕ × ℕ × ℕ). IsUpToDate t c.args.place at.0 at.1 at.2 c.args.content)
          (λ i. (sym c.enter.ensures.goes_on.number i, sym turned i, sym c.in-Ok.ensures.through i))
          (kept_entered t c.args.place (worker_of hand) (entered hand) (done hand) c.args.content taken.kept);
    }

pub answer-requires-clause-fresh : goal.answer-requires-clause-fresh
answer-requires-clause-fresh g c = λ _.
    let t : Terms = terms g.D.Digests.functions c.args.shared.now.epochs.now in
    let hand : Hand = c.args.self.now.hand in
    let turned : entered c.enter.new.self.hand ≡ suc (entered hand) = c.in-Ok.ensures.entered c.if-prove.false in
    subst (λ (n : ℕ). Waits (λ epoch. first_epoch t + n ≤ epoch) (shown_content c.args.content)) (sym turned)
    (newer_from t (entered hand) (shown_content c.args.content)
    (subst (λ (n : ℕ). IsNewer n (shown_content c.args.content)) c.requires.on.going.behind.epoch c.requires.newer))

pub scan_own-requires-clause-scans : goal.scan_own-requires-clause-scans
scan_own-requires-clause-scans g c = c.in_ok-answer.ensures.scans c.if-not-branch.false (c.in-Ok.ensures.opened c.if-prove.false)

pub returns-then-not-branch-clause-ends : goal.returns-then-not-branch-clause-ends
returns-then-not-branch-clause-ends g c = λ _ phase begun asked rest start come.
    let t : Terms = terms g.D.Digests.functions c.args.shared.now.epochs.now in
    let hand : Hand = c.args.self.now.hand in
    let beside = newer_beside t c.args.place (worker_of hand) (entered hand) (done hand) c.args.content c.requires.taken.kept
    (subst (λ (n : ℕ). IsNewer n (shown_content c.args.content)) c.requires.on.going.behind.epoch c.requires.newer) in
    c.in_ok-answer.ensures.ends c.if-not-branch.true phase asked rest start
    (c.in-Ok.ensures.keeps asked ((phase, c.args.request.now) ∷ rest) start (λ alone. absurd (beside alone)) come)

pub returns-clause-serves : goal.returns-clause-serves
returns-clause-serves g c =
    let t : Terms = terms g.D.Digests.functions c.args.shared.now.epochs.now in
    let old : WorkerThread = c.args.self.now in
    let turned : entered c.enter.new.self.hand ≡ suc (entered old.hand) = c.in-Ok.ensures.entered c.if-prove.false in
    let beside = newer_beside t c.args.place (worker_of old.hand) (entered old.hand) (done old.hand) c.args.content c.requires.taken.kept
    (subst (λ (n : ℕ). IsNewer n (shown_content c.args.content)) c.requires.on.going.behind.epoch c.requires.newer) in
    if_ok (λ (on : Bool). on ≡ true → (phase : ℕ) → phase ≤ entered old.hand → Serves t phase c.args.request.now old c.scan_own.new.self) c.scan_own.result
    (λ keeps on _ phase begun asked rest start come.
    keeps asked rest start
    (c.in_ok-answer.ensures.serves c.if-not-branch.false phase (omega (arith, begun, turned)) asked rest start
    (c.in-Ok.ensures.keeps asked ((phase, c.args.request.now) ∷ rest) start (λ alone. absurd (beside alone)) come)))
    c.scan_own.ensures.keeps

pub returns-clause-ends : goal.returns-clause-ends
returns-clause-ends g c =
    let t : Terms = terms g.D.Digests.functions c.args.shared.now.epochs.now in
    let old : WorkerThread = c.args.self.now in
    let turned : entered c.enter.new.self.hand ≡ suc (entered old.hand) = c.in-Ok.ensures.entered c.if-prove.false in
    let beside = newer_beside t c.args.place (worker_of old.hand) (entered old.hand) (done old.hand) c.args.content c.requires.taken.kept
    (subst (λ (n : ℕ). IsNewer n (shown_content c.args.content)) c.requires.on.going.behind.epoch c.requires.newer) in
    if_ok (λ (on : Bool). on ≡ false → (phase : ℕ) → phase ≤ entered old.hand → EndsBy t phase c.args.request.now old c.scan_own.new.self) c.scan_own.result
    (λ keeps on _ phase begun asked rest start come. (
      rest,
      keeps asked rest start
          (c.in_ok-answer.ensures.serves c.if-not-branch.false phase (omega (arith, begun, turned)) asked rest start
          (c.in-Ok.ensures.keeps asked ((phase, c.args.request.now) ∷ rest) start (λ alone. absurd (beside alone)) come)),
    ))
    c.scan_own.ensures.keeps

use Rattle.std.proofs.Common.{rules, ◌≡◌, ℕ, ◌+◌, ◌<◌, ◌≤◌, true≢false, List, [], ◌∷◌, drop, length, get_or, sym, ◌∙◌, ap, subst, arith}
use Rattle.std.proofs.lemmas.List.{length-map}
use Rattle.std.proofs.lemmas.List.Elements.{All-get_or}
use Rattle.record_text.specs.declared.request.Request.{Request}
use Rattle.host_epochs.specs.Hands.{worker_of}
use Rattle.host_epochs.specs.Table.{terms}
use Rattle.host_epochs.specs.Terms.{Terms}
use Rattle.host_world.specs.Workers.{shown_worker}
use Rattle.round_workers.specs.declared.turn.Turn.{Turn}
use Rattle.round_workers.specs.Order.{CallsFor}
use Rattle.round_workers.specs.Parts.{asked_in, HasPlace, HavePlaces}
use Rattle.round_workers.specs.Sharing.{turns_in}
use Rattle.round_workers.specs.Working.{HasCome}
use Rattle.round_workers.proofs.PartLemmas.{drop-all, drop-turn, own-turns, whole-part}
use Rattle.round_workers.proofs.worker_thread.WorkerThread.serve_turns.Goals as goal

pub serve-requires-clause-place : goal.serve-requires-clause-place
serve-requires-clause-place g c =
    let t : Terms = terms g.D.Digests.functions c.args.shared.now.epochs.now in
    let turns = turns_in c.args.shared.now in
    let number = worker_of c.args.self.now.hand in
    let items = c.deref-turn-items.result.now in
    let many = c.requires.shared.turns.many in
    let counted = length-map c.args.shared.now.turns.now (λ own. own.items) in
    let within : number < length c.args.shared.now.turns.now = (let known = c.requires.on.going.known in omega (arith, known, many, counted)) in
    let own_is : items ≡ get_or turns number [] =
    c.deref-turn-items.ensures.value
    ∙ own-turns (λ own. own.items) c.args.shared.now.turns.now c.index-shared-from.result c.from.result number (c.from.ensures ∙ c.worker.ensures.worker) within in
    let all : HavePlaces t items =
    subst (HavePlaces t) (sym own_is) (All-get_or (HavePlaces t) turns number [] (let known = c.requires.on.going.known in omega (arith, known, many)) c.requires.shared.turns.places) in
    subst (HasPlace t) (sym c.turn-item.is) (All-get_or (HasPlace t) items c.loop-turn.turn-index c.turn-item.result c.loop-turn-test.true all)

pub returns-then-not-branch-clause-done : goal.returns-then-not-branch-clause-done
returns-then-not-branch-clause-done g c =
    let t : Terms = terms g.D.Digests.functions c.args.shared.now.epochs.now in
    let number = worker_of c.args.self.now.hand in
    let items = c.deref-turn-items.result.now in
    let start = shown_worker c.args.self.now.worker in
    let many = c.requires.shared.turns.many in
    let counted = length-map c.args.shared.now.turns.now (λ own. own.items) in
    let within : number < length c.args.shared.now.turns.now = (let known = c.requires.on.going.known in omega (arith, known, many, counted)) in
    let own_is : items ≡ get_or (turns_in c.args.shared.now) number [] =
    c.deref-turn-items.ensures.value
    ∙ own-turns (λ own. own.items) c.args.shared.now.turns.now c.index-shared-from.result c.from.result number (c.from.ensures ∙ c.worker.ensures.worker) within in
    let next : asked_in (drop c.loop-turn.turn-index items) ≡ (c.turn-item.result.phase, c.turn-item.result.task.request) ∷ asked_in (drop (c.loop-turn.turn-index + 1) items) =
    ap asked_in (drop-turn items c.loop-turn.turn-index c.turn-item.result c.loop-turn-test.true c.turn-item.is) in
    let left = c.in_ok-serve.ensures.ends c.if-not-branch.true (asked_in items) (asked_in (drop (c.loop-turn.turn-index + 1) items)) start
    (subst (λ (rest : List (ℕ × Request)). HasCome t (asked_in items) rest start c.loop-turn.self) next c.loop-turn.invariant.come) in
    record {
      rest = left.0;
      so_far = subst (λ (turns : List Turn). HasCome t (asked_in turns) left.0 start c.serve.new.self) own_is left.1;
      whole = λ stopped unwarned. absurd (true≢false (sym (c.in_ok-serve.ensures.ended c.if-not-branch.true stopped) ∙ unwarned));
    }

pub loop-turn-preserved : goal.loop-turn-preserved
loop-turn-preserved g c =
    let t : Terms = terms g.D.Digests.functions c.args.shared.now.epochs.now in
    let items = c.deref-turn-items.result.now in
    let start = shown_worker c.args.self.now.worker in
    let so_far = c.loop-turn.invariant in
    let served = c.in_ok-serve.ensures in
    let next : asked_in (drop c.loop-turn.turn-index items) ≡ (c.turn-item.result.phase, c.turn-item.result.task.request) ∷ asked_in (drop (c.loop-turn.turn-index + 1) items) =
    ap asked_in (drop-turn items c.loop-turn.turn-index c.turn-item.result c.loop-turn-test.true c.turn-item.is) in
    record {
      free = served.free;
      sends = served.sends;
      on = served.on c.if-not-branch.false;
      goes_on = record {
        number = served.goes_on.number ∙ so_far.goes_on.number;
        writer = served.goes_on.writer ∙ so_far.goes_on.writer;
        lane = search rules;
      };
      come = served.serves c.if-not-branch.false (asked_in items) (asked_in (drop (c.loop-turn.turn-index + 1) items)) start
          (subst (λ (rest : List (ℕ × Request)). HasCome t (asked_in items) rest start c.loop-turn.self) next so_far.come);
    }

pub returns-clause-done : goal.returns-clause-done
returns-clause-done g c =
    let t : Terms = terms g.D.Digests.functions c.args.shared.now.epochs.now in
    let number = worker_of c.args.self.now.hand in
    let items = c.deref-turn-items.result.now in
    let start = shown_worker c.args.self.now.worker in
    let many = c.requires.shared.turns.many in
    let counted = length-map c.args.shared.now.turns.now (λ own. own.items) in
    let within : number < length c.args.shared.now.turns.now = (let known = c.requires.on.going.known in omega (arith, known, many, counted)) in
    let own_is : items ≡ get_or (turns_in c.args.shared.now) number [] =
    c.deref-turn-items.ensures.value
    ∙ own-turns (λ own. own.items) c.args.shared.now.turns.now c.index-shared-from.result c.from.result number (c.from.ensures ∙ c.worker.ensures.worker) within in
    let all : c.loop-turn.turn-index ≡ length items = omega (arith, c.loop-turn-test.false, c.loop-turn.auto.turn-index-end) in
    let rest : List (ℕ × Request) = asked_in (drop c.loop-turn.turn-index items) in
    let reached = c.in_ok-reach.ensures in
    let more = c.requires.shared.more in
    let none' : rest ≡ [] = ap asked_in (drop-all items c.loop-turn.turn-index all) in
    record {
      rest = rest;
      so_far = subst (λ (turns : List Turn). HasCome t (asked_in turns) rest start c.reach.new.self) own_is
          (reached.keeps (asked_in items) rest start (λ _. subst (λ (left : List (ℕ × Request)). CallsFor left c.args.shared.now.more) (sym none') tt) c.loop-turn.invariant.come);
      whole = whole-part t c.in_ok-reach.field-0 rest c.reach.new.self none' reached.on
          (λ on. subst (λ (n : ℕ). n ≤ Rattle.host_epochs.specs.Hands.entered c.reach.new.self.hand) more (reached.reached on)) reached.ended;
    }

use Rattle.std.proofs.Common.{◌≡◌, ℕ, ◌+◌, ◌≤◌, ◌<◌, length, ap, sym, ◌∙◌, subst, arith}
use Rattle.lamport_clocks.specs.declared.header.Header.{Header}
use Rattle.host_epochs.specs.Calls.{AreAll}
use Rattle.host_epochs.specs.Table.{table, terms}
use Rattle.host_epochs.specs.Terms.{Terms, first_epoch}
use Rattle.table_tests.proofs.ReadyLemmas.{epoch_is, making_of}
use Rattle.table_tests.proofs.StartLemmas.{workers_from}
use Rattle.table_tests.proofs.round_tables.set_up_round.Goals as goal

pub make-requires : goal.make-requires
make-requires g c =
    let ready = c.in-Ok.ensures.ready in
    let verifiers : c.header.result.verifiers ≡ 64 = ap (λ (h : Header). h.verifiers) c.header.ensures.value in
    let end : c.header.result.end ≡ c.args.end = ap (λ (h : Header). h.end) c.header.ensures.value in
    let some : 0 < length c.in-Ok.contents.items = omega (arith, ready.1, c.requires.places.0) in
    let few : c.args.workers ≤ c.header.result.verifiers = omega (arith, verifiers, c.requires.workers.1) in
    let late : 64 ≤ c.header.result.end = omega (arith, end, c.requires.end) in
    record {
      making = making_of c.header.result c.args.workers c.in-Ok.field-0-0.items c.in-Ok.contents.items ready.0 some c.requires.workers.0 few late;
    }

pub returns-clause-shape : goal.returns-clause-shape
returns-clause-shape g c =
    let ready = c.in-Ok.ensures.ready in
    let some : 0 < length c.in-Ok.contents.items = omega (arith, ready.1, c.requires.places.0) in
    let made : Terms = terms g.D.Digests.functions c.in-Ok-make.epochs in
    let is = c.in-Ok-make.ensures.terms in
    let places : length made.contents ≡ length c.in-Ok.contents.items = ap (λ (t : Terms). length t.contents) is in
    let epoch : first_epoch made ≡ 1 = ap (λ (t : Terms). first_epoch t) is ∙ epoch_is c.in-Ok.field-0-0.items c.in-Ok.contents.items ready.0 some in
    record {
      places_are = omega (arith, places, ready.1);
      workers_are = sym (ap (λ (t : Terms). t.workers) is);
      more_are = sym (ap (λ (t : Terms). t.more) is);
      few = omega (arith, epoch, c.requires.more);
    }

pub returns-clause-workers : goal.returns-clause-workers
returns-clause-workers g c =
    let ready = c.in-Ok.ensures.ready in
    let some : 0 < length c.in-Ok.contents.items = omega (arith, ready.1, c.requires.places.0) in
    let made : Terms = terms g.D.Digests.functions c.in-Ok-make.epochs in
    let is = c.in-Ok-make.ensures.terms in
    let header : made.header ≡ c.header.result = ap (λ (t : Terms). t.header) is in
    let workers : made.workers ≡ c.args.workers = ap (λ (t : Terms). t.workers) is in
    workers_from made (table c.in-Ok-make.epochs) c.in-Ok-seat_all.list.items c.args.end c.in-Ok-make.hands.items c.in-Ok-seat_all.ensures.hands
    (subst (λ (n : ℕ). AreAll (table c.in-Ok-make.epochs) n c.in-Ok-make.hands.items) (sym workers) c.in-Ok-make.ensures.hands) c.in-Ok-make.ensures.new c.in-Ok-seat_all.ensures.new
    (ap (λ (h : Header). h.first) header ∙ ap (λ (h : Header). h.first) c.header.ensures.value)
    (ap (λ (h : Header). h.end) header ∙ ap (λ (h : Header). h.end) c.header.ensures.value)
    (ap (λ (t : Terms). first_epoch t) is ∙ epoch_is c.in-Ok.field-0-0.items c.in-Ok.contents.items ready.0 some)

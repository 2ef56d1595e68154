use Rattle.std.proofs.Common.{◌≡◌, ◌≤◌, ◌<◌, length, ap, sym, subst, arith}
use Rattle.lamport_clocks.specs.declared.header.Header.{Header}
use Rattle.lamport_clocks.specs.Clock.{opening_reading}
use Rattle.host_table.specs.Terms.{Terms, IsClockOf}
use Rattle.table_tests.proofs.ReadyLemmas.{epoch_is, making_of}
use Rattle.table_tests.proofs.table_workers.set_up.Goals as goal

pub make-requires : goal.make-requires
make-requires g c =
    let ready = c.in-Ok.ensures.ready in
    let verifiers : c.header.result.verifiers ≡ 64 = ap (λ (h : Header). h.verifiers) c.header.ensures.value in
    let end : c.header.result.end ≡ c.args.end = ap (λ (h : Header). h.end) c.header.ensures.value in
    let some : 0 < length c.in-Ok.contents.items = omega (arith, ready.1, c.requires.places.0) in
    let few : c.args.workers ≤ c.header.result.verifiers = omega (arith, verifiers, c.requires.workers.1) in
    let late : 64 ≤ c.header.result.end = omega (arith, end, c.requires.end) in
    record {
      making = making_of c.header.result c.args.workers c.in-Ok.frontiers.items c.in-Ok.contents.items ready.0 some c.requires.workers.0 few late;
    }

pub turns_of-requires-clause-clock : goal.turns_of-requires-clause-clock
turns_of-requires-clause-clock g c =
    let ready = c.in-Ok.ensures.ready in
    let some : 0 < length c.in-Ok.contents.items = omega (arith, ready.1, c.requires.places.0) in
    subst (λ (t : Terms). IsClockOf t (opening_reading 1 c.args.end)) (sym c.in-Ok-make.ensures.terms) record {
      first = sym (ap (λ (h : Header). h.first) c.header.ensures.value);
      end = sym (ap (λ (h : Header). h.end) c.header.ensures.value);
      epoch = sym (epoch_is c.in-Ok.frontiers.items c.in-Ok.contents.items ready.0 some);
    }

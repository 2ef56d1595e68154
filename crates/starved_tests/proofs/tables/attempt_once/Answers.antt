use Rattle.std.proofs.Common.{◌≡◌, ℕ, ap, sym, subst, ◌∙◌}
use Rattle.lamport_clocks.specs.Clock.{opening_reading}
use Rattle.host_epochs.specs.declared.hand.Hand.{Hand}
use Rattle.host_table.specs.Table.{table, terms}
use Rattle.host_table.specs.Terms.{Terms}
use Rattle.starved_tests.specs.Seated.{CanAttempt, IsStart, table_header}
use Rattle.starved_tests.proofs.SeatedLemmas.{can_attempt, only_hand}
use Rattle.starved_tests.proofs.tables.attempt_once.Goals as goal

pub attempt_with-requires-clause-can : goal.attempt_with-requires-clause-can
attempt_with-requires-clause-can g c =
    let made = c.in-Ok.records in
    let all : Terms = terms g.D.Digests.functions made in
    let same = c.in-Ok.ensures.terms in
    let start : IsStart all.contents = subst IsStart (sym (ap (λ (t : Terms). t.contents) same)) c.in_ok-contents.ensures.start in
    let header : all.header ≡ table_header = ap (λ (t : Terms). t.header) same ∙ c.header.ensures.value in
    let hand = only_hand _ c.in-Some.hand c.in-Ok.hands.items c.in-Some.ensures.items c.in-Ok.ensures.hands.count in
    subst (λ (s : Hand × ℕ). CanAttempt all (table made) s.0 (opening_reading 0 16777215) s.1) (λ k. (hand k, sym c.in_ok-request.ensures.key k))
    (can_attempt all (table made) c.in-Ok.hands.items c.in-Some.hand start header c.in-Ok.ensures.hands c.in-Ok.ensures.new)

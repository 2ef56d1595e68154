use Rattle.std.proofs.Common.{◌≡◌, ◌+◌, ◌<◌, ℕ, List, length, get_or, ap, subst, ◌∙◌}
use Rattle.seals.specs.declared.state.RunState.{RunState}
use Rattle.seals.specs.Kept.{kept_in}
use Rattle.check_core.proofs.KeptRunLemmas.{kept_good, kept_run_more}
use Rattle.check_core.proofs.resuming.resumed_runs.Goals as goal

pub of_state-requires-clause-can_go_on : goal.of_state-requires-clause-can_go_on
of_state-requires-clause-can_go_on c =
    let state = c.args.state.now in
    let number = c.loop-number.number in
    let kept = c.kept-item.result in
    let value = c.deref-kept-items.ensures.value in
    let more : number < length state.runs.items = subst (λ (items : List RunState). number < length items) value c.loop-number-test.true in
    let is = c.kept-item.is ∙ ap (λ (items : List RunState). get_or items number kept) value in
    let good = kept_good state.header state.certified state.taken number state.runs.items kept more is c.loop-number.invariant.good in
    c.what_is_kept_can_go_on.ensures.go_on state.header state.certified state.taken number (kept_in kept) c.requires.good.header good.0

pub loop-number-preserved : goal.loop-number-preserved
loop-number-preserved c =
    let state = c.args.state.now in
    let number = c.loop-number.number in
    let kept = c.kept-item.result in
    let value = c.deref-kept-items.ensures.value in
    let more : number < length state.runs.items = subst (λ (items : List RunState). number < length items) value c.loop-number-test.true in
    let is = c.kept-item.is ∙ ap (λ (items : List RunState). get_or items number kept) value in
    let last = c.loop-number.invariant in
    record {
      len = c.in_ok-push.ensures.len ∙ ap (λ (n : ℕ). n + 1) last.len;
      good = (kept_good state.header state.certified state.taken number state.runs.items kept more is last.good).1;
      runs = kept_run_more state.header number state.runs.items kept c.loop-number.runs.items c.push.new.self.items _ more is
          c.in_ok-push.ensures.items c.in_ok-run.ensures.resumed last.runs;
    }

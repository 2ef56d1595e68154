use Rattle.std.specs.Prelude.{ℕ}
use Rattle.lamport_clocks.specs.declared.header.Header.{Header}
use Rattle.lamport_clocks.specs.Header.{IsHeader}
use Rattle.seals.specs.State.{KeptRun}
use Rattle.seals.specs.Run.{IsGoodRun}
use Rattle.resumed_runs.proofs.KeptLemmas.{Says, says-on, says-certified}
use Rattle.resumed_runs.proofs.kept.what_is_kept_can_go_on.Goals as goal

pub returns : goal.returns
returns c = record {
  go_on = λ header certified taken number kept header_good good. says-on header certified taken number kept (says header certified taken number kept header_good good);
  certified = λ header certified taken number kept header_good good. says-certified header certified taken number kept (says header certified taken number kept header_good good);
}
  where
    says : (header : Header) (certified taken number : ℕ) (kept : KeptRun) → IsHeader header → IsGoodRun header certified taken number kept
        → Says header certified taken number kept
    says header certified taken number kept header_good good =
        let bounds = c.bounds_say_more.ensures in
        record {
          header_good = header_good;
          good = good;
          clock = bounds.clock header certified taken number kept good;
          few_entries = bounds.few_entries header certified taken number kept good;
          distinct = bounds.distinct header certified taken number kept good;
          by_slot = bounds.by_slot header certified taken number kept good;
          sums = bounds.sums header certified taken number kept good;
          parts = bounds.parts header certified taken number kept good;
          each_sealed = bounds.each_sealed header certified taken number kept good;
          operations = bounds.operations header certified taken number kept good;
          rising = bounds.rising header certified taken number kept good;
        }

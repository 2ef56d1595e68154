use Rattle.std.proofs.Common.{◌∙◌, ap, ◌++◌, arith}
use Rattle.check_core.proofs.LogLemmas.{appended_set, on_ok_from, first_of}
use Rattle.check_core.proofs.reading.append.Goals as goal

pub returns-clause-appended : goal.returns-clause-appended
returns-clause-appended c =
    on_ok_from c.extend_from_slice.result
    (λ ok. appended_set (λ log. log.items) c.args.logs.now.items c.args.verifier c.extend_from_slice.new.self c.args.bytes.now c.index_mut.result.now (omega (arith, c.requires.verifier, c.args.logs.now.ok))
    (first_of _ _ _ _ c.extend_from_slice.ensures.items ok
    ∙ ap (λ log. log.items ++ c.args.bytes.now) c.index_mut.ensures.value))

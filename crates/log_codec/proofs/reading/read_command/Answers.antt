use Rattle.record_text.specs.Format.{format_of}
use Rattle.log_codec.proofs.LogCommandLaws.{log_grammar, log_exact}
use Rattle.log_codec.proofs.ReadLemmas.{only_taken, never_fails}
use Rattle.log_codec.proofs.reading.read_command.Goals as goal

pub returns-in-Ok-clause-only : goal.returns-in-Ok-clause-only
returns-in-Ok-clause-only c = λ command rest is spelled.
    only_taken (log_grammar (format_of c.args.header.now)) (log_exact (format_of c.args.header.now)) c.args.bytes.now c.read_command_into.new.place command rest c.in-Ok.taken is spelled c.in-Ok.ensures.read c.in-Ok.ensures.within

pub returns-in-Err-Malformed-clause-only : goal.returns-in-Err-Malformed-clause-only
returns-in-Err-Malformed-clause-only c = λ command rest is spelled.
    absurd (never_fails (log_grammar (format_of c.args.header.now)) (log_exact (format_of c.args.header.now)) c.args.bytes.now command rest _ is spelled c.in-Err-Malformed.ensures.fault)

pub returns-in-Err-Truncated-clause-only : goal.returns-in-Err-Truncated-clause-only
returns-in-Err-Truncated-clause-only c = λ command rest is spelled.
    absurd (never_fails (log_grammar (format_of c.args.header.now)) (log_exact (format_of c.args.header.now)) c.args.bytes.now command rest _ is spelled c.in-Err-Truncated.ensures.fault)

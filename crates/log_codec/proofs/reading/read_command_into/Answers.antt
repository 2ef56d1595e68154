use Rattle.std.proofs.Common.{ap, sym, ◌∙◌, arith}
use Rattle.record_text.specs.Format.{format_of}
use Rattle.log_codec.specs.LogCommand.{command_at}
use Rattle.log_codec.proofs.LogCommandLaws.{log_grammar, log_exact}
use Rattle.log_codec.proofs.ReadLemmas.{is_read}
use Rattle.log_codec.proofs.reading.read_command_into.Goals as goal

pub overflow_sub-result : goal.overflow_sub-result
overflow_sub-result c =
    let read = ap (command_at (format_of c.args.header.now)) (sym c.new-reader.ensures.all) ∙ c.in-Ok.ensures.takes in
    (is_read (log_grammar (format_of c.args.header.now)) (log_exact (format_of c.args.header.now)) c.args.bytes.now c.command_into.new.place c.command_into.new.reader c.left.result (λ i. omega (arith, c.type_inv.bytes i)) read c.left.ensures.value).within

pub returns-in-Ok-clause-read : goal.returns-in-Ok-clause-read
returns-in-Ok-clause-read c =
    let read = ap (command_at (format_of c.args.header.now)) (sym c.new-reader.ensures.all) ∙ c.in-Ok.ensures.takes in
    (is_read (log_grammar (format_of c.args.header.now)) (log_exact (format_of c.args.header.now)) c.args.bytes.now c.command_into.new.place c.command_into.new.reader c.left.result (λ i. omega (arith, c.type_inv.bytes i)) read c.left.ensures.value).exact

pub returns-in-Ok-clause-some : goal.returns-in-Ok-clause-some
returns-in-Ok-clause-some c =
    let read = ap (command_at (format_of c.args.header.now)) (sym c.new-reader.ensures.all) ∙ c.in-Ok.ensures.takes in
    (is_read (log_grammar (format_of c.args.header.now)) (log_exact (format_of c.args.header.now)) c.args.bytes.now c.command_into.new.place c.command_into.new.reader c.left.result (λ i. omega (arith, c.type_inv.bytes i)) read c.left.ensures.value).some

pub returns-in-Ok-clause-found : goal.returns-in-Ok-clause-found
returns-in-Ok-clause-found c =
    let read = ap (command_at (format_of c.args.header.now)) (sym c.new-reader.ensures.all) ∙ c.in-Ok.ensures.takes in
    (is_read (log_grammar (format_of c.args.header.now)) (log_exact (format_of c.args.header.now)) c.args.bytes.now c.command_into.new.place c.command_into.new.reader c.left.result (λ i. omega (arith, c.type_inv.bytes i)) read c.left.ensures.value).found

pub returns-in-Ok-clause-kind : goal.returns-in-Ok-clause-kind
returns-in-Ok-clause-kind c =
    let read = ap (command_at (format_of c.args.header.now)) (sym c.new-reader.ensures.all) ∙ c.in-Ok.ensures.takes in
    (is_read (log_grammar (format_of c.args.header.now)) (log_exact (format_of c.args.header.now)) c.args.bytes.now c.command_into.new.place c.command_into.new.reader c.left.result (λ i. omega (arith, c.type_inv.bytes i)) read c.left.ensures.value).kind

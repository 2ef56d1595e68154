use Rattle.std.proofs.Common.{ℕ, ap, sym, ◌∙◌, arith}
use Rattle.record_text.specs.Reading.{value_at}
use Rattle.record_text.specs.Texts.{value_text}
use Rattle.record_text.proofs.ValueTextLaws.{value_begins, value_again, path_of_value}
use Rattle.record_text.proofs.CountLaws.{left_within, taken, only_from_read, only_from_fault}
use Rattle.record_text.specs.Longest.{longest_of}
use Rattle.record_text.proofs.reading.read_value.Goals as goal

pub overflow_sub-result : goal.overflow_sub-result
overflow_sub-result c =
    let read = ap (λ (longest : ℕ). value_at longest c.args.path.now c.args.bytes.now) (sym c.longest_of.ensures.value) ∙ (ap (value_at c.longest_of.result c.args.path.now) (sym c.new-reader.ensures.all) ∙ c.in-Ok.ensures.takes) in
    let begins = value_begins (longest_of c.args.header.now) c.args.path.now c.args.bytes.now c.in-Ok.value c.value.new.self (λ i. omega (arith, c.type_inv.bytes i)) (path_of_value c.longest_of.result c.args.path.now c.in-Ok.value c.in-Ok.ensures.kind) read in
    left_within c.args.bytes.now (value_text c.in-Ok.value) c.value.new.self c.left.result begins.0 c.left.ensures.value

pub returns-in-Ok-clause-found : goal.returns-in-Ok-clause-found
returns-in-Ok-clause-found c =
    let read = ap (λ (longest : ℕ). value_at longest c.args.path.now c.args.bytes.now) (sym c.longest_of.ensures.value) ∙ (ap (value_at c.longest_of.result c.args.path.now) (sym c.new-reader.ensures.all) ∙ c.in-Ok.ensures.takes) in
    let begins = value_begins (longest_of c.args.header.now) c.args.path.now c.args.bytes.now c.in-Ok.value c.value.new.self (λ i. omega (arith, c.type_inv.bytes i)) (path_of_value c.longest_of.result c.args.path.now c.in-Ok.value c.in-Ok.ensures.kind) read in
    taken c.args.bytes.now (value_text c.in-Ok.value) c.value.new.self c.left.result begins.0 c.left.ensures.value

pub returns-in-Ok-clause-only : goal.returns-in-Ok-clause-only
returns-in-Ok-clause-only c = λ value rest kind is.
    let read = ap (λ (longest : ℕ). value_at longest c.args.path.now c.args.bytes.now) (sym c.longest_of.ensures.value) ∙ (ap (value_at c.longest_of.result c.args.path.now) (sym c.new-reader.ensures.all) ∙ c.in-Ok.ensures.takes) in
    only_from_read (value_at (longest_of c.args.header.now) c.args.path.now) c.args.bytes.now (value_text value) rest value c.in-Ok.value c.value.new.self c.left.result (value_again (longest_of c.args.header.now) c.args.path.now value rest kind) is read c.left.ensures.value

pub returns-in-Err-clause-only : goal.returns-in-Err-clause-only
returns-in-Err-clause-only c = λ value rest kind is.
    let read = ap (λ (longest : ℕ). value_at longest c.args.path.now c.args.bytes.now) (sym c.longest_of.ensures.value) ∙ (ap (value_at c.longest_of.result c.args.path.now) (sym c.new-reader.ensures.all) ∙ c.in-Err.ensures.takes) in
    only_from_fault (value_at (longest_of c.args.header.now) c.args.path.now) c.args.bytes.now (value_text value) rest value c.in-Err.fault (value_again (longest_of c.args.header.now) c.args.path.now value rest kind) is read

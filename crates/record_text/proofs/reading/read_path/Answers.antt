use Rattle.std.proofs.Common.{Bool, ap, sym, ◌∙◌, arith}
use Rattle.record_text.specs.Reading.{path_at}
use Rattle.record_text.specs.Texts.{path_text}
use Rattle.record_text.proofs.PathTextLaws.{path_begins, path_again}
use Rattle.record_text.proofs.CountLaws.{left_within, taken, only_from_read, only_from_fault}
use Rattle.record_text.specs.Tree.{wide_of}
use Rattle.record_text.proofs.reading.read_path.Goals as goal

pub overflow_sub-result : goal.overflow_sub-result
overflow_sub-result c =
    let read = ap (λ (wide : Bool). path_at wide c.args.bytes.now) (sym c.wide_of.ensures.value) ∙ (ap (path_at c.wide_of.result) (sym c.new-reader.ensures.all) ∙ c.in-Ok.ensures.takes) in
    let begins = path_begins (wide_of c.args.header.now) c.args.bytes.now c.in-Ok.path c.path.new.self (λ i. omega (arith, c.type_inv.bytes i)) read in
    left_within c.args.bytes.now (path_text c.in-Ok.path) c.path.new.self c.left.result begins.0 c.left.ensures.value

pub returns-in-Ok-clause-found : goal.returns-in-Ok-clause-found
returns-in-Ok-clause-found c =
    let read = ap (λ (wide : Bool). path_at wide c.args.bytes.now) (sym c.wide_of.ensures.value) ∙ (ap (path_at c.wide_of.result) (sym c.new-reader.ensures.all) ∙ c.in-Ok.ensures.takes) in
    let begins = path_begins (wide_of c.args.header.now) c.args.bytes.now c.in-Ok.path c.path.new.self (λ i. omega (arith, c.type_inv.bytes i)) read in
    taken c.args.bytes.now (path_text c.in-Ok.path) c.path.new.self c.left.result begins.0 c.left.ensures.value

pub returns-in-Ok-clause-only : goal.returns-in-Ok-clause-only
returns-in-Ok-clause-only c = λ path rest within fits is.
    let read = ap (λ (wide : Bool). path_at wide c.args.bytes.now) (sym c.wide_of.ensures.value) ∙ (ap (path_at c.wide_of.result) (sym c.new-reader.ensures.all) ∙ c.in-Ok.ensures.takes) in
    only_from_read (path_at (wide_of c.args.header.now)) c.args.bytes.now (path_text path) rest path c.in-Ok.path c.path.new.self c.left.result (path_again (wide_of c.args.header.now) path rest within fits) is read c.left.ensures.value

pub returns-in-Err-clause-only : goal.returns-in-Err-clause-only
returns-in-Err-clause-only c = λ path rest within fits is.
    let read = ap (λ (wide : Bool). path_at wide c.args.bytes.now) (sym c.wide_of.ensures.value) ∙ (ap (path_at c.wide_of.result) (sym c.new-reader.ensures.all) ∙ c.in-Err.ensures.takes) in
    only_from_fault (path_at (wide_of c.args.header.now)) c.args.bytes.now (path_text path) rest path c.in-Err.fault (path_again (wide_of c.args.header.now) path rest within fits) is read

use Rattle.std.proofs.Common.{ℕ, Bool, ap, sym, ◌∙◌, arith}
use Rattle.record_text.specs.Reading.{element_at}
use Rattle.record_text.specs.Texts.{element_text}
use Rattle.record_text.proofs.ElementTextLaws.{element_begins, element_again}
use Rattle.record_text.proofs.CountLaws.{left_within, taken, only_from_read, only_from_fault}
use Rattle.record_text.specs.Tree.{wide_of}
use Rattle.record_text.specs.Longest.{longest_of}
use Rattle.record_text.proofs.reading.read_element.Goals as goal

pub overflow_sub-result : goal.overflow_sub-result
overflow_sub-result c =
    let read = ap (λ (wide : Bool). element_at wide (longest_of c.args.header.now) c.args.bytes.now) (sym c.wide_of.ensures.value) ∙ (ap (λ (longest : ℕ). element_at c.wide_of.result longest c.args.bytes.now) (sym c.longest_of.ensures.value) ∙ (ap (element_at c.wide_of.result c.longest_of.result) (sym c.new-reader.ensures.all) ∙ c.in-Ok.ensures.takes)) in
    let begins = element_begins (wide_of c.args.header.now) (longest_of c.args.header.now) c.args.bytes.now c.in-Ok.element c.element.new.self (λ i. omega (arith, c.type_inv.bytes i)) read in
    left_within c.args.bytes.now (element_text c.in-Ok.element) c.element.new.self c.left.result begins.0 c.left.ensures.value

pub returns-in-Ok-clause-found : goal.returns-in-Ok-clause-found
returns-in-Ok-clause-found c =
    let read = ap (λ (wide : Bool). element_at wide (longest_of c.args.header.now) c.args.bytes.now) (sym c.wide_of.ensures.value) ∙ (ap (λ (longest : ℕ). element_at c.wide_of.result longest c.args.bytes.now) (sym c.longest_of.ensures.value) ∙ (ap (element_at c.wide_of.result c.longest_of.result) (sym c.new-reader.ensures.all) ∙ c.in-Ok.ensures.takes)) in
    let begins = element_begins (wide_of c.args.header.now) (longest_of c.args.header.now) c.args.bytes.now c.in-Ok.element c.element.new.self (λ i. omega (arith, c.type_inv.bytes i)) read in
    taken c.args.bytes.now (element_text c.in-Ok.element) c.element.new.self c.left.result begins.0 c.left.ensures.value

pub returns-in-Ok-clause-kind : goal.returns-in-Ok-clause-kind
returns-in-Ok-clause-kind c =
    let read = ap (λ (wide : Bool). element_at wide (longest_of c.args.header.now) c.args.bytes.now) (sym c.wide_of.ensures.value) ∙ (ap (λ (longest : ℕ). element_at c.wide_of.result longest c.args.bytes.now) (sym c.longest_of.ensures.value) ∙ (ap (element_at c.wide_of.result c.longest_of.result) (sym c.new-reader.ensures.all) ∙ c.in-Ok.ensures.takes)) in
    let begins = element_begins (wide_of c.args.header.now) (longest_of c.args.header.now) c.args.bytes.now c.in-Ok.element c.element.new.self (λ i. omega (arith, c.type_inv.bytes i)) read in
    begins.1

pub returns-in-Ok-clause-only : goal.returns-in-Ok-clause-only
returns-in-Ok-clause-only c = λ element rest kind is.
    let read = ap (λ (wide : Bool). element_at wide (longest_of c.args.header.now) c.args.bytes.now) (sym c.wide_of.ensures.value) ∙ (ap (λ (longest : ℕ). element_at c.wide_of.result longest c.args.bytes.now) (sym c.longest_of.ensures.value) ∙ (ap (element_at c.wide_of.result c.longest_of.result) (sym c.new-reader.ensures.all) ∙ c.in-Ok.ensures.takes)) in
    only_from_read (element_at (wide_of c.args.header.now) (longest_of c.args.header.now)) c.args.bytes.now (element_text element) rest element c.in-Ok.element c.element.new.self c.left.result (element_again (wide_of c.args.header.now) (longest_of c.args.header.now) element rest kind) is read c.left.ensures.value

pub returns-in-Err-clause-only : goal.returns-in-Err-clause-only
returns-in-Err-clause-only c = λ element rest kind is.
    let read = ap (λ (wide : Bool). element_at wide (longest_of c.args.header.now) c.args.bytes.now) (sym c.wide_of.ensures.value) ∙ (ap (λ (longest : ℕ). element_at c.wide_of.result longest c.args.bytes.now) (sym c.longest_of.ensures.value) ∙ (ap (element_at c.wide_of.result c.longest_of.result) (sym c.new-reader.ensures.all) ∙ c.in-Err.ensures.takes)) in
    only_from_fault (element_at (wide_of c.args.header.now) (longest_of c.args.header.now)) c.args.bytes.now (element_text element) rest element c.in-Err.fault (element_again (wide_of c.args.header.now) (longest_of c.args.header.now) element rest kind) is read

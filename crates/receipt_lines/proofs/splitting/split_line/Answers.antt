use Rattle.std.proofs.Common.{◌∙◌, ℕ, List, ap, sym, drop}
use Rattle.std.specs.Prelude.{slice_get}
use Rattle.script_text.proofs.SplittingLaws.{lines_of-at}
use Rattle.receipt_lines.proofs.SplittingLemmas.{lines_of-none, lines_of-whole, lines_of-nil}
use Rattle.script_text.specs.Lines.{lines_of}
use Rattle.receipt_lines.proofs.splitting.split_line.Goals as goal

pub returns-then-is_empty-clause-first : goal.returns-then-is_empty-clause-first
returns-then-is_empty-clause-first c = sym (ap (λ (lines : List (List ℕ)). slice_get lines 0) (lines_of-none c.args.text.now (sym c.if-is_empty.ensures)))

pub returns-then-is_empty-clause-behind : goal.returns-then-is_empty-clause-behind
returns-then-is_empty-clause-behind c =
    let none = lines_of-none c.args.text.now (sym c.if-is_empty.ensures) in
    none ∙ sym (ap (drop 1) none)

pub returns-in-Some-clause-first : goal.returns-in-Some-clause-first
returns-in-Some-clause-first c =
    let parts = c.in-Some.ensures.parts in
    sym (ap (λ (lines : List (List ℕ)). slice_get lines 0) (ap lines_of parts.0 ∙ lines_of-at c.in-Some.line.now c.in-Some.behind.now parts.1))

pub returns-in-Some-clause-behind : goal.returns-in-Some-clause-behind
returns-in-Some-clause-behind c =
    let parts = c.in-Some.ensures.parts in
    sym (ap (drop 1) (ap lines_of parts.0 ∙ lines_of-at c.in-Some.line.now c.in-Some.behind.now parts.1))

pub returns-in-None-clause-first : goal.returns-in-None-clause-first
returns-in-None-clause-first c =
    sym (ap (λ (lines : List (List ℕ)). slice_get lines 0) (lines_of-whole c.args.text.now (sym c.if-is_empty.ensures) c.in-None.ensures.parts))

pub returns-in-None-clause-behind : goal.returns-in-None-clause-behind
returns-in-None-clause-behind c = lines_of-nil ∙ sym (ap (drop 1) (lines_of-whole c.args.text.now (sym c.if-is_empty.ensures) c.in-None.ensures.parts))

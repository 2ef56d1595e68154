use Rattle.std.proofs.Common.{◌≡◌, ◌∙◌, ℕ, List, Option, Bool, true, false, not, ap, sym, refl, Bor}
use Rattle.std.specs.Option.{option_map}
use Rattle.std.specs.Str.{bytes_eq}
use Rattle.receipt_lines.proofs.SplittingLemmas.{second-lacks, second-behind_other, second-and_more, second-is}
use Rattle.receipt_lines.proofs.splitting.second_word.Goals as goal

not_true : (b : Bool) → true ≡ not b → b ≡ false
not_true true is = is
not_true false is = refl

not_false : (b : Bool) → false ≡ not b → b ≡ true
not_false true is = refl
not_false false is = is

-- the bytes behind a blank, if there is one
abbrev bytes_behind : Option (Bor (List ℕ)) → Option (List ℕ)
bytes_behind behind = option_map (λ bytes. bytes.now) behind

pub returns-in_err-first : goal.returns-in_err-first
returns-in_err-first c = record { value = ap bytes_behind c.from_residual.ensures ∙ sym (second-lacks c.args.word.now c.args.line.now c.in_err-first.ensures.parts) }

pub returns-then-ne : goal.returns-then-ne
returns-then-ne c =
    let parts = c.in_ok-first.ensures.parts in
    let other = not_true (bytes_eq c.in_ok-first.first.now c.args.word.now) c.if-ne.ensures in
    record { value = sym (second-behind_other c.args.word.now c.args.line.now c.in_ok-first.first.now c.in_ok-first.behind.now parts.0 parts.1 other) }

pub returns-in-Some : goal.returns-in-Some
returns-in-Some c =
    let parts = c.in_ok-first.ensures.parts in
    let more = c.in-Some.ensures.parts in
    record {
      value = sym (second-and_more c.args.word.now c.args.line.now c.in_ok-first.first.now c.in_ok-first.behind.now parts.0 parts.1
          c.in-Some.field-0.0.now c.in-Some.field-0.1.now more.0 more.1);
    }

pub returns-in-None : goal.returns-in-None
returns-in-None c =
    let parts = c.in_ok-first.ensures.parts in
    let same = not_false (bytes_eq c.in_ok-first.first.now c.args.word.now) c.if-ne.ensures in
    record { value = sym (second-is c.args.word.now c.args.line.now c.in_ok-first.first.now c.in_ok-first.behind.now parts.0 parts.1 same c.in-None.ensures.parts) }

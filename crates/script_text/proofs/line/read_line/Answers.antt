use Rattle.std.proofs.Common.{◌≡◌, ◌∙◌, ℕ, List, ◌∷◌, Option, ap, sym, Bor, arith}
use Rattle.std.specs.Option.{option_map}
use Rattle.base_words.specs.Steps.{need}
use Rattle.record_text.specs.declared.cause.Cause.TheVariants.{Shape}
use Rattle.script_text.specs.Lines.{words_of, words_behind}
use Rattle.script_text.specs.Script.{asked_by, task_in, words_say}
use Rattle.script_text.proofs.ScriptLemmas.{line_says-short, words_say-asked}
use Rattle.script_text.proofs.line.read_line.Goals as goal

-- the bytes behind a blank, if there is one
abbrev bytes_behind : Option (Bor (List ℕ)) → Option (List ℕ)
bytes_behind behind = option_map (λ bytes. bytes.now) behind

pub returns-in-None : goal.returns-in-None
returns-in-None c =
    let header = c.args.header.now in
    let words = c.split_word.ensures.words ∙ ap (λ o. c.split_word.result.0.now ∷ words_behind o) (ap bytes_behind c.in-Some.is) in
    record {
      value = sym (line_says-short header c.args.line.now (omega (arith, c.if-line-longest_line.false, c.longest_line.ensures.value))
          ∙ ap (words_say header) words
          ∙ words_say-asked header _ _
          ∙ ap (λ longest. need (asked_by longest (words_of c.in-Some.behind.now)) Shape (task_in header c.split_word.result.0.now)) (sym c.longest_of.ensures.value)
          ∙ ap (λ asked. need asked Shape (task_in header c.split_word.result.0.now)) (sym c.in-None.ensures.value));
    }

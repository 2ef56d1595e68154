use Rattle.std.proofs.Common.{◌≡◌, ◌∙◌, ℕ, List, ◌∷◌, Option, Some, None, is_some, ap, sym, refl, Bor}
use Rattle.std.specs.Option.{option_map}
use Rattle.script_text.specs.Lines.{words_behind}
use Rattle.script_text.specs.Script.{asked_by}
use Rattle.script_text.proofs.ScriptLemmas.{asked_by-more, words_of-two, words_of-three}
use Rattle.script_text.proofs.asked.read_asked.Goals as goal

-- the bytes behind a blank, if there is one
abbrev bytes_behind : Option (Bor (List ℕ)) → Option (List ℕ)
bytes_behind behind = option_map (λ bytes. bytes.now) behind

same_test : (behind : Option (Bor (List ℕ))) → is_some (bytes_behind behind) ≡ is_some behind
same_test (Some bytes) = refl
same_test None = refl

pub returns-in_default-behind : goal.returns-in_default-behind
returns-in_default-behind c =
    let verb = c.split_word.result.0.now in
    let key = c.split_word-2.result.0.now in
    let words = words_of-two c.args.words.now _ _ _ _ _ c.split_word.ensures.words (ap bytes_behind c.in-Some.is) c.split_word-2.ensures.words
    ∙ ap (λ behind. verb ∷ key ∷ words_behind (bytes_behind behind)) c.in_default-behind.is in
    record { value = c.read_short.ensures.value c.args.longest ∙ sym (ap (asked_by c.args.longest) words) }

pub returns-then-is_some : goal.returns-then-is_some
returns-then-is_some c =
    let words = words_of-three c.args.words.now _ _ _ _ _ _ _ _ c.split_word.ensures.words (ap bytes_behind c.in-Some.is)
    c.split_word-2.ensures.words (ap bytes_behind c.in-Some-behind.is) c.split_word-3.ensures.words in
    let more = asked_by-more c.args.longest c.split_word.result.0.now c.split_word-2.result.0.now c.split_word-3.result.0.now
    (bytes_behind c.split_word-3.result.1) (same_test c.split_word-3.result.1 ∙ sym c.is_some.ensures ∙ c.if-is_some.true) in
    record { value = sym (ap (asked_by c.args.longest) words ∙ more) }

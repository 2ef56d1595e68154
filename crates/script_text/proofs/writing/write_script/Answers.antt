use Rattle.std.proofs.Common.{◌++◌, ◌∙◌, codes, take, ap, sym, arith}
use Rattle.script_text.specs.Text.{phase_text, script_text}
use Rattle.script_text.proofs.TextLemmas.{script_text-one, script_text-more}
use Rattle.script_text.proofs.writing.write_script.Goals as goal

pub loop-number-init : goal.loop-number-init
loop-number-init c =
    c.in_ok-write_phase.ensures.appended ∙ ap (λ text. text ++ phase_text c.phase.result) c.new-text.ensures.items
    ∙ ap phase_text c.phase.ensures.value ∙ sym (script_text-one c.args.requests.now (omega arith))

pub loop-number-preserved : goal.loop-number-preserved
loop-number-preserved c =
    let phases = c.args.requests.now in
    c.in_ok-write_phase-2.ensures.appended
    ∙ ap (λ text. text ++ phase_text c.phase-in-loop-number.result) (c.in_ok-extend_from_slice.ensures.items ∙ ap (λ text. text ++ codes "epoch\n") c.loop-number.invariant)
    ∙ ap (λ phase. (script_text (take c.loop-number.number phases) ++ codes "epoch\n") ++ phase_text phase) c.phase-in-loop-number.ensures.value
    ∙ sym (script_text-more phases c.loop-number.number (omega arith) (omega arith))

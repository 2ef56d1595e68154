-- A load grows by a request and the close that is due behind it.
use Rattle.std.proofs.Common.{◌≡◌, ℕ, ◌+◌, true, false, List, [], ◌∷◌, ◌++◌, append_assoc, add-one, refl, ap, sym, ◌∙◌}
use Rattle.script_text.specs.declared.shape.Shape.{Shape}
use Rattle.script_text.specs.declared.task.Line.{Line}
use Rattle.script_text.specs.declared.task.Line.TheVariants as said
use Rattle.script_text.specs.Script.{phases_of, then_line}
use Rattle.script_text.specs.Generator.{next_draw, state_behind, task_for, closes_behind, close_behind, lines_made}
use Rattle.script_text.proofs.ScriptLemmas.{phases_of-then}

-- two lines behind others
phases_of-then-two : (lines : List Line) (line last : Line) → phases_of (lines ++ line ∷ last ∷ []) ≡ then_line (then_line (phases_of lines) line) last
phases_of-then-two lines line last =
    ap phases_of (sym (append_assoc lines (line ∷ []) (last ∷ [])))
    ∙ phases_of-then (lines ++ line ∷ []) last
    ∙ ap (λ phases. then_line phases last) (phases_of-then lines line)

-- a request behind which an epoch closes
pub phases-due : (shape : Shape) (count : ℕ) (lines : List Line) (line : Line) → closes_behind shape count ≡ true
    → phases_of (lines ++ line ∷ close_behind shape count) ≡ then_line (then_line (phases_of lines) line) said.Epoch
unfolding close_behind
phases-due shape count lines line due = rw due (phases_of-then-two lines line said.Epoch)

-- a request behind which none does
pub phases-open : (shape : Shape) (count : ℕ) (lines : List Line) (line : Line) → closes_behind shape count ≡ false
    → phases_of (lines ++ line ∷ close_behind shape count) ≡ then_line (phases_of lines) line
unfolding close_behind
phases-open shape count lines line due = rw due (phases_of-then lines line)

-- before the first request
pub made-nothing : (x : ℕ) (shape : Shape) → phases_of (lines_made x shape 0) ≡ [] ∷ []
unfolding lines_made phases_of
made-nothing x shape = refl

pub state-nothing : (x : ℕ) → state_behind x 0 ≡ x
unfolding state_behind
state-nothing x = refl

-- one request more
pub made-more : (x : ℕ) (shape : Shape) (count first second : ℕ) (state : ℕ) → state ≡ state_behind x count → first ≡ next_draw state → second ≡ next_draw first
    → lines_made x shape (count + 1) ≡ lines_made x shape count ++ said.Task (task_for shape count first second) ∷ close_behind shape (count + 1)
unfolding lines_made
made-more x shape count first second state is1 is2 is3 =
    let draw1 : first ≡ next_draw (state_behind x count) = is2 ∙ ap next_draw is1 in
    let draw2 : second ≡ next_draw (next_draw (state_behind x count)) = is3 ∙ ap next_draw draw1 in
    rw (add-one, draw2, draw1) refl

pub state-more : (x : ℕ) (count first second : ℕ) (state : ℕ) → state ≡ state_behind x count → first ≡ next_draw state → second ≡ next_draw first
    → second ≡ state_behind x (count + 1)
unfolding state_behind
state-more x count first second state is1 is2 is3 = rw add-one (is3 ∙ ap next_draw (is2 ∙ ap next_draw is1))

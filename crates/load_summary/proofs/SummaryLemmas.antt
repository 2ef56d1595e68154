-- Lines of workers in a row.
use Rattle.std.proofs.Common.{◌≡◌, ℕ, ◌+◌, ◌<◌, List, ◌++◌, length, drop, get_or, sym, ap, ◌∙◌, append_assoc}
use Rattle.std.proofs.lemmas.List.{drop_more}
use Rattle.load_summary.specs.declared.tally.Tally.{Tally}
use Rattle.load_summary.specs.Summary.{worker_line, worker_lines}

-- a line more
pub workers_step : (tallies : List Tally) (worker : ℕ) (d : Tally) (text line whole : List ℕ) → worker < length tallies
    → line ≡ worker_line worker (get_or tallies worker d) → text ++ worker_lines worker (drop worker tallies) ≡ whole
    → (text ++ line) ++ worker_lines (worker + 1) (drop (worker + 1) tallies) ≡ whole
workers_step tallies worker d text line whole below line_is left =
    append_assoc text line rest
    ∙ ap (λ (l : List ℕ). text ++ l) (ap (λ (l : List ℕ). l ++ rest) line_is ∙ sym (ap (worker_lines worker) (drop_more tallies worker d below)))
    ∙ left
  where
    rest : List ℕ
    rest = worker_lines (worker + 1) (drop (worker + 1) tallies)

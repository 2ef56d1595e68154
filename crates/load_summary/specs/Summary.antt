-- What is told of a load that was made of a seed, as bytes. Numbers are decimal; each line ends with a line feed.
use Rattle.std.specs.Prelude.{ℕ, ◌+◌, List, [], ◌∷◌, ◌++◌, codes}
use Rattle.std.specs.Fmt.{decimal}
use Rattle.report_text.specs.Lines.{line_end}
use Rattle.report_text.specs.Status.{last_line}
use Rattle.report_text.specs.declared.status.Status.{Status}
use Rattle.report_text.specs.declared.status.Status.TheVariants.{ClockEnd}
use Rattle.load_summary.specs.declared.tally.Tally.{Tally}

-- the seed, and how many operations were asked for
abbrev pub gen_line : ℕ → ℕ → List ℕ
gen_line seed ops = codes "gen seed " ++ decimal seed ++ codes " ops " ++ decimal ops ++ line_end

-- how many epochs are certified
abbrev pub epochs_line : ℕ → List ℕ
epochs_line epochs = codes "epochs " ++ decimal epochs ++ line_end

-- a worker, and its tally
abbrev pub worker_line : ℕ → Tally → List ℕ
worker_line worker tally =
    codes "worker " ++ decimal worker ++ codes " gets " ++ decimal tally.gets ++ codes " none " ++ decimal tally.none
    ++ codes " puts " ++ decimal tally.puts ++ codes " dels " ++ decimal tally.dels ++ line_end

-- a line for each tally, from that of this worker on
abbrev pub worker_lines : ℕ → List Tally → List ℕ
worker_lines worker [] = []
worker_lines worker (tally ∷ tallies) = worker_line worker tally ++ worker_lines (worker + 1) tallies

-- the summary of a load, by the tallies of its certified operations
abbrev pub summary_text : ℕ → ℕ → ℕ → List Tally → List ℕ
summary_text seed ops epochs tallies = gen_line seed ops ++ epochs_line epochs ++ worker_lines 0 tallies

-- what follows where a clock came to its end: the text of that status
abbrev pub end_line : Status → List ℕ
end_line (ClockEnd worker at) = last_line (ClockEnd worker at)
end_line _ = []

-- the summary of a load that ended so
abbrev pub summary_with_end : ℕ → ℕ → ℕ → List Tally → Status → List ℕ
summary_with_end seed ops epochs tallies status = summary_text seed ops epochs tallies ++ end_line status

use Rattle.std.proofs.Common.{length}
use Rattle.worker_threads.proofs.serving.+serve_in.Given as goal

abbrev pub decreases-serve_in : goal.decreases-serve_in
decreases-serve_in g l = length l.pairs.items

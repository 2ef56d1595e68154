-- The words of a table: one for each place, and behind them how many epochs may be entered, whether a worker stopped, and for
-- each worker with how many of them it is through. Epochs are counted from the making, so that each word is 0 at first.
use Rattle.std.specs.Prelude.{ℕ, suc, ◌+◌, List, slice_index}
use Rattle.host_epochs.specs.Terms.{Terms, place_count}

abbrev pub newest_at : Terms → ℕ
newest_at terms = place_count terms

abbrev pub stop_at : Terms → ℕ
stop_at terms = suc (place_count terms)

abbrev pub done_at : Terms → ℕ → ℕ
done_at terms worker = suc (suc (place_count terms + worker))

abbrev pub word_count : Terms → ℕ
word_count terms = done_at terms terms.workers

-- how many epochs may be entered
abbrev pub newest_in : Terms → List ℕ → ℕ
newest_in terms words = slice_index words (newest_at terms)

-- 0 as long as no worker stopped
abbrev pub stop_in : Terms → List ℕ → ℕ
stop_in terms words = slice_index words (stop_at terms)

-- with how many epochs the worker is through
abbrev pub done_in : Terms → List ℕ → ℕ → ℕ
done_in terms words worker = slice_index words (done_at terms worker)

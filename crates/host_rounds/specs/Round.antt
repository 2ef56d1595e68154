-- Rounds of logs: the text of their frames, and the logs that they join to.
use Rattle.std.specs.Prelude.{ℕ, suc, List, [], ◌∷◌, ◌++◌}
use Rattle.std.specs.List.{flat_map}
use Rattle.bundle_frames.specs.Bundle.{Frame}
use Rattle.bundle_report.specs.Logs.{empty_logs}
use Rattle.host_log.specs.Frames.{pieces_text}

-- logs with a round's bytes behind each
abbrev pub logs_with : List (List ℕ) → List (List ℕ) → List (List ℕ)
logs_with [] round = []
logs_with (log ∷ logs) [] = log ∷ logs
logs_with (log ∷ logs) (bytes ∷ round) = (log ++ bytes) ∷ logs_with logs round

-- a round's bytes as pieces of logs, one of each verifier, the first of which has this number
abbrev pub pieces_of : ℕ → List (List ℕ) → List Frame
pieces_of number [] = []
pieces_of number (bytes ∷ round) = record { verifier = number; body = bytes } ∷ pieces_of (suc number) round

-- the text of a round: the frames of verifier 0, then those of verifier 1 and so on. Each verifier's bytes are cut into frames of
-- 65,536 bytes and a last one with what is left
abbrev pub round_text : List (List ℕ) → List ℕ
round_text round = pieces_text (pieces_of 0 round)

-- the text of rounds, one behind the other
abbrev pub rounds_text : List (List (List ℕ)) → List ℕ
rounds_text rounds = flat_map round_text rounds

-- logs with the bytes of rounds behind each
abbrev pub logs_behind : List (List ℕ) → List (List (List ℕ)) → List (List ℕ)
logs_behind logs [] = logs
logs_behind logs (round ∷ rounds) = logs_behind (logs_with logs round) rounds

-- the logs that rounds of so many verifiers join to
abbrev pub logs_in : ℕ → List (List (List ℕ)) → List (List ℕ)
logs_in verifiers rounds = logs_behind (empty_logs verifiers) rounds

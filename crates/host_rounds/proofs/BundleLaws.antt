-- A round's logs behind those so far, as pieces of a bundle.
use Rattle.std.proofs.Common.{◌≡◌, ◌≢◌, ℕ, suc, ◌+◌, ◌<◌, ◌≤◌, Some, None, List, [], ◌∷◌, ◌++◌, length, refl, ap, sym, ◌∙◌, append-nil, append_assoc, eq-eqb, arith}
use Rattle.std.specs.List.{AllByRecursion, flat_map}
use Rattle.std.proofs.lemmas.Bool.{ne_eqb}
use Rattle.std.proofs.lemmas.List.Concat.{flat_map-append}
use Rattle.lamport_clocks.specs.declared.header.Header.{Header}
use Rattle.lamport_clocks.specs.Header.{IsHeader}
use Rattle.bundle_frames.specs.Bundle.{Frame, Bundle, header_text, bundle_of, body_for, log_of}
use Rattle.bundle_report.specs.Logs.{empty_logs, joined_from}
use Rattle.bundle_report.specs.Logged.{behind}
use Rattle.host_log.specs.Frames.{frames_text, frames_of_pieces, pieces_text}
use Rattle.host_rounds.specs.Round.{logs_with, pieces_of, round_text, rounds_text, logs_behind, logs_in}
use Rattle.host_rounds.specs.Bundle.{IsBundle, logged_whole}

-- ---- pieces of other verifiers

pub body-apart : (number : ℕ) (frame : Frame) → frame.verifier ≢ number → body_for number frame ≡ []
body-apart number frame apart = rw (ne_eqb frame.verifier number apart) refl

body-own : (number : ℕ) (bytes : List ℕ) → body_for number (record { verifier = number; body = bytes }) ≡ bytes
body-own number bytes = rw (eq-eqb number number refl) refl

log-apart : (number first : ℕ) (round : List (List ℕ)) → number < first → log_of number (pieces_of first round) ≡ []
log-apart number first [] below = refl
log-apart number first (bytes ∷ round) below =
    ap (λ (front : List ℕ). front ++ log_of number (pieces_of (suc first) round))
    (body-apart number (record { verifier = first; body = bytes }) (λ is. omega (arith, below, is)))
    ∙ log-apart number (suc first) round (omega (arith, below))

joined-skip : (number : ℕ) (frame : Frame) (logs : List (List ℕ)) (frames : List Frame) → frame.verifier < number
    → joined_from number logs (frame ∷ frames) ≡ joined_from number logs frames
joined-skip number frame [] frames below = refl
joined-skip number frame (log ∷ logs) frames below =
    ap (λ (front : List ℕ). (log ++ (front ++ log_of number frames)) ∷ joined_from (suc number) logs (frame ∷ frames))
    (body-apart number frame (λ is. omega (arith, below, is)))
    ∙ ap (λ (rest : List (List ℕ)). (log ++ log_of number frames) ∷ rest) (joined-skip (suc number) frame logs frames (omega (arith, below)))

-- ---- a round is joined

joined-none : (number : ℕ) (logs : List (List ℕ)) → joined_from number logs [] ≡ logs
joined-none number [] = refl
joined-none number (log ∷ logs) =
    ap (λ (first : List ℕ). first ∷ joined_from (suc number) logs []) (append-nil log)
    ∙ ap (λ (rest : List (List ℕ)). log ∷ rest) (joined-none (suc number) logs)

pub round-joined : (number : ℕ) (logs round : List (List ℕ)) → joined_from number logs (pieces_of number round) ≡ logs_with logs round
round-joined number [] round = refl
round-joined number (log ∷ logs) [] = joined-none number (log ∷ logs)
round-joined number (log ∷ logs) (bytes ∷ round) =
    let piece : Frame = record { verifier = number; body = bytes } in
    let rest = pieces_of (suc number) round in
    ap (λ (own : List ℕ). (log ++ (own ++ log_of number rest)) ∷ joined_from (suc number) logs (piece ∷ rest)) (body-own number bytes)
    ∙ ap (λ (more : List ℕ). (log ++ (bytes ++ more)) ∷ joined_from (suc number) logs (piece ∷ rest)) (log-apart number (suc number) round (omega arith))
    ∙ ap (λ (own : List ℕ). (log ++ own) ∷ joined_from (suc number) logs (piece ∷ rest)) (append-nil bytes)
    ∙ ap (λ (all : List (List ℕ)). (log ++ bytes) ∷ all) (joined-skip (suc number) piece logs rest (omega arith) ∙ round-joined (suc number) logs round)

joined-more : (number : ℕ) (logs : List (List ℕ)) (frames more : List Frame)
    → joined_from number logs (frames ++ more) ≡ joined_from number (joined_from number logs frames) more
joined-more number [] frames more = refl
joined-more number (log ∷ logs) frames more =
    ap (λ (bytes : List ℕ). (log ++ bytes) ∷ joined_from (suc number) logs (frames ++ more)) (flat_map-append (body_for number) frames more)
    ∙ ap (λ (bytes : List ℕ). bytes ∷ joined_from (suc number) logs (frames ++ more)) (sym (append_assoc log (log_of number frames) (log_of number more)))
    ∙ ap (λ (rest : List (List ℕ)). ((log ++ log_of number frames) ++ log_of number more) ∷ rest) (joined-more (suc number) logs frames more)

joined-same : (number : ℕ) (logs : List (List ℕ)) (frames others : List Frame) → ((verifier : ℕ) → log_of verifier frames ≡ log_of verifier others)
    → joined_from number logs frames ≡ joined_from number logs others
joined-same number [] frames others same = refl
joined-same number (log ∷ logs) frames others same =
    ap (λ (bytes : List ℕ). (log ++ bytes) ∷ joined_from (suc number) logs frames) (same number)
    ∙ ap (λ (rest : List (List ℕ)). (log ++ log_of number others) ∷ rest) (joined-same (suc number) logs frames others same)

-- ---- a bundle of pieces

numbers-of : (verifiers first : ℕ) (round : List (List ℕ)) → first + length round ≤ verifiers → AllByRecursion (λ piece. piece.verifier < verifiers) (pieces_of first round)
numbers-of verifiers first [] few = tt
numbers-of verifiers first (bytes ∷ round) few = (omega (arith, few), numbers-of verifiers (suc first) round (omega (arith, few)))

numbers-behind : (verifiers : ℕ) (front back : List Frame) → AllByRecursion (λ piece. piece.verifier < verifiers) front
    → AllByRecursion (λ piece. piece.verifier < verifiers) back → AllByRecursion (λ piece. piece.verifier < verifiers) (front ++ back)
numbers-behind verifiers [] back fs bs = bs
numbers-behind verifiers (frame ∷ front) back fs bs = (fs.0, numbers-behind verifiers front back fs.1 bs)

-- what is told of bundles of pieces
abbrev pub HoldPieces : Type 0
HoldPieces = (header : Header) (pieces : List Frame) → IsHeader header → header.first < 4294967296
    → AllByRecursion (λ piece. piece.verifier < header.verifiers) pieces
    → bundle_of (header_text header ++ pieces_text pieces) ≡ record { header = Some header; frames = frames_of_pieces pieces; bad = None }

abbrev pub KeepLogs : Type 0
KeepLogs = (verifier : ℕ) (pieces : List Frame) → log_of verifier (frames_of_pieces pieces) ≡ log_of verifier pieces

-- ---- rounds as pieces

-- the rounds' bytes as pieces of logs
abbrev pub pieces_in : List (List (List ℕ)) → List Frame
pieces_in rounds = flat_map (pieces_of 0) rounds

pub rounds-text : (rounds : List (List (List ℕ))) → rounds_text rounds ≡ pieces_text (pieces_in rounds)
rounds-text [] = refl
rounds-text (round ∷ rounds) =
    ap (λ (more : List ℕ). round_text round ++ more) (rounds-text rounds)
    ∙ sym (flat_map-append (λ piece. frames_text piece.verifier piece.body) (pieces_of 0 round) (pieces_in rounds))

pub rounds-joined : (logs : List (List ℕ)) (rounds : List (List (List ℕ))) → logs_behind logs rounds ≡ joined_from 0 logs (pieces_in rounds)
rounds-joined logs [] = sym (joined-none 0 logs)
rounds-joined logs (round ∷ rounds) =
    rounds-joined (logs_with logs round) rounds
    ∙ ap (λ (all : List (List ℕ)). joined_from 0 all (pieces_in rounds)) (sym (round-joined 0 logs round))
    ∙ sym (joined-more 0 logs (pieces_of 0 round) (pieces_in rounds))

pub rounds-numbers : (verifiers : ℕ) (rounds : List (List (List ℕ))) → AllByRecursion (λ round. length round ≡ verifiers) rounds
    → AllByRecursion (λ piece. piece.verifier < verifiers) (pieces_in rounds)
rounds-numbers verifiers [] each = tt
rounds-numbers verifiers (round ∷ rounds) each =
    numbers-behind verifiers (pieces_of 0 round) (pieces_in rounds) (numbers-of verifiers 0 round (omega (arith, each.0)))
    (rounds-numbers verifiers rounds each.1)

-- ---- one round more

pub text-more : (rounds : List (List (List ℕ))) (round : List (List ℕ)) → rounds_text (rounds ++ (round ∷ [])) ≡ rounds_text rounds ++ round_text round
text-more rounds round =
    flat_map-append round_text rounds (round ∷ []) ∙ ap (λ (text : List ℕ). rounds_text rounds ++ text) (append-nil (round_text round))

pub logs-more : (logs : List (List ℕ)) (rounds : List (List (List ℕ))) (round : List (List ℕ))
    → logs_behind logs (rounds ++ (round ∷ [])) ≡ logs_with (logs_behind logs rounds) round
logs-more logs [] round = refl
logs-more logs (first ∷ rounds) round = logs-more (logs_with logs first) rounds round

each-more : (verifiers : ℕ) (rounds : List (List (List ℕ))) (round : List (List ℕ)) → AllByRecursion (λ round. length round ≡ verifiers) rounds
    → length round ≡ verifiers → AllByRecursion (λ round. length round ≡ verifiers) (rounds ++ (round ∷ []))
each-more verifiers [] round each own = (own, tt)
each-more verifiers (first ∷ rounds) round each own = (each.0, each-more verifiers rounds round each.1 own)

-- the rounds are a bundle
pub bundle-of_rounds : HoldPieces → KeepLogs → (header : Header) (logs : List (List ℕ)) (rounds : List (List (List ℕ))) (bytes : List ℕ) → IsHeader header
    → header.first < 4294967296 → AllByRecursion (λ round. length round ≡ header.verifiers) rounds → bytes ≡ header_text header ++ rounds_text rounds
    → logs ≡ logs_in header.verifiers rounds → IsBundle header logs rounds bytes
bundle-of_rounds hold keep header logs rounds bytes good first each bytes_are logs_are =
    let pieces = pieces_in rounds in
    record {
      header_good = good;
      first = first;
      each = each;
      bytes_are = bytes_are;
      logs_are = logs_are;
      means =
          ap (λ (all : List ℕ). behind None [] (bundle_of all)) (bytes_are ∙ ap (λ (text : List ℕ). header_text header ++ text) (rounds-text rounds))
          ∙ ap (λ (bundle : Bundle). behind None [] bundle) (hold header pieces good first (rounds-numbers header.verifiers rounds each))
          ∙ ap (logged_whole header)
          (joined-same 0 (empty_logs header.verifiers) (frames_of_pieces pieces) pieces (λ verifier. keep verifier pieces)
          ∙ sym (logs_are ∙ rounds-joined (empty_logs header.verifiers) rounds));
    }

-- the header alone
pub bundle-opened : HoldPieces → KeepLogs → (header : Header) → IsHeader header → header.first < 4294967296
    → IsBundle header (empty_logs header.verifiers) [] (header_text header)
bundle-opened hold keep header good first =
    bundle-of_rounds hold keep header (empty_logs header.verifiers) [] (header_text header) good first tt (sym (append-nil (header_text header))) refl

-- a round more
pub bundle-more : HoldPieces → KeepLogs → (header : Header) (logs round : List (List ℕ)) (rounds : List (List (List ℕ))) (bytes : List ℕ)
    → IsBundle header logs rounds bytes → length round ≡ header.verifiers
    → IsBundle header (logs_with logs round) (rounds ++ (round ∷ [])) (bytes ++ round_text round)
bundle-more hold keep header logs round rounds bytes bundle own =
    bundle-of_rounds hold keep header (logs_with logs round) (rounds ++ (round ∷ [])) (bytes ++ round_text round) bundle.header_good bundle.first
    (each-more header.verifiers rounds round bundle.each own)
    (ap (λ (all : List ℕ). all ++ round_text round) bundle.bytes_are
    ∙ append_assoc (header_text header) (rounds_text rounds) (round_text round)
    ∙ ap (λ (text : List ℕ). header_text header ++ text) (sym (text-more rounds round)))
    (ap (λ (all : List (List ℕ)). logs_with all round) bundle.logs_are ∙ sym (logs-more (empty_logs header.verifiers) rounds round))

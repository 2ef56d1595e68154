-- Logs that are handed out: they stand in front of the world, and nothing else changes.
use Rattle.std.proofs.Common.{◌≡◌, ℕ, zero, suc, ◌+◌, ◌<◌, List, [], ◌∷◌, ◌++◌, length, map, get_or, set, refl, sym, ◌∙◌, ap, arith}
use Rattle.std.specs.List.{AllByRecursion}
use Rattle.std.proofs.lemmas.List.{append-nil, length-map}
use Rattle.lamport_clocks.specs.declared.header.Header.{Header}
use Rattle.log_codec.specs.declared.command.Command.{Command}
use Rattle.slot_rewriting.specs.Writing.{opening_writer, text_from, written_log, logs_written_from, written_logs, ComeToRestFrom}
use Rattle.slot_rewriting.proofs.WritingLaws.{written_log-append, written_at, written-length}
use Rattle.host_core.specs.World.{Worker, World, logs_of}
use Rattle.host_world.specs.Behind.{logged_before, before_each, with_logs}
use Rattle.host_rounds.specs.Round.{logs_with}
use Rattle.verifier_threads.specs.InRounds.{logged_with}
use Rattle.verifier_threads.specs.Running.{with_no_log, all_handed_out}

-- ---- one after another

-- a list of which so many from the front on are changed
abbrev pub changed_up_to : {A : Type 0} → (A → A) → ℕ → List A → List A
changed_up_to f zero xs = xs
changed_up_to f (suc n) [] = []
changed_up_to f (suc n) (x ∷ xs) = f x ∷ changed_up_to f n xs

-- the next is changed
pub changed-next : {A : Type 0} (f : A → A) (n : ℕ) (xs : List A) (d : A) → n < length xs
    → set (changed_up_to f n xs) n (f (get_or xs n d)) ≡ changed_up_to f (suc n) xs
changed-next f n [] d there = absurd (omega (arith, there))
changed-next f zero (x ∷ xs) d there = refl
changed-next f (suc n) (x ∷ xs) d there = ap (λ rest. f x ∷ rest) (changed-next f n xs d (omega (arith, there)))

-- it was not before
pub changed-not : {A : Type 0} (f : A → A) (n : ℕ) (xs : List A) (d : A) → get_or (changed_up_to f n xs) n d ≡ get_or xs n d
changed-not f zero xs d = refl
changed-not f (suc n) [] d = refl
changed-not f (suc n) (x ∷ xs) d = changed-not f n xs d

-- all are
pub changed-all : {A : Type 0} (f : A → A) (n : ℕ) (xs : List A) → n ≡ length xs → changed_up_to f n xs ≡ map f xs
changed-all f zero [] is = refl
changed-all f zero (x ∷ xs) is = absurd (omega (arith, is))
changed-all f (suc n) [] is = refl
changed-all f (suc n) (x ∷ xs) is = ap (λ rest. f x ∷ rest) (changed-all f n xs (omega (arith, is)))

pub changed-length : {A : Type 0} (f : A → A) (n : ℕ) (xs : List A) → length (changed_up_to f n xs) ≡ length xs
changed-length f zero xs = refl
changed-length f (suc n) [] = refl
changed-length f (suc n) (x ∷ xs) = ap suc (changed-length f n xs)

-- a list of which so many from the front on are those of another
abbrev pub replaced_up_to : {A : Type 0} → ℕ → List A → List A → List A
replaced_up_to zero xs ys = ys
replaced_up_to (suc n) [] ys = ys
replaced_up_to (suc n) (x ∷ xs) [] = []
replaced_up_to (suc n) (x ∷ xs) (y ∷ ys) = x ∷ replaced_up_to n xs ys

pub replaced-next : {A : Type 0} (n : ℕ) (xs ys : List A) (d : A) → length xs ≡ length ys → n < length xs
    → set (replaced_up_to n xs ys) n (get_or xs n d) ≡ replaced_up_to (suc n) xs ys
replaced-next n [] ys d each there = absurd (omega (arith, there))
replaced-next n (x ∷ xs) [] d each there = absurd (omega (arith, each))
replaced-next zero (x ∷ xs) (y ∷ ys) d each there = refl
replaced-next (suc n) (x ∷ xs) (y ∷ ys) d each there =
    ap (λ rest. x ∷ rest) (replaced-next n xs ys d (omega (arith, each)) (omega (arith, there)))

pub replaced-all : {A : Type 0} (n : ℕ) (xs ys : List A) → length xs ≡ length ys → n ≡ length xs → replaced_up_to n xs ys ≡ xs
replaced-all zero [] [] each is = refl
replaced-all zero [] (y ∷ ys) each is = absurd (omega (arith, each))
replaced-all zero (x ∷ xs) ys each is = absurd (omega (arith, is))
replaced-all (suc n) [] [] each is = refl
replaced-all (suc n) [] (y ∷ ys) each is = absurd (omega (arith, each))
replaced-all (suc n) (x ∷ xs) [] each is = absurd (omega (arith, each))
replaced-all (suc n) (x ∷ xs) (y ∷ ys) each is = ap (λ rest. x ∷ rest) (replaced-all n xs ys (omega (arith, each)) (omega (arith, is)))

-- the next buffer takes the next text
pub buffers-next : (n next : ℕ) (texts buffers now : List (List ℕ)) (new : List ℕ) → now ≡ replaced_up_to n texts buffers
    → length texts ≡ length buffers → n < length texts → new ≡ get_or texts n [] → next ≡ suc n
    → set now n new ≡ replaced_up_to next texts buffers
buffers-next n next texts buffers now new is each there took next_is =
    ap (λ (bytes : List ℕ). set now n bytes) took
    ∙ ap (λ (all : List (List ℕ)). set all n (get_or texts n [])) is
    ∙ replaced-next n texts buffers [] each there
    ∙ ap (λ (m : ℕ). replaced_up_to m texts buffers) (sym next_is)

-- ---- the text of a worker's log

log-at : (workers : List Worker) (n : ℕ) (d : Worker) → n < length workers → get_or (map (λ worker. worker.log) workers) n [] ≡ (get_or workers n d).log
log-at [] n d there = absurd (omega (arith, there))
log-at (worker ∷ workers) zero d there = refl
log-at (worker ∷ workers) (suc n) d there = log-at workers n d (omega (arith, there))

-- the text of the log of a worker of the list
pub text-at : (header : Header) (workers : List Worker) (n : ℕ) (d : Worker) → n < length workers
    → get_or (written_logs header (map (λ worker. worker.log) workers)) n [] ≡ text_from (opening_writer n header) (get_or workers n d).log
text-at header workers n d there =
    let many = length-map workers (λ worker. worker.log) in
    written_at header 0 n (map (λ worker. worker.log) workers) (omega (arith, there, many))
    ∙ ap (λ (log : List Command). written_log header (0 + n) log) (log-at workers n d there)
    ∙ ap (λ (k : ℕ). written_log header k (get_or workers n d).log) (omega arith)

pub texts-length : (header : Header) (workers : List Worker) → length (written_logs header (map (λ worker. worker.log) workers)) ≡ length workers
texts-length header workers = written-length header 0 (map (λ worker. worker.log) workers) ∙ length-map workers (λ worker. worker.log)

-- ---- all logs are handed out

pub logged_with-length : (logs round : List (List Command)) → length (logged_with logs round) ≡ length logs
logged_with-length [] round = refl
logged_with-length (log ∷ logs) [] = refl
logged_with-length (log ∷ logs) (next ∷ round) = ap suc (logged_with-length logs round)

-- their texts, where what was logged before comes to rest
written-behind : (header : Header) (number : ℕ) (logs round : List (List Command)) → ComeToRestFrom header number logs
    → logs_written_from header number (logged_with logs round) ≡ logs_with (logs_written_from header number logs) (logs_written_from header number round)
written-behind header number [] round rests = refl
written-behind header number (log ∷ logs) [] rests = refl
written-behind header number (log ∷ logs) (next ∷ round) rests =
    ap (λ (text : List ℕ). text ∷ logs_written_from header (suc number) (logged_with logs round)) (written_log-append header number log next rests.0)
    ∙ ap (λ (rest : List (List ℕ)). (written_log header number log ++ written_log header number next) ∷ rest) (written-behind header (suc number) logs round rests.1)

pub logged_with-texts : (header : Header) (logs round : List (List Command)) → ComeToRestFrom header 0 logs
    → written_logs header (logged_with logs round) ≡ logs_with (written_logs header logs) (written_logs header round)
logged_with-texts header logs round rests = written-behind header 0 logs round rests

before-handed : (logs : List (List Command)) (workers : List Worker) → length logs ≡ length workers
    → before_each (logged_with logs (map (λ worker. worker.log) workers)) (map with_no_log workers) ≡ before_each logs workers
before-handed [] [] each = refl
before-handed [] (worker ∷ workers) each = absurd (omega (arith, each))
before-handed (log ∷ logs) [] each = absurd (omega (arith, each))
before-handed (log ∷ logs) (worker ∷ workers) each =
    ap (λ (l : List Command). record worker { log = l } ∷ before_each (logged_with logs (map (λ worker'. worker'.log) workers)) (map with_no_log workers))
    (append-nil (log ++ worker.log))
    ∙ ap (λ (rest : List Worker). logged_before log worker ∷ rest) (before-handed logs workers (omega (arith, each)))

-- What is handed out goes in front, and the world with it is the same.
pub with_logs-handed : {C : Type 0} (logs : List (List Command)) (world : World C) → length logs ≡ length world.workers
    → with_logs (logged_with logs (logs_of world)) (all_handed_out world) ≡ with_logs logs world
with_logs-handed logs world each = ap (λ (workers : List Worker). record world { workers = workers }) (before-handed logs world.workers each)

-- the logs of a world whose workers have handed out theirs are those in front
pub front-logs : (logs : List (List Command)) (workers : List Worker) → length logs ≡ length workers
    → AllByRecursion (λ worker. worker.log ≡ []) workers → logs ≡ map (λ worker. worker.log) (before_each logs workers)
front-logs [] [] each none' = refl
front-logs [] (worker ∷ workers) each none' = absurd (omega (arith, each))
front-logs (log ∷ logs) [] each none' = absurd (omega (arith, each))
front-logs (log ∷ logs) (worker ∷ workers) each none' =
    ap (λ (rest : List (List Command)). log ∷ rest) (front-logs logs workers (omega (arith, each)) none'.1)
    ∙ ap (λ (l : List Command). l ∷ map (λ worker'. worker'.log) (before_each logs workers))
    (sym (ap (λ (l : List Command). log ++ l) none'.0 ∙ append-nil log))

-- and those of a world that was handed out are none
pub handed-none : (workers : List Worker) → AllByRecursion (λ worker. worker.log ≡ []) (map with_no_log workers)
handed-none [] = tt
handed-none (worker ∷ workers) = (refl, handed-none workers)

-- a world of which so many workers from the front on have handed out their logs
abbrev pub front_handed_out : {C : Type 0} → ℕ → World C → World C
front_handed_out n world = record world { workers = changed_up_to with_no_log n world.workers }

-- the next has
pub handed-next : {C : Type 0} (n next : ℕ) (world : World C) (d : Worker) → n < length world.workers → next ≡ suc n
    → (let now = front_handed_out n world in record now { workers = set now.workers n (with_no_log (get_or now.workers n d)) }) ≡ front_handed_out next world
handed-next n next world d there is =
    ap (λ (workers : List Worker). record world { workers = workers })
    (ap (λ (w : Worker). set (changed_up_to with_no_log n world.workers) n (with_no_log w)) (changed-not with_no_log n world.workers d)
    ∙ changed-next with_no_log n world.workers d there
    ∙ ap (λ (m : ℕ). changed_up_to with_no_log m world.workers) (sym is))

-- all have
pub handed-all : {C : Type 0} (n : ℕ) (world : World C) → n ≡ length world.workers → front_handed_out n world ≡ all_handed_out world
handed-all n world is = ap (λ (workers : List Worker). record world { workers = workers }) (changed-all with_no_log n world.workers is)

-- the logs of a world with logs in front are these with its own behind
pub logs-behind : (logs : List (List Command)) (workers : List Worker) → length logs ≡ length workers
    → logged_with logs (map (λ worker. worker.log) workers) ≡ map (λ worker. worker.log) (before_each logs workers)
logs-behind [] [] each = refl
logs-behind [] (worker ∷ workers) each = absurd (omega (arith, each))
logs-behind (log ∷ logs) [] each = absurd (omega (arith, each))
logs-behind (log ∷ logs) (worker ∷ workers) each =
    ap (λ (rest : List (List Command)). (log ++ worker.log) ∷ rest) (logs-behind logs workers (omega (arith, each)))

-- Where a run stops: the vault took a front of the bundle of its logs, and the sink a front of the lines that this certifies.
use Rattle.std.proofs.Common.{◌≡◌, ◌⊎◌, Bool, ℕ, zero, suc, ◌+◌, ◌*◌, ◌<◌, ◌≤◌, List, [], ◌∷◌, ◌++◌, length, map, take, Option, None, inl, inr, refl, sym, ◌∙◌, ap, subst, append_assoc, append-nil, arith}
use Rattle.std.proofs.lemmas.Bool.{cases_lt}
use Rattle.fv_outside.specs.Written.{GrowsByFront}
use Rattle.fv_outside.proofs.WrittenLaws.{Grows-then, GrowsByFront-more, GrowsByFront-none}
use Rattle.record_hash.specs.Functions.{DigestFunctions}
use Rattle.record_text.specs.declared.request.Request.{Request}
use Rattle.lamport_clocks.specs.declared.header.Header.{Header}
use Rattle.lamport_clocks.specs.Header.{IsHeader}
use Rattle.bundle_frames.specs.Bundle.{header_text}
use Rattle.bundle_report.specs.Logs.{empty_logs}
use Rattle.bundle_report.specs.Report.{EpochText, told_by}
use Rattle.bundle_report.specs.Answer.{check_answer}
use Rattle.slot_rewriting.specs.Writing.{written_logs}
use Rattle.host_core.specs.Host.{Host}
use Rattle.host_core.specs.World.{World, logs_of, set_up}
use Rattle.host_shard.specs.Content.{Content}
use Rattle.script_text.specs.declared.task.Task.{Task}
use Rattle.host_world.specs.declared.fault.ClockEnd.{ClockEnd}
use Rattle.shipped_host.specs.declared.settings.Settings.{Settings}
use Rattle.shipped_host.specs.Settings.{IsSettings}
use Rattle.shipped_host.specs.ShippedHost.{shipped_host}
use Rattle.host_world.specs.Shown.{shown_world, digests_of, requests_of}
use Rattle.host_world.specs.Behind.{with_logs}
use Rattle.host_serving.proofs.LeadingLaws.{leads-none}
use Rattle.host_serving.proofs.FormLaws.{run-none}
use Rattle.host_rounds.specs.Round.{logs_with, round_text}
use Rattle.host_rounds.specs.Bundle.{IsBundle, HasBundle}
use Rattle.host_rounds.specs.SoFar.{RunsSoFar, HaveRun, lines_counted, lines_due}
use Rattle.host_rounds.proofs.RoundLaws.{counted-front, logs_with-none}
use Rattle.verifier_threads.specs.declared.accounts.Account.{Account}
use Rattle.verifier_threads.specs.declared.accounts.Account.TheVariants as accounts
use Rattle.verifier_threads.specs.declared.world_run.WorldRun.{WorldRun}
use Rattle.verifier_threads.specs.InRounds.{Logs, logged_with, no_logs}
use Rattle.verifier_threads.specs.Serving.{Outputs, GrowsFor, AreOfRunSoFar, HasFrontOfLines, HasTold, IsCutOff, IsCutInRound, told_for}
use Rattle.verifier_threads.specs.Running.{GrowsByFrontFor, IsRunning, Runs}
use Rattle.verifier_threads.proofs.RoundLemmas.{texts-more}
use Rattle.verifier_threads.proofs.HandingLemmas.{logged_with-texts, logs-behind, texts-length}
use Rattle.verifier_threads.proofs.RunningLemmas.{running-workers}
use Rattle.verifier_threads.proofs.EndingLemmas.{texts-none, set_up-count}

-- ---- what is told of bundles

-- what a bundle's bytes certify, whatever follows them
abbrev pub StaysDue : Type 0
StaysDue = (receipts : Bool) (functions : DigestFunctions) (header : Header) (logs : List (List ℕ)) (rounds : List (List (List ℕ))) (bytes more : List ℕ) → IsBundle header logs rounds bytes
    → (rest : List ℕ) × ((check_answer receipts functions (bytes ++ more)).due ≡ lines_due (told_by receipts functions header) functions header logs ++ rest)

-- the header alone is one
abbrev pub HeadersAreBundles : Type 0
HeadersAreBundles = (header : Header) → IsHeader header → header.first < 4294967296 → IsBundle header (empty_logs header.verifiers) [] (header_text header)

-- and so is one with the frames of a round behind it
abbrev pub RoundsFollow : Type 0
RoundsFollow = (header : Header) (logs round : List (List ℕ)) (rounds : List (List (List ℕ))) (bytes : List ℕ) → IsBundle header logs rounds bytes → length round ≡ header.verifiers
    → IsBundle header (logs_with logs round) (rounds ++ (round ∷ [])) (bytes ++ round_text round)

-- a sink that took nothing took no more than it was to
pub none-of_lines : (account : Account) (functions : DigestFunctions) (bytes : List ℕ) (vault vault_after out : Option (List ℕ))
    → HasFrontOfLines account functions bytes (record { vault = vault; vault_after = vault_after; out = out; out_after = out })
none-of_lines (accounts.Report receipts) functions bytes vault vault_after out = GrowsByFront-none out (check_answer receipts functions bytes).due
none-of_lines (accounts.Summary load) functions bytes vault vault_after out = refl

-- ---- before the first round

-- of no rounds and one round the logs are that round's
first-round : (count : ℕ) (round : List (List ℕ)) → length round ≡ count → logs_with (empty_logs count) round ≡ round
first-round zero [] each = refl
first-round zero (bytes ∷ round) each = absurd (omega (arith, each))
first-round (suc count) [] each = absurd (omega (arith, each))
first-round (suc count) (bytes ∷ round) each = ap (λ (rest : List (List ℕ)). bytes ∷ rest) (first-round count round (omega (arith, each)))

-- The logs of a run that is set up, or that can't be; their bundle begins with the header.
pub record BeginsWith (functions : DigestFunctions) (settings : Settings) (script : List (List Task)) (rounds : List Logs) (logs : Logs) : Type 0 where
  pub run : AreOfRunSoFar functions settings script rounds logs
  pub more : List ℕ
  pub is_bundle : IsBundle settings.header (written_logs settings.header logs) (map (written_logs settings.header) rounds) (header_text settings.header ++ more)

module _ (opened : HeadersAreBundles) (follow : RoundsFollow) (functions : DigestFunctions) (settings : Settings) (script : List (List Task)) (fit : IsSettings settings)
    (first : settings.header.first < 4294967296) where
  abbrev own_host : Host Content Request
  own_host = shipped_host functions settings script

  abbrev head : List ℕ
  head = header_text settings.header

  begins-with_none : settings.header.end < settings.shards → BeginsWith functions settings script [] (no_logs settings.header.verifiers)
  begins-with_none short = record {
    run = record { served = λ enough. absurd (omega (arith, enough, short)); unserved = λ _. (refl, refl) };
    more = [];
    is_bundle = subst (λ (all : List (List ℕ)). IsBundle settings.header all [] (head ++ [])) (sym (texts-none settings.header settings.header.verifiers))
        (subst (IsBundle settings.header (empty_logs settings.header.verifiers) []) (sym (append-nil head)) (opened settings.header fit.header first));
  }

  begins-with_setup : settings.shards ≤ settings.header.end → BeginsWith functions settings script (logs_of (set_up own_host) ∷ []) (logs_of (set_up own_host))
  begins-with_setup enough =
      let world = set_up own_host in
      let round = written_logs settings.header (logs_of world) in
      let each : length round ≡ settings.header.verifiers = texts-length settings.header world.workers ∙ set_up-count settings own_host world fit refl refl in
      record {
        run = record {
          served = λ _. record {
            world = world;
            end = None;
            way = run-none own_host world;
            logs_are = refl;
            done = [];
            since = logs_of world;
            rounds_are = refl;
            passed = (None, leads-none own_host world);
          };
          unserved = λ short. absurd (omega (arith, enough, short));
        };
        more = round_text round;
        is_bundle = subst (λ (all : List (List ℕ)). IsBundle settings.header all (round ∷ []) (head ++ round_text round))
            (first-round settings.header.verifiers round each)
            (follow settings.header (empty_logs settings.header.verifiers) round [] head (opened settings.header fit.header first) each);
      }

  begins : (rounds : List Logs) × (logs : Logs) × BeginsWith functions settings script rounds logs
  begins = elim (cases_lt settings.header.end settings.shards) [
    | inl short ↦ (_, _, begins-with_none short)
    | inr enough ↦ (_, _, begins-with_setup enough)
  ]

  -- the vault took a front of the header, and nothing is written
  pub header-cut : (account : Account) (vault vault_after out : Option (List ℕ)) → GrowsByFront vault vault_after head
      → IsCutOff account functions settings script (record { vault = vault; vault_after = vault_after; out = out; out_after = out })
  header-cut account vault vault_after out grown =
      let start = begins in
      let front = GrowsByFront-more vault vault_after head start.2.more grown in
      record {
        rounds = start.0;
        logs = start.1;
        run = start.2.run;
        vault = record { bytes = head ++ start.2.more; is_bundle = start.2.is_bundle; grown = front };
        out = none-of_lines account functions front.front vault vault_after out;
      }

-- ---- what is told before the end

-- what was told of the epochs that are counted is a front of what is due
counted-due : (account : Account) (tell : EpochText) (functions : DigestFunctions) (header : Header) (logs : List (List ℕ)) (rounds : RunsSoFar) (before after : Option (List ℕ))
    → HaveRun functions header logs rounds → GrowsFor account before after (lines_counted tell functions header logs rounds)
    → GrowsByFrontFor account before after (lines_due tell functions header logs)
counted-due (accounts.Report receipts) tell functions header logs rounds before after have written =
    subst (λ (all : List (List ℕ)). GrowsByFront before after (lines_due tell functions header all)) (logs_with-none logs)
    (counted-front tell functions header logs rounds have [] before after written)
counted-due (accounts.Summary load) tell functions header logs rounds before after have written = written

-- a front of that is one of the lines that the bundle's bytes certify, whatever follows them
front-of_lines : StaysDue → (account : Account) (functions : DigestFunctions) (header : Header) (logs : List (List ℕ)) (rounds : List (List (List ℕ))) (bytes more : List ℕ) (outputs : Outputs)
    → IsBundle header logs rounds bytes → GrowsByFrontFor account outputs.out outputs.out_after (lines_due (told_for account functions header) functions header logs)
    → HasFrontOfLines account functions (bytes ++ more) outputs
front-of_lines stays (accounts.Report receipts) functions header logs rounds bytes more outputs bundle written =
    let due = stays receipts functions header logs rounds bytes more bundle in
    subst (GrowsByFront outputs.out outputs.out_after) (sym due.1)
    (GrowsByFront-more outputs.out outputs.out_after (lines_due (told_by receipts functions header) functions header logs) due.0 written)
front-of_lines stays (accounts.Summary load) functions header logs rounds bytes more outputs bundle written = written

-- ---- on the way

module _ (account : Account) (functions : DigestFunctions) (settings : Settings) (script : List (List Task)) (world : World Content)
    (rounds : RunsSoFar) (end : Option ClockEnd) (past : List Logs) (outputs : Outputs) (running : IsRunning account functions settings script world rounds end past outputs) where
  -- what is not handed out yet is a round more
  so_far : AreOfRunSoFar functions settings script (past ++ (logs_of world ∷ [])) (logged_with running.logs (logs_of world))
  so_far = record {
    served = λ _. record {
      world = with_logs running.logs world;
      end = end;
      way = running.way;
      logs_are = logs-behind running.logs world.workers running.each;
      done = past;
      since = logs_of world;
      rounds_are = refl;
      passed = running.passed;
    };
    unserved = λ short. absurd (omega (arith, short, running.counters));
  }

  -- All lines are that the rounds up to the last close certify.
  pub running-cut_in_round : (vault : Option (List ℕ)) (phases closes : ℕ) → length past ≡ phases + closes → (phases ≡ closes) ⊎ (phases ≡ suc closes)
      → HasTold account functions settings.header (take (2 * closes) past) outputs → GrowsByFront outputs.vault_after vault (round_text (written_logs settings.header (logs_of world)))
      → IsCutInRound account functions settings script (record outputs { vault_after = vault })
  running-cut_in_round vault phases closes count stage told grown = record {
    past = past;
    round = logs_of world;
    logs = logged_with running.logs (logs_of world);
    run = so_far;
    held = outputs.vault_after;
    whole = subst (λ (logs : List (List ℕ)). HasBundle settings.header logs (map (written_logs settings.header) past) outputs.vault outputs.vault_after) running.keeps.vault.is_bundle.logs_are running.keeps.vault;
    front = grown;
    closes = closes;
    count = elim stage [ inl same ↦ inl (omega (arith, count, same)) | inr more ↦ inr (omega (arith, count, more)) ];
    told = told;
  }

module _ (stays : StaysDue) (follow : RoundsFollow) (account : Account) (functions : DigestFunctions) (settings : Settings) (script : List (List Task)) (world : World Content)
    (rounds : RunsSoFar) (end : Option ClockEnd) (past : List Logs) (outputs : Outputs) (running : IsRunning account functions settings script world rounds end past outputs) where
  -- the frames of what is not handed out yet
  abbrev pub next_frames : List ℕ
  next_frames = round_text (written_logs settings.header (logs_of world))

  -- the lines of what was handed out
  abbrev pub own_due : List ℕ
  own_due = lines_due (told_for account functions settings.header) functions settings.header (written_logs settings.header running.logs)

  -- those of what is counted were written
  due-so_far : GrowsByFrontFor account outputs.out outputs.out_after own_due
  due-so_far =
      counted-due account (told_for account functions settings.header) functions settings.header (written_logs settings.header running.logs) rounds outputs.out outputs.out_after running.keeps.runs
      running.written

  -- The vault has the bundle of what was handed out and a front of the next frames, and a front of the lines of it is written.
  pub running-cut_lines : (vault out : Option (List ℕ)) → GrowsByFront outputs.vault_after vault next_frames → GrowsByFrontFor account outputs.out out own_due
      → IsCutOff account functions settings script (record outputs { vault_after = vault; out_after = out })
  running-cut_lines vault out grown written =
      let has = running.keeps.vault in
      let logs = written_logs settings.header running.logs in
      let round = written_logs settings.header (logs_of world) in
      let count = running-workers account functions settings script world rounds end past outputs running in
      record {
        rounds = past ++ (logs_of world ∷ []);
        logs = logged_with running.logs (logs_of world);
        run = so_far account functions settings script world rounds end past outputs running;
        vault = record {
          bytes = has.bytes ++ next_frames;
          is_bundle = subst (λ (rs : List (List (List ℕ))). IsBundle settings.header (written_logs settings.header (logged_with running.logs (logs_of world))) rs (has.bytes ++ next_frames)) (sym (texts-more settings.header past (logs_of world)))
              (subst (λ (all : List (List ℕ)). IsBundle settings.header all (map (written_logs settings.header) past ++ (round ∷ [])) (has.bytes ++ next_frames)) (sym (logged_with-texts settings.header running.logs (logs_of world) running.rests))
              (follow settings.header logs round (map (written_logs settings.header) past) has.bytes has.is_bundle (texts-length settings.header world.workers ∙ count)));
          grown = record {
            front = has.bytes ++ grown.front;
            rest = grown.rest;
            parts = ap (λ (text : List ℕ). has.bytes ++ text) grown.parts ∙ sym (append_assoc has.bytes grown.front grown.rest);
            grown = Grows-then outputs.vault outputs.vault_after vault has.bytes grown.front has.grown grown.grown;
          };
        };
        out =
            front-of_lines stays account functions settings.header logs (map (written_logs settings.header) past) has.bytes grown.front (record outputs { vault_after = vault; out_after = out })
            has.is_bundle written;
      }

  -- No more lines are.
  pub running-cut : (vault : Option (List ℕ)) → GrowsByFront outputs.vault_after vault next_frames
      → IsCutOff account functions settings script (record outputs { vault_after = vault })
  running-cut vault grown = running-cut_lines vault outputs.out_after grown due-so_far

-- ---- runners

module _ (account : Account) {D : Type 0} (functions : D → DigestFunctions) (runner : WorldRun D) (outputs : Outputs) (past : List Logs)
    (runs : Runs account functions runner past outputs) where
  abbrev pub own_world : World Content
  own_world = shown_world runner.world

  module _ (stays : StaysDue) (follow : RoundsFollow) where
    -- it stops with nothing written since
    pub runs-cut : (vault out : Option (List ℕ)) → outputs.vault_after ≡ vault → outputs.out_after ≡ out
        → IsCutOff account (functions (digests_of runner.world)) runner.world.settings (requests_of runner.world) (record outputs { vault_after = vault; out_after = out })
    runs-cut vault out vault_is out_is =
        subst (λ (o : Option (List ℕ)). IsCutOff account (functions (digests_of runner.world)) runner.world.settings (requests_of runner.world) (record outputs { vault_after = vault; out_after = o })) out_is
        (running-cut stays follow _ _ _ _ own_world runner.rounds runner.end past outputs runs.running vault
        (subst (λ (v : Option (List ℕ)). GrowsByFront outputs.vault_after v (round_text (written_logs runner.world.settings.header (logs_of own_world)))) vault_is
        (GrowsByFront-none outputs.vault_after (round_text (written_logs runner.world.settings.header (logs_of own_world))))))

    -- or while the vault takes what its workers logged
    pub runs-cut_round : (vault vault' : Option (List ℕ)) (round : List (List ℕ)) → outputs.vault_after ≡ vault → round ≡ written_logs runner.world.settings.header (logs_of own_world)
        → GrowsByFront vault vault' (round_text round)
        → IsCutOff account (functions (digests_of runner.world)) runner.world.settings (requests_of runner.world) (record outputs { vault_after = vault' })
    runs-cut_round vault vault' round vault_is round_is grown =
        running-cut stays follow _ _ _ _ own_world runner.rounds runner.end past outputs runs.running vault'
        (subst (λ (all : List (List ℕ)). GrowsByFront outputs.vault_after vault' (round_text all)) round_is
        (subst (λ (v : Option (List ℕ)). GrowsByFront v vault' (round_text round)) (sym vault_is) grown))

    -- or while the sink takes the lines of it
    pub runs-cut_lines : (out : Option (List ℕ))
        → GrowsByFrontFor account outputs.out out (lines_due (told_for account (functions (digests_of runner.world)) runner.world.settings.header) (functions (digests_of runner.world)) runner.world.settings.header (written_logs runner.world.settings.header runs.running.logs))
        → IsCutOff account (functions (digests_of runner.world)) runner.world.settings (requests_of runner.world) (record outputs { out_after = out })
    runs-cut_lines out written =
        running-cut_lines stays follow _ _ _ _ own_world runner.rounds runner.end past outputs runs.running outputs.vault_after out
        (GrowsByFront-none outputs.vault_after (round_text (written_logs runner.world.settings.header (logs_of own_world)))) written

  module _ (phases closes : ℕ) (count : length past ≡ phases + closes) (stage : (phases ≡ closes) ⊎ (phases ≡ suc closes))
      (told : HasTold account (functions (digests_of runner.world)) runner.world.settings.header (take (2 * closes) past) outputs) where
    -- it stops with nothing taken of the next round
    pub runs-cut_before : (vault : Option (List ℕ)) → outputs.vault_after ≡ vault
        → IsCutInRound account (functions (digests_of runner.world)) runner.world.settings (requests_of runner.world) (record outputs { vault_after = vault })
    runs-cut_before vault vault_is =
        running-cut_in_round _ _ _ _ own_world runner.rounds runner.end past outputs runs.running vault phases closes count stage told
        (subst (λ (v : Option (List ℕ)). GrowsByFront outputs.vault_after v (round_text (written_logs runner.world.settings.header (logs_of own_world)))) vault_is
        (GrowsByFront-none outputs.vault_after (round_text (written_logs runner.world.settings.header (logs_of own_world)))))

    -- or with a front of it
    pub runs-cut_in_round : (vault vault' : Option (List ℕ)) (round : List (List ℕ)) → outputs.vault_after ≡ vault → round ≡ written_logs runner.world.settings.header (logs_of own_world)
        → GrowsByFront vault vault' (round_text round)
        → IsCutInRound account (functions (digests_of runner.world)) runner.world.settings (requests_of runner.world) (record outputs { vault_after = vault' })
    runs-cut_in_round vault vault' round vault_is round_is grown =
        running-cut_in_round _ _ _ _ own_world runner.rounds runner.end past outputs runs.running vault' phases closes count stage told
        (subst (λ (all : List (List ℕ)). GrowsByFront outputs.vault_after vault' (round_text all)) round_is
        (subst (λ (v : Option (List ℕ)). GrowsByFront v vault' (round_text round)) (sym vault_is) grown))

-- What all workers logged is passed on to the vault and to the runs.
use Rattle.std.proofs.Common.{◌≡◌, ℕ, suc, ◌*◌, ◌≤◌, Bool, true, if◌then◌else◌, List, [], ◌∷◌, ◌++◌, length, map, take, Option, Result, Vec, Global, Ok, Err, OnOk, OnErr, refl, sym, ◌∙◌, ap, subst, arith}
use Rattle.std.proofs.lemmas.List.{length-map}
use Rattle.record_hash.specs.Functions.{DigestFunctions}
use Rattle.lamport_clocks.specs.declared.header.Header.{Header}
use Rattle.merkle_records.specs.Scheme.{Scheme, scheme_of}
use Rattle.bundle_report.specs.SoFar.{runs_from}
use Rattle.bundle_report.proofs.LikeRunsLaws.{like-length}
use Rattle.record_text.specs.declared.request.Request.{Request}
use Rattle.host_core.specs.Host.{Host}
use Rattle.host_core.specs.World.{World, logs_of, set_up}
use Rattle.host_shard.specs.Content.{Content}
use Rattle.script_text.specs.declared.task.Task.{Task}
use Rattle.host_world.specs.declared.fault.ClockEnd.{ClockEnd}
use Rattle.shipped_host.specs.declared.settings.Settings.{Settings}
use Rattle.host_world.specs.declared.world.World as code
use Rattle.host_world.specs.Shown.{shown_world, digests_of, requests_of}
use Rattle.host_world.specs.Behind.{StandsBehind, AreOfOneHost, host_of, with_logs}
use Rattle.host_serving.specs.Leading.{first_of}
use Rattle.host_serving.proofs.FormLaws.{GoesOn}
use Rattle.certified_epochs.specs.declared.fed_run.FedRun.{FedRun}
use Rattle.fv_outside.specs.declared.failure.Failure.{Failure}
use Rattle.host_rounds.specs.Feeding.{AllRead}
use Rattle.slot_rewriting.specs.Writing.{written_logs, ComeToRestFrom}
use Rattle.host_rounds.specs.Round.{logs_with}
use Rattle.host_rounds.specs.SoFar.{RunsSoFar, Keeps, HaveRun, AllCounted, lines_counted, lines_due, with_runs}
use Rattle.verifier_threads.specs.declared.accounts.Account.{Account}
use Rattle.verifier_threads.specs.declared.world_run.WorldRun.{WorldRun}
use Rattle.verifier_threads.specs.InRounds.{Logs, logged_with, IsBehindRounds}
use Rattle.verifier_threads.specs.Serving.{Outputs, GrowsFor, HasTold, told_for}
use Rattle.verifier_threads.specs.Running.{IsRunning, Runs, RunsTold, RunsBehind, RunsWhole, rounds_before, all_handed_out, with_runs_of}
use Rattle.shipped_host.specs.ShippedHost.{shipped_host}
use Rattle.verifier_threads.proofs.RoundLemmas.{take-all, take-more, length-one_more}
use Rattle.verifier_threads.proofs.RunningLemmas.{of_one_host, leads-length, running-behind, running-fresh, running-led, running-handed}

-- ---- answers

pub ok_both : {T E P Q S : Type 0} (r : Result T E) → OnOk r P → OnOk r Q → (P → Q → S) → OnOk r S
ok_both (Ok value) p q f = f p q
ok_both (Err fault) p q f = tt

pub ok_then : {T E P Q : Type 0} (r : Result T E) → OnOk r P → (P → Q) → OnOk r Q
ok_then (Ok value) p f = f p
ok_then (Err fault) p f = tt

pub ok_four : {T E P Q R S Z : Type 0} (r : Result T E) → OnOk r P → OnOk r Q → OnOk r R → OnOk r S → (P → Q → R → S → Z) → OnOk r Z
ok_four (Ok value) p q s t f = f p q s t
ok_four (Err fault) p q s t f = tt

pub err_then : {T E P Q : Type 0} (r : Result T E) → OnErr r P → (P → Q) → OnErr r Q
err_then (Ok value) p f = tt
err_then (Err fault) p f = f p

pub ok_any : {T E P : Type 0} (r : Result T E) → P → OnOk r P
ok_any (Ok value) p = p
ok_any (Err fault) p = tt

pub err_any : {T E P : Type 0} (r : Result T E) → P → OnErr r P
err_any (Ok value) p = tt
err_any (Err fault) p = p

-- an answer that is passed on is the one that came
pub same-fault : {A B : Type 0} (result : Result B Failure) (passed came : Failure) {stop : Failure} → result ≡ Err stop → result ≡ Err passed → passed ≡ came
    → (let one : Result A Failure = Err came in one ≡ Err stop)
same-fault {A} {B} result passed came {stop} is was same =
    let own : stop ≡ came = (let both : passed ≡ stop = cc in sym both ∙ same) in
    ap (λ (e : Failure). let r : Result A Failure = Err e in r) (sym own)

-- ---- how many runs there are

length-runs : (scheme : Scheme) (header : Header) (count number : ℕ) (logs : List (List ℕ)) → length (runs_from scheme header count number logs) ≡ length logs
length-runs scheme header count number [] = refl
length-runs scheme header count number (log ∷ logs) = ap suc (length-runs scheme header count (suc number) logs)

pub run-count : (functions : DigestFunctions) (header : Header) (logs : List (List ℕ)) (so_far : RunsSoFar) → HaveRun functions header logs so_far
    → length so_far.runs ≡ header.verifiers
run-count functions header logs so_far have =
    sym (length-map so_far.runs (λ fed. fed.run))
    ∙ like-length (runs_from (scheme_of functions header) header so_far.judged.count 0 logs) (map (λ fed. fed.run) so_far.runs) have.taken.runs_are
    ∙ length-runs (scheme_of functions header) header so_far.judged.count 0 logs ∙ have.taken.whole

-- ---- a round

module _ (account : Account) (functions : DigestFunctions) (settings : Settings) (script : List (List Task)) (world : World Content) (rounds : RunsSoFar)
    (end : Option ClockEnd) (past : List Logs) (outputs : Outputs) (running : IsRunning account functions settings script world rounds end past outputs) where
  -- the vault and the runs take it
  pub running-taken : (later : World Content) (round : List (List ℕ)) (rounds' : RunsSoFar) (vault' : Option (List ℕ))
      → IsBehindRounds (shipped_host functions settings script) (suc (length past)) world → ComeToRestFrom settings.header 0 (logged_with running.logs (logs_of world))
      → later ≡ all_handed_out world → round ≡ written_logs settings.header (logs_of world)
      → Keeps functions settings.header (logs_with (written_logs settings.header running.logs) round) (map (written_logs settings.header) past ++ (round ∷ [])) rounds' outputs.vault vault'
      → lines_counted (told_for account functions settings.header) functions settings.header (logs_with (written_logs settings.header running.logs) round) rounds' ≡ lines_counted (told_for account functions settings.header) functions settings.header (written_logs settings.header running.logs) rounds
      → IsRunning account functions settings script later rounds' end (past ++ (logs_of world ∷ [])) (record outputs { vault_after = vault' })
  running-taken later round rounds' vault' stands rests world_is round_is keeps lines =
      subst (λ (w : World Content). IsRunning account functions settings script w rounds' end (past ++ (logs_of world ∷ [])) (record outputs { vault_after = vault' })) (sym world_is)
      (running-handed account functions settings script world rounds end past outputs running rounds' (record outputs { vault_after = vault' }) stands rests
      (subst (λ (all : List (List ℕ)). Keeps functions settings.header (logs_with (written_logs settings.header running.logs) all) (map (written_logs settings.header) past ++ (all ∷ [])) rounds' outputs.vault vault') round_is keeps)
      (subst (λ (all : List (List ℕ)). GrowsFor account outputs.out outputs.out_after (lines_counted (told_for account functions settings.header) functions settings.header (logs_with (written_logs settings.header running.logs) all) rounds')) round_is
      (subst (GrowsFor account outputs.out outputs.out_after) (sym lines) running.written)))

-- ---- runs that are lent

-- with the runs that it lent it is what it was, whatever runs it took in their stead
pub rounds-back : (old lent back : RunsSoFar) (runs before : List FedRun) → lent ≡ with_runs [] old → back ≡ with_runs runs lent → before ≡ old.runs
    → with_runs before back ≡ old
rounds-back old lent back runs before one two three =
    ap (with_runs before) (two ∙ ap (with_runs runs) one) ∙ ap (λ (rs : List FedRun). with_runs rs old) three

-- what the runs took is what the workers of the later world logged
pub took-round : {D : Type 0} (functions : D → DigestFunctions) (old middle : code.World D) (lent back : RunsSoFar) (before after : List FedRun) → AreOfOneHost old middle
    → back ≡ with_runs after lent → AllRead (functions (digests_of old)) (written_logs old.settings.header (logs_of (shown_world middle))) before after
    → AllRead (functions (digests_of middle)) (written_logs middle.settings.header (logs_of (shown_world middle))) before back.runs
took-round {D} functions old middle lent back before after same is takes =
    subst (λ (d : D). AllRead (functions d) (written_logs middle.settings.header (logs_of (shown_world middle))) before back.runs) (sym same.digests)
    (subst (λ (s : Settings). AllRead (functions (digests_of old)) (written_logs s.header (logs_of (shown_world middle))) before back.runs) (sym same.settings)
    (subst (λ (r : RunsSoFar). AllRead (functions (digests_of old)) (written_logs old.settings.header (logs_of (shown_world middle))) before r.runs) (sym is) takes))

-- ---- runners

module _ (account : Account) {D : Type 0} (functions : D → DigestFunctions) (old : WorldRun D) (past : List Logs) (outputs : Outputs)
    (runs : Runs account functions old past outputs) where
  abbrev pub host_now : Host Content Request
  host_now = host_of (functions (digests_of old.world)) old.world

  -- its world stands behind the setup
  pub runs-behind : StandsBehind (functions (digests_of old.world)) old.world
  runs-behind = (
    runs.running.logs,
    record {
      each = runs.running.each;
      behind = running-behind _ _ _ _ (shown_world old.world) old.rounds old.end past outputs runs.running;
    },
  )

  -- by other names of what is held
  pub runs-at : (vault out : Option (List ℕ)) → outputs.vault_after ≡ vault → outputs.out_after ≡ out
      → Runs account functions old past (record outputs { vault_after = vault; out_after = out })
  runs-at vault out vault_is out_is =
      subst (λ (o : Option (List ℕ)). Runs account functions old past (record outputs { vault_after = vault; out_after = o })) out_is
      (subst (λ (v : Option (List ℕ)). Runs account functions old past (record outputs { vault_after = v })) vault_is runs)

  -- events lead its world on
  pub runs-led : (world : code.World D) (next end : Option ClockEnd) → AreOfOneHost old.world world
      → GoesOn host_now runs.running.logs (shown_world old.world) (shown_world world) old.end next → end ≡ first_of old.end next
      → Runs account functions (record old { world = world; end = end }) past outputs
  runs-led world next end same way is = record {
    running =
        of_one_host functions old.world world same
        (λ (f : DigestFunctions) (settings : Settings) (script : List (List Task)). IsRunning account f settings script (shown_world world) old.rounds end past outputs)
        (subst (λ (e : Option ClockEnd). IsRunning account (functions (digests_of old.world)) old.world.settings (requests_of old.world) (shown_world world) old.rounds e past outputs) (sym is)
        (running-led _ _ _ _ (shown_world old.world) old.rounds old.end past outputs runs.running (shown_world world) next way));
    buffers = runs.buffers ∙ sym (leads-length host_now (shown_world old.world) (shown_world world) next way.leads);
    counts = runs.counts ∙ sym (leads-length host_now (shown_world old.world) (shown_world world) next way.leads);
  }

  -- the same where its verifiers' runs were lent, and others taken in their stead, with other counts
  pub runs-fed : (world : code.World D) (next end : Option ClockEnd) (back : RunsSoFar) (before : List FedRun) (parcels : Vec ℕ Global) → AreOfOneHost old.world world
      → GoesOn host_now runs.running.logs (shown_world old.world) (shown_world world) old.end next → end ≡ first_of old.end next → with_runs before back ≡ old.rounds
      → length parcels.items ≡ length old.parcels.items
      → Runs account functions (with_runs_of before (record old { world = world; end = end; rounds = back; parcels = parcels })) past outputs
  runs-fed world next end back before parcels same way is rounds_are many =
      let led = runs-led world next end same way is in
      subst (λ (rounds : RunsSoFar). Runs account functions (record old { world = world; end = end; rounds = rounds; parcels = parcels }) past outputs) (sym rounds_are)
      (record { running = led.running; buffers = led.buffers; counts = many ∙ led.counts })

  -- what its logs certify is counted and written
  pub runs-certified : (rounds' : RunsSoFar) (out : Option (List ℕ))
      → HaveRun (functions (digests_of old.world)) old.world.settings.header (written_logs old.world.settings.header runs.running.logs) rounds'
      → AllCounted (functions (digests_of old.world)) old.world.settings.header (written_logs old.world.settings.header runs.running.logs) rounds'
      → lines_counted (told_for account (functions (digests_of old.world)) old.world.settings.header) (functions (digests_of old.world)) old.world.settings.header (written_logs old.world.settings.header runs.running.logs) rounds'
      ≡ lines_due (told_for account (functions (digests_of old.world)) old.world.settings.header) (functions (digests_of old.world)) old.world.settings.header (written_logs old.world.settings.header runs.running.logs)
      → GrowsFor account outputs.out out (lines_due (told_for account (functions (digests_of old.world)) old.world.settings.header) (functions (digests_of old.world)) old.world.settings.header (written_logs old.world.settings.header runs.running.logs))
      → RunsTold account functions (record old { rounds = rounds' }) past (record outputs { out_after = out })
  runs-certified rounds' out have all counted written = record {
    runs = record {
      running = record {
        settings_fit = runs.running.settings_fit;
        counters = runs.running.counters;
        keys = runs.running.keys;
        values = runs.running.values;
        logs = runs.running.logs;
        joined = runs.running.joined;
        each = runs.running.each;
        rests = runs.running.rests;
        way = runs.running.way;
        passed = runs.running.passed;
        keeps = record { vault = runs.running.keeps.vault; runs = have };
        written = subst (GrowsFor account outputs.out out) (sym counted) written;
      };
      buffers = runs.buffers;
      counts = runs.counts;
    };
    all = all;
    told = subst (λ (logs : List (List ℕ)). GrowsFor account outputs.out out (lines_due (told_for account (functions (digests_of old.world)) old.world.settings.header) (functions (digests_of old.world)) old.world.settings.header logs))
        runs.running.keeps.vault.is_bundle.logs_are written;
  }

-- ---- behind rounds and closes

module _ (account : Account) {D : Type 0} (functions : D → DigestFunctions) (old : WorldRun D) (phases closes : ℕ) (outputs : Outputs)
    (behind : RunsBehind account functions old phases closes outputs) where
  -- by other names of what is held
  pub behind-at : (vault out : Option (List ℕ)) → outputs.vault_after ≡ vault → outputs.out_after ≡ out
      → RunsBehind account functions old phases closes (record outputs { vault_after = vault; out_after = out })
  behind-at vault out vault_is out_is =
      subst (λ (o : Option (List ℕ)). RunsBehind account functions old phases closes (record outputs { vault_after = vault; out_after = o })) out_is
      (subst (λ (v : Option (List ℕ)). RunsBehind account functions old phases closes (record outputs { vault_after = v })) vault_is behind)

  -- what was told of the one host's world was told of the other's
  told-of : (world : code.World D) → AreOfOneHost old.world world
      → HasTold account (functions (digests_of world)) world.settings.header (take (2 * closes) behind.past) outputs
  told-of world same =
      of_one_host functions old.world world same
      (λ (f : DigestFunctions) (settings : Settings) (script : List (List Task)). HasTold account f settings.header (take (2 * closes) behind.past) outputs)
      behind.told

  -- events lead its world on
  pub behind-led : (world : code.World D) (next end : Option ClockEnd) → AreOfOneHost old.world world
      → GoesOn (host_of (functions (digests_of old.world)) old.world) behind.runs.running.logs (shown_world old.world) (shown_world world) old.end next → end ≡ first_of old.end next
      → RunsBehind account functions (record old { world = world; end = end }) phases closes outputs
  behind-led world next end same way is = record {
    past = behind.past;
    runs = runs-led account functions old behind.past outputs behind.runs world next end same way is;
    count = behind.count;
    told = told-of world same;
  }

  -- the same where its verifiers' runs were lent, and others taken in their stead, with other counts
  pub behind-fed : (world : code.World D) (next end : Option ClockEnd) (back : RunsSoFar) (before : List FedRun) (parcels : Vec ℕ Global) → AreOfOneHost old.world world
      → GoesOn (host_of (functions (digests_of old.world)) old.world) behind.runs.running.logs (shown_world old.world) (shown_world world) old.end next → end ≡ first_of old.end next → with_runs before back ≡ old.rounds
      → length parcels.items ≡ length old.parcels.items
      → RunsBehind account functions (with_runs_of before (record old { world = world; end = end; rounds = back; parcels = parcels })) phases closes outputs
  behind-fed world next end back before parcels same way is rounds_are many = record {
    past = behind.past;
    runs = runs-fed account functions old behind.past outputs behind.runs world next end back before parcels same way is rounds_are many;
    count = behind.count;
    told = told-of world same;
  }

  -- one round more
  pub behind-more : (new : WorldRun D) (round : Logs) (vault : Option (List ℕ)) → AreOfOneHost old.world new.world → closes ≤ phases
      → Runs account functions new (behind.past ++ (round ∷ [])) (record outputs { vault_after = vault })
      → RunsBehind account functions new (suc phases) closes (record outputs { vault_after = vault })
  behind-more new round vault same few runs =
      let size = length-one_more behind.past round in
      let count = behind.count in
      record {
        past = behind.past ++ (round ∷ []);
        runs = runs;
        count = omega (arith, size, count);
        told = subst (λ (rounds : List Logs). HasTold account (functions (digests_of new.world)) new.world.settings.header rounds outputs)
            (sym (take-more (2 * closes) behind.past (round ∷ []) (omega (arith, count, few)))) (told-of new.world same);
      }

-- what is whole stands behind as many rounds as closes
pub whole-behind : (account : Account) {D : Type 0} (functions : D → DigestFunctions) (runner : WorldRun D) (closes : ℕ) (outputs : Outputs)
    → RunsWhole account functions runner closes outputs → RunsBehind account functions runner closes closes outputs
whole-behind account functions runner closes outputs whole = record {
  past = whole.past;
  runs = whole.runs;
  count = whole.count;
  told = subst (λ (rounds : List Logs). HasTold account (functions (digests_of runner.world)) runner.world.settings.header rounds outputs)
      (sym (take-all (2 * closes) whole.past (omega (arith, whole.count)))) whole.told;
}

-- before the first round of a rolling host nothing is handed out
pub behind-fresh : (account : Account) {D : Type 0} (functions : D → DigestFunctions) (runner : WorldRun D) (outputs : Outputs)
    (behind : RunsBehind account functions runner (rounds_before runner) (rounds_before runner) outputs)
    → (runner.world.settings.rolling ≡ true → shown_world runner.world ≡ set_up (host_of (functions (digests_of runner.world)) runner.world))
    → runner.world.settings.rolling ≡ true
    → with_logs behind.runs.running.logs (shown_world runner.world) ≡ set_up (host_of (functions (digests_of runner.world)) runner.world)
behind-fresh account functions runner outputs behind new rolling =
    running-fresh _ _ _ _ (shown_world runner.world) runner.rounds runner.end behind.past outputs behind.runs.running (empty-past behind.past none') (new rolling)
  where
    none' : length behind.past ≡ 0
    none' =
        let first : rounds_before runner ≡ 0 = ap (λ (b : Bool). if b then 0 else (shown_world runner.world).phase) rolling in
        omega (arith, behind.count, first)

    empty-past : (rounds : List Logs) → length rounds ≡ 0 → rounds ≡ []
    empty-past [] is = refl
    empty-past (round ∷ rounds) is = absurd (omega (arith, is))

-- events of a world of the same phase leave as many rounds behind it
pub rounds-same : {D : Type 0} (old new : WorldRun D) → AreOfOneHost old.world new.world → (shown_world new.world).phase ≡ (shown_world old.world).phase
    → rounds_before new ≡ rounds_before old
rounds-same old new same phase =
    ap (λ (settings : Settings). if settings.rolling then 0 else (shown_world new.world).phase) same.settings
    ∙ ap (λ (n : ℕ). if old.world.settings.rolling then 0 else n) phase

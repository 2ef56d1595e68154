-- What a request does to a clock and to an element, whatever else there is.
use Rattle.std.proofs.Common.{◌≡◌, ◌≢◌, ℕ, zero, suc, ◌<◌, ◌≤◌, max, Bool, true, false, List, [], ◌∷◌, length, get_or, set, nat_eq, nat_lt, not, Option, Some, None, if◌then◌else◌, eq-eqb, refl, sym, ◌∙◌, ap, subst, arith}
use Rattle.std.specs.Prelude.{◌&&◌, ◌||◌}
use Rattle.std.specs.List.{AllByRecursion, list_any}
use Rattle.std.proofs.lemmas.Bool.{false≢true}
use Rattle.std.proofs.lemmas.Bool.Decides.{nat_tests}
use Rattle.std.proofs.lemmas.List.{get_or_past, get_or-set_same, get_or-set_other}
use Rattle.std.proofs.lemmas.Option.{none-some}
use Rattle.lamport_clocks.specs.declared.stamp.Stamp.{Stamp}
use Rattle.lamport_clocks.specs.Reading.{Reading}
use Rattle.lamport_clocks.specs.Clock.{greater_counter}
use Rattle.lamport_clocks.proofs.ClockLaws.{greater_than_other}
use Rattle.tree_keys.specs.Path.{is_prefix}
use Rattle.record_hash.specs.Functions.{DigestFunctions}
use Rattle.record_text.specs.declared.element.Element.{Element}
use Rattle.record_text.specs.declared.request.Request.{Request}
use Rattle.record_text.specs.Longest.{longest_of}
use Rattle.merkle_records.specs.Merkle.{Digest}
use Rattle.script_text.specs.declared.task.Task.{Task}
use Rattle.host_shard.specs.declared.link.Link.{Link}
use Rattle.host_shard.specs.declared.content.HotRecord.{HotRecord}
use Rattle.host_shard.specs.Shard.{key_path_in, pending_shard}
use Rattle.host_shard.specs.Content.{Content, cold, hot, vacant, pending_hot}
use Rattle.host_plan.specs.Moments.{renewing}
use Rattle.host_plan.specs.Request.{is_missed, served, served_hot}
use Rattle.host_plan.specs.Plan.{content_after, clock_after}
use Rattle.host_core.specs.Host.{Done, Host}
use Rattle.host_order.specs.Steady.{HasOne, MovesOn, IsUpFrom, IsSteady}
use Rattle.host_order.specs.Close.{MovesKeepEpoch}
use Rattle.protection_moves.specs.Stage.{Stage, is_hot_at, touched_in}
use Rattle.protection_moves.specs.Renewing.{renewing_each}
use Rattle.protection_moves.specs.Transfer.{Transfer, demotes, promotes, clock_needed}
use Rattle.protection_moves.specs.Descent.{Descent, done_by, done_by_each}
use Rattle.protection_moves.specs.Move.{begun}
use Rattle.shipped_host.specs.declared.settings.Settings.{Settings}
use Rattle.shipped_host.specs.Promotable.{promotable_in}
use Rattle.shipped_host.specs.Links.{links_of}
use Rattle.shipped_host.specs.Moving.{stage_of, descents_of, done_with, move_seats}
use Rattle.shipped_host.specs.ShippedHost.{is_blob, serves_key, shipped_host}
use Rattle.host_fits.proofs.Keeping.{Setting, setting_of, served_at}
use Rattle.host_fits.proofs.PlaceLemmas.{both, done_within, none_past, past_none}

one_same : (x y : Element) → ◌≡◌ {A = List Element} (x ∷ []) (y ∷ []) → x ≡ y
one_same x y is = cc

none_one : (x : Element) → ◌≡◌ {A = List Element} [] (x ∷ []) → ⊥
none_one x is = absurd (cc)

-- a test of the contents doesn't change with one that is put there, where it finds that as it found the one before
any_set : (test : Content → Bool) (contents : List Content) (k : ℕ) (new : Content) → test new ≡ test (get_or contents k vacant)
    → list_any test (set contents k new) ≡ list_any test contents
any_set test [] zero new same = refl
any_set test [] (suc k) new same = refl
any_set test (content ∷ contents) zero new same = ap (λ (b : Bool). b || list_any test contents) same
any_set test (content ∷ contents) (suc k) new same = ap (λ (b : Bool). test content || b) (any_set test contents k new same)

-- ---- the epoch of a move

renew_epoch : (clock : Reading) (found : List HotRecord) → (renewing_each clock found).at.epoch ≡ clock.at.epoch
renew_epoch clock [] = refl
renew_epoch clock (one ∷ more) = renew_epoch (renewing clock one.stamp) more

transfer_epoch : (digest : Digest) (worker : ℕ) (stage : Stage) (transfer : Transfer) (links : List Link)
    → (done_by digest worker stage transfer links).clock.at.epoch ≡ stage.clock.at.epoch
transfer_epoch digest worker stage (demotes found) links = refl
transfer_epoch digest worker stage (promotes key) links = refl

descents_epoch : (digest : Digest) (worker : ℕ) (stage : Stage) (descents : List Descent)
    → (done_by_each digest worker stage descents).clock.at.epoch ≡ stage.clock.at.epoch
descents_epoch digest worker stage [] = refl
descents_epoch digest worker stage (descent ∷ descents) =
    descents_epoch digest worker (done_by digest worker stage descent.transfer descent.links) descents
    ∙ transfer_epoch digest worker stage descent.transfer descent.links

move_epoch : (longest : ℕ) (digest : Digest) (worker : ℕ) (threshold : Option ℕ) (clock : Reading) (contents : List Content) (done : Done (List Content))
    → move_seats digest worker threshold (stage_of clock contents) ≡ Some done → done.clock.at.epoch ≡ clock.at.epoch
move_epoch longest digest worker threshold clock [] done is = absurd (none-some done is)
move_epoch longest digest worker threshold clock (cold shard ∷ rest) done is =
    ap (λ (d : Done (List Content)). d.clock.at.epoch)
    (sym (done_within clock.end (clock_needed stage promotable).at.counter (done_with digest worker stage (descents_of digest worker stage promotable)) done is).0)
    ∙ (descents_epoch digest worker (begun worker stage) (descents_of digest worker stage promotable) ∙ renew_epoch clock (touched_in rest))
  where
    stage : Stage
    stage = record { shard = shard; places = rest; clock = clock }

    promotable : List ℕ
    promotable = promotable_in stage threshold
move_epoch longest digest worker threshold clock (hot found ∷ rest) done is = absurd (none-some done is)
move_epoch longest digest worker threshold clock (vacant ∷ rest) done is = absurd (none-some done is)

module _ (functions : DigestFunctions) (settings : Settings) (script : List (List Task)) where
  abbrev host : Host Content Request
  host = shipped_host functions settings script

  abbrev setting : Setting
  setting = setting_of functions settings script

  abbrev longest : ℕ
  longest = longest_of settings.header

  -- ---- the clock

  -- an element's stamp is taken in and the next counter handed out
  renewed : (content : Content) (clock : Reading) (element : Element) → host.pending content ≡ element ∷ []
      → clock_after content clock ≡ renewing clock element.stamp
  renewed (cold shard) clock element is = ap (λ (x : Element). renewing clock x.stamp) (one_same (pending_shard shard) element is)
  renewed (hot found) clock element is = ap (λ (x : Element). renewing clock x.stamp) (one_same (pending_hot found) element is)
  renewed vacant clock element is = absurd (none_one element is)

  -- and it is left with that stamp
  leaves_one : (worker : ℕ) (content : Content) (links : List Link) (request : Request) (clock : Reading) (element : Element) → host.pending content ≡ element ∷ []
      → (new : Element) × (host.pending (content_after settings.absent functions.digest worker content links request clock) ≡ new ∷ []) × (new.stamp ≡ (clock_after content clock).at)
  leaves_one worker (cold shard) links request clock element is =
      (pending_shard (served functions.digest worker shard links request clock (is_missed settings.absent shard links request)), refl, refl)
  leaves_one worker (hot found) links request clock element is = (pending_hot (served_hot worker found request clock), refl, refl)
  leaves_one worker vacant links request clock element is = absurd (none_one element is)

  moves_on : (worker : ℕ) (clock : Reading) (before : Content) (request : Request) (done : Done Content) → HasOne host before
      → host.serve worker clock before request ≡ Some done → MovesOn host clock before done
  moves_on worker clock before request done one is =
      subst (MovesOn host clock before) (done_within clock.end (clock_after before clock).at.counter (served_at setting worker clock before request) done is).0
      (record {
        epoch = ap (λ (r : Reading). r.at.epoch) after;
        later = subst (λ (r : Reading). clock.at.counter < r.at.counter) (sym after) (omega arith);
        above = λ all.
            let of_epoch = subst (λ (xs : List Element). AllByRecursion (λ (e : Element). e.stamp.epoch ≡ clock.at.epoch) xs) one.1 all in
            subst (λ (xs : List Element). AllByRecursion (λ (e : Element). e.stamp.counter < (clock_after before clock).at.counter) xs) (sym one.1)
            (subst (λ (r : Reading). one.0.stamp.counter < r.at.counter) (sym after) (omega (arith, greater_than_other clock.at one.0.stamp of_epoch.0)), tt);
        new = leaves_one worker before (links_of before request.key) request clock one.0 one.1;
      })
    where
      after : clock_after before clock ≡ renewing clock one.0.stamp
      after = renewed before clock one.0 one.1

  -- ---- who owns what

  -- what comes of a content serves the same keys
  serves_after : (seats : List Content) (key : ℕ) (worker : ℕ) (content : Content) (links : List Link) (request : Request) (clock : Reading)
      → serves_key seats key (content_after settings.absent functions.digest worker content links request clock) ≡ serves_key seats key content
  serves_after seats key worker (cold shard) links request clock = refl
  serves_after seats key worker (hot found) links request clock = refl
  serves_after seats key worker vacant links request clock = refl

  hot_after : (key worker : ℕ) (content : Content) (links : List Link) (request : Request) (clock : Reading)
      → is_hot_at key (content_after settings.absent functions.digest worker content links request clock) ≡ is_hot_at key content
  hot_after key worker (cold shard) links request clock = refl
  hot_after key worker (hot found) links request clock = refl
  hot_after key worker vacant links request clock = refl

  -- of the other seats it counts only whether one has the key
  serves_as : (old new : List Content) (key : ℕ) (content : Content) → list_any (is_hot_at key) new ≡ list_any (is_hot_at key) old
      → serves_key new key content ≡ serves_key old key content
  serves_as old new key (cold shard) same = ap (λ (b : Bool). is_prefix shard.frontier (key_path_in shard key) && not b) same
  serves_as old new key (hot found) same = refl
  serves_as old new key vacant same = refl

  owners : (worker : ℕ) (clock : Reading) (s seat : ℕ) (contents : List Content) (request : Request) (done : Done Content)
      → HasOne host (get_or contents seat vacant)
      → host.serve worker clock (get_or contents seat vacant) request ≡ Some done
      → (other : ℕ) (ask : Request) → host.owns s (set contents seat done.after) other ask ≡ host.owns s contents other ask
  owners worker clock s seat contents request done one is other ask =
      ap (λ (b : Bool). b && is_blob longest ask.value)
      (serves_as contents (set contents seat done.after) ask.key (get_or (set contents seat done.after) other vacant) hot_keys ∙ go (nat_eq other seat) refl)
    where
      left : done.after ≡ content_after settings.absent functions.digest worker (get_or contents seat vacant) (links_of (get_or contents seat vacant) request.key) request clock
      left = ap (λ (d : Done Content). d.after)
          (sym (done_within clock.end (clock_after (get_or contents seat vacant) clock).at.counter (served_at setting worker clock (get_or contents seat vacant) request) done is).0)

      hot_keys : list_any (is_hot_at ask.key) (set contents seat done.after) ≡ list_any (is_hot_at ask.key) contents
      hot_keys = any_set (is_hot_at ask.key) contents seat done.after
          (ap (λ (c : Content). is_hot_at ask.key c) left
          ∙ hot_after ask.key worker (get_or contents seat vacant) (links_of (get_or contents seat vacant) request.key) request clock)

      within : (b : Bool) → nat_lt seat (length contents) ≡ b → seat < length contents
      within true inside = grind (arith, nat_tests)
      within false outside =
          let past : length contents ≤ seat = grind (arith, nat_tests) in
          absurd (none_one one.0 (sym (ap (λ (c : Content). host.pending c) (get_or_past contents seat vacant past)) ∙ one.1))

      here : serves_key contents ask.key (get_or (set contents seat done.after) seat vacant) ≡ serves_key contents ask.key (get_or contents seat vacant)
      here =
          ap (λ (c : Content). serves_key contents ask.key c)
          (get_or-set_same contents seat done.after vacant (within (nat_lt seat (length contents)) refl) ∙ left)
          ∙ serves_after contents ask.key worker (get_or contents seat vacant) (links_of (get_or contents seat vacant) request.key) request clock

      go : (b : Bool) → nat_eq other seat ≡ b
          → serves_key contents ask.key (get_or (set contents seat done.after) other vacant) ≡ serves_key contents ask.key (get_or contents other vacant)
      go true same =
          let at : other ≡ seat = grind (arith, nat_tests) in
          subst (λ (n : ℕ). serves_key contents ask.key (get_or (set contents seat done.after) n vacant) ≡ serves_key contents ask.key (get_or contents n vacant)) (sym at) here
      go false apart =
          let elsewhere : other ≢ seat = grind (arith, nat_tests) in
          ap (λ (c : Content). serves_key contents ask.key c) (get_or-set_other contents seat other done.after vacant elsewhere)

  owner_waits : (seats : List Content) (key : ℕ) (content : Content) → serves_key seats key content ≡ true → HasOne host content
  owner_waits seats key (cold shard) owns = (pending_shard shard, refl)
  owner_waits seats key (hot found) owns = (pending_hot found, refl)
  owner_waits seats key vacant owns = absurd (false≢true owns)

  -- ---- where a clock ends

  greater_same : (at t : Stamp) → t.epoch ≡ at.epoch → greater_counter at t ≡ max at.counter t.counter
  greater_same at t same = ap (λ (b : Bool). max at.counter (if b then t.counter else 0)) (eq-eqb t.epoch at.epoch same)

  ends : (worker : ℕ) (clock : Reading) (old new : Content) (request : Request) → IsUpFrom host clock.at.epoch old new
      → host.serve worker clock old request ≡ None → host.serve worker clock new request ≡ None
  ends worker clock old new request up is = past_none clock.end (clock_after new clock).at.counter (served_at setting worker clock new request) past
    where
      before : clock_after old clock ≡ renewing clock up.was.stamp
      before = renewed old clock up.was up.was_there

      after : clock_after new clock ≡ renewing clock up.now.stamp
      after = renewed new clock up.now up.now_there

      ended : clock.end < (renewing clock up.was.stamp).at.counter
      ended =
          subst (λ (r : Reading). clock.end < r.at.counter) before
          (none_past clock.end (clock_after old clock).at.counter (served_at setting worker clock old request) is)

      past : clock.end < (clock_after new clock).at.counter
      past =
          subst (λ (r : Reading). clock.end < r.at.counter) (sym after)
          (omega (arith, ended, up.rises, greater_same clock.at up.was.stamp up.was_of, greater_same clock.at up.now.stamp up.now_of))

  -- A request moves the clock on, and leaves the owners as they were.
  pub is_steady : IsSteady host
  is_steady = record {
    moves_on = moves_on;
    owners = owners;
    waits = λ s seat contents request owns.
        owner_waits contents request.key (get_or contents seat vacant)
        (both (serves_key contents request.key (get_or contents seat vacant)) (is_blob longest request.value) owns).0;
    ends = ends;
  }

  -- Nor does a close of a shard leave the epoch.
  pub moves_keep_epoch : MovesKeepEpoch host
  moves_keep_epoch worker clock s contents done is = move_epoch longest functions.digest worker settings.hot clock contents done is

-- What a worker did of a round with no further epoch it did of a phase.
use Rattle.std.proofs.Common.{◌≡◌, ℕ, suc, ◌+◌, ◌-◌, ◌<◌, ◌≤◌, Bool, true, false, List, [], ◌∷◌, ◌++◌, length, replicate, Option, Some, None, is_some, refl, sym, ◌∙◌, ap, subst, arith}
use Rattle.std.specs.List.{AllByRecursion}
use Rattle.std.specs.Option.{ForSome}
use Rattle.std.proofs.lemmas.Option.{none-some, same_Some}
use Rattle.lamport_clocks.specs.Reading.{Reading}
use Rattle.record_text.specs.declared.request.Request.{Request}
use Rattle.log_codec.specs.declared.command.Command.{Command}
use Rattle.log_codec.specs.declared.command.Command.TheVariants.{NextEpoch}
use Rattle.host_core.specs.World.{Worker}
use Rattle.round_order.specs.Turn.{on_to, clock_behind, served_behind, served_more, logged}
use Rattle.round_order.proofs.GoingLaws.{on_to-there}
use Rattle.host_shard.specs.Content.{Content, cold, hot, vacant}
use Rattle.host_shard.specs.Shown.{shown_content}
use Rattle.host_epochs.specs.declared.told.Entry.{Entry}
use Rattle.host_epochs.specs.declared.told.Meeting.{Meeting}
use Rattle.host_epochs.specs.declared.told.Stop as rounds
use Rattle.host_epochs.specs.declared.views.Row as round_rows
use Rattle.host_epochs.specs.Scan.{IsStale}
use Rattle.host_epochs.specs.Terms as epochs
use Rattle.host_epochs.specs.Told as told
use Rattle.host_epochs.proofs.WorkLaws.{later_epoch}
use Rattle.host_table.specs.declared.told.Stop.{Stop}
use Rattle.host_table.specs.Services.{end_at, end_of, request_in, row_of, services_of, stop_of}
use Rattle.table_order.specs.Phases.{first_clock}
use Rattle.table_order.specs.Rounds.{turns_of, BeginsAt}
use Rattle.round_workers.specs.Parts as parts
use Rattle.worker_threads.specs.Parts.{commands_of, last_clock, AreDone, HasDone}
use Rattle.worker_threads.specs.Phase.{numbered}

-- ---- what is asked

abbrev first_pair : ℕ × Request → List (ℕ × Request) → ℕ × Request
first_pair d [] = d
first_pair d (pair ∷ pairs) = pair

abbrev behind_first : List (ℕ × Request) → List (ℕ × Request)
behind_first [] = []
behind_first (pair ∷ pairs) = pairs

-- the first of what is asked, and the rest
asked_first : (phase : ℕ) (asked : List Request) (number : ℕ) (request : Request) (then : List (ℕ × Request)) → numbered phase asked ≡ (number, request) ∷ then
    → (more : List Request) × (asked ≡ request ∷ more) × (numbered phase more ≡ then)
asked_first phase [] number request then is = absurd cc
asked_first phase (one ∷ more) number request then is = (
  more,
  ap (λ (r : Request). r ∷ more) (ap (λ (pairs : List (ℕ × Request)). (first_pair (phase, one) pairs).1) is),
  ap behind_first is,
)

asked_none : (phase : ℕ) (asked : List Request) → numbered phase asked ≡ [] → asked ≡ []
asked_none phase [] is = refl
asked_none phase (one ∷ more) is = absurd cc

-- what is left where a worker's clock ended, or did not
abbrev IsLeft : List (ℕ × Request) → Option Stop → Type 0
IsLeft rest None = rest ≡ []
IsLeft rest (Some stop) = (phase : ℕ) × (then : List (ℕ × Request)) × (rest ≡ (phase, stop.request) ∷ then)

module _ (t : epochs.Terms) (one : t.more ≡ 0) where
  -- ---- an entry

  -- There is no scan, since no element is of an epoch before the clock's.
  no_stale : (content : Content) (epoch : ℕ) → epoch ≤ epochs.first_epoch t
      → epochs.Waits (λ e. (epochs.first_epoch t ≤ e) × (e ≤ epoch) × (epoch ≤ suc e)) content → IsStale epoch content → ⊥
  no_stale (cold shard) epoch within waits stale = let from = waits.0 in omega (arith, from, within, stale)
  no_stale (hot kept) epoch within waits stale = let from = waits.0 in omega (arith, from, within, stale)
  no_stale vacant epoch within waits stale = stale

  entry_epoch : (entry : Entry) → told.IsDone t entry → entry.clock.at.epoch ≡ epochs.first_epoch t
  entry_epoch entry done = let from = done.asked.clock.from in let to = done.asked.clock.to in omega (arith, from, to, one)

  -- An entry serves a request.
  serves_some : (entry : Entry) → told.IsDone t entry → (request : Request) × (entry.request ≡ Some request)
  serves_some entry done = go entry.request refl done.asked.work
    where
      go : (found : Option Request) → entry.request ≡ found → told.IsWork t entry found → (request : Request) × (entry.request ≡ Some request)
      go (Some request) is work = (request, is)
      go None is work =
          absurd (no_stale (shown_content entry.before) entry.clock.at.epoch (let here = entry_epoch entry done in omega (arith, here)) done.near work.stale)

  -- ---- what is done

  done_plain : (first : ℕ) (asked : List Request) (rest : List (ℕ × Request)) (stop : Option Stop) (entries : List Entry) → AllByRecursion (told.IsDone t) entries
      → IsLeft rest stop → parts.AreDone first (numbered 0 asked) entries rest → AreDone asked (services_of entries) stop
  done_plain first asked rest None [] done left are = asked_none 0 asked (are ∙ left)
  done_plain first asked rest (Some stop) [] done left are =
      let front = asked_first 0 asked left.0 stop.request left.1 (are ∙ left.2) in (front.0, front.1)
  done_plain first asked rest stop (entry ∷ entries) done left are =
      let some = serves_some entry done.0 in
      let next = subst (λ (request : Option Request). parts.IsNext first (numbered 0 asked) entry request are.0) some.1 are.1 in
      let front = asked_first 0 asked next.0 some.0 are.0 next.1 in (
        front.0,
        front.1 ∙ ap (λ (request : Option Request). request_in request ∷ front.0) (sym some.1),
        done_plain first front.0 rest stop entries done.1 left (subst (λ (left' : List (ℕ × Request)). parts.AreDone first left' entries rest) (sym front.2) are.2),
      )

  logged_plain : (final : ℕ) (clock : Reading) (entries : List Entry) → final ≡ epochs.first_epoch t → clock.at.epoch ≡ final → AllByRecursion (told.IsDone t) entries
      → logged final clock (turns_of entries) ≡ commands_of (services_of entries)
  logged_plain final clock [] is here done = let none' : final - clock.at.epoch ≡ 0 = omega (arith, here) in ap (λ (n : ℕ). replicate n NextEpoch) none'
  logged_plain final clock (entry ∷ entries) is here done =
      let at = entry_epoch entry done.0 in
      let none' : entry.clock.at.epoch - clock.at.epoch ≡ 0 = omega (arith, at, here, is) in
      ap (λ (n : ℕ). replicate n NextEpoch ++ (entry.plan.commands ++ logged final entry.later (turns_of entries))) none'
      ∙ ap (λ (commands : List Command). entry.plan.commands ++ commands)
      (logged_plain final entry.later entries is (later_epoch t entry done.0.asked ∙ at ∙ sym is) done.1)

  clock_plain : (clock : Reading) (entries : List Entry) → clock_behind clock (turns_of entries) ≡ last_clock clock (services_of entries)
  clock_plain clock [] = refl
  clock_plain clock (entry ∷ entries) = clock_plain entry.later entries

  clock_stays : (clock : Reading) (entries : List Entry) → clock.at.epoch ≡ epochs.first_epoch t → AllByRecursion (told.IsDone t) entries
      → (clock_behind clock (turns_of entries)).at.epoch ≡ epochs.first_epoch t
  clock_stays clock [] here done = here
  clock_stays clock (entry ∷ entries) here done = clock_stays entry.later entries (later_epoch t entry done.0.asked ∙ entry_epoch entry done.0) done.1

  served_plain : (served : ℕ) (entries : List Entry) → AllByRecursion (told.IsDone t) entries → served_behind served (turns_of entries) ≡ served + length (services_of entries)
  served_plain served [] done = omega arith
  served_plain served (entry ∷ entries) done =
      let some = serves_some entry done.0 in
      let next : served + suc (length (services_of entries)) ≡ suc served + length (services_of entries) = omega arith in
      ap (λ (request : Option Request). served_behind (served_more served request) (turns_of entries)) some.1
      ∙ served_plain (suc served) entries done.1 ∙ sym next

  -- ---- where it ends

  -- a stop is at a request
  at_request : (rest : List (ℕ × Request)) (stop : rounds.Stop) → parts.IsNextOf t.more rest (parts.request_at stop.met)
      → (ended : Stop) × (stop_of (Some stop) ≡ Some ended) × (ended.clock ≡ stop.clock) × IsLeft rest (Some ended)
  at_request rest stop next = go stop.met refl next
    where
      with_request : (met : Meeting) → stop.met ≡ Some met → (request : Option Request) → met.request ≡ request → parts.IsNextOf t.more rest request
          → (ended : Stop) × (stop_of (Some stop) ≡ Some ended) × (ended.clock ≡ stop.clock) × IsLeft rest (Some ended)
      with_request met meets None asks further = absurd (omega (arith, further, one))
      with_request met meets (Some request) asks further = (
        record { place = met.place; clock = stop.clock; content = met.content; request = request },
        ap (end_of stop.clock) meets ∙ ap (end_at stop.clock met) asks,
        refl,
        further,
      )

      go : (met : Option Meeting) → stop.met ≡ met → parts.IsNextOf t.more rest (parts.request_at met)
          → (ended : Stop) × (stop_of (Some stop) ≡ Some ended) × (ended.clock ≡ stop.clock) × IsLeft rest (Some ended)
      go None meets further = absurd (omega (arith, further, one))
      go (Some met) meets further = with_request met meets met.request refl further

  -- What is known of a worker's end: the stop of the phase, which is one where the round's is, its clock, and what is left.
  record EndsSo (rest : List (ℕ × Request)) (clock : Reading) (stop : Option rounds.Stop) : Type 0 where
    pub same : is_some stop ≡ is_some (stop_of stop)
    pub clock_is : ForSome (stop_of stop) (λ ended. ended.clock ≡ clock)
    pub left : IsLeft rest (stop_of stop)

  ends_so : (rest : List (ℕ × Request)) (clock : Reading) (stop : Option rounds.Stop) → (stop ≡ None → rest ≡ [])
      → ForSome stop (parts.IsEnd t.more rest clock) → EndsSo rest clock stop
  ends_so rest clock None whole ended = record { same = refl; clock_is = λ other is. absurd (none-some other is); left = whole refl }
  ends_so rest clock (Some stop) whole ended =
      let is = ended stop refl in
      let at = at_request rest stop is.next in
      record {
        same = sym (ap (λ (found : Option Stop). is_some found) at.1);
        clock_is = λ other same. ap (λ (s : Stop). s.clock) (sym (same_Some at.0 other (sym at.1 ∙ same))) ∙ at.2 ∙ is.clock_is;
        left = subst (IsLeft rest) (sym at.1) at.3;
      }

  begins_plain : (clock last : Reading) (entries : List Entry) (stop : Option Stop) → clock.at.epoch ≡ epochs.first_epoch t → AllByRecursion (told.IsDone t) entries
      → BeginsAt clock entries → ForSome stop (λ ended. ended.clock ≡ last) → (entries ≡ [] → last ≡ clock)
      → ForSome (first_clock (services_of entries) stop) (λ found. found ≡ clock)
  begins_plain clock last [] None here done begins ended idle = λ found is. absurd (none-some found is)
  begins_plain clock last [] (Some stop) here done begins ended idle = λ found is. sym (same_Some stop.clock found is) ∙ ended stop refl ∙ idle refl
  begins_plain clock last (entry ∷ entries) stop here done begins ended idle = λ found is.
      sym (same_Some entry.clock found is) ∙ begins.0
      ∙ on_to-there entry.clock.at.epoch clock (let at = entry_epoch entry done.0 in omega (arith, at, here))

  -- ---- the whole

  not_warned : (warned : Bool) → (warned ≡ true → 0 < t.more) → warned ≡ false
  not_warned false heard = refl
  not_warned true heard = absurd (let more = heard refl in omega (arith, more, one))

  -- A worker that did its part of the round did its part of the phase.
  pub has_done_plain : (worker : ℕ) (asked : List Request) (row : round_rows.Row) (old new : Worker) → told.IsListOf t worker row.list row.entered
      → old.clock.at.epoch ≡ epochs.first_epoch t → parts.HasDone t (numbered 0 asked) row old new → HasDone asked (row_of row) old new
  has_done_plain worker asked row old new list here has =
      let first : ℕ = epochs.first_epoch t in
      let so_far = has.so_far in
      let whole : row.stop ≡ None → has.rest ≡ [] = λ none'. (has.whole none' (not_warned row.warned so_far.heard)).served in
      let ends = ends_so has.rest new.clock row.stop whole so_far.ended in
      let final : first + row.entered ≡ first = (let to = list.behind.is.to in let at = list.behind.epoch in omega (arith, to, at, one)) in
      let stays = clock_stays old.clock row.list here list.done in
      let clock : new.clock ≡ last_clock old.clock (services_of row.list) =
      so_far.clock ∙ ap (λ (n : ℕ). on_to n (clock_behind old.clock (turns_of row.list))) final
      ∙ on_to-there first (clock_behind old.clock (turns_of row.list)) (omega (arith, stays))
      ∙ clock_plain old.clock row.list in
      record {
        done = done_plain first asked has.rest (stop_of row.stop) row.list list.done ends.left so_far.done;
        begins = begins_plain old.clock new.clock row.list (stop_of row.stop) here list.done so_far.begins ends.clock_is
            (λ none'. clock ∙ ap (λ (entries : List Entry). last_clock old.clock (services_of entries)) none');
        log = so_far.log ∙ ap (λ (n : ℕ). old.log ++ logged n old.clock (turns_of row.list)) final
            ∙ ap (λ (commands : List Command). old.log ++ commands) (logged_plain first old.clock row.list refl here list.done);
        clock = clock;
        served = so_far.served ∙ served_plain old.served row.list list.done;
        stopped = so_far.stopped ∙ ends.same;
        holds = so_far.holds;
        stuck = so_far.stuck;
      }

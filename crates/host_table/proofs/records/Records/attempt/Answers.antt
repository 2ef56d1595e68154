use Rattle.std.proofs.Common.{◌≡◌, ℕ, ◌+◌, ◌<◌, ◌≤◌, Bool, true, arith, List, [], ◌∷◌, refl, sym, ap, ◌∙◌, subst, Option, Some, None, rules}
use Rattle.std.proofs.lemmas.List.{append-nil}
use Rattle.lamport_clocks.specs.Reading.{Reading}
use Rattle.merkle_records.specs.Merkle.{Digest}
use Rattle.host_shard.specs.declared.content.Content as code
use Rattle.host_shard.specs.Content.{Content}
use Rattle.host_shard.specs.Shown.{shown_content}
use Rattle.host_plan.specs.Plan.{IsPlan, IsPastEnd}
use Rattle.host_epochs.specs.declared.answers.Taking.TheVariants as taking
use Rattle.host_epochs.specs.declared.hand.Hand.{Hand}
use Rattle.host_epochs.specs.Calls as calls
use Rattle.host_epochs.specs.Hands as hands
use Rattle.host_epochs.specs.Table as rounds
use Rattle.host_epochs.specs.Terms as epochs
use Rattle.host_epochs.proofs.HandLaws.{holds_still, place_held}
use Rattle.host_epochs.proofs.HistoryLaws.{leads_owns, leads_to_had}
use Rattle.host_epochs.proofs.ScanLaws.{near_last, near_open}
use Rattle.host_table.specs.declared.told.Service.{Service}
use Rattle.host_table.specs.declared.told.Stop.{Stop}
use Rattle.host_table.specs.Calls.{IsAfter, IsServiceOf, clock_at}
use Rattle.host_table.specs.Hands.{Holds, content, history, services, stop}
use Rattle.host_table.specs.Table.{terms}
use Rattle.host_table.specs.Terms.{Terms, IsClockOf, IsPlaceOf, first_at}
use Rattle.host_table.specs.Told.{IsHad, Leads, TakesUp}
use Rattle.host_table.proofs.AttemptLemmas.{after_then, clock_told, service_plan, takes_more}
use Rattle.host_table.proofs.CallLemmas.{after_phase, behind_phase, no_stop, note_phase, noted_service, stopped_phase, tries_phase}
use Rattle.host_table.proofs.PhaseLaws.{had_phase}
use Rattle.host_table.proofs.records.Records.attempt.Goals as goal

pub plan-requires-clause-own : goal.plan-requires-clause-own
plan-requires-clause-own g c =
    let t : epochs.Terms = rounds.terms g.D.Digests.functions c.args.self.now.epochs in
    leads_owns t (λ text. (g.met.D.Digests.text_digest_shape (rounds.making c.args.self.now.epochs).digests.value text).size) c.args.place (hands.history c.try_take.new.hand) c.in-Taken.content
    c.in-Taken.ensures.tries.leads c.args.request.now.key c.requires.place.owns

pub plan-requires-clause-open : goal.plan-requires-clause-open
plan-requires-clause-open g c =
    let self = c.args.self.now in
    let t : epochs.Terms = rounds.terms g.D.Digests.functions self.epochs in
    let found = c.in-Taken.ensures.tries in
    let got = tries_phase t self.one (rounds.table self.epochs) c.args.hand.now c.args.place (taking.Taken c.in-Taken.content) c.try_take.new.hand c.requires.free found in
    let first = got.1.first in
    near_open t (hands.entered c.try_take.new.hand) (hands.done c.try_take.new.hand) c.in-Taken.content c.args.clock.now (omega (arith, first, c.requires.clock.epoch)) (λ later. absurd (omega (arith, first, later)))
    (near_last t (hands.entered c.try_take.new.hand) (hands.done c.try_take.new.hand) c.in-Taken.content (omega (arith, first, self.one)) found.near) found.near

pub give-requires-clause-may : goal.give-requires-clause-may
give-requires-clause-may g c =
    let self = c.args.self.now in
    let p : Terms = terms g.D.Digests.functions self in
    let t : epochs.Terms = rounds.terms g.D.Digests.functions self.epochs in
    let hand : Hand = c.try_take.new.hand in
    let got = tries_phase t self.one (rounds.table self.epochs) c.args.hand.now c.args.place (taking.Taken c.in-Taken.content) hand c.requires.free c.in-Taken.ensures.tries in
    let same : clock_at p c.at-before.result ≡ c.args.clock.now = clock_told p c.args.clock.now c.at-before.result c.requires.clock c.at-before.ensures.value in
    let found : shown_content (content hand) ≡ shown_content c.in-Taken.content = ap (λ (x : code.Content). shown_content x) got.2 in
    let within : IsPastEnd (shown_content c.in-Taken.content) c.args.clock.now → ⊥ = search rules in
    let service : Service = record {
      place = c.args.place;
      worker = hand.number;
      clock = clock_at p c.at-before.result;
      before = content hand;
      request = c.args.request.now;
      plan = c.in-Ok.plan;
      after = c.plan.new.content;
      later = c.plan.new.clock;
    } in
    note_phase t self.one (rounds.table self.epochs) hand c.args.place (clock_at p c.at-before.result) c.args.request.now c.plan.new.content service got.1
    (got.0.stop ∙ c.requires.going)
    (subst (IsClockOf p) (sym same) c.requires.clock)
    (subst (λ (a : List Service × Reading). TakesUp a.0 a.1) (λ i. (sym (got.0.services ∙ append-nil (services c.args.hand.now)) i, sym same i)) c.requires.chained)
    record {
      place_is = refl;
      worker_is = refl;
      before_is = refl;
      clock_is = refl;
      request_is = refl;
      after_is = refl;
      served = record {
        by = got.4;
        at = c.requires.place;
        value = c.a_blob_has_at_most_255_bytes.ensures.fits;
        clock = subst (IsClockOf p) (sym same) c.requires.clock;
        plan = subst (λ (a : Bool × Digest × ℕ × Content × Reading). IsPlan a.0 a.1 a.2 a.3 c.args.request.now a.4 c.in-Ok.plan (shown_content c.plan.new.content) c.plan.new.clock)
            (λ i. (self.told i, c.requires.digests i, c.worker.ensures.worker i, sym found i, sym same i)) c.in-Ok.ensures.planned;
        within = λ past. within (subst (λ (a : Content × Reading). IsPastEnd a.0 a.1) (λ i. (found i, same i)) past);
      };
    }

pub stop_at-requires-clause-going : goal.stop_at-requires-clause-going
stop_at-requires-clause-going g c =
    let self = c.args.self.now in
    let p : Terms = terms g.D.Digests.functions self in
    let t : epochs.Terms = rounds.terms g.D.Digests.functions self.epochs in
    let hand : Hand = c.try_take.new.hand in
    let got = tries_phase t self.one (rounds.table self.epochs) c.args.hand.now c.args.place (taking.Taken c.in-Taken.content) hand c.requires.free c.in-Taken.ensures.tries in
    let same : clock_at p c.at-before.result ≡ c.args.clock.now = clock_told p c.args.clock.now c.at-before.result c.requires.clock c.at-before.ensures.value in
    record {
      going = no_stop (hands.stop hand) got.1.ended (got.0.stop ∙ c.requires.going);
      behind = behind_phase t self.one (rounds.table self.epochs) hand (clock_at p c.at-before.result) got.1.first (subst (IsClockOf p) (sym same) c.requires.clock)
          (subst (λ (a : List Service × Reading). TakesUp a.0 a.1) (λ i. (sym (got.0.services ∙ append-nil (services c.args.hand.now)) i, sym same i)) c.requires.chained);
    }

pub give-requires-in-Err-ClockEnd-clause-holds : goal.give-requires-in-Err-ClockEnd-clause-holds
give-requires-in-Err-ClockEnd-clause-holds g c =
    (holds_still (rounds.table c.args.self.now.epochs) c.try_take.new.hand c.stop_at.new.hand c.args.place c.stop_at.ensures.keeps c.in-Taken.ensures.tries.holds).holds

pub give-requires-in-Err-ClockEnd-clause-may : goal.give-requires-in-Err-ClockEnd-clause-may
give-requires-in-Err-ClockEnd-clause-may g c =
    let still = holds_still (rounds.table c.args.self.now.epochs) c.try_take.new.hand c.stop_at.new.hand c.args.place c.stop_at.ensures.keeps c.in-Taken.ensures.tries.holds in
    let before : shown_content c.plan.new.content ≡ shown_content c.in-Taken.content = search rules in
    before ∙ ap (λ (x : code.Content). shown_content x) (sym (still.content_is ∙ c.in-Taken.ensures.tries.content_is))

pub returns-in-Ok-clause-attempts : goal.returns-in-Ok-clause-attempts
returns-in-Ok-clause-attempts g c =
    let self = c.args.self.now in
    let p : Terms = terms g.D.Digests.functions self in
    let t : epochs.Terms = rounds.terms g.D.Digests.functions self.epochs in
    let hand : Hand = c.try_take.new.hand in
    let got = tries_phase t self.one (rounds.table self.epochs) c.args.hand.now c.args.place (taking.Taken c.in-Taken.content) hand c.requires.free c.in-Taken.ensures.tries in
    let same : clock_at p c.at-before.result ≡ c.args.clock.now = clock_told p c.args.clock.now c.at-before.result c.requires.clock c.at-before.ensures.value in
    let noted = noted_service t self.one (rounds.table self.epochs) hand c.args.place (clock_at p c.at-before.result) c.args.request.now c.plan.new.content c.give.new.hand c.give.ensures.gives in
    let service : Service = noted.0 in
    let is = noted.1 in
    let planned = service_plan p self.absent (g.D.Digests.functions c.args.d.now).digest c.worker.result (shown_content c.in-Taken.content) c.args.request.now c.args.clock.now c.in-Ok.plan
    (shown_content c.plan.new.content) c.plan.new.clock service self.told c.requires.digests (ap (λ (x : code.Content). shown_content x) (is.before_is ∙ got.2)) is.request_is (is.clock_is ∙ same)
    is.served.plan c.in-Ok.ensures.planned in
    record {
      service = service;
      after = subst (IsAfter c.args.hand.now c.give.new.hand (service ∷ []) []) got.0.stop
          (after_then c.args.hand.now hand c.give.new.hand [] (service ∷ []) [] [] (stop c.args.hand.now) (stop hand) got.0 noted.2);
      place_is = is.place_is;
      worker_is = is.worker_is ∙ got.0.worker;
      clock_is = is.clock_is ∙ same;
      request_is = is.request_is;
      plan_is = planned.0;
      later_is = planned.1;
      served = is.served;
    }

pub returns-in-Ok-clause-chained : goal.returns-in-Ok-clause-chained
returns-in-Ok-clause-chained g c =
    let self = c.args.self.now in
    let p : Terms = terms g.D.Digests.functions self in
    let t : epochs.Terms = rounds.terms g.D.Digests.functions self.epochs in
    let hand : Hand = c.try_take.new.hand in
    let got = tries_phase t self.one (rounds.table self.epochs) c.args.hand.now c.args.place (taking.Taken c.in-Taken.content) hand c.requires.free c.in-Taken.ensures.tries in
    let same : clock_at p c.at-before.result ≡ c.args.clock.now = clock_told p c.args.clock.now c.at-before.result c.requires.clock c.at-before.ensures.value in
    let noted = noted_service t self.one (rounds.table self.epochs) hand c.args.place (clock_at p c.at-before.result) c.args.request.now c.plan.new.content c.give.new.hand c.give.ensures.gives in
    let service : Service = noted.0 in
    let is = noted.1 in
    let planned = service_plan p self.absent (g.D.Digests.functions c.args.d.now).digest c.worker.result (shown_content c.in-Taken.content) c.args.request.now c.args.clock.now c.in-Ok.plan
    (shown_content c.plan.new.content) c.plan.new.clock service self.told c.requires.digests (ap (λ (x : code.Content). shown_content x) (is.before_is ∙ got.2)) is.request_is (is.clock_is ∙ same)
    is.served.plan c.in-Ok.ensures.planned in
    let after : IsAfter c.args.hand.now c.give.new.hand (service ∷ []) [] (stop hand) =
    after_then c.args.hand.now hand c.give.new.hand [] (service ∷ []) [] [] (stop c.args.hand.now) (stop hand) got.0 noted.2 in
    subst (λ (a : List Service × Reading). TakesUp a.0 a.1) (λ i. (sym after.services i, planned.1 i))
    (takes_more (services c.args.hand.now) service (subst (TakesUp (services c.args.hand.now)) (sym (is.clock_is ∙ same)) c.requires.chained))

pub returns-in-Err-ClockEnd-clause-attempts : goal.returns-in-Err-ClockEnd-clause-attempts
returns-in-Err-ClockEnd-clause-attempts g c =
    let self = c.args.self.now in
    let p : Terms = terms g.D.Digests.functions self in
    let t : epochs.Terms = rounds.terms g.D.Digests.functions self.epochs in
    let hand : Hand = c.try_take.new.hand in
    let found = c.in-Taken.ensures.tries in
    let got = tries_phase t self.one (rounds.table self.epochs) c.args.hand.now c.args.place (taking.Taken c.in-Taken.content) hand c.requires.free found in
    let same : clock_at p c.at-before.result ≡ c.args.clock.now = clock_told p c.args.clock.now c.at-before.result c.requires.clock c.at-before.ensures.value in
    let past_end : IsPastEnd (shown_content c.in-Taken.content) c.args.clock.now = search rules in
    let there : hands.place hand ≡ c.args.place = place_held (rounds.table self.epochs) hand c.args.place found.holds in
    let ended : Stop = record { place = hands.place hand; clock = clock_at p c.at-before.result; content = content hand; request = c.args.request.now } in
    let stopped : IsAfter hand c.stop_at.new.hand [] [] (Some ended) = stopped_phase hand c.stop_at.new.hand (calls.stop_by t hand c.at-before.result true (Some c.args.request.now)) c.stop_at.ensures.after in
    let given : IsAfter c.stop_at.new.hand c.give-in-Err-ClockEnd.new.hand [] [] (stop c.stop_at.new.hand) =
    after_phase c.stop_at.new.hand c.give-in-Err-ClockEnd.new.hand [] _ [] c.give-in-Err-ClockEnd.ensures.gives in
    let after : IsAfter c.args.hand.now c.give-in-Err-ClockEnd.new.hand [] [] (stop c.stop_at.new.hand) =
    after_then c.args.hand.now c.stop_at.new.hand c.give-in-Err-ClockEnd.new.hand [] [] [] [] (Some ended) (stop c.stop_at.new.hand)
    (after_then c.args.hand.now hand c.stop_at.new.hand [] [] [] [] (stop c.args.hand.now) (Some ended) got.0 stopped) given in (
      record {
        ended = ended;
        after = subst (IsAfter c.args.hand.now c.give-in-Err-ClockEnd.new.hand [] []) stopped.stop after;
        place_is = there;
        clock_is = same;
        request_is = refl;
        past = history hand;
        is = record {
          at = subst (λ (n : ℕ). IsPlaceOf p n c.args.request.now.key) (sym there) c.requires.place;
          value = c.a_blob_has_at_most_255_bytes.ensures.fits;
          clock = subst (IsClockOf p) (sym same) c.requires.clock;
          behind = subst (TakesUp (services c.args.hand.now)) (sym same) c.requires.chained;
          had = subst (λ (a : ℕ × code.Content). IsHad (first_at p a.0) (history hand) a.1) (λ i. (sym there i, sym got.2 i))
              (had_phase (first_at p c.args.place) (hands.history hand) c.in-Taken.content (leads_to_had t c.args.place (first_at p c.args.place) (hands.history hand) c.in-Taken.content found.leads));
          ends = subst (λ (a : Content × Reading). IsPastEnd a.0 a.1) (λ i. (ap (λ (x : code.Content). shown_content x) (sym got.2) i, sym same i)) past_end;
        };
      },
      search rules,
    )

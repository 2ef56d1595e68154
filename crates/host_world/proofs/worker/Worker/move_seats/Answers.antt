use Rattle.std.proofs.Common.{◌≡◌, List, ◌∷◌, ◌++◌, map, false, Some, Err, is_ok, is_some, ap, sym, subst, ◌∙◌, refl, arith}
use Rattle.std.proofs.lemmas.Bool.{false≢true}
use Rattle.std.proofs.lemmas.List.{length-map}
use Rattle.record_text.specs.Longest.{longest_blob}
use Rattle.host_core.specs.Host.{Done}
use Rattle.host_shard.specs.Content.{Content}
use Rattle.host_shard.specs.Shown.{shown_content}
use Rattle.host_shard.specs.declared.content.Content as place
use Rattle.protection_moves.specs.Shown.{shown_stage}
use Rattle.protection_moves.specs.Stage.{Stage}
use Rattle.protection_moves.specs.Move.{IsPastEnd}
use Rattle.host_world.specs.Workers.{shown_worker}
use Rattle.shipped_host.specs.Moving.{stage_of, seats_of, move_seats}
use Rattle.host_world.proofs.LoggedLemmas.{just_logged}
use Rattle.host_world.proofs.TakenLemmas.{taken_in}
use Rattle.shipped_host.proofs.DescentLaws.{move_past, move_is_done}
use Rattle.host_world.proofs.worker.Worker.move_seats.Goals as goal

pub migrate-requires-clause-places : goal.migrate-requires-clause-places
migrate-requires-clause-places g c =
    let digest = (g.D.Digests.functions c.args.d.now).digest in
    let can = c.requires.seats in
    omega (arith, length-map c.args.hot.now shown_content, (taken_in digest c.args.self.now.clock c.args.first.now c.in-Cold.shard c.args.hot.now c.in-Cold.is can).four)

pub migrate-requires-clause-hot_open : goal.migrate-requires-clause-hot_open
migrate-requires-clause-hot_open g c =
    let digest = (g.D.Digests.functions c.args.d.now).digest in
    let can = c.requires.seats in
    (taken_in digest c.args.self.now.clock c.args.first.now c.in-Cold.shard c.args.hot.now c.in-Cold.is can).hot_open

pub migrate-requires-clause-hot_own : goal.migrate-requires-clause-hot_own
migrate-requires-clause-hot_own g c =
    let digest = (g.D.Digests.functions c.args.d.now).digest in
    let can = c.requires.seats in
    (taken_in digest c.args.self.now.clock c.args.first.now c.in-Cold.shard c.args.hot.now c.in-Cold.is can).hot_own

pub returns-in-Ok-clause-moved : goal.returns-in-Ok-clause-moved
returns-in-Ok-clause-moved g c is =
    let digest = (g.D.Digests.functions c.args.d.now).digest in
    let can = c.requires.seats in
    let mirrors = (taken_in digest c.args.self.now.clock c.args.first.now c.in-Cold.shard c.args.hot.now c.in-Cold.is can).mirrors in
    let stage : Stage = shown_stage c.in-Cold.shard c.args.hot.now c.args.self.now.clock in
    let new : Stage = shown_stage c.migrate.new.shard c.migrate.new.hot c.migrate.new.clock in
    let done : Done (List Content) = record { commands = c.in-Ok.commands; after = seats_of new; clock = new.clock } in
    let within = λ (past : IsPastEnd c.args.threshold stage). false≢true (ap is_ok (sym (c.migrate.ensures.clock_end.1 past) ∙ c.in-Ok.is)) in
    record {
      done = done;
      is = subst (λ (content : place.Content). move_seats digest c.args.number c.args.threshold (stage_of c.args.self.now.clock (shown_content content ∷ map shown_content c.args.hot.now)) ≡ Some done)
          (sym c.in-Cold.is)
          (move_is_done longest_blob digest c.args.number c.args.threshold stage (λ text. (g.met.D.Digests.text_digest_shape c.args.d.now text).size) c.requires.threshold mirrors
          new c.in-Ok.commands within c.in-Ok.ensures.moved);
      after_it = refl;
      logged = just_logged (shown_worker c.args.self.now) c.push.new.self.commands c.in-Ok.commands c.migrate.new.clock
          (c.push.ensures.commands ∙ ap (λ log. log ++ c.in-Ok.commands) c.settle.ensures.commands);
    }

pub returns-in-Ok-clause-within : goal.returns-in-Ok-clause-within
returns-in-Ok-clause-within g c = sym (ap is_some (returns-in-Ok-clause-moved g c refl).is)

pub returns-in-Err-ClockEnd-clause-within : goal.returns-in-Err-ClockEnd-clause-within
returns-in-Err-ClockEnd-clause-within g c =
    let digest = (g.D.Digests.functions c.args.d.now).digest in
    let can = c.requires.seats in
    let mirrors = (taken_in digest c.args.self.now.clock c.args.first.now c.in-Cold.shard c.args.hot.now c.in-Cold.is can).mirrors in
    let stage : Stage = shown_stage c.in-Cold.shard c.args.hot.now c.args.self.now.clock in
    subst (λ (content : place.Content). false ≡ is_some (move_seats digest c.args.number c.args.threshold (stage_of c.args.self.now.clock (shown_content content ∷ map shown_content c.args.hot.now))))
    (sym c.in-Cold.is)
    (sym (ap is_some (move_past longest_blob digest c.args.number c.args.threshold stage (λ text. (g.met.D.Digests.text_digest_shape c.args.d.now text).size) c.requires.threshold mirrors
    (c.migrate.ensures.clock_end.0 (c.in-Err-ClockEnd.is ∙ ap Err c.in-Err-ClockEnd.field-0-is)))))

use Rattle.std.proofs.Common.{◌++◌, is_ok, ap, sym, ◌∙◌, refl, rules}
use Rattle.std.proofs.lemmas.Bool.{false≢true}
use Rattle.record_text.specs.Longest.{longest_blob}
use Rattle.host_shard.specs.Shown.{shown_content}
use Rattle.host_world.specs.Places.{place_of}
use Rattle.host_world.specs.Workers.{shown_worker}
use Rattle.shipped_host.proofs.ServeLaws.{plan_is_served}
use Rattle.host_world.proofs.LoggedLemmas.{having_logged}
use Rattle.host_world.proofs.worker.Worker.serve.Goals as goal

pub returns-in-Ok-clause-served : goal.returns-in-Ok-clause-served
returns-in-Ok-clause-served g c is = record {
  done = record { commands = c.in-Ok.plan.commands; after = shown_content c.plan.new.content; clock = c.plan.new.clock };
  is = plan_is_served c.args.absent longest_blob (g.D.Digests.functions c.args.d.now).digest c.args.number c.args.self.now.clock (shown_content c.args.content.now) c.args.request.now
      c.in-Ok.plan (shown_content c.plan.new.content) c.plan.new.clock c.requires.own (λ past. false≢true (ap is_ok (sym (c.plan.ensures.clock_end.1 past) ∙ c.in-Ok.is))) c.in-Ok.ensures.planned;
  after_it = refl;
  logged = having_logged (shown_worker c.args.self.now) c.push.new.self.commands c.in-Ok.plan.commands c.plan.new.clock c.in-Some.served (place_of c.args.place)
      (c.push.ensures.commands ∙ ap (λ log. log ++ c.in-Ok.plan.commands) c.settle.ensures.commands) (search rules);
}

use Rattle.std.proofs.Common.{◌≡◌, ℕ, length, sym, ◌∙◌, ap}
use Rattle.slot_rewriting.specs.Writing.{written_logs}
use Rattle.host_world.specs.Shown.{shown_world, digests_of, requests_of}
use Rattle.verifier_threads.specs.declared.ending.RunEnd.TheVariants as ends
use Rattle.verifier_threads.specs.Serving.{end_by}
use Rattle.verifier_threads.proofs.EndingLemmas.{done-same, ended-due}
use Rattle.verifier_threads.proofs.world_run.WorldRun.conclude.Goals as goal

pub end-requires : goal.end-requires
end-requires g c = record { runs = (_, _, _, c.requires.runs.2.runs.running.keeps.runs) }

pub unreachable-requires : goal.unreachable-requires
unreachable-requires g c =
    let old = c.args.self.now in
    let f = g.D.Digests.functions (digests_of old.world) in
    let whole = c.requires.runs.2 in
    let running = whole.runs.running in
    let texts = written_logs old.world.settings.header running.logs in
    let is = c.end.ensures.end f old.world.settings.header texts running.keeps.runs whole.all in
    c.in_default.not-Done (length (requests_of old.world))
    (is
    ∙ ended-due c.requires.runs.0 f old.world.settings (requests_of old.world) (shown_world old.world) old.rounds old.end whole.past c.requires.runs.1 running c.requires.ended
    c.a_check_of_the_logs_ends_as_the_host_promises.ensures.whole (λ text. (g.met.D.Digests.text_digest_shape old.world.d.now text).size) c.in-None.is)

pub returns-in-Done-clause-end : goal.returns-in-Done-clause-end
returns-in-Done-clause-end g c =
    let old = c.args.self.now in
    let f = g.D.Digests.functions (digests_of old.world) in
    let script = requests_of old.world in
    let whole = c.requires.runs.2 in
    let running = whole.runs.running in
    let due = c.end.ensures.end f old.world.settings.header (written_logs old.world.settings.header running.logs) running.keeps.runs whole.all
    ∙ ended-due c.requires.runs.0 f old.world.settings script (shown_world old.world) old.rounds old.end whole.past c.requires.runs.1 running c.requires.ended
    c.a_check_of_the_logs_ends_as_the_host_promises.ensures.whole (λ text. (g.met.D.Digests.text_digest_shape old.world.d.now text).size) c.in-None.is in
    let count : c.in-Done.epochs ≡ length script = done-same c.in-Done.epochs (length script) (sym c.in-Done.is ∙ due) in
    ap (λ (n : ℕ). ends.Done n) count ∙ ap (end_by (length script)) (sym c.in-None.is)

pub returns-in-Some-clause-end : goal.returns-in-Some-clause-end
returns-in-Some-clause-end g c = ap (end_by (length (requests_of c.args.self.now.world))) (sym c.in-Some.is)

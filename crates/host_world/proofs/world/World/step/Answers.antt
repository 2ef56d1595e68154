use Rattle.std.proofs.Common.{subst}
use Rattle.host_core.specs.WorldEvent.{takes, serves, gives, advances, moves, opens, raises, enters, scans, finishes, stops, IsEnabled}
use Rattle.host_world.specs.declared.event.Event.{Event}
use Rattle.host_world.specs.Places.{place_of}
use Rattle.host_world.specs.Behind.{host_of}
use Rattle.host_world.specs.Shown.{shown_world, shown_event, digests_of}
use Rattle.host_world.proofs.StandingLemmas.{stands_stepped, stands_answered}
use Rattle.host_world.proofs.world.World.step.Goals as goal

pub returns-in-Take-clause-goes_on : goal.returns-in-Take-clause-goes_on
returns-in-Take-clause-goes_on g c = stands_stepped g.D.Digests.functions c.args.self.now c.take.new.self c.take.ensures.host (takes c.in-Take.worker (place_of c.in-Take.place)) (subst (λ (e : Event). IsEnabled (host_of (g.D.Digests.functions (digests_of c.args.self.now)) c.args.self.now) (shown_world c.args.self.now) (shown_event e)) c.in-Take.is c.requires.enabled) c.take.ensures.stepped

pub returns-in-Serve-clause-goes_on : goal.returns-in-Serve-clause-goes_on
returns-in-Serve-clause-goes_on g c =
    stands_answered g.D.Digests.functions c.args.self.now c.serve.new.self c.serve.ensures.host (serves c.in-Serve.worker (place_of c.in-Serve.place) c.in-Serve.request) (subst (λ (e : Event). IsEnabled (host_of (g.D.Digests.functions (digests_of c.args.self.now)) c.args.self.now) (shown_world c.args.self.now) (shown_event e)) c.in-Serve.is c.requires.enabled) c.serve.result c.serve.ensures.stepped c.serve.ensures.as_before

pub returns-in-Give-clause-goes_on : goal.returns-in-Give-clause-goes_on
returns-in-Give-clause-goes_on g c = stands_stepped g.D.Digests.functions c.args.self.now c.give.new.self c.give.ensures.host (gives c.in-Give.worker (place_of c.in-Give.place)) (subst (λ (e : Event). IsEnabled (host_of (g.D.Digests.functions (digests_of c.args.self.now)) c.args.self.now) (shown_world c.args.self.now) (shown_event e)) c.in-Give.is c.requires.enabled) c.give.ensures.stepped

pub returns-in-Next-clause-goes_on : goal.returns-in-Next-clause-goes_on
returns-in-Next-clause-goes_on g c =
    stands_answered g.D.Digests.functions c.args.self.now c.advance.new.self c.advance.ensures.host (advances c.in-Next.worker) (subst (λ (e : Event). IsEnabled (host_of (g.D.Digests.functions (digests_of c.args.self.now)) c.args.self.now) (shown_world c.args.self.now) (shown_event e)) c.in-Next.is c.requires.enabled) c.advance.result c.advance.ensures.stepped c.advance.ensures.as_before

pub returns-in-Move-clause-goes_on : goal.returns-in-Move-clause-goes_on
returns-in-Move-clause-goes_on g c =
    stands_answered g.D.Digests.functions c.args.self.now c.move_shard.new.self c.move_shard.ensures.host (moves c.in-Move.worker c.in-Move.shard) (subst (λ (e : Event). IsEnabled (host_of (g.D.Digests.functions (digests_of c.args.self.now)) c.args.self.now) (shown_world c.args.self.now) (shown_event e)) c.in-Move.is c.requires.enabled) c.move_shard.result c.move_shard.ensures.stepped c.move_shard.ensures.as_before

pub returns-in-Open-clause-goes_on : goal.returns-in-Open-clause-goes_on
returns-in-Open-clause-goes_on g c = stands_stepped g.D.Digests.functions c.args.self.now c.open.new.self c.open.ensures.host opens (subst (λ (e : Event). IsEnabled (host_of (g.D.Digests.functions (digests_of c.args.self.now)) c.args.self.now) (shown_world c.args.self.now) (shown_event e)) c.in-Open.is c.requires.enabled) c.open.ensures.stepped

pub returns-in-Raise-clause-goes_on : goal.returns-in-Raise-clause-goes_on
returns-in-Raise-clause-goes_on g c = stands_stepped g.D.Digests.functions c.args.self.now c.raise.new.self c.raise.ensures.host (raises c.in-Raise.worker) (subst (λ (e : Event). IsEnabled (host_of (g.D.Digests.functions (digests_of c.args.self.now)) c.args.self.now) (shown_world c.args.self.now) (shown_event e)) c.in-Raise.is c.requires.enabled) c.raise.ensures.stepped

pub returns-in-Scan-clause-goes_on : goal.returns-in-Scan-clause-goes_on
returns-in-Scan-clause-goes_on g c =
    stands_answered g.D.Digests.functions c.args.self.now c.scan.new.self c.scan.ensures.host (scans c.in-Scan.worker (place_of c.in-Scan.place)) (subst (λ (e : Event). IsEnabled (host_of (g.D.Digests.functions (digests_of c.args.self.now)) c.args.self.now) (shown_world c.args.self.now) (shown_event e)) c.in-Scan.is c.requires.enabled) c.scan.result c.scan.ensures.stepped c.scan.ensures.as_before

pub returns-in-Finish-clause-goes_on : goal.returns-in-Finish-clause-goes_on
returns-in-Finish-clause-goes_on g c = stands_stepped g.D.Digests.functions c.args.self.now c.finish.new.self c.finish.ensures.host (finishes c.in-Finish.worker) (subst (λ (e : Event). IsEnabled (host_of (g.D.Digests.functions (digests_of c.args.self.now)) c.args.self.now) (shown_world c.args.self.now) (shown_event e)) c.in-Finish.is c.requires.enabled) c.finish.ensures.stepped

pub returns-in-Stop-clause-goes_on : goal.returns-in-Stop-clause-goes_on
returns-in-Stop-clause-goes_on g c = stands_stepped g.D.Digests.functions c.args.self.now c.stop.new.self c.stop.ensures.host (stops c.in-Stop.worker c.in-Stop.found) (subst (λ (e : Event). IsEnabled (host_of (g.D.Digests.functions (digests_of c.args.self.now)) c.args.self.now) (shown_world c.args.self.now) (shown_event e)) c.in-Stop.is c.requires.enabled) c.stop.ensures.stepped

pub returns-in_ok-enter-in-Enter-clause-goes_on : goal.returns-in_ok-enter-in-Enter-clause-goes_on
returns-in_ok-enter-in-Enter-clause-goes_on g c =
    stands_stepped g.D.Digests.functions c.args.self.now c.enter.new.self c.enter.ensures.host (enters c.in-Enter.worker) (subst (λ (e : Event). IsEnabled (host_of (g.D.Digests.functions (digests_of c.args.self.now)) c.args.self.now) (shown_world c.args.self.now) (shown_event e)) c.in-Enter.is c.requires.enabled) c.in_ok-enter-in-Enter.ensures.stepped

pub returns-in-Take-clause-behind : goal.returns-in-Take-clause-behind
returns-in-Take-clause-behind g c = (c.requires.behind.0, returns-in-Take-clause-goes_on g c c.requires.behind.0 c.requires.behind.1)

pub returns-in-Serve-clause-behind : goal.returns-in-Serve-clause-behind
returns-in-Serve-clause-behind g c = (c.requires.behind.0, returns-in-Serve-clause-goes_on g c c.requires.behind.0 c.requires.behind.1)

pub returns-in-Give-clause-behind : goal.returns-in-Give-clause-behind
returns-in-Give-clause-behind g c = (c.requires.behind.0, returns-in-Give-clause-goes_on g c c.requires.behind.0 c.requires.behind.1)

pub returns-in-Next-clause-behind : goal.returns-in-Next-clause-behind
returns-in-Next-clause-behind g c = (c.requires.behind.0, returns-in-Next-clause-goes_on g c c.requires.behind.0 c.requires.behind.1)

pub returns-in-Move-clause-behind : goal.returns-in-Move-clause-behind
returns-in-Move-clause-behind g c = (c.requires.behind.0, returns-in-Move-clause-goes_on g c c.requires.behind.0 c.requires.behind.1)

pub returns-in-Open-clause-behind : goal.returns-in-Open-clause-behind
returns-in-Open-clause-behind g c = (c.requires.behind.0, returns-in-Open-clause-goes_on g c c.requires.behind.0 c.requires.behind.1)

pub returns-in-Raise-clause-behind : goal.returns-in-Raise-clause-behind
returns-in-Raise-clause-behind g c = (c.requires.behind.0, returns-in-Raise-clause-goes_on g c c.requires.behind.0 c.requires.behind.1)

pub returns-in-Scan-clause-behind : goal.returns-in-Scan-clause-behind
returns-in-Scan-clause-behind g c = (c.requires.behind.0, returns-in-Scan-clause-goes_on g c c.requires.behind.0 c.requires.behind.1)

pub returns-in-Finish-clause-behind : goal.returns-in-Finish-clause-behind
returns-in-Finish-clause-behind g c = (c.requires.behind.0, returns-in-Finish-clause-goes_on g c c.requires.behind.0 c.requires.behind.1)

pub returns-in-Stop-clause-behind : goal.returns-in-Stop-clause-behind
returns-in-Stop-clause-behind g c = (c.requires.behind.0, returns-in-Stop-clause-goes_on g c c.requires.behind.0 c.requires.behind.1)

pub returns-in_ok-enter-in-Enter-clause-behind : goal.returns-in_ok-enter-in-Enter-clause-behind
returns-in_ok-enter-in-Enter-clause-behind g c = (c.requires.behind.0, returns-in_ok-enter-in-Enter-clause-goes_on g c c.requires.behind.0 c.requires.behind.1)

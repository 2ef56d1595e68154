use Rattle.merkle_records.specs.Scheme.{scheme_of}
use Rattle.verifier_commands.proofs.EitherLemmas.{follows_path}
use Rattle.verifier_commands.proofs.either_state.EitherState.apply.Goals as goal

pub returns-in-ByPath-clause-follows : goal.returns-in-ByPath-clause-follows
returns-in-ByPath-clause-follows g c = follows_path (g.D.Digests.functions c.args.d.now).lanes
    (record { scheme = scheme_of (g.D.Digests.functions c.args.d.now) c.args.header.now; number = c.args.number; verifiers = c.args.header.now.verifiers })
    c.args.command.now c.args.self.now c.in-ByPath.state c.apply.new.self c.apply.result c.in-ByPath.is c.apply.ensures.follows

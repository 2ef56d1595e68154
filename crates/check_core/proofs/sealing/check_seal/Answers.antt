use Rattle.std.proofs.Common.{ℕ, List, Option, inl, sym, subst}
use Rattle.fv_outside.specs.Written.{IsNamed}
use Rattle.bundle_report.specs.Headline.{IsSound}
use Rattle.bundle_report.proofs.HeadlineLaws.{headline, of_left}
use Rattle.check_core.proofs.NamedSealLemmas.{from_named}
use Rattle.check_core.proofs.sealing.check_seal.Goals as goal

pub returns-in-Ok-clause-seals : goal.returns-in-Ok-clause-seals
returns-in-Ok-clause-seals g c =
    let name = c.in-Ok.ensures in
    let into = c.check_and_seal.ensures in
    inl (
      subst (λ (n : Option (Option (List ℕ))). IsNamed (g.V.Sink.name c.args.vault.now) n c.args.path.now) (sym into.name) name.named,
      from_named (g.D.Digests.functions c.args.d.now) _ _ _ _ _ _ _ _ _ _ name.bytes name.counts.never_falls c.args.limit c.check_and_seal.result _ _ into.seals,
    )

pub returns-in-Ok-clause-headline : goal.returns-in-Ok-clause-headline
returns-in-Ok-clause-headline g c =
    of_left (IsSound (g.D.Digests.functions c.args.d.now)) (g.S.Source.left c.args.source.now)
    (λ bytes. headline (g.D.Digests.functions c.args.d.now) bytes (λ text. (c.digests_have_32_bytes.ensures.digests text).size))

pub returns-in-Err-clause-headline : goal.returns-in-Err-clause-headline
returns-in-Err-clause-headline g c =
    of_left (IsSound (g.D.Digests.functions c.args.d.now)) (g.S.Source.left c.args.source.now)
    (λ bytes. headline (g.D.Digests.functions c.args.d.now) bytes (λ text. (c.digests_have_32_bytes.ensures.digests text).size))

use Rattle.std.proofs.Common.{ℕ, List, Option, sym, subst}
use Rattle.fv_outside.proofs.WrittenLaws.{GrowsByFront-none}
use Rattle.shipped_host.specs.declared.settings.Settings.{Settings}
use Rattle.verifier_threads.specs.Serving.{IsCutOff, IsCutByVault}
use Rattle.fastver_top.specs.Running.{settings_for}
use Rattle.fastver_top.specs.Generating.{account_for}
use Rattle.fastver_top.proofs.generating.serve_named.Goals as goal

-- the vault has no name, and nothing is written
pub returns-in-Err-clause-serves : goal.returns-in-Err-clause-serves
returns-in-Err-clause-serves g c =
    let functions = g.D.Digests.functions c.args.d.now in
    let script = c.args.requests.now in
    let account = account_for c.args.words.now.load in
    let held = g.V.Sink.held c.args.vault.now in
    let out = g.O.Sink.held c.args.out.now in
    subst (λ (vault : Option (List ℕ)). IsCutOff account functions (settings_for c.args.words.now.numbers) script (record { vault = held; vault_after = vault; out = out; out_after = out })
    × IsCutByVault account functions (settings_for c.args.words.now.numbers) script (record { vault = held; vault_after = vault; out = out; out_after = out }))
    (sym c.name_vault.ensures.bytes)
    (subst (λ (settings : Settings). IsCutOff account functions settings script (record { vault = held; vault_after = held; out = out; out_after = out })
    × IsCutByVault account functions settings script (record { vault = held; vault_after = held; out = out; out_after = out }))
    c.settings_for-settings.ensures.value
    (c.a_header_begins_the_bundle.ensures.fault account functions script held held out (GrowsByFront-none held _)))

use Rattle.std.proofs.Common.{ℕ, List, Option, sym, subst}
use Rattle.fv_outside.proofs.WrittenLaws.{GrowsByFront-none}
use Rattle.shipped_host.specs.declared.settings.Settings.{Settings}
use Rattle.verifier_threads.specs.declared.accounts.Account.TheVariants as accounts
use Rattle.verifier_threads.specs.Serving.{IsCutOff, IsCutByVault}
use Rattle.fastver_top.specs.Running.{settings_for}
use Rattle.fastver_top.proofs.running.serve_named.Goals as goal

-- the vault has no name, and nothing is written
pub returns-in-Err-clause-serves : goal.returns-in-Err-clause-serves
returns-in-Err-clause-serves g c =
    let functions = g.D.Digests.functions c.args.d.now in
    let script = c.args.requests.now in
    let receipts = c.args.run.now.receipts in
    let held = g.V.Sink.held c.args.vault.now in
    let out = g.O.Sink.held c.args.out.now in
    subst (λ (vault : Option (List ℕ)). IsCutOff (accounts.Report receipts) functions (settings_for c.args.run.now.numbers) script (record { vault = held; vault_after = vault; out = out; out_after = out })
    × IsCutByVault (accounts.Report receipts) functions (settings_for c.args.run.now.numbers) script (record { vault = held; vault_after = vault; out = out; out_after = out }))
    (sym c.name_vault.ensures.bytes)
    (subst (λ (settings : Settings). IsCutOff (accounts.Report receipts) functions settings script (record { vault = held; vault_after = held; out = out; out_after = out })
    × IsCutByVault (accounts.Report receipts) functions settings script (record { vault = held; vault_after = held; out = out; out_after = out }))
    c.settings_for-settings.ensures.value
    (c.a_header_begins_the_bundle.ensures.fault (accounts.Report receipts) functions script held held out (GrowsByFront-none held _)))

use Rattle.std.proofs.Common.{◌≡◌, ℕ, suc, ◌+◌, max, sym, subst, arith}
use mathlib.Core.Option.{none}
use Rattle.atomic_table.specs.Table.{Allows, step}
use Rattle.host_shard.specs.declared.content.Content.{Content}
use Rattle.host_epochs.specs.declared.views.Desk.{Desk}
use Rattle.host_epochs.specs.declared.views.View.TheVariants.{Working}
use Rattle.host_epochs.specs.Hands.{desk_with}
use Rattle.host_epochs.specs.Made.{terms_of}
use Rattle.host_epochs.specs.Plays.{Sat, raised}
use Rattle.host_epochs.specs.Rule.{IsKept}
use Rattle.host_epochs.specs.Terms.{Terms}
use Rattle.host_epochs.specs.Words.{newest_at}
use Rattle.host_epochs.proofs.EpochLemmas.{allows_raise}
use Rattle.host_epochs.proofs.epochs.Epochs.raise.Goals as goal

pub fetch_max-requires : goal.fetch_max-requires
fetch_max-requires g c =
    let shared = c.args.self.now.board.shared in
    let terms : Terms = terms_of g.D.Digests.functions shared.key in
    let hand = c.args.hand.now in
    let seated = c.requires.seated in
    let may = c.requires.may in
    let desk : Desk = desk_with hand seated.has in
    let slots : ℕ = shared.table_id.slots in
    let me : Sat = (Working desk, seated.out) in
    let next : suc desk.row.entered ≡ hand.entered + 1 = omega (arith, seated.sits.counted) in
    let lemma : Allows (IsKept terms) slots hand.seat.id me (newest_at terms) (λ n. max n (suc desk.row.entered)) (raised (step {S = Content} slots (newest_at terms) (suc desk.row.entered) 0 none) me) =
    allows_raise terms hand.seat.id slots desk seated.out may.more may.room may.all in (
      seated.sits.at,
      omega (arith, c.args.self.now.words, c.args.self.now.counted),
      subst (λ (t : ℕ × ℕ × Sat). Allows (IsKept terms) slots hand.seat.id t.2 t.0 (λ n. max n t.1) (raised (step {S = Content} slots t.0 t.1 0 none) t.2))
          (λ j. (sym c.args.self.now.counted j, next j, sym seated.sits.me j)) lemma,
    )

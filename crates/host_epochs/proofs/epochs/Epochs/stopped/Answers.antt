use Rattle.std.proofs.Common.{◌≡◌, ℕ, suc, ◌+◌, sym, subst, arith}
use mathlib.Core.Option.{none}
use Rattle.atomic_table.specs.Table.{Allows, step}
use Rattle.host_shard.specs.declared.content.Content.{Content}
use Rattle.host_epochs.specs.declared.views.Desk.{Desk}
use Rattle.host_epochs.specs.declared.views.View.TheVariants.{Working}
use Rattle.host_epochs.specs.Hands.{desk_with}
use Rattle.host_epochs.specs.Made.{terms_of}
use Rattle.host_epochs.specs.Plays.{Sat, warned}
use Rattle.host_epochs.specs.Rule.{IsKept}
use Rattle.host_epochs.specs.Terms.{Terms}
use Rattle.host_epochs.specs.Words.{stop_at}
use Rattle.host_epochs.proofs.EpochLemmas.{allows_hear}
use Rattle.host_epochs.proofs.epochs.Epochs.stopped.Goals as goal

pub load-requires : goal.load-requires
load-requires g c =
    let shared = c.args.self.now.board.shared in
    let terms : Terms = terms_of g.D.Digests.functions shared.key in
    let hand = c.args.hand.now in
    let seated = c.requires.seated in
    let desk : Desk = desk_with hand seated.has in
    let slots : ℕ = shared.table_id.slots in
    let me : Sat = (Working desk, seated.out) in
    let is : stop_at terms ≡ c.args.self.now.places + 1 = omega (arith, c.args.self.now.counted) in
    let lemma : Allows (IsKept terms) slots hand.seat.id me (stop_at terms) (λ n. n) (warned (step {S = Content} slots (stop_at terms) 0 0 none) me) =
    allows_hear terms hand.seat.id slots desk seated.out in (
      seated.sits.at,
      omega (arith, c.args.self.now.words, c.args.self.now.counted),
      subst (λ (t : ℕ × Sat). Allows (IsKept terms) slots hand.seat.id t.1 t.0 (λ n. n) (warned (step {S = Content} slots t.0 0 0 none) t.1))
          (λ j. (is j, sym seated.sits.me j)) lemma,
    )

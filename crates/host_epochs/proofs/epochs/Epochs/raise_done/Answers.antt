use Rattle.std.proofs.Common.{◌≡◌, ℕ, suc, ◌+◌, sym, subst, arith, rules}
use mathlib.Core.Option.{none}
use Rattle.atomic_table.specs.Table.{Allows, step}
use Rattle.host_shard.specs.declared.content.Content.{Content}
use Rattle.host_epochs.specs.declared.views.Desk.{Desk}
use Rattle.host_epochs.specs.declared.views.View.TheVariants.{Working}
use Rattle.host_epochs.specs.Hands.{desk_with}
use Rattle.host_epochs.specs.Made.{terms_of}
use Rattle.host_epochs.specs.Plays.{Sat, finished}
use Rattle.host_epochs.specs.Rule.{IsKept}
use Rattle.host_epochs.specs.Terms.{Terms}
use Rattle.host_epochs.specs.Words.{done_at}
use Rattle.host_epochs.proofs.EpochLemmas.{allows_finish}
use Rattle.host_epochs.proofs.epochs.Epochs.raise_done.Goals as goal

pub store-requires : goal.store-requires
store-requires g c =
    let shared = c.args.self.now.board.shared in
    let terms : Terms = terms_of g.D.Digests.functions shared.key in
    let hand = c.args.hand.now in
    let seated = c.requires.seated in
    let desk : Desk = desk_with hand seated.has in
    let slots : ℕ = shared.table_id.slots in
    let me : Sat = (Working desk, seated.out) in
    let read : c.from.result ≡ hand.number = search rules in
    let word : ℕ = c.args.self.now.places + 2 + c.from.result in
    let is : done_at terms hand.number ≡ word = omega (arith, read, c.args.self.now.counted) in
    let lemma : Allows (IsKept terms) slots hand.seat.id me (done_at terms hand.number) (λ _. desk.row.entered) (λ _. finished (step {S = Content} slots (done_at terms hand.number) desk.row.entered 0 none) me desk.row.entered) =
    allows_finish terms hand.seat.id slots desk seated.out c.requires.through in (
      seated.sits.at,
      omega (arith, seated.sits.word, read, c.args.self.now.counted, c.args.self.now.slots),
      subst (λ (t : ℕ × ℕ × Sat). Allows (IsKept terms) slots hand.seat.id t.2 t.0 (λ _. t.1) (λ _. finished (step {S = Content} slots t.0 t.1 0 none) t.2 t.1))
          (λ j. (is j, sym seated.sits.counted j, sym seated.sits.me j)) lemma,
    )

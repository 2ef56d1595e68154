use Rattle.std.proofs.Common.{◌≡◌, ℕ, sym, subst}
use mathlib.Core.Option.{none}
use Rattle.atomic_table.specs.Table.{Allows, step}
use Rattle.host_shard.specs.declared.content.Content.{Content}
use Rattle.host_epochs.specs.declared.views.Desk.{Desk}
use Rattle.host_epochs.specs.declared.views.View.TheVariants.{Working}
use Rattle.host_epochs.specs.Hands.{desk_with}
use Rattle.host_epochs.specs.Made.{terms_of}
use Rattle.host_epochs.specs.Plays.{Sat, entered}
use Rattle.host_epochs.specs.Rule.{IsKept}
use Rattle.host_epochs.specs.Terms.{Terms}
use Rattle.host_epochs.specs.Words.{newest_at}
use Rattle.host_epochs.proofs.EpochLemmas.{allows_enter}
use Rattle.host_epochs.proofs.entering.enter.Goals as goal

pub load-found-requires : goal.load-found-requires
load-found-requires g c =
    let shared = c.args.board.now.shared in
    let terms : Terms = terms_of g.D.Digests.functions shared.key in
    let hand = c.args.hand.now in
    let seated = c.requires.seated in
    let desk : Desk = desk_with hand seated.has in
    let slots : ℕ = shared.table_id.slots in
    let me : Sat = (Working desk, seated.out) in
    let lemma : Allows (IsKept terms) slots hand.seat.id me (newest_at terms) (λ n. n) (entered terms (step {S = Content} slots (newest_at terms) 0 0 none) me) =
    allows_enter terms hand.seat.id slots desk seated.out c.requires.going in (
      seated.sits.at,
      c.requires.word,
      subst (λ (t : Terms × ℕ × Sat). Allows (IsKept terms) slots hand.seat.id t.2 t.1 (λ n. n) (entered t.0 (step {S = Content} slots t.1 0 0 none) t.2))
          (λ j. (sym c.requires.terms j, sym c.requires.places j, sym seated.sits.me j)) lemma,
    )

use Rattle.std.proofs.Common.{◌≡◌, ℕ, suc, ◌+◌, sym, subst, arith}
use mathlib.Core.Option.{none}
use Rattle.atomic_table.specs.Table.{Allows, step}
use Rattle.host_shard.specs.declared.content.Content.{Content}
use Rattle.host_epochs.specs.declared.views.Desk.{Desk}
use Rattle.host_epochs.specs.declared.views.View.TheVariants.{Working}
use Rattle.host_epochs.specs.Hands.{desk_with}
use Rattle.host_epochs.specs.Made.{terms_of}
use Rattle.host_epochs.specs.declared.told.Stop.{Stop}
use Rattle.host_epochs.specs.Calls.{asked, stop_by}
use Rattle.host_epochs.specs.Plays.{Sat, stopped}
use Rattle.host_epochs.specs.Rule.{IsKept}
use Rattle.host_epochs.specs.Terms.{Terms, clock_at}
use Rattle.host_epochs.specs.Words.{stop_at}
use Rattle.host_epochs.proofs.EpochLemmas.{allows_halt}
use Rattle.host_epochs.proofs.StopLemmas.{has_cause}
use Rattle.host_epochs.proofs.stopping.halt.Goals as goal

pub store-requires : goal.store-requires
store-requires g c =
    let shared = c.args.board.now.shared in
    let terms : Terms = terms_of g.D.Digests.functions shared.key in
    let hand = c.args.hand.now in
    let seated = c.requires.seated in
    let desk : Desk = desk_with hand seated.has in
    let slots : ℕ = shared.table_id.slots in
    let me : Sat = (Working desk, seated.out) in
    let stop : Stop = stop_by terms hand c.args.at c.args.held (asked c.args.request) in
    let is : stop_at terms ≡ c.args.places + 1 = omega (arith, c.requires.places) in
    let lemma : Allows (IsKept terms) slots hand.seat.id me (stop_at terms) (λ _. 1) (λ _. stopped stop (step {S = Content} slots (stop_at terms) 1 0 none) me 1) =
    allows_halt terms hand.seat.id slots desk seated.out stop c.requires.going.going c.requires.going.behind
    (has_cause terms shared.table_id hand seated.has seated.out (clock_at terms c.args.at) c.args.held (asked c.args.request) seated.sits.me c.requires.cause c.requires.request) in (
      seated.sits.at,
      c.requires.word,
      subst (λ (t : ℕ × Stop × Sat). Allows (IsKept terms) slots hand.seat.id t.2 t.0 (λ _. 1) (λ _. stopped t.1 (step {S = Content} slots t.0 1 0 none) t.2 1))
          (λ j. (is j, sym c.requires.stop j, sym seated.sits.me j)) lemma,
    )

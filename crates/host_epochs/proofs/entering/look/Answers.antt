use Rattle.std.proofs.Common.{◌≡◌, ℕ, suc, ◌+◌, sym, subst, arith, rules}
use mathlib.Core.Option.{none}
use Rattle.atomic_table.specs.Table.{Allows, step}
use Rattle.host_shard.specs.declared.content.Content.{Content}
use Rattle.host_epochs.specs.declared.views.Desk.{Desk}
use Rattle.host_epochs.specs.declared.views.View.TheVariants.{Working}
use Rattle.host_epochs.specs.Hands.{desk_with}
use Rattle.host_epochs.specs.Made.{terms_of}
use Rattle.host_epochs.specs.Plays.{Sat, looked}
use Rattle.host_epochs.specs.Rule.{IsKept}
use Rattle.host_epochs.specs.Terms.{Terms, place_count}
use Rattle.host_epochs.specs.Words.{done_at}
use Rattle.host_epochs.proofs.EpochLemmas.{allows_look}
use Rattle.host_epochs.proofs.entering.look.Goals as goal

pub load-requires : goal.load-requires
load-requires g c =
    let shared = c.args.board.now.shared in
    let terms : Terms = terms_of g.D.Digests.functions shared.key in
    let hand = c.args.hand.now in
    let seated = c.requires.seated in
    let desk : Desk = desk_with hand seated.has in
    let slots : ℕ = shared.table_id.slots in
    let me : Sat = (Working desk, seated.out) in
    let read : c.from.result ≡ c.args.worker = search rules in
    let word : ℕ = c.args.places + 2 + c.from.result in
    let is : done_at terms c.args.worker ≡ word = omega (arith, read, c.requires.places) in
    let lemma : Allows (IsKept terms) slots hand.seat.id me (done_at terms c.args.worker) (λ n. n) (looked terms (step {S = Content} slots (done_at terms c.args.worker) 0 0 none) me) =
    allows_look terms hand.seat.id slots desk seated.out c.args.worker c.requires.worker in (
      seated.sits.at,
      omega (arith, c.requires.word, read),
      subst (λ (t : Terms × ℕ × Sat). Allows (IsKept terms) slots hand.seat.id t.2 t.1 (λ n. n) (looked t.0 (step {S = Content} slots t.1 0 0 none) t.2))
          (λ j. (sym c.requires.terms j, is j, sym seated.sits.me j)) lemma,
    )

use Rattle.std.proofs.Common.{◌≡◌, ℕ, [], ◌∷◌, sym, subst, ◌∙◌}
use mathlib.Core.Option.{none}
use Rattle.atomic_table.specs.Table.{Allows, step, rest}
use Rattle.host_shard.specs.declared.content.Content.{Content}
use Rattle.host_epochs.specs.declared.views.Held.TheVariants.{Has}
use Rattle.host_epochs.specs.declared.views.View.TheVariants.{Working}
use Rattle.host_epochs.specs.Hands.{row_of, losses, left, seen, content, history, desk_with}
use Rattle.host_epochs.specs.Made.{terms_of}
use Rattle.host_epochs.specs.Plays.{Sat, freed}
use Rattle.host_epochs.specs.Rule.{IsKept}
use Rattle.host_epochs.proofs.PlaceLemmas.{frees}
use Rattle.host_epochs.proofs.taking.put_back.Goals as goal

pub store-requires : goal.store-requires
store-requires g c =
    let shared = c.args.board.now.shared in
    let terms = terms_of g.D.Digests.functions shared.key in
    let hand = c.args.hand.now in
    let p : ℕ = c.args.place in
    let slots : ℕ = shared.table_id.slots in
    let me : Sat = (Working (desk_with hand (Has p (content hand) (history hand))), (p, c.args.given) ∷ []) in
    let did = c.exchange.ensures in
    let holds = c.requires.holds.me in
    let sat : c.exchange.new.seat.me ≡ me = did.3 ∙ (λ j. ((holds j).0, (p, c.args.given) ∷ rest (holds j).1)) in
    let lemma : Allows (IsKept terms) slots hand.seat.id me p (λ _. 0) (λ _. freed (step {S = Content} slots p 0 0 none) me 0) =
    frees terms hand.seat.id hand.number p slots (row_of hand) (losses hand) (left hand) (seen hand) (content hand) (history hand) c.args.given c.requires.same in (
      did.0 ∙ c.requires.holds.at,
      c.requires.word,
      subst (λ (t : ℕ × Sat). Allows (IsKept terms) slots t.0 t.1 p (λ _. 0) (λ _. freed (step {S = Content} slots p 0 0 none) t.1 0))
          (λ j. (sym did.1 j, sym sat j)) lemma,
    )

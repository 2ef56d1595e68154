use Rattle.std.proofs.Common.{◌≡◌, ℕ, suc, ◌+◌, eqb, [], sym, subst, arith, rules}
use mathlib.Core.Option.{none}
use prog.Atomic.{either}
use Rattle.atomic_table.specs.Table.{Allows, step}
use Rattle.host_shard.specs.declared.content.Content.{Content}
use Rattle.host_epochs.specs.declared.views.Held.TheVariants.{Idle}
use Rattle.host_epochs.specs.declared.views.View.TheVariants.{Working}
use Rattle.host_epochs.specs.Hands.{row_of, losses, left, seen, desk_with}
use Rattle.host_epochs.specs.Made.{terms_of}
use Rattle.host_epochs.specs.Plays.{Sat, tried}
use Rattle.host_epochs.specs.Rule.{IsKept}
use Rattle.host_epochs.specs.Terms.{Terms}
use Rattle.host_epochs.proofs.PlaceLemmas.{tries}
use Rattle.host_epochs.proofs.taking.try_word.Goals as goal

pub compare_exchange-requires : goal.compare_exchange-requires
compare_exchange-requires g c =
    let shared = c.args.board.now.shared in
    let terms : Terms = terms_of g.D.Digests.functions shared.key in
    let hand = c.args.hand.now in
    let i : ℕ = hand.number in
    let p : ℕ = c.args.place in
    let slots : ℕ = shared.table_id.slots in
    let read : c.from-own.result ≡ i = search rules in
    let a : ℕ = c.from-own.result + 1 in
    let own : suc i ≡ a = omega (arith, read) in
    let me : Sat = (Working (desk_with hand Idle), []) in
    let lemma : Allows (IsKept terms) slots hand.seat.id me p (λ n. either (eqb n 0) a n) (tried terms (step {S = Content} slots p 0 a none) me) =
    subst (λ (b : ℕ). Allows (IsKept terms) slots hand.seat.id me p (λ n. either (eqb n 0) b n) (tried terms (step {S = Content} slots p 0 b none) me)) own
    (tries terms hand.seat.id i p slots (row_of hand) (losses hand) (left hand) (seen hand) c.requires.making c.requires.place) in (
      c.requires.free.at,
      c.requires.word,
      subst (λ (t : Terms × Sat). Allows (IsKept terms) slots hand.seat.id t.1 p (λ n. either (eqb n 0) a n) (tried t.0 (step {S = Content} slots p 0 a none) t.1))
          (λ j. (sym c.requires.terms j, sym c.requires.free.me j)) lemma,
    )

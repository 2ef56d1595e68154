use Rattle.std.proofs.Common.{ℕ, ◌≤◌, [], ◌∷◌, sym, subst}
use mathlib.Core.Option.{none}
use Rattle.atomic_table.specs.Table.{Allows, step}
use Rattle.lamport_clocks.specs.Reading.{Reading}
use Rattle.host_shard.specs.declared.content.Content.{Content}
use Rattle.host_shard.specs.declared.content.Content.TheVariants.{Vacant}
use Rattle.host_shard.specs.Shown.{shown_content}
use Rattle.host_epochs.specs.declared.views.Held.TheVariants.{Has}
use Rattle.host_epochs.specs.declared.views.View.TheVariants.{Working}
use Rattle.host_epochs.specs.Calls.{asked}
use Rattle.host_epochs.specs.Hands.{row_of, entries, entered, losses, left, seen, content, history, desk_with}
use Rattle.host_epochs.specs.Made.{terms_of}
use Rattle.host_epochs.specs.Plays.{Sat, Draft, noted}
use Rattle.host_epochs.specs.Rule.{IsKept}
use Rattle.host_epochs.specs.Terms.{Terms, Waits, clock_at}
use Rattle.host_epochs.specs.Told.{IsClockBehind}
use Rattle.host_epochs.proofs.PlaceLemmas.{notes}
use Rattle.host_epochs.proofs.taking.note.Goals as goal

pub load-requires : goal.load-requires
load-requires g c =
    let shared = c.args.board.now.shared in
    let terms : Terms = terms_of g.D.Digests.functions shared.key in
    let hand = c.args.hand.now in
    let i : ℕ = hand.number in
    let p : ℕ = c.args.place in
    let slots : ℕ = shared.table_id.slots in
    let draft : Draft = record { clock = clock_at terms c.args.clock; request = asked c.args.request; after = c.args.after.now } in
    let me : Sat = (Working (desk_with hand (Has p (content hand) (history hand))), (p, Vacant) ∷ []) in
    let may = c.requires.may in
    let is = may.is in
    let lemma : Allows (IsKept terms) slots hand.seat.id me p (λ n. n) (noted terms draft (step {S = Content} slots p 0 0 none) me) =
    notes terms hand.seat.id i p slots (row_of hand) (losses hand) (left hand) (seen hand) (content hand) (history hand) draft ((p, Vacant) ∷ []) may.entry
    may.going may.asked (subst (λ (clock : Reading). IsClockBehind terms (entries hand) (entered hand) clock) (sym is.clock_is) may.behind)
    (λ more. subst (λ (clock : Reading). Waits (λ epoch. epoch ≤ clock.at.epoch) (shown_content (content hand))) (sym is.clock_is) (may.reached more))
    is.place_is is.worker_is is.before_is is.clock_is is.request_is is.after_is in (
      c.requires.holds.at,
      c.requires.word,
      subst (λ (t : Terms × Draft × Sat). Allows (IsKept terms) slots hand.seat.id t.2 p (λ n. n) (noted t.0 t.1 (step {S = Content} slots p 0 0 none) t.2))
          (λ j. (sym c.requires.terms j, sym c.requires.draft j, sym c.requires.holds.me j)) lemma,
    )

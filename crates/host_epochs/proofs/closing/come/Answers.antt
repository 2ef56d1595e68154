use Rattle.std.proofs.Common.{[], sym, subst}
use mathlib.Core.Option.{none}
use Rattle.atomic_table.specs.Table.{Enters, step}
use Rattle.host_shard.specs.declared.content.Content.{Content}
use Rattle.host_epochs.specs.Made.{terms_of, first_rows}
use Rattle.host_epochs.specs.Plays.{Sat, rack, came}
use Rattle.host_epochs.specs.Rule.{IsKept}
use Rattle.host_epochs.specs.Terms.{Terms}
use Rattle.host_epochs.proofs.SeatLemmas.{comes}
use Rattle.host_epochs.proofs.closing.come.Goals as goal

pub load_new_seat-seat-requires : goal.load_new_seat-seat-requires
load_new_seat-seat-requires g c =
    let shared = c.args.board.now.shared in
    let terms = terms_of g.D.Digests.functions shared.key in
    let first : Sat = (rack 0 (first_rows shared.key.workers), []) in (
      c.requires.words,
      subst (λ (t : Terms). Enters (IsKept terms) shared.table_id.slots 0 (λ n w. came t (step {S = Content} shared.table_id.slots 0 0 0 none) first n (w, []))) (sym c.requires.terms)
          (comes terms 0 shared.table_id.slots first),
    )

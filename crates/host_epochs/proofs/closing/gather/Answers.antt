use Rattle.std.proofs.Common.{◌≡◌, List, [], ◌∷◌, ◌++◌, length, map, append_assoc, ap, sym, subst, ◌∙◌}
use Rattle.std.proofs.lemmas.List.{map-append}
use Rattle.host_epochs.specs.declared.hand.Hand.{Hand}
use Rattle.host_epochs.specs.declared.views.Row.{Row}
use Rattle.host_epochs.specs.Hands.{row_of, IsFree}
use Rattle.host_epochs.specs.Plays.{rack, rows_in}
use Rattle.host_epochs.proofs.HandLemmas.{AreNumbered, numbered_front, numbered_last, all_front}
use Rattle.host_epochs.proofs.closing.gather.Goals as goal

pub loop-hand-preserved : goal.loop-hand-preserved
loop-hand-preserved g c =
    let front : List Hand = c.pop.new.self.items in
    let hand : Hand = c.in-Some.hand in
    let items : c.loop-hand.hands.items ≡ front ++ hand ∷ [] = c.in-Some.ensures.items in
    let numbered = subst AreNumbered items c.loop-hand.invariant.numbered in
    let now = c.gather_one.ensures.seat.1 in
    let old_rows : List Row = rows_in c.loop-hand.seat.me.0 in
    let rows : rows_in c.gather_one.new.seat.me.0 ≡ row_of hand ∷ old_rows = ap (λ m. rows_in m.0) now in
    record {
      table = c.gather_one.ensures.seat.0;
      seat = now ∙ (λ i. (rack (numbered_last front hand numbered i) (sym rows i), []));
      rows = c.loop-hand.invariant.rows ∙ (ap (λ hs. map row_of hs ++ old_rows) items
          ∙ (ap (λ xs. xs ++ old_rows) (map-append row_of front (hand ∷ []))
          ∙ (append_assoc (map row_of front) (row_of hand ∷ []) old_rows ∙ ap (λ r. map row_of front ++ r) (sym rows))));
      numbered = numbered_front front hand numbered;
      free = all_front (IsFree c.args.board.now.shared.table_id) front hand
          (subst (Rattle.std.proofs.Common.All (IsFree c.args.board.now.shared.table_id)) items c.loop-hand.invariant.free);
    }

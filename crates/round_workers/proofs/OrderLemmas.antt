-- In what order a worker does its turns, with one turn more, and what it may scan next.
use Rattle.std.proofs.Common.{◌≡◌, ℕ, suc, ◌+◌, ◌<◌, ◌≤◌, List, [], ◌∷◌, ◌++◌, Option, Some, None, sym, ap, subst, inl, inr, arith}
use Rattle.std.proofs.lemmas.List.{map_push}
use Rattle.lamport_clocks.specs.Reading.{Reading}
use Rattle.record_text.specs.declared.request.Request.{Request}
use Rattle.host_shard.specs.Content.{Content}
use Rattle.round_order.specs.Turn.{Turn}
use Rattle.host_epochs.specs.declared.told.Entry.{Entry}
use Rattle.host_epochs.specs.declared.views.Row.{Row}
use Rattle.host_epochs.specs.Plays.{row_with_entry, row_with_epoch}
use Rattle.host_epochs.specs.Terms.{Terms, first_epoch}
use Rattle.host_epochs.specs.Told.{Continues, IsClockBehind}
use Rattle.host_epochs.proofs.ClockLaws.{goes_up}
use Rattle.table_order.specs.Rounds.{turn_of, turns_of}
use Rattle.round_workers.specs.Order.{called_epoch, epoch_behind, left_behind, served_in, AreCalledFor, AreFresh, AreInOrder, CallsFor, IsFresh, IsInOrder, MayFollow, MayScan, NoneMay}
use Rattle.round_workers.specs.Parts.{AreDone, IsNext}
use Rattle.round_workers.specs.Placed.{HasOpened, ScansAt, ScansFrom}

-- ---- the order

module _ {C R : Type 0} where
  -- the turn, of this request or of none, is in order behind the turns
  abbrev pub IsInOrderBehind : ℕ → (ℕ → Type 0) → List (Turn C R) → Turn C R → Option R → Type 0
  IsInOrderBehind from Follows [] turn request = IsInOrder from Follows turn request
  IsInOrderBehind from Follows (first ∷ turns) turn request =
      IsInOrderBehind first.done.clock.at.epoch (MayFollow from first first.request) turns turn request

  pub order-more : (from : ℕ) (Follows : ℕ → Type 0) (turns : List (Turn C R)) (turn : Turn C R) → IsInOrderBehind from Follows turns turn turn.request
      → AreInOrder from Follows turns → AreInOrder from Follows (turns ++ turn ∷ [])
  order-more from Follows [] turn is order = (is, tt)
  order-more from Follows (first ∷ turns) turn is order =
      (order.0, order-more first.done.clock.at.epoch (MayFollow from first first.request) turns turn is order.1)

  pub order-request : (from : ℕ) (Follows : ℕ → Type 0) (turns : List (Turn C R)) (turn : Turn C R) (request : R) → IsInOrderBehind from Follows turns turn (Some request)
  order-request from Follows [] turn request = tt
  order-request from Follows (first ∷ turns) turn request =
      order-request first.done.clock.at.epoch (MayFollow from first first.request) turns turn request

  pub order-scan : (from : ℕ) (Follows : ℕ → Type 0) (turns : List (Turn C R)) (turn : Turn C R) → turn.place.seat ≡ 0
      → MayScan turn.clock.at.epoch from Follows turns turn.place.shard → IsInOrderBehind from Follows turns turn None
  order-scan from Follows [] turn first may = (first, may)
  order-scan from Follows (other ∷ turns) turn first may =
      order-scan other.done.clock.at.epoch (MayFollow from other other.request) turns turn first may

  -- ---- what may be scanned next

  -- all, where the epoch was entered and nothing done in it
  pub scan-first : (now from : ℕ) (Follows : ℕ → Type 0) (turns : List (Turn C R)) (shard : ℕ) → epoch_behind from turns < now → MayScan now from Follows turns shard
  scan-first now from Follows [] shard opened = inl opened
  scan-first now from Follows (first ∷ turns) shard opened =
      scan-first now first.done.clock.at.epoch (MayFollow from first first.request) turns shard opened

  -- the later ones, behind a scan
  pub scan-next : (now from : ℕ) (Follows : ℕ → Type 0) (turns : List (Turn C R)) (turn : Turn C R) (shard : ℕ) → turn.request ≡ None → turn.place.shard < shard
      → MayScan now from Follows (turns ++ turn ∷ []) shard
  scan-next now from Follows [] turn shard none' less = inr (subst (λ (r : Option R). MayFollow from turn r shard) (sym none') less)
  scan-next now from Follows (first ∷ turns) turn shard none' less =
      scan-next now first.done.clock.at.epoch (MayFollow from first first.request) turns turn shard none' less

  -- all, behind a request with which the epoch began
  pub scan-opened : (now from : ℕ) (Follows : ℕ → Type 0) (turns : List (Turn C R)) (turn : Turn C R) (request : R) (shard : ℕ) → turn.request ≡ Some request
      → epoch_behind from turns < turn.clock.at.epoch → MayScan now from Follows (turns ++ turn ∷ []) shard
  scan-opened now from Follows [] turn request shard some opened = inr (subst (λ (r : Option R). MayFollow from turn r shard) (sym some) opened)
  scan-opened now from Follows (first ∷ turns) turn request shard some opened =
      scan-opened now first.done.clock.at.epoch (MayFollow from first first.request) turns turn request shard some opened

-- ---- the same of what a worker tells

turns-more : (row : Row) (entry : Entry) → turns_of (row_with_entry row entry).list ≡ turns_of row.list ++ turn_of entry ∷ []
turns-more row entry = map_push turn_of row.list entry

continues-behind : (clock last : Reading) (entries : List Entry) → Continues clock entries last → epoch_behind clock.at.epoch (turns_of entries) ≤ last.at.epoch
continues-behind clock last [] goes = goes_up clock last goes
continues-behind clock last (entry ∷ entries) goes = continues-behind entry.later last entries goes.1

module _ (terms : Terms) where
  -- an epoch that is entered has no turns yet
  pub opened-entered : (row : Row) (clock : Reading) → IsClockBehind terms row.list row.entered clock → HasOpened terms (row_with_epoch row)
  opened-entered row clock behind = go row.list behind.chained
    where
      here : clock.at.epoch ≡ first_epoch terms + row.entered
      here = behind.epoch

      go : (entries : List Entry) → Rattle.host_epochs.specs.Told.TakesUp terms entries clock
          → epoch_behind (first_epoch terms) (turns_of entries) < first_epoch terms + suc row.entered
      go [] chained = omega arith
      go (entry ∷ entries) chained = let to = continues-behind entry.later clock entries chained in omega (arith, to, here)

  pub scans-opened : (row : Row) (from : ℕ) → HasOpened terms row → ScansFrom terms row from
  scans-opened row from opened shard least = scan-first (first_epoch terms + row.entered) (first_epoch terms) NoneMay (turns_of row.list) shard opened

  pub scans-less : (row : Row) (from later : ℕ) → from ≤ later → ScansFrom terms row from → ScansFrom terms row later
  scans-less row from later up scans shard least = scans shard (omega (arith, up, least))

  -- behind a scan, and behind a request with which the epoch began
  pub scans-scanned : (row : Row) (entry : Entry) → entry.request ≡ None → ScansFrom terms (row_with_entry row entry) (suc (turn_of entry).place.shard)
  scans-scanned row entry none' shard least =
      subst (λ (turns : List (Turn Content Request)). MayScan (first_epoch terms + row.entered) (first_epoch terms) NoneMay turns shard) (sym (turns-more row entry))
      (scan-next (first_epoch terms + row.entered) (first_epoch terms) NoneMay (turns_of row.list) (turn_of entry) shard none' (omega (arith, least)))

  pub scans-served : (row : Row) (entry : Entry) (request : Request) → entry.request ≡ Some request → entry.clock.at.epoch ≡ first_epoch terms + row.entered
      → HasOpened terms row → ScansFrom terms (row_with_entry row entry) 0
  scans-served row entry request some here opened shard least =
      subst (λ (turns : List (Turn Content Request)). MayScan (first_epoch terms + row.entered) (first_epoch terms) NoneMay turns shard) (sym (turns-more row entry))
      (scan-opened (first_epoch terms + row.entered) (first_epoch terms) NoneMay (turns_of row.list) (turn_of entry) request shard some (omega (arith, here, opened)))

  -- a scan is in order
  pub scan_in_order : (row : Row) (entry : Entry) → entry.clock.at.epoch ≡ first_epoch terms + row.entered → ScansAt terms row entry.place
      → IsInOrderBehind (first_epoch terms) NoneMay (turns_of row.list) (turn_of entry) None
  scan_in_order row entry here scans =
      order-scan (first_epoch terms) NoneMay (turns_of row.list) (turn_of entry) scans.0
      (subst (λ (now : ℕ). MayScan now (first_epoch terms) NoneMay (turns_of row.list) (turn_of entry).place.shard) (sym here)
      (scans.1 (turn_of entry).place.shard (omega arith)))

-- ---- what is found

pub fresh-more : (workers : ℕ) (turns : List (Turn Content Request)) (turn : Turn Content Request) → IsFresh workers turn turn.request → AreFresh workers turns
    → AreFresh workers (turns ++ turn ∷ [])
fresh-more workers [] turn is fresh = (is, tt)
fresh-more workers (first ∷ turns) turn is fresh = (fresh.0, fresh-more workers turns turn is fresh.1)

-- ---- what is called for

module _ (first final : ℕ) where
  -- what is of the epoch of the last request served is called for, whatever is left
  called-here : {R : Type 0} (here : ℕ) (asked : List (ℕ × R)) → here ≤ final → here ≤ called_epoch first final here asked
  called-here here [] within = within
  called-here here (next ∷ asked) within = omega arith

  called-next : {R : Type 0} (served epochs : ℕ) (rest : List (ℕ × R)) → first + epochs ≤ final → CallsFor rest epochs → first + epochs ≤ called_epoch first final served rest
  called-next served epochs [] within calls = within
  called-next served epochs (next ∷ rest) within calls = omega (arith, calls)

  left-next : (asked rest : List (ℕ × Request)) (entry : Entry) (request : Option Request) → IsNext first asked entry request rest → left_behind request asked ≡ rest
  left-next asked rest entry None next = next
  left-next asked rest entry (Some request) next = ap (left_behind (Some request)) next.1

  -- one turn more, in the last epoch
  pub called-more : (served last : ℕ) (asked before : List (ℕ × Request)) (entries : List Entry) (entry : Entry) → AreDone first asked entries before
      → entry.clock.at.epoch ≡ last → last ≤ final → AreCalledFor first final served asked (turns_of entries) last
      → AreCalledFor first final served asked (turns_of (entries ++ entry ∷ [])) last
  called-more served last asked before [] entry done here within called = (
    (let low : last ≤ called_epoch first final served asked = called in omega (arith, here, low)),
    go entry.request,
  )
    where
      go : (request : Option Request) → last ≤ called_epoch first final (served_in served (turn_of entry) request) (left_behind request asked)
      go None = called
      go (Some request) =
          subst (λ (n : ℕ). last ≤ called_epoch first final n (left_behind (Some request) asked)) (sym here) (called-here last (left_behind (Some request) asked) within)
  called-more served last asked before (one ∷ entries) entry done here within called =
      let then : List (ℕ × Request) = done.0 in
      let behind : ℕ = served_in served (turn_of one) one.request in
      let same : left_behind one.request asked ≡ then = left-next asked then one one.request done.1 in (
        called.0,
        subst (λ (left : List (ℕ × Request)). AreCalledFor first final behind left (turns_of (entries ++ entry ∷ [])) last) (sym same)
            (called-more behind last then before entries entry done.2 here within
            (subst (λ (left : List (ℕ × Request)). AreCalledFor first final behind left (turns_of entries) last) same called.1)),
      )

  -- a later epoch, for which is called
  pub called-later : (served last epochs : ℕ) (asked rest : List (ℕ × Request)) (entries : List Entry) → AreDone first asked entries rest → first + epochs ≤ final
      → CallsFor rest epochs → AreCalledFor first final served asked (turns_of entries) last → AreCalledFor first final served asked (turns_of entries) (first + epochs)
  called-later served last epochs asked rest [] done within calls called =
      subst (λ (left : List (ℕ × Request)). first + epochs ≤ called_epoch first final served left) (sym done) (called-next served epochs rest within calls)
  called-later served last epochs asked rest (one ∷ entries) done within calls called =
      let then : List (ℕ × Request) = done.0 in
      let behind : ℕ = served_in served (turn_of one) one.request in
      let same : left_behind one.request asked ≡ then = left-next asked then one one.request done.1 in (
        called.0,
        subst (λ (left : List (ℕ × Request)). AreCalledFor first final behind left (turns_of entries) (first + epochs)) (sym same)
            (called-later behind last epochs then rest entries done.2 within calls
            (subst (λ (left : List (ℕ × Request)). AreCalledFor first final behind left (turns_of entries) last) same called.1)),
      )

  -- what calls for an epoch calls for those before it
  pub calls-less : {R : Type 0} (rest : List (ℕ × R)) (epochs less : ℕ) → less ≤ epochs → CallsFor rest epochs → CallsFor rest less
  calls-less [] epochs less below calls = tt
  calls-less (next ∷ rest) epochs less below calls = omega (arith, below, calls)

  -- before all nothing is entered
  pub called-nothing : (asked : List (ℕ × Request)) → first ≤ final → AreCalledFor {C = Content} {R = Request} first final first asked [] (first + 0)
  called-nothing [] within = omega (arith, within)
  called-nothing (next ∷ asked) within = omega arith

-- What a scan of the rolling shipped host does to its clock and its shard, where no key becomes hot and nothing waits at the shard's
-- other places.
use Rattle.std.proofs.Common.{◌≡◌, ℕ, zero, suc, ◌+◌, ◌<◌, Bool, true, false, List, [], ◌∷◌, ◌++◌, map, filter, take, length, get_or, nat_lt, not, Option, Some, None, if◌then◌else◌, refl, sym, ◌∙◌, ap, subst, take_all, arith}
use Rattle.std.specs.Prelude.{◌&&◌}
use Rattle.std.proofs.lemmas.Option.{none-some, same_Some}
use Rattle.lamport_clocks.specs.Reading.{Reading}
use Rattle.lamport_clocks.proofs.ClockLaws.{greater_than_other}
use Rattle.record_hash.specs.Functions.{DigestFunctions}
use Rattle.record_text.specs.declared.element.Element.{Element}
use Rattle.record_text.specs.declared.request.Request.{Request}
use Rattle.record_text.specs.Longest.{longest_of}
use Rattle.script_text.specs.declared.task.Task.{Task}
use Rattle.host_core.specs.Host.{Done, Host}
use Rattle.host_core.specs.Deeds.{pending_of}
use Rattle.host_shard.specs.declared.content.HotRecord.{HotRecord}
use Rattle.host_shard.specs.Shard.{Shard, pending_shard}
use Rattle.host_shard.specs.Content.{Content, cold, hot, vacant}
use Rattle.host_plan.specs.Moments.{taking, giving, renewing}
use Rattle.host_plan.specs.Visit.{between}
use Rattle.protection_moves.specs.Stage.{Stage, hot_records, is_touched, by_key, touched_in, untouched_in, vacancies}
use Rattle.protection_moves.specs.Renewing.{renewed_places, renewing_each, renewing_commands}
use Rattle.protection_moves.specs.Transfer.{Transfer, demotes, promotes, transfers_of, clock_by_each, clock_needed}
use Rattle.protection_moves.specs.Descent.{Descent, commands_by_each}
use Rattle.protection_moves.specs.Move.{begun, handed_out, moved, move_commands}
use Rattle.shipped_host.specs.declared.settings.Settings.{Settings}
use Rattle.shipped_host.specs.Moving.{descents_for, descents_of, done_with, seats_of}
use Rattle.shipped_host.specs.Promotable.{promotable_in}
use Rattle.shipped_host.specs.ShippedHost.{serves_key, is_blob, shipped_host}
use Rattle.host_order.specs.Steady as plain
use Rattle.round_order.specs.Steady.{HasOne, MovesOn, scanned_done, IsSteady}

-- what is done where there is room
pub some_of : {X : Type 0} (b : Bool) (x y : X) → ◌≡◌ {A = Option X} (if b then None else Some x) (Some y) → x ≡ y
some_of true x y is = absurd (none-some y is)
some_of false x y is = same_Some x y is

not_none : (x : Element) (xs : List Element) → ◌≡◌ {A = List Element} (x ∷ xs) [] → ⊥
not_none x xs is = absurd (cc)

one_same : (x y : Element) → ◌≡◌ {A = List Element} (x ∷ []) (y ∷ []) → x ≡ y
one_same x y is = cc

module _ (functions : DigestFunctions) (settings : Settings) (script : List (List Task)) (cold_only : settings.hot ≡ None) where
  abbrev host : Host Content Request
  host = shipped_host functions settings script

  -- where nothing waits there is no hot record
  no_hot : (others : List Content) → pending_of host others ≡ [] → hot_records others ≡ []
  no_hot [] is = refl
  no_hot (cold shard ∷ others) is = absurd (not_none _ (pending_of host others) is)
  no_hot (hot found ∷ others) is = absurd (not_none _ (pending_of host others) is)
  no_hot (vacant ∷ others) is = no_hot others is

  module _ (i : ℕ) (clock : Reading) (shard : Shard) (others : List Content) (alone : pending_of host others ≡ []) where
    abbrev stage : Stage
    stage = record { shard = shard; places = others; clock = clock }

    abbrev promotable : List ℕ
    promotable = promotable_in stage settings.hot

    none_touched : touched_in others ≡ []
    none_touched = ap (λ (found : List HotRecord). by_key (filter is_touched found)) (no_hot others alone)

    none_back : untouched_in others ≡ []
    none_back = ap (λ (found : List HotRecord). by_key (filter (λ one. not (is_touched one)) found)) (no_hot others alone)

    none_promotable : promotable ≡ []
    none_promotable = ap (promotable_in stage) cold_only

    no_transfers : transfers_of stage promotable ≡ []
    no_transfers =
        ap (λ (back : List HotRecord). map demotes back ++ map promotes (take (vacancies others + length back) promotable)) none_back
        ∙ ap (λ (keys : List ℕ). map promotes (take (vacancies others + 0) keys)) none_promotable
        ∙ ap (map promotes) (take_all (vacancies others + 0) [] (omega arith))

    no_descents : descents_of functions.digest i stage promotable ≡ []
    no_descents = ap (descents_for functions.digest i (begun i stage)) no_transfers

    -- the shard once it is handed out again
    abbrev scanned : Shard
    scanned = record shard { touches = λ k. 0; stamp = (renewing clock shard.stamp).at; evictor = i }

    begun_is : begun i stage ≡ record { shard = record shard { touches = λ k. 0 }; places = others; clock = taking clock shard.stamp }
    begun_is =
        ap (λ (touched : List HotRecord). record {
          shard = record shard { touches = λ k. 0 };
          places = renewed_places i clock others touched;
          clock = taking (renewing_each clock touched) shard.stamp;
        }) none_touched

    moved_is : moved functions.digest i stage (descents_of functions.digest i stage promotable) ≡ record { shard = scanned; places = others; clock = renewing clock shard.stamp }
    moved_is = ap (λ (descents : List Descent). moved functions.digest i stage descents) no_descents ∙ ap (handed_out i) begun_is

    needed_is : clock_needed stage promotable ≡ renewing clock shard.stamp
    needed_is =
        ap (λ (touched : List HotRecord). giving (clock_by_each (taking (renewing_each clock touched) shard.stamp) (transfers_of stage promotable))) none_touched
        ∙ ap (λ (transfers : List Transfer). giving (clock_by_each (taking clock shard.stamp) transfers)) no_transfers

    commands_are : move_commands functions.digest i stage (descents_of functions.digest i stage promotable) ≡ between (pending_shard shard) (renewing clock shard.stamp).at []
    commands_are =
        ap (λ (touched : List HotRecord). renewing_commands clock touched
        ++ between (pending_shard shard) (moved functions.digest i stage (descents_of functions.digest i stage promotable)).clock.at
        (commands_by_each functions.digest i (begun i stage) (descents_of functions.digest i stage promotable))) none_touched
        ∙ (λ k. between (pending_shard shard) (moved_is k).clock.at (commands_by_each functions.digest i (begun i stage) (no_descents k)))

    -- The move takes the shard's element in and hands it out again, where the counters do not end.
    pub cold_move : (s : ℕ) → host.move i clock s (cold shard ∷ others)
        ≡ (if nat_lt clock.end (renewing clock shard.stamp).at.counter then None
        else Some (scanned_done others (record { commands = between (pending_shard shard) (renewing clock shard.stamp).at []; after = cold scanned; clock = renewing clock shard.stamp })))
    cold_move s = λ k. if nat_lt clock.end (needed_is k).at.counter then None else Some (record { commands = commands_are k; after = seats_of (moved_is k); clock = (moved_is k).clock })

    module _ (s : ℕ) (done : Done Content) (is : host.move i clock s (cold shard ∷ others) ≡ Some (scanned_done others done)) where
      done_is : done_with functions.digest i stage (descents_of functions.digest i stage promotable) ≡ scanned_done others done
      done_is = some_of (nat_lt clock.end (clock_needed stage promotable).at.counter) _ _ is

      clock_is : done.clock ≡ renewing clock shard.stamp
      clock_is = sym (ap (λ (d : Done (List Content)). d.clock) done_is) ∙ ap (λ (m : Stage). m.clock) moved_is

      after_is : done.after ≡ cold scanned
      after_is =
          sym (ap (λ (d : Done (List Content)). get_or d.after 0 vacant) done_is)
          ∙ ap (λ (m : Stage). get_or (seats_of m) 0 vacant) moved_is

      moves_on : MovesOn host clock (cold shard) done
      moves_on = record {
        epoch = ap (λ (r : Reading). r.at.epoch) clock_is;
        later = subst (λ (r : Reading). clock.at.counter < r.at.counter) (sym clock_is) (omega arith);
        above = λ all. (
          subst (λ (r : Reading). shard.stamp.counter < r.at.counter) (sym clock_is) (omega (arith, greater_than_other clock.at shard.stamp all.0)),
          tt,
        );
        new = (
          pending_shard scanned,
          ap host.pending after_is,
          ap (λ (r : Reading). r.at) (sym clock_is),
        );
      }

      -- of the other seats it counts only whether one has the key
      serves_same : (key : ℕ) (content : Content) → serves_key (cold scanned ∷ others) key content ≡ serves_key (cold shard ∷ others) key content
      serves_same key (cold other) = refl
      serves_same key (hot found) = refl
      serves_same key vacant = refl

      served_at : (key other : ℕ)
          → serves_key (cold scanned ∷ others) key (get_or (cold scanned ∷ others) other vacant) ≡ serves_key (cold shard ∷ others) key (get_or (cold shard ∷ others) other vacant)
      served_at key zero = refl
      served_at key (suc other) = serves_same key (get_or others other vacant)

      owners : (other : ℕ) (ask : Request) → host.owns s (done.after ∷ others) other ask ≡ host.owns s (cold shard ∷ others) other ask
      owners other ask =
          ap (λ (c : Content). host.owns s (c ∷ others) other ask) after_is
          ∙ ap (λ (b : Bool). b && is_blob (longest_of settings.header) ask.value) (served_at ask.key other)

  scans_on : (i s : ℕ) (clock : Reading) (before : Content) (others : List Content) (done : Done Content) → HasOne host before → pending_of host others ≡ []
      → host.move i clock s (before ∷ others) ≡ Some (scanned_done others done) → MovesOn host clock before done
  scans_on i s clock (cold shard) others done one alone is = moves_on i clock shard others alone s done is
  scans_on i s clock (hot found) others done one alone is = absurd (none-some (scanned_done others done) is)
  scans_on i s clock vacant others done one alone is = absurd (none-some (scanned_done others done) is)

  scan_owners : (i s : ℕ) (clock : Reading) (before : Content) (others : List Content) (done : Done Content) → HasOne host before → pending_of host others ≡ []
      → host.move i clock s (before ∷ others) ≡ Some (scanned_done others done)
      → (other : ℕ) (ask : Request) → host.owns s (done.after ∷ others) other ask ≡ host.owns s (before ∷ others) other ask
  scan_owners i s clock (cold shard) others done one alone is = owners i clock shard others alone s done is
  scan_owners i s clock (hot found) others done one alone is = absurd (none-some (scanned_done others done) is)
  scan_owners i s clock vacant others done one alone is = absurd (none-some (scanned_done others done) is)

  -- The rolling host is steady where the shipped one is.
  pub is_steady : plain.IsSteady (shipped_host functions settings script) → IsSteady host true
  is_steady steady = record {
    serves_on = λ i clock before request done one is. let moves = steady.moves_on i clock before request done one is in
        record { epoch = moves.epoch; later = moves.later; above = moves.above; new = moves.new };
    scans_on = λ scanned. scans_on;
    owners = steady.owners;
    scan_owners = λ scanned. scan_owners;
    waits = steady.waits;
  }

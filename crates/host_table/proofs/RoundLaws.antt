-- What a round with no further epoch tells, a phase tells.
use Rattle.std.proofs.Common.{◌≡◌, ℕ, zero, suc, List, [], ◌∷◌, ◌++◌, map, refl, sym, ap, ◌∙◌, subst, IsPermutation}
use Rattle.std.specs.List.{flat_map}
use Rattle.std.proofs.lemmas.List.{length-map, map-append}
use Rattle.std.proofs.lemmas.List.Sorted.{IsPermutation-map}
use Rattle.host_shard.specs.declared.content.Content.{Content}
use Rattle.host_epochs.specs.declared.hand.Hand.{Hand}
use Rattle.host_epochs.specs.declared.views.Row as round_rows
use Rattle.host_epochs.specs.Hands as hands
use Rattle.host_epochs.specs.Round as rounds
use Rattle.host_epochs.specs.Terms as epochs
use Rattle.host_epochs.specs.Told as told
use Rattle.host_table.specs.declared.told.Service.{Service}
use Rattle.host_table.specs.declared.views.Row.{Row}
use Rattle.host_table.specs.Calls.{told_by}
use Rattle.host_table.specs.Phase.{IsPhase, row_at}
use Rattle.host_table.specs.Services.{service_of, services_of, row_of}
use Rattle.host_table.specs.Terms.{phase_of}
use Rattle.host_table.specs.Told.{IsListOf, IsStop}
use Rattle.host_table.proofs.PhaseLaws.{joined_phase, leads_phase, list_phase, stop_phase}

pub told_rows : (hs : List Hand) → map row_of (map hands.row_of hs) ≡ map told_by hs
told_rows [] = refl
told_rows (hand ∷ hs) = ap (λ rows. told_by hand ∷ rows) (told_rows hs)

pub row_at_phase : (rows : List round_rows.Row) (worker : ℕ) → row_at (map row_of rows) worker ≡ row_of (rounds.row_at rows worker)
row_at_phase [] worker = refl
row_at_phase (row ∷ rows) zero = refl
row_at_phase (row ∷ rows) (suc worker) = row_at_phase rows worker

lists_phase : (rows : List round_rows.Row) → services_of (flat_map (λ row. row.list) rows) ≡ flat_map (λ row. row.list) (map row_of rows)
lists_phase [] = refl
lists_phase (row ∷ rows) = map-append service_of row.list (flat_map (λ r. r.list) rows) ∙ ap (λ es. services_of row.list ++ es) (lists_phase rows)

pub round_phase : (t : epochs.Terms) → t.more ≡ 0 → (after : List Content) (rows : List round_rows.Row) → rounds.IsRound t after rows → IsPhase (phase_of t) after (map row_of rows)
round_phase t one after rows round = record {
  past = λ place. services_of (round.past place);
  as_many = round.as_many;
  all = length-map rows row_of ∙ round.all;
  leads = λ place there. leads_phase t one place (epochs.first_at t place) (round.past place) _ (round.leads place there);
  own = λ worker known. subst (λ (row : Row). IsListOf (phase_of t) worker row.list) (sym (row_at_phase rows worker))
      (list_phase t one worker (rounds.row_at rows worker).list (rounds.row_at rows worker).entered (round.own worker known));
  ended = λ worker stop known is. subst (λ (row : Row). IsStop (phase_of t) (services_of (round.past stop.place)) row.list stop) (sym (row_at_phase rows worker))
      (stop_phase t one round.past (rounds.row_at rows worker).list (rounds.row_at rows worker).entered (rounds.row_at rows worker).stop stop (round.own worker known).done
      (λ ended from. round.stopped worker ended known from) (ap (λ (row : Row). row.stop) (sym (row_at_phase rows worker)) ∙ is));
  same = subst (λ (ends : List Service × List Service). IsPermutation ends.0 ends.1) (λ i. (lists_phase rows i, joined_phase 0 (epochs.place_count t) round.past i))
      (IsPermutation-map service_of (flat_map (λ row. row.list) rows) (told.joined_from 0 (epochs.place_count t) round.past) round.same);
}

-- its pasts are those of the round
pub round_past : (t : epochs.Terms) (one : t.more ≡ 0) (after : List Content) (rows : List round_rows.Row) (round : rounds.IsRound t after rows)
    → (round_phase t one after rows round).past ≡ (λ place. services_of (round.past place))
unfolding round_phase
round_past t one after rows round = refl

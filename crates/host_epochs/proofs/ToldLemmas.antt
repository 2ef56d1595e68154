-- Histories and lists, with one entry more.
use Rattle.std.proofs.Common.{◌≡◌, ◌≢◌, ℕ, suc, ◌+◌, ◌≤◌, ◌<◌, eqb, List, [], ◌∷◌, ◌++◌, refl, sym, ap, ◌∙◌, subst, inl, inr, ⊎_elim, cond, eq-eqb, ne_eqb, arith}
use Rattle.std.specs.List.{AllByRecursion}
use Rattle.lamport_clocks.specs.declared.stamp.Stamp.{Stamp}
use Rattle.lamport_clocks.specs.Reading.{Reading}
use Rattle.host_shard.specs.declared.content.Content.{Content}
use Rattle.host_shard.specs.Content.{vacant}
use Rattle.host_shard.specs.Shown.{shown_content}
use Rattle.host_epochs.specs.declared.told.Entry.{Entry}
use Rattle.host_epochs.specs.Terms.{Terms, first_epoch, final_epoch}
use Rattle.host_epochs.specs.Told.{IsSame, IsDone, Leads, TakesUp, IsBegun, IsClockBehind, IsListOf, IsHad}
use Rattle.host_epochs.proofs.ClockLaws.{behind_more, behind_entered}
use Rattle.host_epochs.proofs.WorkLaws.{work_some}

-- f, but x at i
pub put : {X : Type 0} → (ℕ → X) → ℕ → X → ℕ → X
put f i x j = cond (eqb j i) x (f j)

pub put_here : {X : Type 0} (f : ℕ → X) (i : ℕ) (x : X) → put f i x i ≡ x
unfolding put
put_here f i x = ap (λ b. cond b x (f i)) (eq-eqb i i refl)

pub put_else : {X : Type 0} (f : ℕ → X) (i : ℕ) (x : X) (j : ℕ) → j ≢ i → put f i x j ≡ f j
unfolding put
put_else f i x j other = ap (λ b. cond b x (f j)) (ne_eqb j i other)

pub all_more : {X : Type 0} (P : X → Type 0) (xs : List X) (x : X) → AllByRecursion P xs → P x → AllByRecursion P (xs ++ x ∷ [])
all_more P [] x all one = (one, tt)
all_more P (y ∷ xs) x all one = (all.0, all_more P xs x all.1 one)

pub all_map : {X : Type 0} (P Q : X → Type 0) (xs : List X) → ((x : X) → P x → Q x) → AllByRecursion P xs → AllByRecursion Q xs
all_map P Q [] f all = tt
all_map P Q (x ∷ xs) f all = (f x all.0, all_map P Q xs f all.1)

module _ (terms : Terms) where
  begun_more : (es : List Entry) (e : Entry) → IsBegun terms es → TakesUp terms es e.clock → IsBegun terms (es ++ e ∷ [])
  begun_more [] e begun goes = goes
  begun_more (d ∷ es) e begun goes = begun

  -- ---- histories

  pub leads_on : (place : ℕ) (x : Content) (entries : List Entry) (y z : Content) → IsSame y z → Leads terms place x entries y → Leads terms place x entries z
  leads_on place x [] y z same leads = same ∙ leads
  leads_on place x (entry ∷ entries) y z same leads = (leads.0, leads.1, leads.2, leads_on place entry.after entries y z same leads.3)

  pub leads_more : (place : ℕ) (x : Content) (entries : List Entry) (y : Content) (entry : Entry) → entry.place ≡ place → IsSame y entry.before → IsDone terms entry
      → Leads terms place x entries y → Leads terms place x (entries ++ entry ∷ []) entry.after
  leads_more place x [] y entry at same done leads = (at, same ∙ leads, done, refl)
  leads_more place x (first ∷ entries) y entry at same done leads = (leads.0, leads.1, leads.2, leads_more place first.after entries y entry at same done leads.3)

  -- where there was nothing at first there is nothing
  pub leads_none : (place : ℕ) (x : Content) (entries : List Entry) (y : Content) → shown_content x ≡ vacant → Leads terms place x entries y → shown_content y ≡ vacant
  leads_none place x [] y none leads = leads ∙ none
  leads_none place x (entry ∷ entries) y none leads = absurd (work_some terms entry entry.request leads.2.asked.work (leads.1 ∙ none))

  -- ---- lists

  pub list_more : (worker : ℕ) (entries : List Entry) (entered : ℕ) (entry : Entry) → IsListOf terms worker entries entered → entry.worker ≡ worker → IsDone terms entry
      → IsClockBehind terms entries entered entry.clock → IsListOf terms worker (entries ++ entry ∷ []) entered
  list_more worker entries entered entry list by done behind = record {
    own = all_more (λ e. e.worker ≡ worker) entries entry list.own by;
    done = all_more (IsDone terms) entries entry list.done done;
    begun = begun_more entries entry list.begun behind.chained;
    last = entry.later;
    behind = behind_more terms entries entered entry done.asked behind;
  }

  -- one epoch more
  pub list_entered : (worker : ℕ) (entries : List Entry) (entered : ℕ) → suc entered ≤ terms.more → IsListOf terms worker entries entered → IsListOf terms worker entries (suc entered)
  list_entered worker entries entered more list =
      let last : Reading = list.last in
      record {
        own = list.own;
        done = list.done;
        begun = list.begun;
        last = record { first = last.first; end = last.end; at = record { epoch = last.at.epoch + 1; counter = 0 } };
        behind = behind_entered terms entries entered last more list.behind;
      }

pub had_more : (x : Content) (entries : List Entry) (entry : Entry) (had : Content) → IsHad x entries had → IsHad x (entries ++ entry ∷ []) had
had_more x [] entry had is = inl is
had_more x (first ∷ entries) entry had is = ⊎_elim (λ h. inl h) (λ h. inr (had_more first.after entries entry had h)) is

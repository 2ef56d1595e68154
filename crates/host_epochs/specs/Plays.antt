-- What each kind of step does to the view of the seat that makes it.
use Rattle.std.specs.Prelude.{◌≡◌, ◌≢◌, ◌<◌, ◌≤◌, ◌+◌, ◌-◌, ℕ, suc, true, false, List, [], ◌∷◌, ◌++◌, Option, Some, None}
use Rattle.lamport_clocks.specs.Clock.{last_epoch}
use Rattle.lamport_clocks.specs.Header.{header_by_path}
use Rattle.lamport_clocks.specs.Reading.{Reading}
use Rattle.record_text.specs.declared.request.Request.{Request}
use Rattle.atomic_table.specs.Table.{Me, Step}
use Rattle.host_shard.specs.declared.content.Content.{Content}
use Rattle.host_shard.specs.declared.content.Content.TheVariants.{Vacant}
use Rattle.host_shard.specs.Shown.{shown_content}
use Rattle.host_epochs.specs.declared.told.Entry.{Entry}
use Rattle.host_epochs.specs.declared.told.Loss.{Loss}
use Rattle.host_epochs.specs.declared.told.Reached.{Reached}
use Rattle.host_epochs.specs.declared.told.Stop.{Stop}
use Rattle.host_epochs.specs.declared.views.Held.{Held}
use Rattle.host_epochs.specs.declared.views.Held.TheVariants.{Idle, Has}
use Rattle.host_epochs.specs.declared.views.Desk.{Desk}
use Rattle.host_epochs.specs.declared.views.Row.{Row}
use Rattle.host_epochs.specs.declared.views.View.{View}
use Rattle.host_epochs.specs.declared.views.View.TheVariants.{Spent, Working, Keeping}
use Rattle.host_epochs.specs.Terms.{Terms, Waits, IsNear, IsUpToDate, epoch_of, first_at, first_epoch}
use Rattle.host_epochs.specs.Told.{IsDone, Leads}
use Rattle.host_epochs.specs.Words.{done_at}

abbrev pub Sat : Type 0
Sat = Me Content View

-- what a step that is told of some work needs of it: the clock before, the request, if it serves one, and the content after
pub record Draft : Type 0 where
  pub clock : Reading
  pub request : Option Request
  pub after : Content

-- ---- what a view has

-- what a worker tells that did nothing yet
abbrev pub new_row : Row
new_row = record { list = []; stop = None; entered = 0; done = 0; warned = false }

abbrev pub number_in : View → ℕ
number_in (Working desk) = desk.number
number_in (Keeping rack) = rack.from
number_in Spent = 0

abbrev pub row_in : View → Row
row_in (Working desk) = desk.row
row_in (Keeping rack) = new_row
row_in Spent = new_row

abbrev pub place_of : Held → ℕ
place_of Idle = 0
place_of (Has place x past) = place

abbrev pub content_of : Held → Content
content_of Idle = Vacant
content_of (Has place x past) = x

abbrev pub past_of : Held → List Entry
past_of Idle = []
past_of (Has place x past) = past

abbrev pub held_in : View → Held
held_in (Working desk) = desk.held
held_in (Keeping rack) = Idle
held_in Spent = Idle

-- ---- what becomes of it

abbrev pub changed : (Desk → Desk) → View → View
changed f (Working desk) = Working (f desk)
changed f (Keeping rack) = Keeping rack
changed f Spent = Spent

abbrev pub with_held : Held → View → View
with_held held = changed (λ desk. record desk { held = held })

abbrev pub with_loss : ℕ → ℕ → View → View
with_loss place found = changed (λ desk. record desk { losses = desk.losses ++ record { place = place; found = found } ∷ [] })

abbrev pub row_with_entry : Row → Entry → Row
row_with_entry row entry = record row { list = row.list ++ entry ∷ [] }

abbrev pub with_entry : Entry → View → View
with_entry entry = changed (λ desk. record desk {
  held = Has (place_of desk.held) entry.after (past_of desk.held ++ entry ∷ []);
  row = row_with_entry desk.row entry;
})

-- with which epoch a place is given back
abbrev pub given_back : ℕ → Content → Reached
given_back place content = record { of = place; least = epoch_of (shown_content content) }

abbrev pub with_given : View → View
with_given = changed (λ desk. record desk { held = Idle; left = desk.left ++ given_back (place_of desk.held) (content_of desk.held) ∷ [] })

abbrev pub with_seen : ℕ → ℕ → View → View
with_seen worker found = changed (λ desk. record desk { seen = desk.seen ++ record { of = worker; least = found } ∷ [] })

abbrev pub with_row : (Row → Row) → View → View
with_row f = changed (λ desk. record desk { row = f desk.row })

abbrev pub row_with_stop : Stop → Row → Row
row_with_stop stop row = record row { stop = Some stop }

abbrev pub row_with_done : Row → Row
row_with_done row = record row { done = row.entered }

abbrev pub row_with_epoch : Row → Row
row_with_epoch row = record row { entered = suc row.entered }

abbrev pub row_with_warning : Row → Row
row_with_warning row = record row { warned = true }

-- ---- the kinds of step at a place

-- A try finds the place's word 0, and then the seat holds the place, with the content that was at home and its history, whose
-- element is near the worker's epochs and up to date; or it finds the word held by another worker, and notes that.
abbrev pub tried : Terms → Step Content → Sat → ℕ → Sat → Type 0
tried terms step m found m' =
    (found ≡ 0 → (x : Content) × (past : List Entry) × (m' ≡ (with_held (Has step.word x past) m.0, (step.word, x) ∷ m.1))
    × Leads terms step.word (first_at terms step.word) past x × (number_in m.0 < terms.workers)
    × IsNear terms (row_in m.0).entered (row_in m.0).done x
    × IsUpToDate terms step.word (number_in m.0) (row_in m.0).entered (row_in m.0).done x)
    × (found ≢ 0 → (found ≢ suc (number_in m.0)) × (m' ≡ (with_loss step.word found m.0, m.1)))

-- the entry is of this draft, at the place of the word that is read, by the seat's worker, from the content that it holds
pub record IsDrafted (terms : Terms) (draft : Draft) (place : ℕ) (view : View) (entry : Entry) : Type 0 where
  pub place_is : entry.place ≡ place
  pub worker_is : entry.worker ≡ number_in view
  pub before_is : entry.before ≡ content_of (held_in view)
  pub clock_is : entry.clock ≡ draft.clock
  pub request_is : entry.request ≡ draft.request
  pub after_is : entry.after ≡ draft.after
  pub done : IsDone terms entry

-- an entry joins the worker's list and the history of the place that it holds, which has the entry's content then
abbrev pub noted : Terms → Draft → Step Content → Sat → ℕ → Sat → Type 0
noted terms draft step m found m' = (entry : Entry) × IsDrafted terms draft step.word m.0 entry × (m' ≡ (with_entry entry m.0, m.1))

-- the word is freed, the content is at home again, and the epoch of its element is noted
abbrev pub freed : Step Content → Sat → ℕ → Sat → Type 0
freed step m found m' = m' ≡ (with_given m.0, [])

-- ---- the kinds of step at the other words

-- it is noted with how many epochs a worker is through
abbrev pub looked : Terms → Step Content → Sat → ℕ → Sat → Type 0
looked terms step m found m' = m' ≡ (with_seen (step.word - done_at terms 0) found m.0, m.1)

-- the worker is through with what it entered
abbrev pub finished : Step Content → Sat → ℕ → Sat → Type 0
finished step m found m' = m' ≡ (with_row row_with_done m.0, m.1)

-- one epoch more may be entered
abbrev pub raised : Step Content → Sat → ℕ → Sat → Type 0
raised step m found m' = m' ≡ m

-- What may be entered is found: at most one epoch more than the worker entered, and then it enters that. The element of what it
-- holds is of none behind.
abbrev pub entered : Terms → Step Content → Sat → ℕ → Sat → Type 0
entered terms step m found m' =
    (found ≤ terms.more)
    × Waits (λ epoch. epoch ≤ first_epoch terms + found) (shown_content (content_of (held_in m.0)))
    × (found ≤ (row_in m.0).entered → m' ≡ m)
    × ((row_in m.0).entered < found → (found ≡ suc (row_in m.0).entered) × (first_epoch terms + found ≤ last_epoch)
    × (m' ≡ (with_row row_with_epoch m.0, m.1)))

-- the worker stopped, and tells it
abbrev pub stopped : Stop → Step Content → Sat → ℕ → Sat → Type 0
stopped stop step m found m' = m' ≡ (with_row (row_with_stop stop) m.0, m.1)

-- where the word of stops is not 0, it is noted that a worker stopped
abbrev pub warned : Step Content → Sat → ℕ → Sat → Type 0
warned step m found m' = (found ≡ 0 → m' ≡ m) × (found ≢ 0 → m' ≡ (with_row row_with_warning m.0, m.1))

-- ---- rows that are dealt and gathered

abbrev pub rack : ℕ → List Row → View
rack from rows = Keeping (record { from = from; rows = rows })

-- a worker before its first try
abbrev pub new_desk : ℕ → Row → Desk
new_desk number row = record { number = number; held = Idle; row = row; losses = []; left = []; seen = [] }

abbrev pub without_first : ℕ → List Row → View
without_first from [] = rack from []
without_first from (row ∷ rows) = rack (suc from) rows

abbrev pub first_desk : ℕ → List Row → View
first_desk from [] = Spent
first_desk from (row ∷ rows) = Working (new_desk from row)

-- the first row is dealt
abbrev pub kept_row : View → View
kept_row (Keeping rack') = without_first rack'.from rack'.rows
kept_row (Working desk) = Working desk
kept_row Spent = Spent

abbrev pub dealt_row : View → View
dealt_row (Keeping rack') = first_desk rack'.from rack'.rows
dealt_row (Working desk) = Spent
dealt_row Spent = Spent

-- a seat with no row comes
abbrev pub came : Terms → Step Content → Sat → ℕ → Sat → Type 0
came terms step m found m' = m' ≡ (rack terms.workers [], [])

-- a worker's row is gathered
abbrev pub gathered : View → View → View
gathered (Keeping rack') (Working desk) = rack desk.number (desk.row ∷ rack'.rows)
gathered v w = v

-- ---- what stands where nothing is picked

abbrev pub no_terms : Terms
no_terms = record { digest = λ text. []; header = header_by_path 0 0 0 0; workers = 0; absent = false; more = 0; contents = [] }

abbrev pub no_clock : Reading
no_clock = record { first = 0; end = 0; at = record { epoch = 0; counter = 0 } }

abbrev pub no_draft : Draft
no_draft = record { clock = no_clock; request = None; after = Vacant }

abbrev pub no_stop : Stop
no_stop = record { clock = no_clock; met = None }

-- the rows that a view keeps
abbrev pub rows_in : View → List Row
rows_in (Keeping rack') = rack'.rows
rows_in (Working desk) = []
rows_in Spent = []

-- What a worker's hand shows.
use Rattle.std.specs.Prelude.{◌≡◌, ℕ, ◌+◌, ◌<◌, List, [], ◌∷◌, Option, Bool}
use Rattle.atomic_table.specs.Seated.{TableId}
use Rattle.host_shard.specs.declared.content.Content.{Content}
use Rattle.host_shard.specs.declared.content.Content.TheVariants.{Vacant}
use Rattle.host_epochs.specs.declared.told.Entry.{Entry}
use Rattle.host_epochs.specs.declared.told.Loss.{Loss}
use Rattle.host_epochs.specs.declared.told.Reached.{Reached}
use Rattle.host_epochs.specs.declared.told.Stop.{Stop}
use Rattle.host_epochs.specs.declared.hand.Hand.{Hand}
use Rattle.host_epochs.specs.declared.views.Desk.{Desk}
use Rattle.host_epochs.specs.declared.views.Held.{Held}
use Rattle.host_epochs.specs.declared.views.Held.TheVariants.{Idle, Has}
use Rattle.host_epochs.specs.declared.views.Row.{Row}
use Rattle.host_epochs.specs.declared.views.View.{View}
use Rattle.host_epochs.specs.declared.views.View.TheVariants.{Working, Keeping, Spent}
use Rattle.host_epochs.specs.Plays.{held_in, place_of, content_of, past_of, row_in}

abbrev pub losses_in : View → List Loss
losses_in (Working desk) = desk.losses
losses_in (Keeping rack) = []
losses_in Spent = []

abbrev pub left_in : View → List Reached
left_in (Working desk) = desk.left
left_in (Keeping rack) = []
left_in Spent = []

abbrev pub seen_in : View → List Reached
seen_in (Working desk) = desk.seen
seen_in (Keeping rack) = []
seen_in Spent = []

-- its number
abbrev pub worker_of : Hand → ℕ
worker_of hand = hand.number

-- what it tells
abbrev pub row_of : Hand → Row
row_of hand = row_in hand.seat.me.0

-- what it did, in order
abbrev pub entries : Hand → List Entry
entries hand = (row_of hand).list

-- where it stopped
abbrev pub stop : Hand → Option Stop
stop hand = (row_of hand).stop

-- how many epochs it entered
abbrev pub entered : Hand → ℕ
entered hand = (row_of hand).entered

-- with how many it is through
abbrev pub done : Hand → ℕ
done hand = (row_of hand).done

-- whether it read that a worker stopped
abbrev pub warned : Hand → Bool
warned hand = (row_of hand).warned

-- what it found held
abbrev pub losses : Hand → List Loss
losses hand = losses_in hand.seat.me.0

-- with which epochs it gave places back
abbrev pub left : Hand → List Reached
left hand = left_in hand.seat.me.0

-- how far it found workers to be
abbrev pub seen : Hand → List Reached
seen hand = seen_in hand.seat.me.0

-- what it holds
abbrev pub held : Hand → Held
held hand = held_in hand.seat.me.0

-- the place that it holds
abbrev pub place : Hand → ℕ
place hand = place_of (held hand)

-- the content that it took
abbrev pub content : Hand → Content
content hand = content_of (held hand)

-- the history that this place had when it took it, and what it did there since
abbrev pub history : Hand → List Entry
history hand = past_of (held hand)

-- all that its view says, where it holds this
abbrev pub desk_with : Hand → Held → Desk
desk_with hand has = record { number = hand.number; held = has; row = row_of hand; losses = losses hand; left = left hand; seen = seen hand }

-- It sits at the table, with this in hand, and these cells out. It knows how many epochs it entered, and the table has a word
-- for it.
pub record Sits (table : TableId) (hand : Hand) (has : Held) (out : List (ℕ × Content)) : Type 0 where
  pub at : hand.seat.table_id ≡ table
  pub me : hand.seat.me ≡ (Working (desk_with hand has), out)
  pub counted : hand.entered ≡ entered hand
  pub word : 2 + (table.slots + hand.number) < table.words

-- it holds nothing
abbrev pub IsFree : TableId → Hand → Type 0
IsFree table hand = Sits table hand Idle []

-- it holds this place
abbrev pub Holds : TableId → Hand → ℕ → Type 0
Holds table hand place = Sits table hand (Has place (content hand) (history hand)) ((place, Vacant) ∷ [])

-- the same, with the content still in its cell
abbrev pub HoldsContent : TableId → Hand → ℕ → Type 0
HoldsContent table hand place = Sits table hand (Has place (content hand) (history hand)) ((place, content hand) ∷ [])

-- it sits at the table, whatever it holds
pub record IsSeated (table : TableId) (hand : Hand) : Type 0 where
  pub has : Held
  pub out : List (ℕ × Content)
  pub sits : Sits table hand has out

-- it sits there with what it had
abbrev pub KeepsSeat : TableId → Hand → Hand → Type 0
KeepsSeat table old new = (has : Held) (out : List (ℕ × Content)) → Sits table old has out → Sits table new has out

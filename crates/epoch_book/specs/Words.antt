-- What holds of the words of a book between any two steps, and what each step does to the account of the ticket with which it
-- is made.
use Rattle.std.specs.Prelude.{◌≡◌, ℕ, ◌+◌, ◌-◌, ◌*◌, ◌^◌, ◌≤◌, List, [], ◌∷◌, ◌++◌, length, slice_index, sum_by}
use mathlib.Core.Option.{some}
use lib.ListN.{get_elem?}
use Rattle.atomic_table.specs.Table.{State, Me, Step}
use Rattle.epoch_book.specs.declared.rule.Account.{Account}

abbrev pub account_of : ℕ → List (List ℕ) → Account
account_of passes rows = record { passes = passes; rows = rows }

-- what rows have added to a word
abbrev pub column : ℕ → List (List ℕ) → ℕ
column word rows = sum_by (λ row. slice_index row word) rows

-- Each word is the sum of what all passes have added to it, each its row's number for that word, if the row is so long. There
-- are as many passes as verifiers, at most 64, and none adds more than 2^57 to a word, so that no word wraps.
pub record IsKept (verifiers : ℕ) (s : State (Unit {0}) Account) : Type 0 where
  pub few : verifiers ≤ 64
  pub words : length s.words ≡ 18
  pub passes : sum_by (λ account. account.passes) s.views ≡ verifiers
  pub bounded : (ticket : ℕ) (account : Account) → get_elem? s.views ticket ≡ some account → (word : ℕ) → column word account.rows ≤ account.passes * 2 ^ 57
  pub sums : (word : ℕ) → slice_index s.words word ≡ sum_by (λ account. column word account.rows) s.views

-- the first ticket stands for all passes, before they are dealt
abbrev pub opened : ℕ → Account
opened verifiers = account_of verifiers []

-- a pass is dealt: the ticket that deals it stands for one less
abbrev pub dealt_from : Account → Account
dealt_from account = account_of (account.passes - 1) account.rows

-- and a new ticket stands for it, which has added nothing
abbrev pub dealt : Account
dealt = account_of 1 ([] ∷ [])

-- a number behind the first row
abbrev pub longer : ℕ → List (List ℕ) → List (List ℕ)
longer number [] = []
longer number (row ∷ rows) = (row ++ number ∷ []) ∷ rows

-- a number is added: it stands behind those that the pass has added before
abbrev pub Added : Step (Unit {0}) → Me (Unit {0}) Account → ℕ → Me (Unit {0}) Account → Type 0
Added step before found now = now ≡ (account_of before.0.passes (longer step.first before.0.rows), before.1)

-- a ticket stands for the passes of another too, whose rows come first
abbrev pub gathered : Account → Account → Account
gathered account other = account_of (account.passes + other.passes) (other.rows ++ account.rows)

-- and the other stands for none
abbrev pub spent : Account
spent = account_of 0 []

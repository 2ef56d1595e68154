-- A table of one place for one worker.
use Rattle.std.specs.Prelude.{◌≡◌, ℕ, ◌≤◌, List, [], ◌∷◌, Some, None}
use Rattle.lamport_clocks.specs.declared.header.Header.{Header}
use Rattle.lamport_clocks.specs.Header.{header_by_path}
use Rattle.lamport_clocks.specs.Reading.{Reading}
use Rattle.record_text.specs.declared.element.Element.{Element}
use Rattle.record_text.specs.Longest.{longest_blob}
use Rattle.atomic_table.specs.Seated.{TableId}
use Rattle.host_shard.specs.declared.content.Content as code
use Rattle.host_shard.specs.Content.{Content, pending}
use Rattle.host_shard.specs.Shown.{shown_content}
use Rattle.host_plan.specs.Plan.{Owns}
use Rattle.host_epochs.specs.declared.hand.Hand.{Hand}
use Rattle.host_table.specs.Hands.{services, stop, IsFree}
use Rattle.host_table.specs.Terms.{Terms, IsClockOf, IsPlaceOf}
use Rattle.host_table.specs.Told.{TakesUp}

-- the numbers of the table's bundle
abbrev pub table_header : Header
table_header = header_by_path 1 128 0 16777215

-- the content waits with an element of epoch 0 that verifier 0 evicted
pub record IsWaiting (content : Content) : Type 0 where
  pub element : Element
  pub is : pending content ≡ Some element
  pub verifier : element.verifier ≡ 0
  pub epoch : element.stamp.epoch ≡ 0
  pub counter : element.stamp.counter ≤ 16777215

-- one content, which waits so and owns key 1
pub record IsStart (contents : List code.Content) : Type 0 where
  pub content : code.Content
  pub is : contents ≡ content ∷ []
  pub waiting : IsWaiting (shown_content content)
  pub owns : Owns longest_blob (shown_content content) 1

-- what an attempt in the place asks of the worker
pub record CanAttempt (terms : Terms) (table : TableId) (hand : Hand) (clock : Reading) (key : ℕ) : Type 0 where
  pub place : IsPlaceOf terms 0 key
  pub free : IsFree table hand
  pub going : stop hand ≡ None
  pub clock_is : IsClockOf terms clock
  pub chained : TakesUp (services hand) clock
